use Rattle.std.proofs.Common.{rules, tests, ◌∙◌, refl}
use native.Mathlib.Nat.{sub-zero}
use Rattle.std.proofs.lemmas.Iterator.{YieldsList-from_range}
use Rattle.std.proofs.lemmas.Iterator.Search.{all_from_yields_List}
use Rattle.cache.specs.Caches.{well_at, count}
use Rattle.cache.proofs.Chunks.{well_all}
use Rattle.cache.proofs.well_cache.Goals as goal

pub returns : goal.returns
returns c =
    all_from_yields_List (λ j. well_at c.args.cache.now j) _ _ _ c.all.ensures.ran (YieldsList-from_range 0 (count c.args.cache.now) _ refl (sub-zero _)) (λ x b q k. search (rules, tests))
    ∙ well_all c.args.cache.now
