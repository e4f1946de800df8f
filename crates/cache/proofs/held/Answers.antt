use Rattle.std.proofs.Common.{rules, tests, ◌∙◌}
use Rattle.std.proofs.lemmas.Iterator.Search.{any_from_yields_List}
use Rattle.slot.specs.Slots.{slot_at}
use Rattle.cache.specs.Caches.{slot_has}
use Rattle.cache.proofs.Chunks.{slots_chunks, held_any}
use Rattle.cache.proofs.held.Goals as goal

pub returns : goal.returns
returns c =
    any_from_yields_List (λ p. slot_has (slot_at p) c.args.k) _ _ _ c.any.ensures.ran (slots_chunks c.chunks_exact.result c.chunks_exact.ensures.size) (λ x b q k. search (rules, tests))
    ∙ rw c.chunks_exact.ensures.rest (held_any c.args.cache.now c.args.k)
