use Rattle.std.proofs.Common.{◌≡◌, ℕ, ◌+◌, List, length, take, refl, ap, ◌∙◌, arith, rules}
use Rattle.compression.proofs.Laws.{known, turned, extended_known, extended_length, words_length}
use Rattle.compression.specs.Compression.{schedule, rounds, compress}
use Rattle.compression.proofs.compressed.Goals as goal

pub loop-i-init : goal.loop-i-init
unfolding schedule rounds
loop-i-init c = (search rules, refl, search rules, c.loaded-w.ensures, refl)

pub loop-i-preserved : goal.loop-i-preserved
loop-i-preserved c =
    let l = c.loop-i in
    let p = c in
    let x = c.extend.ensures in
    let k = ap (λ (v : List ℕ). take (16 + known (l.i + 4)) v) x ∙ extended_known _ _ l.i l.invariant.2 (search rules) l.invariant.1 l.invariant.3 in
    (search rules, search rules, ap length x ∙ extended_length _ _ ∙ l.invariant.2, k, turned _ _ _ _ _ _ l.i (words_length _ 16) p.requires.0 (search rules) l.invariant.1 k l.invariant.4 c.four-t.ensures)

pub returns : goal.returns
unfolding compress
returns c = let l = c.loop-i in
    let e : l.i ≡ 64 = omega arith in
    cc
