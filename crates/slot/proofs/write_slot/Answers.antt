use Rattle.slot.proofs.Laws.{over_zeros}
use Rattle.words.specs.Numbers.{zeros}
use lib.ListN.{length}
use Prim.Native.Nat.{ℕ, ◌+◌}
use Rattle.words.proofs.Laws.{splice_three, zeros_length}
use Rattle.key.proofs.Laws.{key_length}
use native.Mathlib.Omega.{arith}
use mathlib.Core.Path.{◌≡◌, refl, ap, ◌∙◌}
use Rattle.slot.specs.Slots.{slot_bytes}
use Rattle.slot.proofs.write_slot.Goals as goal

pub returns : goal.returns
unfolding slot_bytes
returns c = let e0 = c.clear.ensures ∙ ap zeros c.requires in
    let h : length c.clear.new.p ≡ 192 = ap length e0 ∙ zeros_length 192 in
    over_zeros _ _ _ e0
    (splice_three _ _ _ _ 0 1 35 _ _ _ c.put_u8.ensures c.write.ensures c.write_value.ensures.0 refl (ap (λ (n : ℕ). 1 + n) (key_length _)) (omega arith))
