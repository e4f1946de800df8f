use Rattle.flat.specs.Flats.{old_bytes}
use Rattle.words.proofs.Laws.{splice_step, back_as, zeros_length, part_length}
use Rattle.words.specs.Numbers.{zeros}
use mathlib.Core.List.{[], ◌∷◌}
use Prim.Native.Nat.{◌+◌}
use mathlib.Core.Path.{refl, ap, ◌∙◌}
use borrow.Author.Rules.{rules}
use Rattle.flat.proofs.put_old.Goals as goal

pub returns-in-None : goal.returns-in-None
unfolding old_bytes
returns-in-None c = rw c.in-None.is (splice_step _ _ _ _ 1 (0 ∷ []) _ c.put_u8.ensures (back_as _ _ _ _ 48 (c.clear.ensures ∙ ap zeros (part_length c.put_u8.new.s (c.args.at + 1) 48 (search rules))) (zeros_length 48)) refl (search rules))

pub returns-in-Some : goal.returns-in-Some
unfolding old_bytes
returns-in-Some c = rw c.in-Some.is (splice_step _ _ _ _ 1 (1 ∷ []) _ c.put_u8-in-Some.ensures c.put_tally.ensures refl (search rules))
