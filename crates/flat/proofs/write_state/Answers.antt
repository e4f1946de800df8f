use Rattle.flat.proofs.Laws.{front_length, tally_length, state_length_lem}
use Rattle.flat.specs.Flats.{state_bytes}
use Rattle.words.proofs.Laws.{splice_all, splice_three}
use mathlib.Core.Path.{◌∙◌, sym}
use borrow.Author.Rules.{rules}
use Rattle.flat.proofs.write_state.Goals as goal

pub returns : goal.returns
unfolding state_bytes
returns c = splice_three _ _ _ _ 0 32 80 _ _ _ c.put_front.ensures c.put_tally.ensures c.put_old.ensures (front_length _) (simp tally_length) (search rules) ∙ splice_all _ _ (state_length_lem _ ∙ sym c.requires)
