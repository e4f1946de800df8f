use Rattle.key.proofs.Laws.{key_length}
use Rattle.words.proofs.Laws.{splice_four, splice_step, bytes_length}
use lib.ListN.{length-append}
use mathlib.Core.List.{append_assoc}
use mathlib.Core.Path.{◌∙◌}
use native.Mathlib.Omega.{arith}
use borrow.Author.Rules.{rules}
use Rattle.writer.proofs.write_add_deferred.Goals as goal

pub returns : goal.returns
returns c = splice_step _ _ _ _ 52 _ _ (splice_four _ _ _ _ _ _ 2 10 18 _ _ _ _ (rw c.from.ensures at c.put_number.ensures) c.put_number-2.ensures c.put_number-3.ensures c.write.ensures (bytes_length 2 _) (omega (arith, bytes_length 8 c.args.epoch.0)) (omega (arith, bytes_length 8 c.args.time.0)) (search rules)) c.write_value.ensures.0 (simp (length-append, bytes_length, key_length)) (search rules) ∙ simp append_assoc
