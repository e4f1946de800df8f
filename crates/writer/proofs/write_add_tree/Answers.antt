use Rattle.key.proofs.Laws.{key_length}
use Rattle.words.proofs.Laws.{splice_four, bytes_length}
use native.Mathlib.Omega.{arith}
use borrow.Author.Rules.{rules}
use Rattle.writer.proofs.write_add_tree.Goals as goal

pub returns : goal.returns
returns c = splice_four _ _ _ _ _ _ 2 4 38 _ _ _ _ (rw c.from.ensures at c.put_number.ensures) (rw c.from-2.ensures at c.put_number-2.ensures) c.write.ensures c.write_value.ensures.0 (bytes_length 2 _) (omega (arith, bytes_length 2 c.args.p)) (omega (arith, key_length c.args.k)) (search rules)
