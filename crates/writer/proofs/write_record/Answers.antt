use Rattle.key.proofs.Laws.{data_length}
use Rattle.words.proofs.Laws.{splice_three, bytes_length}
use native.Mathlib.Omega.{arith}
use borrow.Author.Rules.{rules}
use Rattle.writer.proofs.write_record.Goals as goal

pub returns : goal.returns
returns c = splice_three _ _ _ _ _ 2 34 _ _ _ (rw c.from.ensures at c.put_number.ensures) c.write_data.ensures c.write_value.ensures.0 (bytes_length 2 _) (omega (arith, data_length c.args.k)) (search rules)
