use Rattle.words.proofs.Laws.{splice_step, bytes_length}
use borrow.Author.Rules.{rules}
use Rattle.writer.proofs.write_absent.Goals as goal

pub returns : goal.returns
returns c = splice_step _ _ _ _ 2 _ _ (rw c.from.ensures at c.put_number.ensures) c.write_data.ensures (bytes_length 2 _) (search rules)
