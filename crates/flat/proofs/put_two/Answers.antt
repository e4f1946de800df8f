use Rattle.words.proofs.Laws.{splice_step, bytes_length}
use Rattle.std.proofs.Common.{rules}
use Rattle.flat.proofs.put_two.Goals as goal

pub returns : goal.returns
returns c = splice_step _ _ _ _ 8 _ _ c.put_number.ensures c.put_number-2.ensures (bytes_length 8 _) (search rules)
