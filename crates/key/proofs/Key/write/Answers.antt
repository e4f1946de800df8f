use Rattle.key.specs.Keys.{key_bytes, data_bytes}
use Rattle.words.proofs.Laws.{splice_step, bytes_length}
use Rattle.std.proofs.Common.{rules}
use Rattle.key.proofs.Key.write.Goals as goal

pub returns : goal.returns
unfolding key_bytes data_bytes
returns c = rw c.from.ensures at (splice_step _ _ _ _ 2 _ _ c.put_number.ensures c.write_data.ensures (bytes_length 2 _) (search rules))
