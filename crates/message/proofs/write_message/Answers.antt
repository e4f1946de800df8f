use Rattle.message.proofs.Laws.{message_length}
use Rattle.key.proofs.Laws.{key_length}
use Rattle.words.proofs.Laws.{splice_four, bytes_length}
use Rattle.std.proofs.Common.{arith}
use Rattle.message.specs.Messages.{message_bytes}
use Rattle.message.proofs.write_message.Goals as goal

pub returns : goal.returns
unfolding message_bytes
returns c = (splice_four _ _ _ _ _ 0 8 16 50 _ _ _ _ c.put_number.ensures c.put_number-2.ensures c.write.ensures c.write_value.ensures.0 (bytes_length 8 _) (simp bytes_length) (simp key_length) (omega (arith, message_length c.args.m)), omega (arith, message_length c.args.m, c.write_value.ensures.1))
