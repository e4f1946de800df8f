use Rattle.words.proofs.Laws.{splice_four, bytes_length, two_length}
use Rattle.std.proofs.Common.{rules}
use Rattle.flat.specs.Flats.{tally_bytes, tag_bytes}
use Rattle.flat.proofs.put_tally.Goals as goal

pub returns : goal.returns
unfolding tally_bytes tag_bytes
returns c = splice_four _ _ _ _ _ _ 8 16 32 _ _ _ _ c.put_number.ensures c.put_number-2.ensures c.put_two.ensures c.put_two-2.ensures (bytes_length 8 _) (simp bytes_length) (simp two_length) (search rules)
