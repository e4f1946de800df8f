use Rattle.hash.specs.Hashes.{set_bytes}
use Rattle.words.proofs.Laws.{splice_step, two_length}
use Rattle.std.proofs.Common.{rules}
use Rattle.flat.specs.Flats.{front_bytes}
use Rattle.flat.proofs.put_front.Goals as goal

pub returns : goal.returns
unfolding front_bytes set_bytes
returns c = splice_step _ _ _ 0 16 _ _ c.put_two.ensures c.put_two-2.ensures (two_length _ _) (search rules)
