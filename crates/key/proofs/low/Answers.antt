use Rattle.key.proofs.Laws.{one_shl}
use lib.Bits.{and_mask}
use Rattle.key.proofs.low.Goals as goal

pub returns : goal.returns
returns c = rw (one_shl _ c.requires) (and_mask _ _)
