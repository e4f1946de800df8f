use mathlib.Core.Path.{refl}
use Rattle.hash.proofs.Laws.{set_written}
use Rattle.hash.proofs.set_bytes.Goals as goal

pub returns : goal.returns
returns c = set_written _ _ _ _ refl c.put_number.ensures c.put_number-2.ensures
