use Rattle.std.proofs.Common.{refl}
use Rattle.words.proofs.Laws.{back_as}
use Rattle.words.proofs.put_bytes.Goals as goal

pub returns : goal.returns
returns c = (refl, back_as _ _ _ c.args.at _ c.copy_from_slice.ensures.after refl)
