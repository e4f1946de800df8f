use Rattle.text.proofs.Laws.{tail_is, stored_as, fits_as}
use Rattle.text.proofs.put_decimal.Goals as goal

pub put_bytes-requires : goal.put_bytes-requires
put_bytes-requires c = fits_as _ _ _ _ (tail_is c.spell-s.new.d _ c.spell-s.result c.spell-s.array_long c.spell-s.ensures.1) c.requires

pub returns : goal.returns
returns c = stored_as _ _ _ _ _ _ (tail_is c.spell-s.new.d _ c.spell-s.result c.spell-s.array_long c.spell-s.ensures.1) c.put_bytes.ensures
