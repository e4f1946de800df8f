use Rattle.text.proofs.Laws.{end_fits}
use native.Mathlib.Omega.{arith}
use Rattle.listing.proofs.put_last.Goals as goal

pub put_end-requires : goal.put_end-requires
put_end-requires c = omega (arith, (end_fits 19 4 c.args.settled c.args.used (omega (arith, c.ranges.settled.fits)) (omega (arith, c.requires.0))), c.requires.1)

pub returns : goal.returns
returns c = (c.put_end.ensures.0, c.put_end.ensures.1, omega (arith, c.put_end.ensures.0, (end_fits 19 4 c.args.settled c.args.used (omega (arith, c.ranges.settled.fits)) (omega (arith, c.requires.0))), c.requires.1))
