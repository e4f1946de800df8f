use Rattle.text.proofs.Laws.{line_fits}
use native.Mathlib.Omega.{arith}
use Rattle.listing.proofs.put_row.Goals as goal

pub put_line-requires : goal.put_line-requires
put_line-requires c = omega (arith, (line_fits 4 2 9 19 c.args.n c.args.tag c.args.verdict c.args.epoch (omega (arith, c.requires.0)) (omega (arith, c.ranges.tag.fits)) (omega (arith, c.ranges.verdict.fits)) (omega (arith, c.ranges.epoch.fits))), c.requires.1)

pub returns : goal.returns
returns c = (c.put_line.ensures.0, c.put_line.ensures.1, (line_fits 4 2 9 19 c.args.n c.args.tag c.args.verdict c.args.epoch (omega (arith, c.requires.0)) (omega (arith, c.ranges.tag.fits)) (omega (arith, c.ranges.verdict.fits)) (omega (arith, c.ranges.epoch.fits))))
