use Rattle.std.proofs.Common.{ℕ, ◌∙◌, ap, get_or, map}
use Rattle.sbox.specs.Field.{xtime}
use Rattle.sbox.specs.Columns.{spread}
use Rattle.sbox.specs.Vectors.{figure}
use Rattle.sbox.proofs.Laws.{spread_figure}
use Rattle.sbox.proofs.spread_at.Goals as goal

pub returns : goal.returns
unfolding figure spread xtime
returns c = ap (λ (i : ℕ). get_or (map spread figure) i 0) c.from.ensures ∙ spread_figure c.args.b c.ranges.b.fits
