use Rattle.std.proofs.Common.{ℕ, ◌∙◌, ap, get_or}
use Rattle.sbox.specs.Vectors.{figure}
use Rattle.sbox.proofs.Laws.{sub_figure}
use Rattle.sbox.proofs.sub_at.Goals as goal

pub returns : goal.returns
unfolding figure
returns c = c.from-2.ensures ∙ ap (λ (i : ℕ). get_or figure i 0) c.from.ensures ∙ sub_figure c.args.b
