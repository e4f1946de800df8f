use Rattle.aes.specs.Aes.{expansion}
use mathlib.Core.Path.{ap, ◌∙◌}
use Rattle.hash.proofs.expanded.Goals as goal

pub returns : goal.returns
returns c = c.expand.ensures ∙ ap expansion c.set_bytes.ensures
