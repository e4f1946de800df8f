use mathlib.Core.Path.{ap₂, sym, ◌∙◌}
use Rattle.aes.specs.Aes.{block_bytes}
use Rattle.cmac.proofs.Laws.{high_word, low_word}
use Rattle.cmac.proofs.Tags.{tag}
use Rattle.cmac.proofs.TagFromAesBlock.from.Goals as goal

pub returns : goal.returns
unfolding block_bytes
returns c = let j = c.joined.ensures in let k = c.joined-2.ensures in ap₂ tag (j.0 ∙ sym (high_word _ _ _ _ j.1 j.2 k.1 k.2)) (k.0 ∙ sym (low_word _ _ _ _ j.1 j.2 k.1 k.2))
