use Rattle.cache.proofs.Laws.{other_word}
use Rattle.std.proofs.Common.{◌∙◌}
use borrow.Author.Tests.{ne_eqb}
use Rattle.cache.proofs.holds.Goals as goal

pub returns-else-read_number-k : goal.returns-else-read_number-k
returns-else-read_number-k c = rw (ne_eqb _ _ c.if-read_number-k.false) (other_word c.args.p.now c.args.k (λ e. c.if-read_number-k.false (c.read_number.ensures.value ∙ e)))
