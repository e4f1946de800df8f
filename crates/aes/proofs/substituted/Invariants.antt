use mathlib.Core.Path.{◌≡◌}
use Rattle.aes.proofs.Laws.{subs}
use Rattle.aes.proofs.substituted.Given as goal

abbrev pub invariant-loop-b : goal.invariant-loop-b
invariant-loop-b l = l.v ≡ subs l.b-items l.b-index
