use mathlib.Core.Path.{◌≡◌}
use Rattle.aes.specs.Aes.{key_words}
use Rattle.mac.specs.Cmac.{chain}
use Rattle.mac.proofs.chained.Given as goal

abbrev pub invariant-loop-i : goal.invariant-loop-i
invariant-loop-i l = l.x ≡ chain (key_words l.k) l.m l.i
