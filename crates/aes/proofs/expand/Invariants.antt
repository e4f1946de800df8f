use mathlib.Core.Path.{◌≡◌}
use Prim.Native.Nat.{◌+◌, ◌*◌}
use lib.ListN.{length, take}
use Rattle.aes.specs.Aes.{schedule}
use Rattle.aes.proofs.Laws.{window}
use Rattle.aes.proofs.expand.Given as goal

abbrev pub invariant-loop-j : goal.invariant-loop-j
invariant-loop-j l = (length l.b ≡ 176) × (take (16 + 4 * l.j) l.b ≡ schedule l.key l.j) × (l.s ≡ window (schedule l.key l.j) l.j)
