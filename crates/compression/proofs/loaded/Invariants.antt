use Rattle.compression.specs.Compression.{words}
use Rattle.std.proofs.Common.{◌≡◌, length, take}
use Rattle.compression.proofs.loaded.Given as goal

abbrev pub invariant-loop-i : goal.invariant-loop-i
invariant-loop-i l = (length l.w ≡ 64) × (take l.i l.w ≡ words l.b l.i)
