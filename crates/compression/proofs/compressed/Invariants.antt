use Rattle.std.proofs.Common.{◌≡◌, ◌+◌, ◌-◌, ◌%◌, ◌≤◌, length, take}
use Rattle.compression.proofs.Laws.{known}
use Rattle.compression.specs.Compression.{words, schedule, rounds}
use Rattle.compression.proofs.compressed.Given as goal

abbrev pub invariant-loop-i : goal.invariant-loop-i
invariant-loop-i l =
    (l.i ≤ 64) × (l.i % 4 ≡ 0) × (length l.w ≡ 64) × (take (16 + known l.i) l.w ≡ schedule (words l.b 16) (known l.i)) × (l.t ≡ rounds (schedule (words l.b 16) 48) l.s l.i)

abbrev pub decreases-loop-i : goal.decreases-loop-i
decreases-loop-i l = 64 - l.i
