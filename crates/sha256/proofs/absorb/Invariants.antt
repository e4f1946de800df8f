use Rattle.std.proofs.Common.{◌≡◌, length}
use Rattle.std.specs.Slice.Iter.{chunks_exact_rest, chunks_exact_size}
use Rattle.sha256.proofs.Laws.{Absorbed}
use Rattle.sha256.proofs.absorb.Given as goal

abbrev pub invariant-loop-b : goal.invariant-loop-b
invariant-loop-b l = (chunks_exact_size l.b-iterator ≡ 64) × Absorbed l.m (chunks_exact_rest l.b-iterator) l.s (length l.yielded)
