use Rattle.words.proofs.Laws.{splice_three}
use Rattle.value.proofs.Laws.{node_length}
use native.Mathlib.Nat.{add_assoc}
use Prim.Native.Nat.{◌+◌}
use native.Mathlib.Omega.{arith}
use mathlib.Core.Path.{refl}
use Rattle.value.specs.Values.{node_bytes}
use Rattle.value.proofs.write_node.Goals as goal

pub returns : goal.returns
unfolding node_bytes
returns c = (splice_three _ _ _ _ _ 1 (1 + c.write_side-a.result) _ _ _ c.put_u8.ensures c.write_side-a.ensures.0 (rw add_assoc at c.write_side-b.ensures.0) refl (omega (arith, c.write_side-a.ensures.1)) (omega (arith, node_length c.args.l c.args.r)), omega (arith, node_length c.args.l c.args.r, c.write_side-a.ensures.1, c.write_side-b.ensures.1))
