use mathlib.Core.Path.{refl}
use Rattle.text.proofs.Laws.{stored_step, field_length}
use Rattle.text.specs.Text.{field}
use native.Mathlib.Omega.{arith}
use Rattle.text.proofs.put_field.Goals as goal

pub put_decimal-next-requires : goal.put_decimal-next-requires
put_decimal-next-requires c = omega (arith, field_length c.args.n c.args.end)

pub put_u8-requires : goal.put_u8-requires
put_u8-requires c = omega (arith, field_length c.args.n c.args.end, c.put_decimal-next.auto, c.put_decimal-next.ensures.0, c.requires)

pub overflow_add-result : goal.overflow_add-result
overflow_add-result c = omega (arith, field_length c.args.n c.args.end, c.put_decimal-next.auto, c.put_decimal-next.ensures.0, c.requires)

pub returns : goal.returns
unfolding field
returns c = stored_step _ _ _ _ _ _ _ _ (omega (arith, field_length c.args.n c.args.end, c.requires)) c.put_decimal-next.ensures (refl, c.put_u8.ensures)
