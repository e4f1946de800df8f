use Rattle.text.proofs.Laws.{stored_four, end_length}
use Rattle.text.specs.Text.{end_text}
use native.Mathlib.Omega.{arith}
use Rattle.text.proofs.put_end.Goals as goal

pub put_bytes-a-requires : goal.put_bytes-a-requires
put_bytes-a-requires c = omega (arith, end_length c.args.settled c.args.used, c.requires)

pub put_field-b-requires : goal.put_field-b-requires
put_field-b-requires c = omega (arith, end_length c.args.settled c.args.used, c.requires, c.put_bytes-a.ensures.0, c.put_bytes-a.auto.out)

pub put_bytes-c-requires : goal.put_bytes-c-requires
put_bytes-c-requires c = omega (arith, end_length c.args.settled c.args.used, c.requires, c.put_bytes-a.ensures.0, c.put_bytes-a.auto.out, c.put_field-b.ensures.0, c.put_field-b.auto)

pub put_field-requires : goal.put_field-requires
put_field-requires c = omega (arith, end_length c.args.settled c.args.used, c.requires, c.put_bytes-a.ensures.0, c.put_bytes-a.auto.out, c.put_field-b.ensures.0, c.put_field-b.auto, c.put_bytes-c.ensures.0, c.put_bytes-c.auto.out)

pub returns : goal.returns
unfolding end_text
returns c = stored_four _ _ _ _ _ _ _ _ _ _ _ _ _ _ (omega (arith, end_length c.args.settled c.args.used, c.requires)) c.put_bytes-a.ensures c.put_field-b.ensures c.put_bytes-c.ensures c.put_field.ensures
