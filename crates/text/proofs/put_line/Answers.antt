use Rattle.text.proofs.Laws.{stored_four, line_length}
use Rattle.std.proofs.Common.{ap, length, ℕ}
use Rattle.text.specs.Text.{field, line_text, space}
use native.Mathlib.Omega.{arith}
use Rattle.text.proofs.put_line.Goals as goal

pub put_field-a-requires : goal.put_field-a-requires
put_field-a-requires c = omega (arith, line_length c.args.n c.args.tag c.args.verdict c.args.epoch, c.requires)

pub put_field-b-requires : goal.put_field-b-requires
put_field-b-requires c = omega (arith, line_length c.args.n c.args.tag c.args.verdict c.args.epoch, c.requires, c.put_field-a.ensures.0, c.put_field-a.auto, ap (λ (k : ℕ). length (field k space)) c.from.ensures)

pub put_field-c-requires : goal.put_field-c-requires
put_field-c-requires c = omega (arith, line_length c.args.n c.args.tag c.args.verdict c.args.epoch, c.requires, c.put_field-a.ensures.0, c.put_field-a.auto, c.put_field-b.ensures.0, c.put_field-b.auto, ap (λ (k : ℕ). length (field k space)) c.from.ensures, ap (λ (k : ℕ). length (field k space)) c.from-2.ensures)

pub put_field-requires : goal.put_field-requires
put_field-requires c = omega (arith, line_length c.args.n c.args.tag c.args.verdict c.args.epoch, c.requires, c.put_field-a.ensures.0, c.put_field-a.auto, c.put_field-b.ensures.0, c.put_field-b.auto, c.put_field-c.ensures.0, c.put_field-c.auto, ap (λ (k : ℕ). length (field k space)) c.from.ensures, ap (λ (k : ℕ). length (field k space)) c.from-2.ensures)

pub returns : goal.returns
unfolding line_text
returns c = stored_four _ _ _ _ _ _ _ _ _ _ _ _ _ _ (omega (arith, line_length c.args.n c.args.tag c.args.verdict c.args.epoch, c.requires)) c.put_field-a.ensures (rw c.from.ensures at c.put_field-b.ensures) (rw c.from-2.ensures at c.put_field-c.ensures) c.put_field.ensures
