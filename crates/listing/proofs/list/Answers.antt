use Rattle.listing.proofs.Laws.{listed, four_open, four_sound}
use Rattle.text.proofs.Laws.{stored_step, stored_as}
use mathlib.Core.Path.{refl, ◌∙◌}
use native.Mathlib.Nat.{zero-add}
use Rattle.std.specs.Prelude.{Ok}
use Rattle.state.specs.States.{opened}
use native.Mathlib.Omega.{arith}
use Rattle.listing.proofs.list.Goals as goal

pub unreachable-requires : goal.unreachable-requires
unreachable-requires c = four_open c.args.key.now c.open.new.cache _ c.in_default.field-0 c.in_default.ensures refl

pub rows-requires : goal.rows-requires
rows-requires c = (
  c.requires.0,
  omega (arith, c.requires.1, c.put_slots-at.ensures.0, c.put_slots-at.auto),
  rw c.new.ensures (four_sound c.args.key.now c.open.new.cache _ (opened (Ok c.in-Ok.st)) c.in-Ok.ensures refl),
)

pub returns-clause-text : goal.returns-clause-text
returns-clause-text c =
    let t = stored_as _ _ 0 _ _ _ (listed c.args.key.now c.args.log.now c.open.new.cache _ (opened (Ok c.in-Ok.st)) _ c.new.ensures c.in-Ok.ensures refl) (stored_step _ _ _ 0 _ _ _ _ (omega (arith, c.requires.1)) c.put_slots-at.ensures (c.rows.ensures.0, c.rows.ensures.1)) in
    (t.0 ∙ zero-add _, t.1)
