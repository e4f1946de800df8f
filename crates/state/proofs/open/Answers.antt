use Rattle.state.proofs.Laws.{open_room, open_given, open_refused}
use Rattle.value.specs.declared.Value.TheVariants as v
use mathlib.Core.Path.{ap, refl, sym, ◌∙◌}
use Rattle.state.proofs.open.Goals as goal

pub set_slot-requires : goal.set_slot-requires
set_slot-requires c = open_room _ _ (sym (sym c.well_length.ensures ∙ c.if-well_length.true)) c.clear.ensures

pub returns-then-well_length : goal.returns-then-well_length
returns-then-well_length c = open_given _ _ _ _ _ _ _ (sym (sym c.well_length.ensures ∙ c.if-well_length.true)) c.clear.ensures refl (ap v.Node c.bare_node.ensures) c.set_slot.ensures c.fresh.ensures

pub returns : goal.returns
returns c = open_refused _ _ _ (sym (sym c.well_length.ensures ∙ c.if-well_length.false)) refl
