use Rattle.std.proofs.Common.{◌∙◌, ◌-◌, arith, length-set}
use Rattle.text.proofs.Laws.{digit_room, digits_turn, digits_last, decimal_starts}
use Rattle.text.proofs.spell.Goals as goal

pub loop-i-init : goal.loop-i-init
loop-i-init c = record { whole = c.told-d; left = omega arith; few = omega arith; text = decimal_starts c.args.d.now _ c.told-d }

pub returns-then-rest-eq0 : goal.returns-then-rest-eq0
returns-then-rest-eq0 c = (
  omega arith,
  digits_last c.loop-i.d c.loop-i.i (c.loop-i.i - 1) c.loop-i.rest _ (omega arith) (omega arith) (omega arith) (omega arith)
      ∙ c.loop-i.invariant.text,
)

pub loop-i-preserved : goal.loop-i-preserved
loop-i-preserved c =
    let room = digit_room c.loop-i.i (c.loop-i.i - 1) c.loop-i.rest (omega arith) (omega arith) c.loop-i.invariant.few in
    record {
      whole = simp length-set c.loop-i.invariant.whole;
      left = omega arith;
      few = room.1;
      text = digits_turn c.loop-i.d c.loop-i.i (c.loop-i.i - 1) c.loop-i.rest _ (omega arith) (omega arith) (omega arith) c.digit.ensures ∙ c.loop-i.invariant.text;
    }
