use Rattle.std.proofs.Common.{◌∙◌}
use Rattle.aes.proofs.Laws.{rotated_is, next_sub, next_plain}
use Rattle.aes.proofs.next_word.Goals as goal

pub returns-then-j-eq0 : goal.returns-then-j-eq0
returns-then-j-eq0 c = next_sub c.args.u c.args.v c.args.j _ _ _ c.if-j-eq0.true (c.rotate_left-w.ensures ∙ rotated_is c.args.v c.ranges.v.fits) c.substituted.ensures c.round_constant.ensures

pub returns-else-j-eq0 : goal.returns-else-j-eq0
returns-else-j-eq0 c = next_plain c.args.u c.args.v c.args.j c.if-j-eq0.false
