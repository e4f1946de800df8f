use mathlib.Core.Path.{◌≡◌, sym, ◌∙◌}
use native.Mathlib.Omega.{arith}
use borrow.Author.Rules.{rules}
use lib.Seq.{take_all}
use Rattle.aes.specs.Aes.{schedule, expansion}
use Rattle.aes.proofs.Laws.{next_window, window_more, schedule_none, schedule_more}
use Rattle.aes.proofs.expand.Goals as goal

pub loop-j-init : goal.loop-j-init
unfolding schedule
loop-j-init c = (search rules, schedule_none _ _ _ (search rules) c.put_bytes.ensures.1, c.block_at-s.ensures)

pub loop-j-preserved : goal.loop-j-preserved
loop-j-preserved c = let l = c.loop-j in let e = next_window _ l.s l.j _ l.invariant.2 c.next_word-w.ensures in (search rules, schedule_more _ l.b _ l.j _ (search rules) l.invariant.1 e (rw c.from.ensures at c.put_number.ensures), window_more _ l.s _ l.j _ (search rules) (search rules) l.invariant.2 e c.pushed-s.ensures)

pub returns : goal.returns
unfolding expansion
returns c = let l = c.loop-j in let e : l.j ≡ 40 = omega arith in sym (take_all 176 l.b (search rules)) ∙ rw e at l.invariant.1
