use Rattle.run.proofs.Laws.{between_there, between_set, between_ok_used, between_err_used, between_ok, between_err, between_stop}
use Rattle.run.proofs.run_well.Goals.{in-Ok, in-Err+else-halts}
use Rattle.rules.specs.declared.Ran.{Ran}
use Rattle.rules.specs.Runs.{running}
use mathlib.Core.Path.{ap, ◌∙◌}
use native.Mathlib.Omega.{arith}
use Rattle.run.proofs.run_well.Goals as goal

pub with-keyed-requires : goal.with-keyed-requires
with-keyed-requires c = between_set c.loop-at.invariant c.loop-at-test.true c.step_well-step.result c.left.ensures c.step_well-step.ensures _ c.in-Ok.is

pub returns-then-halts : goal.returns-then-halts
returns-then-halts c =
    ap (λ (x : Ran). running x c.step_well-step.new.cache) c.ended.ensures
    ∙ between_stop c.loop-at.invariant c.loop-at-test.true c.step_well-step.result c.left.ensures c.step_well-step.ensures _ c.in-Err.is (rw (← c.from.ensures, ← c.halts.ensures) c.if-halts.true)

pub overflow_add-at : goal.overflow_add-at
overflow_add-at c = omega (arith, between_there c.loop-at.invariant c.loop-at-test.true c.step_well-step.result c.left.ensures c.step_well-step.ensures)

pub loop-at-smaller : goal.loop-at-smaller
loop-at-smaller c = elim c.match-step.branch [
  | in-Ok w ↦ omega (arith, between_there c.loop-at.invariant c.loop-at-test.true c.step_well-step.result c.left.ensures c.step_well-step.ensures, between_ok_used c.loop-at.invariant c.loop-at-test.true c.step_well-step.result c.left.ensures c.step_well-step.ensures _ w.in-Ok.is)
  | in-Err+else-halts w ↦ omega (arith, between_there c.loop-at.invariant c.loop-at-test.true c.step_well-step.result c.left.ensures c.step_well-step.ensures, between_err_used c.loop-at.invariant c.loop-at-test.true c.step_well-step.result c.left.ensures c.step_well-step.ensures _ w.in-Err.is (rw (← w.from.ensures, ← w.halts.ensures) w.if-halts.false))
]

pub loop-at-preserved : goal.loop-at-preserved
loop-at-preserved c = elim c.match-step.branch [
  | in-Ok w ↦ rw (w.keyed-is, w.with-keyed.ensures, w.accepted-is) (between_ok c.loop-at.invariant c.loop-at-test.true c.step_well-step.result c.left.ensures c.step_well-step.ensures _ w.in-Ok.is c.step_well-step.auto.cache (λ i. (c.type_inv.cache i).fits))
  | in-Err+else-halts w ↦ rw (w.keyed-is, w.accepted-is) (between_err c.loop-at.invariant c.loop-at-test.true c.step_well-step.result c.left.ensures c.step_well-step.ensures _ w.in-Err.is (rw (← w.from.ensures, ← w.halts.ensures) w.if-halts.false) c.step_well-step.auto.cache (λ i. (c.type_inv.cache i).fits))
]
