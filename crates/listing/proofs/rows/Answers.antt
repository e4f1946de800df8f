use Rattle.listing.proofs.Laws.{left_over, row_on, row_stop}
use Rattle.text.proofs.Laws.{stored_as}
use Rattle.text.specs.Text.{end_text}
use Rattle.step.specs.Progress.{progress}
use Rattle.state.specs.declared.State.{State}
use Rattle.run.proofs.Laws.{going_state, turn_step, turn_there, turn_goes, turn_going}
use mathlib.Core.Path.{sym, ap, ◌∙◌}
use Prim.Native.Nat.{ℕ}
use native.Mathlib.Omega.{arith}
use Rattle.listing.proofs.rows.Goals as goal

pub step_well-step-requires : goal.step_well-step-requires
step_well-step-requires c = going_state _ _ _ c.loop-place.invariant.going

pub with-keyed-requires : goal.with-keyed-requires
with-keyed-requires c =
    let w = c.loop-place.invariant.going in
    ap (λ (s : State). s.set) c.state.ensures
    ∙ (turn_going c.args.log.now c.loop-place.place _ _ _ w (progress c.step_well-step.result c.loop-place.keyed.state) _ _ c.left.ensures c.step_well-step.ensures (λ i. (c.type_inv.log i).fits) c.loop-place.invariant.bytes).set
    ∙ sym w.set

pub returns-then-halts : goal.returns-then-halts
returns-then-halts c =
    let r = progress c.step_well-step.result c.loop-place.keyed.state in
    let e = turn_step c.args.log.now c.loop-place.place _ _ _ c.loop-place.invariant.going r _ _ c.left.ensures c.step_well-step.ensures in
    let t = row_stop c.args.log.now _ _ c.loop-place.place c.loop-place.n c.loop-place.keyed.state c.loop-place.cache c.loop-place.end c.loop-place.out c.loop-place.invariant.left r _ e c.loop-place-test.true (omega arith) _ _ (c.verdict-verdict.ensures c.loop-place.keyed.state) (c.with-keyed.ensures ∙ c.state.ensures) _ _ (omega arith) (c.put_row-end.ensures.0, c.put_row-end.ensures.1) (sym c.halts.ensures ∙ c.if-halts.true) _ _ (stored_as _ _ _ _ _ _ (ap (λ (k : ℕ). end_text k c.loop-place.place) c.settled.ensures) (c.put_last.ensures.0, c.put_last.ensures.1)) in
    (t.0, t.1, omega arith)

pub overflow_add-place : goal.overflow_add-place
overflow_add-place c =
    omega (arith, turn_there c.args.log.now c.loop-place.place _ _ _ c.loop-place.invariant.going (progress c.step_well-step.result c.loop-place.keyed.state) _ _ c.left.ensures c.step_well-step.ensures (omega arith))

pub loop-place-smaller : goal.loop-place-smaller
loop-place-smaller c =
    let v = c.verdict-verdict.ensures c.loop-place.keyed.state in
    let r = progress c.step_well-step.result c.loop-place.keyed.state in
    omega
    (arith, turn_there c.args.log.now c.loop-place.place _ _ _ c.loop-place.invariant.going r _ _ c.left.ensures c.step_well-step.ensures (omega arith), turn_goes c.args.log.now c.loop-place.place _ _ _ c.loop-place.invariant.going r _ _ c.left.ensures c.step_well-step.ensures (rw v at (sym c.halts.ensures ∙ c.if-halts.false)))

pub loop-place-preserved : goal.loop-place-preserved
loop-place-preserved c =
    let v = c.verdict-verdict.ensures c.loop-place.keyed.state in
    let u = c.with-keyed.ensures ∙ c.state.ensures in
    let f = sym c.halts.ensures ∙ c.if-halts.false in
    let r = progress c.step_well-step.result c.loop-place.keyed.state in
    let w = c.loop-place.invariant.going in
    let there = turn_there c.args.log.now c.loop-place.place _ _ _ w r _ _ c.left.ensures c.step_well-step.ensures (omega arith) in
    let goes = turn_goes c.args.log.now c.loop-place.place _ _ _ w r _ _ c.left.ensures c.step_well-step.ensures (rw v at f) in
    let e = turn_step c.args.log.now c.loop-place.place _ _ _ w r _ _ c.left.ensures c.step_well-step.ensures in
    record {
      within = there;
      few = omega (arith, goes);
      cache_size = c.step_well-step.auto.cache ∙ c.loop-place.invariant.cache_size;
      out_size = c.put_row-end.auto.out ∙ c.loop-place.invariant.out_size;
      room = omega arith;
      going = rw u (turn_going c.args.log.now c.loop-place.place _ _ _ w r _ _ c.left.ensures c.step_well-step.ensures (λ i. (c.type_inv.log i).fits) c.loop-place.invariant.bytes);
      bytes = λ i. (c.type_inv.cache i).fits;
      left = row_on c.args.log.now _ _ c.loop-place.place c.loop-place.n c.loop-place.keyed.state c.loop-place.cache c.loop-place.end c.loop-place.out c.loop-place.invariant.left r _ e c.loop-place-test.true (omega arith) _ _ v u _ _ (omega arith) (c.put_row-end.ensures.0, c.put_row-end.ensures.1) f;
    }

pub returns : goal.returns
returns c =
    let t = left_over _ _ _ _ _ _ _ _ _ c.loop-place.invariant.left c.loop-place-test.false _ _ (stored_as _ _ _ _ _ _ (ap (λ (k : ℕ). end_text k c.loop-place.place) c.settled-2.ensures) (c.put_last-2.ensures.0, c.put_last-2.ensures.1)) in
    (t.0, t.1, omega arith)
