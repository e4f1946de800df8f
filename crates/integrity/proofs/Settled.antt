-- The last epoch settled: a state has it as its lane has, it never falls, and an epoch that was closed is not above it.
use Rattle.std.specs.Prelude.{Option, Some, None}
use mathlib.Core.Path.{◌≡◌, refl, sym, ◌∙◌, ap, subst}
use mathlib.Core.Bool.{Bool, true, false}
use mathlib.Core.Option.{some, none-ne-some, some-injective}
use mathlib.Core.List.{List, [], ◌∷◌, ◌++◌}
use Prim.Native.Nat.{ℕ, zero, suc, ◌-◌, ◌≤◌}
use native.Mathlib.Omega.{arith}
use lib.Dec.{eqb}
use Rattle.words.specs.Choice.{pick}
use Rattle.words.specs.Numbers.{Bytes}
use Rattle.verdict.specs.Verdicts.{accepted, wrong_moment, counts_differ, sums_differ}
use Rattle.cmac.specs.Tags.{tag_eq}
use Rattle.entry.specs.declared.Entry.{Entry}
use Rattle.entry.specs.declared.Entry.TheVariants.{Close}
use Rattle.hash.specs.Hashes.{set_key}
use Rattle.hash.specs.declared.SetKey.{SetKey}
use Rattle.cache.specs.Caches.{opened_cache}
use Rattle.state.specs.States.{closed_state, fresh_state, settled}
use Rattle.state.specs.declared.Tally.{Tally}
use Rattle.state.specs.declared.State.{State}
use Rattle.rules.specs.Outcomes.{Outcome, outcome, gives, accepts}
use Rattle.rules.specs.Epochs as rules
use Rattle.rules.specs.Epochs.{close_old}
use Rattle.rules.specs.Steps.{entry_step, step}
use Rattle.writer.proofs.Same.{entry_same}
use Rattle.integrity.specs.Statement as statement
use Rattle.integrity.specs.Statement.{Moment, after, run, taken, AllClosed, AllBytes}
use Rattle.integrity.proofs.Lane.{Lane, lane_settled, start, snoc}
use Rattle.integrity.proofs.Tallies.{no_old, is_old}
use Rattle.integrity.proofs.Refines.{never, Stands}
use Rattle.integrity.proofs.Opened.{opened_stands}
use Rattle.rules.proofs.Refused.{Stepping, step_settles}
use Rattle.rules.proofs.Refused as refused
use Rattle.integrity.proofs.Replay.{refine, Replay, replay}

pub settled_is : (key : SetKey) {st : State} {c : List ℕ} {t : Lane} → Stands key st c t → settled st ≡ lane_settled t
unfolding settled
settled_is key {st} {c} {t} R = elim R.tallies.olds [
  | no_old a b ↦ rw (a, b, R.tallies.epochs)
  | is_old T e a b q d ↦ rw (a, b, R.tallies.epochs)
]

-- after an accepted close
close_settles : (st : State) (c : List ℕ) (σ : State) (d : List ℕ) → outcome (rules.close st) c ≡ accepts σ d → settled σ ≡ st.epoch.0 - 1
unfolding rules.close
close_settles st c σ d e = go st.old e
  where
    closed : accepts (closed_state st) c ≡ accepts σ d → settled σ ≡ st.epoch.0 - 1
    closed q = ap settled (sym (ap (λ (o : Outcome). o.done.state) q)) ∙ unfold settled closed_state in refl

    go : (o : Option Tally) → outcome (close_old st o) c ≡ accepts σ d → settled σ ≡ st.epoch.0 - 1
    go None q = never wrong_moment st c refl q
    go (Some T) q = counts (eqb T.adds T.evicts) (tag_eq T.addsum T.evictsum) q
      where
        counts : (a b : Bool) → outcome (pick a (pick b (gives accepted (closed_state st)) (gives sums_differ st)) (gives counts_differ st)) c ≡ accepts σ d → settled σ ≡ st.epoch.0 - 1
        counts false b q = never counts_differ st c refl q
        counts true false q = never sums_differ st c refl q
        counts true true q = closed q

taken_close : (x : Entry) (st : State) (c : List ℕ) (σ : State) (d : List ℕ) → x ≡ Close → entry_step x st c ≡ accepts σ d → settled σ ≡ st.epoch.0 - 1
unfolding entry_step
taken_close x st c σ d q e = close_settles st c σ d (rw q at e)

-- ---- histories in two parts

bytes_split : (a b : List (List ℕ)) → AllBytes (a ++ b) → AllBytes a × AllBytes b
bytes_split [] b h = (tt, h)
bytes_split (w ∷ a) b h = let g = bytes_split a b h.1 in ((h.0, g.0), g.1)

run_split : (m : Moment) (a b : List (List ℕ)) → run m (a ++ b) ≡ run (run m a) b
run_split m [] b = refl
run_split m (w ∷ a) b = run_split (after m w) a b

module _ (key : List ℕ) (n : ℕ) where
  abbrev begin : Moment
  begin = record { state = fresh_state key; cache = opened_cache n }

  -- where a close was accepted with epoch suc i current, i is settled from then on
  from_close : (before : List (List ℕ)) (w : List ℕ) (rest : List (List ℕ)) (i : ℕ) → AllBytes before → Bytes w → AllBytes rest
      → taken (run begin before) w ≡ some Close → (run begin before).state.epoch.0 ≡ suc i → i ≤ settled (run begin (before ++ (w ∷ rest))).state
  from_close before w rest i ba bw br q c = rw (run_split begin before (w ∷ rest)) (at (replay (set_key key) before ba (fresh_state key) (opened_cache n) (opened_stands key n) start))
    where
      at : Replay (set_key key) start begin before → i ≤ settled (run (after (run begin before) w) rest).state
      at p = by (step_settles (run begin before).state (run begin before).cache w)
        where
          by : Stepping (run begin before).state (run begin before).cache w (step w (run begin before).state (run begin before).cache) → i ≤ settled (run (after (run begin before) w) rest).state
          by (refused.kept m l z u) = absurd (none-ne-some Close (sym (rw (u, z)) ∙ q))
          by (refused.took f x m σ d g h u) =
              let y = entry_same w bw x m g in
              let j = refine (set_key key) (run begin before).state (run begin before).cache p.end p.stands σ d x y.well y.fits h in
              let l = replay (set_key key) rest br σ d j.stands (snoc p.whole j.acc) in
              let isclose : x ≡ Close = some-injective _ _ (sym (rw (u, g)) ∙ q) in
              let z : settled σ ≡ (run begin before).state.epoch.0 - 1 = taken_close x (run begin before).state (run begin before).cache σ d isclose h in
              let a = settled_is (set_key key) j.stands in
              let b = settled_is (set_key key) l.stands in
              let k = l.settles in
              rw u (omega arith)

pub closed_settled : (key : List ℕ) (n : ℕ) (ws : List (List ℕ)) → AllBytes ws → (e : ℕ) → AllClosed e (record { state = fresh_state key; cache = opened_cache n }) ws
    → e ≤ settled (run (record { state = fresh_state key; cache = opened_cache n }) ws).state
closed_settled key n ws b zero h = omega arith
closed_settled key n ws b (suc e) h = go (h (suc e) (omega arith) (omega arith))
  where
    go : statement.Closed (suc e) (begin key n) ws → suc e ≤ settled (run (begin key n) ws).state
    go c =
        let s = bytes_split c.before (c.input ∷ c.rest) (subst AllBytes c.inputs b) in
        rw c.inputs (from_close key n c.before c.input c.rest (suc e) s.0 s.1.0 s.1.1 c.close c.current)
