-- The turns of a run. Assumes nothing.
use Rattle.std.specs.Prelude.{Ok, Err}
use Prim.Native.Nat.{ℕ, zero, suc, ◌+◌, ◌-◌, ◌≤◌, ◌<◌}
use mathlib.Core.Path.{◌≡◌, refl, ap, sym, ◌∙◌}
use mathlib.Core.List.{List}
use mathlib.Core.Bool.{Bool, true, false, false≢true, not}
use mir.Val.{bool_byte}
use Rattle.std.specs.Prelude.{Some, None, Ok, Err, get_or}
use native.Mathlib.Omega.{arith}
use native.Mathlib.Nat.{sub-zero, add-zero}
use lib.Dec.{eqb, lit≤}
use lib.ListN.{length, drop, length-drop}
use borrow.Author.Tests.{lt-leb, le-leb, ne_eqb, eqb-true, eqb-false}
use Rattle.words.specs.Choice.{pick, both}
use Rattle.words.specs.Numbers.{Bytes}
use Rattle.words.proofs.Laws.{both_true, true_both, drop_bytes}
use Rattle.verdict.specs.Verdicts.{accepted, not_well, wrong_cache, number}
use Rattle.verdict.specs.declared.Refusal.{Refusal}
use Rattle.verdict.proofs.Reasons.{reasons, reason_back}
use Rattle.entry.specs.Entries.{read_entry, reading_used}
use Rattle.entry.specs.declared.Unread.TheVariants as unread
use Rattle.entry.proofs.Laws.{used_within, used_some}
use Rattle.hash.specs.declared.SetKey.{SetKey}
use Rattle.cache.specs.Caches.{well_length, well_cache}
use Rattle.state.specs.States.{well_state, settled}
use Rattle.state.specs.declared.State.{State}
use Rattle.rules.specs.Outcomes.{refuses}
use Rattle.rules.specs.Steps.{Step, stepped, taking, step_well, well_formed, step, Stepped}
use Rattle.step.specs.Progress.{progress}
use Rattle.step.specs.declared.Progress.{Progress}
use Rattle.step.proofs.Kept.{step_inner, step_keeps, step_used}
use Rattle.rules.specs.Runs.{Run, running, halts, sound, ended, after_step, run_from, run}

-- ---- a step of a run

short_halts : (log : List ℕ) (st : State) (c : List ℕ) → read_entry log ≡ Err unread.Short → halts (step_well log st c).result.verdict ≡ true
unfolding step_well halts
short_halts log st c e = rw e

-- where a step does not halt the run, it uses a head at least
well_goes : (log : List ℕ) (st : State) (c : List ℕ) → halts (step_well log st c).result.verdict ≡ false → 3 ≤ (step_well log st c).result.used
well_goes log st c h = rw (step_used log st c) (used_some log (λ e. false≢true (sym h ∙ short_halts log st c e)))

same_length_well : (c d : List ℕ) → length d ≡ length c → well_length c ≡ true → well_length d ≡ true
unfolding well_length
same_length_well c d e h = rw e h

-- what is known of a run's state and cache between two steps: neither 28 nor 1 applies, and the set key is the one expanded
pub record Going (k : SetKey) (st : State) (c : List ℕ) : Type 0 where
  pub well : sound st c ≡ true
  pub set : st.set ≡ k

pub going_state : (k : SetKey) (st : State) (c : List ℕ) → Going k st c → well_state st ≡ true
unfolding sound
going_state k st c g = (both_true (well_state st) (well_cache c) (both_true (well_length c) (well_formed st c) g.well).1).0

module _ (log : List ℕ) (k : SetKey) (st : State) (c : List ℕ) (g : Going k st c) where
  going_inner : step log st c ≡ step_well log st c
  unfolding sound
  going_inner = let b = both_true (well_length c) (well_formed st c) g.well in step_inner log st c b.0 b.1

  going_on : Bytes log → Bytes c → (o : Step) → o ≡ step_well log st c → Going k o.result.state o.bytes
  unfolding sound
  going_on bl bc o e =
      let b = both_true (well_length c) (well_formed st c) g.well in
      let s = step_keeps log st c b.0 b.1 bl bc in
      rw e
      (record {
        well = true_both _ _ (same_length_well c _ s.size b.0) (true_both _ _ s.state s.cache);
        set = s.set ∙ g.set;
      })

-- ---- the turns

pub run_starts : (log : List ℕ) (st : State) (c : List ℕ) → run_from (length log - 0) log 0 st c 0 0 ≡ run log st c
unfolding run
run_starts log st c = rw sub-zero

pub run_over : (n : ℕ) (log : List ℕ) (at : ℕ) (st : State) (c : List ℕ) (m a : ℕ) → length log ≤ at → run_from n log at st c m a ≡ ended at st c m a
unfolding run_from
run_over zero log at st c m a h = refl
run_over (suc n) log at st c m a h = rw (le-leb _ _ h)

run_turn : (n k : ℕ) (log : List ℕ) (at : ℕ) (st : State) (c : List ℕ) (m a : ℕ) → k ≡ suc n → at < length log
    → run_from k log at st c m a ≡ after_step (run_from n log) at (step (drop at log) st c) m a
unfolding run_from
run_turn n k log at st c m a e h = rw (e, lt-leb _ _ h)

-- one more where the entry was accepted, as a sum
counts_on : (b : Bool) (a : ℕ) → a + pick b 1 0 ≡ pick b (a + 1) a
counts_on true a = refl
counts_on false a = add-zero a

-- a turn: the inner step on the rest l of the log at at gave r and left the cache so
module _ (log : List ℕ) (at : ℕ) (k : SetKey) (st : State) (c : List ℕ) (w : Going k st c) (r : Stepped) (left l : List ℕ)
    (el : l ≡ drop at log) (e : stepped r left ≡ step_well l st c) where
  inner : stepped r left ≡ step_well (drop at log) st c
  inner = e ∙ ap (λ (x : List ℕ). step_well x st c) el

  pub turn_step : stepped r left ≡ step (drop at log) st c
  turn_step = inner ∙ sym (going_inner (drop at log) k st c w)

  pub turn_there : at ≤ length log → at + r.used ≤ length log
  turn_there h =
      let u : r.used ≡ reading_used (read_entry (drop at log)) = ap (λ (o : Step). o.result.used) inner ∙ step_used (drop at log) st c in
      omega (arith, used_within (drop at log), length-drop at log)

  pub turn_goes : halts r.verdict ≡ false → 3 ≤ r.used
  turn_goes f =
      let u : r.used ≡ (step_well (drop at log) st c).result.used = ap (λ (o : Step). o.result.used) inner in
      let v : r.verdict ≡ (step_well (drop at log) st c).result.verdict = ap (λ (o : Step). o.result.verdict) inner in
      rw u (well_goes (drop at log) st c (rw v at f))

  pub turn_going : Bytes log → Bytes c → Going k r.state left
  turn_going bl bc = going_on (drop at log) k st c w (drop_bytes log at bl) bc (stepped r left) inner

  module _ (m a : ℕ) (h : at < length log) (g : m < length log) where
    turned : run_from (length log - m) log at st c m a ≡ after_step (run_from (length log - (m + 1)) log) at (stepped r left) m a
    turned =
        run_turn (length log - (m + 1)) (length log - m) log at st c m a (omega arith) h
        ∙ ap (λ (o : Step). after_step (run_from (length log - (m + 1)) log) at o m a) (sym turn_step)

    -- x is the whole run
    module _ (x : Run) (i : run_from (length log - m) log at st c m a ≡ x) where
      pub turn_on : halts r.verdict ≡ false → (n : ℕ) → n ≡ pick (eqb r.verdict accepted) 1 0
          → run_from (length log - (m + 1)) log (at + r.used) r.state left (m + 1) (a + n) ≡ x
      turn_on f n y = rw (y, counts_on (eqb r.verdict accepted) a) (sym (turned ∙ rw f) ∙ i)

      pub turn_stop : halts r.verdict ≡ true → ended at r.state left (m + 1) a ≡ x
      turn_stop y = sym (turned ∙ rw y) ∙ i

-- ---- the ends of a run

-- where neither 28 nor 1 applies, the last epoch settled is the state's
pub ended_well : (k : SetKey) (st : State) (c : List ℕ) (at m a s : ℕ) → Going k st c → s ≡ settled st
    → running (record { state = st; settled = s; met = m; accepted = a; used = at }) c ≡ ended at st c m a
ended_well k st c at m a s g e = rw (g.well, e)

-- what a run comes to where 28 or 1 applies, after m entries met
abbrev pub refused_run : State → List ℕ → ℕ → Run
refused_run st c m = running (record { state = st; settled = 0; met = m; accepted = 0; used = 0 }) c

ended_refused : (st : State) (c : List ℕ) (m : ℕ) → sound st c ≡ false → ended 0 st c m 0 ≡ refused_run st c m
ended_refused st c m e = rw e

refused_stops : (go : ℕ → State → List ℕ → ℕ → ℕ → Run) (log : List ℕ) (st : State) (c : List ℕ) → sound st c ≡ false
    → after_step go 0 (step log st c) 0 0 ≡ ended 0 st c 1 0
unfolding sound step halts
refused_stops go log st c e = by (well_length c) (well_formed st c) e
  where
    by : (b d : Bool) → both b d ≡ false
        → after_step go 0 (pick b (pick d (step_well log st c) (taking 0 (refuses not_well st c))) (taking 0 (refuses wrong_cache st c))) 0 0
        ≡ ended 0 st c 1 0
    by true true f = absurd (false≢true (sym f))
    by true false f = refl
    by false d f = refl

pub refused_empty : (log : List ℕ) (st : State) (c : List ℕ) → sound st c ≡ false → length log ≡ 0 → refused_run st c 0 ≡ run log st c
unfolding run
refused_empty log st c e z = sym (run_over (length log) log 0 st c 0 0 (omega arith) ∙ ended_refused st c 0 e)

pub refused_first : (log : List ℕ) (st : State) (c : List ℕ) → sound st c ≡ false → (length log ≡ 0 → ⊥) → refused_run st c 1 ≡ run log st c
unfolding run
refused_first log st c e z =
    let h : 0 < length log = omega arith in
    sym (run_turn (length log - 1) (length log) log 0 st c 0 0 (omega arith) h
    ∙ refused_stops (run_from (length log - 1) log) (drop 0 log) st c e
    ∙ ended_refused st c 1 e)

-- as the code counts it: 1 where the log has an entry
pub refused_met : (log : List ℕ) (st : State) (c : List ℕ) → sound st c ≡ false → refused_run st c (bool_byte (not (eqb (length log) 0))) ≡ run log st c
refused_met log st c e = go (eqb (length log) 0) refl
  where
    go : (b : Bool) → eqb (length log) 0 ≡ b → refused_run st c (bool_byte (not b)) ≡ run log st c
    go true q = refused_empty log st c e (eqb-true (length log) 0 q)
    go false q = refused_first log st c e (eqb-false (length log) 0 q)

-- ---- what a run knows between two turns

-- a refusal is not counted as accepted
pub refused_uncounted : (r : Refusal) → eqb (number r) accepted ≡ false
refused_uncounted r =
    ne_eqb (number r) accepted
    (λ e.
    let f : get_or reasons accepted None ≡ Some r = sym (ap (λ (n : ℕ). get_or reasons n None) e) ∙ reason_back {T = ℕ} (Err r) in
    cc)

-- s and d are the state and the cache that it began with
pub record Between (log : List ℕ) (s : State) (d : List ℕ) (at : ℕ) (st : State) (c : List ℕ) (m a : ℕ) : Type 0 where
  pub within : at ≤ length log
  pub met : m ≤ at
  pub accepted : a ≤ m
  pub size : length c ≡ length d
  pub going : Going s.set st c
  pub read : Bytes log
  pub bytes : Bytes c
  pub rest : run_from (length log - m) log at st c m a ≡ run log s d

pub between_first : (log : List ℕ) (s : State) (d : List ℕ) → sound s d ≡ true → Bytes log → Bytes d → Between log s d 0 s d 0 0
between_first log s d e bl bd =
    record {
      within = omega arith;
      met = omega arith;
      accepted = omega arith;
      size = refl;
      going = record { well = e; set = refl };
      read = bl;
      bytes = bd;
      rest = run_starts log s d;
    }

module _ {log : List ℕ} {s : State} {d : List ℕ} {at : ℕ} {st : State} {c : List ℕ} {m a : ℕ} (b : Between log s d at st c m a) where
  pub between_over : length log ≤ at → running (record { state = st; settled = settled st; met = m; accepted = a; used = at }) c ≡ run log s d
  between_over h =
      ended_well s.set st c at m a (settled st) b.going refl ∙ sym (run_over (length log - m) log at st c m a h) ∙ b.rest

  -- a turn gave p and left the cache so
  module _ (h : at < length log) (p : Progress) {left l : List ℕ} (el : l ≡ drop at log) (e : stepped (progress p st) left ≡ step_well l st c) where
    pub between_there : at + p.used ≤ length log
    between_there = turn_there log at s.set st c b.going (progress p st) left l el e b.within

    going : Going s.set (progress p st).state left
    going = turn_going log at s.set st c b.going (progress p st) left l el e b.read b.bytes

    -- the next state has the same set key
    pub between_set : (next : State) → p.next ≡ Ok next → next.set ≡ st.set
    between_set next q = (rw q at going).set ∙ sym b.going.set

    on : length left ≡ length c → Bytes left → halts (progress p st).verdict ≡ false → (n : ℕ) → n ≤ 1 → n ≡ pick (eqb (progress p st).verdict accepted) 1 0
        → Between log s d (at + p.used) (progress p st).state left (m + 1) (a + n)
    on z x f n v y =
        let u : 3 ≤ p.used = turn_goes log at s.set st c b.going (progress p st) left l el e f in
        let k = b.met in
        let j = b.accepted in
        record {
          within = between_there;
          met = omega arith;
          accepted = omega arith;
          size = z ∙ b.size;
          going = going;
          read = b.read;
          bytes = x;
          rest = turn_on log at s.set st c b.going (progress p st) left l el e m a h (omega arith) (run log s d) b.rest f n y;
        }

    -- the turn takes a head at least
    pub between_ok_used : (next : State) → p.next ≡ Ok next → 3 ≤ p.used
    unfolding halts
    between_ok_used next q = turn_goes log at s.set st c b.going (progress p st) left l el e (rw q)

    pub between_err_used : (r : Refusal) → p.next ≡ Err r → halts (number r) ≡ false → 3 ≤ p.used
    between_err_used r q f = turn_goes log at s.set st c b.going (progress p st) left l el e (rw q f)

    pub between_ok : (next : State) → p.next ≡ Ok next → length left ≡ length c → Bytes left
        → Between log s d (at + p.used) next left (m + 1) (a + 1)
    unfolding halts
    between_ok next q z x = rw q at (on z x (rw q) 1 (lit≤ tt) (rw q))

    pub between_err : (r : Refusal) → p.next ≡ Err r → halts (number r) ≡ false → length left ≡ length c → Bytes left
        → Between log s d (at + p.used) st left (m + 1) a
    between_err r q f z x = rw add-zero at (rw q at (on z x (rw q f) 0 (lit≤ tt) (rw (q, refused_uncounted r))))

    pub between_stop : (r : Refusal) → p.next ≡ Err r → halts (number r) ≡ true
        → running (record { state = st; settled = settled st; met = m + 1; accepted = a; used = at }) left ≡ run log s d
    between_stop r q f =
        let k = b.met in
        ended_well s.set st left at (m + 1) a (settled st) (rw q at going) refl
        ∙ rw q at (turn_stop log at s.set st c b.going (progress p st) left l el e m a h (omega arith) (run log s d) b.rest (rw q f))
