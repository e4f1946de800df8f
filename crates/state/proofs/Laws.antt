-- What it says that a state is well formed, which changes keep it so, and what opening comes to. Assumes nothing.
use Prim.Native.Nat.{ℕ, ◌+◌, ◌*◌, ◌-◌, ◌≤◌, ◌<◌}
use Rattle.verdict.specs.Verdicts.{accepted, wrong_cache}
use mathlib.Core.Path.{refl, ◌≡◌, ap, sym, ◌∙◌}
use mathlib.Core.List.{List}
use mathlib.Core.Bool.{Bool, true, false}
use native.Mathlib.Omega.{arith}
use lib.Dec.{leb, eqb, lit≤}
use lib.ListN.{length}
use borrow.Author.Tests.{le-leb, leb-true, ne_eqb}
use Rattle.words.specs.Choice.{pick, both, no}
use Rattle.words.specs.Numbers.{zeros}
use Rattle.words.specs.Splices.{splice}
use Rattle.words.proofs.Laws.{both_true, true_both, zeros_length}
use Rattle.cmac.specs.declared.Tag.{Tag}
use Rattle.key.specs.Keys.{root_key}
use Rattle.key.specs.declared.Key.{Key}
use Rattle.value.specs.Values.{bare_node}
use Rattle.value.specs.declared.Value.{Value}
use Rattle.value.specs.declared.Value.TheVariants as v
use Rattle.slot.specs.Slots.{slot_length, tree, slot_bytes}
use Rattle.cache.specs.Caches.{well_length, well_cache, count, opened_cache}
use Rattle.cache.proofs.Well.{length_slots}
use Rattle.cache.proofs.Opened.{opened_splice, opened_well, opened_well_length}
use Rattle.state.specs.States.{epoch_limit, count_limit, clock_limit, well_tally, well_old, well_state, added_current, added_old, evicted_state, evicted, advanced_state, closed_state, fresh_state, zero_state, Opening, opening, open_def}
use Rattle.state.specs.declared.Tally.{Tally}
use Rattle.std.specs.Prelude.{Some}
use Rattle.state.specs.declared.State.{State}
use Rattle.std.specs.Prelude.{Result}
use Rattle.verdict.specs.declared.Refusal.{Refusal}
use Rattle.verdict.proofs.Reasons.{view_back}
use Rattle.state.specs.States.{Opened, opened}
use Rattle.std.proofs.Math.Path.{to_path_p}
use Rattle.std.proofs.Props.{props}
use Rattle.aes.specs.declared.Expanded.{Expanded}
use Rattle.aes.specs.Aes.{expansion}
use Rattle.hash.specs.Hashes.{set_bytes}
use Rattle.state.specs.declared.Keyed.{Keyed}

-- ---- well formed

-- two bounds at once
pub both_leb : (a b c d : ℕ) → both (leb a b) (leb c d) ≡ true → (a ≤ b) × (c ≤ d)
both_leb a b c d e = let p = both_true (leb a b) (leb c d) e in (leb-true a b p.0, leb-true c d p.1)

leb_both : (a b c d : ℕ) → a ≤ b → c ≤ d → both (leb a b) (leb c d) ≡ true
leb_both a b c d p q = true_both (leb a b) (leb c d) (le-leb a b p) (le-leb c d q)

pub record WellParts (st : State) : Type 0 where
  pub low : 1 ≤ st.epoch.0
  pub high : st.epoch.0 ≤ epoch_limit
  pub old : well_old st.epoch.0 st.old ≡ true
  pub adds : st.tally.adds ≤ count_limit
  pub evicts : st.tally.evicts ≤ count_limit
  pub clock : st.clock.0 ≤ count_limit * (st.epoch.0 - 1) + st.tally.evicts

pub well_parts : (st : State) → well_state st ≡ true → WellParts st
unfolding well_state
well_parts st e =
    let a = both_true (both (leb 1 st.epoch.0) (leb st.epoch.0 epoch_limit)) _ e in
    let b = both_true (well_old st.epoch.0 st.old) _ a.1 in
    let c = both_true (well_tally st.tally) (leb st.clock.0 (count_limit * (st.epoch.0 - 1) + st.tally.evicts)) b.1 in
    let r = both_leb 1 st.epoch.0 st.epoch.0 epoch_limit a.0 in
    let t = both_leb st.tally.adds count_limit st.tally.evicts count_limit c.0 in
    record { low = r.0; high = r.1; old = b.0; adds = t.0; evicts = t.1; clock = leb-true _ _ c.1 }

pub parts_well : (st : State) → WellParts st → well_state st ≡ true
unfolding well_state
parts_well st w =
    true_both _ _ (leb_both 1 st.epoch.0 st.epoch.0 epoch_limit w.low w.high)
    (true_both (well_old st.epoch.0 st.old) _ w.old
    (true_both _ _ (leb_both st.tally.adds count_limit st.tally.evicts count_limit w.adds w.evicts) (le-leb _ _ w.clock)))

-- the clock of a well-formed state has room for one more
pub well_clock : (st : State) → well_state st ≡ true → st.clock.0 ≤ clock_limit
well_clock st e = let w = well_parts st e in omega (arith, w.low, w.high, w.evicts, w.clock)

-- ---- the changes keep it

module _ (st : State) (e : well_state st ≡ true) where
  pub added_current_well : (g : Tag) → st.tally.adds < count_limit → well_state (added_current st g) ≡ true
  unfolding added_current
  added_current_well g h =
      let w = well_parts st e in
      parts_well (added_current st g)
      (record { low = w.low; high = w.high; old = w.old; adds = omega arith; evicts = w.evicts; clock = w.clock })

  -- t is the tally of the old epoch, as it is open
  pub added_old_well : (t : Tally) (g : Tag) → st.old ≡ Some t → t.adds < count_limit → well_state (added_old st t g) ≡ true
  unfolding added_old
  added_old_well t g o h =
      let w = well_parts st e in
      let p = both_true (no (eqb st.epoch.0 1)) (well_tally t) (sym (ap (well_old st.epoch.0) o) ∙ w.old) in
      let q = both_leb t.adds count_limit t.evicts count_limit p.1 in
      parts_well (added_old st t g)
      (record {
        low = w.low;
        high = w.high;
        old = true_both (no (eqb st.epoch.0 1)) _ p.0 (leb_both (t.adds + 1) count_limit t.evicts count_limit (omega arith) q.1);
        adds = w.adds;
        evicts = w.evicts;
        clock = w.clock;
      })

  pub evicted_state_well : (g : Tag) → st.tally.evicts < count_limit → well_state (evicted_state st g) ≡ true
  unfolding evicted_state
  evicted_state_well g h =
      let w = well_parts st e in
      parts_well (evicted_state st g)
      (record { low = w.low; high = w.high; old = w.old; adds = w.adds; evicts = omega arith; clock = omega (arith, w.clock) })

  pub evicted_well : (k : Key) (x : Value) → st.tally.evicts < count_limit → well_state (evicted st k x) ≡ true
  unfolding evicted
  evicted_well k x h = evicted_state_well _ h

  pub advanced_well : st.epoch.0 < epoch_limit → well_state (advanced_state st) ≡ true
  unfolding advanced_state
  advanced_well h =
      let w = well_parts st e in
      let l = w.low in
      parts_well (advanced_state st)
      (record {
        low = omega arith;
        high = omega arith;
        old =
            true_both _ _ (ap no (ne_eqb (st.epoch.0 + 1) 1 (λ z. omega arith)))
            (leb_both st.tally.adds count_limit st.tally.evicts count_limit w.adds w.evicts);
        adds = lit≤ tt;
        evicts = lit≤ tt;
        clock = omega (arith, w.clock, w.evicts);
      })

  pub closed_well : well_state (closed_state st) ≡ true
  unfolding closed_state
  closed_well =
      let w = well_parts st e in
      parts_well (closed_state st)
      (record { low = w.low; high = w.high; old = refl; adds = w.adds; evicts = w.evicts; clock = w.clock })

-- ---- opening

-- the root's slot lies within the zeros
pub open_room : (c d : List ℕ) → true ≡ well_length c → d ≡ zeros (length c) → slot_length ≤ length d
open_room c d w e = let l = length_slots c (sym w) in omega (arith, ap length e ∙ zeros_length (length c))

module _ (key c : List ℕ) where
  abbrev chosen : Bool → Opening
  chosen b =
      pick b (opening (record { verdict = accepted; state = fresh_state key }) (opened_cache (count c - 1)))
      (opening (record { verdict = wrong_cache; state = zero_state }) c)

  open_taken : well_length c ≡ true → open_def key c ≡ chosen true
  unfolding open_def
  open_taken w = ap chosen w

  open_left : well_length c ≡ false → open_def key c ≡ chosen false
  unfolding open_def
  open_left w = ap chosen w

  pub open_given : (d e : List ℕ) (k : Key) (x : Value) (st : State) → true ≡ well_length c → d ≡ zeros (length c) → k ≡ root_key → x ≡ v.Node bare_node
      → e ≡ splice d 0 (slot_bytes tree k x) → st ≡ fresh_state key → opening (record { verdict = accepted; state = st }) e ≡ open_def key c
  open_given d e k x st w p q r s t =
      let m : e ≡ opened_cache (count c - 1) = s ∙ rw (p, q, r) (opened_splice c (sym w)) in
      (λ i. opening (record { verdict = accepted; state = t i }) (m i)) ∙ sym (open_taken (sym w))

  pub open_refused : (st : State) → false ≡ well_length c → st ≡ zero_state → opening (record { verdict = wrong_cache; state = st }) c ≡ open_def key c
  open_refused st w t = ap (λ (s : State). opening (record { verdict = wrong_cache; state = s }) c) t ∙ sym (open_left (sym w))

  -- an opened state with its cache is well formed
  pub open_well_state : well_length c ≡ true → well_state (open_def key c).answer.state ≡ true
  unfolding fresh_state well_state
  open_well_state w = ap (λ (o : Opening). well_state o.answer.state) (open_taken w)

  pub open_well_cache : well_length c ≡ true → well_cache (open_def key c).bytes ≡ true
  open_well_cache w = ap (λ (o : Opening). well_cache o.bytes) (open_taken w) ∙ opened_well (count c - 1)

  pub open_well_length : well_length c ≡ true → well_length (open_def key c).bytes ≡ true
  open_well_length w = ap (λ (o : Opening). well_length o.bytes) (open_taken w) ∙ opened_well_length c w

-- ---- the answers

-- no two results of the code come to one answer
pub opened_back : (x y : Result State Refusal) → opened x ≡ opened y → x ≡ y
opened_back = view_back opened (λ (o : Opened). o.verdict) (λ t. refl) (λ r. refl) (λ s t e. ap (λ (o : Opened). o.state) e)

-- a state has one expansion of its set key beside it: `result.state ≡ st` leaves no choice
expanded_back : (x y : Expanded) → x.bytes ≡ y.bytes → x ≡ y
expanded_back x y p = λ i. record { bytes = p i }

one_fact : (x y : List ℕ) → IsProp (x ≡ y)
one_fact x y = Prim.hlevel props

pub keyed_back : (a b : Keyed) → a.state ≡ b.state → a ≡ b
keyed_back a b p =
    let q : a.expanded ≡ b.expanded = expanded_back a.expanded b.expanded (a.of_its_key ∙ ap (λ (s : State). expansion (set_bytes s.set)) p ∙ sym b.of_its_key) in
    λ i. record { state = p i; expanded = q i; of_its_key = to_path_p (λ j. (q j).bytes ≡ expansion (set_bytes (p j).set)) {a = a.of_its_key} {b = b.of_its_key} (one_fact b.expanded.bytes (expansion (set_bytes b.state.set)) (coe 0 1 (j. (q j).bytes ≡ expansion (set_bytes (p j).set)) a.of_its_key) b.of_its_key) i }
