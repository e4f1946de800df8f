-- Laws of the state's bytes: their length, and the round trip, both ways. Assumes nothing.
use Prim.Native.Nat.{ℕ, ◌+◌, ◌-◌, ◌≤◌}
use mathlib.Core.Path.{◌≡◌, refl, ap, sym, ◌∙◌}
use mathlib.Core.Bool.{true}
use mathlib.Core.List.{List, [], ◌∷◌, ◌++◌, append_assoc, append-nil}
use native.Mathlib.Omega.{arith}
use lib.ListN.{length, get_or, drop, length-append, length-drop}
use lib.Dec.{eqb}
use lib.Seq.{get_or_at, drop_at, take-length}
use borrow.Author.Tests.{eq-eqb, eqb-true}
use Rattle.std.specs.Prelude.{Option, Some, None}
use Rattle.words.specs.Numbers.{two_words, zeros, Bytes}
use Rattle.words.specs.Splices.{part}
use Rattle.words.proofs.Laws.{bytes_length, zeros_length, number_lt, bytes_back, TwoAt, two_length, two_at, two_back, part_one, part_rest, part_step, picked, never}
use Rattle.cmac.specs.declared.Tag.{Tag}
use Rattle.hash.specs.Hashes.{set_bytes}
use Rattle.hash.proofs.Laws.{set_length}
use Rattle.state.specs.declared.Tally.{Tally}
use Rattle.state.specs.declared.State.{State}
use Rattle.slot.specs.Slots.{all_zero}
use Rattle.slot.proofs.Laws.{all_zero_lem, zero_all}
use Rattle.flat.specs.Flats.{state_length, tag_bytes, tally_bytes, old_bytes, front_bytes, state_bytes, tag_at, tally_at, old_at, state_of, state_with, state_at, TagFits, TallyFits, OldFits, StateFits}

pub tag_length : (g : Tag) → length (tag_bytes g) ≡ 16
unfolding tag_bytes
tag_length g = two_length g.t0 g.t1

pub tally_length : (t : Tally) → length (tally_bytes t) ≡ 48
unfolding tally_bytes
tally_length t = simp (length-append, bytes_length, tag_length)

pub old_length : (o : Option Tally) → length (old_bytes o) ≡ 49
unfolding old_bytes
old_length None = simp zeros_length
old_length (Some t) = simp tally_length

pub front_length : (st : State) → length (front_bytes st) ≡ 32
unfolding front_bytes
front_length st = simp (length-append, bytes_length, set_length)

pub state_length_lem : (st : State) → length (state_bytes st) ≡ state_length
unfolding state_bytes
state_length_lem st = simp (length-append, front_length, tally_length, old_length)

-- ---- what is written is read, wherever it stands and whatever follows

tag_back : (g : Tag) → TagFits g → (at : ℕ) (p r : List ℕ) → length p ≡ at → tag_at (p ++ (tag_bytes g ++ r)) at ≡ g
unfolding tag_at tag_bytes
tag_back g f at p r e = let t = two_at g.t0 g.t1 at p r e f.t0 f.t1 in rw (t.first, t.second)

module _ (t : Tally) (f : TallyFits t) (at : ℕ) (p r : List ℕ) (e : length p ≡ at) where
  tally_counts : TwoAt (p ++ (tally_bytes t ++ r)) at t.adds t.evicts
  unfolding tally_bytes
  tally_counts =
      let q : p ++ (tally_bytes t ++ r) ≡ p ++ (two_words t.adds t.evicts ++ ((tag_bytes t.addsum ++ tag_bytes t.evictsum) ++ r)) = simp append_assoc in
      rw q (two_at t.adds t.evicts at p ((tag_bytes t.addsum ++ tag_bytes t.evictsum) ++ r) e f.adds f.evicts)

  tally_adds : tag_at (p ++ (tally_bytes t ++ r)) (at + 16) ≡ t.addsum
  unfolding tally_bytes
  tally_adds =
      ap (λ (s : List ℕ). tag_at s (at + 16)) (simp append_assoc)
      ∙ tag_back t.addsum f.addsum (at + 16) (p ++ two_words t.adds t.evicts) (tag_bytes t.evictsum ++ r) (simp (length-append, bytes_length, e))

  tally_evicts : tag_at (p ++ (tally_bytes t ++ r)) (at + 32) ≡ t.evictsum
  unfolding tally_bytes
  tally_evicts =
      ap (λ (s : List ℕ). tag_at s (at + 32)) (simp append_assoc)
      ∙ tag_back t.evictsum f.evictsum (at + 32) (p ++ (two_words t.adds t.evicts ++ tag_bytes t.addsum)) r (simp (length-append, bytes_length, tag_length, e))

  tally_back : tally_at (p ++ (tally_bytes t ++ r)) at ≡ t
  unfolding tally_at
  tally_back = rw (tally_counts.first, tally_counts.second, tally_adds, tally_evicts)

old_back : (o : Option Tally) → OldFits o → (p : List ℕ) → length p ≡ 80 → old_at (p ++ old_bytes o) ≡ Some o
unfolding old_at old_bytes
old_back None f p e = rw (get_or_at p 0 (zeros 48) 0 80 e, rest)
  where
    rest : all_zero (drop 81 (p ++ (0 ∷ zeros 48))) ≡ true
    rest =
        ap (λ (l : List ℕ). all_zero (drop 81 l)) (sym (append_assoc p (0 ∷ []) (zeros 48)))
        ∙ ap all_zero (drop_at (p ++ (0 ∷ [])) (zeros 48) 81 (simp length-append (omega arith))) ∙ all_zero_lem 48
old_back (Some t) f p e =
    rw (get_or_at p 1 (tally_bytes t) 0 80 e, ap (λ (l : List ℕ). tally_at l 81) regrouped ∙ tally_back t f 81 (p ++ (1 ∷ [])) [] (simp length-append (omega arith)))
  where
    regrouped : p ++ (1 ∷ tally_bytes t) ≡ (p ++ (1 ∷ [])) ++ (tally_bytes t ++ [])
    regrouped = simp (append_assoc, append-nil)

module _ (st : State) (f : StateFits st) where
  state_set : TwoAt (state_bytes st) 0 st.set.k0 st.set.k1
  unfolding state_bytes front_bytes set_bytes
  state_set =
      let q : state_bytes st ≡ [] ++ (two_words st.set.k0 st.set.k1 ++ (two_words st.clock.0 st.epoch.0 ++ (tally_bytes st.tally ++ old_bytes st.old))) = simp append_assoc in
      rw q (two_at st.set.k0 st.set.k1 0 [] _ refl f.k0 f.k1)

  state_times : TwoAt (state_bytes st) 16 st.clock.0 st.epoch.0
  unfolding state_bytes front_bytes
  state_times =
      rw (append_assoc (set_bytes st.set) (two_words st.clock.0 st.epoch.0))
      (two_at st.clock.0 st.epoch.0 16 (set_bytes st.set) _ (set_length st.set) f.clock f.epoch)

  state_tally : tally_at (state_bytes st) 32 ≡ st.tally
  unfolding state_bytes
  state_tally = tally_back st.tally f.tally 32 (front_bytes st) (old_bytes st.old) (front_length st)

  state_old : old_at (state_bytes st) ≡ Some st.old
  unfolding state_bytes
  state_old =
      rw (← append_assoc (front_bytes st) (tally_bytes st.tally) (old_bytes st.old))
      (old_back st.old f.old (front_bytes st ++ tally_bytes st.tally) (simp (length-append, front_length, tally_length)))

  -- what is written as a state is read as that state
  pub state_back : state_at (state_bytes st) ≡ Some st
  unfolding state_at
  state_back = rw (eq-eqb (length (state_bytes st)) state_length (state_length_lem st), state_old, state_set.first, state_set.second, state_times.first, state_times.second, state_tally)

-- ---- what is read is written as the same bytes, and its numbers fit their fields

module _ (s : List ℕ) (b : Bytes s) where
  tag_same : (at : ℕ) → at + 16 ≤ length s → tag_bytes (tag_at s at) ≡ part s at 16
  unfolding tag_bytes tag_at
  tag_same at h = two_back s at b h

  tag_fits : (at : ℕ) → TagFits (tag_at s at)
  unfolding tag_at
  tag_fits at = record { t0 = number_lt 8 s at b; t1 = number_lt 8 s (at + 8) b }

  tally_same : (at : ℕ) → at + 48 ≤ length s → tally_bytes (tally_at s at) ≡ part s at 48
  unfolding tally_bytes tally_at
  tally_same at h =
      part_step s at 8 (at + 8) 40 48 _ _ (bytes_back 8 s at b (omega arith))
      (part_step s (at + 8) 8 (at + 16) 32 40 _ _ (bytes_back 8 s (at + 8) b (omega arith))
      (part_step s (at + 16) 16 (at + 32) 16 32 _ _ (tag_same (at + 16) (omega arith)) (tag_same (at + 32) (omega arith)) (omega arith) refl)
      (omega arith) refl)
      refl refl

  tally_fits : (at : ℕ) → TallyFits (tally_at s at)
  unfolding tally_at
  tally_fits at = record { adds = number_lt 8 s at b; evicts = number_lt 8 s (at + 8) b; addsum = tag_fits (at + 16); evictsum = tag_fits (at + 32) }

  -- an old epoch stands at its place
  record OldThere (o : Option Tally) : Type 0 where
    bytes : old_bytes o ≡ part s 80 49
    fits : OldFits o

  record StateThere (st : State) : Type 0 where
    bytes : state_bytes st ≡ s
    fits : StateFits st

  module _ (h : length s ≡ state_length) where
    mark_same : (x : ℕ) → get_or s 80 0 ≡ x → x ∷ [] ≡ part s 80 1
    mark_same x e = sym (part_one s 80 (omega arith) ∙ rw e)

    zeros_same : all_zero (drop 81 s) ≡ true → zeros 48 ≡ part s 81 48
    zeros_same z =
        let n : length s - 81 ≡ 48 = omega arith in
        sym (ap (part s 81) (sym n) ∙ part_rest s 81 ∙ zero_all (drop 81 s) z ∙ ap zeros (length-drop 81 s ∙ n))

    old_moved : (x y : Option Tally) → OldThere x → Some x ≡ Some y → OldThere y
    old_moved x y t e = let p : x ≡ y = cc in rw p at t

    old_same : (o : Option Tally) → old_at s ≡ Some o → OldThere o
    unfolding old_at old_bytes
    old_same o e =
        picked (eqb (get_or s 80 0) 0) _ _ _ e
        (λ m q. picked (all_zero (drop 81 s)) _ _ _ q
        (λ z u. old_moved None o (record { bytes = part_step s 80 1 81 48 49 (0 ∷ []) _ (mark_same 0 (eqb-true _ _ m)) (zeros_same z) refl refl; fits = tt }) u)
        (λ _ u. never cc))
        λ _ q. picked (eqb (get_or s 80 0) 1) _ _ _ q
        (λ m u. old_moved (Some (tally_at s 81)) o
        (record { bytes = part_step s 80 1 81 48 49 (1 ∷ []) _ (mark_same 1 (eqb-true _ _ m)) (tally_same 81 (omega arith)) refl refl; fits = tally_fits 81 }) u)
        (λ _ u. never cc)

    state_there : (o : Option Tally) → OldThere o → StateThere (state_of s o)
    unfolding state_bytes front_bytes set_bytes
    state_there o t =
        record {
          bytes =
              part_step s 0 32 32 97 129 _ _ (part_step s 0 16 16 16 32 _ _ (two_back s 0 b (omega arith)) (two_back s 16 b (omega arith)) refl refl)
              (part_step s 32 48 80 49 97 _ _ (tally_same 32 (omega arith)) t.bytes refl refl) refl refl
              ∙ rw (← h) (take-length s);
          fits =
              record {
                k0 = number_lt 8 s 0 b;
                k1 = number_lt 8 s 8 b;
                clock = number_lt 8 s 16 b;
                epoch = number_lt 8 s 24 b;
                tally = tally_fits 32;
                old = t.fits;
              };
        }

  there : (st : State) → state_at s ≡ Some st → StateThere st
  unfolding state_at
  there st e = picked (eqb (length s) state_length) _ _ _ e (λ l q. go (eqb-true _ _ l) (old_at s) refl q) (λ _ q. never cc)
    where
      go : length s ≡ state_length → (r : Option (Option Tally)) → old_at s ≡ r → state_with s r ≡ Some st → StateThere st
      go h None p q = never cc
      go h (Some o) p q = let same : state_of s o ≡ st = cc in rw same at (state_there h o (old_same h o p))

  -- what is read as a state is written as the same bytes
  pub state_same : (st : State) → state_at s ≡ Some st → state_bytes st ≡ s
  state_same st e = (there st e).bytes

  pub state_fits : (st : State) → state_at s ≡ Some st → StateFits st
  state_fits st e = (there st e).fits
