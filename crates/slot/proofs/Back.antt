-- What is written as a slot is read as that slot; what is read as a record is well formed and is written as the same bytes.
-- Assumes nothing.
use Prim.Native.Nat.{ℕ, ◌+◌, ◌-◌, ◌≤◌}
use mathlib.Core.Path.{◌≡◌, refl, ap, sym, ◌∙◌}
use mathlib.Core.List.{List, [], ◌∷◌, ◌++◌, append_assoc}
use mathlib.Core.Bool.{true}
use native.Mathlib.Omega.{arith}
use lib.Dec.{eqb, ltb}
use lib.ListN.{length, get_or, take, drop, length-append, length-drop, take-append-drop}
use lib.Seq.{drop_at, length-take-le}
use borrow.Author.Tests.{ne_eqb, le-ltb, eqb-false, ltb-false}
use Rattle.std.specs.Prelude.{Option, Some, None}
use Rattle.words.specs.Numbers.{zeros, Bytes}
use Rattle.words.proofs.Laws.{picked, part_one, part_step, never}
use Rattle.key.specs.Keys.{key_at, key_bytes, well_key, KeyFits}
use Rattle.key.specs.declared.Key.{Key}
use Rattle.key.proofs.Laws.{key_back, key_length, key_same, key_well, key_fits}
use Rattle.value.specs.Values.{value_at, value_bytes, well_value, ValueFits}
use Rattle.value.specs.declared.Value.{Value}
use Rattle.value.proofs.Back.{value_back}
use Rattle.value.proofs.Same.{value_same}
use Rattle.slot.specs.Slots.{slot_length, filled, slot_bytes, all_zero, slot_end, slot_then, slot_at}
use Rattle.slot.specs.declared.Slot.TheVariants.{Free, Full}
use Rattle.slot.proofs.Laws.{all_zero_lem, zero_all}

-- a slot of zeros is free
pub zero_slot : slot_at (zeros slot_length) ≡ Free
unfolding slot_at zeros
zero_slot = rw (all_zero_lem slot_length)

-- ---- what a slot is read from

pub record SlotRead (s : List ℕ) (o : ℕ) (k : Key) (x : Value) : Type 0 where
  pub used : ℕ
  pub first : get_or s 0 0 ≡ o
  pub low : 1 ≤ o
  pub high : o ≤ 2
  pub key : key_at s 1 ≡ Some k
  pub value : value_at s 35 ≡ Some (x, used)
  pub rest : all_zero (drop (35 + used) s) ≡ true

slot_moved : (s : List ℕ) (o p : ℕ) (k j : Key) (x y : Value) → SlotRead s o k x → Full o k x ≡ Full p j y → SlotRead s p j y
slot_moved s o p k j x y t e = let a : o ≡ p = cc in let b : k ≡ j = cc in let c : x ≡ y = cc in rw a at (rw b at (rw c at t))

pub slot_read : (s : List ℕ) (o : ℕ) (k : Key) (x : Value) → slot_at s ≡ Full o k x → SlotRead s o k x
unfolding slot_at
slot_read s o k x e =
    picked (eqb (get_or s 0 0) 0) _ _ _ e
    (λ _ q. picked (all_zero (drop 0 s)) _ _ _ q (λ _ u. never cc) (λ _ u. never cc))
    λ a q. picked (ltb 2 (get_or s 0 0)) _ _ _ q (λ _ u. never cc)
    λ b u. key_part (eqb-false _ _ a) (ltb-false _ _ b) (key_at s 1) refl u
  where
    value_part : (get_or s 0 0 ≡ 0 → ⊥) → get_or s 0 0 ≤ 2 → (j : Key) → key_at s 1 ≡ Some j → (r : Option (Value × ℕ)) → value_at s 35 ≡ r
        → slot_end (get_or s 0 0) j s r ≡ Full o k x → SlotRead s o k x
    value_part a b j f None g q = never cc
    value_part a b j f (Some (y, n)) g q =
        picked (all_zero (drop (35 + n) s)) _ _ _ q
        (λ z u. slot_moved s _ o j k y x (record { used = n; first = refl; low = omega arith; high = b; key = f; value = g; rest = z }) u)
        (λ _ u. never cc)

    key_part : (get_or s 0 0 ≡ 0 → ⊥) → get_or s 0 0 ≤ 2 → (r : Option Key) → key_at s 1 ≡ r → slot_then (get_or s 0 0) s r ≡ Full o k x → SlotRead s o k x
    key_part a b None g q = never cc
    key_part a b (Some j) g q = value_part a b j g (value_at s 35) refl q

-- ---- what is read as a record is well formed

-- a record as a slot holds it
pub record Kept (o : ℕ) (k : Key) (x : Value) : Type 0 where
  pub low : 1 ≤ o
  pub high : o ≤ 2
  pub key : well_key k ≡ true
  pub value : well_value x ≡ true
  pub key_fits : KeyFits k
  pub value_fits : ValueFits x

module _ (s : List ℕ) (o : ℕ) (k : Key) (x : Value) (e : slot_at s ≡ Full o k x) (b : Bytes s) where
  pub slot_kept : Kept o k x
  slot_kept =
      let r = slot_read s o k x e in
      let v = value_same s 35 b x r.used r.value in
      record {
        low = r.low;
        high = r.high;
        key = key_well s 1 k r.key;
        value = v.well;
        key_fits = key_fits s 1 k r.key b;
        value_fits = v.fits;
      }

  -- and is written as the same bytes
  pub slot_same : length s ≡ slot_length → slot_bytes o k x ≡ s
  unfolding slot_bytes
  slot_same h =
      let r = slot_read s o k x e in
      let n = r.used in
      let v = value_same s 35 b x n r.value in
      let c : (o ∷ []) ++ (key_bytes k ++ value_bytes x) ≡ take (35 + n) s =
      part_step s 0 1 1 (34 + n) (35 + n) (o ∷ []) _ (sym (part_one s 0 (omega arith) ∙ rw r.first))
      (part_step s 1 34 35 n (34 + n) (key_bytes k) (value_bytes x) (key_same s 1 k r.key b (omega arith)) v.bytes refl refl) refl (omega arith) in
      let m : length (take (35 + n) s) ≡ 35 + n = length-take-le (35 + n) s v.within in
      let z : zeros (slot_length - length (take (35 + n) s)) ≡ drop (35 + n) s =
      ap zeros (rw (m, ← h) (sym (length-drop (35 + n) s))) ∙ sym (zero_all (drop (35 + n) s) r.rest) in
      ap filled c ∙ ap (λ (l : List ℕ). take (35 + n) s ++ l) z ∙ take-append-drop (35 + n) s

-- ---- what is written is read

module _ (o : ℕ) (k : Key) (x : Value) (kept : Kept o k x) where
  rest : List ℕ
  rest = zeros (slot_length - length ((o ∷ []) ++ (key_bytes k ++ value_bytes x)))

  written : slot_bytes o k x ≡ (o ∷ []) ++ (key_bytes k ++ (value_bytes x ++ rest))
  unfolding slot_bytes rest
  written = simp append_assoc

  front : (r : List ℕ) → (o ∷ []) ++ (key_bytes k ++ r) ≡ ((o ∷ []) ++ key_bytes k) ++ r
  front r = sym (append_assoc (o ∷ []) (key_bytes k) r)

  front_length : length ((o ∷ []) ++ key_bytes k) ≡ 35
  front_length = length-append (o ∷ []) (key_bytes k) ∙ ap (λ (n : ℕ). 1 + n) (key_length k)

  written_value : value_at ((o ∷ []) ++ (key_bytes k ++ (value_bytes x ++ rest))) 35 ≡ Some (x, length (value_bytes x))
  written_value =
      ap (λ (l : List ℕ). value_at l 35) (front (value_bytes x ++ rest))
      ∙ value_back 35 ((o ∷ []) ++ key_bytes k) rest front_length x kept.value_fits kept.value

  written_rest : all_zero (drop (35 + length (value_bytes x)) ((o ∷ []) ++ (key_bytes k ++ (value_bytes x ++ rest)))) ≡ true
  unfolding rest
  written_rest =
      ap all_zero
      (ap (drop (35 + length (value_bytes x))) (front (value_bytes x ++ rest) ∙ sym (append_assoc ((o ∷ []) ++ key_bytes k) (value_bytes x) rest))
      ∙ drop_at (((o ∷ []) ++ key_bytes k) ++ value_bytes x) rest _
      (length-append ((o ∷ []) ++ key_bytes k) (value_bytes x) ∙ ap (λ (n : ℕ). n + length (value_bytes x)) front_length))
      ∙ all_zero_lem (slot_length - length ((o ∷ []) ++ (key_bytes k ++ value_bytes x)))

  pub slot_back : slot_at (slot_bytes o k x) ≡ Full o k x
  unfolding slot_at
  slot_back =
      rw (written, ne_eqb o 0 (λ e. omega (arith, kept.low)), le-ltb 2 o kept.high, key_back k kept.key_fits 1 (o ∷ []) (value_bytes x ++ rest) refl kept.key, written_value, written_rest)
