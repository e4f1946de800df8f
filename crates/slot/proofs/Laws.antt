-- Laws of a slot as it is written: zeros, the tail's test, its length and its bytes. Assumes nothing.
use Prim.Native.Nat.{ℕ, zero, suc, ◌-◌, ◌≤◌, ◌<◌}
use mathlib.Core.Path.{◌≡◌, refl, ap, sym, ◌∙◌}
use mathlib.Core.List.{List, [], ◌∷◌, ◌++◌}
use mathlib.Core.Bool.{true}
use native.Mathlib.Omega.{arith}
use native.Mathlib.Nat.{suc-sub-suc, sub-zero, zero-sub, zero-add}
use lib.Dec.{eqb, lit<}
use lib.ListN.{length, take, drop, length-append}
use borrow.Author.Tests.{ne_eqb, eqb-true}
use Rattle.std.specs.Prelude.{bit_or, fold}
use Rattle.std.specs.Int.Bits.{or_zero_l}
use Rattle.std.proofs.lemmas.Nat.{le_or_l}
use Rattle.std.proofs.Math.Bool.{and-true, and_assoc}
use Rattle.words.specs.Choice.{both}
use Rattle.words.specs.Numbers.{zeros, Bytes}
use Rattle.words.specs.Splices.{splice}
use Rattle.words.proofs.Laws.{both_true, zeros_length, no_bytes, one_byte, append_bytes}
use Rattle.key.specs.Keys.{key_bytes}
use Rattle.key.specs.declared.Key.{Key}
use Rattle.key.proofs.Laws.{key_length}
use Rattle.value.specs.declared.Value.{Value}
use Rattle.value.specs.Values.{value_bytes}
use Rattle.value.proofs.Laws.{value_length_lem}
use Rattle.value.proofs.Written.{then, one, key, value}
use Rattle.slot.specs.Slots.{slot_length, all_zero, filled, slot_bytes}

-- ---- the test of zeros

or_zero : (x y : ℕ) → eqb (bit_or x y) 0 ≡ both (eqb x 0) (eqb y 0)
or_zero zero y = rw (or_zero_l y)
or_zero (suc x) y = rw (ne_eqb (suc x) 0 (λ e. omega arith), ne_eqb (bit_or (suc x) y) 0 (λ e. omega (arith, le_or_l (suc x) y)))

or_from : (x : ℕ) (s : List ℕ) → eqb (fold bit_or x s) 0 ≡ both (eqb x 0) (all_zero s)
unfolding all_zero
or_from x [] = sym (and-true (eqb x 0))
or_from x (y ∷ s) = rw (or_from (bit_or x y) s, or_zero x y, and_assoc (eqb x 0) (eqb y 0) (all_zero s))

-- bytes are all zero where no bit of any is set
pub none_set : (s : List ℕ) → eqb (fold bit_or 0 s) 0 ≡ all_zero s
none_set s = or_from 0 s

-- zeros are all zero, and what is all zero is zeros
pub all_zero_lem : (n : ℕ) → all_zero (zeros n) ≡ true
unfolding all_zero zeros
all_zero_lem zero = refl
all_zero_lem (suc n) = all_zero_lem n

pub zero_all : (s : List ℕ) → all_zero s ≡ true → s ≡ zeros (length s)
unfolding all_zero zeros
zero_all [] e = refl
zero_all (x ∷ s) e =
    let b = both_true (eqb x 0) (all_zero s) e in
    let p : x ≡ 0 = eqb-true x 0 b.0 in
    let q = zero_all s b.1 in
    cc

-- ---- what is written over zeros

pub drop_zeros : (n m : ℕ) → drop n (zeros m) ≡ zeros (m - n)
unfolding zeros
drop_zeros zero m = rw sub-zero
drop_zeros (suc n) zero = rw zero-sub
drop_zeros (suc n) (suc m) = rw suc-sub-suc (drop_zeros n m)

pub take_zeros : (n m : ℕ) → n ≤ m → take n (zeros m) ≡ zeros n
unfolding zeros
take_zeros zero m h = refl
take_zeros (suc n) zero h = absurd (omega arith)
take_zeros (suc n) (suc m) h = ap (λ (l : List ℕ). 0 ∷ l) (take_zeros n m (omega arith))

pub splice_zeros : (n : ℕ) (c : List ℕ) → splice (zeros n) 0 c ≡ c ++ zeros (n - length c)
unfolding splice
splice_zeros n c = rw (zero-add, drop_zeros (length c) n)

pub over_zeros : (d r c : List ℕ) → d ≡ zeros slot_length → r ≡ splice d 0 c → r ≡ filled c
over_zeros d r c p q = q ∙ ap (λ (l : List ℕ). splice l 0 c) p ∙ splice_zeros slot_length c

filled_length : (c : List ℕ) → length c ≤ slot_length → length (filled c) ≡ slot_length
filled_length c h = simp (length-append, zeros_length) (omega arith)

pub slot_length_lem : (o : ℕ) (k : Key) (v : Value) → length (slot_bytes o k v) ≡ slot_length
unfolding slot_bytes
slot_length_lem o k v =
    filled_length ((o ∷ []) ++ (key_bytes k ++ value_bytes v)) (simp (length-append, key_length) (omega (arith, value_length_lem v)))

-- ---- what is written is bytes

pub zeros_bytes : (n : ℕ) → Bytes (zeros n)
unfolding zeros
zeros_bytes zero = no_bytes
zeros_bytes (suc n) = append_bytes (0 ∷ []) (zeros n) (one_byte 0 (lit< tt)) (zeros_bytes n)

pub slot_bytes_lem : (o : ℕ) (k : Key) (v : Value) → o < 256 → Bytes (slot_bytes o k v)
unfolding slot_bytes
slot_bytes_lem o k v h =
    (then (then (one o h) (then (key k) (value v)))
    (record { bytes = zeros_bytes (slot_length - length ((o ∷ []) ++ (key_bytes k ++ value_bytes v))) })
    ).bytes
