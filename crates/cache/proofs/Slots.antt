-- The slots of a cache after one of them was written, and of its first so many. Assumes nothing.
use Prim.Native.Nat.{ℕ, ◌+◌, ◌*◌, ◌-◌, ◌/◌, ◌≤◌, ◌<◌}
use mathlib.Core.Path.{◌≡◌, ap, sym, ◌∙◌}
use mathlib.Core.List.{List, ◌++◌, append_assoc}
use native.Mathlib.Omega.{arith}
use native.Mathlib.Decide.{dec_lt}
use native.Mathlib.Nat.{div-mul-le_self, mul-div_cancel}
use lib.Dec.{lit<}
use lib.ListN.{length, take, drop, length-append, length-drop, take-append-drop}
use lib.Seq.{take_at, drop_at, take-append-le, drop-append-le, drop-append-add, drop-drop, length-take-le}
use Rattle.words.specs.Numbers.{zeros, Bytes}
use Rattle.words.specs.Splices.{part, splice}
use Rattle.words.proofs.Laws.{splice_length, zeros_length, append_bytes, drop_bytes, part_bytes}
use Rattle.key.specs.declared.Key.{Key}
use Rattle.value.specs.declared.Value.{Value}
use Rattle.slot.specs.Slots.{slot_length, slot_at, slot_bytes}
use Rattle.slot.specs.declared.Slot.TheVariants as sl
use Rattle.slot.proofs.Laws.{slot_length_lem}
use Rattle.slot.proofs.Back.{Kept, slot_back, zero_slot}
use Rattle.cache.specs.Caches.{well_length, count, slot_in, put_slot, free_slot}

-- ---- parts of lists and of splices

-- a part that ends before p does
pub part_front : (p r : List ℕ) (a m : ℕ) → a + m ≤ length p → part (p ++ r) a m ≡ part p a m
part_front p r a m h = rw (drop-append-le a p r (omega arith)) (take-append-le m (drop a p) r (rw length-drop (omega arith)))

-- a part of the first n bytes
pub part_take : (s : List ℕ) (n a m : ℕ) → a + m ≤ n → n ≤ length s → part (take n s) a m ≡ part s a m
part_take s n a m h g =
    sym (part_front (take n s) (drop n s) a m (rw (length-take-le n s g) h)) ∙ ap (λ (l : List ℕ). part l a m) (take-append-drop n s)

drop_behind : (p r : List ℕ) (n a : ℕ) → length p ≡ n → n ≤ a → drop a (p ++ r) ≡ drop (a - n) r
drop_behind p r n a e h =
    let f : length p + (a - n) ≡ a = omega arith in
    ap (λ (j : ℕ). drop j (p ++ r)) (sym f) ∙ drop-append-add p r (a - n)

module _ (d v : List ℕ) (at n : ℕ) (e : length v ≡ n) (fits : at + n ≤ length d) where
  front : length (take at d) ≡ at
  front = length-take-le at d (omega arith)

  -- what was put in
  pub part_put : part (splice d at v) at n ≡ v
  unfolding splice
  part_put = rw (drop_at (take at d) (v ++ drop (at + length v) d) at front) (take_at v (drop (at + length v) d) n e)

  -- what stands before it
  pub part_before : (a m : ℕ) → a + m ≤ at → part (splice d at v) a m ≡ part d a m
  unfolding splice
  part_before a m h = part_front (take at d) (v ++ drop (at + length v) d) a m (rw front h) ∙ part_take d at a m h (omega arith)

  -- what stands after it
  pub part_after : (a m : ℕ) → at + n ≤ a → part (splice d at v) a m ≡ part d a m
  unfolding splice
  part_after a m h =
      let f : at + length v + (a - (at + n)) ≡ a = omega arith in
      ap (take m)
      (ap (drop a) (sym (append_assoc (take at d) v (drop (at + length v) d)))
      ∙ drop_behind (take at d ++ v) (drop (at + length v) d) (at + n) a (simp (length-append, front, e)) h
      ∙ drop-drop (a - (at + n)) (at + length v) d
      ∙ ap (λ (j : ℕ). drop j d) f)

-- bytes put in the place of others
pub splice_bytes : (d v : List ℕ) (at : ℕ) → Bytes d → Bytes v → Bytes (splice d at v)
unfolding splice
splice_bytes d v at p q =
    append_bytes (take at d) (v ++ drop (at + length v) d) (part_bytes d 0 at p)
    (append_bytes v (drop (at + length v) d) q (drop_bytes d (at + length v) p))

-- ---- slots

-- a slot below the count lies within
pub slot_within : (c : List ℕ) (i : ℕ) → i < count c → i * slot_length + slot_length ≤ length c
slot_within c i h = omega (arith, div-mul-le_self (length c) slot_length)

-- slot i written with any 192 bytes
module _ (c b : List ℕ) (i : ℕ) (e : length b ≡ slot_length) (h : i < count c) where
  pub written_here : slot_in (splice c (i * slot_length) b) i ≡ slot_at b
  written_here = ap slot_at (part_put c b (i * slot_length) slot_length e (slot_within c i h))

  pub written_other : (j : ℕ) → (j ≡ i → ⊥) → slot_in (splice c (i * slot_length) b) j ≡ slot_in c j
  written_other j ne = elim (dec_lt j i) [
    | yes l ↦ ap slot_at (part_before c b (i * slot_length) slot_length e (slot_within c i h) (j * slot_length) slot_length (omega arith))
    | no l ↦ ap slot_at (part_after c b (i * slot_length) slot_length e (slot_within c i h) (j * slot_length) slot_length (omega arith))
  ]

  pub written_length : length (splice c (i * slot_length) b) ≡ length c
  written_length = splice_length c b (i * slot_length) slot_length e (slot_within c i h)

-- a record put into slot i
module _ (c : List ℕ) (i o : ℕ) (k : Key) (x : Value) (h : i < count c) where
  pub put_here : Kept o k x → slot_in (put_slot c i o k x) i ≡ sl.Full o k x
  put_here kept = written_here c (slot_bytes o k x) i (slot_length_lem o k x) h ∙ slot_back o k x kept

  pub put_other : (j : ℕ) → (j ≡ i → ⊥) → slot_in (put_slot c i o k x) j ≡ slot_in c j
  put_other = written_other c (slot_bytes o k x) i (slot_length_lem o k x) h

  pub put_length : length (put_slot c i o k x) ≡ length c
  put_length = written_length c (slot_bytes o k x) i (slot_length_lem o k x) h

  pub put_count : count (put_slot c i o k x) ≡ count c
  put_count = ap (λ (n : ℕ). n / slot_length) put_length

-- slot i freed
module _ (c : List ℕ) (i : ℕ) (h : i < count c) where
  pub free_here : slot_in (free_slot c i) i ≡ sl.Free
  free_here = written_here c (zeros slot_length) i (zeros_length slot_length) h ∙ zero_slot

  pub free_other : (j : ℕ) → (j ≡ i → ⊥) → slot_in (free_slot c i) j ≡ slot_in c j
  free_other = written_other c (zeros slot_length) i (zeros_length slot_length) h

  pub free_length : length (free_slot c i) ≡ length c
  free_length = written_length c (zeros slot_length) i (zeros_length slot_length) h

  pub free_count : count (free_slot c i) ≡ count c
  free_count = ap (λ (n : ℕ). n / slot_length) free_length

-- 28 looks at the length alone
pub length_well : (c d : List ℕ) → length c ≡ length d → well_length c ≡ well_length d
unfolding well_length
length_well c d e = rw e

-- ---- the first i slots

module _ (c : List ℕ) (i : ℕ) (h : i ≤ count c) where
  whole : i * slot_length ≤ length c
  whole = omega (arith, div-mul-le_self (length c) slot_length)

  pub first_count : count (take (i * slot_length) c) ≡ i
  first_count = rw (length-take-le (i * slot_length) c whole) (mul-div_cancel i (lit< tt))

  pub first_slot : (j : ℕ) → j < i → slot_in (take (i * slot_length) c) j ≡ slot_in c j
  first_slot j l = ap slot_at (part_take c (i * slot_length) (j * slot_length) slot_length (omega arith) whole)
