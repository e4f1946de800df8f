-- Refinement, the values that stood: what the lane's cache holds stands in a slot, and what stood is well formed, so that different values have
-- different bytes, and equal digests are equal SHA-256.
use mathlib.Core.Path.{◌≡◌, refl, sym, ◌∙◌, ap}
use mathlib.Core.Logic.{◌⊎◌, inl, inr}
use mathlib.Core.Bool.{true}
use mathlib.Core.Option.{some, none-ne-some, some-injective}
use mathlib.Core.List.Memᴰ
use mathlib.Core.List.{List, [], ◌∷◌, ◌++◌, Memᴰ}
use Prim.Native.Nat.{ℕ, zero, suc}
use native.Mathlib.Omega.{arith}
use lib.ListN.{length, take, drop, length-append}
use lib.Seq.{take-length}
use Rattle.words.specs.Numbers.{Bytes}
use Rattle.words.proofs.Laws.{both_true, bytes_length, part_bytes, drop_bytes}
use Rattle.sha256.specs.Sha256.{sha256}
use Rattle.key.specs.Keys.{well_key, is_data}
use Rattle.value.specs.Values.{value_bytes, well_value, ValueFits, digest_bytes}
use Rattle.value.proofs.Same.{digest_same}
use Rattle.entry.specs.Entries.{well_entry}
use Rattle.entry.specs.declared.Entry.{Entry}
use Rattle.entry.specs.declared.Entry.TheVariants.{AddTree, AddDeferred, EvictTree, EvictDeferred, EvictTreeDeferred, Get, Absent, Put, Advance, Close}
use Rattle.writer.specs.Writings.{EntryFits}
use Rattle.hash.specs.Hashes.{digest_of}
use Rattle.hash.proofs.Laws.{sha_bytes}
use Rattle.slot.specs.Slots as slot
use Rattle.slot.specs.declared.Slot.{Slot}
use Rattle.slot.specs.declared.Slot.TheVariants as sl
use Rattle.slot.proofs.Back.{slot_kept}
use Rattle.integrity.specs.Statement.{value_in, slot_value, cache_values}
use Rattle.integrity.proofs.Ancestors.{Key}
use Rattle.integrity.proofs.Updates.{Is, is, isnt, view}
use Rattle.integrity.proofs.Updates as updates
use Rattle.integrity.proofs.Records.{Value, Cell}
use Rattle.integrity.proofs.Slots.{look}
use Rattle.integrity.proofs.Caches.{rec_of, slots_of}

-- ---- lists

module _ {A : Type 0} {x : A} where
  pub mem_left : (a b : List A) → Memᴰ x a → Memᴰ x (a ++ b)
  mem_left [] b h = absurd (Memᴰ.not-nil h)
  mem_left (y ∷ a) b h = elim (Memᴰ.cases_cons h) [ inl e ↦ Memᴰ.head e | inr g ↦ Memᴰ.tail (mem_left a b g) ]

  pub mem_right : (a b : List A) → Memᴰ x b → Memᴰ x (a ++ b)
  mem_right [] b h = h
  mem_right (y ∷ a) b h = Memᴰ.tail (mem_right a b h)

  pub mem_split : (a b : List A) → Memᴰ x (a ++ b) → Memᴰ x a ⊎ Memᴰ x b
  mem_split [] b h = inr h
  mem_split (y ∷ a) b h = elim (Memᴰ.cases_cons h) [
    | inl e ↦ inl (Memᴰ.head e)
    | inr g ↦ elim (mem_split a b g) [ inl u ↦ inl (Memᴰ.tail u) | inr u ↦ inr u ]
  ]

-- ---- the cache

-- what is found under a key stands in a slot
pub found_stood : (n : ℕ) (c : List ℕ) (k : Key) (x : Cell) → look (slots_of n c) k ≡ some x → Memᴰ x.value (cache_values n c)
unfolding slots_of look cache_values
found_stood zero c k x e = absurd (none-ne-some x e)
found_stood (suc n) c k x e = go (found_stood n (drop 192 c) k x) (slot.slot_at (take 192 c)) e
  where
    go : (look (slots_of n (drop 192 c)) k ≡ some x → Memᴰ x.value (cache_values n (drop 192 c)))
        → (z : Slot) → look (rec_of z ∷ slots_of n (drop 192 c)) k ≡ some x → Memᴰ x.value (slot_value z ++ cache_values n (drop 192 c))
    go rest sl.Free e = rest e
    go rest sl.Bad e = rest e
    go rest (sl.Full o j y) e = at (view j k) rest e
      where
        at : {q : Key} (w : Is j q) → (look (slots_of n (drop 192 c)) q ≡ some x → Memᴰ x.value (cache_values n (drop 192 c)))
            → updates.pick w (some (record { origin = o; value = y })) (look (slots_of n (drop 192 c)) q) ≡ some x → Memᴰ x.value (y ∷ cache_values n (drop 192 c))
        at is f e = Memᴰ.head (sym (ap (λ (d : Cell). d.value) (some-injective _ _ e)))
        at (isnt m) f e = Memᴰ.tail (f e)

-- ---- what stood is well formed

pub record Sound (v : Value) : Type 0 where
  pub well : well_value v ≡ true
  pub fits : ValueFits v

pub values_sound : (n : ℕ) (c : List ℕ) → Bytes c → (v : Value) → Memᴰ v (cache_values n c) → Sound v
unfolding cache_values
values_sound zero c b v h = absurd (Memᴰ.not-nil h)
values_sound (suc n) c b v h = elim (mem_split (slot_value (slot.slot_at (take 192 c))) (cache_values n (drop 192 c)) h) [
  | inl g ↦ go (slot.slot_at (take 192 c)) refl g
  | inr g ↦ values_sound n (drop 192 c) (drop_bytes c 192 b) v g
]
  where
    go : (z : Slot) → slot.slot_at (take 192 c) ≡ z → Memᴰ v (slot_value z) → Sound v
    go sl.Free e g = absurd (Memᴰ.not-nil g)
    go sl.Bad e g = absurd (Memᴰ.not-nil g)
    go (sl.Full o k x) e g =
        let k = slot_kept (take 192 c) o k x e (part_bytes c 0 192 b) in
        elim (Memᴰ.cases_cons g) [ inl q ↦ rw q (record { well = k.value; fits = k.value_fits }) | inr u ↦ absurd (Memᴰ.not-nil u) ]

one_sound : (x v : Value) → Sound x → Memᴰ v (x ∷ []) → Sound v
one_sound x v s g = elim (Memᴰ.cases_cons g) [ inl q ↦ rw q s | inr u ↦ absurd (Memᴰ.not-nil u) ]

pub entry_sound : (e : Entry) → well_entry e ≡ true → EntryFits e → (v : Value) → Memᴰ v (value_in e) → Sound v
unfolding well_entry
entry_sound (AddTree s p k x) w f v g = one_sound x v (record { well = (both_true (well_key k) (well_value x) w).1; fits = f.1.1.1 }) g
entry_sound (AddDeferred s e t k x) w f v g = one_sound x v (record { well = (both_true (well_key k) (well_value x) w).1; fits = f.1.1.1.1 }) g
entry_sound (EvictTree s p) w f v g = absurd (Memᴰ.not-nil g)
entry_sound (EvictDeferred s) w f v g = absurd (Memᴰ.not-nil g)
entry_sound (EvictTreeDeferred s p) w f v g = absurd (Memᴰ.not-nil g)
entry_sound (Get s k x) w f v g = one_sound x v (record { well = (both_true (is_data k) (well_value x) w).1; fits = f.1.1 }) g
entry_sound (Absent p k) w f v g = absurd (Memᴰ.not-nil g)
entry_sound (Put s k x) w f v g = one_sound x v (record { well = (both_true (is_data k) (well_value x) w).1; fits = f.1.1 }) g
entry_sound Advance w f v g = absurd (Memᴰ.not-nil g)
entry_sound Close w f v g = absurd (Memᴰ.not-nil g)

-- ---- digests

sha_length : (m : List ℕ) → length (sha256 m) ≡ 32
unfolding sha256
sha_length m = simp (length-append, bytes_length)

-- a digest's four words are the 32 bytes of the SHA-256
pub digest_is : (x : Value) → digest_bytes (digest_of x) ≡ sha256 (value_bytes x)
unfolding digest_of
digest_is x =
    let s = sha256 (value_bytes x) in
    digest_same s 0 (sha_bytes (value_bytes x)) (rw (sha_length (value_bytes x)) (omega arith)) ∙ ap (λ (n : ℕ). take n s) (sym (sha_length (value_bytes x))) ∙ take-length s

pub same_sha : (x y : Value) → digest_of x ≡ digest_of y → sha256 (value_bytes x) ≡ sha256 (value_bytes y)
same_sha x y e = sym (digest_is x) ∙ ap digest_bytes e ∙ digest_is y
