-- What it says that a key is held, or is not. Assumes nothing.
use Prim.Native.Nat.{ℕ, zero, suc, ◌+◌, ◌*◌, ◌<◌}
use mathlib.Core.Path.{◌≡◌, refl, ap, sym, ◌∙◌}
use mathlib.Core.List.{List}
use mathlib.Core.Bool.{Bool, true, false, true≢false}
use native.Mathlib.Omega.{arith}
use lib.ListN.{take, drop}
use lib.Seq.{drop-drop}
use Rattle.words.proofs.Laws.{picked}
use Rattle.key.specs.declared.Key.{Key}
use Rattle.key.proofs.Laws.{key_eq_true, key_eq_refl}
use Rattle.value.specs.declared.Value.{Value}
use Rattle.slot.specs.Slots.{slot_length, slot_at}
use Rattle.slot.specs.declared.Slot.{Slot}
use Rattle.slot.specs.declared.Slot.TheVariants as sl
use Rattle.cache.specs.Caches.{count, slot_in, slot_has, held_in, held}

-- a slot past the first
slot_next : (c : List ℕ) (i : ℕ) → slot_in (drop slot_length c) i ≡ slot_in c (suc i)
slot_next c i =
    let f : slot_length + i * slot_length ≡ suc i * slot_length = omega arith in
    ap (λ (l : List ℕ). slot_at (take slot_length l)) (drop-drop (i * slot_length) slot_length c ∙ ap (λ (j : ℕ). drop j c) f)

-- one of the first n slots holds the key
pub record Found (n : ℕ) (c : List ℕ) (k : Key) : Type 0 where
  pub place : ℕ
  pub below : place < n
  pub has : slot_has (slot_in c place) k ≡ true

found_in : (n : ℕ) (c : List ℕ) (k : Key) → held_in n c k ≡ true → Found n c k
unfolding held_in
found_in zero c k e = absurd (true≢false (sym e))
found_in (suc n) c k e =
    picked (slot_has (slot_at (take slot_length c)) k) _ _ _ e (λ h _. record { place = 0; below = omega arith; has = h })
    (λ _ q. let f = found_in n (drop slot_length c) k q in
    record { place = suc f.place; below = omega (arith, f.below); has = ap (λ (x : Slot). slot_has x k) (sym (slot_next c f.place)) ∙ f.has })

nowhere_in : (n : ℕ) (c : List ℕ) (k : Key) → held_in n c k ≡ false → (i : ℕ) → i < n → slot_has (slot_in c i) k ≡ false
unfolding held_in
nowhere_in zero c k e i h = absurd (omega arith)
nowhere_in (suc n) c k e zero h = picked (slot_has (slot_at (take slot_length c)) k) _ _ _ e (λ _ q. absurd (true≢false q)) (λ q _. q)
nowhere_in (suc n) c k e (suc i) h =
    picked (slot_has (slot_at (take slot_length c)) k) _ _ _ e (λ _ q. absurd (true≢false q))
    (λ _ q. ap (λ (x : Slot). slot_has x k) (sym (slot_next c i)) ∙ nowhere_in n (drop slot_length c) k q i (omega arith))

-- ---- a slot that holds a key is full of it

pub record Full (x : Slot) (k : Key) : Type 0 where
  pub origin : ℕ
  pub value : Value
  pub full : x ≡ sl.Full origin k value

pub has_full : (x : Slot) (k : Key) → slot_has x k ≡ true → Full x k
has_full sl.Free k e = absurd (true≢false (sym e))
has_full sl.Bad k e = absurd (true≢false (sym e))
has_full (sl.Full o j v) k e = record { origin = o; value = v; full = ap (λ (i : Key). sl.Full o i v) (key_eq_true j k e) }

pub full_has : (x : Slot) (o : ℕ) (k : Key) (v : Value) → x ≡ sl.Full o k v → slot_has x k ≡ true
full_has x o k v e = ap (λ (y : Slot). slot_has y k) e ∙ key_eq_refl k

module _ (c : List ℕ) (k : Key) where
  -- a key that is held is in a slot
  pub held_found : held c k ≡ true → Found (count c) c k
  unfolding held
  held_found e = found_in (count c) c k e

  -- one that is not held is in none
  pub held_nowhere : held c k ≡ false → (i o : ℕ) (x : Value) → i < count c → slot_in c i ≡ sl.Full o k x → ⊥
  unfolding held
  held_nowhere e i o x h f = true≢false (sym (full_has (slot_in c i) o k x f) ∙ nowhere_in (count c) c k e i h)

  -- and one that is in no slot is not held
  pub nowhere_held : ((i o : ℕ) (x : Value) → i < count c → slot_in c i ≡ sl.Full o k x → ⊥) → held c k ≡ false
  nowhere_held f = go (held c k) refl
    where
      go : (b : Bool) → held c k ≡ b → b ≡ false
      go false e = refl
      go true e =
          let s = held_found e in
          let g = has_full (slot_in c s.place) k s.has in
          absurd (f s.place g.origin g.value s.below g.full)
