-- A slot whose key begins with another word does not hold the key. Assumes nothing.
use Prim.Native.Nat.{ℕ}
use mathlib.Core.Path.{◌≡◌, refl, ap, ◌∙◌}
use mathlib.Core.List.{List}
use mathlib.Core.Bool.{Bool, true, false}
use Rattle.std.specs.Prelude.{Some}
use Rattle.words.specs.Numbers.{number_at}
use Rattle.words.proofs.Laws.{picked, never}
use Rattle.key.specs.Keys.{key_at, raw_key, well_key, key_eq}
use Rattle.key.specs.declared.Key.{Key}
use Rattle.key.proofs.Laws.{key_eq_true}
use Rattle.slot.specs.Slots.{slot_at}
use Rattle.slot.specs.declared.Slot.{Slot}
use Rattle.slot.specs.declared.Slot.TheVariants as sl
use Rattle.slot.proofs.Back.{slot_read}
use Rattle.cache.specs.Caches.{slot_has}

-- a slot whose key begins with another word does not hold the key
key_word : (s : List ℕ) (k : Key) → key_at s 1 ≡ Some k → number_at 8 s 3 ≡ k.w0
unfolding key_at raw_key
key_word s k e =
    picked (well_key (raw_key s 1)) _ _ _ e (λ _ q. let h : raw_key s 1 ≡ k = cc in ap (λ (j : Key). j.w0) h)
    (λ _ q. never cc)

pub other_word : (s : List ℕ) (k : Key) → (number_at 8 s 3 ≡ k.w0 → ⊥) → false ≡ slot_has (slot_at s) k
other_word s k h = go (slot_at s) refl
  where
    go : (x : Slot) → slot_at s ≡ x → false ≡ slot_has x k
    go sl.Free e = refl
    go sl.Bad e = refl
    go (sl.Full o j v) e = not (key_eq j k) refl
      where
        not : (b : Bool) → key_eq j k ≡ b → false ≡ b
        not true q = absurd (h (key_word s j (slot_read s o j v e).key ∙ ap (λ (i : Key). i.w0) (key_eq_true j k q)))
        not false q = refl
