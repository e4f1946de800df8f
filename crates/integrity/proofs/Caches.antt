-- Refinement, the cache's bytes as slots: what writing a slot's 192 bytes makes of them, and what it means that a key is not held.
use Prim.Native.Nat.{ℕ, zero, suc, ◌+◌, ◌*◌, ◌/◌, ◌≤◌, ◌<◌}
use mathlib.Core.Path.{◌≡◌, refl, ap, sym, ◌∙◌, subst}
use mathlib.Core.List.{List, [], ◌∷◌, ◌++◌, append_assoc}
use mathlib.Core.Bool.{false, true≢false}
use mathlib.Core.Option.{Option, none, some}
use native.Mathlib.Omega.{arith}
use native.Mathlib.Nat.{div-mul-le_self}
use lib.ListN.{set, length, length-drop, take, drop, take-append-drop}
use lib.Seq.{take_at, drop_at, take-append-add, drop-append-add, drop-drop, length-take-le}
use Rattle.words.specs.Splices.{splice}
use Rattle.words.specs.Numbers.{zeros}
use Rattle.key.specs.Keys.{key_eq}
use Rattle.slot.specs.Slots as slot
use Rattle.slot.specs.declared.Slot.{Slot}
use Rattle.slot.specs.declared.Slot.TheVariants as sl
use Rattle.cache.specs.Caches.{slot_in, count, put_slot, free_slot, slot_has, held_in}
use Rattle.cache.proofs.Slots.{put_count, written_length}
use Rattle.key.proofs.Laws.{key_eq_refl}
use Rattle.value.specs.declared.Value.{Value}
use Rattle.slot.specs.Slots.{slot_bytes}
use Rattle.slot.proofs.Laws.{slot_length_lem}
use Rattle.slot.proofs.Back.{Kept, zero_slot, slot_back}
use Rattle.integrity.proofs.Ancestors.{Key}
use Rattle.integrity.proofs.Updates.{Is, is, isnt, view}
use Rattle.integrity.proofs.Updates as views
use Rattle.integrity.proofs.Slots.{Rec, Slots, slot_at, look}
use Rattle.words.proofs.Laws.{picked, zeros_length}

abbrev pub rec_of : Slot → Option Rec
rec_of sl.Free = none
rec_of sl.Bad = none
rec_of (sl.Full o k x) = some (record { key = k; cell = record { origin = o; value = x } })

unfoldable pub slots_of : ℕ → List ℕ → Slots
slots_of zero c = []
slots_of (suc n) c = rec_of (slot.slot_at (take 192 c)) ∷ slots_of n (drop 192 c)

-- all of a cache's slots
abbrev pub slots_in : List ℕ → Slots
slots_in c = slots_of (count c) c

pub slots_length : (n : ℕ) (c : List ℕ) → length (slots_of n c) ≡ n
unfolding slots_of
slots_length zero c = refl
slots_length (suc n) c = ap suc (slots_length n (drop 192 c))

pub slot_get : (n : ℕ) (c : List ℕ) (i : ℕ) → i < n → slot_at (slots_of n c) i ≡ rec_of (slot_in c i)
unfolding slots_of
slot_get zero c i h = absurd (omega arith)
slot_get (suc n) c zero h = refl
slot_get (suc n) c (suc i) h =
    let f : 192 + i * 192 ≡ suc i * 192 = omega arith in
    slot_get n (drop 192 c) i (omega arith) ∙ ap (λ l. rec_of (slot.slot_at (take 192 l))) (drop-drop (i * 192) 192 c ∙ ap (λ (j : ℕ). drop j c) f)

-- a slot is written
splice_front : (p r b : List ℕ) (m a : ℕ) → length p ≡ m → splice (p ++ r) (m + a) b ≡ p ++ splice r a b
unfolding splice
splice_front p r b m a e =
    let f : length p + a + length b ≡ length p + (a + length b) = omega arith in
    rw (← e, take-append-add, f, drop-append-add) (append_assoc p (take a r) _)

splice_start : (c b : List ℕ) → splice c 0 b ≡ b ++ drop (0 + length b) c
unfolding splice
splice_start c b = refl

module _ (b : List ℕ) (e : length b ≡ 192) where
  pub slots_set : (n : ℕ) (c : List ℕ) (i : ℕ) → i < n → n * 192 ≤ length c → slots_of n (splice c (i * 192) b) ≡ set (slots_of n c) i (rec_of (slot.slot_at b))
  unfolding slots_of
  slots_set zero c i h g = absurd (omega arith)
  slots_set (suc n) c zero h g =
      let s : splice c 0 b ≡ b ++ drop 192 c = splice_start c b ∙ ap (λ (m : ℕ). b ++ drop (0 + m) c) e in
      rw (s, take_at b (drop 192 c) 192 e, drop_at b (drop 192 c) 192 e)
  slots_set (suc n) c (suc i) h g =
      let k : 192 ≤ length c = omega arith in
      let t : length (take 192 c) ≡ 192 = length-take-le 192 c k in
      let f : suc i * 192 ≡ 192 + i * 192 = omega arith in
      let s : splice c (suc i * 192) b ≡ take 192 c ++ splice (drop 192 c) (i * 192) b
      = ap (λ (m : ℕ). splice c m b) f ∙ ap (λ (l : List ℕ). splice l (192 + i * 192) b) (sym (take-append-drop 192 c)) ∙ splice_front (take 192 c) (drop 192 c) b 192 (i * 192) t in
      let r = slots_set n (drop 192 c) i (omega arith) (omega (arith, length-drop 192 c)) in
      rw (s, take_at (take 192 c) (splice (drop 192 c) (i * 192) b) 192 t, drop_at (take 192 c) (splice (drop 192 c) (i * 192) b) 192 t, r)

  -- the whole cache
  pub slots_write : (c : List ℕ) (i : ℕ) → i < count c → slots_in (splice c (i * 192) b) ≡ set (slots_in c) i (rec_of (slot.slot_at b))
  slots_write c i h = ap (λ (m : ℕ). slots_of (m / 192) (splice c (i * 192) b)) (written_length c b i e h) ∙ slots_set (count c) c i h (div-mul-le_self (length c) 192)

-- a key that is not held
has_not : (x : Slot) (l : Slots) (k : Key) → slot_has x k ≡ false → look l k ≡ none → look (rec_of x ∷ l) k ≡ none
unfolding look
has_not sl.Free l k e f = f
has_not sl.Bad l k e f = f
has_not (sl.Full o j v) l k e f = go (view j k) e f
  where
    go : {q : Key} (w : Is j q) → key_eq j q ≡ false → look l q ≡ none → views.pick w (some (record { origin = o; value = v })) (look l q) ≡ none
    go is e f = absurd (true≢false (sym (key_eq_refl j) ∙ e))
    go (isnt n) e f = f

pub not_held : (n : ℕ) (c : List ℕ) (k : Key) → held_in n c k ≡ false → look (slots_of n c) k ≡ none
unfolding held_in slots_of look
not_held zero c k e = refl
not_held (suc n) c k e = picked (slot_has (slot.slot_at (take 192 c)) k) _ _ _ e (λ _ q. absurd (true≢false q))
    (λ h q. has_not (slot.slot_at (take 192 c)) (slots_of n (drop 192 c)) k h (not_held n (drop 192 c) k q))

-- ---- the cache as slots after one or two are written

-- a record in a slot
abbrev pub recd : ℕ → Key → Value → Option Rec
recd o k x = some (record { key = k; cell = record { origin = o; value = x } })

pub wrote_one : (c : List ℕ) (i o : ℕ) (k : Key) (x : Value) → i < count c → Kept o k x → slots_in (put_slot c i o k x) ≡ set (slots_in c) i (recd o k x)
wrote_one c i o k x h w = slots_write (slot_bytes o k x) (slot_length_lem o k x) c i h ∙ ap (λ y. set (slots_in c) i (rec_of y)) (slot_back o k x w)

pub freed_one : (c : List ℕ) (i : ℕ) → i < count c → slots_in (free_slot c i) ≡ set (slots_in c) i none
freed_one c i h = slots_write (zeros 192) (zeros_length 192) c i h ∙ ap (λ z. set (slots_in c) i (rec_of z)) zero_slot

module _ (c : List ℕ) (p po : ℕ) (pk : Key) (y : Value) (s : ℕ) (hp : p < count c) (hs : s < count c) (w : Kept po pk y) where
  in_put : s < count (put_slot c p po pk y)
  in_put = subst (λ (n : ℕ). s < n) (sym (put_count c p po pk y hp)) hs

  pub wrote_two : (o : ℕ) (k : Key) (x : Value) → Kept o k x → slots_in (put_slot (put_slot c p po pk y) s o k x) ≡ set (set (slots_in c) p (recd po pk y)) s (recd o k x)
  wrote_two o k x v = wrote_one (put_slot c p po pk y) s o k x in_put v ∙ ap (λ l. set l s (recd o k x)) (wrote_one c p po pk y hp w)

  pub wrote_free : slots_in (free_slot (put_slot c p po pk y) s) ≡ set (set (slots_in c) p (recd po pk y)) s none
  wrote_free = freed_one (put_slot c p po pk y) s in_put ∙ ap (λ l. set l s none) (wrote_one c p po pk y hp w)
