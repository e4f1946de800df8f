-- Functions of keys that are changed at one key or at two, read through views that a proof matches on.
use mathlib.Core.Path.{◌≡◌, refl, sym, ◌∙◌, subst}
use mathlib.Core.Logic.{◌≢◌}
use mathlib.Core.Bool.{Bool, Bool-discrete}
use Rattle.integrity.specs.Same.{key_dec}
use Rattle.key.specs.declared.Key.{Key}

pub data Is (k : Key) : Key → Type 0 where
  is : Is k k
  isnt : {j : Key} → j ≢ k → Is k j

unfoldable pub view : (k j : Key) → Is k j
view k j = elim (key_dec j k) [ yes e ↦ subst (Is k) (sym e) is | no n ↦ isnt n ]

abbrev pub pick : {A : Type 0} {k j : Key} → Is k j → A → A → A
pick is a b = a
pick (isnt n) a b = b

abbrev pub upd : {A : Type 0} → (Key → A) → Key → A → Key → A
upd f k a j = pick (view k j) a (f j)

pub upd_same : {A : Type 0} (f : Key → A) (k : Key) (a : A) → upd f k a k ≡ a
upd_same f k a = go k (view k k) refl
  where
    go : (j : Key) (v : Is k j) → j ≡ k → pick v a (f j) ≡ a
    go _ is e = refl
    go j (isnt n) e = absurd (n e)

pub upd_other : {A : Type 0} (f : Key → A) (k : Key) (a : A) (j : Key) → j ≢ k → upd f k a j ≡ f j
upd_other f k a j n = go j (view k j) n
  where
    go : (j : Key) (v : Is k j) → j ≢ k → pick v a (f j) ≡ f j
    go _ is n = absurd (n refl)
    go j (isnt _) n = refl

-- One of two keys, or another.
pub data Who (p k : Key) : Key → Type 0 where
  anc : Who p k p
  rec : k ≢ p → Who p k k
  other : {q : Key} → q ≢ p → q ≢ k → Who p k q

pub who : (p k q : Key) → Who p k q
who p k q = go (key_dec q p) (key_dec q k)
  where
    go : Dec (q ≡ p) → Dec (q ≡ k) → Who p k q
    go (yes e) d = subst (Who p k) (sym e) anc
    go (no n) (yes e) = subst (Who p k) (sym e) (rec (λ f. n (e ∙ f)))
    go (no n) (no m) = other n m

abbrev pub pick3 : {A : Type 0} {p k q : Key} → Who p k q → A → A → A → A
pick3 anc a b c = a
pick3 (rec n) a b c = b
pick3 (other n m) a b c = c

-- The update of a function at two keys.
abbrev pub upd2 : {A : Type 0} → (Key → A) → Key → A → Key → A → Key → A
upd2 f p a k b q = pick3 (who p k q) a b (f q)

-- One side, or the other.
pub data On (s : Bool) : Bool → Type 0 where
  on : On s s
  off : {t : Bool} → t ≢ s → On s t

pub on_side : (s t : Bool) → On s t
on_side s t = elim (Bool-discrete t s) [ yes e ↦ subst (On s) (sym e) on | no n ↦ off n ]

abbrev pub pick_s : {A : Type 0} {s t : Bool} → On s t → A → A → A
pick_s on a b = a
pick_s (off n) a b = b

pub upd2_anc : {A : Type 0} (f : Key → A) (p : Key) (a : A) (k : Key) (b : A) → upd2 f p a k b p ≡ a
upd2_anc f p a k b = go p (who p k p) refl
  where
    go : (q : Key) (v : Who p k q) → q ≡ p → pick3 v a b (f q) ≡ a
    go _ anc e = refl
    go _ (rec n) e = absurd (n e)
    go q (other n m) e = absurd (n e)

pub upd2_rec : {A : Type 0} (f : Key → A) (p : Key) (a : A) (k : Key) (b : A) → k ≢ p → upd2 f p a k b k ≡ b
upd2_rec f p a k b d = go k (who p k k) d refl
  where
    go : (q : Key) (v : Who p k q) → q ≢ p → q ≡ k → pick3 v a b (f q) ≡ b
    go _ anc d e = absurd (d refl)
    go _ (rec n) d e = refl
    go q (other n m) d e = absurd (m e)
