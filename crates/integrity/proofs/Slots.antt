-- Refinement, the cache as a list of slots, read as a function of keys: no key twice, and what adding, writing and clearing a slot make of it.
use mathlib.Core.Path.{◌≡◌, refl, sym, ◌∙◌, ap, fun_ext}
use mathlib.Core.Logic.{◌≢◌}
use mathlib.Core.Option.{Option, none, some, none-ne-some, some-ne-none, some-injective}
use mathlib.Core.List.{List, [], ◌∷◌}
use Prim.Native.Nat.{ℕ, zero, suc, ◌<◌}
use native.Mathlib.Omega.{arith}
use lib.ListN.{length, get_or, set}
use Rattle.integrity.proofs.Ancestors.{Key}
use Rattle.integrity.proofs.Updates.{Is, is, isnt, view, pick, upd, upd_same, upd_other, Who, anc, rec, other, who, pick3, upd2}
use Rattle.integrity.proofs.Records.{Cell}

pub record Rec : Type 0 where
  pub key : Key
  pub cell : Cell

abbrev pub Slots : Type 0
Slots = List (Option Rec)

abbrev pub slot_at : Slots → ℕ → Option Rec
slot_at l i = get_or l i none

unfoldable pub look : Slots → Key → Option Cell
look [] = λ k. none
look (none ∷ l) = look l
look (some x ∷ l) = upd (look l) x.key (some x.cell)

unfoldable pub Unique : Slots → Type 0
Unique [] = Unit
Unique (none ∷ l) = Unique l
Unique (some x ∷ l) = (look l x.key ≡ none) × Unique l

-- Laws of updates.
upd_comm_at : {A : Type 0} (f : Key → A) (k j : Key) (a b : A) (q : Key) (v : Is k q) (w : Is j q) → k ≢ j → pick w b (pick v a (f q)) ≡ pick v a (pick w b (f q))
upd_comm_at f k j a b _ is is n = absurd (n refl)
upd_comm_at f k j a b _ is (isnt m) n = refl
upd_comm_at f k j a b q (isnt m) w n = refl

pub upd_comm : {A : Type 0} (f : Key → A) (k j : Key) (a b : A) → k ≢ j → upd (upd f k a) j b ≡ upd (upd f j b) k a
upd_comm f k j a b n = fun_ext (λ q. upd_comm_at f k j a b q (view k q) (view j q) n)

pub upd_upd : {A : Type 0} (f : Key → A) (k : Key) (a b : A) → upd (upd f k a) k b ≡ upd f k b
upd_upd f k a b = fun_ext (λ q. go q (view k q))
  where
    go : (q : Key) (v : Is k q) → pick v b (pick v a (f q)) ≡ pick v b (f q)
    go _ is = refl
    go q (isnt n) = refl

pub upd_id : {A : Type 0} (f : Key → A) (k : Key) (a : A) → f k ≡ a → upd f k a ≡ f
upd_id f k a e = fun_ext (λ q. go q (view k q))
  where
    go : (q : Key) (v : Is k q) → pick v a (f q) ≡ f q
    go _ is = sym e
    go q (isnt n) = refl

pub upd_two : {A : Type 0} (f : Key → A) (p : Key) (a : A) (k : Key) (b : A) → k ≢ p → upd (upd f p a) k b ≡ upd2 f p a k b
upd_two f p a k b d = fun_ext (λ q. go q (who p k q))
  where
    go : (q : Key) (v : Who p k q) → upd (upd f p a) k b q ≡ pick3 v a b (f q)
    go _ anc = upd_other (upd f p a) k b p (λ e. d (sym e)) ∙ upd_same f p a
    go _ (rec n) = upd_same (upd f p a) k b
    go q (other n m) = upd_other (upd f p a) k b q m ∙ upd_other f p a q n

apart : (l : Slots) (k j : Key) (x : Cell) → look l k ≡ none → look l j ≡ some x → k ≢ j
apart l k j x a b e = none-ne-some x (sym a ∙ ap (look l) e ∙ b)

miss_head : (f : Key → Option Cell) (k j : Key) (x : Cell) → upd f j (some x) k ≡ none → k ≢ j
miss_head f k j x e q = some-ne-none x (sym (upd_same f j (some x)) ∙ ap (upd f j (some x)) (sym q) ∙ e)

miss_tail : (f : Key → Option Cell) (k j : Key) (x : Cell) → upd f j (some x) k ≡ none → f k ≡ none
miss_tail f k j x e = sym (upd_other f j (some x) k (miss_head f k j x e)) ∙ e

-- A record goes into a free slot.
pub look_add : (l : Slots) (i : ℕ) (r : Rec) → i < length l → slot_at l i ≡ none → look l r.key ≡ none
    → look (set l i (some r)) ≡ upd (look l) r.key (some r.cell)
unfolding look
look_add [] i r h e n = absurd (omega arith)
look_add (none ∷ l) zero r h e n = refl
look_add (some x ∷ l) zero r h e n = absurd (some-ne-none x e)
look_add (none ∷ l) (suc i) r h e n = look_add l i r (omega arith) e n
look_add (some x ∷ l) (suc i) r h e n =
    ap (λ f. upd f x.key (some x.cell)) (look_add l i r (omega arith) e (miss_tail (look l) r.key x.key x.cell n))
    ∙ upd_comm (look l) r.key x.key (some r.cell) (some x.cell) (miss_head (look l) r.key x.key x.cell n)

pub look_at : (l : Slots) (i : ℕ) (r : Rec) → Unique l → slot_at l i ≡ some r → look l r.key ≡ some r.cell
unfolding look Unique
look_at [] i r u e = absurd (none-ne-some r e)
look_at (none ∷ l) zero r u e = absurd (none-ne-some r e)
look_at (some x ∷ l) zero r u e = rw (some-injective _ _ e) (upd_same (look l) r.key (some r.cell))
look_at (none ∷ l) (suc i) r u e = look_at l i r u e
look_at (some x ∷ l) (suc i) r u e = let h = look_at l i r u.1 e in
    upd_other (look l) x.key (some x.cell) r.key (λ q. apart l x.key r.key r.cell u.0 h (sym q)) ∙ h

-- The record in a slot is cleared, or written with its own key.
pub look_clear : (l : Slots) (i : ℕ) (r : Rec) → Unique l → slot_at l i ≡ some r → look (set l i none) ≡ upd (look l) r.key none
unfolding look Unique
look_clear [] i r u e = absurd (none-ne-some r e)
look_clear (none ∷ l) zero r u e = absurd (none-ne-some r e)
look_clear (some x ∷ l) zero r u e = let q = some-injective _ _ e in
    sym (ap (λ y. upd (upd (look l) y.key (some y.cell)) r.key none) q ∙ upd_upd (look l) r.key _ none ∙ upd_id (look l) r.key none (ap (λ y. look l y.key) (sym q) ∙ u.0))
look_clear (none ∷ l) (suc i) r u e = look_clear l i r u e
look_clear (some x ∷ l) (suc i) r u e =
    ap (λ f. upd f x.key (some x.cell)) (look_clear l i r u.1 e)
    ∙ upd_comm (look l) r.key x.key none (some x.cell) (λ q. apart l x.key r.key r.cell u.0 (look_at l i r u.1 e) (sym q))

pub look_write : (l : Slots) (i : ℕ) (r : Rec) (c : Cell) → Unique l → slot_at l i ≡ some r
    → look (set l i (some (record { key = r.key; cell = c }))) ≡ upd (look l) r.key (some c)
unfolding look Unique
look_write [] i r c u e = absurd (none-ne-some r e)
look_write (none ∷ l) zero r c u e = absurd (none-ne-some r e)
look_write (some x ∷ l) zero r c u e = let q = some-injective _ _ e in
    sym (ap (λ y. upd (upd (look l) y.key (some y.cell)) r.key (some c)) q ∙ upd_upd (look l) r.key _ (some c))
look_write (none ∷ l) (suc i) r c u e = look_write l i r c u e
look_write (some x ∷ l) (suc i) r c u e =
    ap (λ f. upd f x.key (some x.cell)) (look_write l i r c u.1 e)
    ∙ upd_comm (look l) r.key x.key (some c) (some x.cell) (λ q. apart l x.key r.key r.cell u.0 (look_at l i r u.1 e) (sym q))

-- No key twice, afterwards.
pub unique_add : (l : Slots) (i : ℕ) (r : Rec) → i < length l → Unique l → slot_at l i ≡ none → look l r.key ≡ none → Unique (set l i (some r))
unfolding look Unique
unique_add [] i r h u e n = absurd (omega arith)
unique_add (none ∷ l) zero r h u e n = (n, u)
unique_add (some x ∷ l) zero r h u e n = absurd (some-ne-none x e)
unique_add (none ∷ l) (suc i) r h u e n = unique_add l i r (omega arith) u e n
unique_add (some x ∷ l) (suc i) r h u e n =
    let t = miss_tail (look l) r.key x.key x.cell n in (
      ap (λ f. f x.key) (look_add l i r (omega arith) e t) ∙ upd_other (look l) r.key _ x.key (λ q. miss_head (look l) r.key x.key x.cell n (sym q)) ∙ u.0,
      unique_add l i r (omega arith) u.1 e t,
    )

pub unique_clear : (l : Slots) (i : ℕ) (r : Rec) → Unique l → slot_at l i ≡ some r → Unique (set l i none)
unfolding look Unique
unique_clear [] i r u e = absurd (none-ne-some r e)
unique_clear (none ∷ l) zero r u e = absurd (none-ne-some r e)
unique_clear (some x ∷ l) zero r u e = u.1
unique_clear (none ∷ l) (suc i) r u e = unique_clear l i r u e
unique_clear (some x ∷ l) (suc i) r u e = (
  ap (λ f. f x.key) (look_clear l i r u.1 e) ∙ upd_other (look l) r.key none x.key (apart l x.key r.key r.cell u.0 (look_at l i r u.1 e)) ∙ u.0,
  unique_clear l i r u.1 e,
)

pub unique_write : (l : Slots) (i : ℕ) (r : Rec) (c : Cell) → Unique l → slot_at l i ≡ some r → Unique (set l i (some (record { key = r.key; cell = c })))
unfolding look Unique
unique_write [] i r c u e = absurd (none-ne-some r e)
unique_write (none ∷ l) zero r c u e = absurd (none-ne-some r e)
unique_write (some x ∷ l) zero r c u e = let q = some-injective _ _ e in (ap (λ y. look l y.key) (sym q) ∙ u.0, u.1)
unique_write (none ∷ l) (suc i) r c u e = unique_write l i r c u e
unique_write (some x ∷ l) (suc i) r c u e = (
  ap (λ f. f x.key) (look_write l i r c u.1 e) ∙ upd_other (look l) r.key _ x.key (apart l x.key r.key r.cell u.0 (look_at l i r u.1 e)) ∙ u.0,
  unique_write l i r c u.1 e,
)
