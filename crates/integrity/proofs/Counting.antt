-- Part 1 of demand 3, counting: lists alone, no verifier. Where adds and evicts have equal counts and equal sums, and no evict occurs twice,
-- the adds are the evicts, or the tags of what was counted an odd number of times xor to zero.
use mathlib.Core.Path.{◌≡◌, refl, sym, ◌∙◌, ap}
use mathlib.Core.Logic.{◌⊎◌, inl, inr, ◌≢◌, ite}
use mathlib.Core.Bool.{Bool, false, not, true≢false, not-not}
use mathlib.Core.List.{List, [], ◌∷◌, ◌++◌, cons≢nil}
use Prim.Native.Nat.{ℕ, zero, suc, ◌+◌, ◌≤◌}
use native.Mathlib.Omega.{arith}
use lib.ListN.{length}
use Rattle.integrity.specs.Counting.{bump, odd, count, toggle, odds}

-- the other where it is so
abbrev flip : {P : Type 0} → Dec P → Bool → Bool
flip (yes _) b = not b
flip (no _) b = b

even_le : (c d : ℕ) → d ≤ 1 → odd (c + d) ≡ false → d ≤ c
unfolding odd
even_le (suc c) d h o = omega arith
even_le zero zero h o = omega arith
even_le zero (suc zero) h o = absurd (true≢false o)
even_le zero (suc (suc d)) h o = omega arith

module _ (M : Type 0) (eq : Discrete M) where
  abbrev times : M → List M → ℕ
  times = count M eq

  abbrev turn : M → List M → List M
  turn = toggle M eq

  abbrev those : List M → List M
  those = odds M eq

  pub count_append : (m : M) (a b : List M) → times m (a ++ b) ≡ times m a + times m b
  unfolding count
  count_append m [] b = omega arith
  count_append m (x ∷ a) b = let ih = count_append m a b in elim (eq m x) as (λ r. bump r (times m (a ++ b)) ≡ bump r (times m a) + times m b) [ yes _ ↦ omega arith | no _ ↦ omega arith ]

  pub count_yes : (m x : M) (l : List M) → m ≡ x → times m (x ∷ l) ≡ suc (times m l)
  unfolding count
  count_yes m x l e = elim (eq m x) as (λ r. bump r (times m l) ≡ suc (times m l)) [ yes _ ↦ refl | no n ↦ absurd (n e) ]

  pub count_no : (m x : M) (l : List M) → m ≢ x → times m (x ∷ l) ≡ times m l
  unfolding count
  count_no m x l e = elim (eq m x) as (λ r. bump r (times m l) ≡ times m l) [ yes p ↦ absurd (e p) | no n ↦ refl ]

  -- Each message at most once.
  abbrev pub NoDup : List M → Type 0
  NoDup l = (m : M) → times m l ≤ 1

  -- Without the first occurrence.
  pub erase : M → List M → List M
  erase m [] = []
  erase m (x ∷ l) = ite (eq m x) l (x ∷ erase m l)

  bump_comm : {P Q : Type 0} (p : Dec P) (q : Dec Q) (n : ℕ) → bump p (bump q n) ≡ bump q (bump p n)
  bump_comm (yes _) (yes _) n = refl
  bump_comm (yes _) (no _) n = refl
  bump_comm (no _) (yes _) n = refl
  bump_comm (no _) (no _) n = refl

  bump_eq : (y m x : M) (n : ℕ) → m ≡ x → bump (eq y x) n ≡ bump (eq y m) n
  bump_eq y m x n e = rw e refl

  erase_length : (m : M) (l : List M) → 1 ≤ times m l → length l ≡ suc (length (erase m l))
  unfolding count erase
  erase_length m [] h = omega arith
  erase_length m (x ∷ l) h = (elim (eq m x) as (λ r. 1 ≤ bump r (times m l) → suc (length l) ≡ suc (length (ite r l (x ∷ erase m l)))) [ yes _ ↦ λ h. refl | no _ ↦ λ h. ap suc (erase_length m l h) ]) h

  erase_count : (m y : M) (l : List M) → 1 ≤ times m l → times y l ≡ bump (eq y m) (times y (erase m l))
  unfolding count erase
  erase_count m y [] h = omega arith
  erase_count m y (x ∷ l) h = (elim (eq m x) as (λ r. 1 ≤ bump r (times m l) → bump (eq y x) (times y l) ≡ bump (eq y m) (times y (ite r l (x ∷ erase m l)))) [
    | yes e ↦ λ h. bump_eq y m x _ e
    | no n ↦ λ h. ap (bump (eq y x)) (erase_count m y l h) ∙ bump_comm (eq y x) (eq y m) _
  ]) h

  -- Counts at least as large, and lengths equal: the counts are equal.
  squeeze : (e a : List M) → length a ≡ length e → ((m : M) → times m e ≤ times m a) → (m : M) → times m a ≡ times m e
  unfolding count
  squeeze [] [] h le m = refl
  squeeze [] (x ∷ a) h le m = omega arith
  squeeze (x ∷ e) a h le m =
      let one : 1 ≤ times x a = omega (arith, le x, count_yes x x e refl) in
      let ih = squeeze e (erase x a) (omega (arith, erase_length x a one)) (λ y. part y (le y) (erase_count x y a one)) m in
      erase_count x m a one ∙ ap (bump (eq m x)) ih
    where
      part : (y : M) → times y (x ∷ e) ≤ times y a → times y a ≡ bump (eq y x) (times y (erase x a)) → times y e ≤ times y (erase x a)
      part y h q = (elim (eq y x) as (λ r. bump r (times y e) ≤ times y a → times y a ≡ bump r (times y (erase x a)) → times y e ≤ times y (erase x a)) [ yes _ ↦ λ h q. omega arith | no _ ↦ λ h q. omega arith ]) h q

  odd_bump : {P : Type 0} (r : Dec P) (n : ℕ) → odd (bump r n) ≡ flip r (odd n)
  unfolding odd
  odd_bump (yes _) n = refl
  odd_bump (no _) n = refl

  odd_twice : {P : Type 0} (r : Dec P) (n : ℕ) → odd n ≡ odd (bump r (bump r n))
  unfolding odd
  odd_twice (yes _) n = sym (not-not _)
  odd_twice (no _) n = refl

  toggle_odd : (x y : M) (l : List M) → odd (times y (turn x l)) ≡ odd (bump (eq y x) (times y l))
  unfolding count toggle
  toggle_odd x y [] = refl
  toggle_odd x y (z ∷ l) = elim (eq x z) as (λ r. odd (times y (ite r l (z ∷ turn x l))) ≡ odd (bump (eq y x) (bump (eq y z) (times y l)))) [
    | yes e ↦ odd_twice (eq y x) (times y l) ∙ ap odd (ap (bump (eq y x)) (sym (bump_eq y x z _ e)))
    | no n ↦ odd_bump (eq y z) _ ∙ ap (flip (eq y z)) (toggle_odd x y l) ∙ sym (odd_bump (eq y z) _) ∙ ap odd (bump_comm (eq y z) (eq y x) _)
  ]

  toggle_other : (x y : M) (l : List M) → y ≢ x → times y (turn x l) ≡ times y l
  unfolding count toggle
  toggle_other x y [] n = count_no y x [] n
  toggle_other x y (z ∷ l) n = elim (eq x z) as (λ r. times y (ite r l (z ∷ turn x l)) ≡ bump (eq y z) (times y l))
      [ yes e ↦ sym (count_no y z l (λ q. n (q ∙ sym e))) | no _ ↦ ap (bump (eq y z)) (toggle_other x y l n) ]

  toggle_nodup : (x y : M) (l : List M) → times y l ≤ 1 → times y (turn x l) ≤ 1
  unfolding count toggle
  toggle_nodup x y [] h = elim (eq y x) as (λ r. bump r 0 ≤ 1) [ yes _ ↦ omega arith | no _ ↦ omega arith ]
  toggle_nodup x y (z ∷ l) h = elim (eq x z) as (λ r. times y (ite r l (z ∷ turn x l)) ≤ 1) [
    | yes e ↦ low (eq y z) h
    | no n ↦ (elim (eq y z) as (λ r. bump r (times y l) ≤ 1 → bump r (times y (turn x l)) ≤ 1) [ yes p ↦ (λ h. omega (arith, toggle_other x y l (λ q. n (sym q ∙ p)))) | no _ ↦ toggle_nodup x y l ]) h
  ]
    where
      low : {P : Type 0} (r : Dec P) → bump r (times y l) ≤ 1 → times y l ≤ 1
      low (yes _) h = omega arith
      low (no _) h = h

  -- `odds` is the set of the messages that occur an odd number of times.
  pub odds_odd : (y : M) (l : List M) → odd (times y (those l)) ≡ odd (times y l)
  unfolding count odds
  odds_odd y [] = refl
  odds_odd y (x ∷ l) = toggle_odd x y (those l) ∙ odd_bump (eq y x) _ ∙ ap (flip (eq y x)) (odds_odd y l) ∙ sym (odd_bump (eq y x) _)

  pub odds_nodup : (l : List M) → NoDup (those l)
  unfolding odds NoDup count
  odds_nodup [] m = omega arith
  odds_nodup (x ∷ l) m = toggle_nodup x m (those l) (odds_nodup l m)

-- an abelian group in which each element is its own inverse, as tags are under xor
pub record Xor (G : Type 0) : Type 0 where
  infixl 65 ◌⊕◌
  pub nil : G
  pub ◌⊕◌ : G → G → G
  pub assoc : (a b c : G) → (a ⊕ b) ⊕ c ≡ a ⊕ (b ⊕ c)
  pub comm : (a b : G) → a ⊕ b ≡ b ⊕ a
  pub unit : (a : G) → nil ⊕ a ≡ a
  pub self : (a : G) → a ⊕ a ≡ nil

module _ (M : Type 0) (G : Type 0) (X : Xor G) (τ : M → G) where
  infixl 65 ◌⊕◌
  open X use {nil, ◌⊕◌}

  -- the sum of the tags
  unfoldable pub sum : List M → G
  sum [] = nil
  sum (x ∷ l) = sum l ⊕ τ x

module _ (M : Type 0) (eq : Discrete M) (G : Type 0) (X : Xor G) (τ : M → G) where
  infixl 65 ◌⊕◌
  open X use {nil, ◌⊕◌, assoc, comm, unit, self}

  abbrev total : List M → G
  total = sum M G X τ

  sum_append : (a b : List M) → total (a ++ b) ≡ total a ⊕ total b
  unfolding sum
  sum_append [] b = sym (unit _)
  sum_append (x ∷ a) b = ap (λ g. g ⊕ τ x) (sum_append a b) ∙ assoc _ _ _ ∙ ap (◌⊕◌ (total a)) (comm _ _) ∙ sym (assoc _ _ _)

  sum_toggle : (x : M) (l : List M) → total (toggle M eq x l) ≡ total l ⊕ τ x
  unfolding sum toggle
  sum_toggle x [] = refl
  sum_toggle x (z ∷ l) = elim (eq x z) as (λ r. total (ite r l (z ∷ toggle M eq x l)) ≡ (total l ⊕ τ z) ⊕ τ x) [
    | yes e ↦ rw e (sym (assoc _ _ _ ∙ ap (◌⊕◌ (total l)) (self (τ z)) ∙ comm _ _ ∙ unit _))
    | no _ ↦ ap (λ g. g ⊕ τ z) (sum_toggle x l) ∙ assoc _ _ _ ∙ ap (◌⊕◌ (total l)) (comm _ _) ∙ sym (assoc _ _ _)
  ]

  sum_odds : (l : List M) → total (odds M eq l) ≡ total l
  unfolding sum odds
  sum_odds [] = refl
  sum_odds (x ∷ l) = sum_toggle x (odds M eq l) ∙ ap (λ g. g ⊕ τ x) (sum_odds l)

  -- e has nothing twice, and lengths and sums are equal: what occurs an odd number of times in both together is not nothing, and its tags cancel;
  -- or everything occurs in a as often as in e
  pub counted : (a e : List M) → NoDup M eq e → length a ≡ length e → total a ≡ total e
      → ((odds M eq (a ++ e) ≢ []) × (total (odds M eq (a ++ e)) ≡ nil)) ⊎ ((m : M) → count M eq m a ≡ count M eq m e)
  unfolding NoDup count odd
  counted a e nd len s = go (odds M eq (a ++ e)) refl
    where
      zero_sum : total (odds M eq (a ++ e)) ≡ nil
      zero_sum = sum_odds (a ++ e) ∙ sum_append a e ∙ ap (λ g. g ⊕ total e) s ∙ self _

      go : (o : List M) → odds M eq (a ++ e) ≡ o
          → ((odds M eq (a ++ e) ≢ []) × (total (odds M eq (a ++ e)) ≡ nil)) ⊎ ((m : M) → count M eq m a ≡ count M eq m e)
      go (x ∷ o) q = inl ((λ p. cons≢nil (sym q ∙ p)), zero_sum)
      go [] q = inr (squeeze M eq e a len (λ m.
          even_le (count M eq m a) (count M eq m e) (nd m)
          (ap odd (sym (count_append M eq m a e)) ∙ sym (odds_odd M eq m (a ++ e)) ∙ ap (λ o. odd (count M eq m o)) q)))
