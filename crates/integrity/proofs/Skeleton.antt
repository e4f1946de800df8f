-- Part 3 of demand 3, the tree's skeleton: which key each side of each linked node names. Cover (`reach`): from a linked key every linked key
-- below it is reached; a new key goes between.
use mathlib.Core.Path.{◌≡◌, refl, sym, ◌∙◌, subst}
use mathlib.Core.Logic.{◌≢◌}
use mathlib.Core.Bool.{Bool, true}
use mathlib.Core.Option.{Option, none, some, none-ne-some, some-injective}
use Rattle.integrity.proofs.Ancestors.{Key, Pre, Below, pre_refl, pre_trans, below_pre, side_one, below_trans, below_not_back, Order, same, over, under, order}
use Rattle.key.specs.Keys.{root_key}
use Rattle.integrity.proofs.Updates.{Is, is, isnt, view, pick, upd, upd_same, upd_other, Who, anc, rec, other, who, pick3, On, on, off, on_side, pick_s}

pub record Tree (tk : Key → Bool → Option Key) (live : Key → Bool) : Type 0 where
  pub root : live root_key ≡ true
  pub below : (p k : Key) (s : Bool) → tk p s ≡ some k → Below p s k
  pub linked : (p k : Key) (s : Bool) → tk p s ≡ some k → live k ≡ true
  pub holds : (p k : Key) (s : Bool) → tk p s ≡ some k → live p ≡ true
  pub reach : (p k : Key) (s : Bool) → live p ≡ true → live k ≡ true → Below p s k → (q : Key) × (tk p s ≡ some q) × Pre q k

module _ (tk : Key → Bool → Option Key) (live : Key → Bool) (T : Tree tk live) where
  -- A key has one linker.
  pub one_linker : (p q k : Key) (s t : Bool) → tk p s ≡ some k → tk q t ≡ some k → (p ≡ q) × (s ≡ t)
  one_linker p q k s t a b = go (order (T.below p k s a) (T.below q k t b))
    where
      no_inner : (p q : Key) (s t : Bool) → tk p s ≡ some k → tk q t ≡ some k → Below p s q → ⊥
      no_inner p q s t a b h =
          let r = T.reach p q s (T.holds p k s a) (T.holds q k t b) h in
          let e : r.0 ≡ k = cc in
          below_not_back (T.below q k t b) (subst (λ x. Pre x q) e r.2)

      go : Order p s q t → (p ≡ q) × (s ≡ t)
      go (same e) = (e, side_one (subst (λ x. Below x s k) e (T.below p k s a)) (T.below q k t b))
      go (over h) = absurd (no_inner p q s t a b h)
      go (under h) = absurd (no_inner q p t s b a h)

  -- What an empty side, or a side that leads elsewhere, shows.
  pub absent_empty : (p k : Key) (s : Bool) → live p ≡ true → Below p s k → tk p s ≡ none → live k ≡ true → ⊥
  absent_empty p k s lp h e lk = let r = T.reach p k s lp lk h in none-ne-some _ (sym e ∙ r.1)

  pub absent_other : (p k q : Key) (s : Bool) → live p ≡ true → Below p s k → tk p s ≡ some q → ¬ Pre q k → live k ≡ true → ⊥
  absent_other p k q s lp h e n lk =
      let r = T.reach p k s lp lk h in
      let x : r.0 ≡ q = cc in
      n (subst (λ x. Pre x k) x r.2)

-- The skeleton after k is put between p's side s and what that side led to.
abbrev pub inserted : (Key → Bool → Option Key) → Key → Bool → Key → (Bool → Option Key) → Key → Bool → Option Key
inserted tk p s k lower q u = pick3 (who p k q) (pick_s (on_side s u) (some k) (tk p u)) (lower u) (tk q u)

-- What the new node's sides hold: nothing, or what p's side led to.
pub record Lower (tk : Key → Bool → Option Key) (p : Key) (s : Bool) (k : Key) (lower : Bool → Option Key) : Type 0 where
  pub low : (u : Bool) (r : Key) → lower u ≡ some r → (tk p s ≡ some r) × Below k u r
  pub keep : (r : Key) → tk p s ≡ some r → (u : Bool) × (lower u ≡ some r)

raise : (live : Key → Bool) (k j : Key) → live j ≡ true → upd live k true j ≡ true
raise live k j h = go j (view k j) h
  where
    go : (j : Key) (v : Is k j) → live j ≡ true → pick v true (live j) ≡ true
    go _ is h = refl
    go j (isnt n) h = h

module _ (tk : Key → Bool → Option Key) (live : Key → Bool) (T : Tree tk live) (p : Key) (s : Bool) (k : Key) (lp : live p ≡ true) (h : Below p s k)
    (lower : Bool → Option Key) (L : Lower tk p s k lower) where
  -- A live key below p on the side s: k lies above what leads there.
  via : (j : Key) → live j ≡ true → Below p s j → (r : Key) × (v : Bool) × (lower v ≡ some r) × Below k v r × Pre r j
  via j lj b =
      let r = T.reach p j s lp lj b in
      let w = L.keep r.0 r.1 in
      (r.0, w.0, w.1, (L.low w.0 r.0 w.1).1, r.2)

  Goal : Key → Key → Option Key → Type 0
  Goal q j o = (r : Key) × (o ≡ some r) × Pre r j

  reach' : (q j : Key) (u : Bool) (x : Who p k q) (y : On s u) (z : Is k j) → (q ≢ k → live q ≡ true) → pick z true (live j) ≡ true → Below q u j
      → Goal q j (pick3 x (pick_s y (some k) (tk p u)) (lower u) (tk q u))
  unfolding Goal
  reach' _ _ _ anc on is lq lj b = (k, refl, pre_refl k)
  reach' _ j _ anc on (isnt n) lq lj b = let r = via j lj b in (k, refl, pre_trans (below_pre r.3) r.4)
  reach' _ _ u anc (off n) is lq lj b = absurd (n (side_one b h))
  reach' _ j u anc (off n) (isnt m) lq lj b = T.reach p j u lp lj b
  reach' _ _ u (rec n) y is lq lj b = absurd (below_not_back b (pre_refl k))
  reach' _ j u (rec n) y (isnt m) lq lj b =
      let r = via j lj (below_trans h (below_pre b)) in
      (r.0, subst (λ x. lower x ≡ some r.0) (side_one (below_trans r.3 r.4) b) r.2, r.4)
  reach' q _ u (other n m) y is lq lj b = go (order b h)
    where
      go : Order q u p s → Goal q k (tk q u)
      go (same e) = absurd (n e)
      go (over g) = let r = T.reach q p u (lq m) lp g in (r.0, r.1, pre_trans r.2 (below_pre h))
      go (under g) = let r = via q (lq m) g in absurd (below_not_back b (pre_trans (below_pre r.3) r.4))
  reach' q j u (other n m) y (isnt o) lq lj b = T.reach q j u (lq m) lj b

  below' : (q j : Key) (u : Bool) (x : Who p k q) (y : On s u) → pick3 x (pick_s y (some k) (tk p u)) (lower u) (tk q u) ≡ some j → Below q u j
  below' _ j _ anc on e = rw (← some-injective _ _ e) h
  below' _ j u anc (off n) e = T.below p j u e
  below' _ j u (rec n) y e = (L.low u j e).1
  below' q j u (other n m) y e = T.below q j u e

  linked' : (q j : Key) (u : Bool) (x : Who p k q) (y : On s u) → pick3 x (pick_s y (some k) (tk p u)) (lower u) (tk q u) ≡ some j → upd live k true j ≡ true
  linked' _ j _ anc on e = rw (← some-injective _ _ e) (upd_same live k true)
  linked' _ j u anc (off n) e = raise live k j (T.linked p j u e)
  linked' _ j u (rec n) y e = raise live k j (T.linked p j s (L.low u j e).0)
  linked' q j u (other n m) y e = raise live k j (T.linked q j u e)

  holds' : (q j : Key) (u : Bool) (x : Who p k q) (y : On s u) → pick3 x (pick_s y (some k) (tk p u)) (lower u) (tk q u) ≡ some j → upd live k true q ≡ true
  holds' _ j u anc y e = raise live k p lp
  holds' _ j u (rec n) y e = upd_same live k true
  holds' q j u (other n m) y e = raise live k q (T.holds q j u e)

  pub insert : Tree (inserted tk p s k lower) (upd live k true)
  unfolding Goal
  insert = record {
    root = raise live k root_key T.root;
    below = λ q j u. below' q j u (who p k q) (on_side s u);
    linked = λ q j u. linked' q j u (who p k q) (on_side s u);
    holds = λ q j u. holds' q j u (who p k q) (on_side s u);
    reach = λ q j u lq. reach' q j u (who p k q) (on_side s u) (view k j) (λ n. sym (upd_other live k true q n) ∙ lq);
  }
