-- Part 3 of demand 3, the invariant: the cache, the true values, the messages evicted and added; and that each entry keeps it.
use mathlib.Core.Path.{◌≡◌, refl, sym, ◌∙◌, ap, subst, fun_ext}
use mathlib.Core.Logic.{◌⊎◌, inl, inr, ◌≢◌}
use mathlib.Core.Bool.{Bool, true, false}
use mathlib.Core.Option.{Option, none, some, none-ne-some}
use mathlib.Core.List.Memᴰ
use mathlib.Core.List.{List, ◌∷◌, Memᴰ}
use Rattle.integrity.proofs.Ancestors.{Key, Pre, pre_refl, Below, below_not_back}
use Rattle.integrity.proofs.Updates.{Is, is, isnt, view, pick, upd, upd_same, upd_other, Who, anc, rec, other, who, pick3, upd2, On, on, off, on_side, pick_s}
use Rattle.integrity.proofs.Skeleton.{Tree, one_linker, inserted, Lower, insert}
use Rattle.integrity.proofs.Records.{Digest, empty, link, Value, vnone, print, node, from_tree, from_deferred, Cell, Message, side_of, set_side, IsNode, set_sides, key_of, key_of_link}
use Rattle.integrity.proofs.OneKey.{first, Good, good_mono, good_write, good_evict_tree, good_evict_deferred, good_add_deferred, good_add_tree, good_new}

abbrev pub skel : (Key → Value) → Key → Bool → Option Key
skel val q u = key_of (side_of u (val q))

-- A link to j with this digest and mark stands somewhere.
abbrev pub Links : (Key → Value) → Key → Digest → Bool → Type 0
Links val j d b = (q : Key) × (u : Bool) × (side_of u (val q) ≡ link j d b)

-- The message is of the key j, was evicted, and was not added.
abbrev pub Open : List Message → List Message → Key → Message → Type 0
Open ev ad j m = Memᴰ m ev × (¬ Memᴰ m ad) × (m.key ≡ j)

link_key : {j k : Key} {d e : Digest} {b c : Bool} → link j d b ≡ link k e c → j ≡ k
link_key h = cc

link_digest : {j k : Key} {d e : Digest} {b c : Bool} → link j d b ≡ link k e c → d ≡ e
link_digest h = cc

link_mark : {j k : Key} {d e : Digest} {b c : Bool} → link j d b ≡ link k e c → b ≡ c
link_mark h = cc

-- p's side s is made a link to k, and k's value vk.
abbrev pub link_to : (Key → Value) → Key → Bool → Key → Digest → Bool → Value → Key → Value
link_to val p s k nd nm vk = upd2 val p (set_side s (link k nd nm) (val p)) k vk

module _ (val : Key → Value) (p : Key) (s : Bool) (k : Key) (nd : Digest) (nm : Bool) (vk : Value) (np : IsNode (val p)) where
  skel_at : (q : Key) (u : Bool) (x : Who p k q) (y : On s u)
      → key_of (side_of u (pick3 x (set_side s (link k nd nm) (val p)) vk (val q))) ≡ pick3 x (pick_s y (some k) (skel val p u)) (key_of (side_of u vk)) (skel val q u)
  skel_at _ _ anc on = ap key_of (set_sides s s on (link k nd nm) (val p) np)
  skel_at _ u anc (off n) = ap key_of (set_sides s u (off n) (link k nd nm) (val p) np)
  skel_at _ u (rec n) y = refl
  skel_at q u (other n m) y = refl

  pub skel_link_to : skel (link_to val p s k nd nm vk) ≡ inserted (skel val) p s k (λ u. key_of (side_of u vk))
  skel_link_to = fun_ext (λ q. fun_ext (λ u. skel_at q u (who p k q) (on_side s u)))

  -- Links to other keys stood before.
  module _ (hk : (u : Bool) (j : Key) (d : Digest) (b : Bool) → side_of u vk ≡ link j d b → Links val j d b) where
    others_at : (j q : Key) (u : Bool) (d : Digest) (b : Bool) (x : Who p k q) (y : On s u) → j ≢ k
        → side_of u (pick3 x (set_side s (link k nd nm) (val p)) vk (val q)) ≡ link j d b → Links val j d b
    others_at j _ _ d b anc on n e = absurd (n (sym (link_key (sym (set_sides s s on (link k nd nm) (val p) np) ∙ e))))
    others_at j _ u d b anc (off m) n e = (p, u, sym (set_sides s u (off m) (link k nd nm) (val p) np) ∙ e)
    others_at j _ u d b (rec m) y n e = hk u j d b e
    others_at j q u d b (other m o) y n e = (q, u, e)

    pub others : (j : Key) → j ≢ k → (d : Digest) (b : Bool) → Links (link_to val p s k nd nm vk) j d b → Links val j d b
    others j n d b l = others_at j l.0 l.1 d b (who p k l.0) (on_side s l.1) n l.2

  module _ (uniq : (q : Key) (u : Bool) (d : Digest) (b : Bool) → side_of u (val q) ≡ link k d b → (q ≡ p) × (u ≡ s))
      (none_k : (u : Bool) (d : Digest) (b : Bool) → side_of u vk ≡ link k d b → ⊥) where
    own_at : (q : Key) (u : Bool) (d : Digest) (b : Bool) (x : Who p k q) (y : On s u)
        → side_of u (pick3 x (set_side s (link k nd nm) (val p)) vk (val q)) ≡ link k d b → (d ≡ nd) × (b ≡ nm)
    own_at _ _ d b anc on e = let h = sym (set_sides s s on (link k nd nm) (val p) np) ∙ e in (sym (link_digest h), sym (link_mark h))
    own_at _ u d b anc (off m) e = absurd (m (uniq p u d b (sym (set_sides s u (off m) (link k nd nm) (val p) np) ∙ e)).1)
    own_at _ u d b (rec m) y e = absurd (none_k u d b e)
    own_at q u d b (other m o) y e = absurd (m (uniq q u d b e).0)

    pub own : (d : Digest) (b : Bool) → Links (link_to val p s k nd nm vk) k d b → (d ≡ nd) × (b ≡ nm)
    own d b l = own_at l.0 l.1 d b (who p k l.0) (on_side s l.1) l.2

-- A link made anew where one to the same key stood: the skeleton stays.
relabel_at : (tk : Key → Bool → Option Key) (p : Key) (s : Bool) (k : Key) → tk p s ≡ some k → (q : Key) (u : Bool) (x : Who p k q) (y : On s u)
    → pick3 x (pick_s y (some k) (tk p u)) (tk k u) (tk q u) ≡ tk q u
relabel_at tk p s k e _ _ anc on = sym e
relabel_at tk p s k e _ u anc (off n) = refl
relabel_at tk p s k e _ u (rec n) y = refl
relabel_at tk p s k e q u (other n m) y = refl

pub relabel : (tk : Key → Bool → Option Key) (p : Key) (s : Bool) (k : Key) → tk p s ≡ some k → inserted tk p s k (tk k) ≡ tk
relabel tk p s k e = fun_ext (λ q. fun_ext (λ u. relabel_at tk p s k e q u (who p k q) (on_side s u)))

pub not_empty : {k : Key} {d : Digest} {b : Bool} → empty ≡ link k d b → ⊥
not_empty {k} {d} {b} e = none-ne-some k (ap key_of e)

pub node_of_link : (s : Bool) (v : Value) {k : Key} {d : Digest} {b : Bool} → side_of s v ≡ link k d b → IsNode v
node_of_link s vnone e = absurd (not_empty e)
node_of_link s (print f) e = absurd (not_empty e)
node_of_link s (node n') e = tt

pub leaf_side : (s : Bool) (v : Value) → (IsNode v → ⊥) → side_of s v ≡ empty
leaf_side s vnone n = refl
leaf_side s (print f) n = refl
leaf_side s (node n') n = absurd (n tt)

open_evict : (ev ad : List Message) (m : Message) (j : Key) (n : Message) → Open (m ∷ ev) ad j n → (n ≡ m) ⊎ Open ev ad j n
open_evict ev ad m j n o = elim (Memᴰ.cases_cons o.0) [ inl e ↦ inl e | inr h ↦ inr (h, o.1, o.2) ]

open_evict_other : (ev ad : List Message) (m : Message) (j : Key) → j ≢ m.key → (n : Message) → Open (m ∷ ev) ad j n → Open ev ad j n
open_evict_other ev ad m j d n o = elim (open_evict ev ad m j n o) [ inl e ↦ absurd (d (sym o.2 ∙ ap (λ x. x.key) e)) | inr h ↦ h ]

open_add : (ev ad : List Message) (m : Message) (j : Key) (n : Message) → Open ev (m ∷ ad) j n → Open ev ad j n × (n ≢ m)
open_add ev ad m j n o = ((o.0, (λ h. o.1 (Memᴰ.tail h)), o.2), (λ e. o.1 (Memᴰ.head e)))

module _ (H : Value → Digest) (is_data : Key → Bool) where
  pub record Inv (c : Key → Option Cell) (val : Key → Value) (live : Key → Bool) (ev ad : List Message) : Type 0 where
    pub tree : Tree (skel val) live
    pub good : (j : Key) → Good H is_data j (c j) (val j) (live j) (Links val j) (Open ev ad j)

  module _ (c : Key → Option Cell) (val : Key → Value) (live : Key → Bool) (ev ad : List Message) (I : Inv c val live ev ad) where
    -- Only k's cell and the messages change.
    pub local_step : (k : Key) (x : Option Cell) (ev' ad' : List Message) → ((j : Key) → j ≢ k → (n : Message) → Open ev' ad' j n → Open ev ad j n)
        → Good H is_data k x (val k) (live k) (Links val k) (Open ev' ad' k) → Inv (upd c k x) val live ev' ad'
    local_step k x ev' ad' f G = record { tree = I.tree; good = λ j. go j (view k j) }
      where
        go : (j : Key) (v : Is k j) → Good H is_data j (pick v x (c j)) (val j) (live j) (Links val j) (Open ev' ad' j)
        go _ is = G
        go j (isnt n) = good_mono H is_data j (λ d b l. l) (f j n) (I.good j)

    pub uniq_link : (p k : Key) (s : Bool) (d : Digest) (b : Bool) → side_of s (val p) ≡ link k d b
        → (q : Key) (u : Bool) (e : Digest) (a : Bool) → side_of u (val q) ≡ link k e a → (q ≡ p) × (u ≡ s)
    uniq_link p k s d b h q u e a g = one_linker (skel val) live I.tree q p k u s (ap key_of g) (ap key_of h)

    no_loop : (k : Key) (u : Bool) (d : Digest) (b : Bool) → side_of u (val k) ≡ link k d b → ⊥
    no_loop k u d b e = below_not_back (I.tree.below k k u (ap key_of e)) (pre_refl k)

    -- p's link to k gets another digest or mark.
    module _ (p k : Key) (s : Bool) (d : Digest) (b : Bool) (h : side_of s (val p) ≡ link k d b) (nd : Digest) (nm : Bool) where
      pub relabel_own : (e : Digest) (a : Bool) → Links (link_to val p s k nd nm (val k)) k e a → (e ≡ nd) × (a ≡ nm)
      relabel_own = own val p s k nd nm (val k) (node_of_link s (val p) h) (uniq_link p k s d b h) (no_loop k)

      pub relabel_step : (xp : Cell) → c p ≡ some xp → (x : Option Cell) (ev' ad' : List Message) → ((j : Key) → j ≢ k → (n : Message) → Open ev' ad' j n → Open ev ad j n)
          → Good H is_data k x (val k) (live k) (Links (link_to val p s k nd nm (val k)) k) (Open ev' ad' k)
          → Inv (upd2 c p (some (record { origin = xp.origin; value = set_side s (link k nd nm) (val p) })) k x) (link_to val p s k nd nm (val k)) live ev' ad'
      relabel_step xp cp x ev' ad' f G = record { tree = subst (λ t. Tree t live) (sym keeps) I.tree; good = λ j. go j (who p k j) }
        where
          np : IsNode (val p)
          np = node_of_link s (val p) h

          keeps : skel (link_to val p s k nd nm (val k)) ≡ skel val
          keeps = skel_link_to val p s k nd nm (val k) np ∙ relabel (skel val) p s k (ap key_of h)

          oth : (j : Key) → j ≢ k → (e : Digest) (a : Bool) → Links (link_to val p s k nd nm (val k)) j e a → Links val j e a
          oth = others val p s k nd nm (val k) np (λ u j e a g. (k, u, g))

          pk : p ≢ k
          pk e = no_loop k s d b (subst (λ x. side_of s (val x) ≡ link k d b) e h)

          go : (j : Key) (v : Who p k j)
              → Good H is_data j (pick3 v (some (record { origin = xp.origin; value = set_side s (link k nd nm) (val p) })) x (c j)) (pick3 v (set_side s (link k nd nm) (val p)) (val k) (val j)) (live j) (Links (link_to val p s k nd nm (val k)) j) (Open ev' ad' j)
          go _ anc = good_mono H is_data p (oth p pk) (f p pk) (good_write H is_data p (subst (λ y. Good H is_data p y (val p) (live p) (Links val p) (Open ev ad p)) cp (I.good p)) (λ i w. (I.good p).fits i np))
          go _ (rec n) = G
          go j (other n m) = good_mono H is_data j (oth j m) (f j m) (I.good j)

    pub step_evict_tree : (p k : Key) (s : Bool) (d : Digest) (b : Bool) → side_of s (val p) ≡ link k d b → (xp xk : Cell) → c p ≡ some xp → c k ≡ some xk
        → Inv (upd2 c p (some (record { origin = xp.origin; value = set_side s (link k (H (val k)) false) (val p) })) k none) (link_to val p s k (H (val k)) false (val k)) live ev ad
    step_evict_tree p k s d b h xp xk cp ck = relabel_step p k s d b h (H (val k)) false xp cp none ev ad (λ j n m o. o)
        (good_evict_tree H is_data k (subst (λ y. Good H is_data k y (val k) (live k) (Links val k) (Open ev ad k)) ck (I.good k)) (relabel_own p k s d b h (H (val k)) false))

    at : (k : Key) (x : Option Cell) → c k ≡ x → Good H is_data k x (val k) (live k) (Links val k) (Open ev ad k)
    at k x e = subst (λ y. Good H is_data k y (val k) (live k) (Links val k) (Open ev ad k)) e (I.good k)

    -- 5: evict a tree record deferred.
    pub step_evict_tree_deferred : (p k : Key) (s : Bool) (d : Digest) (b : Bool) → side_of s (val p) ≡ link k d b → (xp xk : Cell) → c p ≡ some xp → c k ≡ some xk
        → (m : Message) → m.key ≡ k → m.value ≡ val k
        → Inv (upd2 c p (some (record { origin = xp.origin; value = set_side s (link k d true) (val p) })) k none) (link_to val p s k d true (val k)) live (m ∷ ev) ad
    step_evict_tree_deferred p k s d b h xp xk cp ck m mk mv = relabel_step p k s d b h d true xp cp none (m ∷ ev) ad (λ j n. open_evict_other ev ad m j (λ e. n (e ∙ mk)))
        (good_evict_deferred H is_data k (at k (some xk) ck) (λ e a l. (relabel_own p k s d b h d true e a l).1) m mv (open_evict ev ad m k))

    -- 4: evict a deferred record.
    pub step_evict_deferred : (k : Key) (xk : Cell) → c k ≡ some xk → xk.origin ≡ from_deferred → (m : Message) → m.key ≡ k → m.value ≡ val k
        → Inv (upd c k none) val live (m ∷ ev) ad
    step_evict_deferred k xk ck o m mk mv = local_step k none (m ∷ ev) ad (λ j n. open_evict_other ev ad m j (λ e. n (e ∙ mk)))
        (good_evict_deferred H is_data k (at k (some xk) ck) (λ d b. (at k (some xk) ck).mark xk d b refl o) m mv (open_evict ev ad m k))

    -- 2: add a deferred record, whose message was evicted and not added since.
    pub step_add_deferred : (m : Message) → c m.key ≡ none → Memᴰ m ev → ¬ Memᴰ m ad
        → Inv (upd c m.key (some (record { origin = from_deferred; value = m.value }))) val live ev (m ∷ ad)
    step_add_deferred m cm h n = local_step m.key _ ev (m ∷ ad) (λ j d n o. (open_add ev ad m j n o).0)
        (good_add_deferred H is_data m.key (at m.key none cm) m (h, n, refl) (open_add ev ad m m.key))

    -- 1, same key: add from the tree.
    pub step_add_tree : (p k : Key) (s : Bool) (d : Digest) → side_of s (val p) ≡ link k d false → c k ≡ none → (w : Value) → w ≡ val k
        → Inv (upd c k (some (record { origin = from_tree; value = w }))) val live ev ad
    step_add_tree p k s d h ck w e = local_step k _ ev ad (λ j n m o. o)
        (good_add_tree H is_data k (at k none ck) d (p, s, h) (I.tree.linked p k s (ap key_of h)) w e)

    -- 1, new key: it goes between p and what p's side led to.
    module _ (p k : Key) (s : Bool) (b : Below p s k) (lp : live p ≡ true) (np : IsNode (val p)) (lk : live k ≡ false) (vk : Value) (nd : Digest)
        (low : (u : Bool) (j : Key) (d : Digest) (a : Bool) → side_of u vk ≡ link j d a → (side_of s (val p) ≡ link j d a) × Below k u j)
        (keep : (j : Key) → key_of (side_of s (val p)) ≡ some j → (u : Bool) × (key_of (side_of u vk) ≡ some j))
        (fit : is_data k ≡ true → IsNode vk → ⊥) where
      pub step_insert : (xp : Cell) → c p ≡ some xp → c k ≡ none
          → Inv (upd2 c p (some (record { origin = xp.origin; value = set_side s (link k nd false) (val p) })) k (some (record { origin = from_tree; value = vk })))
          (link_to val p s k nd false vk) (upd live k true) ev ad
      step_insert xp cp ck = record { tree = subst (λ t. Tree t (upd live k true)) (sym (skel_link_to val p s k nd false vk np)) grown; good = λ j. go j (who p k j) }
        where
          lower : Lower (skel val) p s k (λ u. key_of (side_of u vk))
          lower = record {
            low = λ u r e. let l = low u r _ _ (key_of_link (side_of u vk) r e) in (ap key_of l.0, l.1);
            keep = keep;
          }

          grown : Tree (inserted (skel val) p s k (λ u. key_of (side_of u vk))) (upd live k true)
          grown = insert (skel val) live I.tree p s k lp b (λ u. key_of (side_of u vk)) lower

          oth : (j : Key) → j ≢ k → (e : Digest) (a : Bool) → Links (link_to val p s k nd false vk) j e a → Links val j e a
          oth = others val p s k nd false vk np (λ u j d a e. (p, s, (low u j d a e).0))

          pk : p ≢ k
          pk e = below_not_back b (subst (λ x. Pre x p) e (pre_refl p))

          G' : Key → Option Cell → Value → Bool → Type 0
          G' j x v l = Good H is_data j x v l (Links (link_to val p s k nd false vk) j) (Open ev ad j)

          frame : (j : Key) (x : Option Cell) (v : Value) → j ≢ k → Good H is_data j x v (live j) (Links val j) (Open ev ad j) → G' j x v (upd live k true j)
          frame j x v n g = rw (upd_other live k true j n) (good_mono H is_data j (oth j n) (λ m o. o) g)

          go : (j : Key) (v : Who p k j)
              → G' j (pick3 v (some (record { origin = xp.origin; value = set_side s (link k nd false) (val p) })) (some (record { origin = from_tree; value = vk })) (c j)) (pick3 v (set_side s (link k nd false) (val p)) vk (val j)) (upd live k true j)
          go _ anc = frame p _ _ pk (good_write H is_data p (at p (some xp) cp) (λ i w. (I.good p).fits i np))
          go _ (rec n) = rw (upd_same live k true) (good_new H is_data k (subst (λ l. Good H is_data k none (val k) l (Links val k) (Open ev ad k)) lk (at k none ck)) vk fit)
          go j (other n m) = frame j _ _ m (I.good j)

    -- 8: a put.
    pub step_put : (k : Key) (x : Cell) → c k ≡ some x → is_data k ≡ true → (w : Value) → (IsNode w → ⊥)
        → Inv (upd c k (some (record { origin = x.origin; value = w }))) (upd val k w) live ev ad
    step_put k x ck dk w e = record { tree = subst (λ t. Tree t live) (sym skels) I.tree; good = λ j. go j (view k j) }
      where
        sides_at : (q : Key) (u : Bool) (v : Is k q) → side_of u (pick v w (val q)) ≡ side_of u (val q)
        sides_at _ u is = leaf_side u w e ∙ sym (leaf_side u (val k) ((I.good k).fits dk))
        sides_at q u (isnt n) = refl

        skels : skel (upd val k w) ≡ skel val
        skels = fun_ext (λ q. fun_ext (λ u. ap key_of (sides_at q u (view k q))))

        back : (j : Key) (d : Digest) (a : Bool) → Links (upd val k w) j d a → Links val j d a
        back j d a l = (l.0, l.1, sym (sides_at l.0 l.1 (view k l.0)) ∙ l.2)

        go : (j : Key) (v : Is k j) → Good H is_data j (pick v (some (record { origin = x.origin; value = w })) (c j)) (pick v w (val j)) (live j) (Links (upd val k w) j) (Open ev ad j)
        go _ is = good_mono H is_data k (back k) (λ m o. o) (good_write H is_data k (at k (some x) ck) (λ i. e))
        go j (isnt n) = good_mono H is_data j (back j) (λ m o. o) (I.good j)

    -- 6: what a get shows.
    pub get_true : (k : Key) (x : Cell) → c k ≡ some x → x.value ≡ val k
    get_true k x ck = ((I.good k).cached x ck).0

    -- 7: what an absence shows.
    pub absent_true : (p k : Key) (s : Bool) (x : Cell) → c p ≡ some x → Below p s k → ((q : Key) → key_of (side_of s (val p)) ≡ some q → ¬ Pre q k) → val k ≡ first H is_data k
    absent_true p k s x cp b n = elim (view_live (live k) refl) [ inl e ↦ absurd (far e) | inr e ↦ (I.good k).fresh e ]
      where
        view_live : (l : Bool) → live k ≡ l → (live k ≡ true) ⊎ (live k ≡ false)
        view_live true e = inl e
        view_live false e = inr e

        far : live k ≡ true → ⊥
        far l = let r = I.tree.reach p k s ((I.good p).cached x cp).1 l b in n r.0 r.1 r.2
