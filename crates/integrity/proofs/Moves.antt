-- Part 3 of demand 3, the tree: what each accepted entry moves, and the theorem that a move whose deferred add is outstanding keeps the
-- invariant, or two values collide. It speaks of the cache as a function of keys and of the messages evicted and added; there may be any number
-- of caches behind the function, and no clock and no epoch is named.
use mathlib.Core.Path.{◌≡◌, refl, sym, ◌∙◌, ap, subst}
use mathlib.Core.Logic.{◌⊎◌, inl, inr, ◌≢◌}
use mathlib.Core.Bool.{Bool, true, false, true≢false, false≢true, cond}
use mathlib.Core.Option.{Option, none, some, none-ne-some, some-injective}
use mathlib.Core.List.Memᴰ
use mathlib.Core.List.{List, [], ◌∷◌, ◌++◌, Memᴰ}
use Rattle.key.specs.Keys.{root_key}
use Rattle.integrity.specs.Same.{value_dec}
use Rattle.integrity.proofs.Ancestors.{Key, Pre, pre_refl, Below, below_not_back, not_below_root}
use Rattle.integrity.proofs.Updates.{Is, is, isnt, view, pick, upd, upd_same, upd_other, Who, anc, rec, other, who, pick3, On, on, off, on_side, upd2, upd2_anc, upd2_rec}
use Rattle.integrity.proofs.Skeleton.{absent_empty, absent_other}
use Rattle.integrity.proofs.Records.{Digest, empty, link, Value, vnone, bare, Origin, from_tree, from_deferred, Cell, Message, side_of, set_side, IsNode, key_of, set_sides}
use Rattle.integrity.proofs.OneKey.{first, Good}
use Rattle.integrity.proofs.Tree.{Inv, Links, Open, skel, link_to, step_evict_tree, step_evict_tree_deferred, step_evict_deferred, step_add_deferred, step_add_tree, step_insert, step_put, node_of_link, not_empty, get_true, absent_true}

first_side : (z u : Bool) → side_of u (cond z vnone bare) ≡ empty
first_side true u = refl
first_side false true = refl
first_side false false = refl

first_leaf : (z : Bool) → z ≡ true → IsNode (cond z vnone bare) → ⊥
first_leaf true e n = n
first_leaf false e n = false≢true e

not_true : (z : Bool) → (z ≡ true → ⊥) → z ≡ false
not_true true n = absurd (n refl)
not_true false n = refl

bare_side : (u : Bool) → side_of u bare ≡ empty
bare_side true = refl
bare_side false = refl

abbrev pub cell : Origin → Value → Option Cell
cell o v = some (record { origin = o; value = v })

-- the opened cache: the root's record, and nothing else
abbrev pub opened_cache_lem : Key → Option Cell
opened_cache_lem = upd (λ k. none) root_key (cell from_tree bare)

-- a value that is held
abbrev pub Cached : (Key → Option Cell) → Value → Type 0
Cached c v = (k : Key) × (x : Cell) × (c k ≡ some x) × (x.value ≡ v)

module _ (H : Value → Digest) (is_data : Key → Bool) where
  -- what an accepted entry moves, with what was checked of the tree
  pub data Move (c : Key → Option Cell) : Type 0 where
    adds_same : (p k : Key) (s : Bool) (x : Cell) (d : Digest) (w : Value) → c p ≡ some x → c k ≡ none → Below p s k
        → side_of s x.value ≡ link k d false → H w ≡ d → Move c
    adds_empty : (p k : Key) (s : Bool) (x : Cell) → c p ≡ some x → c k ≡ none → Below p s k
        → IsNode x.value → side_of s x.value ≡ empty → Move c
    adds_split : (p k r : Key) (s t : Bool) (x : Cell) (d : Digest) (b : Bool) → c p ≡ some x → c k ≡ none → Below p s k
        → side_of s x.value ≡ link r d b → Below k t r → is_data k ≡ false → Move c
    adds_deferred : (m : Message) → c m.key ≡ none → Move c
    evicts_tree : (p k : Key) (s : Bool) (x y : Cell) (d : Digest) (b : Bool) → c p ≡ some x → c k ≡ some y
        → side_of s x.value ≡ link k d b → Move c
    evicts_deferred : (m : Message) (y : Cell) → c m.key ≡ some y → y.origin ≡ from_deferred → m.value ≡ y.value → Move c
    evicts_tree_deferred : (p : Key) (s : Bool) (x y : Cell) (d : Digest) (b : Bool) (m : Message) → c p ≡ some x → c m.key ≡ some y
        → side_of s x.value ≡ link m.key d b → m.value ≡ y.value → Move c
    get : (k : Key) (y : Cell) → c k ≡ some y → is_data k ≡ true → Move c
    absent : (p k : Key) (s : Bool) (x : Cell) → c p ≡ some x → Below p s k → is_data k ≡ true
        → ((q : Key) → key_of (side_of s x.value) ≡ some q → ¬ Pre q k) → Move c
    put : (k : Key) (y : Cell) (w : Value) → c k ≡ some y → is_data k ≡ true → (IsNode w → ⊥) → Move c

  -- the cache after it
  abbrev pub moved : {c : Key → Option Cell} → Move c → Key → Option Cell
  moved {c} (adds_same p k s x d w _ _ _ _ _) = upd c k (cell from_tree w)
  moved {c} (adds_empty p k s x _ _ _ _ _) =
      upd2 c p (cell x.origin (set_side s (link k (H (first H is_data k)) false) x.value)) k (cell from_tree (first H is_data k))
  moved {c} (adds_split p k r s t x d b _ _ _ _ _ _) =
      upd2 c p (cell x.origin (set_side s (link k (H (set_side t (link r d b) bare)) false) x.value)) k (cell from_tree (set_side t (link r d b) bare))
  moved {c} (adds_deferred m _) = upd c m.key (cell from_deferred m.value)
  moved {c} (evicts_tree p k s x y d b _ _ _) = upd2 c p (cell x.origin (set_side s (link k (H y.value) false) x.value)) k none
  moved {c} (evicts_deferred m y _ _ _) = upd c m.key none
  moved {c} (evicts_tree_deferred p s x y d b m _ _ _ _) = upd2 c p (cell x.origin (set_side s (link m.key d true) x.value)) m.key none
  moved {c} (get k y _ _) = c
  moved {c} (absent p k s x _ _ _ _) = c
  moved {c} (put k y w _ _ _) = upd c k (cell y.origin w)

  -- the message added, or none
  abbrev pub adds_by : {c : Key → Option Cell} → Move c → List Message
  adds_by (adds_same p k s x d w _ _ _ _ _) = []
  adds_by (adds_empty p k s x _ _ _ _ _) = []
  adds_by (adds_split p k r s t x d b _ _ _ _ _ _) = []
  adds_by (adds_deferred m _) = m ∷ []
  adds_by (evicts_tree p k s x y d b _ _ _) = []
  adds_by (evicts_deferred m y _ _ _) = []
  adds_by (evicts_tree_deferred p s x y d b m _ _ _ _) = []
  adds_by (get k y _ _) = []
  adds_by (absent p k s x _ _ _ _) = []
  adds_by (put k y w _ _ _) = []

  -- the message evicted, or none
  abbrev pub evicts_by : {c : Key → Option Cell} → Move c → List Message
  evicts_by (adds_same p k s x d w _ _ _ _ _) = []
  evicts_by (adds_empty p k s x _ _ _ _ _) = []
  evicts_by (adds_split p k r s t x d b _ _ _ _ _ _) = []
  evicts_by (adds_deferred m _) = []
  evicts_by (evicts_tree p k s x y d b _ _ _) = []
  evicts_by (evicts_deferred m y _ _ _) = m ∷ []
  evicts_by (evicts_tree_deferred p s x y d b m _ _ _ _) = m ∷ []
  evicts_by (get k y _ _) = []
  evicts_by (absent p k s x _ _ _ _) = []
  evicts_by (put k y w _ _ _) = []

  -- the plain map of puts after it
  abbrev pub puts : {c : Key → Option Cell} → Move c → (Key → Value) → Key → Value
  puts (adds_same p k s x d w _ _ _ _ _) f = f
  puts (adds_empty p k s x _ _ _ _ _) f = f
  puts (adds_split p k r s t x d b _ _ _ _ _ _) f = f
  puts (adds_deferred m _) f = f
  puts (evicts_tree p k s x y d b _ _ _) f = f
  puts (evicts_deferred m y _ _ _) f = f
  puts (evicts_tree_deferred p s x y d b m _ _ _ _) f = f
  puts (get k y _ _) f = f
  puts (absent p k s x _ _ _ _) f = f
  puts (put k y w _ _ _) f = upd f k w

  -- what a get or an absence says, against the plain map
  abbrev pub Says : {c : Key → Option Cell} → Move c → (Key → Value) → Type 0
  Says (adds_same p k s x d w _ _ _ _ _) f = Unit
  Says (adds_empty p k s x _ _ _ _ _) f = Unit
  Says (adds_split p k r s t x d b _ _ _ _ _ _) f = Unit
  Says (adds_deferred m _) f = Unit
  Says (evicts_tree p k s x y d b _ _ _) f = Unit
  Says (evicts_deferred m y _ _ _) f = Unit
  Says (evicts_tree_deferred p s x y d b m _ _ _ _) f = Unit
  Says (get k y _ _) f = y.value ≡ f k
  Says (absent p k s x _ _ _ _) f = vnone ≡ f k
  Says (put k y w _ _ _) f = Unit

  -- the values that stand in the entry
  abbrev pub InEntry : {c : Key → Option Cell} → Move c → Value → Type 0
  InEntry (adds_same p k s x d w _ _ _ _ _) v = w ≡ v
  InEntry (adds_empty p k s x _ _ _ _ _) v = first H is_data k ≡ v
  InEntry (adds_split p k r s t x d b _ _ _ _ _ _) v = bare ≡ v
  InEntry (adds_deferred m _) v = m.value ≡ v
  InEntry (evicts_tree p k s x y d b _ _ _) v = ⊥
  InEntry (evicts_deferred m y _ _ _) v = ⊥
  InEntry (evicts_tree_deferred p s x y d b m _ _ _ _) v = ⊥
  InEntry (get k y _ _) v = y.value ≡ v
  InEntry (absent p k s x _ _ _ _) v = ⊥
  InEntry (put k y w _ _ _) v = w ≡ v

  -- a deferred add is outstanding when added: its message was evicted before, and is added this once
  abbrev pub Honest : {c : Key → Option Cell} → Move c → List Message → List Message → Type 0
  Honest (adds_same p k s x d w _ _ _ _ _) ev ad = Unit
  Honest (adds_empty p k s x _ _ _ _ _) ev ad = Unit
  Honest (adds_split p k r s t x d b _ _ _ _ _ _) ev ad = Unit
  Honest (adds_deferred m _) ev ad = Memᴰ m ev × (¬ Memᴰ m ad)
  Honest (evicts_tree p k s x y d b _ _ _) ev ad = Unit
  Honest (evicts_deferred m y _ _ _) ev ad = Unit
  Honest (evicts_tree_deferred p s x y d b m _ _ _ _) ev ad = Unit
  Honest (get k y _ _) ev ad = Unit
  Honest (absent p k s x _ _ _ _) ev ad = Unit
  Honest (put k y w _ _ _) ev ad = Unit

  -- what stood before, stands in the entry, or is held after it
  abbrev pub Standing : {c : Key → Option Cell} → (Value → Type 0) → Move c → Value → Type 0
  Standing S a v = S v ⊎ (InEntry a v ⊎ Cached (moved a) v)

  -- two different values that stood have one digest
  pub record Collision (S : Value → Type 0) : Type 0 where
    pub one : Value
    pub two : Value
    pub one_stood : S one
    pub two_stood : S two
    pub differ : one ≢ two
    pub equal : H one ≡ H two

  -- true values, which the cache and the plain map agree with; those of linked keys stood
  pub record Full (c : Key → Option Cell) (ev ad : List Message) (S : Value → Type 0) (f : Key → Value) : Type 0 where
    pub val : Key → Value
    pub live : Key → Bool
    pub inv : Inv H is_data c val live ev ad
    pub stood : (k : Key) → live k ≡ true → S (val k)
    pub agrees : (k : Key) → is_data k ≡ true → val k ≡ f k

  module _ {c : Key → Option Cell} {ev ad : List Message} {S : Value → Type 0} {f : Key → Value} (F : Full c ev ad S f) where
    abbrev After : Move c → Value → Type 0
    After a = Standing S a

    abbrev Fair : Move c → Type 0
    Fair a = Honest a ev ad

    abbrev Next : Move c → Type 0
    Next a = Collision (After a) ⊎ Full (moved a) (evicts_by a ++ ev) (adds_by a ++ ad) (After a) (puts a f)

    full_get : (k : Key) (y : Cell) → c k ≡ some y → is_data k ≡ true → y.value ≡ f k
    full_get k y c i = get_true H is_data _ _ _ _ _ F.inv k y c ∙ F.agrees k i

    full_absent : (p k : Key) (s : Bool) (x : Cell) → c p ≡ some x → Below p s k → is_data k ≡ true
        → ((q : Key) → key_of (side_of s x.value) ≡ some q → ¬ Pre q k) → vnone ≡ f k
    full_absent p k s x c b i n =
        let e = absent_true H is_data _ _ _ _ _ F.inv p k s x c b (λ q g. n q (ap (λ v. key_of (side_of s v)) (get_true H is_data _ _ _ _ _ F.inv p x c) ∙ g)) in
        ap (λ z. cond z vnone bare) (sym i) ∙ sym e ∙ F.agrees k i

    full_add_same : (p k : Key) (s : Bool) (x : Cell) (d : Digest) (w : Value) (cp : c p ≡ some x) (ck : c k ≡ none) (b : Below p s k)
        (l : side_of s x.value ≡ link k d false) (h : H w ≡ d) → Next (adds_same p k s x d w cp ck b l h)
    full_add_same p k s x d w cp ck b l h = go (value_dec w (F.val k))
      where
        l' : side_of s (F.val p) ≡ link k d false
        l' = ap (side_of s) (sym (get_true H is_data _ _ _ _ _ F.inv p x cp)) ∙ l

        go : Dec (w ≡ F.val k) → Next (adds_same p k s x d w cp ck b l h)
        go (yes e) = inr (record {
          val = F.val;
          live = F.live;
          inv = step_add_tree H is_data _ _ _ _ _ F.inv p k s d l' ck w e;
          stood = λ j i. inl (F.stood j i);
          agrees = F.agrees;
        })
        go (no n) = inl (record {
          one = w;
          two = F.val k;
          one_stood = inr (inl refl);
          two_stood = inl (F.stood k (F.inv.tree.linked p k s (ap key_of l')));
          differ = n;
          equal = h ∙ (F.inv.good k).hash d (p, s, l') ck;
        })

    full_put : (k : Key) (y : Cell) (w : Value) (ck : c k ≡ some y) (i : is_data k ≡ true) (n : IsNode w → ⊥) → Next (put k y w ck i n)
    full_put k y w ck i n = inr (record {
      val = upd F.val k w;
      live = F.live;
      inv = step_put H is_data _ _ _ _ _ F.inv k y ck i w n;
      stood = λ j. st j (view k j);
      agrees = λ j. ag j (view k j);
    })
      where
        st : (j : Key) (v : Is k j) → F.live j ≡ true → After (put k y w ck i n) (pick v w (F.val j))
        st _ is l = inr (inl refl)
        st j (isnt n) l = inl (F.stood j l)

        ag : (j : Key) (v : Is k j) → is_data j ≡ true → pick v w (F.val j) ≡ pick v w (f j)
        ag _ is d = refl
        ag j (isnt n) d = F.agrees j d

    full_add_deferred : (m : Message) (n : c m.key ≡ none) → Fair (adds_deferred m n) → Next (adds_deferred m n)
    full_add_deferred m n h = inr (record {
      val = F.val;
      live = F.live;
      inv = step_add_deferred H is_data _ _ _ _ _ F.inv m n h.0 h.1;
      stood = λ j i. inl (F.stood j i);
      agrees = F.agrees;
    })

    full_evict_deferred : (m : Message) (y : Cell) (ck : c m.key ≡ some y) (o : y.origin ≡ from_deferred) (v : m.value ≡ y.value) → Next (evicts_deferred m y ck o v)
    full_evict_deferred m y ck o v = inr (record {
      val = F.val;
      live = F.live;
      inv = step_evict_deferred H is_data _ _ _ _ _ F.inv m.key y ck o m refl (v ∙ get_true H is_data _ _ _ _ _ F.inv m.key y ck);
      stood = λ j i. inl (F.stood j i);
      agrees = F.agrees;
    })

    -- what a changed link leaves of the values that stood, and of the plain map
    module _ (p k : Key) (s : Bool) (nd : Digest) (nm : Bool) (vk : Value) (W : Value → Type 0) (mono : (v : Value) → S v → W v)
        (Wp : W (set_side s (link k nd nm) (F.val p))) where
      stood_link : (live' : Key → Bool) → ((j : Key) → j ≢ k → live' j ≡ true → F.live j ≡ true) → (live' k ≡ true → W vk)
          → (j : Key) → live' j ≡ true → W (link_to F.val p s k nd nm vk j)
      stood_link live' old Wk j l = go j (who p k j) l
        where
          go : (j : Key) (v : Who p k j) → live' j ≡ true → W (pick3 v (set_side s (link k nd nm) (F.val p)) vk (F.val j))
          go _ anc l = Wp
          go _ (rec n) l = Wk l
          go j (other n m) l = mono _ (F.stood j (old j m l))

    agrees_link : (p k : Key) (s : Bool) (nd : Digest) (nm : Bool) (vk : Value) → (is_data p ≡ true → ⊥) → (is_data k ≡ true → vk ≡ f k)
        → (j : Key) → is_data j ≡ true → link_to F.val p s k nd nm vk j ≡ f j
    agrees_link p k s nd nm vk np ak j i = go j (who p k j) i
      where
        go : (j : Key) (v : Who p k j) → is_data j ≡ true → pick3 v (set_side s (link k nd nm) (F.val p)) vk (F.val j) ≡ f j
        go _ anc i = absurd (np i)
        go _ (rec n) i = ak i
        go j (other n m) i = F.agrees j i

    full_evict_tree : (p k : Key) (s : Bool) (x y : Cell) (d : Digest) (b : Bool) (cp : c p ≡ some x) (ck : c k ≡ some y)
        (l : side_of s x.value ≡ link k d b) → Next (evicts_tree p k s x y d b cp ck l)
    full_evict_tree p k s x y d b cp ck l = inr (record {
      val = link_to F.val p s k (H (F.val k)) false (F.val k);
      live = F.live;
      inv = rw (ex, ey) (step_evict_tree H is_data _ _ _ _ _ F.inv p k s d b l' x y cp ck);
      stood = stood_link p k s (H (F.val k)) false (F.val k) (After (evicts_tree p k s x y d b cp ck l)) (λ v. inl) (inr (inr (p, _, upd2_anc c p _ k _, rw (ex, ey) refl))) F.live (λ j n i. i) (λ i. inl (F.stood k i));
      agrees = agrees_link p k s (H (F.val k)) false (F.val k) (λ i. (F.inv.good p).fits i (node_of_link s (F.val p) l')) (F.agrees k);
    })
      where
        ex : x.value ≡ F.val p
        ex = get_true H is_data _ _ _ _ _ F.inv p x cp

        ey : y.value ≡ F.val k
        ey = get_true H is_data _ _ _ _ _ F.inv k y ck

        l' : side_of s (F.val p) ≡ link k d b
        l' = ap (side_of s) (sym ex) ∙ l

    full_evict_tree_deferred : (p : Key) (s : Bool) (x y : Cell) (d : Digest) (b : Bool) (m : Message) (cp : c p ≡ some x) (ck : c m.key ≡ some y)
        (l : side_of s x.value ≡ link m.key d b) (v : m.value ≡ y.value) → Next (evicts_tree_deferred p s x y d b m cp ck l v)
    full_evict_tree_deferred p s x y d b m cp ck l v = inr (record {
      val = link_to F.val p s m.key d true (F.val m.key);
      live = F.live;
      inv = rw ex (step_evict_tree_deferred H is_data _ _ _ _ _ F.inv p m.key s d b l' x y cp ck m refl (v ∙ ey));
      stood = stood_link p m.key s d true (F.val m.key) (After (evicts_tree_deferred p s x y d b m cp ck l v)) (λ v. inl) (inr (inr (p, _, upd2_anc c p _ m.key _, rw ex refl))) F.live (λ j n i. i) (λ i. inl (F.stood m.key i));
      agrees = agrees_link p m.key s d true (F.val m.key) (λ i. (F.inv.good p).fits i (node_of_link s (F.val p) l')) (F.agrees m.key);
    })
      where
        ex : x.value ≡ F.val p
        ex = get_true H is_data _ _ _ _ _ F.inv p x cp

        ey : y.value ≡ F.val m.key
        ey = get_true H is_data _ _ _ _ _ F.inv m.key y ck

        l' : side_of s (F.val p) ≡ link m.key d b
        l' = ap (side_of s) (sym ex) ∙ l

    not_live : (k : Key) → (F.live k ≡ true → ⊥) → F.live k ≡ false
    not_live k n = not_true (F.live k) n

    grow_live : (k j : Key) → j ≢ k → upd F.live k true j ≡ true → F.live j ≡ true
    grow_live k j n e = sym (upd_other F.live k true j n) ∙ e

    full_add_empty : (p k : Key) (s : Bool) (x : Cell) (cp : c p ≡ some x) (ck : c k ≡ none) (b : Below p s k) (n : IsNode x.value)
        (e : side_of s x.value ≡ empty) → Next (adds_empty p k s x cp ck b n e)
    full_add_empty p k s x cp ck b n e = inr (record {
      val = link_to F.val p s k (H vk) false vk;
      live = upd F.live k true;
      inv = rw ex (step_insert H is_data _ _ _ _ _ F.inv p k s b lp np lk vk (H vk) low keep (first_leaf (is_data k)) x cp ck);
      stood = stood_link p k s (H vk) false vk (After (adds_empty p k s x cp ck b n e)) (λ v. inl) (inr (inr (p, _, upd2_anc c p _ k _, rw ex refl))) (upd F.live k true) (grow_live k) (λ i. inr (inl refl));
      agrees = agrees_link p k s (H vk) false vk (λ i. (F.inv.good p).fits i np) (λ i. sym ((F.inv.good k).fresh lk) ∙ F.agrees k i);
    })
      where
        vk : Value
        vk = first H is_data k

        ex : x.value ≡ F.val p
        ex = get_true H is_data _ _ _ _ _ F.inv p x cp

        e' : side_of s (F.val p) ≡ empty
        e' = ap (side_of s) (sym ex) ∙ e

        np : IsNode (F.val p)
        np = subst IsNode ex n

        lp : F.live p ≡ true
        lp = ((F.inv.good p).cached x cp).1

        lk : F.live k ≡ false
        lk = not_live k (absent_empty (skel F.val) F.live F.inv.tree p k s lp b (ap key_of e'))

        low : (u : Bool) (j : Key) (d : Digest) (a : Bool) → side_of u vk ≡ link j d a → (side_of s (F.val p) ≡ link j d a) × Below k u j
        low u j d a q = absurd (not_empty (sym (first_side (is_data k) u) ∙ q))

        keep : (j : Key) → key_of (side_of s (F.val p)) ≡ some j → (u : Bool) × (key_of (side_of u vk) ≡ some j)
        keep j q = absurd (none-ne-some j (sym (ap key_of e') ∙ q))

    full_add_split : (p k o : Key) (s u : Bool) (x : Cell) (d : Digest) (m : Bool) (cp : c p ≡ some x) (ck : c k ≡ none) (b : Below p s k)
        (e : side_of s x.value ≡ link o d m) (g : Below k u o) (i : is_data k ≡ false) → Next (adds_split p k o s u x d m cp ck b e g i)
    full_add_split p k o s u x d m cp ck b e g i = inr (record {
      val = link_to F.val p s k (H vk) false vk;
      live = upd F.live k true;
      inv = rw ex (step_insert H is_data _ _ _ _ _ F.inv p k s b lp np lk vk (H vk) (λ w j f a. low w j f a (on_side u w)) keep (λ t. absurd (true≢false (sym t ∙ i))) x cp ck);
      stood = stood_link p k s (H vk) false vk (After (adds_split p k o s u x d m cp ck b e g i)) (λ v. inl) (inr (inr (p, _, upd2_anc c p _ k _, rw ex refl))) (upd F.live k true) (grow_live k) (λ l. inr (inr (k, _, upd2_rec c p _ k _ kp, refl)));
      agrees = agrees_link p k s (H vk) false vk (λ t. (F.inv.good p).fits t np) (λ t. absurd (true≢false (sym t ∙ i)));
    })
      where
        vk : Value
        vk = set_side u (link o d m) bare

        ex : x.value ≡ F.val p
        ex = get_true H is_data _ _ _ _ _ F.inv p x cp

        kp : k ≢ p
        kp q = below_not_back b (subst (λ y. Pre k y) q (pre_refl k))

        e' : side_of s (F.val p) ≡ link o d m
        e' = ap (side_of s) (sym ex) ∙ e

        np : IsNode (F.val p)
        np = node_of_link s (F.val p) e'

        lp : F.live p ≡ true
        lp = ((F.inv.good p).cached x cp).1

        lk : F.live k ≡ false
        lk = not_live k (absent_other (skel F.val) F.live F.inv.tree p k o s lp b (ap key_of e') (below_not_back g))

        low : (w : Bool) (j : Key) (f : Digest) (a : Bool) → On u w → side_of w vk ≡ link j f a → (side_of s (F.val p) ≡ link j f a) × Below k w j
        low _ j f a on q = let h : link o d m ≡ link j f a = sym (set_sides u u on (link o d m) bare tt) ∙ q in
            (e' ∙ h, subst (Below k u) (some-injective _ _ (ap key_of h)) g)
        low w j f a (off n) q = absurd (not_empty (sym (bare_side w) ∙ sym (set_sides u w (off n) (link o d m) bare tt) ∙ q))

        keep : (j : Key) → key_of (side_of s (F.val p)) ≡ some j → (w : Bool) × (key_of (side_of w vk) ≡ some j)
        keep j q = (u, ap key_of (set_sides u u on (link o d m) bare tt) ∙ sym (ap key_of e') ∙ q)

    -- what an accepted get or absence says is so
    pub tree_says : (a : Move c) → Says a f
    tree_says (adds_same p k s x d w _ _ _ _ _) = tt
    tree_says (adds_empty p k s x _ _ _ _ _) = tt
    tree_says (adds_split p k o s u x d b _ _ _ _ _ _) = tt
    tree_says (adds_deferred m _) = tt
    tree_says (evicts_tree p k s x y d b _ _ _) = tt
    tree_says (evicts_deferred m y _ _ _) = tt
    tree_says (evicts_tree_deferred p s x y d b m _ _ _ _) = tt
    tree_says (get k y ck i) = full_get k y ck i
    tree_says (absent p k s x cp b i n) = full_absent p k s x cp b i n
    tree_says (put k y w _ _ _) = tt

    -- part 3: the invariant goes on, or two values collide
    pub tree_step : (a : Move c) → Fair a → Next a
    tree_step (adds_same p k s x d w cp ck b l h) o = full_add_same p k s x d w cp ck b l h
    tree_step (adds_empty p k s x cp ck b n e) o = full_add_empty p k s x cp ck b n e
    tree_step (adds_split p k q s u x d m cp ck b e g i) o = full_add_split p k q s u x d m cp ck b e g i
    tree_step (adds_deferred m n) h = full_add_deferred m n h
    tree_step (evicts_tree p k s x y d b cp ck l) o = full_evict_tree p k s x y d b cp ck l
    tree_step (evicts_deferred m y ck q v) o = full_evict_deferred m y ck q v
    tree_step (evicts_tree_deferred p s x y d b m cp ck l v) o = full_evict_tree_deferred p s x y d b m cp ck l v
    tree_step (get k y _ _) o = inr (record { val = F.val; live = F.live; inv = F.inv; stood = λ j i. inl (F.stood j i); agrees = F.agrees })
    tree_step (absent p k s x _ _ _ _) o = inr (record { val = F.val; live = F.live; inv = F.inv; stood = λ j i. inl (F.stood j i); agrees = F.agrees })
    tree_step (put k y w ck i n) o = full_put k y w ck i n

  module _ (root_node : is_data root_key ≡ false) where
    -- the opened cache, with no message and no put
    pub tree_start : Full opened_cache_lem [] [] (Cached opened_cache_lem) (λ k. vnone)
    tree_start = record {
      val = v;
      live = l;
      inv = record {
        tree = record {
          root = upd_same (λ k. false) root_key true;
          below = λ p k s e. absurd (no_key p k s e);
          linked = λ p k s e. absurd (no_key p k s e);
          holds = λ p k s e. absurd (no_key p k s e);
          reach = λ p k s lp lk b. absurd (not_below_root (subst (Below p s) (only k (view root_key k) lk) b));
        };
        good = λ j. go j (view root_key j);
      };
      stood = λ k i. (root_key, record { origin = from_tree; value = bare }, upd_same (λ k. none) root_key _, rw (only k (view root_key k) i) root_value_lem);
      agrees = λ k i. ap (λ z. cond z vnone bare) i;
    }
      where
        v : Key → Value
        v k = first H is_data k

        l : Key → Bool
        l = upd (λ k. false) root_key true

        root_value_lem : bare ≡ v root_key
        root_value_lem = ap (λ z. cond z vnone bare) (sym root_node)

        no_key : (p k : Key) (s : Bool) → skel v p s ≡ some k → ⊥
        no_key p k s e = none-ne-some k (sym (ap key_of (first_side (is_data p) s)) ∙ e)

        no_links : (j : Key) (d : Digest) (b : Bool) → Links v j d b → ⊥
        no_links j d b x = not_empty (sym (first_side (is_data x.0) x.1) ∙ x.2)

        no_open : (j : Key) (m : Message) → Open [] [] j m → ⊥
        no_open j m o = Memᴰ.not-nil o.0

        only : (k : Key) (x : Is root_key k) → pick x true false ≡ true → k ≡ root_key
        only _ is e = refl
        only k (isnt n) e = absurd (false≢true e)

        go : (j : Key) (x : Is root_key j) → Good H is_data j (pick x (some (record { origin = from_tree; value = bare })) none) (v j) (pick x true false) (Links v j) (Open [] [] j)
        go _ is = record {
          cached = λ x e. (ap (λ c. c.value) (sym (some-injective _ _ e)) ∙ root_value_lem, refl);
          fresh = λ e. refl;
          fits = first_leaf (is_data root_key);
          hash = λ d i e. absurd (no_links root_key d false i);
          mark = λ y d b e o i. absurd (no_links root_key d b i);
          out = λ n i. absurd (no_open root_key n i);
          out_mark = λ n d b i. absurd (no_open root_key n i);
          out_one = λ n o i. absurd (no_open root_key n i);
        }
        go j (isnt n) = record {
          cached = λ x e. absurd (none-ne-some _ e);
          fresh = λ e. refl;
          fits = first_leaf (is_data j);
          hash = λ d i e. absurd (no_links j d false i);
          mark = λ y d b e o i. absurd (no_links j d b i);
          out = λ n i. absurd (no_open j n i);
          out_mark = λ n d b i. absurd (no_open j n i);
          out_one = λ n o i. absurd (no_open j n i);
        }
