-- Refinement, what every entry shares: how a state and a cache of bytes stand for a lane, and what is to be shown of an accepted entry.
use mathlib.Core.Path.{◌≡◌, refl, sym, ◌∙◌, ap, subst, fun_ext}
use mathlib.Core.Logic.{◌≢◌}
use mathlib.Core.Bool.{Bool, true, false, true≢false, false≢true, cond}
use mathlib.Core.Option.{Option, none, some, none-ne-some, some-injective}
use mathlib.Core.List.{List, ◌++◌, Memᴰ}
use Prim.Native.Nat.{ℕ, ◌*◌, ◌<◌}
use lib.ListN.{length, set, length-set}
use lib.Seq.{get_or-set_other}
use lib.Dec.{eqb, ltb}
use borrow.Author.Tests.{eq-eqb, lt-ltb}
use Rattle.words.specs.Choice.{pick, no}
use Rattle.words.specs.Numbers.{Bytes}
use Rattle.words.proofs.Laws.{both_true, true_both, part_bytes}
use Rattle.cmac.specs.declared.Tag.{Tag}
use Rattle.key.specs.Keys.{is_data, key_eq, well_key}
use Rattle.key.proofs.Laws.{key_eq_true, key_eq_refl}
use Rattle.value.specs.Values as value
use Rattle.value.specs.Values.{is_node, is_first, both_empty, with_side, well_side, well_value, SideFits, ValueFits}
use Rattle.value.specs.declared.Node.{Node}
use Rattle.entry.specs.declared.Entry.{Entry}
use Rattle.hash.specs.Hashes.{digest_of, tag_of}
use Rattle.hash.specs.declared.SetKey.{SetKey}
use Rattle.slot.specs.declared.Slot.TheVariants as sl
use Rattle.slot.proofs.Back.{Kept, slot_kept}
use Rattle.cache.specs.Caches.{slot_in, count, held}
use Rattle.state.specs.declared.State.{State}
use Rattle.rules.specs.Outcomes.{Outcome, refuses, accepts}
use Rattle.integrity.specs.Statement.{put_by, Agrees, value_in, added_by, evicted_by}
use Rattle.integrity.proofs.Ancestors.{Key, Pre, pre_refl, Below, below_not_back}
use Rattle.integrity.proofs.Updates.{Is, is, isnt, view, upd, upd_other, upd2}
use Rattle.integrity.proofs.Updates as updates
use Rattle.integrity.proofs.Records.{Digest, Side, empty, link, Value, vnone, print, node, bare, Cell}
use Rattle.integrity.proofs.Lane.{Lane, Accepts, next, Says, puts, InEntry}
use Rattle.integrity.proofs.Slots.{Rec, Slots, slot_at, look, Unique, look_at, look_add, look_clear, look_write, unique_add, unique_clear, unique_write, upd_two}
use Rattle.integrity.proofs.Caches.{rec_of, slots_in, slot_get, slots_length, recd, not_held}
use Rattle.integrity.proofs.Tallies.{tags, Tallies}

-- ---- from an accepted outcome, what each check found

pub never : {C : Type 0} (n : ℕ) (st : State) (c : List ℕ) {σ : State} {d : List ℕ} → eqb n 0 ≡ false → refuses n st c ≡ accepts σ d → C
never n st c z e = absurd (true≢false (sym (eq-eqb n 0 (ap (λ (o : Outcome). o.done.verdict) e)) ∙ z))

no_then : {C : Type 0} (b : Bool) (n : ℕ) (st : State) (c : List ℕ) (Y : Outcome) {σ : State} {d : List ℕ} → eqb n 0 ≡ false
    → pick b (refuses n st c) Y ≡ accepts σ d → (b ≡ false → Y ≡ accepts σ d → C) → C
no_then true n st c Y z e k = never n st c z e
no_then false n st c Y z e k = k refl e

yes_then : {C : Type 0} (b : Bool) (n : ℕ) (st : State) (c : List ℕ) (Y : Outcome) {σ : State} {d : List ℕ} → eqb n 0 ≡ false
    → pick b Y (refuses n st c) ≡ accepts σ d → (b ≡ true → Y ≡ accepts σ d → C) → C
yes_then true n st c Y z e k = k refl e
yes_then false n st c Y z e k = never n st c z e

-- ---- values

both_empty_lem : (l r : Side) → both_empty l r ≡ true → (l ≡ empty) × (r ≡ empty)
both_empty_lem empty empty e = (refl, refl)
both_empty_lem empty (link k d m) e = absurd (false≢true e)
both_empty_lem (link k d m) y e = absurd (false≢true e)

-- a first value that fits its key
pub first_is : (z : Bool) (x : Value) → is_first x ≡ true → pick z (no (is_node x)) (is_node x) ≡ true → x ≡ cond z vnone bare
unfolding is_first
first_is true vnone e f = refl
first_is false vnone e f = absurd (false≢true f)
first_is z (print d) e f = absurd (false≢true e)
first_is true (node n) e f = absurd (false≢true f)
first_is false (node n) e f = let b = both_empty_lem n.left n.right e in λ i. node (record { left = b.0 i; right = b.1 i })

module _ (n : Node) where
  pub side_good : (d : Bool) → well_value (node n) ≡ true → well_side (value.side_of n d) ≡ true
  unfolding well_value
  side_good true w = (both_true (well_side n.left) (well_side n.right) w).1
  side_good false w = (both_true (well_side n.left) (well_side n.right) w).0

  pub side_fits : (d : Bool) → ValueFits (node n) → SideFits (value.side_of n d)
  side_fits true w = w.1
  side_fits false w = w.0

  pub with_good : (d : Bool) (x : Side) → well_value (node n) ≡ true → well_side x ≡ true → well_value (node (with_side n d x)) ≡ true
  unfolding well_value
  with_good true x w h = true_both (well_side n.left) (well_side x) (both_true (well_side n.left) (well_side n.right) w).0 h
  with_good false x w h = true_both (well_side x) (well_side n.right) h (both_true (well_side n.left) (well_side n.right) w).1

  pub with_fits : (d : Bool) (x : Side) → ValueFits (node n) → SideFits x → ValueFits (node (with_side n d x))
  with_fits true x w h = (w.0, h)
  with_fits false x w h = (h, w.1)

pub link_good : (k : Key) (g : Digest) (m : Bool) → well_side (link k g m) ≡ true → well_key k ≡ true
unfolding well_side
link_good k g m w = (both_true (well_key k) (ltb 0 k.len) w).0

pub good_link : (k : Key) (g : Digest) (m : Bool) → well_key k ≡ true → 0 < k.len → well_side (link k g m) ≡ true
unfolding well_side
good_link k g m w h = true_both (well_key k) (ltb 0 k.len) w (lt-ltb 0 k.len h)

pub bare_good : well_value bare ≡ true
unfolding well_value well_side
bare_good = refl

pub below_differ : {p k : Key} {d : Bool} → Below p d k → k ≢ p
below_differ {p} {k} b q = below_not_back b (subst (λ y. Pre k y) q (pre_refl k))

-- a put into the plain map, by the test of keys
pub put_is : (f : Key → Value) (k : Key) (x : Value) → upd f k x ≡ (λ j. pick (key_eq k j) x (f j))
put_is f k x = fun_ext (λ j. go j (view k j))
  where
    differs : (j : Key) → j ≢ k → (z : Bool) → key_eq k j ≡ z → z ≡ false
    differs j n true e = absurd (n (sym (key_eq_true k j e)))
    differs j n false e = refl

    go : (j : Key) (v : Is k j) → updates.pick v x (f j) ≡ pick (key_eq k j) x (f j)
    go _ is = rw (key_eq_refl k)
    go j (isnt n) = rw (differs j n (key_eq k j) refl)

-- ---- slots that are written, read as a function of keys

module _ (l : Slots) (f : Key → Option Cell) (u : Unique l) (q : look l ≡ f) where
  pub in_slot : (i : ℕ) (r : Rec) → slot_at l i ≡ some r → f r.key ≡ some r.cell
  in_slot i r e = ap (λ g. g r.key) (sym q) ∙ look_at l i r u e

  pub not_in : (k : Key) → look l k ≡ none → f k ≡ none
  not_in k e = ap (λ g. g k) (sym q) ∙ e

  pub cache_add : (i : ℕ) (x : Rec) → i < length l → slot_at l i ≡ none → look l x.key ≡ none → look (set l i (some x)) ≡ upd f x.key (some x.cell)
  cache_add i x h w n = look_add l i x h w n ∙ ap (λ g. upd g x.key (some x.cell)) q

  pub cache_write : (i : ℕ) (x : Rec) (c : Cell) → slot_at l i ≡ some x → look (set l i (some (record { key = x.key; cell = c }))) ≡ upd f x.key (some c)
  cache_write i x c w = look_write l i x c u w ∙ ap (λ g. upd g x.key (some c)) q

  pub cache_clear : (i : ℕ) (x : Rec) → slot_at l i ≡ some x → look (set l i none) ≡ upd f x.key none
  cache_clear i x w = look_clear l i x u w ∙ ap (λ g. upd g x.key none) q

  module _ (p : ℕ) (r : Rec) (w : slot_at l p ≡ some r) (c : Cell) where
    abbrev wrote : Slots
    wrote = set l p (some (record { key = r.key; cell = c }))

    uniq_wrote : Unique wrote
    uniq_wrote = unique_write l p r c u w

    still : (s : ℕ) → s ≢ p → slot_at wrote s ≡ slot_at l s
    still s n = get_or-set_other l p s _ none n

    module _ (s : ℕ) (x : Rec) (v : slot_at l s ≡ some x) (n : x.key ≢ r.key) where
      apart_slots : s ≢ p
      apart_slots e = n (ap (λ (y : Rec). y.key) (some-injective _ _ (sym v ∙ ap (slot_at l) e ∙ w)))

      pub both_clear : look (set wrote s none) ≡ upd2 f r.key (some c) x.key none
      both_clear = look_clear wrote s x uniq_wrote (still s apart_slots ∙ v) ∙ ap (λ g. upd g x.key none) (cache_write p r c w) ∙ upd_two f r.key (some c) x.key none n

      pub uniq_clear : Unique (set wrote s none)
      uniq_clear = unique_clear wrote s x uniq_wrote (still s apart_slots ∙ v)

    module _ (s : ℕ) (x : Rec) (h : s < length l) (v : slot_at l s ≡ none) (m : look l x.key ≡ none) (n : x.key ≢ r.key) where
      free_apart : s ≢ p
      free_apart e = none-ne-some r (sym v ∙ ap (slot_at l) e ∙ w)

      not_wrote : look wrote x.key ≡ none
      not_wrote = ap (λ g. g x.key) (cache_write p r c w) ∙ upd_other f r.key (some c) x.key n ∙ not_in x.key m

      inside : s < length wrote
      inside = rw length-set h

      pub both_add : look (set wrote s (some x)) ≡ upd2 f r.key (some c) x.key (some x.cell)
      both_add = look_add wrote s x inside (still s free_apart ∙ v) not_wrote ∙ ap (λ g. upd g x.key (some x.cell)) (cache_write p r c w) ∙ upd_two f r.key (some c) x.key (some x.cell) n

      pub uniq_add : Unique (set wrote s (some x))
      uniq_add = unique_add wrote s x inside uniq_wrote (still s free_apart ∙ v) not_wrote

-- ---- how a state and a cache stand for a lane

module _ (key : SetKey) where
  -- a step that the lane accepts, with the real digest and the real tags
  abbrev pub Takes : Lane → Type 0
  Takes t = Accepts digest_of is_data Tag tags (tag_of key) t

  abbrev pub onward : {t : Lane} → Takes t → Lane
  onward a = next digest_of is_data Tag tags (tag_of key) a

  pub record Stands (st : State) (c : List ℕ) (t : Lane) : Type 0 where
    pub set_is_key : st.set ≡ key
    pub bytes : Bytes c
    pub uniq : Unique (slots_in c)
    pub cache : look (slots_in c) ≡ t.cache
    pub tallies : Tallies key st t.clock t.epoch t.old t.evs t.ads

  -- the entry x, accepted in the state st and the cache c, is a step of the lane, and says, puts, counts and shows the same
  pub record Refined (x : Entry) (st : State) (c : List ℕ) (st' : State) (c' : List ℕ) (t : Lane) : Type 0 where
    pub acc : Takes t
    pub stands : Stands st' c' (onward acc)
    pub says : (f : Key → Value) → Says digest_of is_data Tag tags (tag_of key) acc f → Agrees x f
    pub putting : (f : Key → Value) → puts digest_of is_data Tag tags (tag_of key) acc f ≡ put_by x f
    pub evicting : (onward acc).evs ≡ evicted_by (record { state = st; cache = c }) x ++ t.evs
    pub adding : (onward acc).ads ≡ added_by x ++ t.ads
    pub entry : (v : Value) → InEntry digest_of is_data Tag tags (tag_of key) acc v → Memᴰ v (value_in x)

  module _ (st : State) (c : List ℕ) (t : Lane) (R : Stands st c t) (st' : State) (c' : List ℕ) where
    pub stop : {C : Type 0} (n : ℕ) → eqb n 0 ≡ false → refuses n st c ≡ accepts st' c' → C
    stop n z e = never n st c z e

    pub nope : {C : Type 0} (b : Bool) (n : ℕ) (Y : Outcome) → eqb n 0 ≡ false → pick b (refuses n st c) Y ≡ accepts st' c' → (b ≡ false → Y ≡ accepts st' c' → C) → C
    nope b n Y z e k = no_then b n st c Y z e k

    pub yep : {C : Type 0} (b : Bool) (n : ℕ) (Y : Outcome) → eqb n 0 ≡ false → pick b Y (refuses n st c) ≡ accepts st' c' → (b ≡ true → Y ≡ accepts st' c' → C) → C
    yep b n Y z e k = yes_then b n st c Y z e k

    pub done : (x : Entry) (σ : State) (d : List ℕ) (a : Takes t) → accepts σ d ≡ accepts st' c' → Stands σ d (onward a)
        → ((f : Key → Value) → Says digest_of is_data Tag tags (tag_of key) a f → Agrees x f) → ((f : Key → Value) → puts digest_of is_data Tag tags (tag_of key) a f ≡ put_by x f)
        → (onward a).evs ≡ evicted_by (record { state = st; cache = c }) x ++ t.evs → (onward a).ads ≡ added_by x ++ t.ads
        → ((v : Value) → InEntry digest_of is_data Tag tags (tag_of key) a v → Memᴰ v (value_in x)) → Refined x st c st' c' t
    done x σ d a e g sa pu ev ad en = record {
      acc = a;
      stands =
          subst (λ z. Stands z c' (onward a)) (ap (λ (o : Outcome). o.done.state) e)
          (subst (λ z. Stands σ z (onward a)) (ap (λ (o : Outcome). o.bytes) e) g);
      says = sa;
      putting = pu;
      evicting = ev;
      adding = ad;
      entry = en;
    }

    -- what a slot holds
    pub full : (i : ℕ) → i < count c → (o : ℕ) (k : Key) (x : Value) → slot_in c i ≡ sl.Full o k x → slot_at (slots_in c) i ≡ recd o k x
    full i h o k x e = slot_get (count c) c i h ∙ ap rec_of e

    pub free : (i : ℕ) → i < count c → slot_in c i ≡ sl.Free → slot_at (slots_in c) i ≡ none
    free i h e = slot_get (count c) c i h ∙ ap rec_of e

    pub cached : (i : ℕ) → i < count c → (o : ℕ) (k : Key) (x : Value) → slot_in c i ≡ sl.Full o k x → t.cache k ≡ some (record { origin = o; value = x })
    cached i h o k x e = in_slot (slots_in c) t.cache R.uniq R.cache i (record { key = k; cell = record { origin = o; value = x } }) (full i h o k x e)

    pub in_list : (i : ℕ) → i < count c → i < length (slots_in c)
    in_list i h = rw (slots_length (count c) c) h

    pub kept : (i o : ℕ) (k : Key) (x : Value) → slot_in c i ≡ sl.Full o k x → Kept o k x
    kept i o k x e = slot_kept _ o k x e (part_bytes c (i * 192) 192 R.bytes)

    pub missing : (k : Key) → held c k ≡ false → look (slots_in c) k ≡ none
    missing k h = not_held (count c) c k (unfold held in h)

    pub absent_key : (k : Key) → held c k ≡ false → t.cache k ≡ none
    absent_key k h = not_in (slots_in c) t.cache R.uniq R.cache k (missing k h)
