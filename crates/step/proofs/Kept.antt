-- A step on a state and a cache that are well formed leaves them so, the set key as it is and the cache as long as it was: what lets a run
-- decide it once, expand the set key once, and go on by the inner step. Assumes nothing.
use Rattle.std.specs.Prelude.{Option, Some, None, Ok, Err}
use Prim.Native.Nat.{ℕ, ◌*◌, ◌-◌, ◌≤◌, ◌<◌}
use mathlib.Core.Path.{◌≡◌, refl, ap, sym, ◌∙◌}
use mathlib.Core.List.{List}
use mathlib.Core.Bool.{Bool, true, false}
use native.Mathlib.Omega.{arith}
use native.Mathlib.Decide.{ℕ_discrete, dec_lt}
use lib.Dec.{leb, eqb, ltb, lit≤}
use lib.ListN.{length}
use borrow.Author.Tests.{lt-ltb, ltb-true, leb-true, leb-false, eqb-false, ne_eqb}
use Rattle.words.specs.Choice.{pick}
use Rattle.words.specs.Numbers.{Bytes}
use Rattle.words.specs.Splices.{part}
use Rattle.words.proofs.Laws.{never, picked, both_true, true_both, part_bytes}
use Rattle.verdict.specs.Verdicts.{not_well, no_slot, slot_taken, slot_empty, key_held, wrong_kind, other_key, no_ancestor, no_link, other_branch, marked_deferred, digest_differs, not_first, wrong_origin, root_slot, epoch_not_open, time_out_of_range, count_full, epoch_full, wrong_moment, counts_differ, sums_differ, short, malformed}
use Rattle.cmac.specs.Tags.{tag_eq}
use Rattle.cmac.specs.declared.Tag.{Tag}
use Rattle.key.specs.Keys.{key_eq, above, toward, is_data, well_key, KeyFits}
use Rattle.key.specs.declared.Key.{Key}
use Rattle.key.proofs.Laws.{key_eq_true}
use Rattle.value.specs.Values.{digest_eq, is_node, is_first, fits, bare_node, side_of, with_side, well_side, well_value, SideFits, ValueFits}
use Rattle.value.specs.declared.Digest.{Digest}
use Rattle.value.specs.declared.Side.{Side}
use Rattle.value.specs.declared.Side.TheVariants.{Empty, Link}
use Rattle.value.specs.declared.Node.{Node}
use Rattle.value.specs.declared.Value.{Value}
use Rattle.value.specs.declared.Value.TheVariants as v
use Rattle.message.specs.declared.Epoch.{Epoch}
use Rattle.message.specs.declared.Time.{Time}
use Rattle.entry.specs.Entries.{Reading, read_entry, reading_used, well_entry}
use Rattle.entry.specs.declared.Entry.{Entry}
use Rattle.entry.specs.declared.Entry.TheVariants.{AddTree, AddDeferred, EvictTree, EvictDeferred, EvictTreeDeferred, Get, Absent, Put, Advance, Close}
use Rattle.entry.specs.declared.Unread.TheVariants as unread
use Rattle.writer.specs.Writings.{EntryFits}
use Rattle.writer.proofs.Same.{entry_same}
use Rattle.hash.specs.Hashes.{digest_of, tag_of}
use Rattle.hash.proofs.Laws.{digest_of_fits}
use Rattle.slot.specs.Slots.{slot_length, tree, deferred}
use Rattle.slot.specs.declared.Slot.{Slot}
use Rattle.slot.specs.declared.Slot.TheVariants as sl
use Rattle.slot.proofs.Back.{Kept, slot_kept}
use Rattle.cache.specs.Caches.{well_length, well_cache, count, slot_in, put_slot, held}
use Rattle.cache.proofs.Slots.{put_here, put_other, put_length, put_count, free_length}
use Rattle.cache.proofs.Found.{held_nowhere, nowhere_held}
use Rattle.cache.proofs.Well.{WellSlots, length_slots, well_slots, slots_well, free_well, add_well, replace_well}
use Rattle.state.specs.States.{count_limit, epoch_limit, well_state, added_current, added_old, evicted_state, evicted, advanced_state, closed_state}
use Rattle.state.specs.declared.Tally.{Tally}
use Rattle.state.specs.declared.State.{State}
use Rattle.state.proofs.Laws.{added_current_well, added_old_well, evicted_well, advanced_well, closed_well}
use Rattle.rules.specs.Outcomes.{Done, Outcome, outcome, refuses, accepts}
use Rattle.rules.specs.Adds.{linked, add_side, add_link, add_node, add_to, add_under, add_at, add_tree, named_epoch, named_old, in_time, add_message, add_named, add_into, defer_at, add_deferred}
use Rattle.rules.specs.Evicts.{unlinked, evict_side, evict_link, evict_node, evict_to, evict_under, evict_at, evict_by, deferred_at, evict_deferred}
use Rattle.rules.specs.Answers as answers
use Rattle.rules.specs.Answers.{put_into}
use Rattle.rules.specs.Epochs as epochs
use Rattle.rules.specs.Epochs.{advance_old, close_old}
use Rattle.rules.specs.Steps.{Step, entry_step, taking, step_read, step_well, well_formed, step}
use Rattle.rules.specs.declared.Named.{Named}
use Rattle.rules.specs.declared.Named.TheVariants as named

-- ---- keys and values

longer : (a b : Key) → above a b ≡ true → a.len < b.len
unfolding above
longer a b e = ltb-true a.len b.len (both_true (ltb a.len b.len) _ e).0

within : (k : Key) → well_key k ≡ true → k.len ≤ 256
unfolding well_key
within k e = leb-true k.len 256 (both_true (leb k.len 256) _ e).0

-- a value of the same kind fits too
fits_kind : (k : Key) (x y : Value) → is_node x ≡ is_node y → fits k y ≡ true → fits k x ≡ true
unfolding fits
fits_kind k x y e f = rw e f

node_fits : (k : Key) (n : Node) → k.len < 256 → fits k (v.Node n) ≡ true
unfolding fits
node_fits k n h = rw (ne_eqb k.len 256 (λ e. omega arith))

-- a side as a slot may hold it
record Fair (x : Side) : Type 0 where
  form : well_side x ≡ true
  room : SideFits x

record Fairs (n : Node) : Type 0 where
  left : Fair n.left
  right : Fair n.right

link_fair : (k : Key) (d : Digest) (m : Bool) → well_key k ≡ true → 0 < k.len → SideFits (Link k d m) → Fair (Link k d m)
unfolding well_side
link_fair k d m w h f = record { form = true_both (well_key k) (ltb 0 k.len) w (lt-ltb 0 k.len h); room = f }

node_fair : (n : Node) → well_value (v.Node n) ≡ true → ValueFits (v.Node n) → Fairs n
unfolding well_value
node_fair n w f =
    let p = both_true (well_side n.left) (well_side n.right) w in
    record { left = record { form = p.0; room = f.0 }; right = record { form = p.1; room = f.1 } }

bare_fair : Fairs bare_node
unfolding well_side
bare_fair = record { left = record { form = refl; room = tt }; right = record { form = refl; room = tt } }

side_fair : (n : Node) (r : Bool) → Fairs n → Fair (side_of n r)
side_fair n true f = f.right
side_fair n false f = f.left

with_fair : (n : Node) (r : Bool) (x : Side) → Fairs n → Fair x → Fairs (with_side n r x)
with_fair n true x f g = record { left = f.left; right = g }
with_fair n false x f g = record { left = g; right = f.right }

-- a record with a node in the place of its value
kept_node : (o : ℕ) (k : Key) (x : Value) (n : Node) → Kept o k x → Fairs n → Kept o k (v.Node n)
unfolding well_value
kept_node o k x n a f =
    record {
      low = a.low;
      high = a.high;
      key = a.key;
      value = true_both (well_side n.left) (well_side n.right) f.left.form f.right.form;
      key_fits = a.key_fits;
      value_fits = (f.left.room, f.right.room);
    }

-- ---- the changes of a state leave its set key

added_current_set : (st : State) (g : Tag) → (added_current st g).set ≡ st.set
unfolding added_current
added_current_set st g = refl

added_old_set : (st : State) (t : Tally) (g : Tag) → (added_old st t g).set ≡ st.set
unfolding added_old
added_old_set st t g = refl

evicted_set : (st : State) (k : Key) (x : Value) → (evicted st k x).set ≡ st.set
unfolding evicted evicted_state
evicted_set st k x = refl

advanced_set : (st : State) → (advanced_state st).set ≡ st.set
unfolding advanced_state
advanced_set st = refl

closed_set : (st : State) → (closed_state st).set ≡ st.set
unfolding closed_state
closed_set st = refl

-- ---- what is kept

-- a state that may follow st
record Next (st σ : State) : Type 0 where
  well : well_state σ ≡ true
  set : σ.set ≡ st.set

pub record Keeps (st : State) (c : List ℕ) (o : Outcome) : Type 0 where
  pub state : well_state o.done.state ≡ true
  pub set : o.done.state.set ≡ st.set
  pub slots : WellSlots o.bytes
  pub size : length o.bytes ≡ length c

-- a key and a value as an entry that was read brings them
pub record Brought (k : Key) (x : Value) : Type 0 where
  pub key : well_key k ≡ true
  pub value : well_value x ≡ true
  pub key_fits : KeyFits k
  pub value_fits : ValueFits x

brought_kept : (o : ℕ) (k : Key) (x : Value) → 1 ≤ o → o ≤ 2 → Brought k x → Kept o k x
brought_kept o k x l h a = record { low = l; high = h; key = a.key; value = a.value; key_fits = a.key_fits; value_fits = a.value_fits }

module _ (st : State) (c : List ℕ) (w : well_state st ≡ true) (s : WellSlots c) (b : Bytes c) where
  -- a verdict alone, of a refusal or an answer
  nay : (n : ℕ) → Keeps st c (refuses n st c)
  nay n = record { state = w; set = refl; slots = s; size = refl }

  by : (t : Bool) {x y : Outcome} → (t ≡ true → Keeps st c x) → (t ≡ false → Keeps st c y) → Keeps st c (pick t x y)
  by true p q = p refl
  by false p q = q refl

  kept_in : (i o : ℕ) (k : Key) (x : Value) → slot_in c i ≡ sl.Full o k x → Kept o k x
  kept_in i o k x e = slot_kept (part c (i * slot_length) slot_length) o k x e (part_bytes c (i * slot_length) slot_length b)

  fair_in : (i o : ℕ) (k : Key) (n : Node) → slot_in c i ≡ sl.Full o k (v.Node n) → Fairs n
  fair_in i o k n e = let a = kept_in i o k (v.Node n) e in node_fair n a.value a.value_fits

  -- a record goes into a free slot
  stored : (σ : State) (i o : ℕ) (k : Key) (x : Value) → Next st σ → i < count c → slot_in c i ≡ sl.Free → held c k ≡ false → Kept o k x → fits k x ≡ true
      → Keeps st c (accepts σ (put_slot c i o k x))
  stored σ i o k x e h free none a f = record { state = e.well; set = e.set; slots = add_well c i s h o k x a f free none; size = put_length c i o k x h }

  -- p's node with another side
  module _ (p po : ℕ) (pk : Key) (n m : Node) (h : p < count c) (e : slot_in c p ≡ sl.Full po pk (v.Node n)) (f : Fairs m) where
    turned_kept : Kept po pk (v.Node m)
    turned_kept = kept_node po pk (v.Node n) m (kept_in p po pk (v.Node n) e) f

    turned : WellSlots (put_slot c p po pk (v.Node m))
    turned =
        replace_well c p s h po pk (v.Node m) turned_kept (fits_kind pk (v.Node m) (v.Node n) refl (s.fit p po pk (v.Node n) h e)) (v.Node n) e

    -- a key that is not held is not held then
    still_none : (k : Key) → held c k ≡ false → held (put_slot c p po pk (v.Node m)) k ≡ false
    still_none k none =
        nowhere_held (put_slot c p po pk (v.Node m)) k
        (λ j o y l g. elim (ℕ_discrete j p) [
          | yes q ↦
              let u = sym (put_here c p po pk (v.Node m) h turned_kept) ∙ ap (slot_in (put_slot c p po pk (v.Node m))) (sym q) ∙ g in
              let z : pk ≡ k = cc in
              held_nowhere c k none p po (v.Node n) h (e ∙ ap (λ (a : Key). sl.Full po a (v.Node n)) z)
          | no q ↦ held_nowhere c k none j o y (rw (put_count c p po pk (v.Node m) h) at l) (sym (put_other c p po pk (v.Node m) h j q) ∙ g)
        ])

  -- ---- 1

  module _ (i p po : ℕ) (pk k : Key) (n : Node) (r : Bool) (hi : i < count c) (hp : p < count c) (free : slot_in c i ≡ sl.Free)
      (node : slot_in c p ≡ sl.Full po pk (v.Node n)) (none : held c k ≡ false) (up : above pk k ≡ true) where
    new_link : (x : Value) → Kept tree k x → fits k x ≡ true → Keeps st c (accepts st (linked i p po pk n r k x c))
    unfolding linked
    new_link x a f =
        let m = with_side n r (Link k (digest_of x) false) in
        let q : 0 < k.len = omega (arith, longer pk k up) in
        let g = with_fair n r (Link k (digest_of x) false) (fair_in p po pk n node) (link_fair k (digest_of x) false a.key q (a.key_fits, digest_of_fits x)) in
        let d = put_slot c p po pk (v.Node m) in
        let l : i < count d = rw (put_count c p po pk (v.Node m) hp) hi in
        let apart : i ≡ p → ⊥ = λ z. never cc in
        record {
          state = w;
          set = refl;
          slots =
              add_well d i (turned p po pk n m hp node g) l tree k x a f (put_other c p po pk (v.Node m) hp i apart ∙ free)
              (still_none p po pk n m hp node g k none);
          size = put_length d i tree k x l ∙ put_length c p po pk (v.Node m) hp;
        }

    add_side_lem : (x : Value) → Brought k x → fits k x ≡ true → (y : Side) → Fair y → Keeps st c (add_side i p po pk n r k x st c y)
    unfolding well_side
    add_side_lem x a f Empty g = by (is_first x) (λ _. new_link x (brought_kept tree k x (lit≤ tt) (lit≤ tt) a) f) (λ _. nay not_first)
    add_side_lem x a f (Link lk ld lm) g =
        let t = brought_kept tree k x (lit≤ tt) (lit≤ tt) a in
        by (key_eq lk k)
        (λ _. by lm (λ _. nay marked_deferred)
        (λ _. by (digest_eq ld (digest_of x)) (λ _. stored st i tree k x (record { well = w; set = refl }) hi free none t f) (λ _. nay digest_differs)))
        (λ _. by (above k lk)
        (λ u. by (is_first x)
        (λ _.
        let q = both_true (well_key lk) (ltb 0 lk.len) g.form in
        let z = with_side bare_node (toward k lk) (Link lk ld lm) in
        let l : k.len < 256 = omega (arith, longer k lk u, within lk q.0) in
        new_link (v.Node z) (kept_node tree k x z t (with_fair bare_node (toward k lk) (Link lk ld lm) bare_fair g)) (node_fits k z l))
        (λ _. nay not_first))
        (λ _. nay other_branch))

  module _ (i p : ℕ) (k : Key) (x : Value) (a : Brought k x) (hi : i < count c) (hp : p < count c) (free : slot_in c i ≡ sl.Free) where
    add_node_lem : (po : ℕ) (pk : Key) (y : Value) → slot_in c p ≡ sl.Full po pk y → held c k ≡ false → fits k x ≡ true → Keeps st c (add_node i p po pk y k x st c)
    unfolding add_node add_link
    add_node_lem po pk v.None e none f = nay wrong_kind
    add_node_lem po pk (v.Fingerprint d) e none f = nay wrong_kind
    add_node_lem po pk (v.Node n) e none f =
        by (above pk k)
        (λ u. add_side_lem i p po pk k n (toward pk k) hi hp free e none u x a f (side_of n (toward pk k)) (side_fair n (toward pk k) (fair_in p po pk n e)))
        (λ _. nay no_ancestor)

    add_to_lem : (z : Slot) → slot_in c p ≡ z → Keeps st c (add_to i p k x st c z)
    add_to_lem sl.Free e = nay slot_empty
    add_to_lem sl.Bad e = nay not_well
    add_to_lem (sl.Full po pk y) e =
        by (held c k) (λ _. nay key_held) (λ none. by (fits k x) (λ f. add_node_lem po pk y e none f) (λ _. nay wrong_kind))

  add_at_lem : (i p : ℕ) (k : Key) (x : Value) → Brought k x → i < count c → p < count c → (z : Slot) → slot_in c i ≡ z → Keeps st c (add_at i p k x st c z)
  unfolding add_under
  add_at_lem i p k x a hi hp sl.Free e = add_to_lem i p k x a hi hp e (slot_in c p) refl
  add_at_lem i p k x a hi hp sl.Bad e = nay not_well
  add_at_lem i p k x a hi hp (sl.Full o j y) e = nay slot_taken

  add_tree_lem : (i p : ℕ) (k : Key) (x : Value) → Brought k x → Keeps st c (add_tree i p k x st c)
  unfolding add_tree
  add_tree_lem i p k x a =
      by (leb (count c) i) (λ _. nay no_slot)
      (λ hi. by (leb (count c) p) (λ _. nay no_slot)
      (λ hp. add_at_lem i p k x a (leb-false (count c) i hi) (leb-false (count c) p hp) (slot_in c i) refl))

  -- ---- 2

  -- the old epoch that an add names is open
  named_old_lem : (e : Epoch) (t : Tally) → named_epoch st e ≡ Some (named.Old t) → st.old ≡ Some t
  unfolding named_epoch
  named_old_lem e t p = picked (eqb e.0 st.epoch.0) _ _ _ p (λ _ q. never cc) (λ _ q. go st.old refl q)
    where
      go : (o : Option Tally) → st.old ≡ o → named_old e st.epoch o ≡ Some (named.Old t) → st.old ≡ Some t
      go None f q = never cc
      go (Some u) f q = picked (eqb e.0 (st.epoch.0 - 1)) _ _ _ q (λ _ z. cc) (λ _ z. never cc)

  module _ (i : ℕ) (e : Epoch) (t : Time) (k : Key) (x : Value) (a : Brought k x) (hi : i < count c) where
    add_named_lem : slot_in c i ≡ sl.Free → held c k ≡ false → fits k x ≡ true → (z : Option Named) → named_epoch st e ≡ z → Keeps st c (add_named i e t k x st c z)
    add_named_lem free none f None q = nay epoch_not_open
    add_named_lem free none f (Some named.Current) q =
        by (in_time t st.clock)
        (λ _. by (leb count_limit st.tally.adds) (λ _. nay count_full)
        (λ l. stored (added_current st (tag_of st.set (add_message e t k x))) i deferred k x
        (record { well = added_current_well st w _ (leb-false count_limit st.tally.adds l); set = added_current_set st _ }) hi free none (brought_kept deferred k x (lit≤ tt) (lit≤ tt) a) f))
        (λ _. nay time_out_of_range)
    add_named_lem free none f (Some (named.Old u)) q =
        by (in_time t st.clock)
        (λ _. by (leb count_limit u.adds) (λ _. nay count_full)
        (λ l. stored (added_old st u (tag_of st.set (add_message e t k x))) i deferred k x
        (record { well = added_old_well st w u _ (named_old_lem e u q) (leb-false count_limit u.adds l); set = added_old_set st u _ }) hi free none (brought_kept deferred k x (lit≤ tt) (lit≤ tt) a) f))
        (λ _. nay time_out_of_range)

    defer_at_lem : (z : Slot) → slot_in c i ≡ z → Keeps st c (defer_at i e t k x st c z)
    unfolding add_into
    defer_at_lem sl.Free free =
        by (held c k) (λ _. nay key_held) (λ none. by (fits k x) (λ f. add_named_lem free none f (named_epoch st e) refl) (λ _. nay wrong_kind))
    defer_at_lem sl.Bad q = nay not_well
    defer_at_lem (sl.Full o j y) q = nay slot_taken

  add_deferred_lem : (i : ℕ) (e : Epoch) (t : Time) (k : Key) (x : Value) → Brought k x → Keeps st c (add_deferred i e t k x st c)
  unfolding add_deferred
  add_deferred_lem i e t k x a =
      by (leb (count c) i) (λ _. nay no_slot) (λ h. defer_at_lem i e t k x a (leb-false (count c) i h) (slot_in c i) refl)

  -- ---- 3 and 5

  gone : (σ : State) (i p po : ℕ) (pk : Key) (n : Node) (r : Bool) (link : Side) → Next st σ → i < count c → 0 < i → p < count c
      → slot_in c p ≡ sl.Full po pk (v.Node n) → Fair link → Keeps st c (accepts σ (unlinked i p po pk n r link c))
  unfolding unlinked
  gone σ i p po pk n r link e hi pos hp node f =
      let m = with_side n r link in
      let d = put_slot c p po pk (v.Node m) in
      let l : i < count d = rw (put_count c p po pk (v.Node m) hp) hi in
      record {
        state = e.well;
        set = e.set;
        slots = free_well d i (turned p po pk n m hp node (with_fair n r link (fair_in p po pk n node) f)) l pos;
        size = free_length d i l ∙ put_length c p po pk (v.Node m) hp;
      }

  module _ (i p o : ℕ) (k : Key) (x : Value) (hi : i < count c) (pos : 0 < i) (hp : p < count c) (full : slot_in c i ≡ sl.Full o k x) where
    evict_side_lem : (b : Bool) (po : ℕ) (pk : Key) (n : Node) (r : Bool) → slot_in c p ≡ sl.Full po pk (v.Node n) → above pk k ≡ true
        → (y : Side) → Fair y → Keeps st c (evict_side b i p o k x po pk n r st c y)
    evict_side_lem b po pk n r node up Empty g = nay no_link
    evict_side_lem false po pk n r node up (Link lk ld lm) g =
        let a = kept_in i o k x full in
        let q : 0 < k.len = omega (arith, longer pk k up) in
        by (key_eq lk k)
        (λ _. gone st i p po pk n r (Link k (digest_of x) false) (record { well = w; set = refl }) hi pos hp node
        (link_fair k (digest_of x) false a.key q (a.key_fits, digest_of_fits x)))
        (λ _. nay no_link)
    evict_side_lem true po pk n r node up (Link lk ld lm) g =
        let a = kept_in i o k x full in
        let q : 0 < k.len = omega (arith, longer pk k up) in
        by (key_eq lk k)
        (λ _. by (eqb o tree)
        (λ _. by (leb count_limit st.tally.evicts) (λ _. nay count_full)
        (λ l. gone (evicted st k x) i p po pk n r (Link k ld true) (record { well = evicted_well st w k x (leb-false count_limit st.tally.evicts l); set = evicted_set st k x }) hi pos hp node
        (link_fair k ld true a.key q (a.key_fits, g.room.1))))
        (λ _. nay wrong_origin))
        (λ _. nay no_link)

    evict_node_lem : (b : Bool) (po : ℕ) (pk : Key) (y : Value) → slot_in c p ≡ sl.Full po pk y → Keeps st c (evict_node b i p o k x po pk y st c)
    unfolding evict_node evict_link
    evict_node_lem b po pk v.None e = nay wrong_kind
    evict_node_lem b po pk (v.Fingerprint d) e = nay wrong_kind
    evict_node_lem b po pk (v.Node n) e =
        by (above pk k)
        (λ u. evict_side_lem b po pk n (toward pk k) e u (side_of n (toward pk k)) (side_fair n (toward pk k) (fair_in p po pk n e)))
        (λ _. nay no_ancestor)

    evict_to_lem : (b : Bool) (z : Slot) → slot_in c p ≡ z → Keeps st c (evict_to b i p o k x st c z)
    evict_to_lem b sl.Free e = nay slot_empty
    evict_to_lem b sl.Bad e = nay not_well
    evict_to_lem b (sl.Full po pk y) e = evict_node_lem b po pk y e

  evict_at_lem : (b : Bool) (i p : ℕ) → i < count c → 0 < i → p < count c → (z : Slot) → slot_in c i ≡ z → Keeps st c (evict_at b i p st c z)
  unfolding evict_under
  evict_at_lem b i p hi pos hp sl.Free e = nay slot_empty
  evict_at_lem b i p hi pos hp sl.Bad e = nay not_well
  evict_at_lem b i p hi pos hp (sl.Full o k x) e = evict_to_lem i p o k x hi pos hp e b (slot_in c p) refl

  -- a slot that is not the root's
  positive : (i : ℕ) → eqb i 0 ≡ false → 0 < i
  positive i e = let f = eqb-false i 0 e in elim (dec_lt 0 i) [ yes l ↦ l | no l ↦ absurd (f (omega arith)) ]

  evict_by_lem : (b : Bool) (i p : ℕ) → Keeps st c (evict_by b i p st c)
  unfolding evict_by
  evict_by_lem b i p =
      by (leb (count c) i) (λ _. nay no_slot)
      (λ hi. by (leb (count c) p) (λ _. nay no_slot)
      (λ hp. by (eqb i 0) (λ _. nay root_slot)
      (λ z. evict_at_lem b i p (leb-false (count c) i hi) (positive i z) (leb-false (count c) p hp) (slot_in c i) refl)))

  -- ---- 4

  deferred_at_lem : (i : ℕ) → i < count c → 0 < i → (z : Slot) → Keeps st c (deferred_at i st c z)
  deferred_at_lem i h pos sl.Free = nay slot_empty
  deferred_at_lem i h pos sl.Bad = nay not_well
  deferred_at_lem i h pos (sl.Full o k x) =
      by (eqb o deferred)
      (λ _. by (leb count_limit st.tally.evicts) (λ _. nay count_full)
      (λ l. record {
        state = evicted_well st w k x (leb-false count_limit st.tally.evicts l);
        set = evicted_set st k x;
        slots = free_well c i s h pos;
        size = free_length c i h;
      }))
      (λ _. nay wrong_origin)

  evict_deferred_lem : (i : ℕ) → Keeps st c (evict_deferred i st c)
  unfolding evict_deferred
  evict_deferred_lem i =
      by (leb (count c) i) (λ _. nay no_slot)
      (λ h. by (eqb i 0) (λ _. nay root_slot) (λ z. deferred_at_lem i (leb-false (count c) i h) (positive i z) (slot_in c i)))

  -- ---- 8

  put_into_lem : (i : ℕ) (k : Key) (x : Value) → well_value x ≡ true → ValueFits x → i < count c → (z : Slot) → slot_in c i ≡ z → Keeps st c (put_into i k x st c z)
  put_into_lem i k x g f h sl.Free e = nay slot_empty
  put_into_lem i k x g f h sl.Bad e = nay not_well
  put_into_lem i k x g f h (sl.Full o j y) e =
      by (is_node x) (λ _. nay wrong_kind)
      (λ nx. by (is_node y) (λ _. nay wrong_kind)
      (λ ny. by (key_eq j k)
      (λ q.
      let u : slot_in c i ≡ sl.Full o k y = e ∙ ap (λ (a : Key). sl.Full o a y) (key_eq_true j k q) in
      let a = kept_in i o k y u in
      let t : Kept o k x = record { low = a.low; high = a.high; key = a.key; value = g; key_fits = a.key_fits; value_fits = f } in
      record {
        state = w;
        set = refl;
        slots = replace_well c i s h o k x t (fits_kind k x y (nx ∙ sym ny) (s.fit i o k y h u)) y u;
        size = put_length c i o k x h;
      })
      (λ _. nay other_key)))

  -- ---- 9 and 10

  either : (t : Bool) {x y : Done} → (t ≡ true → Keeps st c (outcome x c)) → (t ≡ false → Keeps st c (outcome y c)) → Keeps st c (outcome (pick t x y) c)
  either true p q = p refl
  either false p q = q refl

  same_cache : (σ : State) → Next st σ → Keeps st c (accepts σ c)
  same_cache σ e = record { state = e.well; set = e.set; slots = s; size = refl }

  advance_old_lem : (o : Option Tally) → Keeps st c (outcome (advance_old st o) c)
  advance_old_lem (Some t) = nay wrong_moment
  advance_old_lem None =
      either (leb epoch_limit st.epoch.0) (λ _. nay epoch_full)
      (λ l. same_cache (advanced_state st) (record { well = advanced_well st w (leb-false epoch_limit st.epoch.0 l); set = advanced_set st }))

  close_old_lem : (o : Option Tally) → Keeps st c (outcome (close_old st o) c)
  close_old_lem None = nay wrong_moment
  close_old_lem (Some t) =
      either (eqb t.adds t.evicts)
      (λ _. either (tag_eq t.addsum t.evictsum) (λ _. same_cache (closed_state st) (record { well = closed_well st w; set = closed_set st })) (λ _. nay sums_differ))
      (λ _. nay counts_differ)

-- ---- every entry

-- what an entry brings into the cache, as every entry that was read has it
abbrev pub Brings : Entry → Type 0
Brings (AddTree s p k x) = Brought k x
Brings (AddDeferred s e t k x) = Brought k x
Brings (EvictTree s p) = Unit
Brings (EvictDeferred s) = Unit
Brings (EvictTreeDeferred s p) = Unit
Brings (Get s k x) = Unit
Brings (Absent p k) = Unit
Brings (Put s k x) = (well_value x ≡ true) × ValueFits x
Brings Advance = Unit
Brings Close = Unit

brings : (e : Entry) → well_entry e ≡ true → EntryFits e → Brings e
unfolding well_entry
brings (AddTree s p k x) w f =
    let a = both_true (well_key k) (well_value x) w in record { key = a.0; value = a.1; key_fits = f.1.1.0; value_fits = f.1.1.1 }
brings (AddDeferred s e t k x) w f =
    let a = both_true (well_key k) (well_value x) w in record { key = a.0; value = a.1; key_fits = f.1.1.1.0; value_fits = f.1.1.1.1 }
brings (EvictTree s p) w f = tt
brings (EvictDeferred s) w f = tt
brings (EvictTreeDeferred s p) w f = tt
brings (Get s k x) w f = tt
brings (Absent p k) w f = tt
brings (Put s k x) w f = ((both_true (is_data k) (well_value x) w).1, f.1.1)
brings Advance w f = tt
brings Close w f = tt

module _ (st : State) (c : List ℕ) (w : well_state st ≡ true) (s : WellSlots c) (b : Bytes c) where
  pub entry_keeps : (e : Entry) → Brings e → Keeps st c (entry_step e st c)
  unfolding entry_step answers.put epochs.advance epochs.close
  entry_keeps (AddTree i p k x) a = add_tree_lem st c w s b i p k x a
  entry_keeps (AddDeferred i e t k x) a = add_deferred_lem st c w s b i e t k x a
  entry_keeps (EvictTree i p) a = evict_by_lem st c w s b false i p
  entry_keeps (EvictDeferred i) a = evict_deferred_lem st c w s b i
  entry_keeps (EvictTreeDeferred i p) a = evict_by_lem st c w s b true i p
  entry_keeps (Get i k x) a = nay st c w s b (answers.get i k x c)
  entry_keeps (Absent p k) a = nay st c w s b (answers.absent p k c)
  entry_keeps (Put i k x) a =
      by st c w s b (leb (count c) i) (λ _. nay st c w s b no_slot)
      (λ h. put_into_lem st c w s b i k x a.0 a.1 (leb-false (count c) i h) (slot_in c i) refl)
  entry_keeps Advance a = advance_old_lem st c w s b st.old
  entry_keeps Close a = close_old_lem st c w s b st.old

-- ---- a step

-- the state and the cache after a step, well formed, the set key as it was and the cache as long
pub record Sound (st : State) (c : List ℕ) (r : Step) : Type 0 where
  pub state : well_state r.result.state ≡ true
  pub set : r.result.state.set ≡ st.set
  pub cache : well_cache r.bytes ≡ true
  pub size : length r.bytes ≡ length c

taken : (n : ℕ) (st : State) (c : List ℕ) (o : Outcome) → Keeps st c o → Sound st c (taking n o)
taken n st c o k = record { state = k.state; set = k.set; cache = slots_well o.bytes k.slots; size = k.size }

module _ (log : List ℕ) (st : State) (c : List ℕ) (l : well_length c ≡ true) (f : well_formed st c ≡ true) where
  -- the step is then the inner one
  pub step_inner : step log st c ≡ step_well log st c
  unfolding step
  step_inner = rw (l, f)

  -- and what it leaves is well formed
  pub step_keeps : Bytes log → Bytes c → Sound st c (step_well log st c)
  unfolding step_well
  step_keeps bl bc = go (read_entry log) refl
    where
      w : well_state st ≡ true
      w = (both_true (well_state st) (well_cache c) f).0

      s : WellSlots c
      s = well_slots c (both_true (well_state st) (well_cache c) f).1 (omega (arith, (length_slots c l).0))

      go : (r : Reading) → read_entry log ≡ r → Sound st c (step_read st c r)
      go (Err unread.Short) e = taken 0 st c (refuses short st c) (nay st c w s bc short)
      go (Err (unread.Malformed n)) e = taken n st c (refuses malformed st c) (nay st c w s bc malformed)
      go (Ok (d, n)) e =
          let t = entry_same log bl d n e in
          taken n st c (entry_step d st c) (entry_keeps st c w s bc d (brings d t.well t.fits))

-- a step that is not refused by 28 or 1 uses the entry's whole length, and none where the entry is short
pub step_used : (log : List ℕ) (st : State) (c : List ℕ) → (step_well log st c).result.used ≡ reading_used (read_entry log)
unfolding step_well
step_used log st c = go (read_entry log)
  where
    go : (r : Reading) → (step_read st c r).result.used ≡ reading_used r
    go (Err unread.Short) = refl
    go (Err (unread.Malformed n)) = refl
    go (Ok (d, n)) = refl
