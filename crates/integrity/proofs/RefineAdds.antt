-- Refinement of entries 1 (add from tree) and 2 (add deferred).
use Rattle.std.specs.Prelude.{Option, Some, None}
use mathlib.Core.Path.{◌≡◌, refl, sym, ◌∙◌, ap, subst}
use mathlib.Core.Bool.{Bool, true, false, cond}
use mathlib.Core.Option.{none, some}
use mathlib.Core.List.Memᴰ
use mathlib.Core.List.{List, ◌∷◌}
use Prim.Native.Nat.{ℕ, suc, ◌-◌, ◌*◌, ◌≤◌, ◌<◌}
use native.Mathlib.Omega.{arith}
use lib.Dec.{eqb, leb}
use borrow.Author.Tests.{eqb-true, leb-false, leb-true, ne_eqb}
use Rattle.words.specs.Choice.{pick}
use Rattle.words.proofs.Laws.{picked, both_true}
use Rattle.verdict.specs.Verdicts.{not_well, no_slot, slot_taken, slot_empty, key_held, wrong_kind, no_ancestor, other_branch, marked_deferred, digest_differs, not_first, epoch_not_open, time_out_of_range, count_full}
use Rattle.cmac.specs.declared.Tag.{Tag}
use Rattle.key.specs.Keys.{is_data, well_key, key_eq, above, toward, KeyFits}
use Rattle.key.proofs.Laws.{key_eq_true}
use Rattle.value.specs.Values as value
use Rattle.value.specs.Values.{digest_eq, is_first, fits, bare_node, with_side, well_side, well_value, SideFits, ValueFits}
use Rattle.value.specs.declared.Node.{Node}
use Rattle.value.proofs.Equal.{digest_eq_true}
use Rattle.message.specs.declared.Epoch.{Epoch}
use Rattle.message.specs.declared.Time.{Time}
use Rattle.entry.specs.declared.Entry.{Entry}
use Rattle.entry.specs.declared.Entry.TheVariants.{AddTree, AddDeferred}
use Rattle.hash.specs.Hashes.{digest_of, tag_of}
use Rattle.hash.proofs.Laws.{digest_of_fits}
use Rattle.hash.specs.declared.SetKey.{SetKey}
use Rattle.slot.specs.Slots.{slot_bytes, tree, deferred}
use Rattle.slot.specs.declared.Slot.{Slot}
use Rattle.slot.specs.declared.Slot.TheVariants as sl
use Rattle.slot.proofs.Laws.{slot_bytes_lem}
use Rattle.slot.proofs.Back.{Kept}
use Rattle.cache.specs.Caches.{slot_in, count, put_slot, held}
use Rattle.cache.proofs.Slots.{splice_bytes}
use Rattle.state.specs.States.{count_limit, added_current, added_old}
use Rattle.state.specs.declared.Tally.{Tally}
use Rattle.state.specs.declared.State.{State}
use Rattle.rules.specs.Outcomes.{refuses, accepts}
use Rattle.rules.specs.Adds.{linked, between, add_side, add_link, add_node, add_to, add_under, add_at, add_tree, named_old, named_epoch, add_message, in_time, add_counted, add_named, add_into, defer_at, add_deferred}
use Rattle.rules.specs.declared.Named.TheVariants as named
use Rattle.integrity.proofs.Ancestors.{Key, Below, below_length, well}
use Rattle.integrity.proofs.Updates.{upd, upd2}
use Rattle.integrity.proofs.Records.{Side, empty, link, Value, vnone, print, node, bare, Message, set_side}
use Rattle.integrity.proofs.Moves.{adds_same, adds_empty, adds_split}
use Rattle.integrity.proofs.Moves as moves
use Rattle.integrity.proofs.Lane.{Lane, EpochOpen, current, older, quiet, adding, move}
use Rattle.integrity.proofs.Slots.{Unique, look, unique_add}
use Rattle.integrity.proofs.Caches.{slots_in, wrote_one, wrote_two}
use Rattle.integrity.proofs.Tallies.{Tallies, OldIs, no_old, is_old, tallies_add_current, tallies_add_old}
use Rattle.integrity.proofs.Refines.{first_is, side_good, side_fits, with_good, with_fits, link_good, good_link, bare_good, below_differ, cache_add, both_add, uniq_add, Takes, onward, Stands, Refined, stop, nope, yep, done, full, free, cached, in_list, kept, missing, absent_key}

module _ (key : SetKey) (st : State) (c : List ℕ) (t : Lane) (R : Stands key st c t) (st' : State) (c' : List ℕ) where
  abbrev Done : Entry → Type 0
  Done x = Refined key x st c st' c' t

  -- ---- 1

  module _ (s p : ℕ) (k : Key) (x : Value) (wk : well_key k ≡ true) (wx : well_value x ≡ true) (kf : KeyFits k) (xf : ValueFits x)
      (hs : s < count c) (hp : p < count c) (fs : slot_in c s ≡ sl.Free)
      (o : ℕ) (pk : Key) (n : Node) (fp : slot_in c p ≡ sl.Full o pk (node n)) (nh : held c k ≡ false) (fk : fits k x ≡ true) (up : above pk k ≡ true) where
    hold : Kept o pk (node n)
    hold = kept key st c t R st' c' p o pk (node n) fp

    bel : Below pk (toward pk k) k
    bel = record { wp = hold.key; wk = wk; up = up; side = refl }

    long : 0 < k.len
    long = let h = below_length bel in omega arith

    gone : look (slots_in c) k ≡ none
    gone = missing key st c t R st' c' k nh

    at_p : t.cache pk ≡ some (record { origin = o; value = node n })
    at_p = cached key st c t R st' c' p hp o pk (node n) fp

    at_k : t.cache k ≡ none
    at_k = absent_key key st c t R st' c' k nh

    -- p's slot with the new link, and the record in slot s
    stored : (w : Value) → well_value w ≡ true → ValueFits w → (a : Takes key t)
        → onward key a ≡ record { cache = upd2 t.cache pk (some (record { origin = o; value = set_side (toward pk k) (link k (digest_of w) false) (node n) })) k (some (record { origin = tree; value = w })); clock = t.clock; epoch = t.epoch; old = t.old; evs = t.evs; ads = t.ads }
        → Stands key st (linked s p o pk n (toward pk k) k w c) (onward key a)
    unfolding linked
    stored w ww wf a e =
        let d = toward pk k in
        let y = node (with_side n d (link k (digest_of w) false)) in
        let hy : Kept o pk y = record {
          low = hold.low;
          high = hold.high;
          key = hold.key;
          value = with_good n d (link k (digest_of w) false) hold.value (good_link k (digest_of w) false wk long);
          key_fits = hold.key_fits;
          value_fits = with_fits n d (link k (digest_of w) false) hold.value_fits (kf, digest_of_fits w);
        } in
        let z = wrote_two c p o pk y s hp hs hy tree k w (record { low = omega arith; high = omega arith; key = wk; value = ww; key_fits = kf; value_fits = wf }) in
        rw e (record {
          set_is_key = R.set_is_key;
          bytes = splice_bytes (put_slot c p o pk y) (slot_bytes tree k w) (s * 192) (splice_bytes c (slot_bytes o pk y) (p * 192) R.bytes (slot_bytes_lem o pk y (omega (arith, hold.high)))) (slot_bytes_lem tree k w (omega arith));
          uniq = subst Unique (sym z) (uniq_add (slots_in c) t.cache R.uniq R.cache p _ (full key st c t R st' c' p hp o pk (node n) fp) _ s _ (in_list key st c t R st' c' s hs) (free key st c t R st' c' s hs fs) gone (below_differ bel));
          cache = ap look z ∙ both_add (slots_in c) t.cache R.uniq R.cache p _ (full key st c t R st' c' p hp o pk (node n) fp) _ s _ (in_list key st c t R st' c' s hs) (free key st c t R st' c' s hs fs) gone (below_differ bel);
          tallies = R.tallies;
        })

    by_side : (y : Side) → value.side_of n (toward pk k) ≡ y → add_side s p o pk n (toward pk k) k x st c y ≡ accepts st' c' → Done (AddTree s p k x)
    by_side empty l e = yep key st c t R st' c' (is_first x) not_first _ refl e λ f e.
        let xis = first_is (is_data k) x f (unfold fits in fk) in
        let a : Takes key t = move (adds_empty pk k (toward pk k) (record { origin = o; value = node n }) at_p at_k bel tt l) quiet in
        done key st c t R st' c' (AddTree s p k x) _ _ a e (stored x wx xf a (rw (← xis) refl)) (λ f u. tt) (λ f. refl) refl refl (λ v z. Memᴰ.head (sym (xis ∙ z)))
    by_side (link lk ld lm) l e = picked (key_eq lk k) _ _ _ e same other
      where
        same : key_eq lk k ≡ true
            → pick lm (refuses marked_deferred st c) (pick (digest_eq ld (digest_of x)) (accepts st (put_slot c s tree k x)) (refuses digest_differs st c)) ≡ accepts st' c'
            → Done (AddTree s p k x)
        same q e = nope key st c t R st' c' lm marked_deferred _ refl e λ m e. yep key st c t R st' c' (digest_eq ld (digest_of x)) digest_differs _ refl e λ g e.
            let z = wrote_one c s tree k x hs (record { low = omega arith; high = omega arith; key = wk; value = wx; key_fits = kf; value_fits = xf }) in
            done key st c t R st' c' (AddTree s p k x) _ _
            (move (adds_same pk k (toward pk k) (record { origin = o; value = node n }) ld x at_p at_k bel (l ∙ ap (λ y. link y ld lm) (key_eq_true lk k q) ∙ ap (link k ld) m) (sym (digest_eq_true ld (digest_of x) g))) quiet) e
            (record {
              set_is_key = R.set_is_key;
              bytes = splice_bytes c (slot_bytes tree k x) (s * 192) R.bytes (slot_bytes_lem tree k x (omega arith));
              uniq = subst Unique (sym z) (unique_add (slots_in c) s _ (in_list key st c t R st' c' s hs) R.uniq (free key st c t R st' c' s hs fs) gone);
              cache = ap look z ∙ cache_add (slots_in c) t.cache R.uniq R.cache s _ (in_list key st c t R st' c' s hs) (free key st c t R st' c' s hs fs) gone;
              tallies = R.tallies;
            }) (λ f u. tt) (λ f. refl) refl refl (λ v z. Memᴰ.head (sym z))

        other : key_eq lk k ≡ false
            → pick (above k lk) (pick (is_first x) (accepts st (linked s p o pk n (toward pk k) k (between k lk (link lk ld lm)) c)) (refuses not_first st c)) (refuses other_branch st c) ≡ accepts st' c'
            → Done (AddTree s p k x)
        other q e = yep key st c t R st' c' (above k lk) other_branch _ refl e λ b e. yep key st c t R st' c' (is_first x) not_first _ refl e λ f e.
            let wl : well_side (link lk ld lm) ≡ true = subst (λ y. well_side y ≡ true) l (side_good n (toward pk k) hold.value) in
            let fl : SideFits (link lk ld lm) = subst SideFits l (side_fits n (toward pk k) hold.value_fits) in
            let bl : Below k (toward k lk) lk = record { wp = wk; wk = link_good lk ld lm wl; up = b; side = refl } in
            let nd : is_data k ≡ false = ne_eqb k.len 256 (λ h. omega (arith, below_length bl, (well lk (link_good lk ld lm wl)).short)) in
            let xis = first_is (is_data k) x f (unfold fits in fk) ∙ ap (λ y. cond y vnone bare) nd in
            let a : Takes key t = move (adds_split pk k lk (toward pk k) (toward k lk) (record { origin = o; value = node n }) ld lm at_p at_k bel l bl nd) quiet in
            done key st c t R st' c' (AddTree s p k x) _ _ a e
            (stored _ (with_good bare_node (toward k lk) _ bare_good wl) (with_fits bare_node (toward k lk) _ (tt, tt) fl) a refl)
            (λ f u. tt) (λ f. refl) refl refl (λ v z. Memᴰ.head (sym (xis ∙ z)))

  pub refine_add_tree : (s p : ℕ) (k : Key) (x : Value) → well_key k ≡ true → well_value x ≡ true → KeyFits k → ValueFits x → add_tree s p k x st c ≡ accepts st' c' → Done (AddTree s p k x)
  unfolding add_tree add_under add_node add_link
  refine_add_tree s p k x wk wx kf xf e =
      nope key st c t R st' c' (leb (count c) s) no_slot _ refl e λ hs e.
      nope key st c t R st' c' (leb (count c) p) no_slot _ refl e λ hp e.
      at_s (leb-false _ _ hs) (leb-false _ _ hp) (slot_in c s) refl e
    where
      by_value : s < count c → p < count c → slot_in c s ≡ sl.Free → (o : ℕ) (pk : Key) (pv : Value) → slot_in c p ≡ sl.Full o pk pv → held c k ≡ false → fits k x ≡ true
          → add_node s p o pk pv k x st c ≡ accepts st' c' → Done (AddTree s p k x)
      by_value hs hp fs o pk vnone fp nh fk e = stop key st c t R st' c' wrong_kind refl e
      by_value hs hp fs o pk (print d) fp nh fk e = stop key st c t R st' c' wrong_kind refl e
      by_value hs hp fs o pk (node n) fp nh fk e = yep key st c t R st' c' (above pk k) no_ancestor _ refl e λ up e.
          by_side s p k x wk wx kf xf hs hp fs o pk n fp nh fk up (value.side_of n (toward pk k)) refl e

      at_p : s < count c → p < count c → slot_in c s ≡ sl.Free → (z : Slot) → slot_in c p ≡ z → add_to s p k x st c z ≡ accepts st' c' → Done (AddTree s p k x)
      at_p hs hp fs sl.Free w e = stop key st c t R st' c' slot_empty refl e
      at_p hs hp fs sl.Bad w e = stop key st c t R st' c' not_well refl e
      at_p hs hp fs (sl.Full o pk pv) w e =
          nope key st c t R st' c' (held c k) key_held _ refl e λ nh e. yep key st c t R st' c' (fits k x) wrong_kind _ refl e λ fk e. by_value hs hp fs o pk pv w nh fk e

      at_s : s < count c → p < count c → (z : Slot) → slot_in c s ≡ z → add_at s p k x st c z ≡ accepts st' c' → Done (AddTree s p k x)
      at_s hs hp sl.Free w e = at_p hs hp w (slot_in c p) refl e
      at_s hs hp sl.Bad w e = stop key st c t R st' c' not_well refl e
      at_s hs hp (sl.Full o j y) w e = stop key st c t R st' c' slot_taken refl e

  -- ---- 2

  module _ (s : ℕ) (e₂ : Epoch) (t₂ : Time) (k : Key) (x : Value) (wk : well_key k ≡ true) (wx : well_value x ≡ true) (kf : KeyFits k) (xf : ValueFits x)
      (h : s < count c) (fs : slot_in c s ≡ sl.Free) (nh : held c k ≡ false) where
    abbrev msg : Message
    msg = add_message e₂ t₂ k x

    lost : look (slots_in c) k ≡ none
    lost = missing key st c t R st' c' k nh

    -- the slots after it, whatever the state
    placed : (σ : State) (a : Takes key t) → (onward key a).cache ≡ upd t.cache k (some (record { origin = deferred; value = x })) → σ.set ≡ key
        → Tallies key σ (onward key a).clock (onward key a).epoch (onward key a).old (onward key a).evs (onward key a).ads → Stands key σ (put_slot c s deferred k x) (onward key a)
    placed σ a q kk T =
        let z = wrote_one c s deferred k x h (record { low = omega arith; high = omega arith; key = wk; value = wx; key_fits = kf; value_fits = xf }) in
        record {
          set_is_key = kk;
          bytes = splice_bytes c (slot_bytes deferred k x) (s * 192) R.bytes (slot_bytes_lem deferred k x (omega arith));
          uniq = subst Unique (sym z) (unique_add (slots_in c) s _ (in_list key st c t R st' c' s h) R.uniq (free key st c t R st' c' s h fs) lost);
          cache = ap look z ∙ cache_add (slots_in c) t.cache R.uniq R.cache s _ (in_list key st c t R st' c' s h) (free key st c t R st' c' s h fs) lost ∙ sym q;
          tallies = T;
        }

    -- 19, 20
    in_time_lem : (n : ℕ) (next : State) → pick (in_time t₂ st.clock) (add_counted n s k x st next c) (refuses time_out_of_range st c) ≡ accepts st' c'
        → (t₂.0 ≤ t.clock → accepts next (put_slot c s deferred k x) ≡ accepts st' c' → Done (AddDeferred s e₂ t₂ k x)) → Done (AddDeferred s e₂ t₂ k x)
    in_time_lem n next e f = yep key st c t R st' c' (in_time t₂ st.clock) time_out_of_range _ refl e λ b e. nope key st c t R st' c' (leb count_limit n) count_full _ refl e λ d e.
        f (subst (λ y. t₂.0 ≤ y) R.tallies.clocks (leb-true _ _ (both_true (leb 1 t₂.0) (leb t₂.0 st.clock.0) b).1)) e

    tag_is : tag_of st.set msg ≡ tag_of key msg
    tag_is = ap (λ y. tag_of y msg) R.set_is_key

    -- the step of the lane, with the state that its tally makes
    counted : (σ : Tag → State) → ((g : Tag) → (σ g).set ≡ st.set) → EpochOpen t e₂.0 → t₂.0 ≤ t.clock
        → Tallies key (σ (tag_of key msg)) t.clock t.epoch t.old t.evs (msg ∷ t.ads)
        → accepts (σ (tag_of st.set msg)) (put_slot c s deferred k x) ≡ accepts st' c' → Done (AddDeferred s e₂ t₂ k x)
    counted σ same o l T e =
        let a : Takes key t = move (moves.adds_deferred msg (absent_key key st c t R st' c' k nh)) (adding msg o l) in
        done key st c t R st' c' (AddDeferred s e₂ t₂ k x) _ _ a e
        (placed (σ (tag_of st.set msg)) a refl (same (tag_of st.set msg) ∙ R.set_is_key) (subst (λ g. Tallies key (σ g) t.clock t.epoch t.old t.evs (msg ∷ t.ads)) (sym tag_is) T))
        (λ f u. tt) (λ f. refl) refl refl (λ v z. Memᴰ.head (sym z))

    -- 18
    by_name : add_named s e₂ t₂ k x st c (named_epoch st e₂) ≡ accepts st' c' → Done (AddDeferred s e₂ t₂ k x)
    unfolding named_epoch added_current added_old
    by_name e = now (eqb e₂.0 st.epoch.0) refl e
      where
        before : (T : Tally) → st.old ≡ Some T → (b : Bool) → eqb e₂.0 (st.epoch.0 - 1) ≡ b → add_named s e₂ t₂ k x st c (pick b (Some (named.Old T)) None) ≡ accepts st' c'
            → Done (AddDeferred s e₂ t₂ k x)
        before T w false q e = stop key st c t R st' c' epoch_not_open refl e
        before T w true q e = in_time_lem T.adds (added_old st T (tag_of st.set msg)) e λ l e. was R.tallies.olds l e
          where
            was : OldIs key st.old t.old t.epoch t.evs t.ads → t₂.0 ≤ t.clock
                → accepts (added_old st T (tag_of st.set msg)) (put_slot c s deferred k x) ≡ accepts st' c' → Done (AddDeferred s e₂ t₂ k x)
            was (no_old a b) l e = absurd (let z : ◌≡◌ {A = ℕ} 0 1 = cc in omega arith)
            was (is_old U i a b r d) l e =
                let p : suc e₂.0 ≡ t.epoch = let z = eqb-true e₂.0 (st.epoch.0 - 1) q in let y = R.tallies.epochs in omega arith in
                counted (added_old st T) (λ g. refl) (older b p) l (tallies_add_old key R.tallies msg T w p) e

        by_old : (z : Option Tally) → st.old ≡ z → add_named s e₂ t₂ k x st c (named_old e₂ st.epoch z) ≡ accepts st' c' → Done (AddDeferred s e₂ t₂ k x)
        by_old None w e = stop key st c t R st' c' epoch_not_open refl e
        by_old (Some T) w e = before T w (eqb e₂.0 (st.epoch.0 - 1)) refl e

        now : (b : Bool) → eqb e₂.0 st.epoch.0 ≡ b → add_named s e₂ t₂ k x st c (pick b (Some named.Current) (named_old e₂ st.epoch st.old)) ≡ accepts st' c'
            → Done (AddDeferred s e₂ t₂ k x)
        now true q e = in_time_lem st.tally.adds (added_current st (tag_of st.set msg)) e λ l e.
            let p : e₂.0 ≡ t.epoch = eqb-true _ _ q ∙ R.tallies.epochs in
            counted (added_current st) (λ g. refl) (current p) l (tallies_add_current key R.tallies msg p) e
        now false q e = by_old st.old refl e

  pub refine_add_deferred : (s : ℕ) (e₂ : Epoch) (t₂ : Time) (k : Key) (x : Value) → well_key k ≡ true → well_value x ≡ true → KeyFits k → ValueFits x
      → add_deferred s e₂ t₂ k x st c ≡ accepts st' c' → Done (AddDeferred s e₂ t₂ k x)
  unfolding add_deferred add_into
  refine_add_deferred s e₂ t₂ k x wk wx kf xf e = nope key st c t R st' c' (leb (count c) s) no_slot _ refl e λ h e. at_slot (leb-false _ _ h) (slot_in c s) refl e
    where
      at_slot : s < count c → (z : Slot) → slot_in c s ≡ z → defer_at s e₂ t₂ k x st c z ≡ accepts st' c' → Done (AddDeferred s e₂ t₂ k x)
      at_slot h sl.Bad w e = stop key st c t R st' c' not_well refl e
      at_slot h (sl.Full o j y) w e = stop key st c t R st' c' slot_taken refl e
      at_slot h sl.Free w e =
          nope key st c t R st' c' (held c k) key_held _ refl e λ nh e. yep key st c t R st' c' (fits k x) wrong_kind _ refl e λ fk e.
          by_name s e₂ t₂ k x wk wx kf xf h w nh e
