-- Refinement of entries 3 (evict to tree), 4 (evict deferred) and 5 (evict tree record deferred).
use mathlib.Core.Path.{◌≡◌, refl, sym, ◌∙◌, ap, subst}
use mathlib.Core.Bool.{Bool, true, false}
use mathlib.Core.Option.{none, some}
use mathlib.Core.List.{List, ◌∷◌, ◌++◌}
use Prim.Native.Nat.{ℕ, suc, ◌*◌, ◌<◌}
use native.Mathlib.Numerals.{add-one}
use native.Mathlib.Omega.{arith}
use lib.Dec.{eqb, leb}
use borrow.Author.Tests.{eqb-true, leb-false}
use Rattle.words.specs.Numbers.{zeros}
use Rattle.verdict.specs.Verdicts.{not_well, no_slot, slot_empty, wrong_kind, no_ancestor, no_link, wrong_origin, root_slot, count_full}
use Rattle.key.specs.Keys.{key_eq, above, toward}
use Rattle.key.proofs.Laws.{key_eq_true}
use Rattle.value.specs.Values as value
use Rattle.value.specs.Values.{with_side, DigestFits}
use Rattle.value.specs.declared.Node.{Node}
use Rattle.entry.specs.declared.Entry.{Entry}
use Rattle.entry.specs.declared.Entry.TheVariants.{EvictTree, EvictDeferred, EvictTreeDeferred}
use Rattle.hash.specs.Hashes.{digest_of, tag_of}
use Rattle.hash.proofs.Laws.{digest_of_fits}
use Rattle.hash.specs.declared.SetKey.{SetKey}
use Rattle.slot.specs.Slots.{slot_bytes, tree, deferred}
use Rattle.slot.specs.declared.Slot.{Slot}
use Rattle.slot.specs.declared.Slot.TheVariants as sl
use Rattle.slot.proofs.Laws.{zeros_bytes, slot_bytes_lem}
use Rattle.slot.proofs.Back.{Kept}
use Rattle.cache.specs.Caches.{slot_in, count, put_slot}
use Rattle.cache.proofs.Slots.{splice_bytes}
use Rattle.state.specs.States.{count_limit, evicted_state, evict_message, evicted}
use Rattle.state.specs.declared.State.{State}
use Rattle.rules.specs.Outcomes.{accepts}
use Rattle.rules.specs.Evicts.{unlinked, to_tree, to_deferred, evict_as, evict_side, evict_link, evict_node, evict_to, evict_under, evict_at, evict_by, deferred_at, evict_deferred}
use Rattle.integrity.specs.Statement.{leaving}
use Rattle.integrity.proofs.Ancestors.{Key, Below, below_length}
use Rattle.integrity.proofs.Updates.{upd2}
use Rattle.integrity.proofs.Records.{Digest, Side, empty, link, Value, vnone, print, node, Message, set_side}
use Rattle.integrity.proofs.Moves as moves
use Rattle.integrity.proofs.Lane.{Lane, quiet, evicting, move}
use Rattle.integrity.proofs.Slots.{Unique, look, unique_clear}
use Rattle.integrity.proofs.Caches.{slots_in, freed_one, wrote_free}
use Rattle.integrity.proofs.Tallies.{Tallies, tallies_evict}
use Rattle.integrity.proofs.Refines.{side_fits, with_good, with_fits, good_link, below_differ, cache_clear, both_clear, uniq_clear, Takes, onward, Stands, Refined, stop, nope, yep, done, full, cached, kept}

-- 3 or 5, by the Bool under which the rules share them
abbrev pub evict_entry : Bool → ℕ → ℕ → Entry
evict_entry false s p = EvictTree s p
evict_entry true s p = EvictTreeDeferred s p

module _ (key : SetKey) (st : State) (c : List ℕ) (t : Lane) (R : Stands key st c t) (st' : State) (c' : List ℕ) where
  abbrev Done : Entry → Type 0
  Done x = Refined key x st c st' c' t

  -- ---- the message of the record that leaves

  leaves : (k : Key) (x : Value) → Message
  leaves k x = evict_message st k x

  epoch_is : (k : Key) (x : Value) → (leaves k x).epoch.0 ≡ t.epoch
  unfolding leaves evict_message
  epoch_is k x = R.tallies.epochs

  time_is : (k : Key) (x : Value) → (leaves k x).time.0 ≡ suc t.clock
  unfolding leaves evict_message
  time_is k x = add-one st.clock.0 ∙ ap suc R.tallies.clocks

  tallied : (k : Key) (x : Value) → Tallies key (evicted st k x) (suc t.clock) t.epoch t.old (leaves k x ∷ t.evs) t.ads
  unfolding leaves evicted
  tallied k x =
      subst (λ y. Tallies key (evicted_state st (tag_of y (evict_message st k x))) (suc t.clock) t.epoch t.old (evict_message st k x ∷ t.evs) t.ads) (sym R.set_is_key)
      (tallies_evict key R.tallies (evict_message st k x) (epoch_is k x))

  set_is : (k : Key) (x : Value) → (evicted st k x).set ≡ key
  unfolding evicted evicted_state
  set_is k x = R.set_is_key

  counts_it : (s o : ℕ) (k : Key) (x : Value) → slot_in c s ≡ sl.Full o k x → leaves k x ∷ t.evs ≡ leaving st (slot_in c s) ++ t.evs
  unfolding leaves
  counts_it s o k x w = rw w refl

  -- ---- 3 and 5

  module _ (s p : ℕ) (hs : s < count c) (hp : p < count c) (o : ℕ) (k : Key) (x : Value) (fs : slot_in c s ≡ sl.Full o k x)
      (po : ℕ) (pk : Key) (n : Node) (fp : slot_in c p ≡ sl.Full po pk (node n)) (up : above pk k ≡ true) where
    left : Kept o k x
    left = kept key st c t R st' c' s o k x fs

    under : Kept po pk (node n)
    under = kept key st c t R st' c' p po pk (node n) fp

    lies : Below pk (toward pk k) k
    lies = record { wp = under.key; wk = left.key; up = up; side = refl }

    -- p's slot with another link to k, and slot s free
    gone : (d : Digest) (m : Bool) → DigestFits d → (σ : State) → σ.set ≡ key → (a : Takes key t)
        → (onward key a).cache ≡ upd2 t.cache pk (some (record { origin = po; value = set_side (toward pk k) (link k d m) (node n) })) k none
        → Tallies key σ (onward key a).clock (onward key a).epoch (onward key a).old (onward key a).evs (onward key a).ads
        → Stands key σ (unlinked s p po pk n (toward pk k) (link k d m) c) (onward key a)
    unfolding unlinked
    gone d m fd σ q a e T =
        let u = toward pk k in
        let y = node (with_side n u (link k d m)) in
        let h = below_length lies in
        let hy : Kept po pk y = record {
          low = under.low;
          high = under.high;
          key = under.key;
          value = with_good n u (link k d m) under.value (good_link k d m left.key (omega arith));
          key_fits = under.key_fits;
          value_fits = with_fits n u (link k d m) under.value_fits (left.key_fits, fd);
        } in
        let z = wrote_free c p po pk y s hp hs hy in
        record {
          set_is_key = q;
          bytes = splice_bytes (put_slot c p po pk y) (zeros 192) (s * 192) (splice_bytes c (slot_bytes po pk y) (p * 192) R.bytes (slot_bytes_lem po pk y (omega (arith, under.high)))) (zeros_bytes 192);
          uniq = subst Unique (sym z) (uniq_clear (slots_in c) t.cache R.uniq R.cache p _ (full key st c t R st' c' p hp po pk (node n) fp) _ s _ (full key st c t R st' c' s hs o k x fs) (below_differ lies));
          cache = ap look z ∙ both_clear (slots_in c) t.cache R.uniq R.cache p _ (full key st c t R st' c' p hp po pk (node n) fp) _ s _ (full key st c t R st' c' s hs o k x fs) (below_differ lies) ∙ sym e;
          tallies = T;
        }

    abbrev at_p : t.cache pk ≡ some (record { origin = po; value = node n })
    at_p = cached key st c t R st' c' p hp po pk (node n) fp

    abbrev at_k : t.cache k ≡ some (record { origin = o; value = x })
    at_k = cached key st c t R st' c' s hs o k x fs

    to_tree_lem : (ld : Digest) (lm : Bool) → value.side_of n (toward pk k) ≡ link k ld lm → to_tree s p o k x po pk n (toward pk k) st c ld ≡ accepts st' c' → Done (EvictTree s p)
    to_tree_lem ld lm l e =
        let a : Takes key t = move (moves.evicts_tree pk k (toward pk k) (record { origin = po; value = node n }) (record { origin = o; value = x }) ld lm at_p at_k l) quiet in
        done key st c t R st' c' (EvictTree s p) _ _ a e (gone (digest_of x) false (digest_of_fits x) st R.set_is_key a refl R.tallies) (λ f u. tt) (λ f. refl) refl refl (λ v y. absurd y)

    to_deferred_lem : (ld : Digest) (lm : Bool) → DigestFits ld → value.side_of n (toward pk k) ≡ link k ld lm → to_deferred s p o k x po pk n (toward pk k) st c ld ≡ accepts st' c' → Done (EvictTreeDeferred s p)
    unfolding leaves evict_message
    to_deferred_lem ld lm fd l e = yep key st c t R st' c' (eqb o tree) wrong_origin _ refl e λ f e. nope key st c t R st' c' (leb count_limit st.tally.evicts) count_full _ refl e λ g e.
        let a : Takes key t =
        move (moves.evicts_tree_deferred pk (toward pk k) (record { origin = po; value = node n }) (record { origin = o; value = x }) ld lm (leaves k x) at_p at_k l refl)
        (evicting (leaves k x) (epoch_is k x) (time_is k x)) in
        done key st c t R st' c' (EvictTreeDeferred s p) _ _ a e (gone ld true fd (evicted st k x) (set_is k x) a refl (tallied k x))
        (λ f u. tt) (λ f. refl) (counts_it s o k x fs) refl (λ v y. absurd y)

    by_side : (b : Bool) (y : Side) → value.side_of n (toward pk k) ≡ y → evict_side b s p o k x po pk n (toward pk k) st c y ≡ accepts st' c' → Done (evict_entry b s p)
    by_side b empty l e = stop key st c t R st' c' no_link refl e
    by_side b (link lk ld lm) l e = yep key st c t R st' c' (key_eq lk k) no_link _ refl e λ q e. by b (l ∙ ap (λ y. link y ld lm) (key_eq_true lk k q)) e
      where
        by : (b : Bool) → value.side_of n (toward pk k) ≡ link k ld lm → evict_as b s p o k x po pk n (toward pk k) st c ld ≡ accepts st' c' → Done (evict_entry b s p)
        by false l e = to_tree_lem ld lm l e
        by true m e = to_deferred_lem ld lm (subst value.SideFits l (side_fits n (toward pk k) under.value_fits)).1 m e

  pub refine_evict_by : (b : Bool) (s p : ℕ) → evict_by b s p st c ≡ accepts st' c' → Done (evict_entry b s p)
  unfolding evict_by evict_under evict_node evict_link
  refine_evict_by b s p e =
      nope key st c t R st' c' (leb (count c) s) no_slot _ refl e λ hs e. nope key st c t R st' c' (leb (count c) p) no_slot _ refl e λ hp e.
      nope key st c t R st' c' (eqb s 0) root_slot _ refl e λ z e. at_s (leb-false _ _ hs) (leb-false _ _ hp) (slot_in c s) refl e
    where
      by_value : s < count c → p < count c → (o : ℕ) (k : Key) (x : Value) → slot_in c s ≡ sl.Full o k x → (po : ℕ) (pk : Key) (pv : Value) → slot_in c p ≡ sl.Full po pk pv
          → evict_node b s p o k x po pk pv st c ≡ accepts st' c' → Done (evict_entry b s p)
      by_value hs hp o k x fs po pk vnone fp e = stop key st c t R st' c' wrong_kind refl e
      by_value hs hp o k x fs po pk (print d) fp e = stop key st c t R st' c' wrong_kind refl e
      by_value hs hp o k x fs po pk (node n) fp e = yep key st c t R st' c' (above pk k) no_ancestor _ refl e λ up e.
          by_side s p hs hp o k x fs po pk n fp up b (value.side_of n (toward pk k)) refl e

      at_p : s < count c → p < count c → (o : ℕ) (k : Key) (x : Value) → slot_in c s ≡ sl.Full o k x → (z : Slot) → slot_in c p ≡ z → evict_to b s p o k x st c z ≡ accepts st' c' → Done (evict_entry b s p)
      at_p hs hp o k x fs sl.Free w e = stop key st c t R st' c' slot_empty refl e
      at_p hs hp o k x fs sl.Bad w e = stop key st c t R st' c' not_well refl e
      at_p hs hp o k x fs (sl.Full po pk pv) w e = by_value hs hp o k x fs po pk pv w e

      at_s : s < count c → p < count c → (z : Slot) → slot_in c s ≡ z → evict_at b s p st c z ≡ accepts st' c' → Done (evict_entry b s p)
      at_s hs hp sl.Free w e = stop key st c t R st' c' slot_empty refl e
      at_s hs hp sl.Bad w e = stop key st c t R st' c' not_well refl e
      at_s hs hp (sl.Full o k x) w e = at_p hs hp o k x w (slot_in c p) refl e

  -- ---- 4

  pub refine_evict_deferred : (s : ℕ) → evict_deferred s st c ≡ accepts st' c' → Done (EvictDeferred s)
  unfolding evict_deferred leaves evict_message
  refine_evict_deferred s e =
      nope key st c t R st' c' (leb (count c) s) no_slot _ refl e λ hs e. nope key st c t R st' c' (eqb s 0) root_slot _ refl e λ z e. at_s (leb-false _ _ hs) (slot_in c s) refl e
    where
      at_s : s < count c → (z : Slot) → slot_in c s ≡ z → deferred_at s st c z ≡ accepts st' c' → Done (EvictDeferred s)
      at_s hs sl.Free w e = stop key st c t R st' c' slot_empty refl e
      at_s hs sl.Bad w e = stop key st c t R st' c' not_well refl e
      at_s hs (sl.Full o k x) w e = yep key st c t R st' c' (eqb o deferred) wrong_origin _ refl e λ f e. nope key st c t R st' c' (leb count_limit st.tally.evicts) count_full _ refl e λ g e.
          let z = freed_one c s hs in
          let u = full key st c t R st' c' s hs o k x w in
          done key st c t R st' c' (EvictDeferred s) _ _
          (move (moves.evicts_deferred (leaves k x) (record { origin = o; value = x }) (cached key st c t R st' c' s hs o k x w) (eqb-true _ _ f) refl) (evicting (leaves k x) (epoch_is k x) (time_is k x))) e
          (record {
            set_is_key = set_is k x;
            bytes = splice_bytes c (zeros 192) (s * 192) R.bytes (zeros_bytes 192);
            uniq = subst Unique (sym z) (unique_clear (slots_in c) s _ R.uniq u);
            cache = ap look z ∙ cache_clear (slots_in c) t.cache R.uniq R.cache s _ u;
            tallies = tallied k x;
          }) (λ f u. tt) (λ f. refl) (counts_it s o k x w) refl (λ v y. absurd y)
