-- Refinement of entries 6 (get), 7 (absent) and 8 (put).
use mathlib.Core.Path.{◌≡◌, refl, sym, ◌∙◌, ap, subst}
use mathlib.Core.Bool.{Bool, true, false, true≢false}
use mathlib.Core.Option.{some, none-ne-some, some-injective}
use mathlib.Core.List.Memᴰ
use mathlib.Core.List.{List}
use Prim.Native.Nat.{ℕ, ◌*◌, ◌<◌}
use native.Mathlib.Omega.{arith}
use lib.Dec.{leb, eqb}
use borrow.Author.Tests.{leb-false, eqb-false}
use Rattle.words.specs.Choice.{pick}
use Rattle.verdict.specs.Verdicts.{accepted, not_well, no_slot, slot_empty, wrong_kind, other_key, no_ancestor, value_differs, absence_not_shown}
use Rattle.key.specs.Keys.{is_data, well_key, key_eq, above, toward}
use Rattle.key.proofs.Laws.{key_eq_true, key_eq_refl}
use Rattle.value.specs.Values as value
use Rattle.value.specs.Values.{is_node, value_eq, well_value, ValueFits}
use Rattle.value.specs.declared.Node.{Node}
use Rattle.value.proofs.Equal.{value_eq_true}
use Rattle.entry.specs.declared.Entry.{Entry}
use Rattle.entry.specs.declared.Entry.TheVariants.{Get, Absent, Put}
use Rattle.hash.specs.declared.SetKey.{SetKey}
use Rattle.slot.specs.Slots.{slot_bytes}
use Rattle.slot.specs.declared.Slot.{Slot}
use Rattle.slot.proofs.Laws.{slot_bytes_lem}
use Rattle.slot.specs.declared.Slot.TheVariants as sl
use Rattle.cache.specs.Caches.{slot_in, count, put_slot}
use Rattle.cache.proofs.Slots.{splice_bytes}
use Rattle.state.specs.declared.State.{State}
use Rattle.rules.specs.Outcomes.{Outcome, accepts, refuses}
use Rattle.rules.specs.Answers as rules
use Rattle.rules.specs.Answers.{get_slot, absent_side, absent_node, absent_slot, put_into}
use Rattle.integrity.proofs.Ancestors.{Key, Pre, pre_same, pre_up, Below}
use Rattle.integrity.proofs.Records.{Side, empty, link, Value, vnone, print, node, IsNode, key_of}
use Rattle.integrity.proofs.Moves as moves
use Rattle.integrity.proofs.Lane.{Lane, quiet, move}
use Rattle.integrity.proofs.Slots.{Unique, look, unique_write}
use Rattle.integrity.proofs.Caches.{slots_in, wrote_one}
use Rattle.integrity.proofs.Refines.{put_is, cache_write, Stands, Refined, stop, nope, yep, done, full, cached, kept}

-- no node
not_node : (x : Value) → is_node x ≡ false → IsNode x → ⊥
not_node vnone e n = n
not_node (print d) e n = n
not_node (node m) e n = true≢false e

-- of a verdict that is 0: a number that is not, and the tests that would have given one
halt : {C : Type 0} (n : ℕ) → eqb n accepted ≡ false → n ≡ accepted → C
halt n z e = absurd (eqb-false n accepted z e)

past : {C : Type 0} (b : Bool) (n m : ℕ) → eqb n accepted ≡ false → pick b n m ≡ accepted → (b ≡ false → m ≡ accepted → C) → C
past true n m z e f = halt n z e
past false n m z e f = f refl e

met : {C : Type 0} (b : Bool) (n m : ℕ) → eqb n accepted ≡ false → pick b m n ≡ accepted → (b ≡ true → m ≡ accepted → C) → C
met true n m z e f = f refl e
met false n m z e f = halt n z e

module _ (key : SetKey) (st : State) (c : List ℕ) (t : Lane) (R : Stands key st c t) (st' : State) (c' : List ℕ) where
  abbrev Done : Entry → Type 0
  Done x = Refined key x st c st' c' t

  -- ---- an answer that was accepted: its verdict is 0, and nothing changed

  said : {n : ℕ} → refuses n st c ≡ accepts st' c' → n ≡ accepted
  said e = ap (λ (o : Outcome). o.done.verdict) e

  unchanged : {n : ℕ} → refuses n st c ≡ accepts st' c' → accepts st c ≡ accepts st' c'
  unchanged e = ap (λ (m : ℕ). refuses m st c) (sym (said e)) ∙ e

  -- ---- 6

  pub refine_get : (s : ℕ) (k : Key) (x : Value) → is_data k ≡ true → refuses (rules.get s k x c) st c ≡ accepts st' c' → Done (Get s k x)
  unfolding rules.get
  refine_get s k x dk e₀ = past (leb (count c) s) no_slot _ refl (said e₀) λ h e. at_slot (leb-false _ _ h) (slot_in c s) refl e
    where
      at_slot : s < count c → (z : Slot) → slot_in c s ≡ z → get_slot k x z ≡ accepted → Done (Get s k x)
      at_slot h sl.Free w e = halt slot_empty refl e
      at_slot h sl.Bad w e = halt not_well refl e
      at_slot h (sl.Full o j y) w e =
          past (is_node x) wrong_kind _ refl e λ n e. past (is_node y) wrong_kind _ refl e λ m e.
          met (key_eq j k) other_key _ refl e λ i e. met (value_eq y x) value_differs _ refl e λ u e.
          let jk = key_eq_true j k i in
          let yx = value_eq_true y x u in
          done key st c t R st' c' (Get s k x) _ _ (move (moves.get j (record { origin = o; value = y }) (cached key st c t R st' c' s h o j y w) (ap is_data jk ∙ dk)) quiet) (unchanged e₀) R
          (λ f z. sym yx ∙ z ∙ ap f jk) (λ f. refl) refl refl (λ v z. Memᴰ.head (sym (sym yx ∙ z)))

  -- ---- 7

  not_pre : (k lk : Key) → key_eq lk k ≡ false → above lk k ≡ false → Pre lk k → ⊥
  not_pre k lk a b (pre_same q) = true≢false (sym (key_eq_refl k) ∙ ap (λ y. key_eq y k) (sym q) ∙ a)
  not_pre k lk a b (pre_up h) = true≢false (sym h.up ∙ b)

  pub refine_absent : (p : ℕ) (k : Key) → well_key k ≡ true → is_data k ≡ true → refuses (rules.absent p k c) st c ≡ accepts st' c' → Done (Absent p k)
  unfolding rules.absent
  refine_absent p k wk dk e₀ = past (leb (count c) p) no_slot _ refl (said e₀) λ h e. at_slot (leb-false _ _ h) (slot_in c p) refl e
    where
      shown : (o : ℕ) (pk : Key) (n : Node) → t.cache pk ≡ some (record { origin = o; value = node n }) → Below pk (toward pk k) k
          → ((j : Key) → key_of (value.side_of n (toward pk k)) ≡ some j → ¬ Pre j k) → Done (Absent p k)
      shown o pk n q b far =
          done key st c t R st' c' (Absent p k) _ _ (move (moves.absent pk k (toward pk k) (record { origin = o; value = node n }) q b dk far) quiet) (unchanged e₀) R
          (λ f z. z) (λ f. refl) refl refl (λ v z. absurd z)

      at_side : (o : ℕ) (pk : Key) (n : Node) → t.cache pk ≡ some (record { origin = o; value = node n }) → Below pk (toward pk k) k
          → (y : Side) → value.side_of n (toward pk k) ≡ y → absent_side k y ≡ accepted → Done (Absent p k)
      at_side o pk n q b empty l e = shown o pk n q b (λ j h. absurd (none-ne-some j (sym (ap key_of l) ∙ h)))
      at_side o pk n q b (link lk ld lm) l e =
          past (key_eq lk k) absence_not_shown _ refl e λ u e. past (above lk k) absence_not_shown _ refl e λ w e.
          shown o pk n q b (λ j h. subst (λ y. ¬ Pre y k) (some-injective _ _ (sym (ap key_of l) ∙ h)) (not_pre k lk u w))

      at_node : p < count c → (o : ℕ) (pk : Key) (y : Value) → slot_in c p ≡ sl.Full o pk y → absent_node pk k y ≡ accepted → Done (Absent p k)
      at_node h o pk vnone w e = halt wrong_kind refl e
      at_node h o pk (print d) w e = halt wrong_kind refl e
      at_node h o pk (node n) w e = met (above pk k) no_ancestor _ refl e λ up e.
          at_side o pk n (cached key st c t R st' c' p h o pk (node n) w) (record { wp = (kept key st c t R st' c' p o pk (node n) w).key; wk = wk; up = up; side = refl })
          (value.side_of n (toward pk k)) refl e

      at_slot : p < count c → (z : Slot) → slot_in c p ≡ z → absent_slot k z ≡ accepted → Done (Absent p k)
      at_slot h sl.Free w e = halt slot_empty refl e
      at_slot h sl.Bad w e = halt not_well refl e
      at_slot h (sl.Full o pk y) w e = at_node h o pk y w e

  -- ---- 8

  pub refine_put : (s : ℕ) (k : Key) (x : Value) → is_data k ≡ true → well_value x ≡ true → ValueFits x → rules.put s k x st c ≡ accepts st' c' → Done (Put s k x)
  unfolding rules.put
  refine_put s k x dk wx xf e = nope key st c t R st' c' (leb (count c) s) no_slot _ refl e λ h e. at_slot (leb-false _ _ h) (slot_in c s) refl e
    where
      wrote : s < count c → (o : ℕ) (y : Value) → slot_in c s ≡ sl.Full o k y → is_node x ≡ false → accepts st (put_slot c s o k x) ≡ accepts st' c' → Done (Put s k x)
      wrote h o y w n e =
          let old = kept key st c t R st' c' s o k y w in
          let z = wrote_one c s o k x h (record { low = old.low; high = old.high; key = old.key; value = wx; key_fits = old.key_fits; value_fits = xf }) in
          let u = full key st c t R st' c' s h o k y w in
          done key st c t R st' c' (Put s k x) _ _ (move (moves.put k (record { origin = o; value = y }) x (cached key st c t R st' c' s h o k y w) dk (not_node x n)) quiet) e
          (record {
            set_is_key = R.set_is_key;
            bytes = splice_bytes c (slot_bytes o k x) (s * 192) R.bytes (slot_bytes_lem o k x (omega (arith, old.high)));
            uniq = subst Unique (sym z) (unique_write (slots_in c) s _ (record { origin = o; value = x }) R.uniq u);
            cache = ap look z ∙ cache_write (slots_in c) t.cache R.uniq R.cache s _ (record { origin = o; value = x }) u;
            tallies = R.tallies;
          }) (λ f u. tt) (λ f. put_is f k x) refl refl (λ v z. Memᴰ.head (sym z))

      at_slot : s < count c → (z : Slot) → slot_in c s ≡ z → put_into s k x st c z ≡ accepts st' c' → Done (Put s k x)
      at_slot h sl.Free w e = stop key st c t R st' c' slot_empty refl e
      at_slot h sl.Bad w e = stop key st c t R st' c' not_well refl e
      at_slot h (sl.Full o j y) w e =
          nope key st c t R st' c' (is_node x) wrong_kind _ refl e λ n e. nope key st c t R st' c' (is_node y) wrong_kind _ refl e λ m e.
          yep key st c t R st' c' (key_eq j k) other_key _ refl e λ i e. wrote h o y (w ∙ ap (λ q. sl.Full o q y) (key_eq_true j k i)) n e
