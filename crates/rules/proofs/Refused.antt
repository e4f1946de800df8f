-- A refused entry leaves the state and every byte of the cache as they were: for each entry, and for a step on any bytes. And what the code answers
-- is told by the rules in one way alone.
use Rattle.std.specs.Prelude.{Option, Some, None, Result, Ok, Err}
use mathlib.Core.Path.{◌≡◌, refl, ap}
use mathlib.Core.Bool.{Bool, true, false}
use mathlib.Core.List.{List}
use Prim.Native.Nat.{ℕ}
use lib.Dec.{eqb, leb}
use borrow.Author.Tests.{eqb-true}
use Rattle.words.specs.Choice.{pick}
use Rattle.words.proofs.Laws.{both_true}
use Rattle.verdict.specs.Verdicts.{accepted, not_well, malformed, short, no_slot, slot_taken, slot_empty, key_held, wrong_kind, other_key, no_ancestor, no_link, other_branch, marked_deferred, digest_differs, not_first, wrong_origin, root_slot, epoch_not_open, time_out_of_range, count_full, epoch_full, wrong_moment, counts_differ, sums_differ, wrong_cache}
use Rattle.verdict.specs.declared.Refusal.{Refusal}
use Rattle.verdict.proofs.Reasons.{view_back}
use Rattle.cmac.specs.Tags.{tag_eq}
use Rattle.key.specs.Keys.{key_eq, above, toward}
use Rattle.key.specs.declared.Key.{Key}
use Rattle.value.specs.Values.{digest_eq, is_node, is_first, fits, side_of}
use Rattle.value.specs.declared.Side.{Side}
use Rattle.value.specs.declared.Side.TheVariants.{Empty, Link}
use Rattle.value.specs.declared.Node.{Node}
use Rattle.value.specs.declared.Value.{Value}
use Rattle.value.specs.declared.Value.TheVariants as v
use Rattle.message.specs.declared.Epoch.{Epoch}
use Rattle.message.specs.declared.Time.{Time}
use Rattle.entry.specs.Entries.{Reading, read_entry}
use Rattle.entry.specs.declared.Entry.{Entry}
use Rattle.entry.specs.declared.Entry.TheVariants.{AddTree, AddDeferred, EvictTree, EvictDeferred, EvictTreeDeferred, Get, Absent, Put, Advance, Close}
use Rattle.entry.specs.declared.Unread.TheVariants as unread
use Rattle.hash.specs.Hashes.{digest_of}
use Rattle.slot.specs.Slots.{tree, deferred}
use Rattle.slot.specs.declared.Slot.{Slot}
use Rattle.slot.specs.declared.Slot.TheVariants as sl
use Rattle.cache.specs.Caches.{slot_in, count, held, well_length, well_cache}
use Rattle.state.specs.States.{count_limit, epoch_limit, well_state}
use Rattle.state.specs.declared.Tally.{Tally}
use Rattle.state.specs.declared.State.{State}
use Rattle.rules.specs.Outcomes.{Done, Outcome, outcome, done, refuses, accepts}
use Rattle.rules.specs.Adds.{add_side, add_link, add_node, add_to, add_under, add_at, add_tree, named_epoch, in_time, add_named, add_into, defer_at, add_deferred}
use Rattle.rules.specs.Evicts.{evict_side, evict_link, evict_node, evict_to, evict_under, evict_at, evict_by, deferred_at, evict_deferred}
use Rattle.rules.specs.Answers as answers
use Rattle.rules.specs.Answers.{put_into}
use Rattle.rules.specs.Epochs as epochs
use Rattle.rules.specs.Epochs.{advance_old, close_old}
use Rattle.rules.specs.Steps.{Step, entry_step, taking, step_read, step_well, well_formed, step}
use Rattle.rules.specs.declared.Named.{Named}
use Rattle.rules.specs.declared.Named.TheVariants as named

module _ (st : State) (c : List ℕ) where
  -- accepted, or refused by a number and as it was
  pub data Settles (o : Outcome) : Type 0 where
    took : (σ : State) (d : List ℕ) → o ≡ accepts σ d → Settles o
    kept : (n : ℕ) → eqb n accepted ≡ false → o ≡ refuses n st c → Settles o

  no : (n : ℕ) → eqb n accepted ≡ false → Settles (refuses n st c)
  no n z = kept n z refl

  ok : (σ : State) (d : List ℕ) → Settles (accepts σ d)
  ok σ d = took σ d refl

  -- of a choice, what holds of both
  by : (b : Bool) {x y : Outcome} → Settles x → Settles y → Settles (pick b x y)
  by true p q = p
  by false p q = q

  -- ---- 1

  add_side_lem : (s p o : ℕ) (pk : Key) (n : Node) (r : Bool) (k : Key) (x : Value) (y : Side) → Settles (add_side s p o pk n r k x st c y)
  add_side_lem s p o pk n r k x Empty = by (is_first x) (ok _ _) (no not_first refl)
  add_side_lem s p o pk n r k x (Link lk ld lm) =
      by (key_eq lk k)
      (by lm (no marked_deferred refl) (by (digest_eq ld (digest_of x)) (ok _ _) (no digest_differs refl)))
      (by (above k lk) (by (is_first x) (ok _ _) (no not_first refl)) (no other_branch refl))

  add_node_lem : (s p o : ℕ) (pk : Key) (y : Value) (k : Key) (x : Value) → Settles (add_node s p o pk y k x st c)
  unfolding add_node add_link
  add_node_lem s p o pk v.None k x = no wrong_kind refl
  add_node_lem s p o pk (v.Fingerprint d) k x = no wrong_kind refl
  add_node_lem s p o pk (v.Node n) k x = by (above pk k) (add_side_lem s p o pk n (toward pk k) k x (side_of n (toward pk k))) (no no_ancestor refl)

  add_to_lem : (s p : ℕ) (k : Key) (x : Value) (z : Slot) → Settles (add_to s p k x st c z)
  add_to_lem s p k x sl.Free = no slot_empty refl
  add_to_lem s p k x sl.Bad = no not_well refl
  add_to_lem s p k x (sl.Full o pk y) = by (held c k) (no key_held refl) (by (fits k x) (add_node_lem s p o pk y k x) (no wrong_kind refl))

  add_at_lem : (s p : ℕ) (k : Key) (x : Value) (z : Slot) → Settles (add_at s p k x st c z)
  unfolding add_under
  add_at_lem s p k x sl.Free = add_to_lem s p k x (slot_in c p)
  add_at_lem s p k x sl.Bad = no not_well refl
  add_at_lem s p k x (sl.Full o j y) = no slot_taken refl

  add_tree_lem : (s p : ℕ) (k : Key) (x : Value) → Settles (add_tree s p k x st c)
  unfolding add_tree
  add_tree_lem s p k x = by (leb (count c) s) (no no_slot refl) (by (leb (count c) p) (no no_slot refl) (add_at_lem s p k x (slot_in c s)))

  -- ---- 2

  add_named_lem : (s : ℕ) (e : Epoch) (t : Time) (k : Key) (x : Value) (w : Option Named) → Settles (add_named s e t k x st c w)
  add_named_lem s e t k x None = no epoch_not_open refl
  add_named_lem s e t k x (Some named.Current) = by (in_time t st.clock) (by (leb count_limit st.tally.adds) (no count_full refl) (ok _ _)) (no time_out_of_range refl)
  add_named_lem s e t k x (Some (named.Old T)) = by (in_time t st.clock) (by (leb count_limit T.adds) (no count_full refl) (ok _ _)) (no time_out_of_range refl)

  defer_at_lem : (s : ℕ) (e : Epoch) (t : Time) (k : Key) (x : Value) (z : Slot) → Settles (defer_at s e t k x st c z)
  unfolding add_into
  defer_at_lem s e t k x sl.Free = by (held c k) (no key_held refl) (by (fits k x) (add_named_lem s e t k x (named_epoch st e)) (no wrong_kind refl))
  defer_at_lem s e t k x sl.Bad = no not_well refl
  defer_at_lem s e t k x (sl.Full o j y) = no slot_taken refl

  add_deferred_lem : (s : ℕ) (e : Epoch) (t : Time) (k : Key) (x : Value) → Settles (add_deferred s e t k x st c)
  unfolding add_deferred
  add_deferred_lem s e t k x = by (leb (count c) s) (no no_slot refl) (defer_at_lem s e t k x (slot_in c s))

  -- ---- 3 and 5

  evict_side_lem : (b : Bool) (s p o : ℕ) (k : Key) (x : Value) (po : ℕ) (pk : Key) (n : Node) (r : Bool) (y : Side) → Settles (evict_side b s p o k x po pk n r st c y)
  evict_side_lem b s p o k x po pk n r Empty = no no_link refl
  evict_side_lem false s p o k x po pk n r (Link lk ld lm) = by (key_eq lk k) (ok _ _) (no no_link refl)
  evict_side_lem true s p o k x po pk n r (Link lk ld lm) =
      by (key_eq lk k) (by (eqb o tree) (by (leb count_limit st.tally.evicts) (no count_full refl) (ok _ _)) (no wrong_origin refl)) (no no_link refl)

  evict_node_lem : (b : Bool) (s p o : ℕ) (k : Key) (x : Value) (po : ℕ) (pk : Key) (y : Value) → Settles (evict_node b s p o k x po pk y st c)
  unfolding evict_node evict_link
  evict_node_lem b s p o k x po pk v.None = no wrong_kind refl
  evict_node_lem b s p o k x po pk (v.Fingerprint d) = no wrong_kind refl
  evict_node_lem b s p o k x po pk (v.Node n) = by (above pk k) (evict_side_lem b s p o k x po pk n (toward pk k) (side_of n (toward pk k))) (no no_ancestor refl)

  evict_to_lem : (b : Bool) (s p o : ℕ) (k : Key) (x : Value) (z : Slot) → Settles (evict_to b s p o k x st c z)
  evict_to_lem b s p o k x sl.Free = no slot_empty refl
  evict_to_lem b s p o k x sl.Bad = no not_well refl
  evict_to_lem b s p o k x (sl.Full po pk y) = evict_node_lem b s p o k x po pk y

  evict_at_lem : (b : Bool) (s p : ℕ) (z : Slot) → Settles (evict_at b s p st c z)
  unfolding evict_under
  evict_at_lem b s p sl.Free = no slot_empty refl
  evict_at_lem b s p sl.Bad = no not_well refl
  evict_at_lem b s p (sl.Full o k x) = evict_to_lem b s p o k x (slot_in c p)

  evict_by_lem : (b : Bool) (s p : ℕ) → Settles (evict_by b s p st c)
  unfolding evict_by
  evict_by_lem b s p =
      by (leb (count c) s) (no no_slot refl) (by (leb (count c) p) (no no_slot refl) (by (eqb s 0) (no root_slot refl) (evict_at_lem b s p (slot_in c s))))

  -- ---- 4

  deferred_at_lem : (s : ℕ) (z : Slot) → Settles (deferred_at s st c z)
  deferred_at_lem s sl.Free = no slot_empty refl
  deferred_at_lem s sl.Bad = no not_well refl
  deferred_at_lem s (sl.Full o k x) = by (eqb o deferred) (by (leb count_limit st.tally.evicts) (no count_full refl) (ok _ _)) (no wrong_origin refl)

  evict_deferred_lem : (s : ℕ) → Settles (evict_deferred s st c)
  unfolding evict_deferred
  evict_deferred_lem s = by (leb (count c) s) (no no_slot refl) (by (eqb s 0) (no root_slot refl) (deferred_at_lem s (slot_in c s)))

  -- ---- 6 and 7: a verdict alone

  told : (n : ℕ) → Settles (refuses n st c)
  told n = go (eqb n accepted) refl
    where
      go : (b : Bool) → eqb n accepted ≡ b → Settles (refuses n st c)
      go true e = took st c (ap (λ (m : ℕ). refuses m st c) (eqb-true n accepted e))
      go false e = no n e

  -- ---- 8

  put_into_lem : (s : ℕ) (k : Key) (x : Value) (z : Slot) → Settles (put_into s k x st c z)
  put_into_lem s k x sl.Free = no slot_empty refl
  put_into_lem s k x sl.Bad = no not_well refl
  put_into_lem s k x (sl.Full o j y) = by (is_node x) (no wrong_kind refl) (by (is_node y) (no wrong_kind refl) (by (key_eq j k) (ok _ _) (no other_key refl)))

  -- ---- 9 and 10

  either : (b : Bool) {x y : Done} → Settles (outcome x c) → Settles (outcome y c) → Settles (outcome (pick b x y) c)
  either true p q = p
  either false p q = q

  advance_old_lem : (o : Option Tally) → Settles (outcome (advance_old st o) c)
  advance_old_lem (Some T) = no wrong_moment refl
  advance_old_lem None = either (leb epoch_limit st.epoch.0) (no epoch_full refl) (ok _ c)

  close_old_lem : (o : Option Tally) → Settles (outcome (close_old st o) c)
  close_old_lem None = no wrong_moment refl
  close_old_lem (Some T) = either (eqb T.adds T.evicts) (either (tag_eq T.addsum T.evictsum) (ok _ c) (no sums_differ refl)) (no counts_differ refl)

  -- ---- every entry

  pub entry_settles : (e : Entry) → Settles (entry_step e st c)
  unfolding entry_step answers.put epochs.advance epochs.close
  entry_settles (AddTree s p k x) = add_tree_lem s p k x
  entry_settles (AddDeferred s e t k x) = add_deferred_lem s e t k x
  entry_settles (EvictTree s p) = evict_by_lem false s p
  entry_settles (EvictDeferred s) = evict_deferred_lem s
  entry_settles (EvictTreeDeferred s p) = evict_by_lem true s p
  entry_settles (Get s k x) = told (answers.get s k x c)
  entry_settles (Absent p k) = told (answers.absent p k c)
  entry_settles (Put s k x) = by (leb (count c) s) (no no_slot refl) (put_into_lem s k x (slot_in c s))
  entry_settles Advance = advance_old_lem st.old
  entry_settles Close = close_old_lem st.old

  -- ---- a step: it accepted an entry that was read, or everything is as it was

  pub data Stepping (w : List ℕ) (o : Step) : Type 0 where
    took : well_state st ≡ true → (e : Entry) (n : ℕ) (σ : State) (d : List ℕ) → read_entry w ≡ Ok (e, n) → entry_step e st c ≡ accepts σ d → o ≡ taking n (accepts σ d) → Stepping w o
    kept : (n m : ℕ) → eqb n accepted ≡ false → o ≡ taking m (refuses n st c) → Stepping w o

  -- 28: a cache of another length is never touched
  pub step_short : (w : List ℕ) → well_length c ≡ false → step w st c ≡ taking 0 (refuses wrong_cache st c)
  unfolding step
  step_short w e = rw e

  pub step_settles : (w : List ℕ) → Stepping w (step w st c)
  unfolding step step_well
  step_settles w = len (well_length c) refl
    where
      read : well_state st ≡ true → (r : Reading) → read_entry w ≡ r → Stepping w (step_read st c r)
      read f (Err unread.Short) e = kept short 0 refl refl
      read f (Err (unread.Malformed n)) e = kept malformed n refl refl
      read f (Ok (x, n)) e = go (entry_settles x)
        where
          go : Settles (entry_step x st c) → Stepping w (step_read st c (Ok (x, n)))
          go (took σ d q) = took f x n σ d e q (ap (taking n) q)
          go (kept m z q) = kept m n z (ap (taking n) q)

      formed : (b : Bool) → well_formed st c ≡ b → Stepping w (pick b (step_read st c (read_entry w)) (taking 0 (refuses not_well st c)))
      formed true e = read (both_true (well_state st) (well_cache c) e).0 (read_entry w) refl
      formed false e = kept not_well 0 refl refl

      len : (b : Bool) → well_length c ≡ b → Stepping w (pick b (pick (well_formed st c) (step_read st c (read_entry w)) (taking 0 (refuses not_well st c))) (taking 0 (refuses wrong_cache st c)))
      len true e = formed (well_formed st c) refl
      len false e = kept wrong_cache 0 refl refl

-- ---- what the code answers

-- no two results of the code are told alike by the rules
pub done_back : (st : State) (x y : Result State Refusal) → done x st ≡ done y st → x ≡ y
done_back st = view_back (λ (z : Result State Refusal). done z st) (λ (d : Done). d.verdict) (λ t. refl) (λ r. refl) (λ s t e. ap (λ (d : Done). d.state) e)
