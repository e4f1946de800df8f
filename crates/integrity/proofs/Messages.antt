-- Refinement, the messages that are counted: each is well formed and its numbers fit their fields, so that messages which differ have different
-- bytes.
use mathlib.Core.Path.{◌≡◌, refl}
use mathlib.Core.Logic.{inl, inr, ite}
use mathlib.Core.Bool.{true}
use mathlib.Core.List.Memᴰ
use mathlib.Core.List.{List, [], ◌∷◌, ◌++◌, Memᴰ}
use Prim.Native.Nat.{ℕ, ◌*◌}
use native.Mathlib.Decide.{ℕ_discrete}
use native.Mathlib.Omega.{arith}
use borrow.Author.Tests.{eq-eqb, ne_eqb}
use Rattle.words.specs.Numbers.{Bytes}
use Rattle.words.proofs.Laws.{both_true, part_bytes}
use Rattle.key.specs.Keys.{well_key}
use Rattle.value.specs.Values.{well_value}
use Rattle.message.specs.Messages.{message_bytes, WellMessage}
use Rattle.message.specs.declared.Message.{Message}
use Rattle.message.proofs.Laws.{message_inj}
use Rattle.entry.specs.Entries.{well_entry}
use Rattle.entry.specs.declared.Entry.{Entry}
use Rattle.entry.specs.declared.Entry.TheVariants.{AddTree, AddDeferred, EvictTree, EvictDeferred, EvictTreeDeferred, Get, Absent, Put, Advance, Close}
use Rattle.writer.specs.Writings.{EntryFits}
use Rattle.slot.specs.declared.Slot.{Slot}
use Rattle.slot.specs.declared.Slot.TheVariants as sl
use Rattle.slot.proofs.Back.{slot_kept}
use Rattle.cache.specs.Caches.{slot_in}
use Rattle.state.specs.States.{well_state, evict_message}
use Rattle.state.specs.declared.State.{State}
use Rattle.state.proofs.Laws.{well_parts, well_clock}
use Rattle.integrity.specs.Same.{message_dec}
use Rattle.integrity.specs.Counting.{toggle, odds}
use Rattle.integrity.specs.Statement.{added_by, leaving, evicted_by, of_epoch}
use Rattle.integrity.proofs.Stood.{mem_split}

-- every message of a list is well formed
abbrev pub AllWell : List Message → Type 0
AllWell l = (m : Message) → Memᴰ m l → WellMessage m

pub none_well : AllWell []
none_well m h = absurd (Memᴰ.not-nil h)

one_well : (x : Message) → WellMessage x → AllWell (x ∷ [])
one_well x w m h = elim (Memᴰ.cases_cons h) [ inl q ↦ rw q w | inr u ↦ absurd (Memᴰ.not-nil u) ]

pub join_well : (a b : List Message) → AllWell a → AllWell b → AllWell (a ++ b)
join_well a b p q m h = elim (mem_split a b h) [ inl u ↦ p m u | inr u ↦ q m u ]

-- ---- those of an accepted entry

pub added_well : (e : Entry) → well_entry e ≡ true → EntryFits e → AllWell (added_by e)
unfolding well_entry
added_well (AddTree s p k x) w f = none_well
added_well (AddDeferred s e t k x) w f =
    let b = both_true (well_key k) (well_value x) w in
    one_well _ (record { epoch = f.1.0; time = f.1.1.0; key_fits = f.1.1.1.0; key = b.0; value_fits = f.1.1.1.1; value = b.1 })
added_well (EvictTree s p) w f = none_well
added_well (EvictDeferred s) w f = none_well
added_well (EvictTreeDeferred s p) w f = none_well
added_well (Get s k x) w f = none_well
added_well (Absent p k) w f = none_well
added_well (Put s k x) w f = none_well
added_well Advance w f = none_well
added_well Close w f = none_well

module _ (st : State) (c : List ℕ) (b : Bytes c) (w : well_state st ≡ true) where
  leaving_well : (s : ℕ) → AllWell (leaving st (slot_in c s))
  unfolding evict_message
  leaving_well s = go (slot_in c s) refl
    where
      go : (z : Slot) → slot_in c s ≡ z → AllWell (leaving st z)
      go sl.Free e = none_well
      go sl.Bad e = none_well
      go (sl.Full o k x) e =
          let r = slot_kept _ o k x e (part_bytes c (s * 192) 192 b) in
          one_well _ (record {
            epoch = omega (arith, (well_parts st w).high);
            time = omega (arith, well_clock st w);
            key_fits = r.key_fits;
            key = r.key;
            value_fits = r.value_fits;
            value = r.value;
          })

  pub evicted_well : (e : Entry) → AllWell (evicted_by (record { state = st; cache = c }) e)
  evicted_well (AddTree s p k x) = none_well
  evicted_well (AddDeferred s e t k x) = none_well
  evicted_well (EvictTree s p) = none_well
  evicted_well (EvictDeferred s) = leaving_well s
  evicted_well (EvictTreeDeferred s p) = leaving_well s
  evicted_well (Get s k x) = none_well
  evicted_well (Absent p k) = none_well
  evicted_well (Put s k x) = none_well
  evicted_well Advance = none_well
  evicted_well Close = none_well

-- ---- those of an epoch, and those counted an odd number of times

of_mem : (i : ℕ) (m : Message) (l : List Message) → Memᴰ m (of_epoch i l) → Memᴰ m l
unfolding of_epoch
of_mem i m [] h = h
of_mem i m (x ∷ l) h = elim (ℕ_discrete x.epoch.0 i) [
  | yes q ↦ elim (Memᴰ.cases_cons (rw (eq-eqb x.epoch.0 i q) at h)) [ inl e ↦ Memᴰ.head e | inr g ↦ Memᴰ.tail (of_mem i m l g) ]
  | no n ↦ Memᴰ.tail (of_mem i m l (rw (ne_eqb x.epoch.0 i n) at h))
]

toggle_mem : (x m : Message) (l : List Message) → Memᴰ m (toggle Message message_dec x l) → Memᴰ m (x ∷ l)
unfolding toggle
toggle_mem x m [] h = h
toggle_mem x m (y ∷ l) h = (elim (message_dec x y) as (λ r. Memᴰ m (ite r l (y ∷ toggle Message message_dec x l)) → Memᴰ m (x ∷ y ∷ l)) [
  | yes e ↦ λ h. Memᴰ.tail (Memᴰ.tail h)
  | no n ↦ λ h. elim (Memᴰ.cases_cons h) [
    | inl e ↦ Memᴰ.tail (Memᴰ.head e)
    | inr g ↦ elim (Memᴰ.cases_cons (toggle_mem x m l g)) [ inl e ↦ Memᴰ.head e | inr u ↦ Memᴰ.tail (Memᴰ.tail u) ]
  ]
]) h

odds_mem : (m : Message) (l : List Message) → Memᴰ m (odds Message message_dec l) → Memᴰ m l
unfolding odds
odds_mem m [] h = h
odds_mem m (x ∷ l) h = elim (Memᴰ.cases_cons (toggle_mem x m (odds Message message_dec l) h)) [ inl e ↦ Memᴰ.head e | inr g ↦ Memᴰ.tail (odds_mem m l g) ]

-- the odd messages of an epoch are told apart by their bytes
pub odd_apart : (i : ℕ) (D E : List Message) → AllWell D → AllWell E → (a b : Message) → Memᴰ a (odds Message message_dec (of_epoch i D ++ of_epoch i E))
    → Memᴰ b (odds Message message_dec (of_epoch i D ++ of_epoch i E)) → message_bytes a ≡ message_bytes b → a ≡ b
odd_apart i D E p q a b h g e = message_inj a b (is a h) (is b g) e
  where
    is : (m : Message) → Memᴰ m (odds Message message_dec (of_epoch i D ++ of_epoch i E)) → WellMessage m
    is m h = elim (mem_split (of_epoch i D) (of_epoch i E) (odds_mem m (of_epoch i D ++ of_epoch i E) h)) [ inl u ↦ p m (of_mem i m D u) | inr u ↦ q m (of_mem i m E u) ]
