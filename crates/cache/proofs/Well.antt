-- What it says that a cache is well formed, and which changes of a slot keep it so. Assumes nothing.
use Prim.Native.Nat.{ℕ, zero, suc, ◌+◌, ◌*◌, ◌%◌, ◌≤◌, ◌<◌}
use mathlib.Core.Path.{◌≡◌, refl, ap, sym, ◌∙◌}
use mathlib.Core.List.{List}
use mathlib.Core.Bool.{true, false, true≢false}
use native.Mathlib.Omega.{arith}
use native.Mathlib.Decide.{dec_lt, ℕ_discrete}
use native.Mathlib.Nat.{div-add-mod'}
use lib.Dec.{eqb, leb}
use lib.ListN.{length, take}
use borrow.Author.Tests.{lt-ltb, eq-eqb, ne_eqb, eqb-true, leb-true}
use Rattle.words.specs.Choice.{pick, both}
use Rattle.words.proofs.Laws.{picked, both_true, never}
use Rattle.key.specs.Keys.{key_eq, root_key}
use Rattle.key.specs.declared.Key.{Key}
use Rattle.key.proofs.Laws.{key_eq_true, key_eq_refl}
use Rattle.value.specs.Values.{fits}
use Rattle.value.specs.declared.Value.{Value}
use Rattle.slot.specs.Slots.{slot_length, tree}
use Rattle.slot.specs.declared.Slot.{Slot}
use Rattle.slot.specs.declared.Slot.TheVariants as sl
use Rattle.slot.proofs.Back.{Kept}
use Rattle.cache.specs.Caches.{well_length, count, slot_in, put_slot, free_slot, held, well_record, well_slot, well_at, well_from, well_cache}
use Rattle.cache.proofs.Slots.{put_here, put_other, put_count, free_here, free_other, free_count, first_count, first_slot}
use Rattle.cache.proofs.Found.{held_nowhere, nowhere_held}

-- ---- what 28 leaves

-- two slots at the least, and no byte past the last
pub length_slots : (c : List ℕ) → well_length c ≡ true → (2 ≤ count c) × (count c * slot_length ≡ length c)
unfolding well_length
length_slots c e =
    let a = both_true (both (leb 384 (length c)) (leb (length c) 12288)) (eqb (length c % slot_length) 0) e in
    let b = both_true (leb 384 (length c)) (leb (length c) 12288) a.0 in
    let l = leb-true 384 (length c) b.0 in
    let m = eqb-true (length c % slot_length) 0 a.1 in
    let d = div-add-mod' (length c) slot_length in
    (omega arith, omega arith)

-- ---- what a well-formed cache says of its slots

pub record WellSlots (c : List ℕ) : Type 0 where
  pub good : (i : ℕ) → i < count c → slot_in c i ≡ sl.Bad → ⊥
  pub fit : (i o : ℕ) (k : Key) (x : Value) → i < count c → slot_in c i ≡ sl.Full o k x → fits k x ≡ true
  pub once : (i j o p : ℕ) (k : Key) (x y : Value) → i < count c → j < count c → slot_in c i ≡ sl.Full o k x → slot_in c j ≡ sl.Full p k y → i ≡ j
  pub root_value : Value
  pub root : slot_in c 0 ≡ sl.Full tree root_key root_value

-- each of n slots from slot i on
from_each : (n i : ℕ) (c : List ℕ) → well_from n i c ≡ true → (j : ℕ) → i ≤ j → j < i + n → well_at c j ≡ true
unfolding well_from
from_each zero i c e j a b = absurd (omega arith)
from_each (suc n) i c e j a b =
    picked (well_at c i) _ _ _ e
    (λ h q. elim (dec_lt i j) [
      | yes l ↦ from_each n (i + 1) c q j (omega arith) (omega arith)
      | no l ↦ let f : i ≡ j = omega arith in ap (well_at c) (sym f) ∙ h
    ])
    (λ _ q. absurd (true≢false (sym q)))

each_from : (n i : ℕ) (c : List ℕ) → ((j : ℕ) → i ≤ j → j < i + n → well_at c j ≡ true) → well_from n i c ≡ true
unfolding well_from
each_from zero i c f = refl
each_from (suc n) i c f = rw (f i (omega arith) (omega arith)) (each_from n (i + 1) c (λ j a b. f j (omega arith) (omega arith)))

-- a record in slot i
record Stands (c : List ℕ) (i o : ℕ) (k : Key) (x : Value) : Type 0 where
  pub kind : fits k x ≡ true
  pub before : held (take (i * slot_length) c) k ≡ false
  pub root : i ≡ 0 → (o ≡ tree) × (k ≡ root_key)

stands : (c : List ℕ) (i o : ℕ) (k : Key) (x : Value) → well_record c i o k x ≡ true → Stands c i o k x
unfolding well_record
stands c i o k x e =
    picked (fits k x) _ _ _ e
    (λ f q. picked (held (take (i * slot_length) c) k) _ _ _ q (λ _ u. absurd (true≢false (sym u)))
    (λ g u. record {
      kind = f;
      before = g;
      root = λ z.
          let b = both_true (eqb o tree) (key_eq k root_key) (rw (eq-eqb i 0 z) at u) in
          (eqb-true o tree b.0, key_eq_true k root_key b.1);
    }))
    (λ _ q. absurd (true≢false (sym q)))

-- the root's slot
record RootIn (s : Slot) : Type 0 where
  pub value : Value
  pub is : s ≡ sl.Full tree root_key value

module _ (c : List ℕ) (w : well_cache c ≡ true) where
  at : (i : ℕ) → i < count c → well_at c i ≡ true
  unfolding well_cache
  at i h = from_each (count c) 0 c w i (omega arith) (omega arith)

  slot_as : (i : ℕ) (x : Slot) → i < count c → slot_in c i ≡ x → well_slot c i x ≡ true
  unfolding well_at
  slot_as i x h e = rw e at (at i h)

  record_as : (i o : ℕ) (k : Key) (x : Value) → i < count c → slot_in c i ≡ sl.Full o k x → Stands c i o k x
  record_as i o k x h e = stands c i o k x (slot_as i (sl.Full o k x) h e)

  -- two slots with one key: not the one before the other
  apart : (i j o p : ℕ) (k : Key) (x y : Value) → i < j → j < count c → slot_in c i ≡ sl.Full o k x → slot_in c j ≡ sl.Full p k y → ⊥
  apart i j o p k x y l h e f =
      held_nowhere (take (j * slot_length) c) k (record_as j p k y h f).before i o x
      (rw (first_count c j (omega arith)) l) (first_slot c j (omega arith) i l ∙ e)

  root_in : (s : Slot) → slot_in c 0 ≡ s → 0 < count c → RootIn s
  root_in sl.Free e h = absurd (true≢false (sym (slot_as 0 sl.Free h e)))
  root_in sl.Bad e h = absurd (true≢false (sym (slot_as 0 sl.Bad h e)))
  root_in (sl.Full o k x) e h =
      let r = (record_as 0 o k x h e).root refl in
      record { value = x; is = rw (r.0, r.1) }

  pub well_slots : 0 < count c → WellSlots c
  well_slots h =
      let r = root_in (slot_in c 0) refl h in
      record {
        good = λ i l e. true≢false (sym (slot_as i sl.Bad l e));
        fit = λ i o k x l e. (record_as i o k x l e).kind;
        once = λ i j o p k x y a b e f. elim (dec_lt i j) [
          | yes l ↦ absurd (apart i j o p k x y l b e f)
          | no l ↦ elim (dec_lt j i) [
            | yes m ↦ absurd (apart j i p o k y x m a f e)
            | no m ↦ omega arith
          ]
        ];
        root_value = r.value;
        root = r.is;
      }

-- and back
module _ (c : List ℕ) (w : WellSlots c) where
  record_well : (i o : ℕ) (k : Key) (x : Value) → i < count c → slot_in c i ≡ sl.Full o k x → well_record c i o k x ≡ true
  unfolding well_record
  record_well i o k x h e =
      rw (w.fit i o k x h e, none) last
    where
      none : held (take (i * slot_length) c) k ≡ false
      none =
          nowhere_held (take (i * slot_length) c) k
          (λ j p y l f.
          let m : j < i = rw (first_count c i (omega arith)) at l in
          let g = w.once j i p o k y x (omega arith) h (sym (first_slot c i (omega arith) j m) ∙ f) e in
          omega arith)

      last : pick (eqb i 0) (both (eqb o tree) (key_eq k root_key)) true ≡ true
      last = elim (dec_lt 0 i) [
        | yes l ↦ rw (ne_eqb i 0 (λ z. omega arith))
        | no l ↦
            let z : i ≡ 0 = omega arith in
            let f = sym w.root ∙ ap (slot_in c) (sym z) ∙ e in
            let a : o ≡ tree = cc in
            let b : k ≡ root_key = cc in
            rw (eq-eqb i 0 z, eq-eqb o tree a, b) (key_eq_refl root_key)
      ]

  slot_well : (i : ℕ) → i < count c → (s : Slot) → slot_in c i ≡ s → well_slot c i s ≡ true
  slot_well i h sl.Free e = elim (dec_lt 0 i) [
    | yes l ↦ lt-ltb 0 i l
    | no l ↦ let z : i ≡ 0 = omega arith in let f = sym w.root ∙ ap (slot_in c) (sym z) ∙ e in never cc
  ]
  slot_well i h sl.Bad e = absurd (w.good i h e)
  slot_well i h (sl.Full o k x) e = record_well i o k x h e

  pub slots_well : well_cache c ≡ true
  unfolding well_cache well_at
  slots_well = each_from (count c) 0 c (λ j _ h. slot_well j (omega arith) (slot_in c j) refl)

-- ---- a change of one slot

-- d is c but for slot i, whose record, if it has one, fits and stands alone
module _ (c d : List ℕ) (i : ℕ) (w : WellSlots c) (n : count d ≡ count c) (others : (j : ℕ) → (j ≡ i → ⊥) → slot_in d j ≡ slot_in c j)
    (good : slot_in d i ≡ sl.Bad → ⊥)
    (fit : (o : ℕ) (k : Key) (x : Value) → slot_in d i ≡ sl.Full o k x → fits k x ≡ true)
    (alone : (o : ℕ) (k : Key) (x : Value) → slot_in d i ≡ sl.Full o k x → (j p : ℕ) (y : Value) → j < count c → slot_in c j ≡ sl.Full p k y → j ≡ i)
    (root : RootIn (slot_in d 0)) where
  changed : WellSlots d
  changed =
      record {
        good = λ j h e. elim (ℕ_discrete j i) [
          | yes q ↦ good (ap (slot_in d) (sym q) ∙ e)
          | no q ↦ w.good j (rw n at h) (sym (others j q) ∙ e)
        ];
        fit = λ j o k x h e. elim (ℕ_discrete j i) [
          | yes q ↦ fit o k x (ap (slot_in d) (sym q) ∙ e)
          | no q ↦ w.fit j o k x (rw n at h) (sym (others j q) ∙ e)
        ];
        once = λ a b o p k x y l m e f. elim (ℕ_discrete a i) [
          | yes q ↦ elim (ℕ_discrete b i) [
            | yes r ↦ q ∙ sym r
            | no r ↦ absurd (r (alone o k x (ap (slot_in d) (sym q) ∙ e) b p y (rw n at m) (sym (others b r) ∙ f)))
          ]
          | no q ↦ elim (ℕ_discrete b i) [
            | yes r ↦ absurd (q (alone p k y (ap (slot_in d) (sym r) ∙ f) a o x (rw n at l) (sym (others a q) ∙ e)))
            | no r ↦ w.once a b o p k x y (rw n at l) (rw n at m) (sym (others a q) ∙ e) (sym (others b r) ∙ f)
          ]
        ];
        root_value = root.value;
        root = root.is;
      }

module _ (c : List ℕ) (i : ℕ) (w : WellSlots c) (h : i < count c) where
  -- a slot other than the root's is freed
  pub free_well : 0 < i → WellSlots (free_slot c i)
  free_well l =
      changed c (free_slot c i) i w (free_count c i h) (free_other c i h)
      (λ e. let f = sym (free_here c i h) ∙ e in never cc)
      (λ o k x e. let f = sym (free_here c i h) ∙ e in never cc)
      (λ o k x e. let f = sym (free_here c i h) ∙ e in never cc)
      (record { value = w.root_value; is = free_other c i h 0 (λ z. omega arith) ∙ w.root })

  module _ (o : ℕ) (k : Key) (x : Value) (kept : Kept o k x) (fit : fits k x ≡ true) where
    here : (p : ℕ) (j : Key) (y : Value) → slot_in (put_slot c i o k x) i ≡ sl.Full p j y → (k ≡ j) × (x ≡ y)
    here p j y e = let f = sym (put_here c i o k x h kept) ∙ e in (cc, cc)

    put_well : ((j p : ℕ) (y : Value) → j < count c → slot_in c j ≡ sl.Full p k y → j ≡ i) → (i ≡ 0 → (o ≡ tree) × (k ≡ root_key)) → WellSlots (put_slot c i o k x)
    put_well alone root =
        changed c (put_slot c i o k x) i w (put_count c i o k x h) (put_other c i o k x h)
        (λ e. let f = sym (put_here c i o k x h kept) ∙ e in never cc)
        (λ p j y e. let f = here p j y e in rw (f.0, f.1) at fit)
        (λ p j y e a q z l g. let f = here p j y e in alone a q z l (rw f.0 g))
        (elim (ℕ_discrete 0 i) [
          | yes z ↦
              let r = root (sym z) in
              record { value = x; is = ap (slot_in (put_slot c i o k x)) z ∙ put_here c i o k x h kept ∙ rw (r.0, r.1) }
          | no z ↦ record { value = w.root_value; is = put_other c i o k x h 0 z ∙ w.root }
        ])

    -- a record is put into a free slot
    pub add_well : slot_in c i ≡ sl.Free → held c k ≡ false → WellSlots (put_slot c i o k x)
    add_well free none =
        put_well (λ j p y l e. absurd (held_nowhere c k none j p y l e))
        (λ z. let f = sym w.root ∙ ap (slot_in c) (sym z) ∙ free in never cc)

    -- a record's value is replaced
    pub replace_well : (y : Value) → slot_in c i ≡ sl.Full o k y → WellSlots (put_slot c i o k x)
    replace_well y full =
        put_well (λ j p z l e. w.once j i p o k z y l h e full)
        (λ z. let f = sym w.root ∙ ap (slot_in c) (sym z) ∙ full in (cc, cc))
