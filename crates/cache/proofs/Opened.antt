-- The cache as opening leaves it. Assumes nothing.
use Prim.Native.Nat.{ℕ, zero, suc, ◌+◌, ◌*◌, ◌-◌, ◌<◌}
use mathlib.Core.Path.{◌≡◌, refl, ap, sym, ◌∙◌}
use mathlib.Core.List.{List, ◌++◌}
use mathlib.Core.Bool.{true}
use native.Mathlib.Omega.{arith}
use native.Mathlib.Nat.{mul-div_cancel, zero-add}
use lib.Dec.{lit<, lit≤}
use lib.ListN.{length, take, drop, length-append}
use lib.Seq.{take_at, drop-append-add}
use Rattle.words.specs.Numbers.{zeros, Bytes}
use Rattle.words.specs.Splices.{splice}
use Rattle.words.proofs.Laws.{zeros_length, append_bytes, never}
use Rattle.key.specs.Keys.{root_key}
use Rattle.key.specs.declared.Key.{Key}
use Rattle.key.proofs.Laws.{root_fits, root_well}
use Rattle.value.specs.Values.{fits, bare_node, well_side, well_value}
use Rattle.value.specs.declared.Value.{Value}
use Rattle.value.specs.declared.Value.TheVariants as v
use Rattle.slot.specs.Slots.{slot_length, tree, slot_at, slot_bytes}
use Rattle.slot.specs.declared.Slot.TheVariants as sl
use Rattle.slot.proofs.Laws.{slot_length_lem, slot_bytes_lem, zeros_bytes, drop_zeros, take_zeros}
use Rattle.slot.proofs.Back.{Kept, slot_back, zero_slot}
use Rattle.cache.specs.Caches.{well_length, count, slot_in, well_cache, opened_cache}
use Rattle.cache.proofs.Slots.{length_well}
use Rattle.cache.proofs.Well.{WellSlots, length_slots, slots_well}

abbrev root_record : List ℕ
root_record = slot_bytes tree root_key (v.Node bare_node)

-- the root's record, over zeros
pub opened_splice : (c : List ℕ) → well_length c ≡ true → splice (zeros (length c)) 0 root_record ≡ opened_cache (count c - 1)
unfolding splice opened_cache
opened_splice c w =
    let l = length_slots c w in
    let e : length c - slot_length ≡ (count c - 1) * slot_length = omega arith in
    ap (λ (r : List ℕ). root_record ++ r)
    (ap (λ (n : ℕ). drop n (zeros (length c))) (zero-add (length root_record) ∙ slot_length_lem tree root_key (v.Node bare_node)) ∙ drop_zeros slot_length (length c) ∙ ap zeros e)

pub opened_length : (n : ℕ) → length (opened_cache n) ≡ suc n * slot_length
unfolding opened_cache
opened_length n = simp (length-append, slot_length_lem, zeros_length) (omega arith)

pub opened_count : (n : ℕ) → count (opened_cache n) ≡ suc n
opened_count n = rw (opened_length n) (mul-div_cancel (suc n) (lit< tt))

pub root_kept : Kept tree root_key (v.Node bare_node)
unfolding well_value well_side
root_kept =
    record {
      low = lit≤ tt;
      high = lit≤ tt;
      key = root_well;
      value = refl;
      key_fits = root_fits;
      value_fits = (tt, tt);
    }

pub opened_root : (n : ℕ) → slot_in (opened_cache n) 0 ≡ sl.Full tree root_key (v.Node bare_node)
unfolding opened_cache
opened_root n = ap slot_at (take_at root_record (zeros (n * slot_length)) slot_length (slot_length_lem tree root_key (v.Node bare_node))) ∙ slot_back tree root_key (v.Node bare_node) root_kept

pub opened_free : (n i : ℕ) → i < n → slot_in (opened_cache n) (suc i) ≡ sl.Free
unfolding opened_cache
opened_free n i h =
    let e : suc i * slot_length ≡ length root_record + i * slot_length = omega (arith, slot_length_lem tree root_key (v.Node bare_node)) in
    ap (λ (l : List ℕ). slot_at (take slot_length l))
    (ap (λ (j : ℕ). drop j (root_record ++ zeros (n * slot_length))) e ∙ drop-append-add root_record (zeros (n * slot_length)) (i * slot_length) ∙ drop_zeros (i * slot_length) (n * slot_length))
    ∙ ap slot_at (take_zeros slot_length (n * slot_length - i * slot_length) (omega arith))
    ∙ zero_slot

-- ---- it is well formed

module _ (n : ℕ) where
  -- the root's is its only record
  only : (i o : ℕ) (k : Key) (x : Value) → i < count (opened_cache n) → slot_in (opened_cache n) i ≡ sl.Full o k x → (i ≡ 0) × (fits k x ≡ true)
  unfolding fits
  only zero o k x h e =
      let f = sym (opened_root n) ∙ e in
      let a : root_key ≡ k = cc in
      let b : v.Node bare_node ≡ x = cc in
      (refl, rw (← a, ← b))
  only (suc i) o k x h e = let f = sym (opened_free n i (omega (arith, opened_count n))) ∙ e in never cc

  no_bad : (i : ℕ) → i < count (opened_cache n) → slot_in (opened_cache n) i ≡ sl.Bad → ⊥
  no_bad zero h e = let f = sym (opened_root n) ∙ e in never cc
  no_bad (suc i) h e = let f = sym (opened_free n i (omega (arith, opened_count n))) ∙ e in never cc

  pub opened_slots : WellSlots (opened_cache n)
  opened_slots =
      record {
        good = no_bad;
        fit = λ i o k x h e. (only i o k x h e).1;
        once = λ i j o p k x y a b e f. (only i o k x a e).0 ∙ sym (only j p k y b f).0;
        root_value = v.Node bare_node;
        root = opened_root n;
      }

  pub opened_well : well_cache (opened_cache n) ≡ true
  opened_well = slots_well (opened_cache n) opened_slots

-- and as long as the cache that was lent
pub opened_as_long : (c : List ℕ) → well_length c ≡ true → length (opened_cache (count c - 1)) ≡ length c
opened_as_long c w =
    let l = length_slots c w in
    opened_length (count c - 1) ∙ omega arith

pub opened_well_length : (c : List ℕ) → well_length c ≡ true → well_length (opened_cache (count c - 1)) ≡ true
opened_well_length c w = length_well (opened_cache (count c - 1)) c (opened_as_long c w) ∙ w

pub opened_bytes : (n : ℕ) → Bytes (opened_cache n)
unfolding opened_cache
opened_bytes n =
    append_bytes root_record (zeros (n * slot_length)) (slot_bytes_lem tree root_key (v.Node bare_node) (lit< tt)) (zeros_bytes (n * slot_length))
