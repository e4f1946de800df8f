-- An entry that is well formed is read back from its own fields: nothing is lost at this boundary. Assumes nothing.
use Prim.Native.Nat.{ℕ, ◌-◌, ◌<◌}
use mathlib.Core.Path.{◌≡◌, refl, ap, sym, ◌∙◌}
use mathlib.Core.List.{List, [], ◌++◌, append-nil}
use mathlib.Core.Bool.{true}
use lib.Dec.{lit<}
use lib.ListN.{length, drop}
use lib.Seq.{drop_at}
use borrow.Author.Tests.{lt-leb}
use Rattle.words.specs.Numbers.{zeros}
use Rattle.words.proofs.Laws.{both_true}
use Rattle.key.specs.Keys.{key_at, key_bytes, well_key, is_data, root_key, KeyFits}
use Rattle.key.proofs.Laws.{key_back, root_fits, root_well, data_well}
use Rattle.value.specs.Values.{value_at, value_bytes, well_value, ValueFits}
use Rattle.value.specs.declared.Value.{Value}
use Rattle.value.specs.declared.Value.TheVariants as v
use Rattle.value.proofs.Back.{value_back}
use Rattle.slot.specs.Slots.{all_zero}
use Rattle.slot.proofs.Laws.{all_zero_lem, splice_zeros}
use Rattle.entry.specs.Entries.{well_entry}
use Rattle.entry.specs.declared.Entry.{Entry}
use Rattle.entry.specs.declared.Entry.TheVariants.{AddTree, AddDeferred, EvictTree, EvictDeferred, EvictTreeDeferred, Get, Absent, Put, Advance, Close}
use Rattle.std.specs.Prelude.{Some}
use Rattle.writer.specs.Writings.{EntryFits}
use Rattle.fields.specs.Forms.{value_length, undated, fields_of, numbers_of, value_field, entry_with, entry_from}
use Rattle.fields.specs.declared.Fields.{Fields}

-- ---- a value, and then zeros

module _ (x : Value) where
  field_value : value_field x ≡ value_bytes x ++ zeros (value_length - length (value_bytes x))
  unfolding value_field
  field_value = splice_zeros value_length (value_bytes x)

  field_back : ValueFits x → well_value x ≡ true → value_at (value_field x) 0 ≡ Some (x, length (value_bytes x))
  field_back f w = rw field_value (value_back 0 [] (zeros (value_length - length (value_bytes x))) refl x f w)

  field_rest : all_zero (drop (length (value_bytes x)) (value_field x)) ≡ true
  field_rest =
      rw (field_value, drop_at (value_bytes x) (zeros (value_length - length (value_bytes x))) (length (value_bytes x)) refl)
      (all_zero_lem (value_length - length (value_bytes x)))

-- ---- fields that fit are put together as their tag says

pub record FieldsWell (f : Fields) : Type 0 where
  pub tag : f.tag < 256
  pub s : f.s < 65536
  pub p : f.p < 65536
  pub key_fits : KeyFits f.key
  pub key : well_key f.key ≡ true
  pub value_fits : ValueFits f.value
  pub value : well_value f.value ≡ true

pub fields_back : (f : Fields) → FieldsWell f → entry_from (numbers_of f) (key_bytes f.key) (value_field f.value) ≡ entry_with f
unfolding entry_from
fields_back f w =
    rw (lt-leb 256 f.tag w.tag, lt-leb 65536 f.s w.s, lt-leb 65536 f.p w.p, key, field_back f.value w.value_fits w.value, field_rest f.value)
  where
    key : key_at (key_bytes f.key) 0 ≡ Some f.key
    key = ap (λ (l : List ℕ). key_at l 0) (sym (append-nil (key_bytes f.key))) ∙ key_back f.key w.key_fits 0 [] [] refl w.key

-- ---- every entry

none_well : well_value v.None ≡ true
unfolding well_value
none_well = refl

bare : (t s p : ℕ) → t < 256 → s < 65536 → p < 65536 → FieldsWell (undated t s p root_key v.None)
bare t s p ht hs hp = record { tag = ht; s = hs; p = hp; key_fits = root_fits; key = root_well; value_fits = tt; value = none_well }

entry_well : (e : Entry) → EntryFits e → well_entry e ≡ true → FieldsWell (fields_of e)
unfolding fields_of well_entry
entry_well (AddTree s p k x) f w =
    let b = both_true (well_key k) (well_value x) w in
    record { tag = lit< tt; s = f.0; p = f.1.0; key_fits = f.1.1.0; key = b.0; value_fits = f.1.1.1; value = b.1 }
entry_well (AddDeferred s e t k x) f w =
    let b = both_true (well_key k) (well_value x) w in
    record { tag = lit< tt; s = f.0; p = lit< tt; key_fits = f.1.1.1.0; key = b.0; value_fits = f.1.1.1.1; value = b.1 }
entry_well (EvictTree s p) f w = bare 3 s p (lit< tt) f.0 f.1
entry_well (EvictDeferred s) f w = bare 4 s 0 (lit< tt) f (lit< tt)
entry_well (EvictTreeDeferred s p) f w = bare 5 s p (lit< tt) f.0 f.1
entry_well (Get s k x) f w =
    let b = both_true (is_data k) (well_value x) w in
    record { tag = lit< tt; s = f.0; p = lit< tt; key_fits = f.1.0; key = data_well k b.0; value_fits = f.1.1; value = b.1 }
entry_well (Absent p k) f w =
    record { tag = lit< tt; s = lit< tt; p = f.0; key_fits = f.1; key = data_well k w; value_fits = tt; value = none_well }
entry_well (Put s k x) f w =
    let b = both_true (is_data k) (well_value x) w in
    record { tag = lit< tt; s = f.0; p = lit< tt; key_fits = f.1.0; key = data_well k b.0; value_fits = f.1.1; value = b.1 }
entry_well Advance f w = bare 9 0 0 (lit< tt) (lit< tt) (lit< tt)
entry_well Close f w = bare 10 0 0 (lit< tt) (lit< tt) (lit< tt)

-- the fields of any entry, well formed or not, are the entry's
pub with_fields : (e : Entry) → entry_with (fields_of e) ≡ Some e
unfolding entry_with fields_of
with_fields (AddTree s p k x) = refl
with_fields (AddDeferred s e t k x) = refl
with_fields (EvictTree s p) = refl
with_fields (EvictDeferred s) = refl
with_fields (EvictTreeDeferred s p) = refl
with_fields (Get s k x) = refl
with_fields (Absent p k) = refl
with_fields (Put s k x) = refl
with_fields Advance = refl
with_fields Close = refl

-- written and read back without loss
pub entry_back : (e : Entry) → EntryFits e → well_entry e ≡ true
    → entry_from (numbers_of (fields_of e)) (key_bytes (fields_of e).key) (value_field (fields_of e).value) ≡ Some e
entry_back e f w = fields_back (fields_of e) (entry_well e f w) ∙ with_fields e
