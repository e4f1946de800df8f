-- What is read as an entry is written as the same bytes, so no two byte strings mean one entry. Assumes nothing.
use Prim.Native.Nat.{ℕ, ◌+◌, ◌^◌, ◌≤◌, ◌<◌}
use mathlib.Core.Path.{◌≡◌, refl, ap, sym, ◌∙◌}
use mathlib.Core.List.{List, [], ◌∷◌, ◌++◌}
use mathlib.Core.Bool.{true, false, true≢false}
use native.Mathlib.Omega.{arith}
use lib.ListN.{length, take, length-take, length-drop}
use lib.Seq.{take-length}
use lib.Dec.{ltb, eqb}
use borrow.Author.Tests.{ltb-false, eqb-true}
use Rattle.words.specs.Choice.{both}
use Rattle.words.specs.Numbers.{number_at, bytes_of, Bytes}
use Rattle.words.specs.Splices.{part}
use Rattle.words.proofs.Laws.{number_lt, bytes_back, part_one, part_step, part_bytes, picked, true_both, never}
use Rattle.key.specs.Keys.{key_at, data_at, data_bytes, well_key, is_data, KeyFits}
use Rattle.key.specs.declared.Key.{Key}
use Rattle.key.proofs.Laws.{key_same, key_well, key_fits, data_same, data_fits}
use Rattle.value.specs.Values.{value_at, value_bytes, well_value, ValueFits}
use Rattle.value.specs.declared.Value.{Value}
use Rattle.value.proofs.Same.{ValueThere, value_same}
use Rattle.std.specs.Result.{result_ok}
use Rattle.std.proofs.lemmas.Option.{some_pair_parts}
use Rattle.entry.specs.Entries.{Reading, ends_with, add_tree_key, add_tree_at, add_deferred_key, add_deferred_at, pair_of_slots, evict_deferred_at, record_at, absent_at, empty_at, entry_of, head_of, read_by, reading_of, read_entry, entry_tag, entry_body, entry_bytes, well_entry}
use Rattle.entry.specs.declared.Entry.{Entry}
use Rattle.entry.specs.declared.Entry.TheVariants.{AddTree, AddDeferred, EvictTree, EvictTreeDeferred, Get, Put, Advance, Close}
use Rattle.entry.specs.declared.Head.{Head}
use Rattle.std.specs.Prelude.{Option, Some, None, Ok}
use Rattle.entry.proofs.Laws.{HeadThere, head_there}
use Rattle.writer.specs.Writings.{EntryFits}

-- ---- the bodies

-- b is the body of the entry e, under the tag t
record BodyThere (t : ℕ) (b : List ℕ) (e : Entry) : Type 0 where
  tag : entry_tag e ≡ t
  body : entry_body e ≡ b
  well : well_entry e ≡ true
  fits : EntryFits e

there : {t : ℕ} {b : List ℕ} {d e : Entry} → BodyThere t b d → Some d ≡ Some e → BodyThere t b e
there {t} {b} {d} {e} h p = let q : d ≡ e = cc in rw q at h

module _ (b : List ℕ) (bytes : Bytes b) where
  -- the parts of a body make the body
  all : (n : ℕ) (x : List ℕ) → x ≡ part b 0 n → n ≡ length b → x ≡ b
  all n x p e = p ∙ rw e (take-length b)

  -- a slot or another number at a place
  number_same : (n at : ℕ) → at + n ≤ length b → bytes_of n (number_at n b at) ≡ part b at n
  number_same n at h = bytes_back n b at bytes h

  ends : {C : Type 0} (at : ℕ) (make : Value → Entry) (e : Entry) → ends_with b at make (value_at b at) ≡ Some e
      → ((x : Value) (n : ℕ) → ValueThere b at x n → at + n ≡ length b → Some (make x) ≡ Some e → C) → C
  ends {C} at make e p f = go (value_at b at) refl p
    where
      go : (r : Option (Value × ℕ)) → value_at b at ≡ r → ends_with b at make r ≡ Some e → C
      go None q u = never cc
      go (Some (x, n)) q u = picked (eqb (at + n) (length b)) _ _ _ u (λ t w. f x n (value_same b at bytes x n q) (eqb-true _ _ t) w) (λ _ w. never cc)

  add_tree_same : (e : Entry) → add_tree_at b ≡ Some e → BodyThere 1 b e
  unfolding add_tree_at entry_tag entry_body well_entry
  add_tree_same e p =
      picked (ltb (length b) 38) _ _ _ p (λ _ q. never cc) λ a q.
      let h : 38 ≤ length b = ltb-false _ _ a in
      go h (key_at b 4) refl q
    where
      go : 38 ≤ length b → (r : Option Key) → key_at b 4 ≡ r → add_tree_key b r ≡ Some e → BodyThere 1 b e
      go h None q u = never cc
      go h (Some k) q u = ends 38 (AddTree (number_at 2 b 0) (number_at 2 b 2) k) e u λ x n v l.
          there (record {
            tag = refl;
            body =
                all (38 + n) _
                (part_step b 0 2 2 (36 + n) (38 + n) _ _ (number_same 2 0 (omega arith))
                (part_step b 2 2 4 (34 + n) (36 + n) _ _ (number_same 2 2 (omega arith))
                (part_step b 4 34 38 n (34 + n) _ _ (key_same b 4 k q bytes (omega arith)) v.bytes refl refl)
                refl (omega arith))
                refl (omega arith))
                l;
            well = true_both (well_key k) (well_value x) (key_well b 4 k q) v.well;
            fits = (number_lt 2 b 0 bytes, (number_lt 2 b 2 bytes, (key_fits b 4 k q bytes, v.fits)));
          })

  add_deferred_same : (e : Entry) → add_deferred_at b ≡ Some e → BodyThere 2 b e
  unfolding add_deferred_at entry_tag entry_body well_entry
  add_deferred_same e p =
      picked (ltb (length b) 52) _ _ _ p (λ _ q. never cc) λ a q.
      let h : 52 ≤ length b = ltb-false _ _ a in
      go h (key_at b 18) refl q
    where
      go : 52 ≤ length b → (r : Option Key) → key_at b 18 ≡ r → add_deferred_key b r ≡ Some e → BodyThere 2 b e
      go h None q u = never cc
      go h (Some k) q u = ends 52 (AddDeferred (number_at 2 b 0) (record { 0 = number_at 8 b 2 }) (record { 0 = number_at 8 b 10 }) k) e u λ x n v l.
          there (record {
            tag = refl;
            body =
                all (52 + n) _
                (part_step b 0 2 2 (50 + n) (52 + n) _ _ (number_same 2 0 (omega arith))
                (part_step b 2 8 10 (42 + n) (50 + n) _ _ (number_same 8 2 (omega arith))
                (part_step b 10 8 18 (34 + n) (42 + n) _ _ (number_same 8 10 (omega arith))
                (part_step b 18 34 52 n (34 + n) _ _ (key_same b 18 k q bytes (omega arith)) v.bytes refl refl)
                refl (omega arith))
                refl (omega arith))
                refl (omega arith))
                l;
            well = true_both (well_key k) (well_value x) (key_well b 18 k q) v.well;
            fits = (number_lt 2 b 0 bytes, (number_lt 8 b 2 bytes, (number_lt 8 b 10 bytes, (key_fits b 18 k q bytes, v.fits))));
          })

  -- the two entries of two slots, and the two of a record, differ in their tags alone
  slots_same : (t : ℕ) (make : ℕ → ℕ → Entry) (e : Entry) → pair_of_slots b make ≡ Some e
      → ((s p : ℕ) → s < 2 ^ 16 → p < 2 ^ 16 → bytes_of 2 s ++ bytes_of 2 p ≡ b → BodyThere t b (make s p)) → BodyThere t b e
  unfolding pair_of_slots
  slots_same t make e p f =
      picked (eqb (length b) 4) _ _ _ p
      (λ a q. let h : length b ≡ 4 = eqb-true _ _ a in
      there
      (f (number_at 2 b 0) (number_at 2 b 2) (number_lt 2 b 0 bytes) (number_lt 2 b 2 bytes)
      (all 4 _ (part_step b 0 2 2 2 4 _ _ (number_same 2 0 (omega arith)) (number_same 2 2 (omega arith)) refl refl) (sym h)))
      q)
      (λ _ q. never cc)

  evict_deferred_same : (e : Entry) → evict_deferred_at b ≡ Some e → BodyThere 4 b e
  unfolding evict_deferred_at entry_tag entry_body well_entry
  evict_deferred_same e p =
      picked (eqb (length b) 2) _ _ _ p
      (λ a q. let h : length b ≡ 2 = eqb-true _ _ a in
      there (record { tag = refl; body = all 2 _ (number_same 2 0 (omega arith)) (sym h); well = refl; fits = number_lt 2 b 0 bytes }) q)
      (λ _ q. never cc)

  data_is : (at : ℕ) → is_data (data_at b at) ≡ true
  unfolding data_at
  data_is at = refl

  record_same : (t : ℕ) (make : ℕ → Key → Value → Entry) (e : Entry) → record_at b make ≡ Some e
      → ((s : ℕ) (k : Key) (x : Value) → s < 2 ^ 16 → KeyFits k → ValueFits x → both (is_data k) (well_value x) ≡ true
      → bytes_of 2 s ++ (data_bytes k ++ value_bytes x) ≡ b → BodyThere t b (make s k x))
      → BodyThere t b e
  unfolding record_at
  record_same t make e p f =
      picked (ltb (length b) 34) _ _ _ p (λ _ q. never cc) λ a q.
      let h : 34 ≤ length b = ltb-false _ _ a in
      ends 34 (make (number_at 2 b 0) (data_at b 2)) e q λ x n v l.
      there
      (f (number_at 2 b 0) (data_at b 2) x (number_lt 2 b 0 bytes) (data_fits b 2 bytes) v.fits (true_both (is_data (data_at b 2)) (well_value x) (data_is 2) v.well)
      (all (34 + n) _
      (part_step b 0 2 2 (32 + n) (34 + n) _ _ (number_same 2 0 (omega arith)) (part_step b 2 32 34 n (32 + n) _ _ (data_same b 2 bytes (omega arith)) v.bytes refl refl)
      refl (omega arith))
      l))

  absent_same : (e : Entry) → absent_at b ≡ Some e → BodyThere 7 b e
  unfolding absent_at entry_tag entry_body well_entry
  absent_same e p =
      picked (eqb (length b) 34) _ _ _ p
      (λ a q. let h : length b ≡ 34 = eqb-true _ _ a in
      there
      (record {
        tag = refl;
        body = all 34 _ (part_step b 0 2 2 32 34 _ _ (number_same 2 0 (omega arith)) (data_same b 2 bytes (omega arith)) refl refl) (sym h);
        well = data_is 2;
        fits = (number_lt 2 b 0 bytes, data_fits b 2 bytes);
      })
      q)
      (λ _ q. never cc)

  empty_same : (t : ℕ) (d e : Entry) → empty_at b d ≡ Some e → ([] ≡ b → BodyThere t b d) → BodyThere t b e
  unfolding empty_at
  empty_same t d e p f =
      picked (eqb (length b) 0) _ _ _ p
      (λ a q. let h : length b ≡ 0 = eqb-true _ _ a in there (f (all 0 [] refl (sym h))) q)
      (λ _ q. never cc)

  body_same : (t : ℕ) (e : Entry) → entry_of t b ≡ Some e → BodyThere t b e
  unfolding entry_of entry_tag entry_body well_entry
  body_same t e p =
      picked (eqb t 1) _ _ _ p (λ a q. retag 1 a (add_tree_same e q)) λ _ p.
      picked (eqb t 2) _ _ _ p (λ a q. retag 2 a (add_deferred_same e q)) λ _ p.
      picked (eqb t 3) _ _ _ p (λ a q. retag 3 a (slots_same 3 EvictTree e q λ s p hs hp l. record { tag = refl; body = l; well = refl; fits = (hs, hp) })) λ _ p.
      picked (eqb t 4) _ _ _ p (λ a q. retag 4 a (evict_deferred_same e q)) λ _ p.
      picked (eqb t 5) _ _ _ p (λ a q. retag 5 a (slots_same 5 EvictTreeDeferred e q λ s p hs hp l. record { tag = refl; body = l; well = refl; fits = (hs, hp) })) λ _ p.
      picked (eqb t 6) _ _ _ p (λ a q. retag 6 a (record_same 6 Get e q λ s k x hs fk fx w l. record { tag = refl; body = l; well = w; fits = (hs, (fk, fx)) })) λ _ p.
      picked (eqb t 7) _ _ _ p (λ a q. retag 7 a (absent_same e q)) λ _ p.
      picked (eqb t 8) _ _ _ p (λ a q. retag 8 a (record_same 8 Put e q λ s k x hs fk fx w l. record { tag = refl; body = l; well = w; fits = (hs, (fk, fx)) })) λ _ p.
      picked (eqb t 9) _ _ _ p (λ a q. retag 9 a (empty_same 9 Advance e q λ l. record { tag = refl; body = l; well = refl; fits = tt })) λ _ p.
      picked (eqb t 10) _ _ _ p (λ a q. retag 10 a (empty_same 10 Close e q λ l. record { tag = refl; body = l; well = refl; fits = tt })) λ _ p. never cc
    where
      retag : (n : ℕ) → eqb t n ≡ true → BodyThere n b e → BodyThere t b e
      retag n a h = rw (eqb-true t n a) h

-- ---- the whole entry

ok_parts : {d e : Entry} {m n : ℕ} → ◌≡◌ {A = Reading} (Ok (d, m)) (Ok (e, n)) → (d ≡ e) × (m ≡ n)
ok_parts {d} {e} {m} {n} p = let q = some_pair_parts d e m n (ap result_ok p) in q

-- the n bytes at the start of a log are those of the entry e
pub record EntryThere (log : List ℕ) (e : Entry) (n : ℕ) : Type 0 where
  pub bytes : entry_bytes e ≡ take n log
  pub well : well_entry e ≡ true
  pub fits : EntryFits e
  pub within : n ≤ length log

module _ (log : List ℕ) (b : Bytes log) where
  whole_same : (t m : ℕ) (e : Entry) → HeadThere log t m → BodyThere t (part log 3 m) e → EntryThere log e (3 + m)
  unfolding entry_bytes
  whole_same t m e h there =
      let l : length (part log 3 m) ≡ m = simp (length-take, length-drop) (omega (arith, h.whole)) in
      record {
        bytes =
            rw (there.tag, there.body, l)
            (part_step log 0 1 1 (2 + m) (3 + m) (t ∷ []) _ (sym (part_one log 0 (omega (arith, h.whole)) ∙ rw h.tag))
            (part_step log 1 2 3 m (2 + m) (bytes_of 2 m) _ (rw (← h.len) (bytes_back 2 log 1 b (omega (arith, h.whole)))) refl refl refl)
            refl (omega arith));
        well = there.well;
        fits = there.fits;
        within = h.whole;
      }

  -- what is read as an entry is written as the same bytes
  pub entry_same : (e : Entry) (n : ℕ) → read_entry log ≡ Ok (e, n) → EntryThere log e n
  unfolding read_entry
  entry_same e n p = go (head_of log) refl p
    where
      body : (t m : ℕ) → HeadThere log t m → (r : Option Entry) → entry_of t (part log 3 m) ≡ r → reading_of (3 + m) r ≡ Ok (e, n) → EntryThere log e n
      body t m h None q u = never cc
      body t m h (Some d) q u =
          let same = ok_parts u in
          rw (← same.0, ← same.1) (whole_same t m d h (body_same (part log 3 m) (part_bytes log 3 m b) t d q))

      go : (h : Option Head) → head_of log ≡ h → read_by log h ≡ Ok (e, n) → EntryThere log e n
      go None q u = never cc
      go (Some h) q u = body h.tag h.len (head_there log h.tag h.len q) (entry_of h.tag (part log 3 h.len)) refl u

  -- an entry that is not well formed is read from no bytes at all, its own among them
  pub not_well_lem : (e : Entry) (n : ℕ) → well_entry e ≡ false → read_entry log ≡ Ok (e, n) → ⊥
  not_well_lem e n w p = true≢false (sym (entry_same e n p).well ∙ w)

-- no two byte strings mean one entry: what two logs use for it is the same
pub one_writing : (x y : List ℕ) → Bytes x → Bytes y → (e : Entry) (m n : ℕ) → read_entry x ≡ Ok (e, m) → read_entry y ≡ Ok (e, n)
    → take m x ≡ take n y
one_writing x y bx by e m n p q = sym (entry_same x bx e m p).bytes ∙ (entry_same y by e n q).bytes
