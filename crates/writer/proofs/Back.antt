-- What is written as an entry is read as that entry, whatever follows it. Assumes nothing.
use Prim.Native.Nat.{ℕ, ◌+◌, ◌-◌, ◌^◌, ◌<◌}
use mathlib.Core.Path.{◌≡◌, refl, ap, sym, ◌∙◌}
use mathlib.Core.List.{List, [], ◌∷◌, ◌++◌, append_assoc, append-nil}
use mathlib.Core.Bool.{true}
use native.Mathlib.Omega.{arith}
use lib.ListN.{length, take, drop, length-append}
use lib.Seq.{take_at, drop_at}
use borrow.Author.Tests.{le-ltb, eq-eqb}
use Rattle.words.specs.Numbers.{number_at, bytes_of}
use Rattle.words.specs.Splices.{part}
use Rattle.words.proofs.Laws.{bytes_length, number_at_lem, both_true}
use Rattle.key.specs.Keys.{key_at, key_bytes, data_at, data_bytes, well_key, is_data, KeyFits}
use Rattle.key.specs.declared.Key.{Key}
use Rattle.key.proofs.Laws.{key_back, key_length, data_back, data_ext, data_length}
use Rattle.value.specs.Values.{value_at, value_bytes, well_value, ValueFits}
use Rattle.value.specs.declared.Value.{Value}
use Rattle.value.proofs.Back.{value_back}
use Rattle.message.specs.declared.Epoch.{Epoch}
use Rattle.message.specs.declared.Time.{Time}
use Rattle.entry.specs.Entries.{add_tree_at, add_deferred_at, pair_of_slots, evict_deferred_at, record_at, absent_at, empty_at, ends_with, entry_of, head_of, reading_of, read_entry, entry_tag, entry_body, entry_bytes, well_entry}
use Rattle.entry.specs.declared.Entry.{Entry}
use Rattle.entry.specs.declared.Entry.TheVariants.{AddTree, AddDeferred, EvictTree, EvictDeferred, EvictTreeDeferred, Get, Absent, Put, Advance, Close}
use Rattle.std.specs.Prelude.{Some, Ok}
use Rattle.writer.specs.Writings.{EntryFits}
use Rattle.writer.proofs.Laws.{body_length_lem, body_small, entry_length}

-- ---- the head

-- a body with its head, and what follows
framed : ℕ → List ℕ → List ℕ → List ℕ
framed t b r = (t ∷ []) ++ (bytes_of 2 (length b) ++ (b ++ r))

module _ (t : ℕ) (b r : List ℕ) (small : length b < 2 ^ 16) where
  head_back : head_of (framed t b r) ≡ Some (record { tag = t; len = length b })
  unfolding head_of framed
  head_back =
      let n : number_at 2 (framed t b r) 1 ≡ length b = number_at_lem 2 (length b) 1 (t ∷ []) (b ++ r) refl small in
      let l : length (framed t b r) ≡ 3 + (length b + length r) = simp (length-append, bytes_length) (omega arith) in
      rw (n, l, le-ltb (3 + (length b + length r)) 3 (omega arith), le-ltb (3 + (length b + length r) - 3) (length b) (omega arith))

  body_back : part (framed t b r) 3 (length b) ≡ b
  unfolding framed
  body_back =
      ap (take (length b)) (ap (drop 3) (sym (append_assoc (t ∷ []) (bytes_of 2 (length b)) (b ++ r))) ∙ drop_at ((t ∷ []) ++ bytes_of 2 (length b)) (b ++ r) 3 (simp bytes_length))
      ∙ take_at b r (length b) refl

  framed_back : read_entry (framed t b r) ≡ reading_of (3 + length b) (entry_of t b)
  unfolding read_entry
  framed_back = rw (head_back, body_back)

-- ---- the bodies

-- a value that ends with all
value_last : (at : ℕ) (p : List ℕ) (x : Value) → length p ≡ at → ValueFits x → well_value x ≡ true → value_at (p ++ value_bytes x) at ≡ Some (x, length (value_bytes x))
value_last at p x e f w = ap (λ (l : List ℕ). value_at (p ++ l) at) (sym (append-nil (value_bytes x))) ∙ value_back at p [] e x f w

ends_row : (b : List ℕ) (at : ℕ) (make : Value → Entry) (x : Value) (n : ℕ) → value_at b at ≡ Some (x, n) → at + n ≡ length b
    → ends_with b at make (value_at b at) ≡ Some (make x)
ends_row b at make x n v e = rw (v, eq-eqb (at + n) (length b) e)

module _ (s p : ℕ) (hs : s < 2 ^ 16) (hp : p < 2 ^ 16) (k : Key) (x : Value) (fk : KeyFits k) (fx : ValueFits x) (wk : well_key k ≡ true) (wx : well_value x ≡ true) where
  add_tree_back : add_tree_at (entry_body (AddTree s p k x)) ≡ Some (AddTree s p k x)
  unfolding add_tree_at entry_body
  add_tree_back =
      let b = bytes_of 2 s ++ (bytes_of 2 p ++ (key_bytes k ++ value_bytes x)) in
      let n = length (value_bytes x) in
      let l : length b ≡ 38 + n = body_length_lem (AddTree s p k x) in
      let ps : number_at 2 b 0 ≡ s = number_at_lem 2 s 0 [] (bytes_of 2 p ++ (key_bytes k ++ value_bytes x)) refl hs in
      let pp : number_at 2 b 2 ≡ p = number_at_lem 2 p 2 (bytes_of 2 s) (key_bytes k ++ value_bytes x) (bytes_length 2 s) hp in
      let pk : key_at b 4 ≡ Some k
      = ap (λ (l : List ℕ). key_at l 4) (simp append_assoc) ∙ key_back k fk 4 (bytes_of 2 s ++ bytes_of 2 p) (value_bytes x) (simp (length-append, bytes_length)) wk in
      let px : value_at b 38 ≡ Some (x, n)
      = ap (λ (l : List ℕ). value_at l 38) (simp append_assoc)
      ∙ value_last 38 (bytes_of 2 s ++ (bytes_of 2 p ++ key_bytes k)) x (simp (length-append, bytes_length, key_length)) fx wx in
      rw (le-ltb (length b) 38 (omega arith), pk, ps, pp) (ends_row b 38 (AddTree s p k) x n px (sym l))

module _ (s : ℕ) (e : Epoch) (t : Time) (hs : s < 2 ^ 16) (he : e.0 < 2 ^ 64) (ht : t.0 < 2 ^ 64) (k : Key) (x : Value) (fk : KeyFits k) (fx : ValueFits x) (wk : well_key k ≡ true) (wx : well_value x ≡ true) where
  add_deferred_back : add_deferred_at (entry_body (AddDeferred s e t k x)) ≡ Some (AddDeferred s e t k x)
  unfolding add_deferred_at entry_body
  add_deferred_back =
      let b = bytes_of 2 s ++ (bytes_of 8 e.0 ++ (bytes_of 8 t.0 ++ (key_bytes k ++ value_bytes x))) in
      let n = length (value_bytes x) in
      let l : length b ≡ 52 + n = body_length_lem (AddDeferred s e t k x) in
      let ps : number_at 2 b 0 ≡ s = number_at_lem 2 s 0 [] (bytes_of 8 e.0 ++ (bytes_of 8 t.0 ++ (key_bytes k ++ value_bytes x))) refl hs in
      let pe : number_at 8 b 2 ≡ e.0 = number_at_lem 8 e.0 2 (bytes_of 2 s) (bytes_of 8 t.0 ++ (key_bytes k ++ value_bytes x)) (bytes_length 2 s) he in
      let pt : number_at 8 b 10 ≡ t.0
      = ap (λ (l : List ℕ). number_at 8 l 10) (simp append_assoc)
      ∙ number_at_lem 8 t.0 10 (bytes_of 2 s ++ bytes_of 8 e.0) (key_bytes k ++ value_bytes x) (simp (length-append, bytes_length)) ht in
      let pk : key_at b 18 ≡ Some k
      = ap (λ (l : List ℕ). key_at l 18) (simp append_assoc)
      ∙ key_back k fk 18 (bytes_of 2 s ++ (bytes_of 8 e.0 ++ bytes_of 8 t.0)) (value_bytes x) (simp (length-append, bytes_length)) wk in
      let px : value_at b 52 ≡ Some (x, n)
      = ap (λ (l : List ℕ). value_at l 52) (simp append_assoc)
      ∙ value_last 52 (bytes_of 2 s ++ (bytes_of 8 e.0 ++ (bytes_of 8 t.0 ++ key_bytes k))) x (simp (length-append, bytes_length, key_length)) fx wx in
      rw (le-ltb (length b) 52 (omega arith), pk, ps, pe, pt) (ends_row b 52 (AddDeferred s e t k) x n px (sym l))

pair_of_slots_back : (s p : ℕ) → s < 2 ^ 16 → p < 2 ^ 16 → (make : ℕ → ℕ → Entry) → pair_of_slots (bytes_of 2 s ++ bytes_of 2 p) make ≡ Some (make s p)
unfolding pair_of_slots
pair_of_slots_back s p hs hp make =
    let b = bytes_of 2 s ++ bytes_of 2 p in
    let ps : number_at 2 b 0 ≡ s = number_at_lem 2 s 0 [] (bytes_of 2 p) refl hs in
    let pp : number_at 2 b 2 ≡ p
    = ap (λ (l : List ℕ). number_at 2 (bytes_of 2 s ++ l) 2) (sym (append-nil (bytes_of 2 p))) ∙ number_at_lem 2 p 2 (bytes_of 2 s) [] (bytes_length 2 s) hp in
    rw (eq-eqb (length b) 4 (simp (length-append, bytes_length)), ps, pp)

record_back : (s : ℕ) (k : Key) (x : Value) → s < 2 ^ 16 → KeyFits k → ValueFits x → is_data k ≡ true → well_value x ≡ true → (make : ℕ → Key → Value → Entry)
    → record_at (bytes_of 2 s ++ (data_bytes k ++ value_bytes x)) make ≡ Some (make s k x)
unfolding record_at
record_back s k x hs fk fx wk wx make =
    let b = bytes_of 2 s ++ (data_bytes k ++ value_bytes x) in
    let n = length (value_bytes x) in
    let l : length b ≡ 34 + n = simp (length-append, bytes_length, data_length) (omega arith) in
    let ps : number_at 2 b 0 ≡ s = number_at_lem 2 s 0 [] (data_bytes k ++ value_bytes x) refl hs in
    let pk : data_at b 2 ≡ k = data_back k fk 2 (bytes_of 2 s) (value_bytes x) (bytes_length 2 s) ∙ data_ext k wk in
    let px : value_at b 34 ≡ Some (x, n)
    = ap (λ (l : List ℕ). value_at l 34) (simp append_assoc)
    ∙ value_last 34 (bytes_of 2 s ++ data_bytes k) x (simp (length-append, bytes_length, data_length)) fx wx in
    rw (le-ltb (length b) 34 (omega arith), pk, ps) (ends_row b 34 (make s k) x n px (sym l))

absent_back : (p : ℕ) (k : Key) → p < 2 ^ 16 → KeyFits k → is_data k ≡ true → absent_at (bytes_of 2 p ++ data_bytes k) ≡ Some (Absent p k)
unfolding absent_at
absent_back p k hp fk wk =
    let b = bytes_of 2 p ++ data_bytes k in
    let pp : number_at 2 b 0 ≡ p = number_at_lem 2 p 0 [] (data_bytes k) refl hp in
    let pk : data_at b 2 ≡ k
    = ap (λ (l : List ℕ). data_at (bytes_of 2 p ++ l) 2) (sym (append-nil (data_bytes k))) ∙ data_back k fk 2 (bytes_of 2 p) [] (bytes_length 2 p) ∙ data_ext k wk in
    rw (eq-eqb (length b) 34 (simp (length-append, bytes_length, data_length)), pp, pk)

evict_deferred_back : (s : ℕ) → s < 2 ^ 16 → evict_deferred_at (bytes_of 2 s) ≡ Some (EvictDeferred s)
unfolding evict_deferred_at
evict_deferred_back s hs =
    let ps : number_at 2 (bytes_of 2 s) 0 ≡ s = ap (λ (l : List ℕ). number_at 2 l 0) (sym (append-nil (bytes_of 2 s))) ∙ number_at_lem 2 s 0 [] [] refl hs in
    rw (eq-eqb (length (bytes_of 2 s)) 2 (bytes_length 2 s), ps)

pub body_read : (e : Entry) → EntryFits e → well_entry e ≡ true → entry_of (entry_tag e) (entry_body e) ≡ Some e
unfolding entry_of entry_tag entry_body empty_at well_entry
body_read (AddTree s p k x) f w = let b = both_true (well_key k) (well_value x) w in add_tree_back s p f.0 f.1.0 k x f.1.1.0 f.1.1.1 b.0 b.1
body_read (AddDeferred s e t k x) f w =
    let b = both_true (well_key k) (well_value x) w in
    add_deferred_back s e t f.0 f.1.0 f.1.1.0 k x f.1.1.1.0 f.1.1.1.1 b.0 b.1
body_read (EvictTree s p) f w = pair_of_slots_back s p f.0 f.1 EvictTree
body_read (EvictDeferred s) f w = evict_deferred_back s f
body_read (EvictTreeDeferred s p) f w = pair_of_slots_back s p f.0 f.1 EvictTreeDeferred
body_read (Get s k x) f w = let b = both_true (is_data k) (well_value x) w in record_back s k x f.0 f.1.0 f.1.1 b.0 b.1 Get
body_read (Absent p k) f w = absent_back p k f.0 f.1 w
body_read (Put s k x) f w = let b = both_true (is_data k) (well_value x) w in record_back s k x f.0 f.1.0 f.1.1 b.0 b.1 Put
body_read Advance f w = refl
body_read Close f w = refl

entry_framed : (e : Entry) (r : List ℕ) → entry_bytes e ++ r ≡ framed (entry_tag e) (entry_body e) r
unfolding entry_bytes framed
entry_framed e r = simp append_assoc

-- what is written as an entry is read as that entry, and all its bytes are used, whatever follows
pub entry_back : (e : Entry) → EntryFits e → well_entry e ≡ true → (r : List ℕ) → read_entry (entry_bytes e ++ r) ≡ Ok (e, length (entry_bytes e))
entry_back e f w r =
    ap read_entry (entry_framed e r) ∙ framed_back (entry_tag e) (entry_body e) r (omega (arith, body_small e)) ∙ rw (body_read e f w, entry_length e)
