-- What is read as a value is written as the same bytes, is well formed, and its numbers fit their fields. Assumes nothing.
use Prim.Native.Nat.{ℕ, zero, suc, ◌+◌, ◌-◌, ◌≤◌, ◌<◌}
use mathlib.Core.Path.{◌≡◌, refl, sym, ◌∙◌}
use mathlib.Core.List.{List, [], ◌∷◌}
use mathlib.Core.Bool.{true}
use native.Mathlib.Omega.{arith}
use lib.ListN.{get_or, length}
use lib.Dec.{leb, ltb, eqb}
use borrow.Author.Tests.{lt-ltb, leb-true, leb-false, ltb-false, eqb-true, eqb-false}
use Rattle.std.specs.Prelude.{Option, Some, None}
use Rattle.words.specs.Numbers.{Bytes}
use Rattle.words.specs.Splices.{part}
use Rattle.words.proofs.Laws.{four_back, number_lt, part_one, part_step, picked, true_both, never}
use Rattle.key.specs.Keys.{key_at, key_bytes, well_key}
use Rattle.key.specs.declared.Key.{Key}
use Rattle.key.proofs.Laws.{key_same, key_well, key_fits}
use Rattle.value.specs.Values.{digest_at, digest_bytes, mark_byte, link_of, link_at, link_bytes, side_at, side_bytes, node_end, node_then, node_at, node_bytes, fingerprint_at, fingerprint_bytes, value_at, value_bytes, well_side, well_value, DigestFits, SideFits, ValueFits}
use Rattle.value.proofs.Laws.{read_alike}
use Rattle.value.specs.declared.Side.{Side}
use Rattle.value.specs.declared.Side.TheVariants.{Empty, Link}
use Rattle.value.specs.declared.Value.{Value}
use Rattle.value.specs.declared.Value.TheVariants as v

-- a side stands at a place, in n bytes
pub record SideThere (s : List ℕ) (at : ℕ) (x : Side) (n : ℕ) : Type 0 where
  pub bytes : side_bytes x ≡ part s at n
  pub well : well_side x ≡ true
  pub fits : SideFits x
  pub within : at + n ≤ length s

pub record ValueThere (s : List ℕ) (at : ℕ) (x : Value) (n : ℕ) : Type 0 where
  pub bytes : value_bytes x ≡ part s at n
  pub well : well_value x ≡ true
  pub fits : ValueFits x
  pub within : at + n ≤ length s

mark_same : (m : ℕ) → m ≤ 1 → mark_byte (eqb m 1) ≡ m
mark_same zero h = refl
mark_same (suc zero) h = refl
mark_same (suc (suc m)) h = absurd (omega arith)

module _ (s : List ℕ) (at : ℕ) (b : Bytes s) where
  pub digest_same : at + 32 ≤ length s → digest_bytes (digest_at s at) ≡ part s at 32
  unfolding digest_bytes digest_at
  digest_same h = four_back s at b h

  pub digest_fits : DigestFits (digest_at s at)
  unfolding digest_at
  digest_fits = record { d0 = number_lt 8 s at b; d1 = number_lt 8 s (at + 8) b; d2 = number_lt 8 s (at + 16) b; d3 = number_lt 8 s (at + 24) b }

  tag_same : (t : ℕ) → at < length s → get_or s at 0 ≡ t → t ∷ [] ≡ part s at 1
  tag_same t h e = sym (part_one s at h ∙ rw e)

module _ (s : List ℕ) (at : ℕ) (b : Bytes s) where
  link_there : (k : Key) → key_at s (at + 1) ≡ Some k → (k.len ≡ 0 → ⊥) → get_or s (at + 67) 0 ≤ 1 → at + 68 ≤ length s → get_or s at 0 ≡ 1
      → SideThere s at (Link k (digest_at s (at + 35)) (eqb (get_or s (at + 67) 0) 1)) 68
  unfolding side_bytes link_bytes well_side
  link_there k e z m h g =
      record {
        bytes =
            part_step s at 1 (at + 1) 67 68 (1 ∷ []) _ (tag_same s at b 1 (omega arith) g)
            (part_step s (at + 1) 34 (at + 35) 33 67 (key_bytes k) _ (key_same s (at + 1) k e b (omega arith))
            (part_step s (at + 35) 32 (at + 67) 1 33 (digest_bytes (digest_at s (at + 35))) _ (digest_same s (at + 35) b (omega arith))
            (tag_same s (at + 67) b _ (omega arith) (sym (mark_same (get_or s (at + 67) 0) m)))
            (omega arith) refl)
            (omega arith) refl)
            refl refl;
        well = true_both (well_key k) (ltb 0 k.len) (key_well s (at + 1) k e) (lt-ltb 0 k.len (omega arith));
        fits = (key_fits s (at + 1) k e b, digest_fits s (at + 35) b);
        within = h;
      }

  side_moved : (x y : Side) (n m : ℕ) → SideThere s at x n → ◌≡◌ {A = Option (Side × ℕ)} (Some (x, n)) (Some (y, m)) → SideThere s at y m
  side_moved x y n m t e = let p = read_alike x y n m e in rw p.0 at (rw p.1 at t)

  link_same : (x : Side) (n : ℕ) → at + 68 ≤ length s → get_or s at 0 ≡ 1 → link_at s at ≡ Some (x, n) → SideThere s at x n
  unfolding link_at
  link_same x n h g e = go (key_at s (at + 1)) refl e
    where
      go : (r : Option Key) → key_at s (at + 1) ≡ r → link_of r (digest_at s (at + 35)) (get_or s (at + 67) 0) ≡ Some (x, n) → SideThere s at x n
      go None k q = never cc
      go (Some k) f q =
          picked (eqb k.len 0) _ _ _ q (λ _ u. never cc) λ z u.
          picked (ltb 1 (get_or s (at + 67) 0)) _ _ _ u (λ _ w. never cc) λ m w.
          side_moved _ x _ n (link_there k f (eqb-false _ _ z) (ltb-false _ _ m) h g) w

  pub side_same : (x : Side) (n : ℕ) → side_at s at ≡ Some (x, n) → SideThere s at x n
  unfolding side_at side_bytes well_side
  side_same x n e =
      picked (leb (length s) at) _ _ _ e (λ _ q. never cc) λ a q.
      let h : at < length s = leb-false _ _ a in
      picked (eqb (get_or s at 0) 0) _ _ _ q
      (λ t u. side_moved Empty x 1 n (record { bytes = tag_same s at b 0 h (eqb-true _ _ t); well = refl; fits = tt; within = omega arith }) u)
      λ _ u. picked (eqb (get_or s at 0) 1) _ _ _ u
      (λ t w. picked (leb 68 (length s - at)) _ _ _ w (λ l z. link_same x n (omega (arith, leb-true 68 (length s - at) l)) (eqb-true _ _ t) z) (λ _ z. never cc))
      (λ _ w. never cc)

module _ (s : List ℕ) (at : ℕ) (b : Bytes s) where
  value_moved : (x y : Value) (n m : ℕ) → ValueThere s at x n → ◌≡◌ {A = Option (Value × ℕ)} (Some (x, n)) (Some (y, m)) → ValueThere s at y m
  value_moved x y n m t e = let p = read_alike x y n m e in rw p.0 at (rw p.1 at t)

  fingerprint_same : (x : Value) (n : ℕ) → get_or s at 0 ≡ 1 → fingerprint_at s at ≡ Some (x, n) → ValueThere s at x n
  unfolding fingerprint_at value_bytes fingerprint_bytes well_value
  fingerprint_same x n g e =
      picked (leb 33 (length s - at)) _ _ _ e
      (λ l q. let h : at + 33 ≤ length s = omega (arith, leb-true 33 (length s - at) l) in
      value_moved (v.Fingerprint (digest_at s (at + 1))) x 33 n
      (record {
        bytes = part_step s at 1 (at + 1) 32 33 (1 ∷ []) _ (tag_same s at b 1 (omega arith) g) (digest_same s (at + 1) b (omega arith)) refl refl;
        well = refl;
        fits = digest_fits s (at + 1) b;
        within = h;
      })
      q)
      (λ _ q. never cc)

  node_there : (l r : Side) (m n : ℕ) → at < length s → get_or s at 0 ≡ 2 → SideThere s (at + 1) l m → SideThere s (at + 1 + m) r n
      → ValueThere s at (v.Node (record { left = l; right = r })) (1 + m + n)
  unfolding value_bytes node_bytes well_value
  node_there l r m n h g x y =
      record {
        bytes =
            part_step s at 1 (at + 1) (m + n) (1 + m + n) (2 ∷ []) _ (tag_same s at b 2 h g)
            (part_step s (at + 1) m (at + 1 + m) n (m + n) (side_bytes l) (side_bytes r) x.bytes y.bytes refl refl)
            refl (omega arith);
        well = true_both (well_side l) (well_side r) x.well y.well;
        fits = (x.fits, y.fits);
        within = omega (arith, y.within);
      }

  node_same : (x : Value) (n : ℕ) → at < length s → get_or s at 0 ≡ 2 → node_at s at ≡ Some (x, n) → ValueThere s at x n
  unfolding node_at
  node_same x n h g e = left (side_at s (at + 1)) refl e
    where
      right : (l : Side) (m : ℕ) → SideThere s (at + 1) l m → (r : Option (Side × ℕ)) → side_at s (at + 1 + m) ≡ r → node_end l m r ≡ Some (x, n) → ValueThere s at x n
      right l m t None q u = never cc
      right l m t (Some (r, j)) q u = value_moved _ x _ n (node_there l r m j h g t (side_same s (at + 1 + m) b r j q)) u

      left : (l : Option (Side × ℕ)) → side_at s (at + 1) ≡ l → node_then s at l ≡ Some (x, n) → ValueThere s at x n
      left None q u = never cc
      left (Some (l, m)) q u = right l m (side_same s (at + 1) b l m q) (side_at s (at + 1 + m)) refl u

  pub value_same : (x : Value) (n : ℕ) → value_at s at ≡ Some (x, n) → ValueThere s at x n
  unfolding value_at value_bytes well_value
  value_same x n e =
      picked (leb (length s) at) _ _ _ e (λ _ q. never cc) λ a q.
      let h : at < length s = leb-false _ _ a in
      picked (eqb (get_or s at 0) 0) _ _ _ q
      (λ t u. value_moved v.None x 1 n (record { bytes = tag_same s at b 0 h (eqb-true _ _ t); well = refl; fits = tt; within = omega arith }) u)
      λ _ u. picked (eqb (get_or s at 0) 1) _ _ _ u (λ t w. fingerprint_same x n (eqb-true _ _ t) w)
      λ _ w. picked (eqb (get_or s at 0) 2) _ _ _ w (λ t z. node_same x n h (eqb-true _ _ t) z) (λ _ z. never cc)
