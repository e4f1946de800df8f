-- What is written as a value is read as that value, wherever it stands and whatever follows. Assumes nothing.
use Prim.Native.Nat.{ℕ, ◌+◌, ◌-◌, ◌≤◌, ◌<◌}
use mathlib.Core.Path.{◌≡◌, refl, ap, sym, ◌∙◌}
use mathlib.Core.List.{List, [], ◌∷◌, ◌++◌, append_assoc}
use mathlib.Core.Bool.{Bool, true, false}
use native.Mathlib.Omega.{arith}
use lib.ListN.{get_or, length, length-append}
use lib.Seq.{get_or_at}
use lib.Dec.{ltb}
use borrow.Author.Tests.{lt-leb, le-leb, ne_eqb, ltb-true}
use Rattle.std.specs.Prelude.{Option, Some}
use Rattle.words.proofs.Laws.{four_at_lem, both_true}
use Rattle.key.specs.Keys.{key_at, key_bytes, well_key, KeyFits}
use Rattle.key.specs.declared.Key.{Key}
use Rattle.key.proofs.Laws.{key_back, key_length}
use Rattle.value.specs.Values.{digest_at, digest_bytes, mark_byte, link_at, link_bytes, side_at, side_bytes, node_at, node_bytes, fingerprint_at, fingerprint_bytes, value_at, value_bytes, well_side, well_value, DigestFits, SideFits, ValueFits}
use Rattle.value.specs.declared.Digest.{Digest}
use Rattle.value.specs.declared.Side.{Side}
use Rattle.value.specs.declared.Side.TheVariants.{Empty, Link}
use Rattle.value.specs.declared.Value.{Value}
use Rattle.value.specs.declared.Value.TheVariants as v
use Rattle.value.proofs.Laws.{read_alike, digest_length, link_length, fingerprint_length, node_length}

-- ---- the readers' rows, over a place s at which the parts stand

module _ (s : List ℕ) (at : ℕ) where
  link_row : (k : Key) (d : Digest) (m : Bool) → key_at s (at + 1) ≡ Some k → digest_at s (at + 35) ≡ d → get_or s (at + 67) 0 ≡ mark_byte m
      → 0 < k.len → link_at s at ≡ Some (Link k d m, 68)
  unfolding link_at
  link_row k d true a b c h = simp (a, b, c, ne_eqb k.len 0 (λ e. omega arith))
  link_row k d false a b c h = simp (a, b, c, ne_eqb k.len 0 (λ e. omega arith))

  empty_row : at < length s → get_or s at 0 ≡ 0 → side_at s at ≡ Some (Empty, 1)
  unfolding side_at
  empty_row h g = simp (lt-leb (length s) at h, g)

  side_row : (x : Option (Side × ℕ)) → at + 68 ≤ length s → get_or s at 0 ≡ 1 → link_at s at ≡ x → side_at s at ≡ x
  unfolding side_at
  side_row x h g l = simp (lt-leb (length s) at (omega arith), g, le-leb 68 (length s - at) (omega arith), l)

  none_row : at < length s → get_or s at 0 ≡ 0 → value_at s at ≡ Some (v.None, 1)
  unfolding value_at
  none_row h g = simp (lt-leb (length s) at h, g)

  fingerprint_row : (d : Digest) → at + 33 ≤ length s → get_or s at 0 ≡ 1 → digest_at s (at + 1) ≡ d → value_at s at ≡ Some (v.Fingerprint d, 33)
  unfolding value_at fingerprint_at
  fingerprint_row d h g e = simp (lt-leb (length s) at (omega arith), g, le-leb 33 (length s - at) (omega arith), e)

  node_row : (x y : Side) (a b : ℕ) → at < length s → get_or s at 0 ≡ 2 → side_at s (at + 1) ≡ Some (x, a) → side_at s (at + 1 + a) ≡ Some (y, b)
      → value_at s at ≡ Some (v.Node (record { left = x; right = y }), 1 + a + b)
  unfolding value_at node_at
  node_row x y a b h g e f = simp (lt-leb (length s) at h, g, e, f)

-- ---- what is written

pub digest_back : (d : Digest) → DigestFits d → (at : ℕ) (p r : List ℕ) → length p ≡ at → digest_at (p ++ (digest_bytes d ++ r)) at ≡ d
unfolding digest_at digest_bytes
digest_back d fits at p r e =
    let f = four_at_lem d.d0 d.d1 d.d2 d.d3 at p r e fits.d0 fits.d1 fits.d2 fits.d3 in
    rw (f.first, f.second, f.third, f.fourth)

-- l stands at its place, and ends before the end of all
room : (p l r : List ℕ) (at n : ℕ) → length p ≡ at → length l ≡ n → at + n ≤ length (p ++ (l ++ r))
room p l r at n e f = simp length-append (omega arith)

module _ (at : ℕ) (p r : List ℕ) (e : length p ≡ at) where
  link_back : (k : Key) (d : Digest) (m : Bool) → KeyFits k → DigestFits d → well_key k ≡ true → 0 < k.len
      → link_at (p ++ (link_bytes k d m ++ r)) at ≡ Some (Link k d m, 68)
  unfolding link_bytes
  link_back k d m fk fd w h =
      link_row (p ++ (link_bytes k d m ++ r)) at k d m
      (ap (λ (s : List ℕ). key_at s (at + 1)) (simp append_assoc)
      ∙ key_back k fk (at + 1) (p ++ (1 ∷ [])) (digest_bytes d ++ (mark_byte m ∷ r)) (simp length-append (omega arith)) w)
      (ap (λ (s : List ℕ). digest_at s (at + 35)) (simp append_assoc)
      ∙ digest_back d fd (at + 35) (p ++ ((1 ∷ []) ++ key_bytes k)) (mark_byte m ∷ r) (simp (length-append, key_length) (omega arith)))
      (ap (λ (s : List ℕ). get_or s (at + 67) 0) regrouped
      ∙ get_or_at (p ++ ((1 ∷ []) ++ (key_bytes k ++ digest_bytes d))) (mark_byte m) r 0 (at + 67) (simp (length-append, key_length, digest_length) (omega arith)))
      h
    where
      regrouped : p ++ (link_bytes k d m ++ r) ≡ (p ++ ((1 ∷ []) ++ (key_bytes k ++ digest_bytes d))) ++ (mark_byte m ∷ r)
      regrouped = simp append_assoc

  link_tag : (k : Key) (d : Digest) (m : Bool) → get_or (p ++ (link_bytes k d m ++ r)) at 0 ≡ 1
  unfolding link_bytes
  link_tag k d m = get_or_at p 1 ((key_bytes k ++ (digest_bytes d ++ (mark_byte m ∷ []))) ++ r) 0 at e

  pub side_back : (x : Side) → SideFits x → well_side x ≡ true → side_at (p ++ (side_bytes x ++ r)) at ≡ Some (x, length (side_bytes x))
  unfolding side_bytes well_side
  side_back Empty fits w = empty_row (p ++ (0 ∷ r)) at (omega (arith, room p (0 ∷ []) r at 1 e refl)) (get_or_at p 0 r 0 at e)
  side_back (Link k d m) fits w =
      let b = both_true (well_key k) (ltb 0 k.len) w in
      rw (link_length k d m)
      (side_row (p ++ (link_bytes k d m ++ r)) at (Some (Link k d m, 68)) (room p (link_bytes k d m) r at 68 e (link_length k d m)) (link_tag k d m)
      (link_back k d m fits.0 fits.1 b.0 (ltb-true 0 k.len b.1)))

  fingerprint_back : (d : Digest) → DigestFits d → value_at (p ++ (fingerprint_bytes d ++ r)) at ≡ Some (v.Fingerprint d, 33)
  unfolding fingerprint_bytes
  fingerprint_back d fits =
      fingerprint_row (p ++ (fingerprint_bytes d ++ r)) at d (room p (fingerprint_bytes d) r at 33 e (fingerprint_length d)) (get_or_at p 1 (digest_bytes d ++ r) 0 at e)
      (ap (λ (s : List ℕ). digest_at s (at + 1)) (simp append_assoc) ∙ digest_back d fits (at + 1) (p ++ (1 ∷ [])) r (simp length-append (omega arith)))

module _ (at : ℕ) (p r : List ℕ) (e : length p ≡ at) where
  node_back : (x y : Side) → SideFits x → SideFits y → well_side x ≡ true → well_side y ≡ true
      → value_at (p ++ (node_bytes x y ++ r)) at ≡ Some (v.Node (record { left = x; right = y }), length (node_bytes x y))
  unfolding node_bytes
  node_back x y fx fy wx wy =
      let s = p ++ (node_bytes x y ++ r) in
      let a = side_bytes x in
      let b = side_bytes y in
      node_row s at x y (length a) (length b) (simp length-append (omega arith)) (get_or_at p 2 ((a ++ b) ++ r) 0 at e)
      (ap (λ (s : List ℕ). side_at s (at + 1)) (simp append_assoc) ∙ side_back (at + 1) (p ++ (2 ∷ [])) (b ++ r) (simp length-append (omega arith)) x fx wx)
      (ap (λ (s : List ℕ). side_at s (at + 1 + length a)) (simp append_assoc)
      ∙ side_back (at + 1 + length a) (p ++ ((2 ∷ []) ++ a)) r (simp length-append (omega arith)) y fy wy)
      ∙ ap (λ (n : ℕ). Some (v.Node (record { left = x; right = y }), n)) (sym (node_length x y))

  pub value_back : (x : Value) → ValueFits x → well_value x ≡ true → value_at (p ++ (value_bytes x ++ r)) at ≡ Some (x, length (value_bytes x))
  unfolding value_bytes well_value
  value_back v.None fits w = none_row (p ++ (0 ∷ r)) at (omega (arith, room p (0 ∷ []) r at 1 e refl)) (get_or_at p 0 r 0 at e)
  value_back (v.Fingerprint d) fits w = rw (fingerprint_length d) (fingerprint_back at p r e d fits)
  value_back (v.Node n) fits w =
      let b = both_true (well_side n.left) (well_side n.right) w in
      node_back n.left n.right fits.0 fits.1 b.0 b.1

-- two well values with the same bytes are the same
pub value_inj : (a b : Value) → ValueFits a → ValueFits b → well_value a ≡ true → well_value b ≡ true → value_bytes a ≡ value_bytes b → a ≡ b
value_inj a b fa fb wa wb e =
    (read_alike a b (length (value_bytes a)) (length (value_bytes b))
    (sym (value_back 0 [] [] refl a fa wa) ∙ ap (λ (l : List ℕ). value_at (l ++ []) 0) e ∙ value_back 0 [] [] refl b fb wb)).0
