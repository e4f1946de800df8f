-- The tests of sameness on digests, sides and values are equality. Assumes nothing.
use mathlib.Core.Path.{◌≡◌, refl, ap, sym}
use mathlib.Core.Bool.{Bool, true, false, false≢true}
use lib.Dec.{eqb}
use borrow.Author.Tests.{eqb-true, eq-eqb}
use Rattle.words.proofs.Laws.{both_true}
use Rattle.key.specs.Keys.{key_eq}
use Rattle.key.proofs.Laws.{key_eq_true, key_eq_refl}
use Rattle.value.specs.Values.{digest_eq, bool_eq, side_eq, value_eq}
use Rattle.value.specs.declared.Digest.{Digest}
use Rattle.value.specs.declared.Side.{Side}
use Rattle.value.specs.declared.Side.TheVariants.{Empty, Link}
use Rattle.value.specs.declared.Value.{Value}
use Rattle.value.specs.declared.Value.TheVariants as v

pub digest_eq_true : (a b : Digest) → digest_eq a b ≡ true → a ≡ b
unfolding digest_eq
digest_eq_true a b e =
    let d0 = both_true (eqb a.d0 b.d0) _ e in
    let d1 = both_true (eqb a.d1 b.d1) _ d0.1 in
    let d2 = both_true (eqb a.d2 b.d2) (eqb a.d3 b.d3) d1.1 in
    let p0 = eqb-true _ _ d0.0 in
    let p1 = eqb-true _ _ d1.0 in
    let p2 = eqb-true _ _ d2.0 in
    let p3 = eqb-true _ _ d2.1 in
    λ i. record { d0 = p0 i; d1 = p1 i; d2 = p2 i; d3 = p3 i }

pub digest_eq_refl : (a : Digest) → digest_eq a a ≡ true
unfolding digest_eq
digest_eq_refl a = rw (eq-eqb a.d0 a.d0 refl, eq-eqb a.d1 a.d1 refl, eq-eqb a.d2 a.d2 refl, eq-eqb a.d3 a.d3 refl)

bool_eq_true : (a b : Bool) → bool_eq a b ≡ true → a ≡ b
bool_eq_true true b e = sym e
bool_eq_true false true e = e
bool_eq_true false false e = refl

bool_eq_refl : (a : Bool) → bool_eq a a ≡ true
bool_eq_refl true = refl
bool_eq_refl false = refl

pub side_eq_true : (a b : Side) → side_eq a b ≡ true → a ≡ b
side_eq_true Empty Empty e = refl
side_eq_true Empty (Link k d m) e = absurd (false≢true e)
side_eq_true (Link k d m) Empty e = absurd (false≢true e)
side_eq_true (Link k d m) (Link k2 d2 m2) e =
    let k' = both_true (key_eq k k2) _ e in
    let d' = both_true (digest_eq d d2) (bool_eq m m2) k'.1 in
    let p = key_eq_true k k2 k'.0 in
    let q = digest_eq_true d d2 d'.0 in
    let r = bool_eq_true m m2 d'.1 in
    λ i. Link (p i) (q i) (r i)

pub side_eq_refl : (a : Side) → side_eq a a ≡ true
side_eq_refl Empty = refl
side_eq_refl (Link k d m) = rw (key_eq_refl k, digest_eq_refl d, bool_eq_refl m)

pub value_eq_true : (a b : Value) → value_eq a b ≡ true → a ≡ b
unfolding value_eq
value_eq_true v.None v.None e = refl
value_eq_true v.None (v.Fingerprint b) e = absurd (false≢true e)
value_eq_true v.None (v.Node b) e = absurd (false≢true e)
value_eq_true (v.Fingerprint a) v.None e = absurd (false≢true e)
value_eq_true (v.Fingerprint a) (v.Fingerprint b) e = ap v.Fingerprint (digest_eq_true a b e)
value_eq_true (v.Fingerprint a) (v.Node b) e = absurd (false≢true e)
value_eq_true (v.Node a) v.None e = absurd (false≢true e)
value_eq_true (v.Node a) (v.Fingerprint b) e = absurd (false≢true e)
value_eq_true (v.Node a) (v.Node b) e =
    let s = both_true (side_eq a.left b.left) (side_eq a.right b.right) e in
    let p = side_eq_true a.left b.left s.0 in
    let q = side_eq_true a.right b.right s.1 in
    λ i. v.Node (record { left = p i; right = q i })

pub value_eq_refl : (a : Value) → value_eq a a ≡ true
unfolding value_eq
value_eq_refl v.None = refl
value_eq_refl (v.Fingerprint a) = digest_eq_refl a
value_eq_refl (v.Node a) = rw (side_eq_refl a.left, side_eq_refl a.right)
