-- How long the bytes of values are. Assumes nothing.
use Prim.Native.Nat.{ℕ, ◌+◌, ◌≤◌}
use mathlib.Core.Path.{◌≡◌, ap}
use mathlib.Core.Bool.{Bool}
use native.Mathlib.Omega.{arith}
use lib.Dec.{lit≤}
use lib.ListN.{length, length-append}
use Rattle.std.specs.Prelude.{Option, Some}
use Rattle.words.proofs.Laws.{four_length}
use Rattle.key.proofs.Laws.{key_length}
use Rattle.key.specs.declared.Key.{Key}
use Rattle.value.specs.Values.{digest_bytes, link_bytes, side_bytes, fingerprint_bytes, node_bytes, value_bytes}
use Rattle.value.specs.declared.Digest.{Digest}
use Rattle.value.specs.declared.Side.{Side}
use Rattle.value.specs.declared.Side.TheVariants.{Empty, Link}
use Rattle.value.specs.declared.Value.{Value}
use Rattle.value.specs.declared.Value.TheVariants as v

-- what is read the same is the same, and took as many bytes
pub read_alike : {A : Type 0} (x y : A) (n m : ℕ) → ◌≡◌ {A = Option (A × ℕ)} (Some (x, n)) (Some (y, m)) → (x ≡ y) × (n ≡ m)
read_alike {A} x y n m e =
    let p : ◌≡◌ {A = A × ℕ} (x, n) (y, m) = cc in
    (ap (λ (r : A × ℕ). r.0) p, ap (λ (r : A × ℕ). r.1) p)

pub digest_length : (d : Digest) → length (digest_bytes d) ≡ 32
unfolding digest_bytes
digest_length d = four_length d.d0 d.d1 d.d2 d.d3

pub link_length : (k : Key) (d : Digest) (m : Bool) → length (link_bytes k d m) ≡ 68
unfolding link_bytes
link_length k d m = simp (length-append, key_length, digest_length)

pub fingerprint_length : (d : Digest) → length (fingerprint_bytes d) ≡ 33
unfolding fingerprint_bytes
fingerprint_length d = simp digest_length

pub node_length : (l r : Side) → length (node_bytes l r) ≡ 1 + length (side_bytes l) + length (side_bytes r)
unfolding node_bytes
node_length l r = simp length-append (omega arith)

-- a side takes 1 byte or 68
pub side_length : (x : Side) → length (side_bytes x) ≤ 68
unfolding side_bytes
side_length Empty = lit≤ tt
side_length (Link k d m) = rw (link_length k d m) (lit≤ tt)

pub value_length_lem : (x : Value) → length (value_bytes x) ≤ 137
unfolding value_bytes
value_length_lem v.None = lit≤ tt
value_length_lem (v.Fingerprint d) = rw (fingerprint_length d) (lit≤ tt)
value_length_lem (v.Node n) =
    rw (node_length n.left n.right) (omega (arith, side_length n.left, side_length n.right))
