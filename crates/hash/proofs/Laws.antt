-- Laws of a hash value as a digest, of the set key's bytes, and of what is written at the start of a buffer. Assumes nothing.
use Prim.Native.Nat.{ℕ, ◌^◌, ◌≤◌, ◌<◌}
use mathlib.Core.Path.{◌≡◌, refl, ap, sym, ◌∙◌}
use mathlib.Core.List.{List, [], append-nil}
use native.Mathlib.Omega.{arith}
use native.Mathlib.Nat.{zero-add}
use lib.ListN.{length, take}
use lib.Seq.{take-length}
use Rattle.words.specs.Numbers.{bytes_of, four_at, two_words, Bytes}
use Rattle.words.specs.Splices.{splice}
use Rattle.words.specs.declared.Four.{Four}
use Rattle.words.proofs.Laws.{bytes_length, TwoAt, two_length, two_at, two_back, splice_all, splice_length, splice_step, take_splice}
use Rattle.sha256.specs.Sha256.{Hash, sha256, hash_of, hash_bytes}
use Rattle.sha256.proofs.Laws.{hash_is_bytes}
use Rattle.value.specs.Values.{digest_at, digest_of_four, value_bytes, DigestFits}
use Rattle.value.specs.declared.Value.{Value}
use Rattle.value.proofs.Same.{digest_fits}
use Rattle.hash.specs.Hashes.{digest_of, set_bytes, set_key}
use Rattle.hash.specs.declared.SetKey.{SetKey}

-- ---- a hash value as a digest

pub digest_is : (v : Value) (b : List ℕ) (s : Hash) (w : Four) → b ≡ value_bytes v → s ≡ hash_of b → w ≡ four_at (hash_bytes s) 0
    → digest_of_four w ≡ digest_of v
unfolding digest_of sha256 digest_at four_at
digest_is v b s w p q r =
    ap digest_of_four (r ∙ ap (λ (h : Hash). four_at (hash_bytes h) 0) (q ∙ ap hash_of p))

-- a digest is bytes, and as words it fits its fields
pub sha_bytes : (m : List ℕ) → Bytes (sha256 m)
unfolding sha256
sha_bytes m = hash_is_bytes (hash_of m)

pub digest_of_fits : (x : Value) → DigestFits (digest_of x)
unfolding digest_of
digest_of_fits x = digest_fits (sha256 (value_bytes x)) 0 (sha_bytes (value_bytes x))

-- ---- what is written at the start of a buffer

module _ (d v b : List ℕ) (n : ℕ) (e : b ≡ splice d 0 v) (f : n ≡ length v) (h : length v ≤ length d) where
  pub written_front : take n b ≡ v
  written_front = ap (take n) e ∙ ap (λ (m : ℕ). take m (splice d 0 v)) (sym (zero-add n)) ∙ take_splice d v 0 n (sym f) (omega arith)

  pub written_within : n ≤ length b
  written_within = omega (arith, ap length e ∙ splice_length d v 0 (length v) refl (omega arith))

  pub written_length : n ≡ length (take n b)
  written_length = f ∙ ap length (sym written_front)

-- ---- the set key

pub set_written : (k : SetKey) (d m r : List ℕ) → length d ≡ 16 → m ≡ splice d 0 (bytes_of 8 k.k0) → r ≡ splice m 8 (bytes_of 8 k.k1) → r ≡ set_bytes k
unfolding set_bytes
set_written k d m r l p q =
    splice_step d m r 0 8 (bytes_of 8 k.k0) (bytes_of 8 k.k1) p q (bytes_length 8 k.k0) (omega arith)
    ∙ splice_all d (two_words k.k0 k.k1) (two_length k.k0 k.k1 ∙ sym l)

pub set_length : (k : SetKey) → length (set_bytes k) ≡ 16
unfolding set_bytes
set_length k = two_length k.k0 k.k1

set_ext : (a b : SetKey) → a.k0 ≡ b.k0 → a.k1 ≡ b.k1 → a ≡ b
set_ext a b p q = λ i. record { k0 = p i; k1 = q i }

-- a set key that is written is read back, where its words fit their fields, as in every set key of the code
pub set_back : (k : SetKey) → k.k0 < 2 ^ 64 → k.k1 < 2 ^ 64 → set_key (set_bytes k) ≡ k
unfolding set_key set_bytes
set_back k p q =
    let t : TwoAt (two_words k.k0 k.k1) 0 k.k0 k.k1 = rw append-nil at (two_at k.k0 k.k1 0 [] [] refl p q) in
    set_ext (set_key (set_bytes k)) k t.first t.second

-- and 16 bytes that are read are written as the same
pub set_same : (b : List ℕ) → Bytes b → length b ≡ 16 → set_bytes (set_key b) ≡ b
unfolding set_key set_bytes
set_same b p l = two_back b 0 p (omega arith) ∙ ap (λ (n : ℕ). take n b) (sym l) ∙ take-length b
