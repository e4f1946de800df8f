-- FIPS 180-4, sections 5.1.1 to 6.2.2: padding, the blocks, the hash value and the digest. Section 4 and the steps 1 to 4 of 6.2.2 are in
-- crates/compression/specs, whose names are passed on. A message is a list of bytes, a digest 32 of them.
use Rattle.std.specs.Prelude.{ℕ, zero, suc, ◌+◌, ◌-◌, ◌*◌, ◌/◌, List, ◌∷◌, ◌++◌, ltb, length, replicate, Result, Ok, Err}
use Rattle.words.specs.Choice.{pick}
use Rattle.words.specs.Numbers.{bytes_of}
use Rattle.words.specs.Splices.{part}
use Rattle.verdict.specs.Verdicts.{accepted, too_long, longest, number}
use Rattle.verdict.specs.declared.Refusal.{Refusal}
pub use Rattle.compression.specs.declared.Hash.{Hash}
unfoldable pub use Rattle.compression.specs.Compression.{K, words, next, schedule, round, rounds, compress}

-- 5.1.1: the padded message: the message, the bit 1, the fewest zeros that end it in a whole block, and its length in bits
-- as 64 bits. In bytes: 0x80, zeros, and eight bytes.

-- how many blocks a message of n bytes then has
abbrev pub blocks : ℕ → ℕ
blocks n = (n + 9 + 63) / 64

-- what is added to a message of n bytes, where the length that it tells is x bits
abbrev pub padding : ℕ → ℕ → List ℕ
padding n x = 0x80 ∷ (replicate (64 * blocks n - (n + 9)) 0 ++ bytes_of 8 x)

unfoldable pub padded : List ℕ → List ℕ
padded m = m ++ padding (length m) (8 * length m)

-- 5.2.1: block i of the padded message, 64 bytes
abbrev pub block : List ℕ → ℕ → List ℕ
block l i = part l (64 * i) 64

-- 5.3.3: the initial hash value
abbrev pub H0 : Hash
H0 = record { a = 0x6a09e667; b = 0xbb67ae85; c = 0x3c6ef372; d = 0xa54ff53a; e = 0x510e527f; f = 0x9b05688c; g = 0x1f83d9ab; h = 0x5be0cd19 }

-- 6.2.2: the hash value after the first n blocks of l
unfoldable pub after : List ℕ → ℕ → Hash
after l zero = H0
after l (suc n) = compress (after l n) (block l n)

-- the hash value of a message, eight words
unfoldable pub hash_of : List ℕ → Hash
hash_of m = after (padded m) (blocks (length m))

abbrev pub hash_bytes : Hash → List ℕ
hash_bytes s =
    bytes_of 4 s.a ++ bytes_of 4 s.b ++ bytes_of 4 s.c ++ bytes_of 4 s.d ++ bytes_of 4 s.e ++ bytes_of 4 s.f ++ bytes_of 4 s.g ++ bytes_of 4 s.h

-- 6.2: the digest
unfoldable pub sha256 : List ℕ → List ℕ
sha256 m = hash_bytes (hash_of m)

-- ---- the public call

-- its answer: 0 and the digest, or the number of a refusal and 32 zero bytes
pub record Answer : Type 0 where
  pub verdict : ℕ
  pub bytes : List ℕ

-- what a call's outcome is told by
abbrev pub answer : Result (List ℕ) Refusal → Answer
answer (Ok b) = record { verdict = accepted; bytes = b }
answer (Err r) = record { verdict = number r; bytes = replicate 32 0 }

-- a longer message: 30 and 32 zero bytes
unfoldable pub digest_of : List ℕ → Answer
digest_of m =
    pick (ltb longest (length m)) (record { verdict = too_long; bytes = replicate 32 0 })
    (record { verdict = accepted; bytes = sha256 m })
