-- FIPS 180-4, sections 4.2.2 and 6.2.2: the constants, the schedule of a block and its compression.
use Rattle.std.specs.Prelude.{ℕ, zero, suc, ◌+◌, ◌*◌, List, [], ◌∷◌, ◌++◌, slice_index}
use Rattle.words.specs.Numbers.{number_at}
use Rattle.compression.specs.Functions.{add, ch, maj, sum0, sum1, sigma0, sigma1}
use Rattle.compression.specs.declared.Hash.{Hash}

-- 4.2.2: the sixty-four round constants
unfoldable pub K : List ℕ
K =
    0x428a2f98 ∷ 0x71374491 ∷ 0xb5c0fbcf ∷ 0xe9b5dba5 ∷ 0x3956c25b ∷ 0x59f111f1 ∷ 0x923f82a4 ∷ 0xab1c5ed5 ∷
    0xd807aa98 ∷ 0x12835b01 ∷ 0x243185be ∷ 0x550c7dc3 ∷ 0x72be5d74 ∷ 0x80deb1fe ∷ 0x9bdc06a7 ∷ 0xc19bf174 ∷
    0xe49b69c1 ∷ 0xefbe4786 ∷ 0x0fc19dc6 ∷ 0x240ca1cc ∷ 0x2de92c6f ∷ 0x4a7484aa ∷ 0x5cb0a9dc ∷ 0x76f988da ∷
    0x983e5152 ∷ 0xa831c66d ∷ 0xb00327c8 ∷ 0xbf597fc7 ∷ 0xc6e00bf3 ∷ 0xd5a79147 ∷ 0x06ca6351 ∷ 0x14292967 ∷
    0x27b70a85 ∷ 0x2e1b2138 ∷ 0x4d2c6dfc ∷ 0x53380d13 ∷ 0x650a7354 ∷ 0x766a0abb ∷ 0x81c2c92e ∷ 0x92722c85 ∷
    0xa2bfe8a1 ∷ 0xa81a664b ∷ 0xc24b8b70 ∷ 0xc76c51a3 ∷ 0xd192e819 ∷ 0xd6990624 ∷ 0xf40e3585 ∷ 0x106aa070 ∷
    0x19a4c116 ∷ 0x1e376c08 ∷ 0x2748774c ∷ 0x34b0bcb5 ∷ 0x391c0cb3 ∷ 0x4ed8aa4a ∷ 0x5b9cca4f ∷ 0x682e6ff3 ∷
    0x748f82ee ∷ 0x78a5636f ∷ 0x84c87814 ∷ 0x8cc70208 ∷ 0x90befffa ∷ 0xa4506ceb ∷ 0xbef9a3f7 ∷ 0xc67178f2 ∷ []

-- 5.2.1: the words of a block, high byte first: the first n
unfoldable pub words : List ℕ → ℕ → List ℕ
words b zero = []
words b (suc n) = words b n ++ number_at 4 b (4 * n) ∷ []

-- 6.2.2 step 1: word t = n + 16 of the schedule, of the words w before it: those at t - 2, t - 7, t - 15 and t - 16
unfoldable pub next : List ℕ → ℕ → ℕ
next w n = add (add (add (sigma1 (slice_index w (n + 14))) (slice_index w (n + 9))) (sigma0 (slice_index w (n + 1)))) (slice_index w n)

-- the first 16 + n words of the schedule of a block of 16 words
unfoldable pub schedule : List ℕ → ℕ → List ℕ
schedule m zero = m
schedule m (suc n) = schedule m n ++ next (schedule m n) n ∷ []

-- step 3: one round, with its constant k and its word w
abbrev pub turn : ℕ → ℕ → Hash → Hash
turn t1 t2 s = record { a = add t1 t2; b = s.a; c = s.b; d = s.c; e = add s.d t1; f = s.e; g = s.f; h = s.g }

unfoldable pub round : ℕ → ℕ → Hash → Hash
round k w s = turn (add (add (add (add s.h (sum1 s.e)) (ch s.e s.f s.g)) k) w) (add (sum0 s.a) (maj s.a s.b s.c)) s

-- the first n rounds over the schedule w
unfoldable pub rounds : List ℕ → Hash → ℕ → Hash
rounds w s zero = s
rounds w s (suc n) = round (slice_index K n) (slice_index w n) (rounds w s n)

-- step 4
abbrev pub plus : Hash → Hash → Hash
plus s t =
    record {
      a = add s.a t.a;
      b = add s.b t.b;
      c = add s.c t.c;
      d = add s.d t.d;
      e = add s.e t.e;
      f = add s.f t.f;
      g = add s.g t.g;
      h = add s.h t.h;
    }

-- steps 1 to 4: the hash value s with the block b worked in
unfoldable pub compress : Hash → List ℕ → Hash
compress s b = plus s (rounds (schedule (words b 16) 48) s 64)
