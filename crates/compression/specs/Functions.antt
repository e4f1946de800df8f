-- FIPS 180-4, sections 2.2.2, 3.2 and 4.1.2: operations and functions on 32-bit words, as natural numbers below 2 ^ 32.
use Rattle.std.specs.Prelude.{ℕ, ◌+◌, ◌-◌, ◌*◌, ◌/◌, ◌%◌, ◌^◌, bit_and, bit_or, bit_xor}

-- 3.2.1: addition modulo 2 ^ 32
abbrev pub add : ℕ → ℕ → ℕ
add x y = (x + y) % 2 ^ 32

-- 3.2.4: ROTR n x = (x >> n) or (x << 32 - n)
abbrev pub rotr : ℕ → ℕ → ℕ
rotr n x = bit_or (x / 2 ^ n) ((x * 2 ^ (32 - n)) % 2 ^ 32)

-- 3.2.3: SHR n x
abbrev pub shr : ℕ → ℕ → ℕ
shr n x = x / 2 ^ n

-- 2.2.2: the complement of a word
abbrev pub not : ℕ → ℕ
not x = (2 ^ 32 - 1) - x

-- 4.1.2: (4.2) to (4.7)
abbrev pub ch : ℕ → ℕ → ℕ → ℕ
ch x y z = bit_xor (bit_and x y) (bit_and (not x) z)

abbrev pub maj : ℕ → ℕ → ℕ → ℕ
maj x y z = bit_xor (bit_xor (bit_and x y) (bit_and x z)) (bit_and y z)

abbrev pub sum0 : ℕ → ℕ
sum0 x = bit_xor (bit_xor (rotr 2 x) (rotr 13 x)) (rotr 22 x)

abbrev pub sum1 : ℕ → ℕ
sum1 x = bit_xor (bit_xor (rotr 6 x) (rotr 11 x)) (rotr 25 x)

abbrev pub sigma0 : ℕ → ℕ
sigma0 x = bit_xor (bit_xor (rotr 7 x) (rotr 18 x)) (shr 3 x)

abbrev pub sigma1 : ℕ → ℕ
sigma1 x = bit_xor (bit_xor (rotr 17 x) (rotr 19 x)) (shr 10 x)
