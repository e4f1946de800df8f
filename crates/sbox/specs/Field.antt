-- FIPS 197, section 4: the field GF(2^8), a byte for each element; and section 5.1.1: the substitution of a byte by inverse
-- and affine rule. Assumes nothing.
use Rattle.std.specs.Prelude.{List, [], ◌∷◌, ◌++◌, ℕ, zero, suc, ◌+◌, ◌*◌, ◌/◌, ◌%◌, ◌^◌, get_or}
use Rattle.std.specs.Int.Bits.{bit_xor}

-- 4.2.1: multiplication by x, that is by {02}
unfoldable pub xtime : ℕ → ℕ
xtime b = bit_xor (b / 128 * 0x1b) (b * 2 % 256)

-- multiplication by {03}
abbrev pub three : ℕ → ℕ
three b = bit_xor (xtime b) b

-- 4.2: a times the low n bits of b, by repeated xtime
unfoldable pub times_bits : ℕ → ℕ → ℕ → ℕ
times_bits zero a b = 0
times_bits (suc n) a b = bit_xor (b % 2 * a) (times_bits n (xtime a) (b / 2))

unfoldable pub times : ℕ → ℕ → ℕ
times a b = times_bits 8 a b

-- b to the powers 2, 4, .. 2 ^ n, multiplied
unfoldable pub powers : ℕ → ℕ → ℕ
powers zero b = 1
powers (suc n) b = times (times b b) (powers n (times b b))

-- 4.2: the inverse, b to the power 254 = 2 + 4 + .. + 128; that of {00} is {00}
unfoldable pub inverse : ℕ → ℕ
inverse b = powers 7 b

-- 5.1.1, equation 5.1: bit i of the affine rule, with {63} for its constant c
abbrev pub bit : ℕ → ℕ → ℕ
bit b i = b / 2 ^ (i % 8) % 2

abbrev pub affine_bit : ℕ → ℕ → ℕ
affine_bit b i = (bit b i + bit b (i + 4) + bit b (i + 5) + bit b (i + 6) + bit b (i + 7) + bit 0x63 i) % 2

unfoldable pub affine_bits : ℕ → ℕ → ℕ
affine_bits b zero = 0
affine_bits b (suc n) = affine_bit b n * 2 ^ n + affine_bits b n

unfoldable pub affine : ℕ → ℕ
affine b = affine_bits b 8

-- f 0, f 1, .. f (n - 1)
unfoldable pub values_of : (ℕ → ℕ) → ℕ → List ℕ
values_of f zero = []
values_of f (suc n) = values_of f n ++ f n ∷ []

-- 5.1.1: the S-box, which is the rule at each byte, and the substitution of a byte by it
unfoldable pub sbox : List ℕ
sbox = values_of (λ b. affine (inverse b)) 256

unfoldable pub sub : ℕ → ℕ
sub b = get_or sbox b 0
