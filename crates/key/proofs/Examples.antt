-- The keys of document 01's marked examples, computed: Z is 256 zeros, B is 256 ones, C is 1 and then 255 zeros.
use mathlib.Core.Path.{◌≡◌, refl}
use mathlib.Core.List.{[], ◌∷◌}
use mathlib.Core.Bool.{true, false}
use Rattle.words.specs.Numbers.{number_at, bytes_of, zeros}
use Rattle.key.specs.Keys.{key_at, key_bytes, raw_key, well_key, clean, root_key, data_key, above, same_top, toward, bit_at}
use Rattle.key.specs.Bits.{first_bits, bits}
use Rattle.key.specs.declared.Key.{Key}
use Rattle.std.specs.Prelude.{Some, None}

Z : Key
Z = data_key 0 0 0 0

B : Key
B = data_key 18446744073709551615 18446744073709551615 18446744073709551615 18446744073709551615

C : Key
C = data_key 9223372036854775808 0 0 0

-- the node of the one bit 1
one : Key
one = record { len = 1; w0 = 9223372036854775808; w1 = 0; w2 = 0; w3 = 0 }

-- its length high byte first, its bit the top bit of the first byte of 32
one_bytes : key_bytes one ≡ 0 ∷ 1 ∷ 128 ∷ zeros 31
unfolding one key_bytes bytes_of zeros
one_bytes = refl

one_read : key_at (0 ∷ 1 ∷ 128 ∷ zeros 31) 0 ≡ Some one
unfolding one key_at raw_key well_key clean number_at zeros
one_read = refl

-- a second bit set, past the length
one_dirty : key_at (0 ∷ 1 ∷ 192 ∷ zeros 31) 0 ≡ None
unfolding key_at raw_key well_key clean number_at zeros
one_dirty = refl

-- 257 bits
too_long : key_at (1 ∷ 1 ∷ zeros 32) 0 ≡ None
unfolding key_at raw_key well_key clean number_at zeros
too_long = refl

one_bits : bits one ≡ 1 ∷ []
unfolding one bits first_bits bit_at
one_bits = refl

-- the root is above every other key, on the left of Z and on the right of B; no key is above itself
root_Z : (above root_key Z ≡ true) × (toward root_key Z ≡ false)
unfolding Z above same_top toward bit_at
root_Z = (refl, refl)

root_B : (above root_key B ≡ true) × (toward root_key B ≡ true)
unfolding B above same_top toward bit_at
root_B = (refl, refl)

root_root : above root_key root_key ≡ false
unfolding above same_top
root_root = refl

-- B is on the node's right, C on its left, Z not under it
one_B : (above one B ≡ true) × (toward one B ≡ true)
unfolding one B above same_top toward bit_at
one_B = (refl, refl)

one_C : (above one C ≡ true) × (toward one C ≡ false)
unfolding one C above same_top toward bit_at
one_C = (refl, refl)

one_Z : above one Z ≡ false
unfolding one Z above same_top
one_Z = refl

B-C : above B C ≡ false
unfolding B C above same_top
B-C = refl
