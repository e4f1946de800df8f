-- FIPS 197: a word of four bytes, and the column that MixColumns makes of one byte. Assumes nothing.
use Rattle.std.specs.Prelude.{ℕ, ◌+◌, ◌*◌, ◌^◌}
use Rattle.sbox.specs.Field.{xtime, three}

-- 3.5: the word of four bytes, the first of them its highest
abbrev pub pack : ℕ → ℕ → ℕ → ℕ → ℕ
pack a0 a1 a2 a3 = ((a0 * 2 ^ 8 + a1) * 2 ^ 8 + a2) * 2 ^ 8 + a3

-- 5.1.3: the column that MixColumns makes of one byte in row 0
unfoldable pub spread : ℕ → ℕ
spread b = pack (xtime b) b b (three b)
