-- Numbers as bytes, high byte first (document 01: "as all numbers here"). One definition for every width.
use Rattle.std.specs.Prelude.{ℕ, zero, suc, ◌+◌, ◌*◌, ◌/◌, ◌%◌, ◌<◌, List, [], ◌∷◌, ◌++◌, get_or, replicate}
use Rattle.words.specs.declared.Four.{Four}

-- the number that the n bytes from at on make
unfoldable pub number_at : ℕ → List ℕ → ℕ → ℕ
number_at zero s at = 0
number_at (suc n) s at = number_at n s at * 256 + get_or s (at + n) 0

-- the n bytes of a number
unfoldable pub bytes_of : ℕ → ℕ → List ℕ
bytes_of zero x = []
bytes_of (suc n) x = bytes_of n (x / 256) ++ (x % 256 ∷ [])

-- four words side by side, as a data key and a digest have them
unfoldable pub four_at : List ℕ → ℕ → Four
four_at s at =
    record { first = number_at 8 s at; second = number_at 8 s (at + 8); third = number_at 8 s (at + 16); fourth = number_at 8 s (at + 24) }

-- two words side by side, as a set key and a tag have them
abbrev pub two_words : ℕ → ℕ → List ℕ
two_words a b = bytes_of 8 a ++ bytes_of 8 b

-- and four
abbrev pub four_words : ℕ → ℕ → ℕ → ℕ → List ℕ
four_words a b c d = bytes_of 8 a ++ (bytes_of 8 b ++ (bytes_of 8 c ++ bytes_of 8 d))

-- so many zeros: shut, so that a goal does not write them out
unfoldable pub zeros : ℕ → List ℕ
zeros n = replicate n 0

-- a list of bytes, as every lent slice is
abbrev pub Bytes : List ℕ → Type 0
Bytes s = (i : ℕ) → get_or s i 0 < 256
