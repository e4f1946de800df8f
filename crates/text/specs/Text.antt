-- The listing's lines as bytes (document 01, "The program and its listing"): numbers in decimal, one space between, LF after every line.
use Rattle.std.specs.Prelude.{ℕ, zero, suc, ◌+◌, ◌/◌, ◌%◌, List, [], ◌∷◌, ◌++◌, ltb}
use Rattle.words.specs.Choice.{pick}

abbrev pub space : ℕ
space = 32

abbrev pub line_feed : ℕ
line_feed = 10

-- the decimal digits of n, at most f of them, in front of t
unfoldable pub digits_before : ℕ → ℕ → List ℕ → List ℕ
digits_before zero n t = t
digits_before (suc f) n t = pick (ltb n 10) ((48 + n) ∷ t) (digits_before f (n / 10) ((48 + n % 10) ∷ t))

-- the decimal digits of n, which is below 10 ^ 20
unfoldable pub decimal : ℕ → List ℕ
decimal n = digits_before 20 n []

-- the digits of n and the byte that ends them
unfoldable pub field : ℕ → ℕ → List ℕ
field n end = decimal n ++ (end ∷ [])

-- a line of the listing: number, tag byte, verdict, current epoch after it
unfoldable pub line_text : ℕ → ℕ → ℕ → ℕ → List ℕ
line_text n tag verdict epoch = field n space ++ (field tag space ++ (field verdict space ++ field epoch line_feed))

-- `slots 4`
abbrev pub slots_text : List ℕ
slots_text = 115 ∷ 108 ∷ 111 ∷ 116 ∷ 115 ∷ 32 ∷ 52 ∷ 10 ∷ []

-- `settled ` and `bytes `
abbrev pub settled_text : List ℕ
settled_text = 115 ∷ 101 ∷ 116 ∷ 116 ∷ 108 ∷ 101 ∷ 100 ∷ 32 ∷ []

abbrev pub bytes_text : List ℕ
bytes_text = 98 ∷ 121 ∷ 116 ∷ 101 ∷ 115 ∷ 32 ∷ []

-- the last line: the settled epoch and the bytes used
unfoldable pub end_text : ℕ → ℕ → List ℕ
end_text settled used = settled_text ++ (field settled space ++ (bytes_text ++ field used line_feed))
