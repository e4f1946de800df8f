-- How the code walks schedule and rounds: some at a time, in a list of 64 words and with constants that it is lent.
use Rattle.std.specs.Prelude.{ℕ, zero, suc, ◌+◌, List, nat_le, slice_index, slice_set}
use Rattle.words.specs.Choice.{pick}
use Rattle.compression.specs.Compression.{round, next}
use Rattle.compression.specs.declared.Hash.{Hash}

-- n rounds from round i on, with the constants k
unfoldable pub upto : List ℕ → List ℕ → ℕ → Hash → ℕ → Hash
upto k w i s zero = s
upto k w i s (suc n) = round (slice_index k (i + n)) (slice_index w (i + n)) (upto k w i s n)

-- word 16 + j put in its place
abbrev pub grown : List ℕ → ℕ → List ℕ
grown w j = slice_set w (16 + j) (next w j)

-- four of them, while there are any to come
unfoldable pub extended : List ℕ → ℕ → List ℕ
extended w j = pick (nat_le j 44) (grown (grown (grown (grown w j) (j + 1)) (j + 2)) (j + 3)) w
