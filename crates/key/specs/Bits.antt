-- A key as the list of its bits, and what the tests on words say of it.
use Rattle.std.specs.Prelude.{ℕ, zero, suc, ◌+◌, List, [], ◌∷◌, ◌++◌, ◌≡◌, eqb}
use Rattle.words.specs.Choice.{pick}
use Rattle.key.specs.Keys.{bit_at}
use Rattle.key.specs.declared.Key.{Key}

-- the first n bits of a key
unfoldable pub first_bits : ℕ → Key → List ℕ
first_bits zero k = []
first_bits (suc n) k = first_bits n k ++ (bit_at k n ∷ [])

-- what a key means
unfoldable pub bits : Key → List ℕ
bits k = first_bits k.len k

-- the number of leading bits that two strings share
unfoldable pub shared : List ℕ → List ℕ → ℕ
shared [] ys = 0
shared (x ∷ xs) [] = 0
shared (x ∷ xs) (y ∷ ys) = pick (eqb x y) (1 + shared xs ys) 0

-- xs is a proper prefix of ys, and b is the next bit
pub record ProperPrefix (xs ys : List ℕ) (b : ℕ) : Type 0 where
  pub rest : List ℕ
  pub joined : ys ≡ xs ++ (b ∷ rest)
