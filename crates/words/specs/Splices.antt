-- Bytes put in the place of others.
use Rattle.std.specs.Prelude.{ℕ, ◌+◌, List, ◌++◌, length, take, drop}

-- d with the bytes v in the place of those from at on
unfoldable pub splice : List ℕ → ℕ → List ℕ → List ℕ
splice d at v = take at d ++ (v ++ drop (at + length v) d)

-- the n bytes from at on
abbrev pub part : List ℕ → ℕ → ℕ → List ℕ
part d at n = take n (drop at d)
