-- Two entries worked through from the definitions: an advance, and one of an unknown tag with a body of two bytes. Assumes nothing.
use Prim.Native.Nat.{ℕ}
use mathlib.Core.Path.{◌≡◌, refl}
use mathlib.Core.List.{List, [], ◌∷◌}
use Rattle.words.specs.Numbers.{number_at}
use Rattle.entry.specs.Entries.{empty_at, entry_of, head_of, body_of, read_entry}
use Rattle.reader.specs.Places.{body_at, next_at}

abbrev log : List ℕ
log = 9 ∷ 0 ∷ 0 ∷ 77 ∷ 0 ∷ 2 ∷ 5 ∷ 6 ∷ []

pub second_body : body_at log 3 ≡ 5 ∷ 6 ∷ []
unfolding body_of head_of number_at
second_body = refl

pub behind_first : next_at log 0 ≡ 3
unfolding read_entry head_of number_at entry_of empty_at
behind_first = refl

pub behind_second : next_at log 3 ≡ 8
unfolding read_entry head_of number_at entry_of
behind_second = refl

-- at the end the place stays
pub at_end : next_at log 8 ≡ 8
unfolding read_entry head_of
at_end = refl
