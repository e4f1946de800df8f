-- The bounds of codes and terms, worked. Assumes nothing.
use mathlib.Core.Path.{◌≡◌, refl}
use mathlib.Core.List.{[], ◌∷◌}
use mathlib.Core.Bool.{true, false}
use lib.ListN.{replicate}
use Rattle.term.specs.Terms.{letters, well_code, well_term}

-- `az` is a code; what stands just outside a to z is in none, nor are one byte or nine
pub codes : (well_code (97 ∷ 122 ∷ []) ≡ true) × (well_code (96 ∷ 97 ∷ []) ≡ false) × (well_code (97 ∷ 123 ∷ []) ≡ false)
    × (well_code (97 ∷ []) ≡ false) × (well_code (replicate 8 97) ≡ true) × (well_code (replicate 9 97) ≡ false)
unfolding well_code letters
codes = (refl, refl, refl, refl, refl, refl)

pub terms : (well_term [] ≡ false) × (well_term (0 ∷ []) ≡ true) × (well_term (replicate 255 0) ≡ true) × (well_term (replicate 256 0) ≡ false)
unfolding well_term
terms = (refl, refl, refl, refl)
