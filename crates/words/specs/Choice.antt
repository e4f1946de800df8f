-- Tests and choices by them. A definition of a contract is a chain of these, in the order of the paper's checks.
use Rattle.std.specs.Prelude.{Bool, true, false, ◌≡◌, ◌&&◌, not}
use Rattle.std.proofs.Common.{sym, ◌∙◌}

-- the first where the test holds, the second where it does not
abbrev pub pick : {A : Type 0} → Bool → A → A → A
pick true a b = a
pick false a b = b

abbrev pub both : Bool → Bool → Bool
both a b = a && b

abbrev pub no : Bool → Bool
no a = not a

-- Two outcomes that meet one contract of the form `outcome ≡ definition` are equal.
pub one_outcome : {A : Type 0} (x y d : A) → x ≡ d → y ≡ d → x ≡ y
one_outcome x y d p q = p ∙ sym q
