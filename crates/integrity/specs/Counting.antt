-- Lists of things that can be told apart: how often one occurs, and which occur an odd number of times.
use Rattle.std.proofs.Math.Logic.{ite}
use Rattle.std.specs.Prelude.{Bool, false, not, List, [], ◌∷◌, ℕ, zero, suc}

-- one more where it is so
abbrev pub bump : {P : Type 0} → Dec P → ℕ → ℕ
bump (yes _) n = suc n
bump (no _) n = n

unfoldable pub odd : ℕ → Bool
odd zero = false
odd (suc n) = not (odd n)

module _ (M : Type 0) (eq : Discrete M) where
  -- how often m occurs
  unfoldable pub count : M → List M → ℕ
  count m [] = 0
  count m (x ∷ l) = bump (eq m x) (count m l)

  -- m taken out where it stands, and put in where it does not
  unfoldable pub toggle : M → List M → List M
  toggle m [] = m ∷ []
  toggle m (x ∷ l) = ite (eq m x) l (x ∷ toggle m l)

  -- what occurs an odd number of times, each once (proofs/Counting: odds-odd, odds-nodup)
  unfoldable pub odds : List M → List M
  odds [] = []
  odds (x ∷ l) = toggle x (odds l)
