-- Laws of codes, terms and fingerprints. Assumes nothing.
use Prim.Native.Nat.{ℕ, ◌+◌, ◌≤◌}
use mathlib.Core.Path.{◌≡◌, refl, ap, ◌∙◌}
use mathlib.Core.List.{List, [], ◌∷◌, ◌++◌}
use mathlib.Core.Bool.{true}
use native.Mathlib.Nat.{zero-add}
use native.Mathlib.Omega.{arith}
use lib.Dec.{leb, eqb}
use lib.ListN.{length, take, length-append}
use borrow.Author.Tests.{leb-true}
use Rattle.std.specs.Char.{is_ascii_lowercase}
use Rattle.std.specs.List.{list_all}
use Rattle.std.specs.Cmp.Lexicographic.{pointwise}
use Rattle.words.specs.Choice.{both}
use Rattle.words.specs.Splices.{splice}
use Rattle.words.proofs.Laws.{splice_join, take_splice, both_true}
use Rattle.term.specs.Terms.{letters, well_code, well_term, same_bytes, hashed}
use mathlib.Core.Bool.{Bool}
use Rattle.std.specs.Prelude.{Result}
use Rattle.verdict.specs.declared.Refusal.{Refusal}
use Rattle.verdict.proofs.Reasons.{view_back}
use Rattle.term.specs.Terms.{Match, match_answer}

-- the tests of std are those of the definitions
pub letters_is : (s : List ℕ) → list_all is_ascii_lowercase s ≡ letters s
unfolding letters
letters_is [] = refl
letters_is (x ∷ xs) = ap (both (both (leb 97 x) (leb x 122))) (letters_is xs)

pub same_is : (a b : List ℕ) → pointwise eqb a b ≡ same_bytes a b
unfolding same_bytes
same_is [] [] = refl
same_is [] (y ∷ ys) = refl
same_is (x ∷ xs) [] = refl
same_is (x ∷ xs) (y ∷ ys) = ap (both (eqb x y)) (same_is xs ys)

-- a good code and term fit in what is hashed
pub good_fits : (c t : List ℕ) → well_code c ≡ true → well_term t ≡ true → length c + length t ≤ 263
unfolding well_code well_term
good_fits c t e f =
    let q = both_true (leb 2 (length c)) (leb (length c) 8) (both_true _ _ e).0 in
    let x : length c ≤ 8 = leb-true _ _ q.1 in
    let y : length t ≤ 255 = leb-true _ _ (both_true (leb 1 (length t)) _ f).1 in
    omega arith

-- two copies, one behind the other, stand at the front
pub joined : (d m r u v : List ℕ) (n k : ℕ) → m ≡ splice d 0 u → r ≡ splice m n v → n ≡ 0 + length u → k ≡ n + length v
    → length u + length v ≤ length d → take k r ≡ hashed u v
unfolding hashed
joined d m r u v n k p q e f h =
    let z : n ≡ 0 + length u = e in
    let j : r ≡ splice d 0 (u ++ v) = q ∙ rw (p, e) (splice_join d u 0 (length u) refl (omega arith) v) in
    rw j (rw (f, e, zero-add, ← length-append u v) (rw (← zero-add (length (u ++ v))) (take_splice d (u ++ v) 0 (length (u ++ v)) refl (omega arith))))

-- ---- the answers

-- no two results of the code come to one answer
pub match_answer_back : (x y : Result Bool Refusal) → match_answer x ≡ match_answer y → x ≡ y
match_answer_back = view_back match_answer (λ (m : Match). m.verdict) (λ t. refl) (λ r. refl) (λ s t e. ap (λ (m : Match). m.yes) e)
