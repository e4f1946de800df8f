-- Term keys and fingerprints (document 01, "Keys, values, messages").
use Rattle.std.specs.Prelude.{ℕ, List, [], ◌∷◌, ◌++◌, Bool, true, false, leb, ltb, eqb, length, replicate, Result, Ok, Err}
use Rattle.words.specs.Choice.{pick, both}
use Rattle.verdict.specs.Verdicts.{accepted, bad_term, too_long, longest, number}
use Rattle.verdict.specs.declared.Refusal.{Refusal}
use Rattle.sha256.specs.Sha256.{Answer, sha256}

-- each byte is one of a to z
unfoldable pub letters : List ℕ → Bool
letters [] = true
letters (x ∷ xs) = both (both (leb 97 x) (leb x 122)) (letters xs)

-- a language code: 2 to 8 bytes a to z
unfoldable pub well_code : List ℕ → Bool
well_code c = both (both (leb 2 (length c)) (leb (length c) 8)) (letters c)

-- a term: 1 to 255 bytes
unfoldable pub well_term : List ℕ → Bool
well_term t = both (leb 1 (length t)) (leb (length t) 255)

-- what is hashed for a term key: the code followed by the term
unfoldable pub hashed : List ℕ → List ℕ → List ℕ
hashed code term = code ++ term

-- a bad code or term: 29 and 32 zero bytes
unfoldable pub term_key : List ℕ → List ℕ → Answer
term_key code term =
    pick (both (well_code code) (well_term term)) (record { verdict = accepted; bytes = sha256 (hashed code term) })
    (record { verdict = bad_term; bytes = replicate 32 0 })

unfoldable pub same_bytes : List ℕ → List ℕ → Bool
same_bytes [] [] = true
same_bytes [] (y ∷ ys) = false
same_bytes (x ∷ xs) [] = false
same_bytes (x ∷ xs) (y ∷ ys) = both (eqb x y) (same_bytes xs ys)

-- the answer of a fingerprint's test: 0 and yes or no, or the number of a refusal and no
pub record Match : Type 0 where
  pub verdict : ℕ
  pub yes : Bool

-- what its outcome is told by
abbrev pub match_answer : Result Bool Refusal → Match
match_answer (Ok b) = record { verdict = accepted; yes = b }
match_answer (Err r) = record { verdict = number r; yes = false }

-- whether a sealed entry has a given fingerprint; of one that is too long, no, with 30
unfoldable pub matches : List ℕ → List ℕ → Match
matches sealed fingerprint =
    pick (ltb longest (length sealed)) (record { verdict = too_long; yes = false })
    (record { verdict = accepted; yes = same_bytes (sha256 sealed) fingerprint })
