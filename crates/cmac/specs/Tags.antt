-- Tags as two words, the sum of tags by xor (document 01: "Sums are 16 bytes, the xor of tags"), and the answer of the tag
-- call, which refuses a message over 65,536 bytes. Assumes nothing.
use Rattle.std.specs.Prelude.{Bool, List, ℕ, eqb, ltb, length, Result, Ok, Err}
use Rattle.std.specs.Int.Bits.{bit_xor}
use Rattle.words.specs.Choice.{pick, both}
use Rattle.words.specs.Numbers.{number_at, zeros}
use Rattle.verdict.specs.Verdicts.{accepted, too_long, longest, number}
use Rattle.verdict.specs.declared.Refusal.{Refusal}
use Rattle.aes.specs.Aes.{expansion}
use Rattle.cmac.specs.Cmac.{cmac}
use Rattle.cmac.specs.declared.Tag.{Tag}

-- sixteen bytes as two words
abbrev pub tag_words : List ℕ → Tag
tag_words l = record { t0 = number_at 8 l 0; t1 = number_at 8 l 8 }

-- the sum of no tags, and the sum of two
abbrev pub no_tag : Tag
no_tag = record { t0 = 0; t1 = 0 }

abbrev pub tag_xor : Tag → Tag → Tag
tag_xor a b = record { t0 = bit_xor a.t0 b.t0; t1 = bit_xor a.t1 b.t1 }

abbrev pub tag_eq : Tag → Tag → Bool
tag_eq a b = both (eqb a.t0 b.t0) (eqb a.t1 b.t1)

-- the answer of a tag call: 0 and the tag, or 30 and sixteen zero bytes
pub record TagAnswer : Type 0 where
  pub verdict : ℕ
  pub bytes : List ℕ

-- what a tag call's outcome is told by
abbrev pub tag_answer : Result (List ℕ) Refusal → TagAnswer
tag_answer (Ok b) = record { verdict = accepted; bytes = b }
tag_answer (Err r) = record { verdict = number r; bytes = zeros 16 }

-- the tag call under the 176 bytes of an expanded key, and under a set key
unfoldable pub tag_with : List ℕ → List ℕ → TagAnswer
tag_with bytes m =
    pick (ltb longest (length m))
    (record { verdict = too_long; bytes = zeros 16 })
    (record { verdict = accepted; bytes = cmac bytes m })

unfoldable pub tag_of : List ℕ → List ℕ → TagAnswer
tag_of key m = tag_with (expansion key) m
