-- Laws of the tag as bytes and as words. Assumes nothing.
use mathlib.Core.Path.{◌≡◌, refl, ap, ap₂, sym, ◌∙◌}
use mathlib.Core.List.{List, [], ◌++◌, append_assoc, append-nil}
use Prim.Native.Nat.{ℕ, ◌+◌, ◌*◌, ◌^◌, ◌<◌}
use lib.ListN.{length, length-append}
use Rattle.words.proofs.Laws.{bytes_length, number_back, number_behind, number_split}
use Rattle.words.specs.Numbers.{number_at, bytes_of}
use Rattle.std.specs.Prelude.{Result}
use Rattle.verdict.specs.declared.Refusal.{Refusal}
use Rattle.verdict.proofs.Reasons.{view_back}
use Rattle.cmac.specs.Tags.{TagAnswer, tag_answer}

-- ---- a block as two words

-- two words that stand behind n bytes
two : (p r : List ℕ) (n a b : ℕ) → length p ≡ n → a < 2 ^ 32 → b < 2 ^ 32 → number_at 8 (p ++ (bytes_of 4 a ++ (bytes_of 4 b ++ r))) (n + 0) ≡ a * 2 ^ 32 + b
two p r n a b e ha hb =
    number_behind 8 p (bytes_of 4 a ++ (bytes_of 4 b ++ r)) 0 n e
    ∙ number_split 4 4 (bytes_of 4 a ++ (bytes_of 4 b ++ r)) 0
    ∙ ap₂ (λ (x y : ℕ). x * 2 ^ 32 + y) (number_back 4 a (bytes_of 4 b ++ r) ha)
    (number_behind 4 (bytes_of 4 a) (bytes_of 4 b ++ r) 0 4 (bytes_length 4 a) ∙ number_back 4 b r hb)

module _ (a b c d : ℕ) (ha : a < 2 ^ 32) (hb : b < 2 ^ 32) (hc : c < 2 ^ 32) (hd : d < 2 ^ 32) where
  abbrev pub words4 : List ℕ
  words4 = bytes_of 4 a ++ bytes_of 4 b ++ bytes_of 4 c ++ bytes_of 4 d

  pub high_word : number_at 8 words4 0 ≡ a * 2 ^ 32 + b
  high_word = ap (λ (l : List ℕ). number_at 8 l 0) (simp append_assoc) ∙ two [] (bytes_of 4 c ++ bytes_of 4 d) 0 a b refl ha hb

  pub low_word : number_at 8 words4 8 ≡ c * 2 ^ 32 + d
  low_word =
      ap (λ (l : List ℕ). number_at 8 l 8) (ap (λ (l : List ℕ). bytes_of 4 a ++ bytes_of 4 b ++ bytes_of 4 c ++ l) (sym (append-nil (bytes_of 4 d))) ∙ simp append_assoc)
      ∙ ap (λ (l : List ℕ). number_at 8 l 8) (sym (append_assoc (bytes_of 4 a) (bytes_of 4 b) (bytes_of 4 c ++ (bytes_of 4 d ++ []))))
      ∙ two (bytes_of 4 a ++ bytes_of 4 b) [] 8 c d eight hc hd
    where
      eight : length (bytes_of 4 a ++ bytes_of 4 b) ≡ 8
      eight = simp (length-append, bytes_length)

-- ---- the answers

-- no two results of the code come to one answer
pub tag_answer_back : (x y : Result (List ℕ) Refusal) → tag_answer x ≡ tag_answer y → x ≡ y
tag_answer_back = view_back tag_answer (λ (a : TagAnswer). a.verdict) (λ t. refl) (λ r. refl) (λ s t e. ap (λ (a : TagAnswer). a.bytes) e)
