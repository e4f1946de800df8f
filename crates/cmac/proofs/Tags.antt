-- Sums of tags: xor of numbers, and so of tags, is an abelian group in which each element is its own inverse; and the test
-- of two tags decides whether they are equal. Assumes nothing.
use mathlib.Core.Path.{◌≡◌, refl, ◌∙◌, ap, ap₂}
use mathlib.Core.Bool.{true}
use mathlib.Core.List.{List, ◌++◌}
use Prim.Native.Nat.{ℕ}
use native.Mathlib.Omega.{arith}
use borrow.Author.Tests.{eq-eqb, eqb-true}
use lib.Bits.{xor_self, xor_comm}
use lib.Dec.{eqb}
use lib.ListN.{length}
use lib.Seq.{take_all}
use Rattle.words.specs.Numbers.{bytes_of, Bytes}
use Rattle.words.proofs.Laws.{both_true, true_both, bytes_back, part_join}
use Rattle.sbox.proofs.Xor.{xor_assoc}
use Rattle.cmac.specs.Tags.{tag_words, no_tag, tag_xor, tag_eq}
use Rattle.cmac.specs.declared.Tag.{Tag}

abbrev pub tag : ℕ → ℕ → Tag
tag x y = record { t0 = x; t1 = y }

pub tag_assoc : (a b c : Tag) → tag_xor (tag_xor a b) c ≡ tag_xor a (tag_xor b c)
tag_assoc a b c = ap₂ tag (xor_assoc a.t0 b.t0 c.t0) (xor_assoc a.t1 b.t1 c.t1)

pub tag_comm : (a b : Tag) → tag_xor a b ≡ tag_xor b a
tag_comm a b = ap₂ tag (xor_comm a.t0 b.t0) (xor_comm a.t1 b.t1)

pub tag_zero : (a : Tag) → tag_xor no_tag a ≡ a
tag_zero a = refl

pub tag_self : (a : Tag) → tag_xor a a ≡ no_tag
tag_self a = ap₂ tag (xor_self a.t0) (xor_self a.t1)

-- two words have all of a tag's sixteen bytes
pub tag_back : (l : List ℕ) → Bytes l → length l ≡ 16 → bytes_of 8 (tag_words l).t0 ++ bytes_of 8 (tag_words l).t1 ≡ l
tag_back l b e =
    ap₂ (λ (x y : List ℕ). x ++ y) (bytes_back 8 l 0 b (omega arith)) (bytes_back 8 l 8 b (omega arith))
    ∙ part_join l 0 8 8 8 refl ∙ take_all 16 l (omega arith)

-- ---- the test of two tags

pub tag_eq_lem : (a b : Tag) → tag_eq a b ≡ true → a ≡ b
tag_eq_lem a b e =
    let p = both_true (eqb a.t0 b.t0) (eqb a.t1 b.t1) e in
    ap₂ tag (eqb-true a.t0 b.t0 p.0) (eqb-true a.t1 b.t1 p.1)

pub eq_tag : (a b : Tag) → a ≡ b → tag_eq a b ≡ true
eq_tag a b e = true_both (eqb a.t0 b.t0) (eqb a.t1 b.t1) (eq-eqb a.t0 b.t0 (ap (λ (x : Tag). x.t0) e)) (eq-eqb a.t1 b.t1 (ap (λ (x : Tag). x.t1) e))
