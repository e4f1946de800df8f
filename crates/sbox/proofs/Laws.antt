-- Laws of the field, of the S-box and of the tables. Assumes nothing.
use mathlib.Core.Path.{◌≡◌, refl, ap, sym, ◌∙◌, subst}
use mathlib.Core.List.{List, [], ◌∷◌, ◌++◌}
use Prim.Native.Nat.{ℕ, zero, suc, ◌+◌, ◌*◌, ◌/◌, ◌%◌, ◌^◌, ◌<◌}
use native.Mathlib.Decide.{ℕ_discrete}
use native.Mathlib.Nat.{mod-lt, pow-suc, mul_comm}
use native.Mathlib.Numerals.{add-one}
use native.Mathlib.Omega.{arith}
use lib.Arith.{lt_of_le-ne, digits_lt}
use lib.Bits.{bit_xor, xor_lt}
use lib.Dec.{lit<}
use lib.ListN.{length, get_or, length-append, get_or-append}
use lib.Seq.{get_or_at}
use Rattle.std.proofs.Common.{map}
use Rattle.std.proofs.lemmas.List.{get_or-map}
use Rattle.sbox.specs.Field.{xtime, three, bit, affine_bits, affine, inverse, values_of, sbox, sub}
use Rattle.sbox.specs.Columns.{spread}
use Rattle.sbox.specs.Vectors.{figure, figure7}

-- ---- values of a function in a list

pub values_length : (f : ℕ → ℕ) (n : ℕ) → length (values_of f n) ≡ n
unfolding values_of
values_length f zero = refl
values_length f (suc n) = length-append (values_of f n) (f n ∷ []) ∙ ap (λ (k : ℕ). k + 1) (values_length f n) ∙ add-one n

pub values_at : (f : ℕ → ℕ) (n i : ℕ) → i < n → get_or (values_of f n) i 0 ≡ f i
unfolding values_of
values_at f zero i h = absurd (omega arith)
values_at f (suc n) i h =
    elim (ℕ_discrete i n) [
      | yes e ↦ ap (λ (k : ℕ). get_or (values_of f n ++ f n ∷ []) k 0) e ∙ get_or_at (values_of f n) (f n) [] 0 n (values_length f n) ∙ ap f (sym e)
      | no d ↦
          get_or-append (values_of f n) (f n ∷ []) 0 i (subst (λ (k : ℕ). i < k) (sym (values_length f n)) (lt_of_le-ne (omega arith) d)) ∙ values_at f n i (lt_of_le-ne (omega arith) d)
    ]

one_lt : (x m i : ℕ) → x < m → get_or (x ∷ []) i 0 < m
one_lt x m zero h = h
one_lt x m (suc i) h = omega arith

append_lt : (l : List ℕ) (x m : ℕ) → x < m → ((i : ℕ) → get_or l i 0 < m) → (i : ℕ) → get_or (l ++ x ∷ []) i 0 < m
append_lt [] x m h p i = one_lt x m i h
append_lt (y ∷ l) x m h p zero = p 0
append_lt (y ∷ l) x m h p (suc i) = append_lt l x m h (λ j. p (suc j)) i

values_lt : (f : ℕ → ℕ) (m : ℕ) → 0 < m → ((b : ℕ) → f b < m) → (n i : ℕ) → get_or (values_of f n) i 0 < m
unfolding values_of
values_lt f m z h zero i = z
values_lt f m z h (suc n) i = append_lt (values_of f n) (f n) m (h n) (values_lt f m z h n) i

-- ---- bytes

affine_bits_lt : (b n : ℕ) → affine_bits b n < 2 ^ n
unfolding affine_bits
affine_bits_lt b zero = lit< tt
affine_bits_lt b (suc n) = rw (pow-suc, mul_comm (2 ^ n) 2) (digits_lt {m = 2} (mod-lt (bit b n + bit b (n + 4) + bit b (n + 5) + bit b (n + 6) + bit b (n + 7) + bit 0x63 n) (lit< tt)) (affine_bits_lt b n))

affine_lt : (b : ℕ) → affine b < 256
unfolding affine
affine_lt b = affine_bits_lt b 8

-- the substitution of a byte is the affine rule after the inverse
pub sub_rule : (b : ℕ) → b < 256 → sub b ≡ affine (inverse b)
unfolding sub sbox
sub_rule b h = values_at (λ x. affine (inverse x)) 256 b h

pub sub_lt : (b : ℕ) → sub b < 256
unfolding sub sbox
sub_lt b = values_lt (λ x. affine (inverse x)) 256 (lit< tt) (λ x. affine_lt (inverse x)) 256 b

pub xtime_lt : (b : ℕ) → b < 256 → xtime b < 256
unfolding xtime
xtime_lt b h = xor_lt 8 (b / 128 * 0x1b) (b * 2 % 256) (omega arith) (omega arith)

pub xlt : {a b : ℕ} → a < 256 → b < 256 → bit_xor a b < 256
xlt {a} {b} h k = xor_lt 8 a b h k

pub three_lt : (b : ℕ) → b < 256 → three b < 256
three_lt b h = xlt (xtime_lt b h) h

-- ---- the tables

-- the substitution as figure 7 of FIPS 197 has it, which computes at once
pub sub_figure : (b : ℕ) → get_or figure b 0 ≡ sub b
unfolding sub
sub_figure b = ap (λ (l : List ℕ). get_or l b 0) (sym figure7)

figure_length : length figure ≡ 256
unfolding figure
figure_length = refl

-- and each column
pub spread_figure : (b : ℕ) → b < 256 → get_or (map spread figure) b 0 ≡ spread (sub b)
spread_figure b h = get_or-map spread figure b 0 0 (rw figure_length h) ∙ ap spread (sub_figure b)
