-- Xor of numbers is associative. Assumes nothing.
use mathlib.Core.Path.{◌≡◌, sym, ◌∙◌, ap}
use mathlib.Core.Logic.{◌⊎◌, inl, inr}
use Prim.Native.Nat.{ℕ, zero, suc, ◌≤◌, ◌/◌, ◌%◌}
use native.Mathlib.Decide.{ℕ_discrete}
use native.Mathlib.Omega.{arith}
use lib.Bits.{bit_xor, xor_zero_l, xor_shr, xor_mod}

-- xor, shut: an open one would unfold in every goal
unfoldable xr : ℕ → ℕ → ℕ
xr a b = bit_xor a b

half : (a b : ℕ) → xr a b / 2 ≡ xr (a / 2) (b / 2)
unfolding xr
half a b = xor_shr a b 1

low : (a b : ℕ) → xr a b % 2 ≡ xr (a % 2) (b % 2)
unfolding xr
low a b = xor_mod a b 1

zero_left : (b : ℕ) → xr 0 b ≡ b
unfolding xr
zero_left b = xor_zero_l b

bit : (n : ℕ) → (n % 2 ≡ 0) ⊎ (n % 2 ≡ 1)
bit n = elim (ℕ_discrete (n % 2) 0) [ yes e ↦ inl e | no d ↦ inr (omega arith) ]

bits_assoc : (x y z : ℕ) → (x ≡ 0) ⊎ (x ≡ 1) → (y ≡ 0) ⊎ (y ≡ 1) → (z ≡ 0) ⊎ (z ≡ 1) → xr (xr x y) z ≡ xr x (xr y z)
unfolding xr
bits_assoc x y z (inl p) (inl q) (inl r) = rw (p, q, r)
bits_assoc x y z (inl p) (inl q) (inr r) = rw (p, q, r)
bits_assoc x y z (inl p) (inr q) (inl r) = rw (p, q, r)
bits_assoc x y z (inl p) (inr q) (inr r) = rw (p, q, r)
bits_assoc x y z (inr p) (inl q) (inl r) = rw (p, q, r)
bits_assoc x y z (inr p) (inl q) (inr r) = rw (p, q, r)
bits_assoc x y z (inr p) (inr q) (inl r) = rw (p, q, r)
bits_assoc x y z (inr p) (inr q) (inr r) = rw (p, q, r)

halves : (m n : ℕ) → m / 2 ≡ n / 2 → m % 2 ≡ n % 2 → m ≡ n
halves m n p q = omega arith

assoc_to : (n a b c : ℕ) → a ≤ n → xr (xr a b) c ≡ xr a (xr b c)
assoc_to zero a b c h = let z : a ≡ 0 = omega arith in rw (z, zero_left b, zero_left (xr b c))
assoc_to (suc n) a b c h =
    halves _ _
    (half (xr a b) c ∙ ap (λ x. xr x (c / 2)) (half a b) ∙ assoc_to n (a / 2) (b / 2) (c / 2) (omega arith) ∙ ap (xr (a / 2)) (sym (half b c)) ∙ sym (half a (xr b c)))
    (low (xr a b) c ∙ ap (λ x. xr x (c % 2)) (low a b) ∙ bits_assoc (a % 2) (b % 2) (c % 2) (bit a) (bit b) (bit c) ∙ ap (xr (a % 2)) (sym (low b c)) ∙ sym (low a (xr b c)))

pub xor_assoc : (a b c : ℕ) → bit_xor (bit_xor a b) c ≡ bit_xor a (bit_xor b c)
unfolding xr
xor_assoc a b c = assoc_to a a b c (omega arith)
