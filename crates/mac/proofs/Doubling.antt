-- Doubling a block word by word is RFC 4493's doubling of a number of 128 bits. Assumes nothing.
use mathlib.Core.Path.{◌≡◌, ap, ap₂, sym, ◌∙◌}
use Prim.Native.Nat.{ℕ, ◌+◌, ◌*◌, ◌/◌, ◌%◌, ◌^◌, ◌<◌}
use native.Mathlib.Nat.{add-zero, div-div-eq-div-mul, zero-add}
use native.Mathlib.Omega.{arith}
use lib.Arith.{mod-mul, digits_div, digits_mod}
use lib.Bits.{bit_xor, xor_zero_r, xor_block}
use lib.Dec.{lit<}
use Rattle.aes.specs.Aes.{state}
use Rattle.mac.specs.Cmac.{double}

-- the number of 128 bits that four words make
abbrev pub block_number : ℕ → ℕ → ℕ → ℕ → ℕ
block_number a b c d = ((a * 2 ^ 32 + b) * 2 ^ 32 + c) * 2 ^ 32 + d

module _ (q r : ℕ) (h : r < 2 ^ 32) where
  mod_step : (m : ℕ) → 0 < m → (q * 2 ^ 32 + r) % (m * 2 ^ 32) ≡ q % m * 2 ^ 32 + r
  mod_step m z = mod-mul (q * 2 ^ 32 + r) {m = m} {c = 2 ^ 32} z (lit< tt) ∙ ap₂ (λ (x y : ℕ). x % m * 2 ^ 32 + y) (digits_div q h) (digits_mod q h)

  div_step : (m : ℕ) → (q * 2 ^ 32 + r) / (2 ^ 32 * m) ≡ q / m
  div_step m = sym (div-div-eq-div-mul (q * 2 ^ 32 + r) (2 ^ 32) m) ∙ ap (λ (x : ℕ). x / m) (digits_div q h)

  -- a word moves one bit to the left, with a bit t from the word after it
  shift_step : (t : ℕ) → (q * 2 ^ 32 + r) * 2 + t ≡ (q * 2 + r / 2 ^ 31) * 2 ^ 32 + (r * 2 % 2 ^ 32 + t)
  shift_step t = omega arith

top_step : (a t : ℕ) → a < 2 ^ 32 → t < 2 → (a * 2 + t) % 2 ^ 32 ≡ a * 2 % 2 ^ 32 + t
top_step a t h k = omega arith

-- doubling word by word is RFC 4493's: one bit to the left in 128 bits, and 0x87 where the highest bit went out
module _ (a b c d : ℕ) (ha : a < 2 ^ 32) (hb : b < 2 ^ 32) (hc : c < 2 ^ 32) (hd : d < 2 ^ 32) where
  abbrev b2 : ℕ
  b2 = b * 2 % 2 ^ 32 + c / 2 ^ 31

  abbrev c2 : ℕ
  c2 = c * 2 % 2 ^ 32 + d / 2 ^ 31

  abbrev d2 : ℕ
  d2 = d * 2 % 2 ^ 32 + 0

  shifted_left : (block_number a b c d * 2 + 0) % 2 ^ 128 ≡ block_number (a * 2 % 2 ^ 32 + b / 2 ^ 31) b2 c2 d2
  shifted_left =
      ap (λ (x : ℕ). x % 2 ^ 128)
      (shift_step ((a * 2 ^ 32 + b) * 2 ^ 32 + c) d hd 0
      ∙ ap (λ (x : ℕ). x * 2 ^ 32 + d2) (shift_step (a * 2 ^ 32 + b) c hc (d / 2 ^ 31))
      ∙ ap (λ (x : ℕ). (x * 2 ^ 32 + c2) * 2 ^ 32 + d2) (shift_step a b hb (c / 2 ^ 31)))
      ∙ mod_step (((a * 2 + b / 2 ^ 31) * 2 ^ 32 + b2) * 2 ^ 32 + c2) d2 (omega arith) (2 ^ 96) (lit< tt)
      ∙ ap (λ (x : ℕ). x * 2 ^ 32 + d2)
      (mod_step ((a * 2 + b / 2 ^ 31) * 2 ^ 32 + b2) c2 (omega arith) (2 ^ 64) (lit< tt)
      ∙ ap (λ (x : ℕ). x * 2 ^ 32 + c2) (mod_step (a * 2 + b / 2 ^ 31) b2 (omega arith) (2 ^ 32) (lit< tt) ∙ ap (λ (x : ℕ). x * 2 ^ 32 + b2) (top_step a (b / 2 ^ 31) ha (omega arith))))

  highest_bit : block_number a b c d / 2 ^ 127 ≡ a / 2 ^ 31
  highest_bit = div_step ((a * 2 ^ 32 + b) * 2 ^ 32 + c) d hd (2 ^ 95) ∙ div_step (a * 2 ^ 32 + b) c hc (2 ^ 63) ∙ div_step a b hb (2 ^ 31)

  pub double_number :
      let r = double (state a b c d) in
      block_number r.w0 r.w1 r.w2 r.w3 ≡ bit_xor (block_number a b c d * 2 % 2 ^ 128) (block_number a b c d / 2 ^ 127 * 0x87)
  unfolding double
  double_number =
      let high = (a * 2 % 2 ^ 32 + b / 2 ^ 31) * 2 ^ 32 + (b * 2 % 2 ^ 32 + c / 2 ^ 31) in
      let upper = high * 2 ^ 32 + (c * 2 % 2 ^ 32 + d / 2 ^ 31) in
      ap (λ (x : ℕ). x * 2 ^ 32 + bit_xor (d * 2 % 2 ^ 32) (a / 2 ^ 31 * 0x87)) (sym (xor_zero_r upper))
      ∙ sym (xor_block 32 upper 0 (d * 2 % 2 ^ 32) (a / 2 ^ 31 * 0x87) (omega arith) (omega arith))
      ∙ ap (bit_xor (upper * 2 ^ 32 + d * 2 % 2 ^ 32)) (zero-add (a / 2 ^ 31 * 0x87))
      ∙ sym (ap₂ (λ (x y : ℕ). bit_xor x (y * 0x87)) whole_left highest_bit)
    where
      whole_left : block_number a b c d * 2 % 2 ^ 128 ≡ block_number (a * 2 % 2 ^ 32 + b / 2 ^ 31) b2 c2 (d * 2 % 2 ^ 32)
      whole_left =
          ap (λ (x : ℕ). x % 2 ^ 128) (sym (add-zero (block_number a b c d * 2))) ∙ shifted_left
          ∙ ap (λ (x : ℕ). block_number (a * 2 % 2 ^ 32 + b / 2 ^ 31) b2 c2 x) (add-zero (d * 2 % 2 ^ 32))
