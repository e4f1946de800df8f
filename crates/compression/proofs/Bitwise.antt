-- The forms in which the code works Ch and Maj are the standard's. Assumes nothing.
use Rattle.std.proofs.Common.{◌≡◌, ℕ, zero, suc, ◌+◌, ◌-◌, ◌*◌, ◌/◌, ◌%◌, ◌^◌, ◌<◌, sym, refl, ap, ◌∙◌, ap₂, pow-suc, div-add-mod', arith}
use lib.Bits.{bit_and, bit_xor, and_shr, xor_shr, and_mod, xor_mod}
use Rattle.compression.specs.Functions.{ch, maj}

half_and : (a b : ℕ) → bit_and a b / 2 ≡ bit_and (a / 2) (b / 2)
half_and a b = and_shr a b 1

half_xor : (a b : ℕ) → bit_xor a b / 2 ≡ bit_xor (a / 2) (b / 2)
half_xor a b = xor_shr a b 1

low_and : (a b : ℕ) → bit_and a b % 2 ≡ bit_and (a % 2) (b % 2)
low_and a b = and_mod a b 1

low_xor : (a b : ℕ) → bit_xor a b % 2 ≡ bit_xor (a % 2) (b % 2)
low_xor a b = xor_mod a b 1

-- an expression in three words that is worked bit by bit
record Bitwise (e : ℕ → ℕ → ℕ → ℕ) : Type 0 where
  half : (x y z : ℕ) → e x y z / 2 ≡ e (x / 2) (y / 2) (z / 2)
  low : (x y z : ℕ) → e x y z % 2 ≡ e (x % 2) (y % 2) (z % 2)

-- two of them that agree on bits agree on words
words_agree : (e f : ℕ → ℕ → ℕ → ℕ) → Bitwise e → Bitwise f → ((x y z : ℕ) → x < 2 → y < 2 → z < 2 → e x y z ≡ f x y z)
    → (k x y z : ℕ) → x < 2 ^ k → y < 2 ^ k → z < 2 ^ k → e x y z ≡ f x y z
words_agree e f p q g zero x y z a b c = g x y z (omega arith) (omega arith) (omega arith)
words_agree e f p q g (suc k) x y z a b c =
    sym (div-add-mod' (e x y z) 2)
    ∙ ap₂ (λ (h l : ℕ). h * 2 + l)
    (p.half x y z ∙ words_agree e f p q g k (x / 2) (y / 2) (z / 2) (omega arith) (omega arith) (omega arith) ∙ sym (q.half x y z))
    (p.low x y z ∙ g (x % 2) (y % 2) (z % 2) (omega arith) (omega arith) (omega arith) ∙ sym (q.low x y z))
    ∙ div-add-mod' (f x y z) 2

bit_cases : (P : ℕ → Type 0) → P 0 → P 1 → (x : ℕ) → x < 2 → P x
bit_cases P p q zero h = p
bit_cases P p q (suc zero) h = q
bit_cases P p q (suc (suc x)) h = let z : ⊥ = omega arith in absurd z

-- so it is enough to work them on the eight triples of bits
module _ (e f : ℕ → ℕ → ℕ → ℕ) (p : Bitwise e) (q : Bitwise f) where
  from_bits : e 0 0 0 ≡ f 0 0 0 → e 0 0 1 ≡ f 0 0 1 → e 0 1 0 ≡ f 0 1 0 → e 0 1 1 ≡ f 0 1 1
      → e 1 0 0 ≡ f 1 0 0 → e 1 0 1 ≡ f 1 0 1 → e 1 1 0 ≡ f 1 1 0 → e 1 1 1 ≡ f 1 1 1
      → (k x y z : ℕ) → x < 2 ^ k → y < 2 ^ k → z < 2 ^ k → e x y z ≡ f x y z
  from_bits p0 p1 p2 p3 p4 p5 p6 p7 =
      words_agree e f p q
      (λ x y z a b c.
      bit_cases (λ (u : ℕ). e u y z ≡ f u y z)
      (bit_cases (λ (v : ℕ). e 0 v z ≡ f 0 v z) (bit_cases (λ (w : ℕ). e 0 0 w ≡ f 0 0 w) p0 p1 z c) (bit_cases (λ (w : ℕ). e 0 1 w ≡ f 0 1 w) p2 p3 z c) y b)
      (bit_cases (λ (v : ℕ). e 1 v z ≡ f 1 v z) (bit_cases (λ (w : ℕ). e 1 0 w ≡ f 1 0 w) p4 p5 z c) (bit_cases (λ (w : ℕ). e 1 1 w ≡ f 1 1 w) p6 p7 z c) y b)
      x a)

-- ---- Maj

abbrev pub quick_maj : ℕ → ℕ → ℕ → ℕ
quick_maj x y z = bit_xor (bit_and (bit_xor x y) (bit_xor y z)) y

pub maj_is : (x y z : ℕ) → x < 2 ^ 32 → y < 2 ^ 32 → z < 2 ^ 32 → quick_maj x y z ≡ maj x y z
maj_is =
    from_bits quick_maj maj (record { half = λ x y z. simp (half_xor, half_and); low = λ x y z. simp (low_xor, low_and) })
    (record { half = λ x y z. simp (half_xor, half_and); low = λ x y z. simp (low_xor, low_and) })
    refl refl refl refl refl refl refl refl 32

-- ---- Ch: the complement is worked at a width, so it goes first

abbrev pub quick_ch : ℕ → ℕ → ℕ → ℕ
quick_ch x y z = bit_xor (bit_and (bit_xor y z) x) z

abbrev plain_ch : ℕ → ℕ → ℕ → ℕ
plain_ch x y z = bit_xor (bit_and x y) (bit_xor z (bit_and x z))

kept_bit : (x z : ℕ) → x < 2 → z < 2 → bit_and (1 - x) z ≡ bit_xor z (bit_and x z)
kept_bit x z a b =
    bit_cases (λ (u : ℕ). bit_and (1 - u) z ≡ bit_xor z (bit_and u z))
    (bit_cases (λ (v : ℕ). bit_and 1 v ≡ bit_xor v (bit_and 0 v)) refl refl z b)
    (bit_cases (λ (v : ℕ). bit_and 0 v ≡ bit_xor v (bit_and 1 v)) refl refl z b) x a

not_half : (p x : ℕ) → x < p * 2 → ((p * 2 - 1) - x) / 2 ≡ (p - 1) - x / 2
not_half p x a = omega arith

not_low : (p x : ℕ) → x < p * 2 → ((p * 2 - 1) - x) % 2 ≡ 1 - x % 2
not_low p x a = omega arith

-- what the complement of x keeps of z
kept : (k x z : ℕ) → x < 2 ^ k → z < 2 ^ k → bit_and ((2 ^ k - 1) - x) z ≡ bit_xor z (bit_and x z)
kept zero x z a b =
    let p : x ≡ 0 = omega arith in
    let q : z ≡ 0 = omega arith in
    rw (p, q)
kept (suc k) x z a b =
    let h : ((2 ^ suc k - 1) - x) / 2 ≡ (2 ^ k - 1) - x / 2 = rw pow-suc (not_half (2 ^ k) x (rw pow-suc at a)) in
    let l : ((2 ^ suc k - 1) - x) % 2 ≡ 1 - x % 2 = rw pow-suc (not_low (2 ^ k) x (rw pow-suc at a)) in
    let u : bit_and ((2 ^ suc k - 1) - x) z / 2 ≡ bit_xor (z / 2) (bit_and (x / 2) (z / 2)) =
    half_and ((2 ^ suc k - 1) - x) z ∙ ap (λ (t : ℕ). bit_and t (z / 2)) h ∙ kept k (x / 2) (z / 2) (omega arith) (omega arith) in
    let v : bit_and ((2 ^ suc k - 1) - x) z % 2 ≡ bit_xor (z % 2) (bit_and (x % 2) (z % 2)) =
    low_and ((2 ^ suc k - 1) - x) z ∙ ap (λ (t : ℕ). bit_and t (z % 2)) l ∙ kept_bit (x % 2) (z % 2) (omega arith) (omega arith) in
    let u' : bit_xor z (bit_and x z) / 2 ≡ bit_xor (z / 2) (bit_and (x / 2) (z / 2)) = simp (half_xor, half_and) in
    let v' : bit_xor z (bit_and x z) % 2 ≡ bit_xor (z % 2) (bit_and (x % 2) (z % 2)) = simp (low_xor, low_and) in
    sym (div-add-mod' (bit_and ((2 ^ suc k - 1) - x) z) 2) ∙ ap₂ (λ (a b : ℕ). a * 2 + b) (u ∙ sym u') (v ∙ sym v') ∙ div-add-mod' (bit_xor z (bit_and x z)) 2

pub ch_is : (x y z : ℕ) → x < 2 ^ 32 → y < 2 ^ 32 → z < 2 ^ 32 → quick_ch x y z ≡ ch x y z
ch_is x y z a b c =
    from_bits quick_ch plain_ch (record { half = λ x y z. simp (half_xor, half_and); low = λ x y z. simp (low_xor, low_and) })
    (record { half = λ x y z. simp (half_xor, half_and); low = λ x y z. simp (low_xor, low_and) })
    refl refl refl refl refl refl refl refl 32 x y z a b c
    ∙ ap (bit_xor (bit_and x y)) (sym (kept 32 x z a c))
