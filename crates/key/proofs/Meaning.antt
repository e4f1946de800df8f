-- What the tests on words say of the bits: `above` is proper prefix, `toward` the next bit, and equal bits are equal keys.
-- Leans on Laws; assumes nothing.
use Prim.Native.Nat.{ℕ, zero, suc, ◌+◌, ◌*◌, ◌-◌, ◌/◌, ◌%◌, ◌^◌, ◌≤◌, ◌<◌}
use mathlib.Core.Path.{◌≡◌, refl, ap, ap₂, sym, ◌∙◌}
use mathlib.Core.List.{List, [], ◌∷◌, ◌++◌}
use mathlib.Core.Bool.{Bool, true, false}
use native.Mathlib.Nat.{div-eq_of_lt, mod-lt, zero-add, sub-zero}
use native.Mathlib.Decide.{dec_lt, dec_le}
use native.Mathlib.Omega.{arith}
use lib.ListN.{length, get_or, take, drop, length-append, get_or-append}
use lib.Seq.{split_at, take-append-le, take_all, get_or_at}
use lib.Pow.{shr-shr, split}
use lib.Dec.{eqb, ltb, leb, lit<}
use borrow.Author.Tests.{eqb-true, eq-eqb, ltb-true, lt-ltb, le-ltb, leb-true}
use Rattle.words.specs.Choice.{pick}
use Rattle.words.proofs.Laws.{both_true, true_both}
use Rattle.key.specs.Keys.{KeyFits, well_key, clean, same_top, above, toward, bit_at}
use Rattle.key.specs.Bits.{first_bits, bits, shared, ProperPrefix}
use Rattle.key.specs.declared.Key.{Key}
use Rattle.key.proofs.Laws.{key_ext}

-- ---- one word

-- bit i of a word, the top one first
abbrev bit : ℕ → ℕ → ℕ
bit x i = x / 2 ^ (63 - i) % 2

-- the first n bits of a word, as a number
abbrev top : ℕ → ℕ → ℕ
top n x = x / 2 ^ (64 - n)

top→bit : (x y n i : ℕ) → i < 64 → i < n → top n x ≡ top n y → bit x i ≡ bit y i
top→bit x y n i h l e =
    let d : 63 - i ≡ (64 - n) + ((63 - i) - (64 - n)) = omega arith in
    rw (d, ← shr-shr x (64 - n) ((63 - i) - (64 - n)), ← shr-shr y (64 - n) ((63 - i) - (64 - n)), e)

module _ (x y : ℕ) (a : x < 2 ^ 64) (b : y < 2 ^ 64) where
  bits→top_within : (n : ℕ) → n ≤ 64 → ((i : ℕ) → i < n → bit x i ≡ bit y i) → top n x ≡ top n y
  bits→top_within zero h f = div-eq_of_lt a ∙ sym (div-eq_of_lt b)
  bits→top_within (suc n) h f =
      let j : 64 - n ≡ (64 - suc n) + 1 = omega arith in
      let m : 63 - n ≡ 64 - suc n = omega arith in
      let r : top n x ≡ top n y = bits→top_within n (omega arith) (λ i l. f i (omega arith)) in
      let s : top (suc n) x / 2 ≡ top (suc n) y / 2
      = shr-shr x (64 - suc n) 1 ∙ ap (λ (k : ℕ). x / 2 ^ k) (sym j) ∙ r ∙ ap (λ (k : ℕ). y / 2 ^ k) j ∙ sym (shr-shr y (64 - suc n) 1) in
      let t : top (suc n) x % 2 ≡ top (suc n) y % 2 = rw m at (f n (omega arith)) in
      omega arith

  bits→top : (n : ℕ) → ((i : ℕ) → i < 64 → i < n → bit x i ≡ bit y i) → top n x ≡ top n y
  bits→top n f = elim (dec_le n 64) [
    | yes h ↦ bits→top_within n h (λ i l. f i (omega arith) l)
    | no h ↦ let z : 64 - n ≡ 64 - 64 = omega arith in rw z (bits→top_within 64 (omega arith) (λ i l. f i l (omega arith)))
  ]

-- a word whose bits past the first n are zero is those bits
clean_top : (x y n : ℕ) → clean n x ≡ true → clean n y ≡ true → top n x ≡ top n y → x ≡ y
unfolding clean
clean_top x y n p q e =
    let p0 : x % 2 ^ (64 - n) ≡ 0 = eqb-true _ _ p in
    let q0 : y % 2 ^ (64 - n) ≡ 0 = eqb-true _ _ q in
    sym (split x (64 - n)) ∙ rw (e, p0, ← q0) (split y (64 - n))

-- ---- the four words of a key

abbrev word : Key → ℕ → ℕ
word k zero = k.w0
word k (suc zero) = k.w1
word k (suc (suc zero)) = k.w2
word k (suc (suc (suc j))) = k.w3

word_fits : (k : Key) → KeyFits k → (j : ℕ) → word k j < 2 ^ 64
word_fits k f zero = f.w0
word_fits k f (suc zero) = f.w1
word_fits k f (suc (suc zero)) = f.w2
word_fits k f (suc (suc (suc j))) = f.w3

-- what holds of each of the four
each : (P : ℕ → Type 0) → P 0 → P 1 → P 2 → P 3 → (j : ℕ) → j < 4 → P j
each P p q r s zero h = p
each P p q r s (suc zero) h = q
each P p q r s (suc (suc zero)) h = r
each P p q r s (suc (suc (suc zero))) h = s
each P p q r s (suc (suc (suc (suc j)))) h = absurd (omega arith)

-- bit i of word j
bit_word : (k : Key) (j i : ℕ) → j < 4 → i < 64 → bit_at k (64 * j + i) ≡ bit (word k j) i
unfolding bit_at
bit_word k zero i g h = rw (zero-add i, lt-ltb i 64 h)
bit_word k (suc zero) i g h =
    let d : 127 - (64 + i) ≡ 63 - i = omega arith in rw (le-ltb (64 + i) 64 (omega arith), lt-ltb (64 + i) 128 (omega arith), d)
bit_word k (suc (suc zero)) i g h =
    let d : 191 - (128 + i) ≡ 63 - i = omega arith in
    rw (le-ltb (128 + i) 64 (omega arith), le-ltb (128 + i) 128 (omega arith), lt-ltb (128 + i) 192 (omega arith), d)
bit_word k (suc (suc (suc zero))) i g h =
    let d : 255 - (192 + i) ≡ 63 - i = omega arith in
    rw (le-ltb (192 + i) 64 (omega arith), le-ltb (192 + i) 128 (omega arith), le-ltb (192 + i) 192 (omega arith), d)
bit_word k (suc (suc (suc (suc j)))) i g h = absurd (omega arith)

pick_small : (t : Bool) (x y : ℕ) → x < 2 → y < 2 → pick t x y < 2
pick_small true x y p q = p
pick_small false x y p q = q

-- a bit is 0 or 1
pub bit_small : (k : Key) (i : ℕ) → bit_at k i < 2
unfolding bit_at
bit_small k i =
    pick_small (ltb i 64) _ _ (mod-lt _ (lit< tt))
    (pick_small (ltb i 128) _ _ (mod-lt _ (lit< tt)) (pick_small (ltb i 192) _ _ (mod-lt _ (lit< tt)) (mod-lt _ (lit< tt))))

-- two keys have the same first n bits, word by word
SameTops : ℕ → Key → Key → Type 0
SameTops n a b = (j : ℕ) → j < 4 → top (n - 64 * j) (word a j) ≡ top (n - 64 * j) (word b j)

-- and bit by bit
SameBits : ℕ → Key → Key → Type 0
SameBits n a b = (i : ℕ) → i < n → bit_at a i ≡ bit_at b i

tops→bits : (n : ℕ) (a b : Key) → n ≤ 256 → SameTops n a b → SameBits n a b
unfolding SameTops SameBits
tops→bits n a b h f i l =
    let d : i ≡ 64 * (i / 64) + i % 64 = omega arith in
    let j : i / 64 < 4 = omega arith in
    let m : i % 64 < 64 = omega arith in
    ap (bit_at a) d ∙ bit_word a (i / 64) (i % 64) j m ∙ top→bit (word a (i / 64)) (word b (i / 64)) (n - 64 * (i / 64)) (i % 64) m (omega arith) (f (i / 64) j)
    ∙ sym (bit_word b (i / 64) (i % 64) j m) ∙ ap (bit_at b) (sym d)

bits→tops : (n : ℕ) (a b : Key) → KeyFits a → KeyFits b → SameBits n a b → SameTops n a b
unfolding SameTops SameBits
bits→tops n a b p q f j h =
    bits→top (word a j) (word b j) (word_fits a p j) (word_fits b q j) (n - 64 * j)
    (λ i m l. sym (bit_word a j i h m) ∙ f (64 * j + i) (omega arith) ∙ bit_word b j i h m)

-- ---- the lists of bits

first_length : (n : ℕ) (k : Key) → length (first_bits n k) ≡ n
unfolding first_bits
first_length zero k = refl
first_length (suc n) k = rw (length-append, first_length n k) (omega arith)

first_at : (n : ℕ) (k : Key) (i : ℕ) → i < n → get_or (first_bits n k) i 0 ≡ bit_at k i
unfolding first_bits
first_at zero k i h = absurd (omega arith)
first_at (suc n) k i h = elim (dec_lt i n) [
  | yes l ↦ get_or-append (first_bits n k) (bit_at k n ∷ []) 0 i (rw (first_length n k) l) ∙ first_at n k i l
  | no l ↦ let e : i ≡ n = omega arith in rw e (get_or_at (first_bits n k) (bit_at k n) [] 0 n (first_length n k))
]

first_same : (n : ℕ) (a b : Key) → SameBits n a b → first_bits n a ≡ first_bits n b
unfolding first_bits SameBits
first_same zero a b f = refl
first_same (suc n) a b f = rw (first_same n a b (λ i l. f i (omega arith)), f n (omega arith))

first_agree : (n : ℕ) (a b : Key) → first_bits n a ≡ first_bits n b → SameBits n a b
unfolding SameBits
first_agree n a b e i l = sym (first_at n a i l) ∙ ap (λ (s : List ℕ). get_or s i 0) e ∙ first_at n b i l

first_take : (n m : ℕ) (k : Key) → n ≤ m → take n (first_bits m k) ≡ first_bits n k
unfolding first_bits
first_take n zero k h = let e : n ≡ 0 = omega arith in rw e
first_take n (suc m) k h = elim (dec_le n m) [
  | yes l ↦ take-append-le n (first_bits m k) (bit_at k m ∷ []) (rw (first_length m k) l) ∙ first_take n m k l
  | no l ↦ let e : n ≡ suc m = omega arith in rw e (take_all (suc m) (first_bits (suc m) k) (rw (first_length (suc m) k) (omega arith)))
]

pub bits_length : (k : Key) → length (bits k) ≡ k.len
unfolding bits
bits_length k = first_length k.len k

-- ---- the tests of a key, taken apart and put together

above→tops : (a b : Key) → above a b ≡ true → (a.len < b.len) × SameTops a.len a b
unfolding above same_top SameTops
above→tops a b e =
    let len = both_true (ltb a.len b.len) _ e in
    let w0 = both_true (eqb (top a.len a.w0) (top a.len b.w0)) _ len.1 in
    let w1 = both_true (eqb (top (a.len - 64) a.w1) (top (a.len - 64) b.w1)) _ w0.1 in
    let w2 = both_true (eqb (top (a.len - 128) a.w2) (top (a.len - 128) b.w2)) _ w1.1 in (
      ltb-true _ _ len.0,
      each (λ j. top (a.len - 64 * j) (word a j) ≡ top (a.len - 64 * j) (word b j)) (rw (sub-zero a.len) (eqb-true _ _ w0.0)) (eqb-true _ _ w1.0)
          (eqb-true _ _ w2.0)
          (eqb-true _ _ w2.1),
    )

tops→above : (a b : Key) → a.len < b.len → SameTops a.len a b → above a b ≡ true
unfolding above same_top SameTops
tops→above a b l f =
    true_both _ _ (lt-ltb _ _ l)
    (true_both _ _ (eq-eqb _ _ (rw (sub-zero a.len) at (f 0 (lit< tt))))
    (true_both _ _ (eq-eqb _ _ (f 1 (lit< tt))) (true_both _ _ (eq-eqb _ _ (f 2 (lit< tt))) (eq-eqb _ _ (f 3 (lit< tt))))))

record Well (k : Key) : Type 0 where
  narrow : k.len ≤ 256
  clear : (j : ℕ) → j < 4 → clean (k.len - 64 * j) (word k j) ≡ true

well_parts : (k : Key) → well_key k ≡ true → Well k
unfolding well_key
well_parts k e =
    let len = both_true (leb k.len 256) _ e in
    let w0 = both_true (clean k.len k.w0) _ len.1 in
    let w1 = both_true (clean (k.len - 64) k.w1) _ w0.1 in
    let w2 = both_true (clean (k.len - 128) k.w2) _ w1.1 in
    record { narrow = leb-true _ _ len.0; clear = each (λ j. clean (k.len - 64 * j) (word k j) ≡ true) (rw (sub-zero k.len) w0.0) w1.0 w2.0 w2.1 }

-- ---- the meaning

-- two well-formed keys with the same bits are the same
pub bits_inj : (a b : Key) → KeyFits a → KeyFits b → well_key a ≡ true → well_key b ≡ true → bits a ≡ bits b → a ≡ b
unfolding bits SameTops
bits_inj a b p q u v e = key_ext a b len (same 0 (lit< tt)) (same 1 (lit< tt)) (same 2 (lit< tt)) (same 3 (lit< tt))
  where
    len : a.len ≡ b.len
    len = sym (bits_length a) ∙ ap length e ∙ bits_length b

    agree : first_bits a.len a ≡ first_bits a.len b
    agree = e ∙ ap (λ (n : ℕ). first_bits n b) (sym len)

    same : (j : ℕ) → j < 4 → word a j ≡ word b j
    same j h =
        clean_top (word a j) (word b j) (a.len - 64 * j) ((well_parts a u).clear j h) (rw len ((well_parts b v).clear j h))
        (bits→tops a.len a b p q (first_agree a.len a b agree) j h)

-- a proper ancestor's bits are a proper prefix, and the next bit is the longer key's bit there
pub above→prefix : (a b : Key) → well_key a ≡ true → above a b ≡ true → ProperPrefix (bits a) (bits b) (bit_at b a.len)
unfolding bits
above→prefix a b u e =
    let t = above→tops a b e in
    let s : first_bits a.len a ≡ first_bits a.len b = first_same a.len a b (tops→bits a.len a b (well_parts a u).narrow t.1) in
    record {
      rest = drop (suc a.len) (bits b);
      joined =
          split_at (bits b) a.len 0 (rw (bits_length b) t.0)
          ∙ rw (first_take a.len b.len b (omega arith), first_at b.len b a.len t.0, s);
    }

module _ (a b : Key) (x : ℕ) (f : ProperPrefix (bits a) (bits b) x) where
  longer : a.len < b.len
  longer = omega (arith, bits_length a, bits_length b, ap length f.joined ∙ length-append (bits a) (x ∷ f.rest))

  prefix_bits : SameBits a.len a b
  unfolding bits SameBits
  prefix_bits i l =
      sym (first_at a.len a i l) ∙ sym (get_or-append (bits a) (x ∷ f.rest) 0 i (rw (bits_length a) l))
      ∙ ap (λ (s : List ℕ). get_or s i 0) (sym f.joined) ∙ first_at b.len b i (omega (arith, longer))

  -- the bit after the prefix is the longer key's bit there
  pub prefix_next : bit_at b a.len ≡ x
  unfolding bits
  prefix_next =
      sym (first_at b.len b a.len longer) ∙ ap (λ (s : List ℕ). get_or s a.len 0) f.joined
      ∙ get_or_at (bits a) x f.rest 0 a.len (bits_length a)

  -- a key whose bits are a proper prefix is a proper ancestor
  pub prefix→above : KeyFits a → KeyFits b → above a b ≡ true
  prefix→above p q = tops→above a b longer (bits→tops a.len a b p q prefix_bits)

  -- the side is right where the next bit is 1, and left where it is not, which is where it is 0 (bit-small)
  pub prefix_toward : toward a b ≡ eqb x 1
  unfolding toward
  prefix_toward = rw prefix_next

  pub toward→one : toward a b ≡ true → x ≡ 1
  toward→one e = eqb-true x 1 (sym prefix_toward ∙ e)

  pub one→toward : x ≡ 1 → toward a b ≡ true
  one→toward e = prefix_toward ∙ eq-eqb x 1 e

-- ---- the same through the number of leading bits that two keys share

shared_front : (xs ys : List ℕ) → shared xs (xs ++ ys) ≡ length xs
unfolding shared
shared_front [] ys = refl
shared_front (x ∷ xs) ys = rw (eq-eqb x x refl, shared_front xs ys) (omega arith)

more : (t : Bool) (n m : ℕ) → pick t (1 + n) 0 ≡ suc m → (t ≡ true) × (n ≡ m)
more true n m e = (refl, omega arith)
more false n m e = absurd (omega arith)

shared→prefix : (xs ys : List ℕ) → shared xs ys ≡ length xs → length xs < length ys → ProperPrefix xs ys (get_or ys (length xs) 0)
unfolding shared
shared→prefix [] [] e h = absurd (omega arith)
shared→prefix [] (y ∷ ys) e h = record { rest = ys; joined = refl }
shared→prefix (x ∷ xs) [] e h = absurd (omega arith)
shared→prefix (x ∷ xs) (y ∷ ys) e h =
    let m = more (eqb x y) (shared xs ys) (length xs) e in
    let f = shared→prefix xs ys m.1 (omega arith) in
    record { rest = f.rest; joined = ap₂ ◌∷◌ (sym (eqb-true x y m.0)) f.joined }

pub above→shared : (a b : Key) → well_key a ≡ true → above a b ≡ true
    → (shared (bits a) (bits b) ≡ length (bits a)) × (length (bits a) < length (bits b))
above→shared a b u e =
    let f = above→prefix a b u e in
    (rw f.joined (shared_front (bits a) (bit_at b a.len ∷ f.rest)), rw (bits_length a, bits_length b) (above→tops a b e).0)

pub shared→above : (a b : Key) → KeyFits a → KeyFits b → shared (bits a) (bits b) ≡ length (bits a) → length (bits a) < length (bits b)
    → above a b ≡ true
shared→above a b p q e h = prefix→above a b _ (shared→prefix (bits a) (bits b) e h) p q
