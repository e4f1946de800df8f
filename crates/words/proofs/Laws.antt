-- Laws of numbers as bytes, over every width, and of splices. Assumes nothing.
use Prim.Native.Nat.{ℕ, zero, suc, ◌+◌, ◌*◌, ◌-◌, ◌/◌, ◌%◌, ◌^◌, ◌≤◌, ◌<◌}
use mathlib.Core.Path.{◌≡◌, refl, ap, ap₂, sym, ◌∙◌}
use mathlib.Core.List.{List, [], ◌∷◌, ◌++◌, append_assoc, append-nil}
use mathlib.Core.Bool.{Bool, true, false, false≢true}
use native.Mathlib.Nat.{add_assoc, add-zero, add-suc, one-le-pow, suc-add, mod-lt, div-one, div-div-eq-div-mul, mul_comm, mul_assoc, pow-suc, add-sub_cancel_left, zero-add, div-add-mod', div-lt_iff_lt-mul}
use native.Mathlib.Numerals.{add-one}
use native.Mathlib.Decide.{dec_lt}
use native.Mathlib.Omega.{arith}
use lib.Dec.{lit<}
use lib.Arith.{mod-mul, digits_lt, digits_div, digits_mod}
use lib.ListN.{length, get_or, replicate, take, drop, set, length-append, length-take, length-drop, length-replicate, take-append-drop, get_or-append, get_or-eq_default}
use lib.Seq.{take-append_seam, drop-append-add, drop-drop, drop-length, set_split, get_or_at, get_or-append-add, get_or-drop, take-suc, take_at, take_all, take-add, get_or-take}
use Rattle.std.specs.Int.{bytes_high_first, from_be_bytes, w64}
use Rattle.std.proofs.lemmas.List.{get_or-replicate, take-replicate, drop-replicate}
use Rattle.words.specs.Choice.{pick, both}
use Rattle.words.specs.Numbers.{number_at, bytes_of, two_words, four_words, zeros, Bytes}
use Rattle.words.specs.Splices.{splice, part}

-- ---- numbers

pub bytes_length : (n x : ℕ) → length (bytes_of n x) ≡ n
unfolding bytes_of
bytes_length zero x = refl
bytes_length (suc n) x = length-append (bytes_of n (x / 256)) (x % 256 ∷ []) ∙ ap (λ (k : ℕ). k + 1) (bytes_length n (x / 256)) ∙ add-one n

-- a number is read from its own bytes alone
pub number_front : (n : ℕ) (s r : List ℕ) (at : ℕ) → at + n ≤ length s → number_at n (s ++ r) at ≡ number_at n s at
unfolding number_at
number_front zero s r at h = refl
number_front (suc n) s r at h =
    rw (number_front n s r at (omega arith), get_or-append s r 0 (at + n) (omega arith))

-- behind s, a place counts from its end
pub number_behind : (n : ℕ) (s r : List ℕ) (at k : ℕ) → length s ≡ k → number_at n (s ++ r) (k + at) ≡ number_at n r at
unfolding number_at
number_behind zero s r at k e = refl
number_behind (suc n) s r at k e =
    rw (number_behind n s r at k e, ← e, add_assoc (length s) at n, get_or-append-add s r (at + n) 0)

fits_div : (n x : ℕ) → x < 256 ^ suc n → x / 256 < 256 ^ n
fits_div n x h = (div-lt_iff_lt-mul {k = 256} {x = x} {y = 256 ^ n} (lit< tt)).1 (rw pow-suc at h)

-- what is written as a number of n bytes is read as that number
pub number_back : (n x : ℕ) (r : List ℕ) → x < 256 ^ n → number_at n (bytes_of n x ++ r) 0 ≡ x
unfolding number_at bytes_of
number_back zero x r h = omega arith
number_back (suc n) x r h =
    rw (append_assoc, number_back n (x / 256) (x % 256 ∷ [] ++ r) (fits_div n x h), zero-add, get_or_at (bytes_of n (x / 256)) (x % 256) r 0 n (bytes_length n (x / 256)))
    (div-add-mod' x 256)

-- a part with one byte more
part_suc : (s : List ℕ) (at n : ℕ) → at + suc n ≤ length s → part s at (suc n) ≡ part s at n ++ (get_or s (at + n) 0 ∷ [])
part_suc s at n h = take-suc (drop at s) n 0 (rw length-drop (omega arith)) ∙ rw get_or-drop

spread : (x p y d : ℕ) → (x * p + y) * 256 + d ≡ x * (p * 256) + (y * 256 + d)
spread x p y d = rw (← mul_assoc x p 256) (omega arith)

-- what is read as a number of n bytes is written as those bytes
pub bytes_back : (n : ℕ) (s : List ℕ) (at : ℕ) → Bytes s → at + n ≤ length s → bytes_of n (number_at n s at) ≡ part s at n
unfolding number_at bytes_of
bytes_back zero s at b h = refl
bytes_back (suc n) s at b h =
    rw (digits_div (number_at n s at) (b (at + n)), digits_mod (number_at n s at) (b (at + n)), bytes_back n s at b (omega arith))
    (sym (part_suc s at n h))

-- a number of bytes is small
pub number_lt : (n : ℕ) (s : List ℕ) (at : ℕ) → Bytes s → number_at n s at < 256 ^ n
unfolding number_at
number_lt zero s at b = lit< tt
number_lt (suc n) s at b = rw pow-suc (digits_lt (number_lt n s at b) (b (at + n)))

-- a number of a + b bytes is one of a bytes, and one of b behind it
pub number_split : (a b : ℕ) (s : List ℕ) (at : ℕ) → number_at (a + b) s at ≡ number_at a s at * 256 ^ b + number_at b s (at + a)
unfolding number_at
number_split a zero s at = rw add-zero (omega arith)
number_split a (suc b) s at = rw (add-suc, number_split a b s at, pow-suc, add_assoc at a b) (spread (number_at a s at) (256 ^ b) (number_at b s (at + a)) (get_or s (at + (a + b)) 0))

-- two numbers that stand side by side make one
pub number_join : (a b : ℕ) (s : List ℕ) (at x y : ℕ) → x ≡ number_at a s at → y ≡ number_at b s (at + a) → x * 256 ^ b + y ≡ number_at (a + b) s at
number_join a b s at x y p q = rw (p, q) (sym (number_split a b s at))

-- the low n bytes of a number do not see the rest of it
pub bytes_low : (n x : ℕ) → bytes_of n (x % 256 ^ n) ≡ bytes_of n x
unfolding bytes_of
bytes_low zero x = refl
bytes_low (suc n) x =
    rw (pow-suc, mod-mul x {m = 256 ^ n} {c = 256} (one-le-pow n 256 (lit< tt)) (lit< tt), digits_div (x / 256 % 256 ^ n) (mod-lt x (lit< tt)), digits_mod (x / 256 % 256 ^ n) (mod-lt x (lit< tt)), bytes_low n (x / 256))

bytes_front : (a b x : ℕ) → bytes_of (a + b) x ≡ bytes_of a (x / 256 ^ b) ++ bytes_of b x
unfolding bytes_of
bytes_front a zero x = rw (add-zero, div-one, append-nil)
bytes_front a (suc b) x =
    rw (add-suc, bytes_front a b (x / 256), div-div-eq-div-mul, pow-suc, mul_comm 256 (256 ^ b), append_assoc)

-- a number of a + b bytes is written as its high part, and its low part behind it
pub bytes_split : (a b x : ℕ) → bytes_of (a + b) x ≡ bytes_of a (x / 256 ^ b) ++ bytes_of b (x % 256 ^ b)
bytes_split a b x = rw bytes_low (bytes_front a b x)

-- two numbers written side by side are one
pub bytes_join : (m n a b : ℕ) → b < 256 ^ n → bytes_of m a ++ bytes_of n b ≡ bytes_of (m + n) (a * 256 ^ n + b)
bytes_join m n a b h = sym (rw (digits_div a h, digits_mod a h) at (bytes_split m n (a * 256 ^ n + b)))

pub zeros_length : (n : ℕ) → length (zeros n) ≡ n
unfolding zeros
zeros_length n = length-replicate n 0

-- ---- splices

-- p and then r, with w in the place of what stands after p
splice_at : (p r w : List ℕ) (m : ℕ) → length p ≡ m → splice (p ++ r) m w ≡ p ++ (w ++ drop (length w) r)
unfolding splice
splice_at p r w m e = rw (← e, take-append_seam, drop-append-add)

module _ (d v : List ℕ) (at n : ℕ) (e : length v ≡ n) (fits : at + n ≤ length d) where
  pub splice_length : length (splice d at v) ≡ length d
  unfolding splice
  splice_length = simp (length-append, length-take, length-drop) (omega arith)

  pub splice_join : (w : List ℕ) → splice (splice d at v) (at + n) w ≡ splice d at (v ++ w)
  unfolding splice
  splice_join w =
      let h : length (take at d ++ v) ≡ at + n = simp (length-append, length-take) (omega arith) in
      ap (λ (l : List ℕ). splice l (at + n) w) (sym (append_assoc (take at d) v (drop (at + length v) d)))
      ∙ splice_at (take at d ++ v) (drop (at + length v) d) w (at + n) h
      ∙ simp (append_assoc, drop-drop, length-append, add_assoc)

-- what stands up to the end of what was put in
pub take_splice : (d v : List ℕ) (at n : ℕ) → length v ≡ n → at ≤ length d → take (at + n) (splice d at v) ≡ take at d ++ v
unfolding splice
take_splice d v at n e h =
    rw (← append_assoc (take at d) v (drop (at + length v) d))
    (take_at (take at d ++ v) (drop (at + length v) d) (at + n) (simp (length-append, length-take) (omega arith)))

-- bytes put in the place of all
pub splice_all : (d v : List ℕ) → length v ≡ length d → splice d 0 v ≡ v
unfolding splice
splice_all d v e = rw (zero-add, e, drop-length) (append-nil v)

-- one store
pub set_splice : (d : List ℕ) (at x : ℕ) → at < length d → set d at x ≡ splice d at (x ∷ [])
unfolding splice
set_splice d at x h = rw (set_split d at x h, ← add-one)

-- one store after another
pub splice_step : (d m r : List ℕ) (at n : ℕ) (v w : List ℕ) → m ≡ splice d at v → r ≡ splice m (at + n) w → length v ≡ n → at + n ≤ length d → r ≡ splice d at (v ++ w)
splice_step d m r at n v w p q e h = q ∙ ap (λ (l : List ℕ). splice l (at + n) w) p ∙ splice_join d v at n e h w

-- a lent part comes back as ys: the whole is a splice
pub back_splice : (xs ys : List ℕ) (a n : ℕ) → length ys ≡ n
    → take a xs ++ (ys ++ drop (a + n - a) (drop a xs)) ≡ splice xs a ys
unfolding splice
back_splice xs ys a n e = rw (add-sub_cancel_left, drop-drop, e)

-- the same where what the part became is known
pub back_as : (xs ys zs : List ℕ) (a n : ℕ) → ys ≡ zs → length zs ≡ n
    → take a xs ++ (ys ++ drop (a + n - a) (drop a xs)) ≡ splice xs a zs
back_as xs ys zs a n p e = rw p (back_splice xs zs a n e)

pub part_length : (xs : List ℕ) (a n : ℕ) → a + n ≤ length xs → length (take (a + n - a) (drop a xs)) ≡ n
part_length xs a n h = simp (length-take, length-drop) (omega arith)

-- a number's high part stored, and then its low part behind it
pub put_join : (a b : ℕ) (d m r : List ℕ) (at x : ℕ) → m ≡ splice d at (bytes_of a (x / 256 ^ b)) → r ≡ splice m (at + a) (bytes_of b (x % 256 ^ b))
    → at + (a + b) ≤ length d → r ≡ splice d at (bytes_of (a + b) x)
put_join a b d m r at x p q h =
    rw bytes_split (splice_step d m r at a (bytes_of a (x / 256 ^ b)) (bytes_of b (x % 256 ^ b)) p q (bytes_length a (x / 256 ^ b)) (omega arith))

-- no bytes in the place of others
pub splice_none : (d : List ℕ) (at : ℕ) → d ≡ splice d at []
unfolding splice
splice_none d at = rw add-zero (sym (take-append-drop at d))

-- three stores, each behind the one before
pub splice_three : (d m n r : List ℕ) (at a b : ℕ) (u v w : List ℕ) → m ≡ splice d at u → n ≡ splice m (at + a) v → r ≡ splice n (at + b) w
    → length u ≡ a → a + length v ≡ b → at + b ≤ length d → r ≡ splice d at (u ++ (v ++ w))
splice_three d m n r at a b u v w p q s e f h =
    splice_step d n r at b (u ++ v) w (splice_step d m n at a u v p q e (omega arith)) s (simp length-append (omega arith)) h
    ∙ ap (splice d at) (append_assoc u v w)

-- four stores, each behind the one before
pub splice_four : (d m n o r : List ℕ) (at a b c : ℕ) (u v w x : List ℕ) → m ≡ splice d at u → n ≡ splice m (at + a) v → o ≡ splice n (at + b) w
    → r ≡ splice o (at + c) x → length u ≡ a → a + length v ≡ b → b + length w ≡ c → at + c ≤ length d → r ≡ splice d at (u ++ (v ++ (w ++ x)))
splice_four d m n o r at a b c u v w x p q s t e f g h =
    splice_three d n o r at b c (u ++ v) w x (splice_step d m n at a u v p q e (omega arith)) s t (simp length-append (omega arith)) g h
    ∙ ap (splice d at) (append_assoc u v (w ++ x))

-- one byte more, and a number of up to eight bytes fits a word
-- what stands in a part
pub part_get : (s : List ℕ) (at n i : ℕ) → i < n → get_or (take n (drop at s)) i 0 ≡ get_or s (at + i) 0
part_get s at n i h = rw (get_or-take n (drop at s) i 0 h, get_or-drop) refl

-- std's number of eight bytes, of which zeros stand first
number_zeros : (n k : ℕ) (r : List ℕ) → n ≤ k → number_at n (replicate k 0 ++ r) 0 ≡ 0
unfolding number_at
number_zeros zero k r h = refl
number_zeros (suc n) k r h =
    let g : n < k = h in
    rw (number_zeros n k r (omega arith), zero-add n, get_or-append (replicate k 0) r 0 n (omega (arith, length-replicate {A = ℕ} k 0)), get_or-replicate {A = ℕ} k n 0 0 g)

eight : (b : List ℕ) → from_be_bytes w64 b ≡ number_at 8 b 0
unfolding number_at
eight b = omega arith

number_part : (n k : ℕ) (s : List ℕ) (at : ℕ) → n ≤ k → number_at n (take k (drop at s)) 0 ≡ number_at n s at
unfolding number_at
number_part zero k s at h = refl
number_part (suc n) k s at h =
    let g : n < k = h in
    rw (number_part n k s at (omega arith), zero-add n, part_get s at k n g)

pub number_padded : (n at : ℕ) (s b : List ℕ) → n ≤ 8 → at + n ≤ length s → b ≡ splice (replicate 8 0) (8 - n) (take (at + n - at) (drop at s)) → from_be_bytes w64 b ≡ number_at n s at
unfolding splice
number_padded n at s b h k e =
    let p : List ℕ = take (at + n - at) (drop at s) in
    let l : length p ≡ n = part_length s at n k in
    let z : 8 ≡ 8 - n + n = omega arith in
    let r : 8 - (8 - n + length p) ≡ 0 = omega arith in
    let f : b ≡ replicate (8 - n) 0 ++ (p ++ []) =
    e ∙ ap₂ (λ (x y : List ℕ). x ++ (p ++ y)) (take-replicate (8 - n) 8 0 (omega arith)) (drop-replicate (8 - n + length p) 8 0 ∙ ap (λ (i : ℕ). replicate {A = ℕ} i 0) r) in
    let low : number_at n b (0 + (8 - n)) ≡ number_at n s at =
    ap (λ (x : List ℕ). number_at n x (0 + (8 - n))) f
    ∙ ap (number_at n (replicate (8 - n) 0 ++ (p ++ []))) (omega arith)
    ∙ number_behind n (replicate (8 - n) 0) (p ++ []) 0 (8 - n) (length-replicate (8 - n) 0)
    ∙ number_front n p [] 0 (omega arith) ∙ number_part n (at + n - at) s at (omega arith) in
    let high : number_at (8 - n) b 0 ≡ 0 = ap (λ (x : List ℕ). number_at (8 - n) x 0) f ∙ number_zeros (8 - n) (8 - n) (p ++ []) (omega arith) in
    eight b ∙ ap (λ (i : ℕ). number_at i b 0) z ∙ number_split (8 - n) n b 0 ∙ rw (high, low) (omega arith)

-- std's spelling of a number's bytes, and their last n
pub bytes_high : (n x : ℕ) → bytes_high_first n x ≡ bytes_of n x
unfolding bytes_of
bytes_high zero x = refl
bytes_high (suc zero) x = refl
bytes_high (suc (suc n)) x =
    ap (λ (l : List ℕ). x / 256 ^ suc n % 256 ∷ l) (bytes_high (suc n) x)
    ∙ sym (let e : suc (suc n) ≡ 1 + suc n = omega arith in ap (λ (k : ℕ). bytes_of k x) e ∙ bytes_front 1 (suc n) x)

pub high_last : (k n x : ℕ) → drop k (bytes_high_first (k + n) x) ≡ bytes_of n x
high_last zero n x = rw zero-add (bytes_high n x)
high_last (suc k) n x = rw suc-add (high_last k n x)

-- ---- tests

pub both_true : (a b : Bool) → both a b ≡ true → (a ≡ true) × (b ≡ true)
both_true true b e = (refl, e)
both_true false b e = absurd (false≢true e)

pub true_both : (a b : Bool) → a ≡ true → b ≡ true → both a b ≡ true
true_both a b p q = rw (p, q)

-- ---- numbers at a place

-- what is written as a number of n bytes is read as that number, wherever it stands and whatever follows
pub number_at_lem : (n x at : ℕ) (p r : List ℕ) → length p ≡ at → x < 256 ^ n → number_at n (p ++ (bytes_of n x ++ r)) at ≡ x
number_at_lem n x at p r e h =
    ap (number_at n (p ++ (bytes_of n x ++ r))) (sym (add-zero at)) ∙ number_behind n p (bytes_of n x ++ r) 0 at e ∙ number_back n x r h

-- two parts side by side make one
pub part_join : (s : List ℕ) (at m to n : ℕ) → at + m ≡ to → part s at m ++ part s to n ≡ part s at (m + n)
part_join s at m to n e = rw (← e, take-add m n (drop at s), drop-drop)

-- what makes a part, and what makes the part behind it
pub part_step : (s : List ℕ) (at m to n k : ℕ) (x y : List ℕ) → x ≡ part s at m → y ≡ part s to n → at + m ≡ to → m + n ≡ k → x ++ y ≡ part s at k
part_step s at m to n k x y p q e f = rw (p, q) (part_join s at m to n e ∙ ap (part s at) f)

-- the part from a place on is all that is left there
pub part_rest : (s : List ℕ) (at : ℕ) → part s at (length s - at) ≡ drop at s
part_rest s at = take_all (length s - at) (drop at s) (simp length-drop (omega arith))

-- ---- two words side by side

pub two_length : (a b : ℕ) → length (two_words a b) ≡ 16
two_length a b = simp (length-append, bytes_length)

-- two words stand at a place
pub record TwoAt (s : List ℕ) (at a b : ℕ) : Type 0 where
  pub first : number_at 8 s at ≡ a
  pub second : number_at 8 s (at + 8) ≡ b

-- what is written as two words is read as those
pub two_at : (a b at : ℕ) (p r : List ℕ) → length p ≡ at → a < 2 ^ 64 → b < 2 ^ 64 → TwoAt (p ++ (two_words a b ++ r)) at a b
two_at a b at p r e ha hb =
    record {
      first = ap (λ (s : List ℕ). number_at 8 s at) (simp append_assoc) ∙ number_at_lem 8 a at p (bytes_of 8 b ++ r) e ha;
      second =
          ap (λ (s : List ℕ). number_at 8 s (at + 8)) (simp append_assoc)
          ∙ number_at_lem 8 b (at + 8) (p ++ bytes_of 8 a) r (simp (length-append, bytes_length, e)) hb;
    }

-- what is read as two words is written as those bytes
pub two_back : (s : List ℕ) (at : ℕ) → Bytes s → at + 16 ≤ length s → two_words (number_at 8 s at) (number_at 8 s (at + 8)) ≡ part s at 16
two_back s at b h = rw (bytes_back 8 s at b (omega arith), bytes_back 8 s (at + 8) b (omega arith)) (part_join s at 8 (at + 8) 8 refl)

-- ---- four words side by side

pub four_length : (a b c d : ℕ) → length (four_words a b c d) ≡ 32
four_length a b c d = simp (length-append, bytes_length)

-- four words stand at a place
pub record FourAt (s : List ℕ) (at a b c d : ℕ) : Type 0 where
  pub first : number_at 8 s at ≡ a
  pub second : number_at 8 s (at + 8) ≡ b
  pub third : number_at 8 s (at + 16) ≡ c
  pub fourth : number_at 8 s (at + 24) ≡ d

-- what is written as four words is read as those
pub four_at_lem : (a b c d at : ℕ) (p r : List ℕ) → length p ≡ at → a < 2 ^ 64 → b < 2 ^ 64 → c < 2 ^ 64 → d < 2 ^ 64
    → FourAt (p ++ (four_words a b c d ++ r)) at a b c d
four_at_lem a b c d at p r e ha hb hc hd =
    let x = two_at a b at p (two_words c d ++ r) e ha hb in
    let y = two_at c d (at + 16) (p ++ two_words a b) r (simp (length-append, bytes_length, e)) hc hd in
    let f : p ++ (four_words a b c d ++ r) ≡ p ++ (two_words a b ++ (two_words c d ++ r)) = simp append_assoc in
    let g : p ++ (four_words a b c d ++ r) ≡ (p ++ two_words a b) ++ (two_words c d ++ r) = simp append_assoc in
    record {
      first = ap (λ (s : List ℕ). number_at 8 s at) f ∙ x.first;
      second = ap (λ (s : List ℕ). number_at 8 s (at + 8)) f ∙ x.second;
      third = ap (λ (s : List ℕ). number_at 8 s (at + 16)) g ∙ y.first;
      fourth = ap (λ (s : List ℕ). number_at 8 s (at + 24)) g ∙ rw (add_assoc at 16 8) at y.second;
    }

-- what is read as four words is written as those bytes
pub four_back : (s : List ℕ) (at : ℕ) → Bytes s → at + 32 ≤ length s
    → four_words (number_at 8 s at) (number_at 8 s (at + 8)) (number_at 8 s (at + 16)) (number_at 8 s (at + 24)) ≡ part s at 32
four_back s at b h =
    sym (append_assoc (bytes_of 8 (number_at 8 s at)) (bytes_of 8 (number_at 8 s (at + 8))) _)
    ∙ part_step s at 16 (at + 16) 16 32 _ _ (two_back s at b (omega arith)) (rw (add_assoc at 16 8) at (two_back s (at + 16) b (omega arith))) refl refl

-- one byte is a part of one byte
pub part_one : (s : List ℕ) (at : ℕ) → at < length s → part s at 1 ≡ get_or s at 0 ∷ []
part_one s at h = part_suc s at 0 (omega arith) ∙ rw add-zero

-- ---- choices

-- two numbers that differ, found equal
pub never : {A : Type 0} → ◌≡◌ {A = ℕ} 0 1 → A
never e = absurd (omega arith)

-- what a choice came to, by its test
pub picked : {A C : Type 0} (b : Bool) (x y z : A) → pick b x y ≡ z → (b ≡ true → x ≡ z → C) → (b ≡ false → y ≡ z → C) → C
picked true x y z e f g = f refl e
picked false x y z e f g = g refl e

-- ---- what is written is bytes

pub append_bytes : (a b : List ℕ) → Bytes a → Bytes b → Bytes (a ++ b)
append_bytes [] b p q i = q i
append_bytes (x ∷ a) b p q zero = p 0
append_bytes (x ∷ a) b p q (suc i) = append_bytes a b (λ j. p (suc j)) q i

pub no_bytes : Bytes []
no_bytes i = lit< tt

pub one_byte : (x : ℕ) → x < 256 → Bytes (x ∷ [])
one_byte x h zero = h
one_byte x h (suc i) = no_bytes i

pub number_bytes : (n x : ℕ) → Bytes (bytes_of n x)
unfolding bytes_of
number_bytes zero x = no_bytes
number_bytes (suc n) x = append_bytes (bytes_of n (x / 256)) (x % 256 ∷ []) (number_bytes n (x / 256)) (one_byte (x % 256) (mod-lt x (lit< tt)))

-- what is left of bytes is bytes
pub drop_bytes : (s : List ℕ) (at : ℕ) → Bytes s → Bytes (drop at s)
drop_bytes s at b i = rw get_or-drop (b (at + i))

-- and so is a part
pub part_bytes : (s : List ℕ) (at n : ℕ) → Bytes s → Bytes (part s at n)
part_bytes s at n b i = elim (dec_lt i n) [
  | yes h ↦ rw (get_or-take n (drop at s) i 0 h) (drop_bytes s at b i)
  | no h ↦ rw (get_or-eq_default (part s at n) 0 {n = i} (rw (length-take n (drop at s)) (omega arith))) (lit< tt)
]

pub four_bytes : (a b c d : ℕ) → Bytes (four_words a b c d)
four_bytes a b c d =
    append_bytes (bytes_of 8 a) _ (number_bytes 8 a)
    (append_bytes (bytes_of 8 b) _ (number_bytes 8 b) (append_bytes (bytes_of 8 c) (bytes_of 8 d) (number_bytes 8 c) (number_bytes 8 d)))
