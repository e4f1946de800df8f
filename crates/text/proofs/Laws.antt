-- Laws of digits, of how long a line can be, and of texts stored one behind another. Assumes nothing.
use Prim.Native.Nat.{ℕ, zero, suc, ◌+◌, ◌-◌, ◌/◌, ◌%◌, ◌^◌, ◌≤◌, ◌<◌}
use mathlib.Core.Path.{◌≡◌, refl, ap, sym, ◌∙◌}
use mathlib.Core.List.{List, [], ◌∷◌, ◌++◌}
use mathlib.Core.Bool.{Bool, true, false}
use native.Mathlib.Nat.{pow-suc}
use native.Mathlib.Omega.{arith}
use lib.ListN.{length, take, drop, set, length-append}
use lib.Seq.{drop-cons, lt-length-set, get_or-set_same, drop-set-lt, drop-length}
use lib.Dec.{ltb}
use borrow.Author.Tests.{lt-ltb, le-ltb, ltb-false}
use Rattle.words.specs.Choice.{pick}
use Rattle.words.specs.Splices.{splice, part}
use Rattle.words.proofs.Laws.{splice_length, splice_join, part_rest}
use Rattle.text.specs.Text.{space, line_feed, digits_before, decimal, field, line_text, end_text}

-- ---- one text behind another

-- x was stored in d at at, where it ends is r, and what that leaves is e
abbrev pub Stored : List ℕ → ℕ → List ℕ → ℕ → List ℕ → Type 0
Stored d at x r e = (r ≡ at + length x) × (e ≡ splice d at x)

pub stored_step : (d m e : List ℕ) (at p r : ℕ) (v w : List ℕ) → at + length v ≤ length d → Stored d at v p m → Stored m p w r e
    → Stored d at (v ++ w) r e
stored_step d m e at p r v w h s t = (
  simp length-append (omega arith),
  t.1 ∙ (rw (s.1, s.0) refl) ∙ splice_join d v at (length v) refl h w,
)

pub stored_four : (d m1 m2 m3 e : List ℕ) (at p1 p2 p3 r : ℕ) (a b c f : List ℕ) → at + (length a + (length b + (length c + length f))) ≤ length d
    → Stored d at a p1 m1 → Stored m1 p1 b p2 m2 → Stored m2 p2 c p3 m3 → Stored m3 p3 f r e → Stored d at (a ++ (b ++ (c ++ f))) r e
stored_four d m1 m2 m3 e at p1 p2 p3 r a b c f h s1 s2 s3 s4 =
    let l1 : length m1 ≡ length d = ap length s1.1 ∙ splice_length d a at (length a) refl (omega arith) in
    let l2 : length m2 ≡ length m1 = ap length s2.1 ∙ splice_length m1 b p1 (length b) refl (omega arith) in
    stored_step d m1 e at p1 r a (b ++ (c ++ f)) (omega arith) s1
    (stored_step m1 m2 e p1 p2 r b (c ++ f) (omega arith) s2 (stored_step m2 m3 e p2 p3 r c f (omega arith) s3 s4))

pub stored_as : (d e : List ℕ) (at r : ℕ) (x y : List ℕ) → x ≡ y → Stored d at x r e → Stored d at y r e
stored_as d e at r x y p s = (s.0 ∙ ap (λ (l : List ℕ). at + length l) p, s.1 ∙ ap (splice d at) p)

pub fits_as : (at m : ℕ) (x y : List ℕ) → x ≡ y → at + length y ≤ m → at + length x ≤ m
fits_as at m x y p h = rw p h

-- what is still to be stored, after a store
pub stored_rest : (d e : List ℕ) (at r : ℕ) (v w x : List ℕ) → at + length v ≤ length d → Stored d at v r e → splice d at (v ++ w) ≡ x → splice e r w ≡ x
stored_rest d e at r v w x h s t = rw (s.1, s.0) (splice_join d v at (length v) refl h w ∙ t)

-- ---- digits

-- what is above 9 has two digits at least, and one less without its last
pub digit_room : (i j x : ℕ) → i ≡ suc j → 10 ≤ x → x < 10 ^ i → (1 ≤ j) × (x / 10 < 10 ^ j)
digit_room i zero x e h g = absurd (let k : x < 10 ^ 1 = rw e at g in omega arith)
digit_room i (suc j) x e h g =
    let k : x < 10 ^ suc (suc j) = rw e at g in
    (omega arith, omega (arith, pow-suc 10 (suc j)))

set_drop : (d : List ℕ) (j x : ℕ) → j < length d → drop j (set d j x) ≡ x ∷ drop (suc j) d
set_drop d j x h = rw (drop-cons (set d j x) j 0 (lt-length-set d j x h), get_or-set_same d j x 0 h, drop-set-lt (suc j) d j x (omega arith))

module _ (d : List ℕ) (i j x y : ℕ) (e : i ≡ suc j) (f : i ≤ length d) where
  -- a turn: the last digit of x goes in front of what is there
  pub digits_turn : 10 ≤ x → y ≡ 48 + x % 10 → digits_before j (x / 10) (drop j (set d j y)) ≡ digits_before i x (drop i d)
  unfolding digits_before
  digits_turn h g = rw (g, e, set_drop d j (48 + x % 10) (omega arith), le-ltb x 10 (omega arith))

  pub digits_last : x < 10 → y ≡ 48 + x → drop j (set d j y) ≡ digits_before i x (drop i d)
  unfolding digits_before
  digits_last h g = rw (g, e, set_drop d j (48 + x) (omega arith), lt-ltb x 10 (omega arith))

pub decimal_starts : (d : List ℕ) (n : ℕ) → length d ≡ 20 → digits_before 20 n (drop 20 d) ≡ decimal n
unfolding decimal
decimal_starts d n e = ap (digits_before 20 n) (ap (λ (k : ℕ). drop k d) (sym e) ∙ drop-length d)

-- what stands at the end of a whole part
pub tail_is : (d t : List ℕ) (s : ℕ) → length d ≡ 20 → drop s d ≡ t → take (20 - s) (drop s d) ≡ t
tail_is d t s e f = ap (λ (n : ℕ). part d s (n - s)) (sym e) ∙ part_rest d s ∙ f

-- ---- how long numbers and lines are

pick_fits : (b : Bool) (m : ℕ) (x y : List ℕ) → (b ≡ true → length x ≤ m) → (b ≡ false → length y ≤ m) → length (pick b x y) ≤ m
pick_fits true m x y p q = p refl
pick_fits false m x y p q = q refl

-- a number below 10 ^ (k + 1) has at most k + 1 digits
digits_fit : (f k n : ℕ) (t : List ℕ) → n < 10 ^ suc k → length (digits_before f n t) ≤ suc k + length t
unfolding digits_before
digits_fit zero k n t h = omega arith
digits_fit (suc f) zero n t h =
    pick_fits (ltb n 10) (1 + length t) ((48 + n) ∷ t) (digits_before f (n / 10) ((48 + n % 10) ∷ t)) (λ e. omega arith)
    (λ e. let g : 10 ≤ n = ltb-false n 10 e in absurd (omega arith))
digits_fit (suc f) (suc k) n t h =
    pick_fits (ltb n 10) (suc (suc k) + length t) ((48 + n) ∷ t) (digits_before f (n / 10) ((48 + n % 10) ∷ t)) (λ e. omega arith)
    (λ e. let g : 10 ≤ n = ltb-false n 10 e in
    omega (arith, digits_fit f k (n / 10) ((48 + n % 10) ∷ t) (digit_room (suc (suc k)) (suc k) n refl g h).1))

pub field_length : (n end : ℕ) → length (field n end) ≡ length (decimal n) + 1
unfolding field
field_length n end = simp length-append

pub field_fits : (k n end : ℕ) → n < 10 ^ suc k → length (field n end) ≤ k + 2
unfolding decimal
field_fits k n end h = omega (arith, field_length n end, digits_fit 20 k n [] h)

pub line_length : (n t v e : ℕ) → length (line_text n t v e) ≡ length (field n space) + (length (field t space) + (length (field v space) + length (field e line_feed)))
unfolding line_text
line_length n t v e = simp length-append

-- a line of numbers of so many digits, each less 1
pub line_fits : (a b c d n t v e : ℕ) → n < 10 ^ suc a → t < 10 ^ suc b → v < 10 ^ suc c → e < 10 ^ suc d → length (line_text n t v e) ≤ a + b + c + d + 8
line_fits a b c d n t v e p q r s =
    omega (arith, line_length n t v e, field_fits a n space p, field_fits b t space q, field_fits c v space r, field_fits d e line_feed s)

pub end_length : (s u : ℕ) → length (end_text s u) ≡ 8 + (length (field s space) + (6 + length (field u line_feed)))
unfolding end_text
end_length s u = simp length-append (omega arith)

-- a last line of numbers of so many digits, each less 1
pub end_fits : (a b s u : ℕ) → s < 10 ^ suc a → u < 10 ^ suc b → length (end_text s u) ≤ a + b + 18
end_fits a b s u p q = omega (arith, end_length s u, field_fits a s space p, field_fits b u line_feed q)
