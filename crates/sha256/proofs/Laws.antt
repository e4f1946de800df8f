-- Laws of the definitions: padding, one more block, a hash value as four words. Assumes nothing.
use mathlib.Core.Path.{◌≡◌, refl, ap, ap₂, sym, ◌∙◌}
use mathlib.Core.List.{List, [], ◌∷◌, ◌++◌, append_assoc, append-nil}
use Prim.Native.Nat.{ℕ, zero, suc, ◌+◌, ◌-◌, ◌*◌, ◌/◌, ◌%◌, ◌^◌, ◌≤◌, ◌<◌}
use native.Mathlib.Numerals.{add-one}
use native.Mathlib.Nat.{mul_comm, zero-add}
use native.Mathlib.Omega.{arith}
use Rattle.std.proofs.lemmas.List.{drop-replicate}
use lib.Arith.{digits_lt, digits_div, digits_mod}
use lib.ListN.{length, take, drop, set, replicate, length-drop, length-append, length-replicate, replicate-append-replicate}
use lib.Seq.{drop-append-le, take-append-le, take-append-add, set-append_seam, take_at, drop_at, take-take, take_all, drop-drop}
use Rattle.words.specs.Numbers.{bytes_of, four_at, four_words, Bytes}
use Rattle.words.specs.Splices.{splice}
use Rattle.words.specs.declared.Four.{Four}
use Rattle.words.proofs.Laws.{bytes_low, bytes_length, bytes_split, take_splice, splice_all, four_at_lem, four_back, append_bytes, number_bytes}
use Rattle.sha256.specs.Sha256.{Hash, H0, compress, blocks, padding, after, padded, hash_bytes}
use Rattle.std.specs.Prelude.{Result}
use Rattle.verdict.specs.declared.Refusal.{Refusal}
use Rattle.verdict.proofs.Reasons.{view_back}
use Rattle.sha256.specs.Sha256.{Answer, answer}

-- ---- the stores of `ending`
pub marked : (t : List ℕ) → length t < 64 → set (t ++ replicate (128 - length t) 0) (length t) 0x80 ≡ t ++ 0x80 ∷ replicate (127 - length t) 0
marked t k =
    let e : 128 - length t ≡ suc (127 - length t) = omega arith in
    ap (λ (n : ℕ). set (t ++ replicate n 0) (length t) 0x80) e ∙ set-append_seam t 0 (replicate (127 - length t) 0) 0x80

pub take_replicate : (k n : ℕ) → k ≤ n → take {A = ℕ} k (replicate n 0) ≡ replicate k 0
take_replicate k n h =
    let e : n ≡ k + (n - k) = omega arith in
    ap (λ (m : ℕ). take k (replicate m 0)) e ∙ ap (take k) (sym (replicate-append-replicate k (n - k) 0))
    ∙ take_at (replicate k 0) (replicate (n - k) 0) k (length-replicate k 0)

pub before_length : (t : List ℕ) (at : ℕ) → length t < at → at ≤ 128 → take at (t ++ 0x80 ∷ replicate (127 - length t) 0) ≡ t ++ 0x80 ∷ replicate (at - (length t + 1)) 0
before_length t at h k =
    let e : at ≡ length t + suc (at - (length t + 1)) = omega arith in
    ap (λ (n : ℕ). take n (t ++ 0x80 ∷ replicate (127 - length t) 0)) e
    ∙ take-append-add t (0x80 ∷ replicate (127 - length t) 0) (suc (at - (length t + 1)))
    ∙ ap (λ (l : List ℕ). t ++ 0x80 ∷ l) (take_replicate (at - (length t + 1)) (127 - length t) (omega arith))

pub ending_is : (t b : List ℕ) (x i : ℕ) → length t < 64 → i ≡ 0 + length t → b ≡ splice (replicate 128 0) 0 t
    → take (64 * blocks (length t)) (splice (set b i 0x80) ((i + 72) / 64 * 64 - 8) (bytes_of 8 x)) ≡ t ++ padding (length t) x
unfolding splice
ending_is t b x i h e p =
    let q : b ≡ t ++ replicate (128 - length t) 0 = p ∙ ap (λ (l : List ℕ). t ++ l) (ap (λ (k : ℕ). drop {A = ℕ} k (replicate 128 0)) (zero-add (length t)) ∙ drop-replicate (length t) 128 0) in
    let s : set b i 0x80 ≡ t ++ 0x80 ∷ replicate (127 - length t) 0 =
    ap₂ (λ (l : List ℕ) (n : ℕ). set l n 0x80) q (e ∙ zero-add (length t)) ∙ marked t h in
    let n : length (t ++ 0x80 ∷ replicate (127 - length t) 0) ≡ 128 =
    length-append t (0x80 ∷ replicate (127 - length t) 0) ∙ ap (λ (k : ℕ). length t + suc k) (length-replicate (127 - length t) 0) ∙ omega arith in
    let a : 64 * blocks (length t) ≡ (i + 72) / 64 * 64 - 8 + 8 = omega arith in
    let z : (i + 72) / 64 * 64 - 8 - (length t + 1) ≡ 64 * blocks (length t) - (length t + 9) = omega arith in
    ap₂ (λ (k : ℕ) (l : List ℕ). take k (splice l ((i + 72) / 64 * 64 - 8) (bytes_of 8 x))) a s
    ∙ take_splice (t ++ 0x80 ∷ replicate (127 - length t) 0) (bytes_of 8 x) ((i + 72) / 64 * 64 - 8) 8 (bytes_length 8 x) (omega arith)
    ∙ ap (λ (l : List ℕ). l ++ bytes_of 8 x) (before_length t ((i + 72) / 64 * 64 - 8) (omega arith) (omega arith) ∙ ap (λ (k : ℕ). t ++ 0x80 ∷ replicate k 0) z)
    ∙ append_assoc t (0x80 ∷ replicate (64 * blocks (length t) - (length t + 9)) 0) (bytes_of 8 x)

-- ---- blocks

-- n blocks of m are worked into s, and r is left of it
pub record Absorbed (m r : List ℕ) (s : Hash) (n : ℕ) : Type 0 where
  pub within : 64 * n ≤ length m
  pub left : r ≡ drop (64 * n) m
  pub done : s ≡ after m n

pub absorbed_none : (m r : List ℕ) → r ≡ m → Absorbed m r H0 0
unfolding after
absorbed_none m r e = record { within = omega arith; left = e; done = refl }

pub absorbed_more : (m r rest b : List ℕ) (s t : Hash) (n k : ℕ) → Absorbed m r s n → r ≡ b ++ rest → length b ≡ 64 → t ≡ compress s b → k ≡ n + 1 → Absorbed m rest t k
unfolding after
absorbed_more m r rest b s t n k a e l f g =
    let c : b ≡ take 64 (drop (64 * n) m) = sym (take_at b rest 64 l) ∙ ap (take 64) (sym e ∙ a.left) in
    let d : 64 * n + 64 ≡ 64 * k = omega arith in
    record {
      within = omega (arith, ap length e, ap length a.left, length-append b rest, length-drop (64 * n) m);
      left = sym (drop_at b rest 64 l) ∙ ap (drop 64) (sym e ∙ a.left) ∙ drop-drop 64 (64 * n) m ∙ ap (λ (i : ℕ). drop i m) d;
      done = f ∙ ap₂ compress a.done c ∙ sym (ap (after m) (g ∙ add-one n));
    }

pub absorbed_all : (m r : List ℕ) (s : Hash) (n : ℕ) → Absorbed m r s n → length r < 64 → s ≡ after m (length m / 64)
absorbed_all m r s n a h =
    let w = a.within in
    let e : n ≡ length m / 64 = omega (arith, ap length a.left, length-drop (64 * n) m) in
    a.done ∙ ap (after m) e

pub after_append : (m r : List ℕ) (n : ℕ) → 64 * n ≤ length m → after (m ++ r) n ≡ after m n
unfolding after
after_append m r zero h = refl
after_append m r (suc n) h =
    let k : 64 * n ≤ length m = omega arith in
    let l : 64 ≤ length (drop (64 * n) m) = simp length-drop (omega arith) in
    ap₂ compress (after_append m r n k) (ap (take 64) (drop-append-le (64 * n) m r k) ∙ take-append-le 64 (drop (64 * n) m) r l)

-- what follows the whole blocks of a padded message
pub rest : (m t b : List ℕ) (x : ℕ) → t ≡ drop (64 * (length m / 64)) m → bytes_of 8 x ≡ bytes_of 8 (8 * length m) → take (64 * blocks (length t)) b ≡ t ++ padding (length t) x
    → drop (64 * (length m / 64)) (padded m) ≡ take (64 * blocks (length t)) b
unfolding padded
rest m t b x e f g =
    let n : length t ≡ length m - 64 * (length m / 64) = ap length e ∙ length-drop (64 * (length m / 64)) m in
    let z : 64 * blocks (length m) - (length m + 9) ≡ 64 * blocks (length t) - (length t + 9) = omega arith in
    drop-append-le (64 * (length m / 64)) m (padding (length m) (8 * length m)) (omega arith)
    ∙ ap₂ (λ (l r : List ℕ). l ++ 0x80 ∷ (replicate (64 * blocks (length m) - (length m + 9)) 0 ++ r)) (sym e) (sym f)
    ∙ ap (λ (k : ℕ). t ++ 0x80 ∷ (replicate k 0 ++ bytes_of 8 x)) z ∙ sym g

-- the hash value of the whole blocks of a message is that of the padded one
pub whole_blocks : (m : List ℕ) → after (padded m) (length m / 64) ≡ after m (length m / 64)
unfolding padded
whole_blocks m = after_append m (padding (length m) (8 * length m)) (length m / 64) (omega arith)

pub one_more : (m b : List ℕ) (k : ℕ) → 64 ≤ k → drop (64 * (length m / 64)) (padded m) ≡ take k b → after (padded m) (suc (length m / 64)) ≡ compress (after m (length m / 64)) (take 64 b)
unfolding after
one_more m b k h e = ap₂ compress (whole_blocks m) (ap (take 64) e ∙ take-take 64 k b h)

pub two_more : (m b : List ℕ) → length b ≡ 128 → drop (64 * (length m / 64)) (padded m) ≡ take 128 b
    → after (padded m) (suc (suc (length m / 64))) ≡ compress (compress (after m (length m / 64)) (take 64 b)) (take 64 (drop 64 b))
unfolding after
two_more m b n e =
    let k : 64 * suc (length m / 64) ≡ 64 * (length m / 64) + 64 = omega arith in
    ap₂ compress (one_more m b 128 (omega arith) e)
    (ap (take 64) (ap (λ (j : ℕ). drop j (padded m)) k ∙ sym (drop-drop 64 (64 * (length m / 64)) (padded m)) ∙ ap (drop 64) (e ∙ take_all 128 b (omega arith))))

-- the slice that `whole` hands to `ending`
abbrev pub tail_of : List ℕ → List ℕ
tail_of m = take (length m - length m / 64 * 64) (drop (length m / 64 * 64) m)

pub tail_is : (m : List ℕ) → tail_of m ≡ drop (64 * (length m / 64)) m
tail_is m =
    let e : length m / 64 * 64 ≡ 64 * (length m / 64) = omega arith in
    let h : length (drop (length m / 64 * 64) m) ≤ length m - length m / 64 * 64 = simp length-drop (omega arith) in
    take_all (length m - length m / 64 * 64) (drop (length m / 64 * 64) m) h ∙ ap (λ (k : ℕ). drop k m) e

-- the length in bits as the code has it: eight bytes see it modulo 2 ^ 64
bits_told : (n : ℕ) → bytes_of 8 (n * 8 % 2 ^ 64) ≡ bytes_of 8 (8 * n)
bits_told n = bytes_low 8 (n * 8) ∙ ap (bytes_of 8) (mul_comm n 8)

module _ (m b : List ℕ) (full : length b ≡ 128) (g : take (64 * blocks (length (tail_of m))) b ≡ tail_of m ++ padding (length (tail_of m)) (length m * 8 % 2 ^ 64)) where
  left_over : length (tail_of m) ≡ length m - 64 * (length m / 64)
  left_over = ap length (tail_is m) ∙ length-drop (64 * (length m / 64)) m

  pub one_block : length m % 64 < 56 → compress (after m (length m / 64)) (take 64 b) ≡ after (padded m) (blocks (length m))
  one_block h =
      let l : length (tail_of m) ≡ length m - 64 * (length m / 64) = left_over in
      let n : blocks (length m) ≡ suc (length m / 64) = omega arith in
      sym (ap (after (padded m)) n ∙ one_more m b (64 * blocks (length (tail_of m))) (omega arith) (rest m (tail_of m) b (length m * 8 % 2 ^ 64) (tail_is m) (bits_told (length m)) g))

  pub two_blocks : 56 ≤ length m % 64 → compress (compress (after m (length m / 64)) (take 64 b)) (take 64 (drop 64 b)) ≡ after (padded m) (blocks (length m))
  two_blocks h =
      let l : length (tail_of m) ≡ length m - 64 * (length m / 64) = left_over in
      let n : blocks (length m) ≡ suc (suc (length m / 64)) = omega arith in
      let k : 64 * blocks (length (tail_of m)) ≡ 128 = omega arith in
      sym (ap (after (padded m)) n ∙ two_more m b full (rest m (tail_of m) b (length m * 8 % 2 ^ 64) (tail_is m) (bits_told (length m)) g ∙ ap (λ (j : ℕ). take j b) k))

-- ---- a hash value as four words

-- two numbers written side by side are one
bytes_join : (m n a b : ℕ) → b < 256 ^ n → bytes_of m a ++ bytes_of n b ≡ bytes_of (m + n) (a * 256 ^ n + b)
bytes_join m n a b h = sym (rw (digits_div a h, digits_mod a h) at (bytes_split m n (a * 256 ^ n + b)))

-- what is known of two words of 32 bits made one of 64
abbrev Joined : ℕ → ℕ → ℕ → Type 0
Joined r a b = (r ≡ a * 2 ^ 32 + b) × (a < 2 ^ 32) × (b < 2 ^ 32)

joined_bytes : (r a b : ℕ) → Joined r a b → bytes_of 4 a ++ bytes_of 4 b ≡ bytes_of 8 r
joined_bytes r a b j = bytes_join 4 4 a b j.2 ∙ ap (bytes_of 8) (sym j.0)

joined_fits : (r a b : ℕ) → Joined r a b → r < 2 ^ 64
joined_fits r a b j = rw j.0 (digits_lt j.1 j.2)

in_pairs : (a b c d e f g h : List ℕ) → a ++ b ++ c ++ d ++ e ++ f ++ g ++ h ≡ (a ++ b) ++ ((c ++ d) ++ ((e ++ f) ++ (g ++ h)))
in_pairs a b c d e f g h = simp append_assoc

module _ (s : Hash) (x y z w : ℕ) (jx : Joined x s.a s.b) (jy : Joined y s.c s.d) (jz : Joined z s.e s.f) (jw : Joined w s.g s.h) where
  same_bytes : hash_bytes s ≡ four_words x y z w
  same_bytes =
      in_pairs (bytes_of 4 s.a) (bytes_of 4 s.b) (bytes_of 4 s.c) (bytes_of 4 s.d) (bytes_of 4 s.e) (bytes_of 4 s.f) (bytes_of 4 s.g) (bytes_of 4 s.h)
      ∙ rw (joined_bytes x s.a s.b jx, joined_bytes y s.c s.d jy, joined_bytes z s.e s.f jz, joined_bytes w s.g s.h jw)

  pub words_joined : ◌≡◌ {A = Four} (record { first = x; second = y; third = z; fourth = w }) (four_at (hash_bytes s) 0)
  unfolding four_at
  words_joined =
      let f = four_at_lem x y z w 0 [] [] refl (joined_fits x _ _ jx) (joined_fits y _ _ jy) (joined_fits z _ _ jz) (joined_fits w _ _ jw) in
      sym
      (ap (λ (l : List ℕ). four_at l 0) (same_bytes ∙ sym (append-nil (four_words x y z w)))
      ∙ (λ i. record { first = f.first i; second = f.second i; third = f.third i; fourth = f.fourth i }))

-- ---- a hash value's bytes

-- a list that is bytes, and a word of 32 bits behind it
record Written (l : List ℕ) : Type 0 where
  bytes : Bytes l

then : {l : List ℕ} → Written l → (x : ℕ) → Written (l ++ bytes_of 4 x)
then {l} w x = record { bytes = append_bytes l (bytes_of 4 x) w.bytes (number_bytes 4 x) }

pub hash_is_bytes : (s : Hash) → Bytes (hash_bytes s)
hash_is_bytes s =
    let first : Written (bytes_of 4 s.a) = record { bytes = number_bytes 4 s.a } in
    (then (then (then (then (then (then (then first s.b) s.c) s.d) s.e) s.f) s.g) s.h).bytes

pub hash_length : (s : Hash) → length (hash_bytes s) ≡ 32
hash_length s = simp (length-append, bytes_length)

pub hash_written : (s : Hash) (w : Four) (d r : List ℕ) → length d ≡ 32 → w ≡ four_at (hash_bytes s) 0
    → r ≡ splice d 0 (four_words w.first w.second w.third w.fourth) → r ≡ hash_bytes s
unfolding four_at
hash_written s w d r l p q =
    let n : length (hash_bytes s) ≡ 32 = hash_length s in
    q ∙ ap (λ (x : Four). splice d 0 (four_words x.first x.second x.third x.fourth)) p
    ∙ ap (splice d 0) (four_back (hash_bytes s) 0 (hash_is_bytes s) (omega (arith, n)) ∙ take_all 32 (hash_bytes s) (omega (arith, n)))
    ∙ splice_all d (hash_bytes s) (n ∙ sym l)

-- ---- the answers

-- no two results of the code come to one answer
pub answer_back : (x y : Result (List ℕ) Refusal) → answer x ≡ answer y → x ≡ y
answer_back = view_back answer (λ (a : Answer). a.verdict) (λ t. refl) (λ r. refl) (λ s t e. ap (λ (a : Answer). a.bytes) e)
