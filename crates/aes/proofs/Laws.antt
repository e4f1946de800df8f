-- Laws of words of four bytes, of columns, of rounds and of the key schedule. Assumes nothing.
use mathlib.Core.Path.{◌≡◌, refl, ap, ap₂, sym, ◌∙◌}
use mathlib.Core.Bool.{Bool}
use mathlib.Core.List.{List, [], ◌∷◌, ◌++◌, append_assoc, append-nil}
use Prim.Native.Nat.{ℕ, zero, suc, ◌+◌, ◌-◌, ◌*◌, ◌/◌, ◌%◌, ◌^◌, ◌≤◌, ◌<◌, zero-le}
use native.Mathlib.Numerals.{add-one}
use native.Mathlib.Omega.{arith}
use borrow.Author.Tests.{eq-eqb, ne_eqb}
use lib.Bits.{bit_xor, bit_or, xor_block, xor_comm, or_shifted, or_shifted_r}
use lib.ListN.{length, get_or, take, length-append, drop_of_length-le}
use Rattle.std.specs.Int.{w32, rotate_left, rotate_right}
use Rattle.words.proofs.Laws.{bytes_length, number_front, number_at_lem, take_splice, splice_four}
use Rattle.words.specs.Choice.{pick}
use Rattle.words.specs.Numbers.{number_at, bytes_of}
use Rattle.words.specs.Splices.{splice}
use Rattle.sbox.specs.Field.{xtime, three, sub}
use Rattle.sbox.specs.Columns.{pack, spread}
use Rattle.sbox.proofs.Laws.{values_at, sub_lt, xtime_lt, xlt, three_lt}
use Rattle.sbox.proofs.Xor.{xor_assoc}
use Rattle.aes.specs.Aes.{byte0, byte1, byte2, byte3, state, sub_word, sub_bytes, shifted, shift_rows, mix_bytes, mix_column, mix_columns, add_round_key, round, rounds, last_round, cipher, word_of, rot_word, rcon, next_word, schedule, key_words, block_at, block_bytes, column, push, next_of}
use Rattle.aes.specs.declared.Block.{Block}

-- ---- words of four bytes

pub ap4 : {A : Type 0} (f : ℕ → ℕ → ℕ → ℕ → A) {a b c d a' b' c' d' : ℕ} → a ≡ a' → b ≡ b' → c ≡ c' → d ≡ d' → f a b c d ≡ f a' b' c' d'
ap4 f {c = c} {d = d} {a' = a'} {b' = b'} e g h k = ap₂ (λ (x y : ℕ). f x y c d) e g ∙ ap₂ (λ (x y : ℕ). f a' b' x y) h k

-- states that have the same columns
pub same : {a b c d a' b' c' d' : ℕ} → a ≡ a' → b ≡ b' → c ≡ c' → d ≡ d' → state a b c d ≡ state a' b' c' d'
same e g h k = ap4 state e g h k

pack_xor : (a b c d e f g h : ℕ) → b < 256 → c < 256 → d < 256 → f < 256 → g < 256 → h < 256
    → bit_xor (pack a b c d) (pack e f g h) ≡ pack (bit_xor a e) (bit_xor b f) (bit_xor c g) (bit_xor d h)
pack_xor a b c d e f g h hb hc hd hf hg hh =
    xor_block 8 ((a * 2 ^ 8 + b) * 2 ^ 8 + c) ((e * 2 ^ 8 + f) * 2 ^ 8 + g) d h hd hh
    ∙ ap (λ (v : ℕ). v * 2 ^ 8 + bit_xor d h)
    (xor_block 8 (a * 2 ^ 8 + b) (e * 2 ^ 8 + f) c g hc hg ∙ ap (λ (v : ℕ). v * 2 ^ 8 + bit_xor c g) (xor_block 8 a e b f hb hf))

-- a word turned n bits to the right
abbrev turned : ℕ → ℕ → ℕ
turned n v = rotate_right w32 v n

module _ (a b c d : ℕ) (ha : a < 256) (hb : b < 256) (hc : c < 256) (hd : d < 256) where
  rot8 : turned 8 (pack a b c d) ≡ pack d a b c
  rot8 =
      let e : pack a b c d / 2 ^ 8 ≡ (a * 2 ^ 8 + b) * 2 ^ 8 + c = omega arith in
      let f : pack a b c d * 2 ^ 24 % 2 ^ 32 ≡ d * 2 ^ 24 = omega arith in
      ap₂ bit_or e f ∙ or_shifted_r d 24 ((a * 2 ^ 8 + b) * 2 ^ 8 + c) (omega arith) ∙ omega arith

  rot16 : turned 16 (pack a b c d) ≡ pack c d a b
  rot16 =
      let e : pack a b c d / 2 ^ 16 ≡ a * 2 ^ 8 + b = omega arith in
      let f : pack a b c d * 2 ^ 16 % 2 ^ 32 ≡ (c * 2 ^ 8 + d) * 2 ^ 16 = omega arith in
      ap₂ bit_or e f ∙ or_shifted_r (c * 2 ^ 8 + d) 16 (a * 2 ^ 8 + b) (omega arith) ∙ omega arith

  rot24 : turned 24 (pack a b c d) ≡ pack b c d a
  rot24 =
      let e : pack a b c d / 2 ^ 24 ≡ a = omega arith in
      let f : pack a b c d * 2 ^ 8 % 2 ^ 32 ≡ ((b * 2 ^ 8 + c) * 2 ^ 8 + d) * 2 ^ 8 = omega arith in
      ap₂ bit_or e f ∙ or_shifted_r ((b * 2 ^ 8 + c) * 2 ^ 8 + d) 8 a (omega arith)

  pack0 : byte0 (pack a b c d) ≡ a
  pack0 = omega arith

  pack1 : byte1 (pack a b c d) ≡ b
  pack1 = omega arith

  pack2 : byte2 (pack a b c d) ≡ c
  pack2 = omega arith

  pack3 : byte3 (pack a b c d) ≡ d
  pack3 = omega arith

  mix_pack : mix_column (pack a b c d) ≡ mix_bytes a b c d
  unfolding mix_column
  mix_pack = ap4 mix_bytes pack0 pack1 pack2 pack3

-- MixColumns as a sum of four columns, each made of one byte and turned to its row
mix_law : (p q r s : ℕ) → p < 256 → q < 256 → r < 256 → s < 256
    → bit_xor (bit_xor (bit_xor (spread p) (turned 8 (spread q))) (turned 16 (spread r))) (turned 24 (spread s)) ≡ mix_bytes p q r s
unfolding spread mix_bytes
mix_law p q r s hp hq hr hs =
    let xp = xtime_lt p hp in
    let xq = xtime_lt q hq in
    let xr = xtime_lt r hr in
    let xs = xtime_lt s hs in
    let tp = three_lt p hp in
    let tq = three_lt q hq in
    let tr = three_lt r hr in
    let ts = three_lt s hs in
    ap₂ bit_xor
    (ap₂ bit_xor
    (ap (bit_xor (pack (xtime p) p p (three p))) (rot8 (xtime q) q q (three q) xq hq hq tq) ∙ pack_xor (xtime p) p p (three p) (three q) (xtime q) q q hp hp tp xq hq hq)
    (rot16 (xtime r) r r (three r) xr hr hr tr)
    ∙ pack_xor (bit_xor (xtime p) (three q)) (bit_xor p (xtime q)) (bit_xor p q) (bit_xor (three p) q) r (three r) (xtime r) r (xlt hp xq) (xlt hp hq) (xlt tp hq) tr xr hr)
    (rot24 (xtime s) s s (three s) xs hs hs ts)
    ∙ pack_xor (bit_xor (bit_xor (xtime p) (three q)) r) (bit_xor (bit_xor p (xtime q)) (three r)) (bit_xor (bit_xor p q) (xtime r)) (bit_xor (bit_xor (three p) q) r) s s (three s) (xtime s) (xlt (xlt hp xq) tr) (xlt (xlt hp hq) xr) (xlt (xlt tp hq) hr) hs ts xs

-- SubBytes and then ShiftRows, of one column
module _ (w x y z : ℕ) where
  pub shift_sub : shifted (sub_word w) (sub_word x) (sub_word y) (sub_word z) ≡ pack (sub (byte0 w)) (sub (byte1 x)) (sub (byte2 y)) (sub (byte3 z))
  unfolding shifted sub_word
  shift_sub =
      ap4 pack
      (pack0 (sub (byte0 w)) (sub (byte1 w)) (sub (byte2 w)) (sub (byte3 w)) (sub_lt (byte0 w)) (sub_lt (byte1 w)) (sub_lt (byte2 w)) (sub_lt (byte3 w)))
      (pack1 (sub (byte0 x)) (sub (byte1 x)) (sub (byte2 x)) (sub (byte3 x)) (sub_lt (byte0 x)) (sub_lt (byte1 x)) (sub_lt (byte2 x)) (sub_lt (byte3 x)))
      (pack2 (sub (byte0 y)) (sub (byte1 y)) (sub (byte2 y)) (sub (byte3 y)) (sub_lt (byte0 y)) (sub_lt (byte1 y)) (sub_lt (byte2 y)) (sub_lt (byte3 y)))
      (pack3 (sub (byte0 z)) (sub (byte1 z)) (sub (byte2 z)) (sub (byte3 z)) (sub_lt (byte0 z)) (sub_lt (byte1 z)) (sub_lt (byte2 z)) (sub_lt (byte3 z)))

-- ---- a column, row after row

-- the order of the sums
gathered : (k a b c d : ℕ) → bit_xor (bit_xor (bit_xor k a) c) (bit_xor b d) ≡ bit_xor (bit_xor (bit_xor (bit_xor a b) c) d) k
gathered k a b c d =
    ap (λ (x : ℕ). bit_xor x (bit_xor b d)) (xor_assoc k a c)
    ∙ xor_assoc k (bit_xor a c) (bit_xor b d)
    ∙ xor_comm k (bit_xor (bit_xor a c) (bit_xor b d))
    ∙ ap (λ (x : ℕ). bit_xor x k)
    (sym (xor_assoc (bit_xor a c) b d) ∙ ap (λ (x : ℕ). bit_xor x d) (xor_assoc a c b ∙ ap (bit_xor a) (xor_comm c b) ∙ sym (xor_assoc a b c)))

module _ (w x y z : ℕ) where
  abbrev taken : List ℕ
  taken = byte0 w ∷ byte1 x ∷ byte2 y ∷ byte3 z ∷ []

  pub mixed_law : (k : ℕ)
      → bit_xor
      (bit_xor (bit_xor k (spread (sub (byte0 w)))) (turned 16 (spread (sub (byte2 y)))))
      (bit_xor (turned 8 (spread (sub (byte1 x)))) (turned 24 (spread (sub (byte3 z)))))
      ≡ column w x y z k
  unfolding column
  mixed_law k =
      let p = sub_lt (byte0 w) in
      let q = sub_lt (byte1 x) in
      let r = sub_lt (byte2 y) in
      let s = sub_lt (byte3 z) in
      gathered k (spread (sub (byte0 w))) (turned 8 (spread (sub (byte1 x)))) (turned 16 (spread (sub (byte2 y)))) (turned 24 (spread (sub (byte3 z))))
      ∙ ap (λ (v : ℕ). bit_xor v k)
      (mix_law (sub (byte0 w)) (sub (byte1 x)) (sub (byte2 y)) (sub (byte3 z)) p q r s
      ∙ sym (mix_pack (sub (byte0 w)) (sub (byte1 x)) (sub (byte2 y)) (sub (byte3 z)) p q r s)
      ∙ ap mix_column (sym (shift_sub w x y z)))

-- the bytes of a word, substituted one after another
unfoldable pub subs : List ℕ → ℕ → ℕ
subs m zero = 0
subs m (suc j) = subs m j * 2 ^ 8 % 2 ^ 32 + sub (get_or m j 0)

pub subs_more : (m : List ℕ) (j v s : ℕ) → v ≡ subs m j → s ≡ sub (get_or m j 0) → v * 2 ^ 8 % 2 ^ 32 + s ≡ subs m (j + 1)
unfolding subs
subs_more m j v s p q = ap₂ (λ (x y : ℕ). x * 2 ^ 8 % 2 ^ 32 + y) p q ∙ sym (ap (subs m) (add-one j))

pub subs_fits : (m : List ℕ) (j v s : ℕ) → s ≡ sub (get_or m j 0) → v * 2 ^ 8 % 2 ^ 32 + s < 2 ^ 32
subs_fits m j v s q = let h = sub_lt (get_or m j 0) in rw q (omega (arith, h))

module _ (w x y z : ℕ) where
  subs_four : subs (taken w x y z) 4 ≡ pack (sub (byte0 w)) (sub (byte1 x)) (sub (byte2 y)) (sub (byte3 z))
  unfolding subs
  subs_four = four (sub (byte0 w)) (sub (byte1 x)) (sub (byte2 y)) (sub (byte3 z)) (sub_lt (byte0 w)) (sub_lt (byte1 x)) (sub_lt (byte2 y)) (sub_lt (byte3 z))
    where
      four : (p q r s : ℕ) → p < 256 → q < 256 → r < 256 → s < 256
          → (((0 * 2 ^ 8 % 2 ^ 32 + p) * 2 ^ 8 % 2 ^ 32 + q) * 2 ^ 8 % 2 ^ 32 + r) * 2 ^ 8 % 2 ^ 32 + s ≡ pack p q r s
      four p q r s hp hq hr hs = omega arith

  pub substituted_is : (m : List ℕ) (j v : ℕ) → m ≡ taken w x y z → j ≡ 4 → v ≡ subs m j → v ≡ pack (sub (byte0 w)) (sub (byte1 x)) (sub (byte2 y)) (sub (byte3 z))
  substituted_is m j v em ej p = p ∙ ap₂ subs em ej ∙ subs_four

-- ---- rounds

-- word i of an expanded key
pub key_word : (b : List ℕ) (i : ℕ) → i < 44 → word_of b i ≡ get_or (key_words b) i 0
unfolding key_words
key_word b i h = sym (values_at (word_of b) 44 i h)

-- the bytes of an expanded key from 16 i on, added as a state
pub key_added : (b : List ℕ) (i : ℕ) (s u r : Block) → 4 * i + 3 < 44 → u ≡ block_at b (16 * i)
    → r ≡ state (bit_xor s.w0 u.w0) (bit_xor s.w1 u.w1) (bit_xor s.w2 u.w2) (bit_xor s.w3 u.w3) → r ≡ add_round_key (key_words b) i s
unfolding add_round_key
key_added b i s u r h eu er =
    er ∙ ap (λ (x : Block). state (bit_xor s.w0 x.w0) (bit_xor s.w1 x.w1) (bit_xor s.w2 x.w2) (bit_xor s.w3 x.w3)) eu
    ∙ same (ap (bit_xor s.w0) (word 0 (16 * i) (4 * i) (omega arith) (omega arith) (omega arith))) (ap (bit_xor s.w1) (word 1 (16 * i + 4) (4 * i + 1) (omega arith) refl (omega arith))) (ap (bit_xor s.w2) (word 2 (16 * i + 8) (4 * i + 2) (omega arith) refl (omega arith))) (ap (bit_xor s.w3) (word 3 (16 * i + 12) (4 * i + 3) (omega arith) refl (omega arith)))
  where
    word : (j p n : ℕ) → p ≡ 4 * n → n ≡ 4 * i + j → j ≤ 3 → number_at 4 b p ≡ get_or (key_words b) n 0
    word j p n e f k = ap (number_at 4 b) e ∙ key_word b n (omega arith)

pub last_law : (b : List ℕ) (s u : Block) → u ≡ block_at b 160
    → state
    (bit_xor (pack (sub (byte0 s.w0)) (sub (byte1 s.w1)) (sub (byte2 s.w2)) (sub (byte3 s.w3))) u.w0)
    (bit_xor (pack (sub (byte0 s.w1)) (sub (byte1 s.w2)) (sub (byte2 s.w3)) (sub (byte3 s.w0))) u.w1)
    (bit_xor (pack (sub (byte0 s.w2)) (sub (byte1 s.w3)) (sub (byte2 s.w0)) (sub (byte3 s.w1))) u.w2)
    (bit_xor (pack (sub (byte0 s.w3)) (sub (byte1 s.w0)) (sub (byte2 s.w1)) (sub (byte3 s.w2))) u.w3)
    ≡ last_round (key_words b) s
unfolding last_round shift_rows sub_bytes
last_law b s u e =
    ap (λ (x : Block). state (bit_xor x.w0 u.w0) (bit_xor x.w1 u.w1) (bit_xor x.w2 u.w2) (bit_xor x.w3 u.w3))
    (same (sym (shift_sub s.w0 s.w1 s.w2 s.w3)) (sym (shift_sub s.w1 s.w2 s.w3 s.w0)) (sym (shift_sub s.w2 s.w3 s.w0 s.w1)) (sym (shift_sub s.w3 s.w0 s.w1 s.w2)))
    ∙ key_added b 10 (shift_rows (sub_bytes s)) u _ (omega arith) e refl

pub round_law : (b : List ℕ) (s u : Block) (i : ℕ) → i < 11 → u ≡ block_at b (16 * i)
    → state (column s.w0 s.w1 s.w2 s.w3 u.w0) (column s.w1 s.w2 s.w3 s.w0 u.w1) (column s.w2 s.w3 s.w0 s.w1 u.w2) (column s.w3 s.w0 s.w1 s.w2 u.w3) ≡ round (key_words b) i s
unfolding column round mix_columns shift_rows sub_bytes
round_law b s u i h e = key_added b i (mix_columns (shift_rows (sub_bytes s))) u _ (omega arith) e refl

pub first_round : (w : List ℕ) (s x r : Block) → x ≡ add_round_key w 0 s → r ≡ round w 1 x → r ≡ rounds w 1 (add_round_key w 0 s)
unfolding rounds
first_round w s x r ex er = er ∙ ap (round w 1) ex

pub more_rounds : (w : List ℕ) (s x r : Block) (i : ℕ) → 1 ≤ i → x ≡ rounds w (i - 1) s → r ≡ round w i x → r ≡ rounds w (i + 1 - 1) s
unfolding rounds
more_rounds w s x r i h ex er =
    let n : i ≡ suc (i - 1) = omega arith in
    let m : i + 1 - 1 ≡ suc (i - 1) = omega arith in
    er ∙ ap₂ (round w) n ex ∙ sym (ap (λ (j : ℕ). rounds w j s) m)

pub cipher_is : (w : List ℕ) (s x r : Block) (i : ℕ) → x ≡ rounds w (i - 1) (add_round_key w 0 s) → i ≡ 10 → r ≡ last_round w x → r ≡ cipher w s
unfolding cipher
cipher_is w s x r i ex en er = er ∙ ap (last_round w) (ex ∙ ap (λ (j : ℕ). rounds w (j - 1) (add_round_key w 0 s)) en)

-- ---- the key schedule

pub rotated_is : (v : ℕ) → v < 2 ^ 32 → rotate_left w32 v 8 ≡ rot_word v
rotated_is v h =
    let e : v * 2 ^ 8 % 2 ^ 32 ≡ v % 2 ^ 24 * 2 ^ 8 = omega arith in
    let e1 : v / 65536 ≡ v / 16777216 * 256 + v / 65536 % 256 = omega arith in
    let e2 : v / 256 ≡ v / 65536 * 256 + v / 256 % 256 = omega arith in
    let e3 : v ≡ v / 256 * 256 + v % 256 = omega arith in
    let e4 : v ≡ v / 16777216 * 16777216 + v % 16777216 = omega arith in
    let e5 : v / 16777216 % 256 ≡ v / 16777216 = omega arith in
    ap (λ (x : ℕ). bit_or x (v / 2 ^ 24)) e ∙ or_shifted (v % 2 ^ 24) 8 (v / 2 ^ 24) (omega arith)
    ∙ ap (λ (x : ℕ). x * 256 + v / 16777216) (low e1 e2 e3 e4) ∙ ap (λ (x : ℕ). ((v / 65536 % 256 * 256 + v / 256 % 256) * 256 + v % 256) * 256 + x) (sym e5)
  where
    low : v / 65536 ≡ v / 16777216 * 256 + v / 65536 % 256 → v / 256 ≡ v / 65536 * 256 + v / 256 % 256 → v ≡ v / 256 * 256 + v % 256 → v ≡ v / 16777216 * 16777216 + v % 16777216
        → v % 16777216 ≡ (v / 65536 % 256 * 256 + v / 256 % 256) * 256 + v % 256
    low e1 e2 e3 e4 = omega arith

-- a word of the schedule, with a substitution and without
module _ (u v j : ℕ) where
  abbrev chosen : Bool → ℕ
  chosen b = bit_xor u (pick b (bit_xor (sub_word (rot_word v)) (rcon (j / 4))) v)

  pub next_sub : (w s r : ℕ) → j % 4 ≡ 0 → w ≡ rot_word v → s ≡ pack (sub (byte0 w)) (sub (byte1 w)) (sub (byte2 w)) (sub (byte3 w)) → r ≡ rcon (j / 4)
      → bit_xor u (bit_xor s r) ≡ next_of u v j
  unfolding next_of sub_word
  next_sub w s r h ew es er = ap (bit_xor u) (ap₂ bit_xor (es ∙ ap sub_word ew) er) ∙ sym (ap chosen (eq-eqb (j % 4) 0 h))

  pub next_plain : (j % 4 ≡ 0 → ⊥) → bit_xor u v ≡ next_of u v j
  unfolding next_of
  next_plain h = sym (ap chosen (ne_eqb (j % 4) 0 h))

-- four words of the schedule, from word n on
abbrev pub window : List ℕ → ℕ → Block
window l n = state (word_of l n) (word_of l (n + 1)) (word_of l (n + 2)) (word_of l (n + 3))

pub next_window : (l : List ℕ) (s : Block) (j v : ℕ) → s ≡ window l j → v ≡ next_of s.w0 s.w3 j → v ≡ next_word l j
unfolding next_word next_of
next_window l s j v e f = f ∙ ap (λ (x : Block). next_of x.w0 x.w3 j) e

schedule_length : (key : List ℕ) (n : ℕ) → length key ≡ 16 → length (schedule key n) ≡ 16 + 4 * n
unfolding schedule
schedule_length key zero e = e
schedule_length key (suc n) e =
    let p = schedule_length key n e in
    let q = bytes_length 4 (next_word (schedule key n) n) in
    length-append (schedule key n) (bytes_of 4 (next_word (schedule key n) n)) ∙ ap₂ ◌+◌ p q ∙ omega arith

-- one word more, and the four words from the next on
word_before : (l : List ℕ) (j i v : ℕ) → length l ≡ 16 + 4 * j → i ≤ j + 3 → word_of (l ++ bytes_of 4 v) i ≡ word_of l i
word_before l j i v e h = number_front 4 l (bytes_of 4 v) (4 * i) (rw e (omega arith))

word_put : (l : List ℕ) (j i v : ℕ) → length l ≡ 16 + 4 * j → i ≡ j + 4 → v < 2 ^ 32 → word_of (l ++ bytes_of 4 v) i ≡ v
word_put l j i v e f h =
    ap (λ (x : List ℕ). number_at 4 (l ++ x) (4 * i)) (sym (append-nil (bytes_of 4 v))) ∙ number_at_lem 4 v (4 * i) l [] (e ∙ omega (arith, f)) h

pub window_more : (key : List ℕ) (s r : Block) (j v : ℕ) → length key ≡ 16 → v < 2 ^ 32 → s ≡ window (schedule key j) j → v ≡ next_word (schedule key j) j → r ≡ push s v
    → r ≡ window (schedule key (j + 1)) (j + 1)
unfolding schedule
window_more key s r j v e h es ev er =
    let l = schedule key j in
    let p : length l ≡ 16 + 4 * j = schedule_length key j e in
    let q : schedule key (j + 1) ≡ l ++ bytes_of 4 v = ap (schedule key) (add-one j) ∙ ap (λ (x : ℕ). l ++ bytes_of 4 x) (sym ev) in
    er ∙ ap (λ (x : Block). push x v) es
    ∙ same
    (sym (word_before l j (j + 1) v p (omega arith)))
    (sym (word_before l j (j + 1 + 1) v p (omega arith) ∙ ap (word_of l) (omega arith)))
    (sym (word_before l j (j + 1 + 2) v p (omega arith) ∙ ap (word_of l) (omega arith)))
    (sym (word_put l j (j + 1 + 3) v p (omega arith) h))
    ∙ ap (λ (x : List ℕ). window x (j + 1)) (sym q)

-- the key's own bytes, put at the front
pub schedule_none : (d m key : List ℕ) → length key ≡ 16 → m ≡ splice d 0 key → take (16 + 4 * 0) m ≡ schedule key 0
unfolding schedule
schedule_none d m key e p = ap (take 16) p ∙ take_splice d key 0 16 e zero-le

pub schedule_more : (key l m : List ℕ) (j v : ℕ) → 16 + 4 * j + 4 ≤ length l → take (16 + 4 * j) l ≡ schedule key j → v ≡ next_word (schedule key j) j → m ≡ splice l (16 + 4 * j) (bytes_of 4 v)
    → take (16 + 4 * (j + 1)) m ≡ schedule key (j + 1)
unfolding schedule
schedule_more key l m j v h e f g =
    let p : 16 + 4 * (j + 1) ≡ 16 + 4 * j + 4 = omega arith in
    ap₂ (λ (n : ℕ) (x : List ℕ). take n x) p g ∙ take_splice l (bytes_of 4 v) (16 + 4 * j) 4 (bytes_length 4 v) (omega arith)
    ∙ ap₂ (λ (x : List ℕ) (y : ℕ). x ++ bytes_of 4 y) e f
    ∙ sym (ap (schedule key) (add-one j))

-- ---- a block as bytes

-- as many bytes as there are put in the place of all
put_all : (d v : List ℕ) → length d ≡ length v → splice d 0 v ≡ v
unfolding splice
put_all d v e = ap (λ (x : List ℕ). v ++ x) (drop_of_length-le d {i = 0 + length v} (omega (arith, e))) ∙ append-nil v

-- four words, each put behind the one before
pub block_put : (s : Block) (d m n o r : List ℕ) → length d ≡ 16 → m ≡ splice d 0 (bytes_of 4 s.w0) → n ≡ splice m 4 (bytes_of 4 s.w1) → o ≡ splice n 8 (bytes_of 4 s.w2)
    → r ≡ splice o 12 (bytes_of 4 s.w3) → r ≡ block_bytes s
unfolding block_bytes
block_put s d m n o r e p q g h =
    let u = bytes_of 4 s.w0 in
    let v = bytes_of 4 s.w1 in
    let w = bytes_of 4 s.w2 in
    let x = bytes_of 4 s.w3 in
    splice_four d m n o r 0 4 8 12 u v w x p q g h (bytes_length 4 s.w0) (simp bytes_length) (simp bytes_length) (omega (arith, e))
    ∙ put_all d (u ++ (v ++ (w ++ x))) (e ∙ simp (length-append, bytes_length))
    ∙ sym (append_assoc u v (w ++ x)) ∙ sym (append_assoc (u ++ v) w x)
