-- Laws of keys: the tests on words, and the round trip through bytes. Assumes nothing.
use Prim.Native.Nat.{ℕ, ◌+◌, ◌*◌, ◌-◌, ◌%◌, ◌^◌, ◌≤◌, ◌<◌}
use mathlib.Core.Path.{◌≡◌, refl, ap, sym, ◌∙◌}
use mathlib.Core.List.{List, [], ◌++◌, append_assoc}
use mathlib.Core.Bool.{true}
use native.Mathlib.Nat.{div-eq_of_lt, div-one, mod-one, mod-eq_of_lt, sub-eq-zero_of_le, one-mul, add_assoc}
use native.Mathlib.Omega.{arith}
use lib.ListN.{length, length-append}
use borrow.Author.Tests.{le-leb, eqb-true, eq-eqb}
use lib.Dec.{eqb, lit<}
use lib.Pow.{shl_exact}
use Rattle.words.specs.Choice.{pick}
use Rattle.words.specs.Numbers.{number_at, bytes_of, Bytes}
use Rattle.words.specs.Splices.{part}
use Rattle.words.proofs.Laws.{bytes_length, number_at_lem, number_lt, bytes_back, part_join, four_length, four_at_lem, four_back, four_bytes, append_bytes, number_bytes, both_true, picked, never}
use Rattle.key.specs.Keys.{key_at, raw_key, data_at, root_key, data_key, is_data, well_key, key_bytes, data_bytes, KeyFits, key_eq, same_top, clean}
use Rattle.key.specs.declared.Key.{Key}
use Rattle.std.specs.Prelude.{Some, None}

-- ---- the tests on words at their ends, where the machine has no shift for them

pub same_top_none : (n x y : ℕ) → x < 2 ^ 64 → y < 2 ^ 64 → n ≡ 0 → same_top n x y ≡ true
unfolding same_top
same_top_none n x y p q e = rw (e, div-eq_of_lt p, div-eq_of_lt q)

pub same_top_all : (n x y : ℕ) → 64 ≤ n → same_top n x y ≡ eqb x y
unfolding same_top
same_top_all n x y h = rw (sub-eq-zero_of_le h) (simp div-one)

pub clean_none : (n w : ℕ) → w < 2 ^ 64 → n ≡ 0 → clean n w ≡ eqb w 0
unfolding clean
clean_none n w p e = rw (e, mod-eq_of_lt p)

pub clean_all : (n w : ℕ) → 64 ≤ n → clean n w ≡ true
unfolding clean
clean_all n w h = rw (sub-eq-zero_of_le h, mod-one)

-- one bit shifted into place
pub one_shl : (n : ℕ) → n < 64 → (1 * 2 ^ n) % 18446744073709551616 ≡ 2 ^ n
one_shl n h = shl_exact {a = 1} 1 n 64 (lit< tt) (omega arith) ∙ one-mul (2 ^ n)

-- ---- what is read as a key

-- a key's bytes are its length and then those of a data key
pub raw_join : (s : List ℕ) (at n : ℕ) (d : Key) → d ≡ data_at s (at + 2) → n ≡ number_at 2 s at
    → ◌≡◌ {A = Key} (record { len = n; w0 = d.w0; w1 = d.w1; w2 = d.w2; w3 = d.w3 }) (raw_key s at)
unfolding raw_key data_at
raw_join s at n d p q = rw (p, q, add_assoc at 2 8, add_assoc at 2 16, add_assoc at 2 24)

-- ---- a key is its parts

pub key_ext : (a b : Key) → a.len ≡ b.len → a.w0 ≡ b.w0 → a.w1 ≡ b.w1 → a.w2 ≡ b.w2 → a.w3 ≡ b.w3 → a ≡ b
key_ext a b p q r s t = λ i. record { len = p i; w0 = q i; w1 = r i; w2 = s i; w3 = t i }

-- a data key is its words
pub data_ext : (k : Key) → is_data k ≡ true → data_key k.w0 k.w1 k.w2 k.w3 ≡ k
data_ext k e = key_ext (data_key k.w0 k.w1 k.w2 k.w3) k (sym (eqb-true k.len 256 e)) refl refl refl refl

-- the test of two keys is their equality
pub key_eq_true : (a b : Key) → key_eq a b ≡ true → a ≡ b
unfolding key_eq
key_eq_true a b e =
    let len = both_true (eqb a.len b.len) _ e in
    let w0 = both_true (eqb a.w0 b.w0) _ len.1 in
    let w1 = both_true (eqb a.w1 b.w1) _ w0.1 in
    let w2 = both_true (eqb a.w2 b.w2) (eqb a.w3 b.w3) w1.1 in
    key_ext a b (eqb-true _ _ len.0) (eqb-true _ _ w0.0) (eqb-true _ _ w1.0) (eqb-true _ _ w2.0) (eqb-true _ _ w2.1)

pub key_eq_refl : (a : Key) → key_eq a a ≡ true
unfolding key_eq
key_eq_refl a =
    rw (eq-eqb a.len a.len refl, eq-eqb a.w0 a.w0 refl, eq-eqb a.w1 a.w1 refl, eq-eqb a.w2 a.w2 refl, eq-eqb a.w3 a.w3 refl)

-- ---- the root and the data keys are keys

pub root_fits : KeyFits root_key
root_fits = record { len = lit< tt; w0 = lit< tt; w1 = lit< tt; w2 = lit< tt; w3 = lit< tt }

pub root_well : well_key root_key ≡ true
unfolding well_key clean
root_well = refl

-- a data key is well formed
pub data_well : (k : Key) → is_data k ≡ true → well_key k ≡ true
unfolding well_key
data_well k e =
    let h : k.len ≡ 256 = eqb-true k.len 256 e in
    rw (le-leb k.len 256 (omega arith), clean_all k.len k.w0 (omega arith), clean_all (k.len - 64) k.w1 (omega arith), clean_all (k.len - 128) k.w2 (omega arith), clean_all (k.len - 192) k.w3 (omega arith))

-- ---- the round trip

pub data_length : (k : Key) → length (data_bytes k) ≡ 32
unfolding data_bytes
data_length k = four_length k.w0 k.w1 k.w2 k.w3

-- a key's bytes are those of its length, and then those of a data key
key_join : (k : Key) → key_bytes k ≡ bytes_of 2 k.len ++ data_bytes k
unfolding key_bytes data_bytes
key_join k = refl

pub key_length : (k : Key) → length (key_bytes k) ≡ 34
key_length k = rw (key_join, length-append, bytes_length, data_length)

pub data_bytes_lem : (k : Key) → Bytes (data_bytes k)
unfolding data_bytes
data_bytes_lem k = four_bytes k.w0 k.w1 k.w2 k.w3

pub key_bytes_lem : (k : Key) → Bytes (key_bytes k)
key_bytes_lem k = rw (key_join k) (append_bytes (bytes_of 2 k.len) (data_bytes k) (number_bytes 2 k.len) (data_bytes_lem k))

-- what is written as a data key's bytes is read as the data key of those words, wherever it stands and whatever follows
pub data_back : (k : Key) → KeyFits k → (at : ℕ) (p r : List ℕ) → length p ≡ at
    → data_at (p ++ (data_bytes k ++ r)) at ≡ data_key k.w0 k.w1 k.w2 k.w3
unfolding data_at data_bytes
data_back k fits at p r e =
    let f = four_at_lem k.w0 k.w1 k.w2 k.w3 at p r e fits.w0 fits.w1 fits.w2 fits.w3 in
    rw (f.first, f.second, f.third, f.fourth)

module _ (k : Key) (fits : KeyFits k) (at : ℕ) (p r : List ℕ) (e : length p ≡ at) where
  raw_back : raw_key (p ++ (key_bytes k ++ r)) at ≡ k
  raw_back =
      rw (key_join, append_assoc (bytes_of 2 k.len) (data_bytes k) r)
      (sym
      (raw_join (p ++ (bytes_of 2 k.len ++ (data_bytes k ++ r))) at k.len (data_key k.w0 k.w1 k.w2 k.w3)
      (sym
      (ap (λ (s : List ℕ). data_at s (at + 2)) (sym (append_assoc p (bytes_of 2 k.len) (data_bytes k ++ r)))
      ∙ data_back k fits (at + 2) (p ++ bytes_of 2 k.len) r (simp (length-append, bytes_length, e))))
      (sym (number_at_lem 2 k.len at p (data_bytes k ++ r) e fits.len))))

  -- what is written as a key is read as that key where it is well formed, and as none where it is not
  pub key_read : key_at (p ++ (key_bytes k ++ r)) at ≡ pick (well_key k) (Some k) None
  unfolding key_at
  key_read = rw raw_back

  pub key_back : well_key k ≡ true → key_at (p ++ (key_bytes k ++ r)) at ≡ Some k
  key_back w = key_read ∙ rw w

pub data_fits : (s : List ℕ) (at : ℕ) → Bytes s → KeyFits (data_at s at)
unfolding data_at
data_fits s at b =
    record { len = lit< tt; w0 = number_lt 8 s at b; w1 = number_lt 8 s (at + 8) b; w2 = number_lt 8 s (at + 16) b; w3 = number_lt 8 s (at + 24) b }

-- what is read as a data key is written as the same bytes
pub data_same : (s : List ℕ) (at : ℕ) → Bytes s → at + 32 ≤ length s → data_bytes (data_at s at) ≡ part s at 32
unfolding data_bytes data_at
data_same s at b h = four_back s at b h

raw_same : (s : List ℕ) (at : ℕ) → Bytes s → at + 34 ≤ length s → key_bytes (raw_key s at) ≡ part s at 34
unfolding key_bytes data_bytes
raw_same s at b h =
    ap key_bytes (sym (raw_join s at (number_at 2 s at) (data_at s (at + 2)) refl refl))
    ∙ ap (λ (l : List ℕ). bytes_of 2 (number_at 2 s at) ++ l) (data_same s (at + 2) b (omega arith))
    ∙ rw (bytes_back 2 s at b (omega arith)) (part_join s at 2 (at + 2) 32 refl)

raw_fits : (s : List ℕ) (at : ℕ) → Bytes s → KeyFits (raw_key s at)
unfolding raw_key
raw_fits s at b =
    record {
      len = number_lt 2 s at b;
      w0 = number_lt 8 s (at + 2) b;
      w1 = number_lt 8 s (at + 10) b;
      w2 = number_lt 8 s (at + 18) b;
      w3 = number_lt 8 s (at + 26) b;
    }

module _ (s : List ℕ) (at : ℕ) (k : Key) (e : key_at s at ≡ Some k) where
  -- a key that is read is what the bytes say, and well formed
  key_raw : (raw_key s at ≡ k) × (well_key (raw_key s at) ≡ true)
  unfolding key_at
  key_raw = picked (well_key (raw_key s at)) _ _ _ e (λ w q. (cc, w)) (λ _ q. never cc)

  pub key_well : well_key k ≡ true
  key_well = rw key_raw.0 at key_raw.1

  pub key_fits : Bytes s → KeyFits k
  key_fits b = rw key_raw.0 at (raw_fits s at b)

  -- what is read as a key is written as the same bytes
  pub key_same : Bytes s → at + 34 ≤ length s → key_bytes k ≡ part s at 34
  key_same b h = rw key_raw.0 at (raw_same s at b h)

-- two keys with the same bytes are the same
pub key_inj : (a b : Key) → KeyFits a → KeyFits b → key_bytes a ≡ key_bytes b → a ≡ b
key_inj a b p q e = sym (raw_back a p 0 [] [] refl) ∙ ap (λ (s : List ℕ). raw_key (s ++ []) 0) e ∙ raw_back b q 0 [] [] refl

pub data_inj : (a b : Key) → KeyFits a → KeyFits b → is_data a ≡ true → is_data b ≡ true → data_bytes a ≡ data_bytes b → a ≡ b
data_inj a b p q x y e =
    sym (data_ext a x) ∙ sym (data_back a p 0 [] [] refl) ∙ ap (λ (s : List ℕ). data_at (s ++ []) 0) e ∙ data_back b q 0 [] [] refl ∙ data_ext b y
