-- A key's words, its 34 bytes, and the tests on keys (document 01, "Keys, values, messages"). What the tests say of the
-- bits themselves is in Bits.
use Rattle.std.specs.Prelude.{ℕ, ◌+◌, ◌-◌, ◌/◌, ◌%◌, ◌^◌, ◌<◌, List, ◌++◌, Bool, Option, Some, None, ltb, leb, eqb}
use Rattle.words.specs.Choice.{pick, both}
use Rattle.words.specs.Numbers.{number_at, bytes_of, four_words}
use Rattle.key.specs.declared.Key.{Key}

-- the widest length, that of a data key
abbrev pub widest : ℕ
widest = 256

abbrev pub root_key : Key
root_key = record { len = 0; w0 = 0; w1 = 0; w2 = 0; w3 = 0 }

abbrev pub data_key : ℕ → ℕ → ℕ → ℕ → Key
data_key a b c d = record { len = 256; w0 = a; w1 = b; w2 = c; w3 = d }

-- a data key; any other is a node key
abbrev pub is_data : Key → Bool
is_data k = eqb k.len widest

-- every bit of a word past its first n is zero. From 64 on, none is past them
unfoldable pub clean : ℕ → ℕ → Bool
clean n w = eqb (w % 2 ^ (64 - n)) 0

-- the length is at most 256, and every bit past it is zero
unfoldable pub well_key : Key → Bool
well_key k =
    both (leb k.len widest)
    (both (clean k.len k.w0)
    (both (clean (k.len - 64) k.w1)
    (both (clean (k.len - 128) k.w2) (clean (k.len - 192) k.w3))))

-- every number fits its field, as in every key of the code
pub record KeyFits (k : Key) : Type 0 where
  pub len : k.len < 2 ^ 16
  pub w0 : k.w0 < 2 ^ 64
  pub w1 : k.w1 < 2 ^ 64
  pub w2 : k.w2 < 2 ^ 64
  pub w3 : k.w3 < 2 ^ 64

unfoldable pub key_bytes : Key → List ℕ
key_bytes k = bytes_of 2 k.len ++ four_words k.w0 k.w1 k.w2 k.w3

-- what 34 bytes say, well formed or not
unfoldable pub raw_key : List ℕ → ℕ → Key
raw_key s at =
    record {
      len = number_at 2 s at;
      w0 = number_at 8 s (at + 2);
      w1 = number_at 8 s (at + 10);
      w2 = number_at 8 s (at + 18);
      w3 = number_at 8 s (at + 26);
    }

unfoldable pub key_at : List ℕ → ℕ → Option Key
key_at s at = pick (well_key (raw_key s at)) (Some (raw_key s at)) None

-- a data key's 32 bytes, with no length before them
unfoldable pub data_at : List ℕ → ℕ → Key
data_at s at = data_key (number_at 8 s at) (number_at 8 s (at + 8)) (number_at 8 s (at + 16)) (number_at 8 s (at + 24))

unfoldable pub data_bytes : Key → List ℕ
data_bytes k = four_words k.w0 k.w1 k.w2 k.w3

unfoldable pub key_eq : Key → Key → Bool
key_eq a b =
    both (eqb a.len b.len)
    (both (eqb a.w0 b.w0) (both (eqb a.w1 b.w1) (both (eqb a.w2 b.w2) (eqb a.w3 b.w3))))

-- the first n bits of two words are the same
unfoldable pub same_top : ℕ → ℕ → ℕ → Bool
same_top n x y = eqb (x / 2 ^ (64 - n)) (y / 2 ^ (64 - n))

-- a is a proper ancestor of b: b is longer and begins with a
unfoldable pub above : Key → Key → Bool
above a b =
    both (ltb a.len b.len)
    (both (same_top a.len a.w0 b.w0)
    (both (same_top (a.len - 64) a.w1 b.w1)
    (both (same_top (a.len - 128) a.w2 b.w2) (same_top (a.len - 192) a.w3 b.w3))))

-- bit i of a key, bit 0 the top bit of its first byte
unfoldable pub bit_at : Key → ℕ → ℕ
bit_at k i =
    pick (ltb i 64) (k.w0 / 2 ^ (63 - i) % 2)
    (pick (ltb i 128) (k.w1 / 2 ^ (127 - i) % 2)
    (pick (ltb i 192) (k.w2 / 2 ^ (191 - i) % 2) (k.w3 / 2 ^ (255 - i) % 2)))

-- the side of a that b lies on, b's bit after a's last: 0 left (false), 1 right (true)
unfoldable pub toward : Key → Key → Bool
toward a b = eqb (bit_at b a.len) 1
