-- FIPS 197, section 5: AES-128, in the order of the document. A word is a number below 2 ^ 32 whose highest byte is the
-- word's first, a0. The state is its four columns as words, as section 3.5 has it: w0 is the first column, and row r is
-- byte r of each. The words w of the key schedule are a list; the expanded key is their bytes, word i at 4 i. Assumes nothing.
use Rattle.std.specs.Prelude.{List, ◌++◌, ℕ, zero, suc, ◌+◌, ◌*◌, ◌/◌, ◌%◌, ◌^◌, eqb, get_or}
use Rattle.std.specs.Int.Bits.{bit_xor}
use Rattle.words.specs.Choice.{pick}
use Rattle.words.specs.Numbers.{number_at, bytes_of}
use Rattle.sbox.specs.Field.{xtime, three, sub, values_of}
use Rattle.sbox.specs.Columns.{pack}
use Rattle.aes.specs.declared.Block.{Block}

-- 3.5: the bytes of a word
abbrev pub byte0 : ℕ → ℕ
byte0 w = w / 2 ^ 24 % 256

abbrev pub byte1 : ℕ → ℕ
byte1 w = w / 2 ^ 16 % 256

abbrev pub byte2 : ℕ → ℕ
byte2 w = w / 2 ^ 8 % 256

abbrev pub byte3 : ℕ → ℕ
byte3 w = w % 256

-- the state of four columns
abbrev pub state : ℕ → ℕ → ℕ → ℕ → Block
state a b c d = record { w0 = a; w1 = b; w2 = c; w3 = d }

-- 5.1.1: SubBytes, of a column and of the state
unfoldable pub sub_word : ℕ → ℕ
sub_word w = pack (sub (byte0 w)) (sub (byte1 w)) (sub (byte2 w)) (sub (byte3 w))

unfoldable pub sub_bytes : Block → Block
sub_bytes s = state (sub_word s.w0) (sub_word s.w1) (sub_word s.w2) (sub_word s.w3)

-- 5.1.2: ShiftRows. A column takes row 0 from itself, row 1 from the next column, and so on
unfoldable pub shifted : ℕ → ℕ → ℕ → ℕ → ℕ
shifted a b c d = pack (byte0 a) (byte1 b) (byte2 c) (byte3 d)

unfoldable pub shift_rows : Block → Block
shift_rows s =
    state
    (shifted s.w0 s.w1 s.w2 s.w3)
    (shifted s.w1 s.w2 s.w3 s.w0)
    (shifted s.w2 s.w3 s.w0 s.w1)
    (shifted s.w3 s.w0 s.w1 s.w2)

-- 5.1.3: MixColumns, of a column's bytes, of a column and of the state
unfoldable pub mix_bytes : ℕ → ℕ → ℕ → ℕ → ℕ
mix_bytes a b c d =
    pack
    (bit_xor (bit_xor (bit_xor (xtime a) (three b)) c) d)
    (bit_xor (bit_xor (bit_xor a (xtime b)) (three c)) d)
    (bit_xor (bit_xor (bit_xor a b) (xtime c)) (three d))
    (bit_xor (bit_xor (bit_xor (three a) b) c) (xtime d))

unfoldable pub mix_column : ℕ → ℕ
mix_column w = mix_bytes (byte0 w) (byte1 w) (byte2 w) (byte3 w)

unfoldable pub mix_columns : Block → Block
mix_columns s = state (mix_column s.w0) (mix_column s.w1) (mix_column s.w2) (mix_column s.w3)

-- 5.1.4: AddRoundKey, with words 4 i to 4 i + 3 of the key schedule
unfoldable pub add_round_key : List ℕ → ℕ → Block → Block
add_round_key w i s =
    state
    (bit_xor s.w0 (get_or w (4 * i) 0))
    (bit_xor s.w1 (get_or w (4 * i + 1) 0))
    (bit_xor s.w2 (get_or w (4 * i + 2) 0))
    (bit_xor s.w3 (get_or w (4 * i + 3) 0))

-- 5.1: round i, the first n rounds, the last round, and the cipher
unfoldable pub round : List ℕ → ℕ → Block → Block
round w i s = add_round_key w i (mix_columns (shift_rows (sub_bytes s)))

unfoldable pub rounds : List ℕ → ℕ → Block → Block
rounds w zero s = s
rounds w (suc n) s = round w (suc n) (rounds w n s)

unfoldable pub last_round : List ℕ → Block → Block
last_round w s = add_round_key w 10 (shift_rows (sub_bytes s))

unfoldable pub cipher : List ℕ → Block → Block
cipher w s = last_round w (rounds w 9 (add_round_key w 0 s))

-- 5.2: the key schedule. Word i of a list of bytes
abbrev pub word_of : List ℕ → ℕ → ℕ
word_of l i = number_at 4 l (4 * i)

abbrev pub rot_word : ℕ → ℕ
rot_word w = pack (byte1 w) (byte2 w) (byte3 w) (byte0 w)

-- the first bytes of the round constants Rcon[1] to Rcon[10]: the powers of x, whose other bytes are zero
unfoldable pub power : ℕ → ℕ
power zero = 1
power (suc n) = xtime (power n)

abbrev pub rcon : ℕ → ℕ
rcon i = pack (power i) 0 0 0

-- word n + 4, after the words of l before it
unfoldable pub next_word : List ℕ → ℕ → ℕ
next_word l n =
    bit_xor (word_of l n)
    (pick (eqb (n % 4) 0) (bit_xor (sub_word (rot_word (word_of l (n + 3)))) (rcon (n / 4))) (word_of l (n + 3)))

-- the bytes of the first n + 4 words
unfoldable pub schedule : List ℕ → ℕ → List ℕ
schedule key zero = key
schedule key (suc n) = schedule key n ++ bytes_of 4 (next_word (schedule key n) n)

-- the expanded key: 44 words, 176 bytes
unfoldable pub expansion : List ℕ → List ℕ
expansion key = schedule key 40

-- the words of an expanded key
unfoldable pub key_words : List ℕ → List ℕ
key_words bytes = values_of (word_of bytes) 44

-- 3.4: the state of sixteen bytes, and its bytes
abbrev pub block_at : List ℕ → ℕ → Block
block_at l at = state (number_at 4 l at) (number_at 4 l (at + 4)) (number_at 4 l (at + 8)) (number_at 4 l (at + 12))

unfoldable pub block_bytes : Block → List ℕ
block_bytes s = bytes_of 4 s.w0 ++ bytes_of 4 s.w1 ++ bytes_of 4 s.w2 ++ bytes_of 4 s.w3

-- AES-128 of a block of sixteen bytes under the 176 bytes of an expanded key
unfoldable pub encrypted : List ℕ → List ℕ → List ℕ
encrypted bytes block = block_bytes (cipher (key_words bytes) (block_at block 0))

-- A column of a round, from the columns that ShiftRows takes its rows from, under key word k.
unfoldable pub column : ℕ → ℕ → ℕ → ℕ → ℕ → ℕ
column w x y z k = bit_xor (mix_column (shifted (sub_word w) (sub_word x) (sub_word y) (sub_word z))) k

-- The columns of a state from the second on, and one behind them.
abbrev pub push : Block → ℕ → Block
push s v = state s.w1 s.w2 s.w3 v

-- Word n + 4 of the key schedule, from words n and n + 3.
unfoldable pub next_of : ℕ → ℕ → ℕ → ℕ
next_of u v n = bit_xor u (pick (eqb (n % 4) 0) (bit_xor (sub_word (rot_word v)) (rcon (n / 4))) v)
