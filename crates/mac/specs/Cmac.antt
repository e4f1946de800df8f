-- RFC 4493: AES-CMAC under the words w of an expanded key, in the order of the document. A block of 128 bits is its four
-- words, the first the highest. Assumes nothing.
use Rattle.std.specs.Prelude.{List, ◌∷◌, ◌++◌, ℕ, zero, suc, ◌+◌, ◌-◌, ◌*◌, ◌/◌, ◌%◌, ◌^◌, eqb, length, drop}
use Rattle.std.specs.Int.Bits.{bit_xor}
use Rattle.words.specs.Choice.{pick}
use Rattle.words.specs.Numbers.{zeros}
use Rattle.aes.specs.Aes.{state, cipher, key_words, block_at, block_bytes}
use Rattle.aes.specs.declared.Block.{Block}

-- 2.1: the zero block, and the xor of two
abbrev pub zero_block : Block
zero_block = state 0 0 0 0

abbrev pub xor_block : Block → Block → Block
xor_block s t = state (bit_xor s.w0 t.w0) (bit_xor s.w1 t.w1) (bit_xor s.w2 t.w2) (bit_xor s.w3 t.w3)

-- 2.3: one bit to the left, and the constant 0x87 added where the highest bit went out
unfoldable pub double : Block → Block
double s =
    state
    (s.w0 * 2 % 2 ^ 32 + s.w1 / 2 ^ 31)
    (s.w1 * 2 % 2 ^ 32 + s.w2 / 2 ^ 31)
    (s.w2 * 2 % 2 ^ 32 + s.w3 / 2 ^ 31)
    (bit_xor (s.w3 * 2 % 2 ^ 32) (s.w0 / 2 ^ 31 * 0x87))

-- 2.3: the subkeys K1 and K2
unfoldable pub key1 : List ℕ → Block
key1 w = double (cipher w zero_block)

unfoldable pub key2 : List ℕ → Block
key2 w = double (key1 w)

-- 2.4: how many blocks stand before the last, of a message of n bytes
abbrev pub whole : ℕ → ℕ
whole n = (n - 1) / 16

-- 2.4, step 6: the chain over the first n blocks of m
unfoldable pub chain : List ℕ → List ℕ → ℕ → Block
chain w m zero = zero_block
chain w m (suc n) = cipher w (xor_block (chain w m n) (block_at m (16 * n)))

-- 2.4: a one bit and zero bits, up to sixteen bytes
abbrev pub padding : List ℕ → List ℕ
padding l = l ++ 0x80 ∷ zeros (15 - length l)

-- 2.4, step 4: the last block, whole or filled up
unfoldable pub last_block : List ℕ → List ℕ → Block
last_block w l = pick (eqb (length l) 16) (xor_block (block_at l 0) (key1 w)) (xor_block (block_at (padding l) 0) (key2 w))

-- 2.4: the tag as a block
unfoldable pub mac_block : List ℕ → List ℕ → Block
mac_block w m = cipher w (xor_block (chain w m (whole (length m))) (last_block w (drop (16 * whole (length m)) m)))

-- the tag of m, sixteen bytes, under the 176 bytes of an expanded key
unfoldable pub cmac : List ℕ → List ℕ → List ℕ
cmac bytes m = block_bytes (mac_block (key_words bytes) m)
