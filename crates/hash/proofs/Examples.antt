-- The digests of the first values, and a tag, computed; OpenSSL gives the same.
use mathlib.Core.Path.{◌≡◌, refl}
use mathlib.Core.List.{List, [], ◌∷◌}
use Prim.Native.Nat.{ℕ}
use Rattle.words.specs.Numbers.{number_at, bytes_of, zeros}
use Rattle.sha256.specs.Sha256 as sha
use Rattle.sbox.specs.Field.{xtime, times_bits, times, powers, inverse, affine_bits, affine, values_of, sbox, sub}
use Rattle.aes.specs.Aes as aes
use Rattle.cmac.specs.Cmac.{double, key1, key2, chain, last_block, mac_block, cmac}
use Rattle.key.specs.Keys.{key_bytes, data_key}
use Rattle.value.specs.Values.{digest_at, value_bytes, node_bytes, side_bytes, bare_node}
use Rattle.value.specs.declared.Value.TheVariants as v
use Rattle.message.specs.Messages.{message_bytes}
use Rattle.message.specs.declared.Message.{Message}
use Rattle.hash.specs.Hashes.{digest_of, set_bytes, set_key, tag_of}

none : digest_of v.None ≡ record { d0 = 0x6e340b9cffb37a98; d1 = 0x9ca544e6bb780a2c; d2 = 0x78901d3fb3373876; d3 = 0x8511a30617afa01d }
unfolding digest_of digest_at value_bytes number_at bytes_of sha.K sha.next sha.schedule sha.round sha.rounds sha.words sha.compress sha.after sha.padded sha.hash_of sha.sha256
none = refl

bare : digest_of (v.Node bare_node) ≡ record { d0 = 0x070b13c004e9475f; d1 = 0xa155cd84d90de9f8; d2 = 0x7db1b7dea6707329; d3 = 0x638a6ce66043d246 }
unfolding digest_of digest_at value_bytes node_bytes side_bytes number_at bytes_of sha.K sha.next sha.schedule sha.round sha.rounds sha.words sha.compress sha.after sha.padded sha.hash_of sha.sha256
bare = refl

abbrev bytes : List ℕ
bytes = 0 ∷ 1 ∷ 2 ∷ 3 ∷ 4 ∷ 5 ∷ 6 ∷ 7 ∷ 8 ∷ 9 ∷ 10 ∷ 11 ∷ 12 ∷ 13 ∷ 14 ∷ 15 ∷ []

set : set_key bytes ≡ record { k0 = 0x0001020304050607; k1 = 0x08090a0b0c0d0e0f }
unfolding set_key number_at
set = refl

-- epoch 1, time 1, the data key of 256 zeros, none
abbrev message : Message
message = record { epoch = record { 0 = 1 }; time = record { 0 = 1 }; key = data_key 0 0 0 0; value = v.None }

tag : tag_of (set_key bytes) message ≡ record { t0 = 0x3a1b74b3c9a7f306; t1 = 0x26e157e5039ce5d0 }
unfolding tag_of set_key set_bytes message_bytes key_bytes value_bytes xtime times_bits times powers inverse affine_bits affine sbox sub aes.sub_word aes.sub_bytes aes.shifted aes.shift_rows aes.mix_bytes aes.mix_column aes.mix_columns aes.add_round_key aes.round aes.rounds aes.last_round aes.cipher aes.power aes.next_word aes.schedule aes.expansion aes.key_words aes.block_bytes number_at bytes_of values_of zeros double key1 key2 chain last_block mac_block cmac
tag = refl
