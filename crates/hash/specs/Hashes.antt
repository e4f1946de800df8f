-- Document 01, "Keys, values, messages": the digest of a value is the SHA-256 of its bytes; the tag of a message is the CMAC of its
-- bytes under the set key.
use Rattle.std.specs.Prelude.{List, ℕ}
use Rattle.words.specs.Numbers.{number_at, two_words}
use Rattle.sha256.specs.Sha256.{sha256}
use Rattle.aes.specs.Aes.{expansion}
use Rattle.cmac.specs.Cmac.{cmac}
use Rattle.cmac.specs.Tags.{tag_words}
use Rattle.cmac.specs.declared.Tag.{Tag}
use Rattle.value.specs.Values.{digest_at, value_bytes}
use Rattle.value.specs.declared.Digest.{Digest}
use Rattle.value.specs.declared.Value.{Value}
use Rattle.message.specs.Messages.{message_bytes}
use Rattle.message.specs.declared.Message.{Message}
use Rattle.hash.specs.declared.SetKey.{SetKey}

unfoldable pub digest_of : Value → Digest
digest_of v = digest_at (sha256 (value_bytes v)) 0

-- the set key's 16 bytes, and the set key that they make
unfoldable pub set_bytes : SetKey → List ℕ
set_bytes k = two_words k.k0 k.k1

unfoldable pub set_key : List ℕ → SetKey
set_key b = record { k0 = number_at 8 b 0; k1 = number_at 8 b 8 }

unfoldable pub tag_of : SetKey → Message → Tag
tag_of k m = tag_words (cmac (expansion (set_bytes k)) (message_bytes m))
