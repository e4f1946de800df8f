-- What is written of keys, digests, sides and values is bytes. Assumes nothing.
use Prim.Native.Nat.{ℕ, ◌<◌}
use mathlib.Core.List.{List, [], ◌∷◌, ◌++◌}
use mathlib.Core.Bool.{Bool, true, false}
use lib.Dec.{lit<}
use Rattle.words.specs.Numbers.{bytes_of, Bytes}
use Rattle.words.proofs.Laws.{append_bytes, one_byte, number_bytes, four_bytes}
use Rattle.key.specs.Keys.{key_bytes}
use Rattle.key.specs.declared.Key.{Key}
use Rattle.key.proofs.Laws.{key_bytes_lem}
use Rattle.value.specs.Values.{digest_bytes, mark_byte, link_bytes, side_bytes, fingerprint_bytes, node_bytes, value_bytes}
use Rattle.value.specs.declared.Digest.{Digest}
use Rattle.value.specs.declared.Side.{Side}
use Rattle.value.specs.declared.Side.TheVariants.{Empty, Link}
use Rattle.value.specs.declared.Value.{Value}
use Rattle.value.specs.declared.Value.TheVariants as v

-- a list of bytes, in a form whose list is found from the proof
pub record AllBytes (s : List ℕ) : Type 0 where
  pub bytes : Bytes s

pub then : {a b : List ℕ} → AllBytes a → AllBytes b → AllBytes (a ++ b)
then {a} {b} p q = record { bytes = append_bytes a b p.bytes q.bytes }

pub one : (x : ℕ) → x < 256 → AllBytes (x ∷ [])
one x h = record { bytes = one_byte x h }

pub number : (n x : ℕ) → AllBytes (bytes_of n x)
number n x = record { bytes = number_bytes n x }

pub key : (k : Key) → AllBytes (key_bytes k)
key k = record { bytes = key_bytes_lem k }

digest : (d : Digest) → AllBytes (digest_bytes d)
unfolding digest_bytes
digest d = record { bytes = four_bytes d.d0 d.d1 d.d2 d.d3 }

mark : (m : Bool) → AllBytes (mark_byte m ∷ [])
mark true = one 1 (lit< tt)
mark false = one 0 (lit< tt)

side : (x : Side) → AllBytes (side_bytes x)
unfolding side_bytes link_bytes
side Empty = one 0 (lit< tt)
side (Link k d m) = then (one 1 (lit< tt)) (then (key k) (then (digest d) (mark m)))

pub value : (x : Value) → AllBytes (value_bytes x)
unfolding value_bytes fingerprint_bytes node_bytes
value v.None = one 0 (lit< tt)
value (v.Fingerprint d) = then (one 1 (lit< tt)) (digest d)
value (v.Node n) = then (one 2 (lit< tt)) (then (side n.left) (side n.right))
