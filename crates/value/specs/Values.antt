-- Values as bytes, what is read as one, and the tests on values (document 01, "Keys, values, messages").
use Rattle.std.specs.Prelude.{ℕ, ◌+◌, ◌-◌, ◌^◌, ◌<◌, List, [], ◌∷◌, ◌++◌, Bool, true, false, Option, Some, None, length, get_or, ltb, leb, eqb}
use Rattle.words.specs.Choice.{pick, both, no}
use Rattle.words.specs.Numbers.{number_at, four_words}
use Rattle.words.specs.declared.Four.{Four}
use Rattle.key.specs.Keys.{key_at, key_bytes, well_key, key_eq, is_data, KeyFits}
use Rattle.key.specs.declared.Key.{Key}
use Rattle.value.specs.declared.Digest.{Digest}
use Rattle.value.specs.declared.Side.{Side}
use Rattle.value.specs.declared.Side.TheVariants.{Empty, Link}
use Rattle.value.specs.declared.Node.{Node}
use Rattle.value.specs.declared.Value.{Value}
use Rattle.value.specs.declared.Value.TheVariants as v

-- ---- digests: 32 bytes, four words

abbrev pub digest_of_four : Four → Digest
digest_of_four x = record { d0 = x.first; d1 = x.second; d2 = x.third; d3 = x.fourth }

abbrev pub four_of_digest : Digest → Four
four_of_digest d = record { first = d.d0; second = d.d1; third = d.d2; fourth = d.d3 }

unfoldable pub digest_at : List ℕ → ℕ → Digest
digest_at s at =
    record { d0 = number_at 8 s at; d1 = number_at 8 s (at + 8); d2 = number_at 8 s (at + 16); d3 = number_at 8 s (at + 24) }

unfoldable pub digest_bytes : Digest → List ℕ
digest_bytes d = four_words d.d0 d.d1 d.d2 d.d3

unfoldable pub digest_eq : Digest → Digest → Bool
digest_eq a b =
    both (eqb a.d0 b.d0) (both (eqb a.d1 b.d1) (both (eqb a.d2 b.d2) (eqb a.d3 b.d3)))

-- ---- written

abbrev pub mark_byte : Bool → ℕ
mark_byte true = 1
mark_byte false = 0

-- a link: 01, key, digest, mark; 68 bytes
unfoldable pub link_bytes : Key → Digest → Bool → List ℕ
link_bytes k d m = (1 ∷ []) ++ (key_bytes k ++ (digest_bytes d ++ (mark_byte m ∷ [])))

unfoldable pub side_bytes : Side → List ℕ
side_bytes Empty = 0 ∷ []
side_bytes (Link k d m) = link_bytes k d m

-- a fingerprint's value: 01 and its 32 bytes
unfoldable pub fingerprint_bytes : Digest → List ℕ
fingerprint_bytes d = (1 ∷ []) ++ digest_bytes d

-- a node: 02, left side, right side
unfoldable pub node_bytes : Side → Side → List ℕ
node_bytes l r = (2 ∷ []) ++ (side_bytes l ++ side_bytes r)

unfoldable pub value_bytes : Value → List ℕ
value_bytes v.None = 0 ∷ []
value_bytes (v.Fingerprint d) = fingerprint_bytes d
value_bytes (v.Node n) = node_bytes n.left n.right

-- ---- read: what stands at a place of s, and how many bytes it takes

-- a link's key has 1 to 256 bits, its mark is 0 or 1
abbrev pub link_of : Option Key → Digest → ℕ → Option (Side × ℕ)
link_of None d m = None
link_of (Some k) d m =
    pick (eqb k.len 0) None (pick (ltb 1 m) None (Some (Link k d (eqb m 1), 68)))

unfoldable pub link_at : List ℕ → ℕ → Option (Side × ℕ)
link_at s at = link_of (key_at s (at + 1)) (digest_at s (at + 35)) (get_or s (at + 67) 0)

unfoldable pub side_at : List ℕ → ℕ → Option (Side × ℕ)
side_at s at =
    pick (leb (length s) at) None
    (pick (eqb (get_or s at 0) 0) (Some (Empty, 1))
    (pick (eqb (get_or s at 0) 1) (pick (leb 68 (length s - at)) (link_at s at) None) None))

abbrev pub side_end : Option (Side × ℕ) → ℕ
side_end None = 0
side_end (Some (x, n)) = n

abbrev pub node_end : Side → ℕ → Option (Side × ℕ) → Option (Value × ℕ)
node_end l n None = None
node_end l n (Some (r, m)) = Some (v.Node (record { left = l; right = r }), 1 + n + m)

abbrev pub node_then : List ℕ → ℕ → Option (Side × ℕ) → Option (Value × ℕ)
node_then s at None = None
node_then s at (Some (l, n)) = node_end l n (side_at s (at + 1 + n))

unfoldable pub node_at : List ℕ → ℕ → Option (Value × ℕ)
node_at s at = node_then s at (side_at s (at + 1))

unfoldable pub fingerprint_at : List ℕ → ℕ → Option (Value × ℕ)
fingerprint_at s at = pick (leb 33 (length s - at)) (Some (v.Fingerprint (digest_at s (at + 1)), 33)) None

unfoldable pub value_at : List ℕ → ℕ → Option (Value × ℕ)
value_at s at =
    pick (leb (length s) at) None
    (pick (eqb (get_or s at 0) 0) (Some (v.None, 1))
    (pick (eqb (get_or s at 0) 1) (fingerprint_at s at)
    (pick (eqb (get_or s at 0) 2) (node_at s at) None)))

abbrev pub value_end : Option (Value × ℕ) → ℕ
value_end None = 0
value_end (Some (x, n)) = n

-- ---- a value in hand that is read back: every link's key is one, and not the root

unfoldable pub well_side : Side → Bool
well_side Empty = true
well_side (Link k d m) = both (well_key k) (ltb 0 k.len)

unfoldable pub well_value : Value → Bool
well_value v.None = true
well_value (v.Fingerprint d) = true
well_value (v.Node n) = both (well_side n.left) (well_side n.right)

-- ---- every number fits its field, as in every value of the code

pub record DigestFits (d : Digest) : Type 0 where
  pub d0 : d.d0 < 2 ^ 64
  pub d1 : d.d1 < 2 ^ 64
  pub d2 : d.d2 < 2 ^ 64
  pub d3 : d.d3 < 2 ^ 64

abbrev pub SideFits : Side → Type 0
SideFits Empty = Unit
SideFits (Link k d m) = KeyFits k × DigestFits d

abbrev pub ValueFits : Value → Type 0
ValueFits v.None = Unit
ValueFits (v.Fingerprint d) = DigestFits d
ValueFits (v.Node n) = SideFits n.left × SideFits n.right

-- ---- tests on values

abbrev pub is_node : Value → Bool
is_node v.None = false
is_node (v.Fingerprint d) = false
is_node (v.Node n) = true

-- the value's kind fits the key: a node key has a node, a data key none
unfoldable pub fits : Key → Value → Bool
fits k x = pick (is_data k) (no (is_node x)) (is_node x)

abbrev pub bare_node : Node
bare_node = record { left = Empty; right = Empty }

abbrev pub both_empty : Side → Side → Bool
both_empty Empty Empty = true
both_empty Empty (Link k d m) = false
both_empty (Link k d m) y = false

-- a first value: none, or both sides empty
unfoldable pub is_first : Value → Bool
is_first v.None = true
is_first (v.Fingerprint d) = false
is_first (v.Node n) = both_empty n.left n.right

abbrev pub bool_eq : Bool → Bool → Bool
bool_eq true b = b
bool_eq false b = no b

abbrev pub side_eq : Side → Side → Bool
side_eq Empty Empty = true
side_eq Empty (Link k d m) = false
side_eq (Link k d m) Empty = false
side_eq (Link k d m) (Link k2 d2 m2) = both (key_eq k k2) (both (digest_eq d d2) (bool_eq m m2))

unfoldable pub value_eq : Value → Value → Bool
value_eq v.None v.None = true
value_eq v.None (v.Fingerprint e) = false
value_eq v.None (v.Node e) = false
value_eq (v.Fingerprint d) v.None = false
value_eq (v.Fingerprint d) (v.Fingerprint e) = digest_eq d e
value_eq (v.Fingerprint d) (v.Node e) = false
value_eq (v.Node d) v.None = false
value_eq (v.Node d) (v.Fingerprint e) = false
value_eq (v.Node d) (v.Node e) = both (side_eq d.left e.left) (side_eq d.right e.right)

-- a node's side, right or left, and the node with another one there
abbrev pub side_of : Node → Bool → Side
side_of n true = n.right
side_of n false = n.left

abbrev pub with_side : Node → Bool → Side → Node
with_side n true x = record { left = n.left; right = x }
with_side n false x = record { left = x; right = n.right }
