-- Values as nodes with sides, and the cells that a cache holds.
use mathlib.Core.Path.{◌≡◌, refl, ap}
use mathlib.Core.Bool.{Bool, true, false}
use mathlib.Core.Option.{Option, none, some, none-ne-some, some-injective}
use Prim.Native.Nat.{ℕ}
use Rattle.value.specs.Values as value
pub use Rattle.message.specs.declared.Message.{Message}
use Rattle.integrity.proofs.Ancestors.{Key}
use Rattle.integrity.proofs.Updates.{On, on, off, pick_s}
pub use Rattle.value.specs.declared.Digest.{Digest}
pub use Rattle.value.specs.declared.Side.{Side}
pub use Rattle.value.specs.declared.Side.TheVariants.{Empty as empty, Link as link}
pub use Rattle.value.specs.declared.Value.{Value}
pub use Rattle.value.specs.declared.Value.TheVariants.{None as vnone, Fingerprint as print, Node as node}

abbrev pub bare : Value
bare = node (value.bare_node)

abbrev pub Origin : Type 0
Origin = ℕ

abbrev pub from_tree : Origin
from_tree = 1

abbrev pub from_deferred : Origin
from_deferred = 2

pub record Cell : Type 0 where
  pub origin : Origin
  pub value : Value

abbrev pub side_of : Bool → Value → Side
side_of s vnone = empty
side_of s (print f) = empty
side_of s (node n) = value.side_of n s

abbrev pub set_side : Bool → Side → Value → Value
set_side s x vnone = vnone
set_side s x (print f) = print f
set_side s x (node n) = node (value.with_side n s x)

abbrev pub IsNode : Value → Type 0
IsNode vnone = ⊥
IsNode (print f) = ⊥
IsNode (node n) = Unit

pub set_sides : (s u : Bool) (o : On s u) (x : Side) (v : Value) → IsNode v → side_of u (set_side s x v) ≡ pick_s o x (side_of u v)
set_sides s u o x vnone n = absurd n
set_sides s u o x (print f) n = absurd n
set_sides true _ on x (node m) n = refl
set_sides false _ on x (node m) n = refl
set_sides true true (off m) x (node _) n = absurd (m refl)
set_sides true false (off m) x (node _) n = refl
set_sides false true (off m) x (node _) n = refl
set_sides false false (off m) x (node _) n = absurd (m refl)

abbrev pub key_of : Side → Option Key
key_of empty = none
key_of (link k d b) = some k

abbrev pub digest_in : Side → Digest
digest_in empty = record { d0 = 0; d1 = 0; d2 = 0; d3 = 0 }
digest_in (link k d b) = d

abbrev pub mark_of : Side → Bool
mark_of empty = false
mark_of (link k d b) = b

pub key_of_link : (x : Side) (k : Key) → key_of x ≡ some k → x ≡ link k (digest_in x) (mark_of x)
key_of_link empty k e = absurd (none-ne-some _ e)
key_of_link (link j d b) k e = ap (λ x. link x d b) (some-injective _ _ e)
