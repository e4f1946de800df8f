-- The state as 129 bytes: set key (16), clock (8), epoch (8), tally (48), 1 where an old epoch is open and else 0, its tally (48), zeros where
-- none is open. A tally: adds (8), evicts (8), add sum (16), evict sum (16).
use Rattle.std.specs.Prelude.{ℕ, ◌+◌, ◌^◌, ◌<◌, List, [], ◌∷◌, ◌++◌, eqb, length, get_or, drop, Option, Some, None}
use Rattle.words.specs.Choice.{pick}
use Rattle.words.specs.Numbers.{number_at, bytes_of, two_words, zeros}
use Rattle.cmac.specs.declared.Tag.{Tag}
use Rattle.hash.specs.Hashes.{set_bytes}
use Rattle.hash.specs.declared.SetKey.{SetKey}
use Rattle.slot.specs.Slots.{all_zero}
use Rattle.state.specs.declared.Tally.{Tally}
use Rattle.state.specs.declared.State.{State}

abbrev pub state_length : ℕ
state_length = 129

-- ---- written

unfoldable pub tag_bytes : Tag → List ℕ
tag_bytes g = two_words g.t0 g.t1

unfoldable pub tally_bytes : Tally → List ℕ
tally_bytes t = bytes_of 8 t.adds ++ (bytes_of 8 t.evicts ++ (tag_bytes t.addsum ++ tag_bytes t.evictsum))

unfoldable pub old_bytes : Option Tally → List ℕ
old_bytes None = (0 ∷ []) ++ zeros 48
old_bytes (Some t) = (1 ∷ []) ++ tally_bytes t

-- set key, clock, epoch
unfoldable pub front_bytes : State → List ℕ
front_bytes st = set_bytes st.set ++ two_words st.clock.0 st.epoch.0

unfoldable pub state_bytes : State → List ℕ
state_bytes st = front_bytes st ++ (tally_bytes st.tally ++ old_bytes st.old)

-- ---- read

unfoldable pub tag_at : List ℕ → ℕ → Tag
tag_at s at = record { t0 = number_at 8 s at; t1 = number_at 8 s (at + 8) }

unfoldable pub tally_at : List ℕ → ℕ → Tally
tally_at s at =
    record { adds = number_at 8 s at; evicts = number_at 8 s (at + 8); addsum = tag_at s (at + 16); evictsum = tag_at s (at + 32) }

unfoldable pub old_at : List ℕ → Option (Option Tally)
old_at s =
    pick (eqb (get_or s 80 0) 0) (pick (all_zero (drop 81 s)) (Some None) None)
    (pick (eqb (get_or s 80 0) 1) (Some (Some (tally_at s 81))) None)

abbrev pub set_at : List ℕ → SetKey
set_at s = record { k0 = number_at 8 s 0; k1 = number_at 8 s 8 }

abbrev pub state_of : List ℕ → Option Tally → State
state_of s o =
    record { set = set_at s; clock = record { 0 = number_at 8 s 16 }; epoch = record { 0 = number_at 8 s 24 }; tally = tally_at s 32; old = o }

abbrev pub state_with : List ℕ → Option (Option Tally) → Option State
state_with s None = None
state_with s (Some o) = Some (state_of s o)

unfoldable pub state_at : List ℕ → Option State
state_at s = pick (eqb (length s) state_length) (state_with s (old_at s)) None

-- ---- every number fits its field, as in every state of the code

pub record TagFits (g : Tag) : Type 0 where
  pub t0 : g.t0 < 2 ^ 64
  pub t1 : g.t1 < 2 ^ 64

pub record TallyFits (t : Tally) : Type 0 where
  pub adds : t.adds < 2 ^ 64
  pub evicts : t.evicts < 2 ^ 64
  pub addsum : TagFits t.addsum
  pub evictsum : TagFits t.evictsum

abbrev pub OldFits : Option Tally → Type 0
OldFits None = Unit
OldFits (Some t) = TallyFits t

pub record StateFits (st : State) : Type 0 where
  pub k0 : st.set.k0 < 2 ^ 64
  pub k1 : st.set.k1 < 2 ^ 64
  pub clock : st.clock.0 < 2 ^ 64
  pub epoch : st.epoch.0 < 2 ^ 64
  pub tally : TallyFits st.tally
  pub old : OldFits st.old
