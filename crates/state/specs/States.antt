-- The trusted state (document 01, "The trusted state"): its part of 1, its changes, and opening.
use Rattle.std.specs.Prelude.{ℕ, ◌+◌, ◌*◌, ◌-◌, List, Bool, true, leb, eqb, Option, Some, None, Result, Ok, Err}
use Rattle.words.specs.Choice.{pick, both, no}
use Rattle.verdict.specs.Verdicts.{accepted, wrong_cache, number}
use Rattle.verdict.specs.declared.Refusal.{Refusal}
use Rattle.cmac.specs.Tags.{tag_xor, no_tag}
use Rattle.cmac.specs.declared.Tag.{Tag}
use Rattle.message.specs.declared.Message.{Message}
use Rattle.key.specs.declared.Key.{Key}
use Rattle.value.specs.declared.Value.{Value}
use Rattle.hash.specs.Hashes.{set_key, tag_of}
use Rattle.cache.specs.Caches.{well_length, count, opened_cache}
use Rattle.state.specs.declared.Tally.{Tally}
use Rattle.state.specs.declared.State.{State}

-- the most that an epoch may be, and that a count may be
abbrev pub epoch_limit : ℕ
epoch_limit = 1000000

abbrev pub count_limit : ℕ
count_limit = 1000000

-- the most that the clock of a well-formed state may be
abbrev pub clock_limit : ℕ
clock_limit = 1000000000000

-- ---- 1: epoch 1 to 1,000,000, no old epoch at epoch 1, counts at most 1,000,000, clock at most 1,000,000 times (current less 1)
-- plus the current evict count

abbrev pub well_tally : Tally → Bool
well_tally t = both (leb t.adds count_limit) (leb t.evicts count_limit)

abbrev pub well_old : ℕ → Option Tally → Bool
well_old e None = true
well_old e (Some t) = both (no (eqb e 1)) (well_tally t)

unfoldable pub well_state : State → Bool
well_state st =
    both (both (leb 1 st.epoch.0) (leb st.epoch.0 epoch_limit))
    (both (well_old st.epoch.0 st.old)
    (both (well_tally st.tally) (leb st.clock.0 (count_limit * (st.epoch.0 - 1) + st.tally.evicts))))

-- ---- changes

abbrev pub no_tally : Tally
no_tally = record { adds = 0; evicts = 0; addsum = no_tag; evictsum = no_tag }

-- a message more in the adds, in the evicts
abbrev pub tally_add : Tally → Tag → Tally
tally_add t g = record { adds = t.adds + 1; evicts = t.evicts; addsum = tag_xor t.addsum g; evictsum = t.evictsum }

abbrev pub tally_evict : Tally → Tag → Tally
tally_evict t g = record { adds = t.adds; evicts = t.evicts + 1; addsum = t.addsum; evictsum = tag_xor t.evictsum g }

-- entry 2, into the current epoch and into the old one
unfoldable pub added_current : State → Tag → State
added_current st g = record { set = st.set; clock = st.clock; epoch = st.epoch; tally = tally_add st.tally g; old = st.old }

unfoldable pub added_old : State → Tally → Tag → State
added_old st t g = record { set = st.set; clock = st.clock; epoch = st.epoch; tally = st.tally; old = Some (tally_add t g) }

-- entries 4 and 5: the clock rises by one, and the message goes into the current epoch's evicts
unfoldable pub evicted_state : State → Tag → State
evicted_state st g =
    record {
      set = st.set;
      clock = record { 0 = st.clock.0 + 1 };
      epoch = st.epoch;
      tally = tally_evict st.tally g;
      old = st.old;
    }

-- the message of a record that leaves now: the current epoch, the new clock
unfoldable pub evict_message : State → Key → Value → Message
evict_message st k x = record { epoch = st.epoch; time = record { 0 = st.clock.0 + 1 }; key = k; value = x }

unfoldable pub evicted : State → Key → Value → State
evicted st k x = evicted_state st (tag_of st.set (evict_message st k x))

-- entry 9: the current epoch becomes the old one; a new one opens with zeros
unfoldable pub advanced_state : State → State
advanced_state st =
    record { set = st.set; clock = st.clock; epoch = record { 0 = st.epoch.0 + 1 }; tally = no_tally; old = Some st.tally }

-- entry 10: the old epoch is closed and settled
unfoldable pub closed_state : State → State
closed_state st = record { set = st.set; clock = st.clock; epoch = st.epoch; tally = st.tally; old = None }

-- ---- opening: from a 16-byte set key and a lent cache

unfoldable pub fresh_state : List ℕ → State
fresh_state key = record { set = set_key key; clock = record { 0 = 0 }; epoch = record { 0 = 1 }; tally = no_tally; old = None }

-- a state of zeros
abbrev pub zero_state : State
zero_state =
    record { set = record { k0 = 0; k1 = 0 }; clock = record { 0 = 0 }; epoch = record { 0 = 0 }; tally = no_tally; old = None }

-- what opening answers: 0 and a fresh state, or 28 and a state of zeros
pub record Opened : Type 0 where
  pub verdict : ℕ
  pub state : State

-- what the code answers, as the rules tell it
abbrev pub opened : Result State Refusal → Opened
opened (Ok st) = record { verdict = accepted; state = st }
opened (Err r) = record { verdict = number r; state = zero_state }

-- what opening comes to: its answer, and every byte of the cache
pub record Opening : Type 0 where
  pub answer : Opened
  pub bytes : List ℕ

abbrev pub opening : Opened → List ℕ → Opening
opening a c = record { answer = a; bytes = c }

unfoldable pub open_def : List ℕ → List ℕ → Opening
open_def key c =
    pick (well_length c)
    (opening (record { verdict = accepted; state = fresh_state key }) (opened_cache (count c - 1)))
    (opening (record { verdict = wrong_cache; state = zero_state }) c)

-- ---- the last epoch settled: current less 1, or less 2 with an old epoch open

abbrev pub settled_of : ℕ → Option Tally → ℕ
settled_of e None = e - 1
settled_of e (Some t) = e - 2

unfoldable pub settled : State → ℕ
settled st = settled_of st.epoch.0 st.old
