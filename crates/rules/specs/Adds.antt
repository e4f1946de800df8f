-- Entries 1 (add from tree: checks 4 5 6 7 8 10, then by link) and 2 (add deferred: checks 4 5 7 8 18 19 20).
use Rattle.std.specs.Prelude.{ℕ, ◌-◌, List, Bool, false, leb, eqb, Option, Some, None}
use Rattle.words.specs.Choice.{pick, both}
use Rattle.verdict.specs.Verdicts.{not_well, no_slot, slot_taken, slot_empty, key_held, wrong_kind, no_ancestor, other_branch, marked_deferred, digest_differs, not_first, epoch_not_open, time_out_of_range, count_full}
use Rattle.key.specs.Keys.{key_eq, above, toward}
use Rattle.key.specs.declared.Key.{Key}
use Rattle.value.specs.Values.{digest_eq, is_first, fits, bare_node, side_of, with_side}
use Rattle.value.specs.declared.Side.{Side}
use Rattle.value.specs.declared.Side.TheVariants.{Empty, Link}
use Rattle.value.specs.declared.Node.{Node}
use Rattle.value.specs.declared.Value.{Value}
use Rattle.value.specs.declared.Value.TheVariants as v
use Rattle.message.specs.declared.Epoch.{Epoch}
use Rattle.message.specs.declared.Time.{Time}
use Rattle.message.specs.declared.Message.{Message}
use Rattle.hash.specs.Hashes.{digest_of, tag_of}
use Rattle.slot.specs.Slots.{tree, deferred}
use Rattle.slot.specs.declared.Slot.{Slot}
use Rattle.slot.specs.declared.Slot.TheVariants as sl
use Rattle.cache.specs.Caches.{count, slot_in, put_slot, held}
use Rattle.state.specs.States.{count_limit, added_current, added_old}
use Rattle.state.specs.declared.Tally.{Tally}
use Rattle.state.specs.declared.State.{State}
use Rattle.rules.specs.Outcomes.{Outcome, refuses, accepts}
use Rattle.rules.specs.declared.Named.{Named}
use Rattle.rules.specs.declared.Named.TheVariants as named

-- ---- 1: add from tree: s, p, key, value

-- p's side becomes a link to our key, with the digest of the value as stored and mark 0; the record goes into slot s, origin 1
unfoldable pub linked : ℕ → ℕ → ℕ → Key → Node → Bool → Key → Value → List ℕ → List ℕ
linked s p po pk n right k x c =
    put_slot (put_slot c p po pk (v.Node (with_side n right (Link k (digest_of x) false)))) s tree k x

-- a new node between p and an old link: the old link, whole, on the proper side
abbrev pub between : Key → Key → Side → Value
between k lk link = v.Node (with_side bare_node (toward k lk) link)

-- the link is p's side toward the key. Empty: the value must be first (15). Same key: mark 0 (13), digest equal (14). Another key:
-- ours must be its proper ancestor (12) and the value first (15)
abbrev pub add_side : ℕ → ℕ → ℕ → Key → Node → Bool → Key → Value → State → List ℕ → Side → Outcome
add_side s p po pk n right k x st c Empty =
    pick (is_first x) (accepts st (linked s p po pk n right k x c)) (refuses not_first st c)
add_side s p po pk n right k x st c (Link lk ld lm) =
    pick (key_eq lk k)
    (pick lm (refuses marked_deferred st c)
    (pick (digest_eq ld (digest_of x)) (accepts st (put_slot c s tree k x)) (refuses digest_differs st c)))
    (pick (above k lk)
    (pick (is_first x)
    (accepts st (linked s p po pk n right k (between k lk (Link lk ld lm)) c))
    (refuses not_first st c))
    (refuses other_branch st c))

unfoldable pub add_link : ℕ → ℕ → ℕ → Key → Node → Bool → Key → Value → State → List ℕ → Outcome
add_link s p po pk n right k x st c = add_side s p po pk n right k x st c (side_of n right)

-- 8 of p, 10
unfoldable pub add_node : ℕ → ℕ → ℕ → Key → Value → Key → Value → State → List ℕ → Outcome
add_node s p po pk v.None k x st c = refuses wrong_kind st c
add_node s p po pk (v.Fingerprint d) k x st c = refuses wrong_kind st c
add_node s p po pk (v.Node n) k x st c =
    pick (above pk k) (add_link s p po pk n (toward pk k) k x st c) (refuses no_ancestor st c)

-- 6 of p, 7, 8
abbrev pub add_to : ℕ → ℕ → Key → Value → State → List ℕ → Slot → Outcome
add_to s p k x st c sl.Free = refuses slot_empty st c
add_to s p k x st c sl.Bad = refuses not_well st c
add_to s p k x st c (sl.Full po pk pv) =
    pick (held c k) (refuses key_held st c)
    (pick (fits k x) (add_node s p po pk pv k x st c) (refuses wrong_kind st c))

unfoldable pub add_under : ℕ → ℕ → Key → Value → State → List ℕ → Outcome
add_under s p k x st c = add_to s p k x st c (slot_in c p)

-- 5 of s
abbrev pub add_at : ℕ → ℕ → Key → Value → State → List ℕ → Slot → Outcome
add_at s p k x st c sl.Free = add_under s p k x st c
add_at s p k x st c sl.Bad = refuses not_well st c
add_at s p k x st c (sl.Full o j y) = refuses slot_taken st c

-- 4 of s and of p
unfoldable pub add_tree : ℕ → ℕ → Key → Value → State → List ℕ → Outcome
add_tree s p k x st c =
    pick (leb (count c) s) (refuses no_slot st c)
    (pick (leb (count c) p) (refuses no_slot st c) (add_at s p k x st c (slot_in c s)))

-- ---- 2: add deferred: s, epoch, time, key, value

-- 18: the epoch is current or the open old one, always the current one less 1
abbrev pub named_old : Epoch → Epoch → Option Tally → Option Named
named_old e now None = None
named_old e now (Some t) = pick (eqb e.0 (now.0 - 1)) (Some (named.Old t)) None

unfoldable pub named_epoch : State → Epoch → Option Named
named_epoch st e = pick (eqb e.0 st.epoch.0) (Some named.Current) (named_old e st.epoch st.old)

abbrev pub add_message : Epoch → Time → Key → Value → Message
add_message e t k x = record { epoch = e; time = t; key = k; value = x }

-- 19: the time is 1 to the clock
abbrev pub in_time : Time → Time → Bool
in_time t clock = both (leb 1 t.0) (leb t.0 clock.0)

-- 20: that epoch's add count is below 1,000,000. The message goes into its adds; origin is 2
abbrev pub add_counted : ℕ → ℕ → Key → Value → State → State → List ℕ → Outcome
add_counted adds s k x st next c =
    pick (leb count_limit adds) (refuses count_full st c) (accepts next (put_slot c s deferred k x))

abbrev pub add_named : ℕ → Epoch → Time → Key → Value → State → List ℕ → Option Named → Outcome
add_named s e t k x st c None = refuses epoch_not_open st c
add_named s e t k x st c (Some named.Current) =
    pick (in_time t st.clock)
    (add_counted st.tally.adds s k x st (added_current st (tag_of st.set (add_message e t k x))) c)
    (refuses time_out_of_range st c)
add_named s e t k x st c (Some (named.Old tally)) =
    pick (in_time t st.clock)
    (add_counted tally.adds s k x st (added_old st tally (tag_of st.set (add_message e t k x))) c)
    (refuses time_out_of_range st c)

unfoldable pub add_into : ℕ → Epoch → Time → Key → Value → State → List ℕ → Outcome
add_into s e t k x st c = add_named s e t k x st c (named_epoch st e)

-- 5, 7, 8
abbrev pub defer_at : ℕ → Epoch → Time → Key → Value → State → List ℕ → Slot → Outcome
defer_at s e t k x st c sl.Free =
    pick (held c k) (refuses key_held st c) (pick (fits k x) (add_into s e t k x st c) (refuses wrong_kind st c))
defer_at s e t k x st c sl.Bad = refuses not_well st c
defer_at s e t k x st c (sl.Full o j y) = refuses slot_taken st c

-- 4
unfoldable pub add_deferred : ℕ → Epoch → Time → Key → Value → State → List ℕ → Outcome
add_deferred s e t k x st c =
    pick (leb (count c) s) (refuses no_slot st c) (defer_at s e t k x st c (slot_in c s))
