-- Entries 3 (evict to tree: checks 4 17 6 8 10 11), 4 (evict deferred: 4 17 6 16 20) and 5 (evict tree record deferred: 4 17 6 8 10 11 16
-- 20). 3 and 5 share their checks up to 11.
use Rattle.std.specs.Prelude.{ℕ, List, Bool, true, false, leb, eqb}
use Rattle.words.specs.Choice.{pick}
use Rattle.verdict.specs.Verdicts.{not_well, no_slot, slot_empty, wrong_kind, no_ancestor, no_link, wrong_origin, root_slot, count_full}
use Rattle.key.specs.Keys.{key_eq, above, toward}
use Rattle.key.specs.declared.Key.{Key}
use Rattle.value.specs.Values.{side_of, with_side}
use Rattle.value.specs.declared.Digest.{Digest}
use Rattle.value.specs.declared.Side.{Side}
use Rattle.value.specs.declared.Side.TheVariants.{Empty, Link}
use Rattle.value.specs.declared.Node.{Node}
use Rattle.value.specs.declared.Value.{Value}
use Rattle.value.specs.declared.Value.TheVariants as v
use Rattle.hash.specs.Hashes.{digest_of}
use Rattle.slot.specs.Slots.{tree, deferred}
use Rattle.slot.specs.declared.Slot.{Slot}
use Rattle.slot.specs.declared.Slot.TheVariants as sl
use Rattle.cache.specs.Caches.{count, slot_in, put_slot, free_slot}
use Rattle.state.specs.States.{count_limit, evicted}
use Rattle.state.specs.declared.State.{State}
use Rattle.rules.specs.Outcomes.{Outcome, refuses, accepts}

-- p's link replaced, and slot s free
unfoldable pub unlinked : ℕ → ℕ → ℕ → Key → Node → Bool → Side → List ℕ → List ℕ
unlinked s p po pk n right link c = free_slot (put_slot c p po pk (v.Node (with_side n right link))) s

-- ---- 3: p's link gets the digest of s's value and mark 0. Either origin will do

abbrev pub to_tree : ℕ → ℕ → ℕ → Key → Value → ℕ → Key → Node → Bool → State → List ℕ → Digest → Outcome
to_tree s p o k x po pk n right st c ld = accepts st (unlinked s p po pk n right (Link k (digest_of x) false) c)

-- ---- 5: origin 1 (16), and the evict count below 1,000,000 (20). Sets the mark in p's link and keeps its digest

abbrev pub to_deferred : ℕ → ℕ → ℕ → Key → Value → ℕ → Key → Node → Bool → State → List ℕ → Digest → Outcome
to_deferred s p o k x po pk n right st c ld =
    pick (eqb o tree)
    (pick (leb count_limit st.tally.evicts) (refuses count_full st c)
    (accepts (evicted st k x) (unlinked s p po pk n right (Link k ld true) c)))
    (refuses wrong_origin st c)

-- ---- what 3 (deferring false) and 5 (deferring true) do once their shared checks have passed
abbrev pub evict_as : Bool → ℕ → ℕ → ℕ → Key → Value → ℕ → Key → Node → Bool → State → List ℕ → Digest → Outcome
evict_as false s p o k x po pk n right st c ld = to_tree s p o k x po pk n right st c ld
evict_as true s p o k x po pk n right st c ld = to_deferred s p o k x po pk n right st c ld

-- 11: p's side toward the key held in s is a link that names it
abbrev pub evict_side : Bool → ℕ → ℕ → ℕ → Key → Value → ℕ → Key → Node → Bool → State → List ℕ → Side → Outcome
evict_side b s p o k x po pk n right st c Empty = refuses no_link st c
evict_side b s p o k x po pk n right st c (Link lk ld lm) =
    pick (key_eq lk k) (evict_as b s p o k x po pk n right st c ld) (refuses no_link st c)

unfoldable pub evict_link : Bool → ℕ → ℕ → ℕ → Key → Value → ℕ → Key → Node → Bool → State → List ℕ → Outcome
evict_link b s p o k x po pk n right st c = evict_side b s p o k x po pk n right st c (side_of n right)

-- 8 of p, 10
unfoldable pub evict_node : Bool → ℕ → ℕ → ℕ → Key → Value → ℕ → Key → Value → State → List ℕ → Outcome
evict_node b s p o k x po pk v.None st c = refuses wrong_kind st c
evict_node b s p o k x po pk (v.Fingerprint d) st c = refuses wrong_kind st c
evict_node b s p o k x po pk (v.Node n) st c =
    pick (above pk k) (evict_link b s p o k x po pk n (toward pk k) st c) (refuses no_ancestor st c)

-- 6 of p
abbrev pub evict_to : Bool → ℕ → ℕ → ℕ → Key → Value → State → List ℕ → Slot → Outcome
evict_to b s p o k x st c sl.Free = refuses slot_empty st c
evict_to b s p o k x st c sl.Bad = refuses not_well st c
evict_to b s p o k x st c (sl.Full po pk pv) = evict_node b s p o k x po pk pv st c

unfoldable pub evict_under : Bool → ℕ → ℕ → ℕ → Key → Value → State → List ℕ → Outcome
evict_under b s p o k x st c = evict_to b s p o k x st c (slot_in c p)

-- 6 of s
abbrev pub evict_at : Bool → ℕ → ℕ → State → List ℕ → Slot → Outcome
evict_at b s p st c sl.Free = refuses slot_empty st c
evict_at b s p st c sl.Bad = refuses not_well st c
evict_at b s p st c (sl.Full o k x) = evict_under b s p o k x st c

-- 4 of s and of p, 17
unfoldable pub evict_by : Bool → ℕ → ℕ → State → List ℕ → Outcome
evict_by b s p st c =
    pick (leb (count c) s) (refuses no_slot st c)
    (pick (leb (count c) p) (refuses no_slot st c)
    (pick (eqb s 0) (refuses root_slot st c) (evict_at b s p st c (slot_in c s))))

-- 3 and 5: s, p
abbrev pub evict_tree : ℕ → ℕ → State → List ℕ → Outcome
evict_tree s p st c = evict_by false s p st c

abbrev pub evict_tree_deferred : ℕ → ℕ → State → List ℕ → Outcome
evict_tree_deferred s p st c = evict_by true s p st c

-- ---- 4: s. Origin 2 (16), and the evict count below 1,000,000 (20)

abbrev pub deferred_at : ℕ → State → List ℕ → Slot → Outcome
deferred_at s st c sl.Free = refuses slot_empty st c
deferred_at s st c sl.Bad = refuses not_well st c
deferred_at s st c (sl.Full o k x) =
    pick (eqb o deferred)
    (pick (leb count_limit st.tally.evicts) (refuses count_full st c) (accepts (evicted st k x) (free_slot c s)))
    (refuses wrong_origin st c)

unfoldable pub evict_deferred : ℕ → State → List ℕ → Outcome
evict_deferred s st c =
    pick (leb (count c) s) (refuses no_slot st c)
    (pick (eqb s 0) (refuses root_slot st c) (deferred_at s st c (slot_in c s)))
