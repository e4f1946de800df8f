-- Document 01, "Verdict numbers": each number by name.
use Rattle.std.specs.Prelude.{ℕ, ◌≡◌, Result, Ok, Err}
use Rattle.verdict.specs.declared.Refusal.{Refusal}
use Rattle.verdict.specs.declared.Refusal.TheVariants.{NotWell, Malformed, Short, NoSlot, SlotTaken, SlotEmpty, KeyHeld, WrongKind, OtherKey, NoAncestor, NoLink, OtherBranch, MarkedDeferred, DigestDiffers, NotFirst, WrongOrigin, RootSlot, EpochNotOpen, TimeOutOfRange, CountFull, EpochFull, WrongMoment, CountsDiffer, SumsDiffer, ValueDiffers, AbsenceNotShown, NoRoom, WrongCache, BadTerm, TooLong}

-- accepted
abbrev pub accepted : ℕ
accepted = 0

-- cache or state not well formed
abbrev pub not_well : ℕ
not_well = 1

-- whole entry, wrong tag, body length or content
abbrev pub malformed : ℕ
malformed = 2

-- fewer bytes than head and body need
abbrev pub short : ℕ
short = 3

-- slot number not below the slot count
abbrev pub no_slot : ℕ
no_slot = 4

-- slot taken
abbrev pub slot_taken : ℕ
slot_taken = 5

-- slot empty
abbrev pub slot_empty : ℕ
slot_empty = 6

-- key already in the cache
abbrev pub key_held : ℕ
key_held = 7

-- value's kind does not fit the key; p not a node; data slot holds a node
abbrev pub wrong_kind : ℕ
wrong_kind = 8

-- slot holds another key
abbrev pub other_key : ℕ
other_key = 9

-- p is no proper ancestor
abbrev pub no_ancestor : ℕ
no_ancestor = 10

-- p's link is empty or names another key
abbrev pub no_link : ℕ
no_link = 11

-- other branch
abbrev pub other_branch : ℕ
other_branch = 12

-- marked deferred
abbrev pub marked_deferred : ℕ
marked_deferred = 13

-- digest differs
abbrev pub digest_differs : ℕ
digest_differs = 14

-- not a first value
abbrev pub not_first : ℕ
not_first = 15

-- wrong origin
abbrev pub wrong_origin : ℕ
wrong_origin = 16

-- s is slot 0
abbrev pub root_slot : ℕ
root_slot = 17

-- epoch not open
abbrev pub epoch_not_open : ℕ
epoch_not_open = 18

-- time out of range
abbrev pub time_out_of_range : ℕ
time_out_of_range = 19

-- count at 1,000,000
abbrev pub count_full : ℕ
count_full = 20

-- epoch at 1,000,000
abbrev pub epoch_full : ℕ
epoch_full = 21

-- advance with an old epoch open, or close with none
abbrev pub wrong_moment : ℕ
wrong_moment = 22

-- counts differ
abbrev pub counts_differ : ℕ
counts_differ = 23

-- sums differ
abbrev pub sums_differ : ℕ
sums_differ = 24

-- value differs
abbrev pub value_differs : ℕ
value_differs = 25

-- absence not shown
abbrev pub absence_not_shown : ℕ
absence_not_shown = 26

-- writer's buffer shorter than the entry
abbrev pub no_room : ℕ
no_room = 27

-- cache length not 384 to 12,288 or not a multiple of 192
abbrev pub wrong_cache : ℕ
wrong_cache = 28

-- bad code or term
abbrev pub bad_term : ℕ
bad_term = 29

-- message over 65,536 bytes
abbrev pub too_long : ℕ
too_long = 30

-- the longest message that 30 does not refuse
abbrev pub longest : ℕ
longest = 65536

-- the number of each refusal
abbrev pub number : Refusal → ℕ
number NotWell = not_well
number Malformed = malformed
number Short = short
number NoSlot = no_slot
number SlotTaken = slot_taken
number SlotEmpty = slot_empty
number KeyHeld = key_held
number WrongKind = wrong_kind
number OtherKey = other_key
number NoAncestor = no_ancestor
number NoLink = no_link
number OtherBranch = other_branch
number MarkedDeferred = marked_deferred
number DigestDiffers = digest_differs
number NotFirst = not_first
number WrongOrigin = wrong_origin
number RootSlot = root_slot
number EpochNotOpen = epoch_not_open
number TimeOutOfRange = time_out_of_range
number CountFull = count_full
number EpochFull = epoch_full
number WrongMoment = wrong_moment
number CountsDiffer = counts_differ
number SumsDiffer = sums_differ
number ValueDiffers = value_differs
number AbsenceNotShown = absence_not_shown
number NoRoom = no_room
number WrongCache = wrong_cache
number BadTerm = bad_term
number TooLong = too_long

abbrev pub IsNumberOf : Refusal → ℕ → Type 0
IsNumberOf r n = n ≡ number r

-- what a call's outcome is told by: 0, or the number of the refusal
abbrev pub told : {T : Type 0} → Result T Refusal → ℕ
told (Ok x) = accepted
told (Err r) = number r
