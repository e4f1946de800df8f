-- An entry is a tag byte, a two-byte body length and the body (document 01, "The ten entries").
use Rattle.std.specs.Prelude.{ℕ, ◌≡◌, ◌+◌, ◌-◌, List, [], ◌∷◌, ◌++◌, Bool, true, Option, Some, None, Result, Ok, Err, length, get_or, drop, ltb, eqb}
use Rattle.words.specs.Choice.{pick, both}
use Rattle.words.specs.Numbers.{number_at, bytes_of}
use Rattle.words.specs.Splices.{part}
use Rattle.verdict.specs.Verdicts.{accepted, malformed, short, number}
use Rattle.verdict.specs.declared.Refusal.{Refusal}
use Rattle.key.specs.Keys.{key_at, key_bytes, data_at, data_bytes, well_key, is_data}
use Rattle.key.specs.declared.Key.{Key}
use Rattle.value.specs.Values.{value_at, value_bytes, well_value}
use Rattle.value.specs.declared.Value.{Value}
use Rattle.entry.specs.declared.Entry.{Entry}
use Rattle.entry.specs.declared.Entry.TheVariants.{AddTree, AddDeferred, EvictTree, EvictDeferred, EvictTreeDeferred, Get, Absent, Put, Advance, Close}
use Rattle.entry.specs.declared.Head.{Head}
use Rattle.entry.specs.declared.Unread.{Unread}
use Rattle.entry.specs.declared.Unread.TheVariants as unread

-- ---- read: the body of each tag. A slot is two bytes; a value ends exactly with the body

-- what a value makes, where the value ends with the body
abbrev pub ends_with : {A : Type 0} → List ℕ → ℕ → (Value → A) → Option (Value × ℕ) → Option A
ends_with b at make None = None
ends_with b at make (Some (x, n)) = pick (eqb (at + n) (length b)) (Some (make x)) None

-- 1: s, p, key, value
abbrev pub add_tree_key : List ℕ → Option Key → Option Entry
add_tree_key b None = None
add_tree_key b (Some k) = ends_with b 38 (AddTree (number_at 2 b 0) (number_at 2 b 2) k) (value_at b 38)

unfoldable pub add_tree_at : List ℕ → Option Entry
add_tree_at b = pick (ltb (length b) 38) None (add_tree_key b (key_at b 4))

-- 2: s, epoch, time, key, value
abbrev pub add_deferred_key : List ℕ → Option Key → Option Entry
add_deferred_key b None = None
add_deferred_key b (Some k) =
    ends_with b 52 (AddDeferred (number_at 2 b 0) (record { 0 = number_at 8 b 2 }) (record { 0 = number_at 8 b 10 }) k) (value_at b 52)

unfoldable pub add_deferred_at : List ℕ → Option Entry
add_deferred_at b = pick (ltb (length b) 52) None (add_deferred_key b (key_at b 18))

-- 3 and 5: s, p
unfoldable pub pair_of_slots : {A : Type 0} → List ℕ → (ℕ → ℕ → A) → Option A
pair_of_slots b make = pick (eqb (length b) 4) (Some (make (number_at 2 b 0) (number_at 2 b 2))) None

-- 4: s
unfoldable pub evict_deferred_at : List ℕ → Option Entry
evict_deferred_at b = pick (eqb (length b) 2) (Some (EvictDeferred (number_at 2 b 0))) None

-- 6 and 8: s, 32-byte key, value
unfoldable pub record_at : {A : Type 0} → List ℕ → (ℕ → Key → Value → A) → Option A
record_at b make = pick (ltb (length b) 34) None (ends_with b 34 (make (number_at 2 b 0) (data_at b 2)) (value_at b 34))

-- 7: p, 32-byte key
unfoldable pub absent_at : List ℕ → Option Entry
absent_at b = pick (eqb (length b) 34) (Some (Absent (number_at 2 b 0) (data_at b 2))) None

-- 9 and 10: empty
unfoldable pub empty_at : List ℕ → Entry → Option Entry
empty_at b e = pick (eqb (length b) 0) (Some e) None

unfoldable pub entry_of : ℕ → List ℕ → Option Entry
entry_of t b =
    pick (eqb t 1) (add_tree_at b)
    (pick (eqb t 2) (add_deferred_at b)
    (pick (eqb t 3) (pair_of_slots b EvictTree)
    (pick (eqb t 4) (evict_deferred_at b)
    (pick (eqb t 5) (pair_of_slots b EvictTreeDeferred)
    (pick (eqb t 6) (record_at b Get)
    (pick (eqb t 7) (absent_at b)
    (pick (eqb t 8) (record_at b Put)
    (pick (eqb t 9) (empty_at b Advance)
    (pick (eqb t 10) (empty_at b Close) None)))))))))

-- ---- read: the head first, then whether the promised body is there (3), then the body (2)

unfoldable pub head_of : List ℕ → Option Head
head_of log =
    pick (ltb (length log) 3) None
    (pick (ltb (length log - 3) (number_at 2 log 1)) None (Some (record { tag = get_or log 0 0; len = number_at 2 log 1 })))

abbrev pub head_end : Option Head → ℕ
head_end None = 0
head_end (Some h) = 3 + h.len

-- the body that the head promises, as a part of the log; none where it is not whole
abbrev pub body_by : List ℕ → Option Head → List ℕ
body_by log None = []
body_by log (Some h) = part log 3 h.len

unfoldable pub body_of : List ℕ → List ℕ
body_of log = body_by log (head_of log)

-- the entry with the bytes that it takes, or why there is none
abbrev pub Reading : Type 0
Reading = Result (Entry × ℕ) Unread

abbrev pub reading_of : ℕ → Option Entry → Reading
reading_of n None = Err (unread.Malformed n)
reading_of n (Some e) = Ok (e, n)

abbrev pub read_by : List ℕ → Option Head → Reading
read_by log None = Err unread.Short
read_by log (Some h) = reading_of (3 + h.len) (entry_of h.tag (part log 3 h.len))

-- the entry at the start of a log
unfoldable pub read_entry : List ℕ → Reading
read_entry log = read_by log (head_of log)

-- the plain form, log and place apart
abbrev pub read_at : List ℕ → ℕ → Reading
read_at log at = read_entry (drop at log)

-- document 01's number for each answer, and the bytes used: the entry's whole length, 0 with 3
abbrev pub reading_verdict : Reading → ℕ
reading_verdict (Err unread.Short) = short
reading_verdict (Err (unread.Malformed n)) = malformed
reading_verdict (Ok (e, n)) = accepted

abbrev pub reading_used : Reading → ℕ
reading_used (Err unread.Short) = 0
reading_used (Err (unread.Malformed n)) = n
reading_used (Ok (e, n)) = n

-- a refusal by the number of the reading that it came from
abbrev pub RefusesAs : Unread → Refusal → Type 0
RefusesAs u r = number r ≡ reading_verdict (Err u)

-- ---- written

unfoldable pub entry_tag : Entry → ℕ
entry_tag (AddTree s p k x) = 1
entry_tag (AddDeferred s e t k x) = 2
entry_tag (EvictTree s p) = 3
entry_tag (EvictDeferred s) = 4
entry_tag (EvictTreeDeferred s p) = 5
entry_tag (Get s k x) = 6
entry_tag (Absent p k) = 7
entry_tag (Put s k x) = 8
entry_tag Advance = 9
entry_tag Close = 10

unfoldable pub entry_body : Entry → List ℕ
entry_body (AddTree s p k x) = bytes_of 2 s ++ (bytes_of 2 p ++ (key_bytes k ++ value_bytes x))
entry_body (AddDeferred s e t k x) = bytes_of 2 s ++ (bytes_of 8 e.0 ++ (bytes_of 8 t.0 ++ (key_bytes k ++ value_bytes x)))
entry_body (EvictTree s p) = bytes_of 2 s ++ bytes_of 2 p
entry_body (EvictDeferred s) = bytes_of 2 s
entry_body (EvictTreeDeferred s p) = bytes_of 2 s ++ bytes_of 2 p
entry_body (Get s k x) = bytes_of 2 s ++ (data_bytes k ++ value_bytes x)
entry_body (Absent p k) = bytes_of 2 p ++ data_bytes k
entry_body (Put s k x) = bytes_of 2 s ++ (data_bytes k ++ value_bytes x)
entry_body Advance = []
entry_body Close = []

unfoldable pub entry_bytes : Entry → List ℕ
entry_bytes e = (entry_tag e ∷ []) ++ (bytes_of 2 (length (entry_body e)) ++ entry_body e)

-- whether the bytes would be read back as the entry
unfoldable pub well_entry : Entry → Bool
well_entry (AddTree s p k x) = both (well_key k) (well_value x)
well_entry (AddDeferred s e t k x) = both (well_key k) (well_value x)
well_entry (EvictTree s p) = true
well_entry (EvictDeferred s) = true
well_entry (EvictTreeDeferred s p) = true
well_entry (Get s k x) = both (is_data k) (well_value x)
well_entry (Absent p k) = is_data k
well_entry (Put s k x) = both (is_data k) (well_value x)
well_entry Advance = true
well_entry Close = true
