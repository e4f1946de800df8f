-- Demand 3, in the owner's words:
--
--   3. Start fresh, and let nobody but the verifier write its state or its cache. Feed it any entries, refused ones among them. If epochs 1 to e
--   have all been closed, then every get and every absence accepted while epoch e or an earlier one was current agrees with the last accepted put
--   to that key before it, or with "none" if there was no put. The one exception: two different values that stood in an entry or in the cache have
--   the same SHA-256 digest, or for one of the epochs 1 to e the messages that were counted an odd number of times, its adds and evicts taken
--   together, are not none and their tags xor to zero.
--
-- Demand3, near the end, is the demand; proofs/Demand3 proves it. The step is that of demand 2 (crate rules), on bytes.
use Rattle.std.specs.Prelude.{ℕ, zero, suc, ◌≤◌, ◌≡◌, ◌⊎◌, ◌≢◌, take, drop, eqb, Ok, Err}
use Rattle.std.proofs.Math.Option.{Option, none, some}
use mathlib.Core.List.{List, [], ◌∷◌, ◌++◌, Memᴰ}
use Rattle.words.specs.Choice.{pick}
use Rattle.words.specs.Numbers.{Bytes}
use Rattle.verdict.specs.Verdicts.{accepted}
use Rattle.sha256.specs.Sha256.{sha256}
use Rattle.cmac.specs.Tags.{no_tag, tag_xor}
use Rattle.cmac.specs.declared.Tag.{Tag}
use Rattle.key.specs.Keys.{key_eq}
use Rattle.key.specs.declared.Key.{Key}
use Rattle.value.specs.Values.{value_bytes}
use Rattle.value.specs.declared.Value.{Value}
use Rattle.value.specs.declared.Value.TheVariants.{None}
use Rattle.message.specs.Messages.{message_bytes}
use Rattle.message.specs.declared.Message.{Message}
use Rattle.entry.specs.Entries.{Reading, read_entry}
use Rattle.entry.specs.declared.Entry.{Entry}
use Rattle.entry.specs.declared.Entry.TheVariants.{AddTree, AddDeferred, EvictTree, EvictDeferred, EvictTreeDeferred, Get, Absent, Put, Advance, Close}
use Rattle.entry.specs.declared.Unread.TheVariants as unread
use Rattle.hash.specs.Hashes.{set_key, tag_of}
use Rattle.hash.specs.declared.SetKey.{SetKey}
use Rattle.slot.specs.Slots.{slot_length, slot_at}
use Rattle.slot.specs.declared.Slot.{Slot}
use Rattle.slot.specs.declared.Slot.TheVariants as sl
use Rattle.cache.specs.Caches.{count, slot_in}
use Rattle.state.specs.States.{open_def, evict_message, settled}
use Rattle.state.specs.declared.State.{State}
use Rattle.rules.specs.Adds.{add_message}
use Rattle.rules.specs.Steps.{Step, step}
use Rattle.integrity.specs.Same.{message_dec}
use Rattle.integrity.specs.Counting.{odds}

-- ---- "Start fresh, and let nobody but the verifier write its state or its cache. Feed it any entries, refused ones among them."

-- the state and the cache between two inputs
pub record Moment : Type 0 where
  pub state : State
  pub cache : List ℕ

-- what opening makes of a set key and a lent cache
abbrev pub fresh : List ℕ → List ℕ → Moment
fresh key c = record { state = (open_def key c).answer.state; cache = (open_def key c).bytes }

-- an input is any bytes; the entry at its start is stepped
abbrev pub step_at : Moment → List ℕ → Step
step_at m w = step w m.state m.cache

abbrev pub after : Moment → List ℕ → Moment
after m w = record { state = (step_at m w).result.state; cache = (step_at m w).bytes }

abbrev pub run : Moment → List (List ℕ) → Moment
run m [] = m
run m (w ∷ ws) = run (after m w) ws

-- ---- "accepted": the entry that an input was read as, none where it was refused

abbrev pub entry_in : Reading → Option Entry
entry_in (Err unread.Short) = none
entry_in (Err (unread.Malformed n)) = none
entry_in (Ok (e, n)) = some e

abbrev pub taken : Moment → List ℕ → Option Entry
taken m w = pick (eqb (step_at m w).result.verdict accepted) (entry_in (read_entry w)) none

-- what is said of an accepted entry, and what where there is none
abbrev pub on_entry {ℓ} : {A : Type ℓ} → Option Entry → A → (Entry → A) → A
on_entry none a f = a
on_entry (some e) a f = f e

-- ---- "the last accepted put to that key before it, or .. 'none' if there was no put": a plain map

abbrev pub put_by : Entry → (Key → Value) → Key → Value
put_by (AddTree s p k x) f = f
put_by (AddDeferred s e t k x) f = f
put_by (EvictTree s p) f = f
put_by (EvictDeferred s) f = f
put_by (EvictTreeDeferred s p) f = f
put_by (Get s k x) f = f
put_by (Absent p k) f = f
put_by (Put s k x) f = λ j. pick (key_eq k j) x (f j)
put_by Advance f = f
put_by Close f = f

abbrev pub last_put : Moment → List (List ℕ) → (Key → Value) → Key → Value
last_put m [] f = f
last_put m (w ∷ ws) f = last_put (after m w) ws (on_entry (taken m w) f (λ e. put_by e f))

-- ---- "every get and every absence .. agrees": a get with the value that it shows, an absence with none

abbrev pub Agrees : Entry → (Key → Value) → Type 0
Agrees (AddTree s p k x) f = Unit
Agrees (AddDeferred s e t k x) f = Unit
Agrees (EvictTree s p) f = Unit
Agrees (EvictDeferred s) f = Unit
Agrees (EvictTreeDeferred s p) f = Unit
Agrees (Get s k x) f = x ≡ f k
Agrees (Absent p k) f = None ≡ f k
Agrees (Put s k x) f = Unit
Agrees Advance f = Unit
Agrees Close f = Unit

-- every one "accepted while epoch e or an earlier one was current": the epoch is that of the state before the step
abbrev pub AnswersAgree : ℕ → Moment → List (List ℕ) → Type 0
AnswersAgree e m ws =
    (before : List (List ℕ)) (w : List ℕ) (rest : List (List ℕ)) → ws ≡ before ++ (w ∷ rest) → (run m before).state.epoch.0 ≤ e
    → on_entry (taken (run m before) w) Unit (λ x. Agrees x (last_put m before (λ k. None)))

-- ---- "values that stood in an entry or in the cache": those of accepted entries, and of every slot at every moment

abbrev pub value_in : Entry → List Value
value_in (AddTree s p k x) = x ∷ []
value_in (AddDeferred s e t k x) = x ∷ []
value_in (EvictTree s p) = []
value_in (EvictDeferred s) = []
value_in (EvictTreeDeferred s p) = []
value_in (Get s k x) = x ∷ []
value_in (Absent p k) = []
value_in (Put s k x) = x ∷ []
value_in Advance = []
value_in Close = []

abbrev pub slot_value : Slot → List Value
slot_value sl.Free = []
slot_value sl.Bad = []
slot_value (sl.Full o k x) = x ∷ []

-- those of the first n slots
unfoldable pub cache_values : ℕ → List ℕ → List Value
cache_values zero c = []
cache_values (suc n) c = slot_value (slot_at (take slot_length c)) ++ cache_values n (drop slot_length c)

abbrev pub stood : Moment → List (List ℕ) → List Value
stood m [] = cache_values (count m.cache) m.cache
stood m (w ∷ ws) = cache_values (count m.cache) m.cache ++ (on_entry (taken m w) [] value_in ++ stood (after m w) ws)

-- "two different values that stood .. have the same SHA-256 digest"
pub record Collision (m : Moment) (ws : List (List ℕ)) : Type 0 where
  pub one : Value
  pub two : Value
  pub one_stood : Memᴰ one (stood m ws)
  pub two_stood : Memᴰ two (stood m ws)
  pub different : value_bytes one ≢ value_bytes two
  pub digests : sha256 (value_bytes one) ≡ sha256 (value_bytes two)

-- ---- "its adds and evicts": the messages of accepted entries 2, and 4 and 5, the last first

abbrev pub added_by : Entry → List Message
added_by (AddTree s p k x) = []
added_by (AddDeferred s e t k x) = add_message e t k x ∷ []
added_by (EvictTree s p) = []
added_by (EvictDeferred s) = []
added_by (EvictTreeDeferred s p) = []
added_by (Get s k x) = []
added_by (Absent p k) = []
added_by (Put s k x) = []
added_by Advance = []
added_by Close = []

-- the message of the record that leaves
abbrev pub leaving : State → Slot → List Message
leaving st sl.Free = []
leaving st sl.Bad = []
leaving st (sl.Full o k x) = evict_message st k x ∷ []

abbrev pub evicted_by : Moment → Entry → List Message
evicted_by m (AddTree s p k x) = []
evicted_by m (AddDeferred s e t k x) = []
evicted_by m (EvictTree s p) = []
evicted_by m (EvictDeferred s) = leaving m.state (slot_in m.cache s)
evicted_by m (EvictTreeDeferred s p) = leaving m.state (slot_in m.cache s)
evicted_by m (Get s k x) = []
evicted_by m (Absent p k) = []
evicted_by m (Put s k x) = []
evicted_by m Advance = []
evicted_by m Close = []

-- in front of the messages l
abbrev pub adds : Moment → List (List ℕ) → List Message → List Message
adds m [] l = l
adds m (w ∷ ws) l = adds (after m w) ws (on_entry (taken m w) [] added_by ++ l)

abbrev pub evicts : Moment → List (List ℕ) → List Message → List Message
evicts m [] l = l
evicts m (w ∷ ws) l = evicts (after m w) ws (on_entry (taken m w) [] (evicted_by m) ++ l)

-- the messages of one epoch
unfoldable pub of_epoch : ℕ → List Message → List Message
of_epoch i [] = []
of_epoch i (m ∷ l) = pick (eqb m.epoch.0 i) (m ∷ of_epoch i l) (of_epoch i l)

-- the xor of the tags, CMAC under the set key
unfoldable pub xor_tags : SetKey → List Message → Tag
xor_tags set [] = no_tag
xor_tags set (m ∷ l) = tag_xor (xor_tags set l) (tag_of set m)

-- "the messages that were counted an odd number of times"
abbrev pub odd_messages : ℕ → Moment → List (List ℕ) → List Message
odd_messages i m ws = odds Message message_dec (of_epoch i (adds m ws []) ++ of_epoch i (evicts m ws []))

-- "for one of the epochs 1 to e .. are not none and their tags xor to zero"; they differ in their bytes, so that none cancels with itself
pub record TagsCancel (set : SetKey) (e : ℕ) (m : Moment) (ws : List (List ℕ)) : Type 0 where
  pub epoch : ℕ
  pub first : 1 ≤ epoch
  pub last : epoch ≤ e
  pub some_odd : odd_messages epoch m ws ≢ []
  pub apart : (a b : Message) → Memᴰ a (odd_messages epoch m ws) → Memᴰ b (odd_messages epoch m ws) → message_bytes a ≡ message_bytes b → a ≡ b
  pub cancel : xor_tags set (odd_messages epoch m ws) ≡ no_tag

-- ---- "If epochs 1 to e have all been closed"

-- an accepted close closes the old epoch, which is the current one less 1
pub record Closed (i : ℕ) (m : Moment) (ws : List (List ℕ)) : Type 0 where
  pub before : List (List ℕ)
  pub input : List ℕ
  pub rest : List (List ℕ)
  pub inputs : ws ≡ before ++ (input ∷ rest)
  pub close : taken (run m before) input ≡ some Close
  pub current : (run m before).state.epoch.0 ≡ suc i

abbrev pub AllClosed : ℕ → Moment → List (List ℕ) → Type 0
AllClosed e m ws = (i : ℕ) → 1 ≤ i → i ≤ e → Closed i m ws

-- ---- the demand

-- every input is bytes
abbrev pub AllBytes : List (List ℕ) → Type 0
AllBytes [] = Unit
AllBytes (w ∷ ws) = Bytes w × AllBytes ws

-- the exception, or what is demanded of the answers
abbrev pub Holds : SetKey → ℕ → Moment → List (List ℕ) → Type 0
Holds set e m ws = Collision m ws ⊎ (TagsCancel set e m ws ⊎ AnswersAgree e m ws)

-- of a set key's bytes, a lent cache of any length, the inputs and the epoch e
abbrev pub Demand3 : List ℕ → List ℕ → List (List ℕ) → ℕ → Type 0
Demand3 key c ws e = AllBytes ws → AllClosed e (fresh key c) ws → Holds (set_key key) e (fresh key c) ws

-- the same where e is not above the last epoch settled, as document 01 reads it from the state
abbrev pub SettledDemand3 : List ℕ → List ℕ → List (List ℕ) → ℕ → Type 0
SettledDemand3 key c ws e = AllBytes ws → e ≤ settled (run (fresh key c) ws).state → Holds (set_key key) e (fresh key c) ws
