-- Parts of entry 1's rule by name, as `add_side` of the rules has them: each is decided by a function of its own.
use Rattle.std.specs.Prelude.{ℕ, List, Bool}
use Rattle.words.specs.Choice.{pick}
use Rattle.verdict.specs.Verdicts.{marked_deferred, digest_differs, not_first}
use Rattle.key.specs.declared.Key.{Key}
use Rattle.value.specs.Values.{digest_eq, is_first}
use Rattle.value.specs.declared.Digest.{Digest}
use Rattle.value.specs.declared.Node.{Node}
use Rattle.value.specs.declared.Value.{Value}
use Rattle.hash.specs.Hashes.{digest_of}
use Rattle.slot.specs.Slots.{tree}
use Rattle.cache.specs.Caches.{put_slot}
use Rattle.state.specs.declared.State.{State}
use Rattle.rules.specs.Outcomes.{Outcome, refuses, accepts}
use Rattle.rules.specs.Adds.{linked}

-- p's link names our key: mark 0 (13), digest equal (14)
abbrev pub add_same : ℕ → Key → Value → Digest → Bool → State → List ℕ → Outcome
add_same s k x ld lm st c =
    pick lm (refuses marked_deferred st c)
    (pick (digest_eq ld (digest_of x)) (accepts st (put_slot c s tree k x)) (refuses digest_differs st c))

-- a new link to our key, where the value given is first (15); y is the value as stored
abbrev pub add_first : ℕ → ℕ → ℕ → Key → Node → Bool → Key → Value → Value → State → List ℕ → Outcome
add_first s p po pk n right k x y st c =
    pick (is_first x) (accepts st (linked s p po pk n right k y c)) (refuses not_first st c)
