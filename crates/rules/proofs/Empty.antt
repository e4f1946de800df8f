-- Document 01, "What a proof here has to exclude": three empty versions of the verifier fall to the step's definition; by its log worked
-- through from the run's definition, a run that does only its first entry and one that makes up how many were accepted. Assumes nothing.
use Prim.Native.Nat.{ℕ, ◌≤◌}
use mathlib.Core.Path.{◌≡◌, refl, sym, ap, ◌∙◌}
use mathlib.Core.Logic.{◌≢◌}
use mathlib.Core.List.{List, [], ◌∷◌}
use lib.ListN.{get_or, replicate}
use native.Mathlib.Omega.{arith}
use Rattle.words.specs.Numbers.{number_at, bytes_of, zeros}
use Rattle.words.specs.Splices.{splice}
use Rattle.key.specs.Keys.{data_key, clean, well_key, key_bytes, raw_key, key_at, data_at, data_bytes, key_eq, same_top, above, bit_at, toward}
use Rattle.value.specs.Values.{digest_at, digest_bytes, digest_eq, link_bytes, side_bytes, fingerprint_bytes, node_bytes, value_bytes, link_at, side_at, node_at, fingerprint_at, value_at, fits, is_first, value_eq}
use Rattle.value.specs.declared.Value.TheVariants as v
use Rattle.entry.specs.Entries.{add_tree_at, add_deferred_at, pair_of_slots, evict_deferred_at, record_at, absent_at, empty_at, entry_of, head_of, read_entry, entry_tag, entry_body, entry_bytes}
use Rattle.entry.specs.declared.Entry.TheVariants.{AddTree, Absent, Advance}
use Rattle.hash.specs.Hashes.{set_key}
use Rattle.slot.specs.Slots.{slot_bytes, all_zero, slot_at}
use Rattle.cache.specs.Caches.{well_length, held_in, held, well_record, well_at, well_from, well_cache, opened_cache}
use Rattle.state.specs.States.{well_state, advanced_state, fresh_state, settled, added_current, added_old, evicted_state, evict_message, evicted, closed_state}
use Rattle.state.specs.declared.State.{State}
use Rattle.rules.specs.Adds.{linked, add_link, add_node, add_under, add_tree, named_epoch, add_into, add_deferred}
use Rattle.rules.specs.Evicts.{unlinked, evict_link, evict_node, evict_under, evict_by, evict_deferred}
use Rattle.rules.specs.Answers.{absent, get, put}
use Rattle.rules.specs.Epochs.{advance, close}
use Rattle.rules.specs.Steps.{Step, entry_step, step_well, step}
use Rattle.rules.specs.Runs.{Run, halts, sound, run_from, run}

-- ---- a step

-- a verifier, and one that meets the step's definition
abbrev pub Verifier : Type 0
Verifier = List ℕ → State → List ℕ → Step

abbrev pub Meets : Verifier → Type 0
Meets f = (log : List ℕ) (st : State) (c : List ℕ) → f log st c ≡ step log st c

abbrev st0 : State
st0 = fresh_state (zeros 16)

abbrev c0 : List ℕ
c0 = opened_cache 3

-- M1 is accepted
pub m1_accepted : (step (entry_bytes (Absent 0 (data_key 0 0 0 0))) st0 c0).result.verdict ≡ 0
unfolding number_at bytes_of zeros splice clean well_key key_bytes raw_key key_at data_at data_bytes key_eq same_top above bit_at toward digest_at digest_bytes digest_eq link_bytes side_bytes fingerprint_bytes node_bytes value_bytes link_at side_at node_at fingerprint_at value_at fits is_first value_eq add_tree_at add_deferred_at pair_of_slots evict_deferred_at record_at absent_at empty_at entry_of head_of read_entry entry_tag entry_body entry_bytes set_key slot_bytes all_zero slot_at well_length held_in held well_record well_at well_from well_cache opened_cache well_state advanced_state fresh_state linked add_link add_node add_under add_tree absent advance entry_step step_well step
m1_accepted = refl

-- M3 is refused
pub m3_refused : (step (entry_bytes (AddTree 1 0 (data_key 0 0 0 0) (v.Fingerprint (record { d0 = 7; d1 = 0; d2 = 0; d3 = 0 })))) st0 c0).result.verdict ≡ 15
unfolding number_at bytes_of zeros splice clean well_key key_bytes raw_key key_at data_at data_bytes key_eq same_top above bit_at toward digest_at digest_bytes digest_eq link_bytes side_bytes fingerprint_bytes node_bytes value_bytes link_at side_at node_at fingerprint_at value_at fits is_first value_eq add_tree_at add_deferred_at pair_of_slots evict_deferred_at record_at absent_at empty_at entry_of head_of read_entry entry_tag entry_body entry_bytes set_key slot_bytes all_zero slot_at well_length held_in held well_record well_at well_from well_cache opened_cache well_state advanced_state fresh_state linked add_link add_node add_under add_tree absent advance entry_step step_well step
m3_refused = refl

-- an advance, as in M9, moves the state on
pub m9_moves : (step (entry_bytes Advance) st0 c0).result.state.epoch.0 ≡ 2
unfolding number_at bytes_of zeros splice clean well_key key_bytes raw_key key_at data_at data_bytes key_eq same_top above bit_at toward digest_at digest_bytes digest_eq link_bytes side_bytes fingerprint_bytes node_bytes value_bytes link_at side_at node_at fingerprint_at value_at fits is_first value_eq add_tree_at add_deferred_at pair_of_slots evict_deferred_at record_at absent_at empty_at entry_of head_of read_entry entry_tag entry_body entry_bytes set_key slot_bytes all_zero slot_at well_length held_in held well_record well_at well_from well_cache opened_cache well_state advanced_state fresh_state linked add_link add_node add_under add_tree absent advance entry_step step_well step
m9_moves = refl

-- one that refuses all
pub refuses_all_falls : (f : Verifier) → Meets f → ((log : List ℕ) (st : State) (c : List ℕ) → (f log st c).result.verdict ≢ 0) → ⊥
refuses_all_falls f m r = r _ st0 c0 (ap (λ (s : Step). s.result.verdict) (m _ st0 c0) ∙ m1_accepted)

-- one that accepts all
pub accepts_all_falls : (f : Verifier) → Meets f → ((log : List ℕ) (st : State) (c : List ℕ) → (f log st c).result.verdict ≡ 0) → ⊥
accepts_all_falls f m a =
    let z : ◌≡◌ {A = ℕ} 0 15 = sym (a _ st0 c0) ∙ ap (λ (s : Step). s.result.verdict) (m _ st0 c0) ∙ m3_refused in omega arith

-- one that leaves state and cache untouched
pub untouched_falls : (f : Verifier) → Meets f → ((log : List ℕ) (st : State) (c : List ℕ) → (f log st c).result.state ≡ st) → ⊥
unfolding fresh_state
untouched_falls f m u =
    let z : ◌≡◌ {A = ℕ} 1 2 = ap (λ (s : State). s.epoch.0) (sym (u _ st0 c0)) ∙ ap (λ (s : Step). s.result.state.epoch.0) (m _ st0 c0) ∙ m9_moves in
    omega arith

-- ---- a run

-- a runner, and one that meets the run's definition
abbrev pub Runner : Type 0
Runner = List ℕ → State → List ℕ → Run

abbrev pub MeetsRun : Runner → Type 0
MeetsRun f = (log : List ℕ) (st : State) (c : List ℕ) → f log st c ≡ run log st c

-- advance, close, close, absent
abbrev log : List ℕ
log = 9 ∷ 0 ∷ 0 ∷ 10 ∷ 0 ∷ 0 ∷ 10 ∷ 0 ∷ 0 ∷ 7 ∷ 0 ∷ 34 ∷ replicate 34 0

-- the last epoch settled, entries met, entries accepted, bytes used
abbrev figures : Run → List ℕ
figures r = r.result.settled ∷ r.result.met ∷ r.result.accepted ∷ r.result.used ∷ []

-- the log; the same as far as its second entry's head: 3, and that entry counts as met; the log on a cache of a wrong length: 28
pub worked : (figures (run log st0 c0) ≡ 1 ∷ 4 ∷ 3 ∷ 46 ∷ [])
    × (figures (run (9 ∷ 0 ∷ 0 ∷ 10 ∷ []) st0 c0) ≡ 0 ∷ 2 ∷ 1 ∷ 3 ∷ [])
    × (figures (run log st0 []) ≡ 0 ∷ 1 ∷ 0 ∷ 0 ∷ [])
unfolding number_at bytes_of zeros splice clean well_key key_bytes raw_key key_at data_at data_bytes key_eq same_top above bit_at toward digest_at digest_bytes digest_eq link_bytes side_bytes fingerprint_bytes node_bytes value_bytes link_at side_at node_at fingerprint_at value_at fits is_first value_eq add_tree_at add_deferred_at pair_of_slots evict_deferred_at record_at absent_at empty_at entry_of head_of read_entry entry_tag entry_body entry_bytes set_key slot_bytes all_zero slot_at well_length held_in held well_record well_at well_from well_cache opened_cache well_state added_current added_old evicted_state evict_message evicted advanced_state closed_state fresh_state linked add_link add_node add_under add_tree named_epoch add_into add_deferred unlinked evict_link evict_node evict_under evict_by evict_deferred get absent put advance close entry_step step_well step halts settled sound run_from run
worked = (refl, refl, refl)

-- a run that does only its first entry
pub first_only_falls : (f : Runner) → MeetsRun f → ((log : List ℕ) (st : State) (c : List ℕ) → (f log st c).result.met ≤ 1) → ⊥
first_only_falls f m o =
    let z : (f log st0 c0).result.met ≡ 4 = ap (λ (r : Run). r.result.met) (m log st0 c0) ∙ ap (λ (l : List ℕ). get_or l 1 0) worked.0 in
    omega (arith, o log st0 c0)

-- a run that counts every entry met as accepted
pub made_up_count_falls : (f : Runner) → MeetsRun f → ((log : List ℕ) (st : State) (c : List ℕ) → (f log st c).result.accepted ≡ (f log st c).result.met) → ⊥
made_up_count_falls f m o =
    let z : (f log st0 c0).result.met ≡ 4 = ap (λ (r : Run). r.result.met) (m log st0 c0) ∙ ap (λ (l : List ℕ). get_or l 1 0) worked.0 in
    let y : (f log st0 c0).result.accepted ≡ 3 = ap (λ (r : Run). r.result.accepted) (m log st0 c0) ∙ ap (λ (l : List ℕ). get_or l 2 0) worked.0 in
    omega (arith, o log st0 c0)
