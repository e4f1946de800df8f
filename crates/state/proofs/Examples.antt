-- States at the bounds of document 01, and openings, computed.
use Prim.Native.Nat.{ℕ}
use mathlib.Core.Path.{◌≡◌, refl}
use mathlib.Core.Bool.{true, false}
use lib.ListN.{replicate}
use Rattle.words.specs.Numbers.{zeros}
use Rattle.cache.specs.Caches.{well_length}
use Rattle.state.specs.States.{well_state, fresh_state, advanced_state, closed_state, zero_state, open_def, settled}
use Rattle.state.specs.declared.Tally.{Tally}
use Rattle.std.specs.Prelude.{Option, Some, None}
use Rattle.state.specs.declared.State.{State}
use Rattle.cmac.specs.Tags.{no_tag}

abbrev counts : ℕ → ℕ → Tally
counts a e = record { adds = a; evicts = e; addsum = no_tag; evictsum = no_tag }

abbrev at : ℕ → ℕ → Tally → Option Tally → State
at clock epoch t o = record { set = record { k0 = 0; k1 = 0 }; clock = record { 0 = clock }; epoch = record { 0 = epoch }; tally = t; old = o }

-- a state of zeros is not well formed, and epochs are 1 to 1,000,000
zeros_refused : well_state zero_state ≡ false
unfolding well_state
zeros_refused = refl

last_epoch : well_state (at 0 1000000 (counts 0 0) None) ≡ true
unfolding well_state
last_epoch = refl

past_the_last_epoch : well_state (at 0 1000001 (counts 0 0) None) ≡ false
unfolding well_state
past_the_last_epoch = refl

-- no old epoch at epoch 1
old_at_one : well_state (at 0 1 (counts 0 0) (Some (counts 0 0))) ≡ false
unfolding well_state
old_at_one = refl

old_at_two : well_state (at 0 2 (counts 0 0) (Some (counts 1000000 1000000))) ≡ true
unfolding well_state
old_at_two = refl

-- counts at most 1,000,000, the old epoch's too
counts_over : well_state (at 0 2 (counts 1000001 0) None) ≡ false
unfolding well_state
counts_over = refl

old_counts_over : well_state (at 0 2 (counts 0 0) (Some (counts 0 1000001))) ≡ false
unfolding well_state
old_counts_over = refl

-- the clock at its bound, and past it
clock_at_bound : well_state (at 2000003 3 (counts 0 3) None) ≡ true
unfolding well_state
clock_at_bound = refl

clock_past_bound : well_state (at 2000004 3 (counts 0 3) None) ≡ false
unfolding well_state
clock_past_bound = refl

-- nothing is settled at first; the first epoch is once it is advanced and closed
fresh_settled : settled (fresh_state (zeros 16)) ≡ 0
unfolding settled fresh_state
fresh_settled = refl

advanced_settled : settled (advanced_state (fresh_state (zeros 16))) ≡ 0
unfolding settled fresh_state advanced_state
advanced_settled = refl

closed_settled : settled (closed_state (advanced_state (fresh_state (zeros 16)))) ≡ 1
unfolding settled fresh_state advanced_state closed_state
closed_settled = refl

-- 28 from a cache of one slot, of no whole slots and of too many, which come back as they were
refused_bytes : (open_def (zeros 16) (replicate 192 7)).bytes ≡ replicate 192 7
unfolding open_def well_length
refused_bytes = refl

refused_odd : (open_def (zeros 16) (replicate 385 7)).answer.verdict ≡ 28
unfolding open_def well_length
refused_odd = refl

refused_many : (open_def (zeros 16) (replicate 12480 7)).answer.verdict ≡ 28
unfolding open_def well_length
refused_many = refl

opened_most : (open_def (zeros 16) (replicate 12288 7)).answer.verdict ≡ 0
unfolding open_def well_length
opened_most = refl
