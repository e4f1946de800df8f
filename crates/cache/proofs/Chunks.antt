-- The chunks that the search for a key goes over, and the numbers that the test of every slot goes over. Assumes nothing.
use Prim.Native.Nat.{ℕ, zero, suc, ◌+◌, ◌<◌}
use mathlib.Core.Path.{◌≡◌, refl, ap, ◌∙◌}
use mathlib.Core.List.{List, [], ◌∷◌, ◌++◌}
use mathlib.Core.Bool.{Bool, true, false}
use native.Mathlib.Omega.{arith}
use lib.ListN.{length, take, drop, length-append}
use lib.Seq.{take_at, drop_at}
use Rattle.std.specs.Prelude.{◌||◌, ◌&&◌}
use Rattle.words.specs.Choice.{pick}
use Rattle.std.specs.List.{list_any, list_all, range_with_len}
use Rattle.std.specs.declared.slice.ChunksExact.{ChunksExact}
use Rattle.std.specs.Slice.Iter.{chunks_exact_rest, chunks_exact_size, chunks_exact_steps}
use Rattle.std.proofs.lemmas.Iterator.{YieldsList}
use Rattle.std.proofs.lemmas.Iterator.Splits.{YieldsList-from_shown_while}
use Rattle.key.specs.declared.Key.{Key}
use Rattle.slot.specs.Slots.{slot_length, slot_at}
use Rattle.cache.specs.Caches.{count, slot_has, held_in, held, well_at, well_from, well_cache}

or_pick : (t b : Bool) → (t || b) ≡ pick t true b
or_pick true b = refl
or_pick false b = refl

and_pick : (t b : Bool) → (t && b) ≡ pick t b false
and_pick true b = refl
and_pick false b = refl

-- ---- the slots

slots_from : ℕ → List ℕ → List (List ℕ)
slots_from zero c = []
slots_from (suc n) c = take slot_length c ∷ slots_from n (drop slot_length c)

pub all_slots : List ℕ → List (List ℕ)
all_slots c = slots_from (count c) c

slots_none : (c : List ℕ) → length c < slot_length → length (all_slots c) ≡ 0
unfolding all_slots slots_from
slots_none c h = let z : count c ≡ 0 = omega arith in rw z

slots_more : (c x r : List ℕ) → c ≡ x ++ r → length x ≡ slot_length → all_slots c ≡ x ∷ all_slots r
unfolding all_slots slots_from
slots_more c x r e h =
    let n : count c ≡ suc (count r) = omega (arith, ap length e ∙ length-append x r) in
    rw (n, slots_from, e, take_at x r slot_length h, drop_at x r slot_length h)

-- chunks of 192 bytes are the slots
pub slots_chunks : (s : ChunksExact ℕ) → chunks_exact_size s ≡ slot_length → YieldsList chunks_exact_steps (λ x. x.now) s (all_slots (chunks_exact_rest s))
slots_chunks s h =
    YieldsList-from_shown_while chunks_exact_steps (λ x. x.now) (λ t. all_slots (chunks_exact_rest t)) (λ t. chunks_exact_size t ≡ slot_length)
    (λ s t p q. slots_none (chunks_exact_rest s) (omega (arith, q.1.0, p)))
    (λ s x t p q. (q.0 ∙ p, slots_more (chunks_exact_rest s) x.now (chunks_exact_rest t) q.1.0 (q.1.1 ∙ p)))
    s h

held_from : (n : ℕ) (c : List ℕ) (k : Key) → list_any (λ p. slot_has (slot_at p) k) (slots_from n c) ≡ held_in n c k
unfolding slots_from held_in
held_from zero c k = refl
held_from (suc n) c k = rw (held_from n (drop slot_length c) k) (or_pick (slot_has (slot_at (take slot_length c)) k) (held_in n (drop slot_length c) k))

pub held_any : (c : List ℕ) (k : Key) → list_any (λ p. slot_has (slot_at p) k) (all_slots c) ≡ held c k
unfolding all_slots held
held_any c k = held_from (count c) c k

-- ---- every slot

well_range : (n i : ℕ) (c : List ℕ) → list_all (λ j. well_at c j) (range_with_len i n) ≡ well_from n i c
unfolding well_from
well_range zero i c = refl
well_range (suc n) i c = rw (well_range n (i + 1) c) (and_pick (well_at c i) (well_from n (i + 1) c))

pub well_all : (c : List ℕ) → list_all (λ j. well_at c j) (range_with_len 0 (count c)) ≡ well_cache c
unfolding well_cache
well_all c = well_range (count c) 0 c
