-- Refinement, opening: a fresh state and an opened cache stand for the opened lane.
use mathlib.Core.Path.{◌≡◌, refl, sym, ◌∙◌, ap, subst}
use mathlib.Core.Option.{none, some}
use mathlib.Core.List.{List, ◌∷◌}
use Prim.Native.Nat.{ℕ, zero, suc, ◌*◌, ◌-◌}
use native.Mathlib.Omega.{arith}
use lib.ListN.{length, replicate}
use lib.Seq.{take_at, drop_at}
use Rattle.words.specs.Numbers.{zeros}
use Rattle.cmac.specs.declared.Tag.{Tag}
use Rattle.key.specs.Keys.{root_key, is_data}
use Rattle.hash.specs.Hashes.{set_key, digest_of, tag_of}
use Rattle.slot.specs.Slots.{slot_bytes, tree}
use Rattle.slot.proofs.Laws.{take_zeros, drop_zeros, slot_length_lem}
use Rattle.slot.proofs.Back.{zero_slot, slot_back}
use Rattle.cache.specs.Caches.{opened_cache}
use Rattle.cache.proofs.Opened.{opened_bytes, opened_count, root_kept}
use Rattle.state.specs.States.{fresh_state}
use Rattle.integrity.specs.Statement.{of_epoch}
use Rattle.integrity.proofs.Updates.{upd}
use Rattle.integrity.proofs.Counting.{sum}
use Rattle.integrity.proofs.Records.{bare, from_tree}
use Rattle.integrity.proofs.Slots.{look, Unique}
use Rattle.integrity.proofs.Caches.{slots_of, slots_in, recd}
use Rattle.integrity.proofs.Tallies.{tags, no_old}
use Rattle.integrity.proofs.Lane.{opened_lane}
use Rattle.integrity.proofs.Refines.{Stands}

look_blank : (n : ℕ) → look (replicate n none) ≡ (λ k. none)
unfolding look
look_blank zero = refl
look_blank (suc n) = look_blank n

unique_blank : (n : ℕ) → Unique (replicate n none)
unfolding Unique
unique_blank zero = tt
unique_blank (suc n) = unique_blank n

blank_slots : (n : ℕ) → slots_of n (zeros (n * 192)) ≡ replicate n none
unfolding slots_of
blank_slots zero = refl
blank_slots (suc n) =
    let f : suc n * 192 - 192 ≡ n * 192 = omega arith in
    rw (take_zeros 192 (suc n * 192) (omega arith), drop_zeros 192 (suc n * 192), f, zero_slot, blank_slots n)

opened_slots : (n : ℕ) → slots_in (opened_cache n) ≡ recd tree root_key bare ∷ replicate n none
unfolding slots_of opened_cache
opened_slots n =
    let b = slot_bytes tree root_key bare in
    let e : length b ≡ 192 = slot_length_lem tree root_key bare in
    ap (λ (k : ℕ). slots_of k (opened_cache n)) (opened_count n)
    ∙ rw (take_at b (zeros (n * 192)) 192 e, drop_at b (zeros (n * 192)) 192 e, slot_back tree root_key bare root_kept, blank_slots n)

pub opened_stands : (key : List ℕ) (n : ℕ)
    → Stands (set_key key) (fresh_state key) (opened_cache n) (opened_lane digest_of is_data Tag tags (tag_of (set_key key)))
unfolding look Unique of_epoch sum tags fresh_state
opened_stands key n = record {
  set_is_key = refl;
  bytes = opened_bytes n;
  uniq = subst Unique (sym (opened_slots n)) (ap (λ f. f root_key) (look_blank n), unique_blank n);
  cache = ap look (opened_slots n) ∙ ap (λ f. upd f root_key (some (record { origin = from_tree; value = bare }))) (look_blank n);
  tallies = record {
    clocks = refl;
    epochs = refl;
    now = record { adds = refl; evicts = refl; addsum = refl; evictsum = refl };
    olds = no_old refl refl;
    none_ahead = λ e h. (refl, refl);
  };
}
