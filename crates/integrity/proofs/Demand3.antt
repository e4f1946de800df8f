-- Demand 3: the theorem. For every set key, lent cache, list of inputs and epoch, the statement of specs/Statement holds of the rules' step.
use mathlib.Core.Path.{◌≡◌, refl, sym, ◌∙◌, subst}
use mathlib.Core.Logic.{inl, inr}
use mathlib.Core.Bool.{Bool, true, false}
use mathlib.Core.Option.{none}
use mathlib.Core.List.{List, [], ◌∷◌, Memᴰ}
use Prim.Native.Nat.{ℕ, ◌-◌, ◌/◌, ◌≤◌}
use lib.ListN.{length}
use Rattle.cmac.specs.declared.Tag.{Tag}
use Rattle.key.specs.Keys.{is_data}
use Rattle.value.specs.declared.Value.{Value}
use Rattle.value.specs.declared.Value.TheVariants.{None}
use Rattle.value.proofs.Back.{value_inj}
use Rattle.hash.specs.Hashes.{set_key, digest_of, tag_of}
use Rattle.cache.specs.Caches.{well_length, opened_cache}
use Rattle.state.specs.States.{fresh_state, zero_state, open_def, settled}
use Rattle.integrity.specs.Statement.{Moment, fresh, run, taken, AnswersAgree, stood, Collision, TagsCancel, AllClosed, AllBytes, Holds, Demand3, SettledDemand3}
use Rattle.integrity.proofs.Moves as moves
use Rattle.integrity.proofs.History.{Cancels}
use Rattle.integrity.proofs.Lane.{start, AllSay, lane_demand}
use Rattle.integrity.proofs.Lane as lane
use Rattle.integrity.proofs.Tallies.{tags, sum_is}
use Rattle.integrity.proofs.Opened.{opened_stands}
use Rattle.integrity.proofs.Settled.{settled_is, closed_settled}
use Rattle.rules.proofs.Refused.{step_short}
use Rattle.integrity.proofs.Replay.{first_stood, AgreeAll, each_agrees, Replay, held_stood, replay}
use Rattle.integrity.proofs.Messages.{none_well, odd_apart}
use Rattle.integrity.proofs.Stood.{same_sha}

-- ---- from a fresh state and an opened cache

module _ (key : List ℕ) (n : ℕ) (ws : List (List ℕ)) where
  abbrev begin : Moment
  begin = record { state = fresh_state key; cache = opened_cache n }

  abbrev Whole : Type 0
  Whole = Replay (set_key key) start begin ws

  -- what stood in the run stood in the history
  shown : (p : Whole) (v : Value) → lane.Stood digest_of is_data Tag tags (tag_of (set_key key)) p.whole v → Memᴰ v (stood begin ws)
  shown p v s = elim (p.in_stood v s) [
    | inl u ↦ first_stood begin ws (held_stood (set_key key) (fresh_state key) (opened_cache n) _ (opened_stands key n) v u)
    | inr u ↦ u
  ]

  collision : (p : Whole) → moves.Collision digest_of is_data (lane.Stood digest_of is_data Tag tags (tag_of (set_key key)) p.whole) → Collision begin ws
  collision p d =
      let a = shown p d.one d.one_stood in
      let b = shown p d.two d.two_stood in
      let x = p.sound d.one a in
      let y = p.sound d.two b in
      record {
        one = d.one;
        two = d.two;
        one_stood = a;
        two_stood = b;
        different = λ q. d.differ (value_inj d.one d.two x.fits y.fits x.well y.well q);
        digests = same_sha d.one d.two d.equal;
      }

  cancel : (p : Whole) (e : ℕ) → (i : ℕ) × (1 ≤ i) × (i ≤ e) × Cancels Tag tags (tag_of (set_key key)) i p.end.ads p.end.evs → TagsCancel (set_key key) e begin ws
  unfolding tags
  cancel p e x =
      let y = rw (p.ads, p.evs) at x.3 in
      record { epoch = x.0; first = x.1; last = x.2; some_odd = y.0; apart = odd_apart x.0 _ _ (p.ads_well none_well) (p.evs_well none_well); cancel = sym (sum_is (set_key key) _) ∙ y.1 }

  agrees : (p : Whole) (e : ℕ) → AllSay digest_of is_data Tag tags (tag_of (set_key key)) e p.whole → AnswersAgree e begin ws
  agrees p e a before w rest q h = each_agrees e begin (λ k. None) before w rest (subst (λ l. AgreeAll e begin (λ k. None) l) q (p.agree e a).0) h

  demand : AllBytes ws → (e : ℕ) → e ≤ settled (run begin ws).state → Holds (set_key key) e begin ws
  demand b e h = go (replay (set_key key) ws b (fresh_state key) (opened_cache n) (opened_stands key n) start)
    where
      go : Whole → Holds (set_key key) e begin ws
      go p = elim (lane_demand digest_of is_data Tag tags (tag_of (set_key key)) refl p.whole e (subst (λ y. e ≤ y) (settled_is (set_key key) p.stands) h)) [
        | inl d ↦ inl (collision p d)
        | inr z ↦ elim z [ inl x ↦ inr (inl (cancel p e x)) | inr a ↦ inr (inr (agrees p e a)) ]
      ]

-- ---- a cache that opening refuses: nothing is ever accepted (28)

module _ (m : Moment) (e : well_length m.cache ≡ false) where
  stuck : (ws : List (List ℕ)) → run m ws ≡ m
  stuck [] = refl
  stuck (w ∷ ws) = rw (step_short m.state m.cache w e) (stuck ws)

  none_taken : (w : List ℕ) → taken m w ≡ none
  none_taken w = rw (step_short m.state m.cache w e)

  silent : (i : ℕ) (ws : List (List ℕ)) → AnswersAgree i m ws
  silent i ws before w rest q h = rw (stuck before, none_taken w) tt

-- ---- the theorem

opens : (key c : List ℕ) → well_length c ≡ true → fresh key c ≡ record { state = fresh_state key; cache = opened_cache (length c / 192 - 1) }
unfolding open_def
opens key c w = rw w

refuses : (key c : List ℕ) → well_length c ≡ false → fresh key c ≡ record { state = zero_state; cache = c }
unfolding open_def
refuses key c w = rw w

-- whatever is known of the first moment, it is known of a fresh state and an opened cache, or nothing is ever accepted
from_fresh : (key c : List ℕ) (ws : List (List ℕ)) (e : ℕ) (K : Moment → Type 0) → K (fresh key c)
    → ((n : ℕ) → K (record { state = fresh_state key; cache = opened_cache n }) → Holds (set_key key) e (record { state = fresh_state key; cache = opened_cache n }) ws)
    → Holds (set_key key) e (fresh key c) ws
from_fresh key c ws e K k f = go (well_length c) refl
  where
    go : (z : Bool) → well_length c ≡ z → Holds (set_key key) e (fresh key c) ws
    go true w = rw (opens key c w) (f (length c / 192 - 1) (subst K (opens key c w) k))
    go false w = rw (refuses key c w) (inr (inr (silent (record { state = zero_state; cache = c }) w e ws)))

pub settled_demand_3 : (key c : List ℕ) (ws : List (List ℕ)) (e : ℕ) → SettledDemand3 key c ws e
settled_demand_3 key c ws e b h = from_fresh key c ws e (λ m. e ≤ settled (run m ws).state) h (λ n k. demand key n ws b e k)

pub demand_3 : (key c : List ℕ) (ws : List (List ℕ)) (e : ℕ) → Demand3 key c ws e
demand_3 key c ws e b h = from_fresh key c ws e (λ m. AllClosed e m ws) h (λ n k. demand key n ws b e (closed_settled key n ws b e k))
