-- Refinement of entries 9 (advance) and 10 (close).
use Rattle.std.specs.Prelude.{Option, Some, None}
use mathlib.Core.Path.{◌≡◌, refl, sym, ◌∙◌, ap}
use mathlib.Core.Bool.{true, false, true≢false}
use mathlib.Core.List.{List}
use Prim.Native.Nat.{ℕ}
use native.Mathlib.Omega.{arith}
use lib.Dec.{eqb, leb}
use borrow.Author.Tests.{eqb-true, eq-eqb}
use Rattle.words.proofs.Laws.{picked}
use Rattle.verdict.specs.Verdicts.{accepted, epoch_full, wrong_moment, counts_differ, sums_differ}
use Rattle.cmac.specs.Tags.{tag_eq}
use Rattle.cmac.proofs.Tags.{tag_eq_lem}
use Rattle.entry.specs.declared.Entry.{Entry}
use Rattle.entry.specs.declared.Entry.TheVariants.{Advance, Close}
use Rattle.hash.specs.declared.SetKey.{SetKey}
use Rattle.state.specs.States.{epoch_limit, advanced_state, closed_state}
use Rattle.state.specs.declared.Tally.{Tally}
use Rattle.state.specs.declared.State.{State}
use Rattle.rules.specs.Outcomes.{Done as Entered, Outcome, outcome, gives, accepts}
use Rattle.rules.specs.Epochs as rules
use Rattle.rules.specs.Epochs.{advance_old, close_old}
use Rattle.integrity.proofs.Lane as lane
use Rattle.integrity.proofs.Lane.{Lane}
use Rattle.integrity.proofs.Tallies.{OldIs, no_old, is_old, tallies_close, tallies_advance}
use Rattle.integrity.proofs.Refines.{Stands, Refined}
use Rattle.integrity.proofs.Refines as refines

module _ (key : SetKey) (st : State) (c : List ℕ) (t : Lane) (R : Stands key st c t) (st' : State) (c' : List ℕ) where
  abbrev Shown : Entry → Type 0
  Shown x = Refined key x st c st' c' t

  stop : {C : Type 0} (n : ℕ) → eqb n 0 ≡ false → gives n st ≡ gives accepted st' → C
  stop n z e = absurd (true≢false (sym (eq-eqb n 0 (ap (λ (d : Entered). d.verdict) e)) ∙ z))

  -- the parts of an accepted outcome
  state_of_lem : (d : Entered) → outcome d c ≡ accepts st' c' → d ≡ gives accepted st'
  state_of_lem d e = ap (λ (o : Outcome). o.done) e

  whole : (σ : State) (d : Entered) → outcome d c ≡ accepts st' c' → gives accepted σ ≡ gives accepted st' → accepts σ c ≡ accepts st' c'
  whole σ d e g = ap (λ y. outcome y c) g ∙ ap (λ y. outcome (gives accepted st') y) (ap (λ (o : Outcome). o.bytes) e)

  -- ---- 9

  pub refine_advance : outcome (rules.advance st) c ≡ accepts st' c' → Shown Advance
  unfolding rules.advance advanced_state
  refine_advance e = go st.old refl (state_of_lem _ e)
    where
      go : (o : Option Tally) → st.old ≡ o → advance_old st o ≡ gives accepted st' → Shown Advance
      go (Some T) w f = stop wrong_moment refl f
      go None w f = picked (leb epoch_limit st.epoch.0) _ _ _ f (λ _ g. stop epoch_full refl g) λ _ g.
          refines.done key st c t R st' c' Advance _ _
          (lane.advance (elim R.tallies.olds [ no_old a b ↦ b | is_old U i a b q d ↦ absurd (let z : ◌≡◌ {A = ℕ} 0 1 = cc in omega arith) ]))
          (whole (advanced_state st) _ e g)
          (record { set_is_key = R.set_is_key; bytes = R.bytes; uniq = R.uniq; cache = R.cache; tallies = tallies_advance key R.tallies })
          (λ f u. tt) (λ f. refl) refl refl (λ v y. absurd y)

  -- ---- 10

  pub refine_close : outcome (rules.close st) c ≡ accepts st' c' → Shown Close
  unfolding rules.close closed_state
  refine_close e = go st.old refl (state_of_lem _ e) R.tallies.olds
    where
      go : (o : Option Tally) → st.old ≡ o → close_old st o ≡ gives accepted st' → OldIs key st.old t.old t.epoch t.evs t.ads → Shown Close
      go None w f z = stop wrong_moment refl f
      go (Some T) w f (no_old a b) = absurd (let z : ◌≡◌ {A = ℕ} 0 1 = cc in omega arith)
      go (Some T) w f (is_old U i a b q d) =
          picked (eqb T.adds T.evicts) _ _ _ f
          (λ n f. picked (tag_eq T.addsum T.evictsum) _ _ _ f (λ s g. last n s (whole (closed_state st) _ e g)) (λ s g. stop sums_differ refl g))
          (λ n f. stop counts_differ refl f)
        where
          same : U ≡ T
          same = let h : Some U ≡ Some T = sym a ∙ w in cc

          last : eqb T.adds T.evicts ≡ true → tag_eq T.addsum T.evictsum ≡ true → accepts (closed_state st) c ≡ accepts st' c' → Shown Close
          last n s e =
              refines.done key st c t R st' c' Close _ _
              (lane.close i b q
              (sym d.adds ∙ ap (λ (y : Tally). y.adds) same ∙ eqb-true _ _ n ∙ ap (λ (y : Tally). y.evicts) (sym same) ∙ d.evicts)
              (sym d.addsum ∙ ap (λ (y : Tally). y.addsum) same ∙ tag_eq_lem _ _ s ∙ ap (λ (y : Tally). y.evictsum) (sym same) ∙ d.evictsum))
              e
              (record { set_is_key = R.set_is_key; bytes = R.bytes; uniq = R.uniq; cache = R.cache; tallies = tallies_close key R.tallies })
              (λ f u. tt) (λ f. refl) refl refl (λ z y. absurd y)
