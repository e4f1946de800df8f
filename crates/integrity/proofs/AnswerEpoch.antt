-- An accepted get or absence changes nothing, so that the epoch current before it, by which demand 3 settles it, is also the one that is current
-- after it and that goes out with the answer.
use mathlib.Core.Path.{◌≡◌, refl, sym, ◌∙◌, ap}
use mathlib.Core.Option.{some, some-injective}
use mathlib.Core.List.{List}
use Prim.Native.Nat.{ℕ}
use Rattle.key.specs.declared.Key.{Key}
use Rattle.value.specs.declared.Value.{Value}
use Rattle.entry.specs.declared.Entry.{Entry}
use Rattle.entry.specs.declared.Entry.TheVariants.{Get, Absent}
use Rattle.rules.specs.Outcomes.{Outcome, accepts, refuses}
use Rattle.rules.specs.Answers.{get, absent}
use Rattle.rules.specs.Steps.{entry_step, step}
use Rattle.integrity.specs.Statement.{Moment, after, taken}
use Rattle.rules.proofs.Refused.{Stepping, step_settles}
use Rattle.rules.proofs.Refused as refused

-- where the entry comes to a verdict alone, a step that took it leaves all as it was
stays : (m : Moment) (w : List ℕ) (x : Entry) (n : ℕ) → taken m w ≡ some x → entry_step x m.state m.cache ≡ refuses n m.state m.cache → after m w ≡ m
stays m w x n q s = by_step (step_settles m.state m.cache w)
  where
    by_step : Stepping m.state m.cache w (step w m.state m.cache) → after m w ≡ m
    by_step (refused.kept i l z u) = rw u
    by_step (refused.took f₁ y i σ d g h u) =
        let e : y ≡ x = some-injective _ _ (sym (rw (u, g)) ∙ q) in
        let f : accepts σ d ≡ refuses n m.state m.cache = sym h ∙ ap (λ z. entry_step z m.state m.cache) e ∙ s in
        rw u (ap (λ (o : Outcome). record { state = o.done.state; cache = o.bytes }) f)

pub get_stays : (m : Moment) (w : List ℕ) (s : ℕ) (k : Key) (x : Value) → taken m w ≡ some (Get s k x) → after m w ≡ m
unfolding entry_step
get_stays m w s k x q = stays m w (Get s k x) (get s k x m.cache) q refl

pub absent_stays : (m : Moment) (w : List ℕ) (p : ℕ) (k : Key) → taken m w ≡ some (Absent p k) → after m w ≡ m
unfolding entry_step
absent_stays m w p k q = stays m w (Absent p k) (absent p k m.cache) q refl
