-- No two results of a step are told alike by the rules. Assumes nothing.
use Rattle.std.specs.Prelude.{ℕ, ◌≡◌, Result}
use Rattle.std.proofs.Common.{ap, ap₂}
use Rattle.verdict.specs.declared.Refusal.{Refusal}
use Rattle.state.specs.declared.State.{State}
use Rattle.rules.specs.Outcomes.{gives}
use Rattle.rules.specs.Steps.{Stepped}
use Rattle.rules.proofs.Refused.{done_back}
use Rattle.step.specs.declared.Progress.{Progress}
use Rattle.step.specs.Progress.{progress}

pub progress_back : (st : State) (p q : Progress) → progress p st ≡ progress q st → p ≡ q
progress_back st p q e =
    ap₂ (λ (next : Result State Refusal) (used : ℕ). record { next = next; used = used }) (done_back st p.next q.next (ap (λ (s : Stepped). gives s.verdict s.state) e)) (ap (λ (s : Stepped). s.used) e)
