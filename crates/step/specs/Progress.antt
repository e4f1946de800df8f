-- What a step gives, as the rules tell it: the verdict and the next state, or the state as it was; and the bytes used.
use Rattle.state.specs.declared.State.{State}
use Rattle.rules.specs.Outcomes.{done}
use Rattle.rules.specs.Steps.{Stepped, used_by}
use Rattle.step.specs.declared.Progress.{Progress}

abbrev pub progress : Progress → State → Stepped
progress p st = used_by p.used (done p.next st)
