-- Parts of entry 2's rule by name, as `add_named` of the rules has them for both of the open epochs.
use Rattle.cmac.specs.declared.Tag.{Tag}
use Rattle.state.specs.States.{added_current, added_old}
use Rattle.state.specs.declared.Tally.{Tally}
use Rattle.state.specs.declared.State.{State}
use Rattle.rules.specs.declared.Named.{Named}
use Rattle.rules.specs.declared.Named.TheVariants.{Current, Old}

-- the tally of a named epoch
abbrev pub tally_of : State → Named → Tally
tally_of st Current = st.tally
tally_of st (Old t) = t

-- the state with a message more in the adds of a named epoch
abbrev pub added_to : State → Named → Tag → State
added_to st Current g = added_current st g
added_to st (Old t) g = added_old st t g
