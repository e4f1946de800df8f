-- Entries 9 (advance: checks 22 21) and 10 (close: 22 23 24).
use Rattle.std.specs.Prelude.{leb, eqb, Option, Some, None}
use Rattle.words.specs.Choice.{pick}
use Rattle.verdict.specs.Verdicts.{accepted, epoch_full, wrong_moment, counts_differ, sums_differ}
use Rattle.cmac.specs.Tags.{tag_eq}
use Rattle.state.specs.States.{epoch_limit, advanced_state, closed_state}
use Rattle.state.specs.declared.Tally.{Tally}
use Rattle.state.specs.declared.State.{State}
use Rattle.rules.specs.Outcomes.{Done, gives}

-- ---- 9: the current epoch becomes the old one; a new one opens with zeros

abbrev pub advance_old : State → Option Tally → Done
advance_old st (Some t) = gives wrong_moment st
advance_old st None = pick (leb epoch_limit st.epoch.0) (gives epoch_full st) (gives accepted (advanced_state st))

unfoldable pub advance : State → Done
advance st = advance_old st st.old

-- ---- 10: counts equal, sums equal; the old epoch is closed and settled

abbrev pub close_old : State → Option Tally → Done
close_old st None = gives wrong_moment st
close_old st (Some t) =
    pick (eqb t.adds t.evicts)
    (pick (tag_eq t.addsum t.evictsum) (gives accepted (closed_state st)) (gives sums_differ st))
    (gives counts_differ st)

unfoldable pub close : State → Done
close st = close_old st st.old
