-- What stands at a place of a log, and where the next entry begins. The reader's own form keeps the log and the place together.
use Rattle.std.specs.Prelude.{ℕ, ◌+◌, List, drop}
use Rattle.std.specs.Borrow.{Bor}
use Rattle.entry.specs.Entries.{body_of, read_at, reading_used}
use Rattle.reader.specs.declared.Reader.{Reader}

-- the body of the entry at a place, as a part of the log; none where no whole entry stands there
abbrev pub body_at : List ℕ → ℕ → List ℕ
body_at log at = body_of (drop at log)

-- the place behind the entry: its whole length further, or here where no whole entry stands
abbrev pub next_at : List ℕ → ℕ → ℕ
next_at log at = at + reading_used (read_at log at)

-- a log and a place in it
abbrev pub placed : Bor (List ℕ) → ℕ → Reader
placed log at = record { log = log; at = at }
