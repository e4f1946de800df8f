-- Where no entry is read, its number and the bytes used are told, and the fields stay as they were.
use Rattle.std.specs.Prelude.{ℕ, ◌≡◌, List, Err}
use Rattle.std.proofs.Common.{refl}
use Rattle.entry.specs.Entries.{reading_used, reading_verdict}
use Rattle.entry.specs.declared.Unread.{Unread}
use Rattle.entry.specs.declared.Unread.TheVariants as unread
use Rattle.thiraduan.specs.Answers.{flat_read_by}

pub flat_unread : (n k x : List ℕ) (u : Unread)
    → flat_read_by n k x (Err u) ≡ record { verdict = reading_verdict (Err u); used = reading_used (Err u); numbers = n; key = k; value = x }
flat_unread n k x unread.Short = refl
flat_unread n k x (unread.Malformed m) = refl
