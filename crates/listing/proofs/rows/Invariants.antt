use Rattle.listing.proofs.Laws.{Left}
use Rattle.listing.specs.Rooms.{row_limit}
use Rattle.listing.specs.Listings.{rows_from}
use Rattle.run.proofs.Laws.{Going}
use Rattle.words.specs.Splices.{splice}
use Rattle.words.specs.Numbers.{Bytes}
use mathlib.Core.Path.{◌≡◌}
use lib.ListN.{length}
use Prim.Native.Nat.{◌+◌, ◌*◌, ◌-◌, ◌≤◌}
use Rattle.listing.proofs.rows.Given as goal

abbrev pub invariant-loop-place : goal.invariant-loop-place
invariant-loop-place l = record {
  within : l.place ≤ length l.log;
  few : l.n * 3 ≤ l.place;
  cache_size : length l.cache ≡ length l.initial.cache;
  out_size : length l.out ≡ length l.initial.out;
  room : l.end ≤ l.at + l.n * row_limit;
  going : Going l.initial.keyed.state.set l.keyed.state l.cache;
  bytes : Bytes l.cache;
  left : Left l.log (splice l.initial.out l.at (rows_from (length l.log) l.log 0 0 l.initial.keyed.state l.initial.cache)) (l.at + length (rows_from (length l.log) l.log 0 0 l.initial.keyed.state l.initial.cache)) l.place l.n l.keyed.state l.cache l.end l.out;
}

abbrev pub decreases-loop-place : goal.decreases-loop-place
decreases-loop-place l = length l.log - l.place
