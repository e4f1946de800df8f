use Rattle.std.proofs.Common.{◌≡◌, ◌+◌, ◌^◌, ◌≤◌, ◌<◌, drop, length}
use Rattle.text.specs.Text.{digits_before, decimal}
use Rattle.text.proofs.spell.Given as goal

abbrev pub invariant-loop-i : goal.invariant-loop-i
invariant-loop-i l = record {
  whole : length l.d ≡ 20;
  left : 1 ≤ l.i + l.rest;
  few : l.rest < 10 ^ l.i;
  text : digits_before l.i l.rest (drop l.i l.d) ≡ decimal l.n;
}
