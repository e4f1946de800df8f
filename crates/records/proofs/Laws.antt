-- What is found in a slot leaves no choice: two results that meet one contract are equal. Assumes nothing.
use Rattle.std.specs.Prelude.{◌≡◌, Result, Ok, Err, MatchResult}
use native.Mathlib.Omega.{arith}
use Rattle.verdict.specs.declared.Refusal.{Refusal}
use Rattle.slot.specs.declared.Slot.{Slot}
use Rattle.slot.specs.declared.Slot.TheVariants.{Free, Full}
use Rattle.records.specs.declared.Record.{Record}
use Rattle.records.specs.Records.{IsNoRecord, IsNotFree}

pub record_one : (s : Slot) (x y : Result Record Refusal) → MatchResult x (λ r. s ≡ Full r.origin r.key r.value) (λ e. IsNoRecord s e) → MatchResult y (λ r. s ≡ Full r.origin r.key r.value) (λ e. IsNoRecord s e) → x ≡ y
record_one s (Ok a) (Ok b) p q = grind arith
record_one s (Ok a) (Err f) p q = grind arith
record_one s (Err e) (Ok b) p q = grind arith
record_one s (Err e) (Err f) p q = grind arith

pub free_one : (s : Slot) (x y : Result (Unit {0}) Refusal) → MatchResult x (λ u. s ≡ Free) (λ e. IsNotFree s e) → MatchResult y (λ u. s ≡ Free) (λ e. IsNotFree s e) → x ≡ y
free_one s (Ok a) (Ok b) p q = grind arith
free_one s (Ok a) (Err f) p q = grind arith
free_one s (Err e) (Ok b) p q = grind arith
free_one s (Err e) (Err f) p q = grind arith
