-- Checks 5 and 6: what an entry finds in a slot that it wants free, or a record in.
use Rattle.std.specs.Prelude.{ℕ, ◌≡◌, ◌⊎◌}
use Rattle.verdict.specs.declared.Refusal.{Refusal}
use Rattle.verdict.specs.declared.Refusal.TheVariants.{NotWell, SlotEmpty, SlotTaken}
use Rattle.key.specs.declared.Key.{Key}
use Rattle.value.specs.declared.Value.{Value}
use Rattle.slot.specs.declared.Slot.{Slot}
use Rattle.slot.specs.declared.Slot.TheVariants.{Free, Full, Bad}

-- why a slot has no record
abbrev pub IsNoRecord : Slot → Refusal → Type 0
IsNoRecord s e = ((s ≡ Free) × (e ≡ SlotEmpty)) ⊎ ((s ≡ Bad) × (e ≡ NotWell))

-- why a slot is not free
abbrev pub IsNotFree : Slot → Refusal → Type 0
IsNotFree s e = ((o : ℕ) × (k : Key) × (x : Value) × (s ≡ Full o k x) × (e ≡ SlotTaken)) ⊎ ((s ≡ Bad) × (e ≡ NotWell))
