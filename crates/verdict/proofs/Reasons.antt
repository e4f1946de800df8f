-- A number tells of one refusal alone: two outcomes that are told alike refuse alike, or accept.
use Rattle.std.specs.Prelude.{ℕ, ◌≡◌, List, [], ◌∷◌, Option, Some, None, Result, Ok, Err, get_or}
use Rattle.std.proofs.Common.{refl, sym, ap, ◌∙◌}
use Rattle.verdict.specs.Verdicts.{accepted, number, told}
use Rattle.verdict.specs.declared.Refusal.{Refusal}
use Rattle.verdict.specs.declared.Refusal.TheVariants.{NotWell, Malformed, Short, NoSlot, SlotTaken, SlotEmpty, KeyHeld, WrongKind, OtherKey, NoAncestor, NoLink, OtherBranch, MarkedDeferred, DigestDiffers, NotFirst, WrongOrigin, RootSlot, EpochNotOpen, TimeOutOfRange, CountFull, EpochFull, WrongMoment, CountsDiffer, SumsDiffer, ValueDiffers, AbsenceNotShown, NoRoom, WrongCache, BadTerm, TooLong}

-- the reasons in the order of their numbers, none first
abbrev pub reasons : List (Option Refusal)
reasons =
    None ∷ Some NotWell ∷ Some Malformed ∷ Some Short ∷ Some NoSlot ∷ Some SlotTaken ∷ Some SlotEmpty ∷ Some KeyHeld ∷ Some WrongKind ∷ Some OtherKey ∷ Some NoAncestor ∷ Some NoLink ∷ Some OtherBranch ∷ Some MarkedDeferred ∷ Some DigestDiffers ∷ Some NotFirst ∷ Some WrongOrigin ∷ Some RootSlot ∷ Some EpochNotOpen ∷ Some TimeOutOfRange ∷ Some CountFull ∷ Some EpochFull ∷ Some WrongMoment ∷ Some CountsDiffer ∷ Some SumsDiffer ∷ Some ValueDiffers ∷ Some AbsenceNotShown ∷ Some NoRoom ∷ Some WrongCache ∷ Some BadTerm ∷ Some TooLong ∷ []

abbrev pub reason : {T : Type 0} → Result T Refusal → Option Refusal
reason (Ok x) = None
reason (Err r) = Some r

-- the reason is read back from the number
pub reason_back : {T : Type 0} (x : Result T Refusal) → get_or reasons (told x) None ≡ reason x
reason_back (Ok x) = refl
reason_back (Err NotWell) = refl
reason_back (Err Malformed) = refl
reason_back (Err Short) = refl
reason_back (Err NoSlot) = refl
reason_back (Err SlotTaken) = refl
reason_back (Err SlotEmpty) = refl
reason_back (Err KeyHeld) = refl
reason_back (Err WrongKind) = refl
reason_back (Err OtherKey) = refl
reason_back (Err NoAncestor) = refl
reason_back (Err NoLink) = refl
reason_back (Err OtherBranch) = refl
reason_back (Err MarkedDeferred) = refl
reason_back (Err DigestDiffers) = refl
reason_back (Err NotFirst) = refl
reason_back (Err WrongOrigin) = refl
reason_back (Err RootSlot) = refl
reason_back (Err EpochNotOpen) = refl
reason_back (Err TimeOutOfRange) = refl
reason_back (Err CountFull) = refl
reason_back (Err EpochFull) = refl
reason_back (Err WrongMoment) = refl
reason_back (Err CountsDiffer) = refl
reason_back (Err SumsDiffer) = refl
reason_back (Err ValueDiffers) = refl
reason_back (Err AbsenceNotShown) = refl
reason_back (Err NoRoom) = refl
reason_back (Err WrongCache) = refl
reason_back (Err BadTerm) = refl
reason_back (Err TooLong) = refl

-- A view of outcomes that tells their number, and is one to one on what is accepted, is one to one: a contract `view result ≡ ..` determines the result.
pub view_back : {T A : Type 0} (view : Result T Refusal → A) (verdict : A → ℕ) → ((t : T) → verdict (view (Ok t)) ≡ accepted) → ((r : Refusal) → verdict (view (Err r)) ≡ number r) → ((s t : T) → view (Ok s) ≡ view (Ok t) → s ≡ t) → (x y : Result T Refusal) → view x ≡ view y → x ≡ y
view_back {T} view verdict accepts refuses same x y e = go x y e (sym (reason_back x) ∙ ap (λ (n : ℕ). get_or reasons n None) (sym (tells x) ∙ ap verdict e ∙ tells y) ∙ reason_back y)
  where
    tells : (z : Result T Refusal) → verdict (view z) ≡ told z
    tells (Ok t) = accepts t
    tells (Err r) = refuses r

    go : (x y : Result T Refusal) → view x ≡ view y → reason x ≡ reason y → x ≡ y
    go (Ok s) (Ok t) e p = ap Ok (same s t e)
    go (Ok s) (Err r) e p = cc
    go (Err r) (Ok t) e p = cc
    go (Err r) (Err q) e p = cc

-- as where the number is all that is told, of a call that answers no more than that
pub told_back : {T : Type 0} → ((s t : T) → s ≡ t) → (x y : Result T Refusal) → told x ≡ told y → x ≡ y
told_back one = view_back told (λ (n : ℕ). n) (λ t. refl) (λ r. refl) (λ s t e. one s t)
