-- Refinement, part of the state: tags under xor are a group as part 1 wants it, and the counts and sums that the state keeps are those of the
-- messages.
use Rattle.std.specs.Prelude.{Option, Some, None}
use mathlib.Core.Path.{◌≡◌, refl, ◌∙◌, ap, subst}
use mathlib.Core.Logic.{◌≢◌}
use mathlib.Core.Bool.{Bool, true, false}
use mathlib.Core.List.{List, [], ◌∷◌}
use Prim.Native.Nat.{ℕ, suc, ◌<◌}
use native.Mathlib.Numerals.{add-one}
use native.Mathlib.Omega.{arith}
use lib.ListN.{length}
use Rattle.cmac.specs.Tags.{no_tag, tag_xor}
use Rattle.cmac.specs.declared.Tag.{Tag}
use Rattle.cmac.proofs.Tags.{tag_assoc, tag_comm, tag_zero, tag_self}
use Rattle.message.specs.declared.Message.{Message}
use Rattle.hash.specs.Hashes.{tag_of}
use Rattle.hash.specs.declared.SetKey.{SetKey}
use Rattle.state.specs.States.{tally_add, tally_evict, added_current, added_old, evicted_state, advanced_state, closed_state}
use Rattle.state.specs.declared.Tally.{Tally}
use Rattle.state.specs.declared.State.{State}
use Rattle.integrity.specs.Statement.{of_epoch, xor_tags}
use Rattle.integrity.proofs.Counting.{Xor, sum}
use Rattle.integrity.proofs.History.{of_other, of_hit}

unfoldable pub tags : Xor Tag
tags = record { nil = no_tag; ◌⊕◌ = tag_xor; assoc = tag_assoc; comm = tag_comm; unit = tag_zero; self = tag_self }

module _ (set : SetKey) where
  abbrev pub tag_sum : List Message → Tag
  tag_sum = sum Message Tag tags (tag_of set)

  pub sum_is : (l : List Message) → tag_sum l ≡ xor_tags set l
  unfolding sum tags xor_tags
  sum_is [] = refl
  sum_is (m ∷ l) = ap (λ g. tag_xor g (tag_of set m)) (sum_is l)

  -- a tally is that of an epoch's messages
  pub record Tallied (T : Tally) (i : ℕ) (evs ads : List Message) : Type 0 where
    pub adds : T.adds ≡ length (of_epoch i ads)
    pub evicts : T.evicts ≡ length (of_epoch i evs)
    pub addsum : T.addsum ≡ tag_sum (of_epoch i ads)
    pub evictsum : T.evictsum ≡ tag_sum (of_epoch i evs)

  pub data OldIs (o : Option Tally) (isopen : Bool) (epoch : ℕ) (evs ads : List Message) : Type 0 where
    no_old : o ≡ None → isopen ≡ false → OldIs o isopen epoch evs ads
    is_old : (T : Tally) (e : ℕ) → o ≡ Some T → isopen ≡ true → suc e ≡ epoch → Tallied T e evs ads → OldIs o isopen epoch evs ads

  -- a state is that of a clock, an epoch, whether an old one is open, and the messages; no message is of an epoch yet to come
  pub record Tallies (st : State) (clock epoch : ℕ) (isopen : Bool) (evs ads : List Message) : Type 0 where
    pub clocks : st.clock.0 ≡ clock
    pub epochs : st.epoch.0 ≡ epoch
    pub now : Tallied st.tally epoch evs ads
    pub olds : OldIs st.old isopen epoch evs ads
    pub none_ahead : (e : ℕ) → epoch < e → (of_epoch e ads ≡ []) × (of_epoch e evs ≡ [])

  -- ---- one message more

  evict_other : (T : Tally) (e : ℕ) (evs ads : List Message) (m : Message) → m.epoch.0 ≢ e → Tallied T e evs ads → Tallied T e (m ∷ evs) ads
  evict_other T e evs ads m n t =
      record { adds = t.adds; evicts = rw (of_other e m evs n) t.evicts; addsum = t.addsum; evictsum = rw (of_other e m evs n) t.evictsum }

  evict_here : (T : Tally) (e : ℕ) (evs ads : List Message) (m : Message) → m.epoch.0 ≡ e → Tallied T e evs ads → Tallied (tally_evict T (tag_of set m)) e (m ∷ evs) ads
  unfolding sum tags
  evict_here T e evs ads m n t =
      record {
        adds = t.adds;
        evicts = rw (of_hit e m evs n, add-one) (ap suc t.evicts);
        addsum = t.addsum;
        evictsum = rw (of_hit e m evs n) (ap (λ g. tag_xor g (tag_of set m)) t.evictsum);
      }

  add_other : (T : Tally) (e : ℕ) (evs ads : List Message) (m : Message) → m.epoch.0 ≢ e → Tallied T e evs ads → Tallied T e evs (m ∷ ads)
  add_other T e evs ads m n t =
      record { adds = rw (of_other e m ads n) t.adds; evicts = t.evicts; addsum = rw (of_other e m ads n) t.addsum; evictsum = t.evictsum }

  add_here : (T : Tally) (e : ℕ) (evs ads : List Message) (m : Message) → m.epoch.0 ≡ e → Tallied T e evs ads → Tallied (tally_add T (tag_of set m)) e evs (m ∷ ads)
  unfolding sum tags
  add_here T e evs ads m n t =
      record {
        adds = rw (of_hit e m ads n, add-one) (ap suc t.adds);
        evicts = t.evicts;
        addsum = rw (of_hit e m ads n) (ap (λ g. tag_xor g (tag_of set m)) t.addsum);
        evictsum = t.evictsum;
      }

  -- ---- each change of the state

  module _ {st : State} {clock epoch : ℕ} {isopen : Bool} {evs ads : List Message} (S : Tallies st clock epoch isopen evs ads) where
    pub tallies_evict : (m : Message) → m.epoch.0 ≡ epoch → Tallies (evicted_state st (tag_of set m)) (suc clock) epoch isopen (m ∷ evs) ads
    unfolding evicted_state
    tallies_evict m q = record {
      clocks = add-one st.clock.0 ∙ ap suc S.clocks;
      epochs = S.epochs;
      now = evict_here st.tally epoch evs ads m q S.now;
      olds = elim S.olds [ no_old a b ↦ no_old a b | is_old T e a b c d ↦ is_old T e a b c (evict_other T e evs ads m (omega arith) d) ];
      none_ahead = λ e h. ((S.none_ahead e h).0, of_other e m evs (omega arith) ∙ (S.none_ahead e h).1);
    }

    pub tallies_close : Tallies (closed_state st) clock epoch false evs ads
    unfolding closed_state
    tallies_close = record { clocks = S.clocks; epochs = S.epochs; now = S.now; olds = no_old refl refl; none_ahead = S.none_ahead }

    pub tallies_advance : Tallies (advanced_state st) clock (suc epoch) true evs ads
    unfolding sum advanced_state tags
    tallies_advance = record {
      clocks = S.clocks;
      epochs = add-one st.epoch.0 ∙ ap suc S.epochs;
      now = let b = S.none_ahead (suc epoch) (omega arith) in record { adds = rw b.0 refl; evicts = rw b.1 refl; addsum = rw b.0 refl; evictsum = rw b.1 refl };
      olds = is_old st.tally epoch refl refl refl S.now;
      none_ahead = λ e h. S.none_ahead e (omega arith);
    }

    pub tallies_add_current : (m : Message) → m.epoch.0 ≡ epoch → Tallies (added_current st (tag_of set m)) clock epoch isopen evs (m ∷ ads)
    unfolding added_current
    tallies_add_current m q = record {
      clocks = S.clocks;
      epochs = S.epochs;
      now = add_here st.tally epoch evs ads m q S.now;
      olds = elim S.olds [ no_old a b ↦ no_old a b | is_old T e a b c d ↦ is_old T e a b c (add_other T e evs ads m (omega arith) d) ];
      none_ahead = λ e h. (of_other e m ads (omega arith) ∙ (S.none_ahead e h).0, (S.none_ahead e h).1);
    }

    pub tallies_add_old : (m : Message) (T : Tally) → st.old ≡ Some T → suc m.epoch.0 ≡ epoch → Tallies (added_old st T (tag_of set m)) clock epoch isopen evs (m ∷ ads)
    unfolding added_old
    tallies_add_old m T q h = record {
      clocks = S.clocks;
      epochs = S.epochs;
      now = add_other st.tally epoch evs ads m (omega arith) S.now;
      olds = elim S.olds [
        | no_old a b ↦ absurd (let z : ◌≡◌ {A = ℕ} 0 1 = cc in omega arith)
        | is_old U e a b c d ↦ let same : U ≡ T = cc in is_old _ e refl b c (subst (λ y. Tallied (tally_add y (tag_of set m)) e evs (m ∷ ads)) same (add_here U e evs ads m (omega arith) d))
      ];
      none_ahead = λ e g. (of_other e m ads (omega arith) ∙ (S.none_ahead e g).0, (S.none_ahead e g).1);
    }
