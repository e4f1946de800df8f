-- Refinement of a whole history: the inputs, stepped one after the other, are a run of the lane that says, puts, counts and shows the same. A
-- refused input is no step of it.
use mathlib.Core.Path.{◌≡◌, refl, sym, ◌∙◌, ap, subst}
use mathlib.Core.Logic.{◌⊎◌, inl, inr}
use mathlib.Core.Bool.{true, false}
use mathlib.Core.Option.{Option, none, some}
use mathlib.Core.List.{List, [], ◌∷◌, ◌++◌, Memᴰ}
use Prim.Native.Nat.{ℕ, ◌≤◌}
use native.Mathlib.Omega.{arith}
use lib.Dec.{eqb}
use Rattle.words.specs.Choice.{pick}
use Rattle.words.specs.Numbers.{Bytes}
use Rattle.words.proofs.Laws.{both_true}
use Rattle.verdict.specs.Verdicts.{accepted}
use Rattle.cmac.specs.declared.Tag.{Tag}
use Rattle.key.specs.Keys.{is_data, well_key}
use Rattle.key.proofs.Laws.{data_well}
use Rattle.value.specs.Values.{well_value}
use Rattle.entry.specs.Entries.{read_entry, well_entry}
use Rattle.entry.specs.declared.Entry.{Entry}
use Rattle.entry.specs.declared.Entry.TheVariants.{AddTree, AddDeferred, EvictTree, EvictDeferred, EvictTreeDeferred, Get, Absent, Put, Advance, Close}
use Rattle.writer.specs.Writings.{EntryFits}
use Rattle.writer.proofs.Same.{entry_same}
use Rattle.hash.specs.Hashes.{digest_of, tag_of}
use Rattle.hash.specs.declared.SetKey.{SetKey}
use Rattle.cache.specs.Caches.{count}
use Rattle.state.specs.States.{well_state}
use Rattle.state.specs.declared.State.{State}
use Rattle.rules.specs.Outcomes.{accepts}
use Rattle.rules.specs.Steps.{Step, entry_step, step}
use Rattle.integrity.specs.Statement.{Moment, after, run, entry_in, taken, on_entry, put_by, last_put, Agrees, value_in, cache_values, stood, added_by, evicted_by, adds, evicts, AllBytes}
use Rattle.integrity.proofs.Ancestors.{Key}
use Rattle.integrity.proofs.Records.{Value, Message}
use Rattle.integrity.proofs.Moves.{Cached}
use Rattle.integrity.proofs.Lane.{Lane, lane_settled, Run, snoc, settled_mono, last_put_lem, AllSay, Stood}
use Rattle.integrity.proofs.Tallies.{tags}
use Rattle.integrity.proofs.Refines.{onward, Stands, Refined}
use Rattle.integrity.proofs.RefineAdds.{refine_add_tree, refine_add_deferred}
use Rattle.integrity.proofs.RefineEvicts.{refine_evict_by, refine_evict_deferred}
use Rattle.integrity.proofs.RefineAnswers.{refine_get, refine_absent, refine_put}
use Rattle.integrity.proofs.RefineEpochs.{refine_advance, refine_close}
use Rattle.rules.proofs.Refused.{Stepping, step_settles}
use Rattle.rules.proofs.Refused as refused
use Rattle.integrity.proofs.Messages.{AllWell, join_well, added_well, evicted_well}
use Rattle.integrity.proofs.Stood.{mem_left, mem_right, mem_split, found_stood, Sound, values_sound, entry_sound}

-- every accepted entry that was read from bytes
pub refine : (key : SetKey) (st : State) (c : List ℕ) (t : Lane) → Stands key st c t → (st' : State) (c' : List ℕ) (x : Entry) → well_entry x ≡ true → EntryFits x
    → entry_step x st c ≡ accepts st' c' → Refined key x st c st' c' t
unfolding entry_step well_entry
refine key st c t R st' c' (AddTree s p k x) w f e = let b = both_true (well_key k) (well_value x) w in refine_add_tree key st c t R st' c' s p k x b.0 b.1 f.1.1.0 f.1.1.1 e
refine key st c t R st' c' (AddDeferred s i j k x) w f e =
    let b = both_true (well_key k) (well_value x) w in refine_add_deferred key st c t R st' c' s i j k x b.0 b.1 f.1.1.1.0 f.1.1.1.1 e
refine key st c t R st' c' (EvictTree s p) w f e = refine_evict_by key st c t R st' c' false s p e
refine key st c t R st' c' (EvictDeferred s) w f e = refine_evict_deferred key st c t R st' c' s e
refine key st c t R st' c' (EvictTreeDeferred s p) w f e = refine_evict_by key st c t R st' c' true s p e
refine key st c t R st' c' (Get s k x) w f e = refine_get key st c t R st' c' s k x (both_true (is_data k) (well_value x) w).0 e
refine key st c t R st' c' (Absent p k) w f e = refine_absent key st c t R st' c' p k (data_well k w) w e
refine key st c t R st' c' (Put s k x) w f e = let b = both_true (is_data k) (well_value x) w in refine_put key st c t R st' c' s k x b.0 b.1 f.1.1 e
refine key st c t R st' c' Advance w f e = refine_advance key st c t R st' c' e
refine key st c t R st' c' Close w f e = refine_close key st c t R st' c' e

-- what stands in the cache of the first moment stood
pub first_stood : (m : Moment) (ws : List (List ℕ)) {v : Value} → Memᴰ v (cache_values (count m.cache) m.cache) → Memᴰ v (stood m ws)
first_stood m [] h = h
first_stood m (w ∷ ws) h = mem_left (cache_values (count m.cache) m.cache) _ h

-- every answer agrees with the plain map, as the puts change it
pub AgreeAll : ℕ → Moment → (Key → Value) → List (List ℕ) → Type 0
AgreeAll e m f [] = Unit
AgreeAll e m f (w ∷ ws) = (m.state.epoch.0 ≤ e → on_entry (taken m w) Unit (λ x. Agrees x f)) × AgreeAll e (after m w) (on_entry (taken m w) f (λ x. put_by x f)) ws

-- each answer at its place
pub each_agrees : (e : ℕ) (m : Moment) (f : Key → Value) (before : List (List ℕ)) (w : List ℕ) (rest : List (List ℕ)) → AgreeAll e m f (before ++ (w ∷ rest))
    → (run m before).state.epoch.0 ≤ e → on_entry (taken (run m before) w) Unit (λ x. Agrees x (last_put m before f))
unfolding AgreeAll
each_agrees e m f [] w rest a h = a.0 h
each_agrees e m f (b ∷ before) w rest a h = each_agrees e (after m b) (on_entry (taken m b) f (λ x. put_by x f)) before w rest a.1 h

module _ (key : SetKey) where
  abbrev pub Runs : Lane → Type 0
  Runs = Run digest_of is_data Tag tags (tag_of key)

  abbrev last : {t : Lane} → Runs t → Key → Value
  last r = last_put_lem digest_of is_data Tag tags (tag_of key) r

  -- the run goes on from r to an end that the state and the cache stand for; A e: all answers agree; E and D: evicts and adds; L: what stood
  pub record Replayed {t : Lane} (r : Runs t) (m : Moment) (A : ℕ → Type 0) (E D : List Message) (L : List Value) : Type 0 where
    pub end : Lane
    pub whole : Runs end
    pub stands : Stands key m.state m.cache end
    pub settles : lane_settled t ≤ lane_settled end
    pub agree : (e : ℕ) → AllSay digest_of is_data Tag tags (tag_of key) e whole → A e × AllSay digest_of is_data Tag tags (tag_of key) e r
    pub evs : end.evs ≡ E
    pub ads : end.ads ≡ D
    pub in_stood : (v : Value) → Stood digest_of is_data Tag tags (tag_of key) whole v → Stood digest_of is_data Tag tags (tag_of key) r v ⊎ Memᴰ v L
    pub sound : (v : Value) → Memᴰ v L → Sound v
    pub evs_well : AllWell t.evs → AllWell E
    pub ads_well : AllWell t.ads → AllWell D

  abbrev pub Replay : {t : Lane} → Runs t → Moment → List (List ℕ) → Type 0
  Replay {t} r m ws = Replayed r (run m ws) (λ e. AgreeAll e m (last r) ws) (evicts m ws t.evs) (adds m ws t.ads) (stood m ws)

  -- what the lane's cache holds stood
  pub held_stood : (st : State) (c : List ℕ) (t : Lane) → Stands key st c t → (v : Value) → Cached t.cache v → Memᴰ v (cache_values (count c) c)
  held_stood st c t R v x = rw (← x.3) (found_stood (count c) c x.0 x.1 (ap (λ f. f x.0) R.cache ∙ x.2))

  module _ {t : Lane} (st : State) (c : List ℕ) (R : Stands key st c t) (r : Runs t) (w : List ℕ) (ws : List (List ℕ)) where
    -- the same of one input more, by the moment after it and the entry that was accepted
    Part : Moment → Option Entry → Type 0
    Part m x =
        Replayed r (run m ws) (λ e. (st.epoch.0 ≤ e → on_entry x Unit (λ y. Agrees y (last r))) × AgreeAll e m (on_entry x (last r) (λ y. put_by y (last r))) ws)
        (evicts m ws (on_entry x [] (evicted_by (record { state = st; cache = c })) ++ t.evs)) (adds m ws (on_entry x [] added_by ++ t.ads))
        (cache_values (count c) c ++ (on_entry x [] value_in ++ stood m ws))

    -- refused
    stays : Replay r (record { state = st; cache = c }) ws → Part (record { state = st; cache = c }) none
    unfolding Part
    stays p = record {
      end = p.end;
      whole = p.whole;
      stands = p.stands;
      settles = p.settles;
      agree = λ e a. let b = p.agree e a in (((λ h. tt), b.0), b.1);
      evs = p.evs;
      ads = p.ads;
      in_stood = λ v s. elim (p.in_stood v s) [ inl u ↦ inl u | inr u ↦ inr (mem_right (cache_values (count c) c) _ u) ];
      sound = λ v h. elim (mem_split (cache_values (count c) c) _ h) [ inl g ↦ values_sound (count c) c R.bytes v g | inr g ↦ p.sound v g ];
      evs_well = p.evs_well;
      ads_well = p.ads_well;
    }

    -- accepted
    goes : well_state st ≡ true → (x : Entry) → well_entry x ≡ true → EntryFits x → (σ : State) (d : List ℕ) → (g : Refined key x st c σ d t) → Replay (snoc r g.acc) (record { state = σ; cache = d }) ws
        → Part (record { state = σ; cache = d }) (some x)
    unfolding Part
    goes ok x wx fx σ d g p = record {
      end = p.end;
      whole = p.whole;
      stands = p.stands;
      settles = let h = settled_mono digest_of is_data Tag tags (tag_of key) g.acc in let j = p.settles in omega arith;
      agree = λ e a. let b = p.agree e a in
          (((λ h. g.says _ (b.1.0 (subst (λ y. y ≤ e) R.tallies.epochs h))), subst (λ f. AgreeAll e (record { state = σ; cache = d }) f ws) (g.putting _) b.0), b.1.1);
      evs = p.evs ∙ ap (evicts (record { state = σ; cache = d }) ws) g.evicting;
      ads = p.ads ∙ ap (adds (record { state = σ; cache = d }) ws) g.adding;
      in_stood = λ v s. elim (p.in_stood v s) [
        | inl u ↦ elim u [
          | inl y ↦ inl y
          | inr y ↦ inr (mem_right (cache_values (count c) c) _ (elim y [
            | inl i ↦ mem_left (value_in x) _ (g.entry v i)
            | inr k ↦ mem_right (value_in x) _ (first_stood (record { state = σ; cache = d }) ws (held_stood σ d (onward key g.acc) g.stands v k))
          ]))
        ]
        | inr u ↦ inr (mem_right (cache_values (count c) c) _ (mem_right (value_in x) _ u))
      ];
      sound = λ v h. elim (mem_split (cache_values (count c) c) _ h) [
        | inl q ↦ values_sound (count c) c R.bytes v q
        | inr q ↦ elim (mem_split (value_in x) _ q) [ inl i ↦ entry_sound x wx fx v i | inr i ↦ p.sound v i ]
      ];
      evs_well = λ a. rw (← g.evicting) (p.evs_well (rw g.evicting (join_well (evicted_by (record { state = st; cache = c }) x) t.evs (evicted_well st c R.bytes ok x) a)));
      ads_well = λ a. rw (← g.adding) (p.ads_well (rw g.adding (join_well (added_by x) t.ads (added_well x wx fx) a)));
    }

    abbrev now : Moment
    now = record { state = st; cache = c }

    carry : (m : Moment) (x : Option Entry) → after now w ≡ m → taken now w ≡ x → Part m x → Part (after now w) (taken now w)
    carry m x p q h = subst (λ y. Part y (taken now w)) (sym p) (subst (Part m) (sym q) h)

    opened : Part (after now w) (taken now w) → Replay r now (w ∷ ws)
    unfolding Part AgreeAll
    opened h = h

    -- one input more, accepted or refused
    one_more : Bytes w → Stepping st c w (step w st c) → Replay r now ws
        → ((x : Entry) (σ : State) (d : List ℕ) (g : Refined key x st c σ d t) → Replay (snoc r g.acc) (record { state = σ; cache = d }) ws) → Replay r now (w ∷ ws)
    one_more b (refused.kept n m z q) p f =
        opened (carry now none (ap (λ (o : Step). record { state = o.result.state; cache = o.bytes }) q)
        (ap (λ (o : Step). pick (eqb o.result.verdict accepted) (entry_in (read_entry w)) none) q ∙ ap (λ y. pick y (entry_in (read_entry w)) none) z) (stays p))
    one_more b (refused.took ok x n σ d g h q) p f =
        let y = entry_same w b x n g in
        let i = refine key st c t R σ d x y.well y.fits h in
        opened (carry (record { state = σ; cache = d }) (some x) (ap (λ (o : Step). record { state = o.result.state; cache = o.bytes }) q)
        (ap (λ (o : Step). pick (eqb o.result.verdict accepted) (entry_in (read_entry w)) none) q ∙ ap entry_in g) (goes ok x y.well y.fits σ d i (f x σ d i)))

  pub replay : {t : Lane} (ws : List (List ℕ)) → AllBytes ws → (st : State) (c : List ℕ) → Stands key st c t → (r : Runs t) → Replay r (record { state = st; cache = c }) ws
  unfolding AgreeAll
  replay {t = t} [] b st c R r = record {
    end = t;
    whole = r;
    stands = R;
    settles = omega arith;
    agree = λ e a. (tt, a);
    evs = refl;
    ads = refl;
    in_stood = λ v s. inl s;
    sound = λ v h. values_sound (count c) c R.bytes v h;
    evs_well = λ a. a;
    ads_well = λ a. a;
  }
  replay {t = t} (w ∷ ws) b st c R r =
      one_more st c R r w ws b.0 (step_settles st c w) (replay {t = t} ws b.1 st c R r)
      (λ x σ d g. replay {t = onward key g.acc} ws b.1 σ d g.stands (snoc r g.acc))
