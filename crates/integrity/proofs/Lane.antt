-- Part 2 of demand 3, order: one lane, that is one cache with its clock and epochs. The steps that it accepts are the moves of part 3 with the checks
-- on epochs and times (18, 19, 22 to 24); of a run of them, deferred adds of settled epochs are outstanding when added, so that part 3 applies.
use mathlib.Core.Path.{◌≡◌, refl, sym, ◌∙◌, ap}
use mathlib.Core.Logic.{◌⊎◌, inl, inr, ◌≢◌}
use mathlib.Core.Bool.{Bool, true, false, true≢false}
use mathlib.Core.Option.{Option}
use mathlib.Core.List.Memᴰ
use mathlib.Core.List.{List, [], ◌∷◌, ◌++◌, Memᴰ}
use Prim.Native.Nat.{ℕ, suc, ◌-◌, ◌≤◌}
use native.Mathlib.Decide.{dec_le}
use native.Mathlib.Omega.{arith}
use lib.ListN.{length}
use Rattle.key.specs.Keys.{root_key}
use Rattle.integrity.specs.Same.{message_dec}
use Rattle.integrity.specs.Statement.{of_epoch}
use Rattle.integrity.proofs.Ancestors.{Key}
use Rattle.integrity.proofs.Counting.{Xor, count_yes}
use Rattle.integrity.proofs.Records.{Digest, Value, vnone, Cell, Message}
use Rattle.integrity.proofs.Moves as tree
use Rattle.integrity.proofs.Moves.{Move, moved, adds_by, evicts_by, opened_cache_lem, Cached, Collision, Full, tree_says, tree_step, tree_start}
use Rattle.integrity.proofs.Moves.{adds_same, adds_empty, adds_split, adds_deferred, evicts_tree, evicts_deferred, evicts_tree_deferred, get, absent, put}
use Rattle.integrity.proofs.History.{times, mem_count, count_mem, count_cons_le, total, Hist, Cancels, hist_start, hist_evict, hist_add, hist_advance, hist_close, settle}

-- a lane's state, and the messages that it evicted and added, the last first
pub record Lane : Type 0 where
  pub cache : Key → Option Cell
  pub clock : ℕ
  pub epoch : ℕ
  pub old : Bool
  pub evs : List Message
  pub ads : List Message

-- 18: the epoch is current, or the open old one
pub data EpochOpen (t : Lane) (e : ℕ) : Type 0 where
  current : e ≡ t.epoch → EpochOpen t e
  older : t.old ≡ true → suc e ≡ t.epoch → EpochOpen t e

-- the messages that a move adds and evicts come at their time: none; an add of an open epoch, not after the clock (19); an evict of the
-- current epoch, at the clock's next time
pub data Timely (t : Lane) : List Message → List Message → Type 0 where
  quiet : Timely t [] []
  adding : (m : Message) → EpochOpen t m.epoch.0 → m.time.0 ≤ t.clock → Timely t (m ∷ []) []
  evicting : (m : Message) → m.epoch.0 ≡ t.epoch → m.time.0 ≡ suc t.clock → Timely t [] (m ∷ [])

-- the last epoch settled: current less 1, or less 2 with an old epoch open
abbrev pub settled_by_lem : ℕ → Bool → ℕ
settled_by_lem e false = e - 1
settled_by_lem e true = e - 2

abbrev pub lane_settled : Lane → ℕ
lane_settled t = settled_by_lem t.epoch t.old

-- a lane that was once as t, and is now as u: its adds are still there, and what was evicted by a time of t was evicted then
record Later (t u : Lane) : Type 0 where
  adds : (m : Message) → times m t.ads ≤ times m u.ads
  evicts : (m : Message) → Memᴰ m u.evs → m.time.0 ≤ t.clock → Memᴰ m t.evs

later_refl : (t : Lane) → Later t t
later_refl t = record { adds = λ m. omega arith; evicts = λ m h i. h }

-- the clock rises by one with each message evicted
abbrev pub ticks : List Message → ℕ → ℕ
ticks [] n = n
ticks (m ∷ l) n = suc (ticks l n)

-- the lane after a move with the messages A added and E evicted
abbrev pub went : Lane → (Key → Option Cell) → List Message → List Message → Lane
went t c A E = record { cache = c; clock = ticks E t.clock; epoch = t.epoch; old = t.old; evs = E ++ t.evs; ads = A ++ t.ads }

module _ (H : Value → Digest) (is_data : Key → Bool) (G : Type 0) (X : Xor G) (τ : Message → G) where
  abbrev pub Moves : (Key → Option Cell) → Type 0
  Moves = Move H is_data

  -- a step that the lane accepts
  pub data Accepts (t : Lane) : Type 0 where
    move : (a : Moves t.cache) → Timely t (adds_by H is_data a) (evicts_by H is_data a) → Accepts t
    advance : t.old ≡ false → Accepts t
    close : (e : ℕ) → t.old ≡ true → suc e ≡ t.epoch → length (of_epoch e t.ads) ≡ length (of_epoch e t.evs)
        → total G X τ (of_epoch e t.ads) ≡ total G X τ (of_epoch e t.evs) → Accepts t

  abbrev pub next : {t : Lane} → Accepts t → Lane
  next {t} (move a q) = went t (moved H is_data a) (adds_by H is_data a) (evicts_by H is_data a)
  next {t} (advance o) = record { cache = t.cache; clock = t.clock; epoch = suc t.epoch; old = true; evs = t.evs; ads = t.ads }
  next {t} (close e o q l s) = record { cache = t.cache; clock = t.clock; epoch = t.epoch; old = false; evs = t.evs; ads = t.ads }

  abbrev pub opened_lane : Lane
  opened_lane = record { cache = opened_cache_lem; clock = 0; epoch = 1; old = false; evs = []; ads = [] }

  pub data Run : Lane → Type 0 where
    start : Run opened_lane
    snoc : {t : Lane} → Run t → (a : Accepts t) → Run (next a)

  -- ---- what a step says, puts and shows, as its move does

  abbrev pub puts : {t : Lane} → Accepts t → (Key → Value) → Key → Value
  puts (move a q) f = tree.puts H is_data a f
  puts (advance o) f = f
  puts (close e o q l s) f = f

  abbrev pub Says : {t : Lane} → Accepts t → (Key → Value) → Type 0
  Says (move a q) f = tree.Says H is_data a f
  Says (advance o) f = Unit
  Says (close e o q l s) f = Unit

  abbrev pub InEntry : {t : Lane} → Accepts t → Value → Type 0
  InEntry (move a q) v = tree.InEntry H is_data a v
  InEntry (advance o) v = ⊥
  InEntry (close e o q l s) v = ⊥

  abbrev pub last_put_lem : {t : Lane} → Run t → Key → Value
  last_put_lem start = λ k. vnone
  last_put_lem (snoc r a) = puts a (last_put_lem r)

  abbrev pub AllSay : {t : Lane} → ℕ → Run t → Type 0
  AllSay e start = Unit
  AllSay e (snoc {t = t} r a) = (t.epoch ≤ e → Says a (last_put_lem r)) × AllSay e r

  abbrev pub Stood : {t : Lane} → Run t → Value → Type 0
  Stood start = Cached opened_cache_lem
  Stood (snoc r a) = λ v. Stood r v ⊎ (InEntry a v ⊎ Cached (next a).cache v)

  -- ---- bookkeeping

  abbrev HistOf : Lane → Type 0
  HistOf t = Hist G X τ t.clock t.epoch t.old t.evs t.ads

  open_not_settled : (t : Lane) (i : ℕ) → EpochOpen t i → (e : ℕ) → suc e ≤ t.epoch → (t.old ≡ true → suc (suc e) ≤ t.epoch) → i ≢ e
  open_not_settled t i (current q) e a b r = omega arith
  open_not_settled t i (older o q) e a b r = let z = b o in omega arith

  hist_move : {t : Lane} (c : Key → Option Cell) {A E : List Message} → HistOf t → Timely t A E → HistOf (went t c A E)
  hist_move c h quiet = h
  hist_move {t} c h (adding m o q) = hist_add G X τ _ _ _ _ _ h m (open_not_settled t m.epoch.0 o)
  hist_move c h (evicting m e q) = hist_evict G X τ _ _ _ _ _ h m q e

  hist : {t : Lane} → Run t → HistOf t
  hist start = hist_start G X τ
  hist (snoc {t = t} r (move a q)) = hist_move {t = t} (moved H is_data a) (hist r) q
  hist (snoc r (advance o)) = hist_advance G X τ _ _ _ _ _ (hist r) o
  hist (snoc r (close e o q l s)) = hist_close G X τ _ _ _ _ _ (hist r) e q l s

  -- ---- order

  later_move : {t u : Lane} (c : Key → Option Cell) {A E : List Message} → Timely t A E → Later (went t c A E) u → Later t u
  later_move c quiet l = record { adds = l.adds; evicts = l.evicts }
  later_move {t} c (adding m o q) l = record { adds = λ n. omega (arith, l.adds n, count_cons_le n m t.ads); evicts = l.evicts }
  later_move {t} c (evicting m e q) l = record {
    adds = l.adds;
    evicts = λ n h i. elim (Memᴰ.cases_cons (l.evicts n h (omega arith))) [ inl e ↦ absurd (omega (arith, ap (λ (y : Message). y.time.0) e)) | inr g ↦ g ];
  }

  later_back : {t : Lane} (a : Accepts t) (u : Lane) → Later (next a) u → Later t u
  later_back {t} (move a q) u l = later_move {t = t} {u = u} (moved H is_data a) q l
  later_back (advance o) u l = record { adds = l.adds; evicts = l.evicts }
  later_back (close e o q n s) u l = record { adds = l.adds; evicts = l.evicts }

  epoch_mono : {t : Lane} (a : Accepts t) → t.epoch ≤ (next a).epoch
  epoch_mono (move a q) = omega arith
  epoch_mono (advance o) = omega arith
  epoch_mono (close e o q l s) = omega arith

  open_le : (t : Lane) (i : ℕ) → EpochOpen t i → i ≤ t.epoch
  open_le t i (current q) = omega arith
  open_le t i (older o q) = omega arith

  module _ (root_node : is_data root_key ≡ false) (u : Lane) (e : ℕ) (same : (m : Message) → m.epoch.0 ≤ e → times m u.ads ≡ times m u.evs) (once : (m : Message) → times m u.evs ≤ 1) where
    -- a deferred add whose epoch is settled: its message was evicted before, and is added this once
    outstanding : (t : Lane) (c : Key → Option Cell) (m : Message) → EpochOpen t m.epoch.0 → m.time.0 ≤ t.clock → Later (went t c (m ∷ []) []) u → t.epoch ≤ e
        → Memᴰ m t.evs × (¬ Memᴰ m t.ads)
    outstanding t c m o q l h =
        let f = same m (omega (arith, open_le t m.epoch.0 o)) in
        let g = l.adds m in
        let n = count_yes Message message_dec m m t.ads refl in
        let z = once m in
        (l.evicts m (mem_count m u.evs (omega arith)) q, (λ i. let y = count_mem i in omega arith))

    honest : {t : Lane} (a : Moves t.cache) → Timely t (adds_by H is_data a) (evicts_by H is_data a)
        → Later (went t (moved H is_data a) (adds_by H is_data a) (evicts_by H is_data a)) u → t.epoch ≤ e → tree.Honest H is_data a t.evs t.ads
    honest (adds_same p k s x d w _ _ _ _ _) q l h = tt
    honest (adds_empty p k s x _ _ _ _ _) q l h = tt
    honest (adds_split p k o s u x d b _ _ _ _ _ _) q l h = tt
    honest {t} (adds_deferred m c) (adding n o q) l h = outstanding t _ m o q l h
    honest (evicts_tree p k s x y d b _ _ _) q l h = tt
    honest (evicts_deferred m y _ _ _) q l h = tt
    honest (evicts_tree_deferred p s x y d b m _ _ _ _) q l h = tt
    honest (get k y _ _) q l h = tt
    honest (absent p k s x _ _ _ _) q l h = tt
    honest (put k y w _ _ _) q l h = tt

    abbrev Whole : {t : Lane} → Run t → Type 0
    Whole {t} r = Full H is_data t.cache t.evs t.ads (Stood r) (last_put_lem r)

    abbrev Found : {t : Lane} → Run t → Type 0
    Found r = Collision H is_data (Stood r)

    -- the invariant goes on through a step
    on_step : {t : Lane} (r : Run t) (a : Accepts t) → Later (next a) u → t.epoch ≤ e → Whole r → Found (snoc r a) ⊎ Whole (snoc r a)
    on_step r (move a q) l h F = tree_step H is_data F a (honest a q l h)
    on_step r (advance o) l h F = inr (record { val = F.val; live = F.live; inv = F.inv; stood = λ j i. inl (F.stood j i); agrees = F.agrees })
    on_step r (close i o q n s) l h F = inr (record { val = F.val; live = F.live; inv = F.inv; stood = λ j i. inl (F.stood j i); agrees = F.agrees })

    says : {t : Lane} (r : Run t) (a : Accepts t) → Whole r → Says a (last_put_lem r)
    says r (move a q) F = tree_says H is_data F a
    says r (advance o) F = tt
    says r (close i o q n s) F = tt

    grow : {t : Lane} (r : Run t) (a : Accepts t) → Found r → Found (snoc r a)
    grow r a c = record { one = c.one; two = c.two; one_stood = inl c.one_stood; two_stood = inl c.two_stood; differ = c.differ; equal = c.equal }

    through : {t : Lane} (r : Run t) → Later t u → Found r ⊎ (AllSay e r × (t.epoch ≤ e → Whole r))
    through start l = inr (tt, λ h. tree_start H is_data root_node)
    through (snoc {t = t} r a) l = elim (through r (later_back a u l)) [
      | inl c ↦ inl (grow r a c)
      | inr x ↦ elim (dec_le t.epoch e) [
        | yes h ↦ elim (on_step r a l h (x.1 h)) [ inl c ↦ inl c | inr F ↦ inr (((λ i. says r a (x.1 h)), x.0), (λ i. F)) ]
        | no n ↦ inr (((λ i. absurd (n i)), x.0), (λ i. absurd (omega (arith, epoch_mono a))))
      ]
    ]

  -- ---- the last epoch settled never falls

  pub settled_mono : {t : Lane} (a : Accepts t) → lane_settled t ≤ lane_settled (next a)
  settled_mono (move a q) = omega arith
  settled_mono {t} (advance o) = on t.epoch t.old o
    where
      on : (e : ℕ) (b : Bool) → b ≡ false → settled_by_lem e b ≤ suc e - 2
      on e b q = rw q (omega arith)
  settled_mono {t} (close i o q l s) = on t.epoch t.old o
    where
      on : (e : ℕ) (b : Bool) → b ≡ true → settled_by_lem e b ≤ e - 1
      on e b q = rw q (omega arith)

  -- demand 3 over accepted steps: the epochs up to e are settled
  pub lane_demand : is_data root_key ≡ false → {u : Lane} (r : Run u) (e : ℕ) → e ≤ lane_settled u
      → Collision H is_data (Stood r) ⊎ (((i : ℕ) × (1 ≤ i) × (i ≤ e) × Cancels G X τ i u.ads u.evs) ⊎ AllSay e r)
  lane_demand root_node {u} r e h = elim (settle G X τ _ _ _ _ _ (hist r) e (past u.old refl h) (older u.old refl h)) [
    | inl x ↦ inr (inl x)
    | inr f ↦ elim (through root_node u e f (hist r).once r (later_refl u)) [ inl c ↦ inl c | inr y ↦ inr (inr y.0) ]
  ]
    where
      past : (o : Bool) → u.old ≡ o → e ≤ settled_by_lem u.epoch o → suc e ≤ u.epoch
      past false q g = omega (arith, (hist r).from_one)
      past true q g = omega (arith, (hist r).old_two q)

      older : (o : Bool) → u.old ≡ o → e ≤ settled_by_lem u.epoch o → u.old ≡ true → suc (suc e) ≤ u.epoch
      older false q g t = absurd (true≢false (sym t ∙ q))
      older true q g t = omega (arith, (hist r).old_two q)
