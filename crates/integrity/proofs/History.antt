-- Part 2 of demand 3, order and bookkeeping: the messages of a run. Times are used once, and of every settled epoch the adds are the evicts, or the
-- tags of its odd messages cancel. Lists and numbers alone: which moves gave the messages does not matter here.
use mathlib.Core.Path.{◌≡◌, refl, sym, ◌∙◌, ap, subst}
use mathlib.Core.Logic.{◌⊎◌, inl, inr, ◌≢◌}
use mathlib.Core.Bool.{Bool, true, false, true≢false, false≢true}
use mathlib.Core.List.Memᴰ
use mathlib.Core.List.{List, [], ◌∷◌, ◌++◌, Memᴰ}
use Prim.Native.Nat.{ℕ, zero, suc, ◌≤◌}
use native.Mathlib.Decide.{ℕ_discrete, dec_le}
use native.Mathlib.Omega.{arith}
use borrow.Author.Tests.{eq-eqb, ne_eqb}
use lib.ListN.{length}
use Rattle.message.specs.declared.Message.{Message}
use Rattle.integrity.specs.Same.{message_dec}
use Rattle.integrity.specs.Counting.{bump, count, odds}
use Rattle.integrity.specs.Statement.{of_epoch}
use Rattle.integrity.proofs.Counting.{Xor, sum, count_yes, count_no, counted}

abbrev pub times : Message → List Message → ℕ
times = count Message message_dec

-- ---- occurrence

pub mem_count : (m : Message) (l : List Message) → 1 ≤ times m l → Memᴰ m l
unfolding count
mem_count m [] h = absurd (omega arith)
mem_count m (x ∷ l) h = (elim (message_dec m x) as (λ r. 1 ≤ bump r (times m l) → Memᴰ m (x ∷ l)) [ yes e ↦ λ h. Memᴰ.head e | no n ↦ λ h. Memᴰ.tail (mem_count m l h) ]) h

pub count_mem : {m : Message} {l : List Message} → Memᴰ m l → 1 ≤ times m l
count_mem {m} (Memᴰ.head {x = x} {xs = l} e) = omega (arith, count_yes Message message_dec m x l e)
count_mem {m} (Memᴰ.tail {x = x} {xs = l} h) = grow (count_mem h)
  where
    grow : 1 ≤ times m l → 1 ≤ times m (x ∷ l)
    grow i = elim (message_dec m x) [ yes e ↦ omega (arith, count_yes Message message_dec m x l e) | no n ↦ omega (arith, count_no Message message_dec m x l n) ]

pub count_cons_le : (m x : Message) (l : List Message) → times m l ≤ times m (x ∷ l)
count_cons_le m x l = elim (message_dec m x) [ yes e ↦ omega (arith, count_yes Message message_dec m x l e) | no n ↦ omega (arith, count_no Message message_dec m x l n) ]

-- ---- the messages of one epoch

pub of_other : (e : ℕ) (m : Message) (l : List Message) → m.epoch.0 ≢ e → of_epoch e (m ∷ l) ≡ of_epoch e l
unfolding of_epoch
of_other e m l n = rw (ne_eqb m.epoch.0 e n)

pub of_hit : (e : ℕ) (m : Message) (l : List Message) → m.epoch.0 ≡ e → of_epoch e (m ∷ l) ≡ m ∷ of_epoch e l
unfolding of_epoch
of_hit e m l q = rw (eq-eqb m.epoch.0 e q)

bump_mono : {P : Type 0} (r : Dec P) {a b : ℕ} → a ≤ b → bump r a ≤ bump r b
bump_mono (yes _) h = omega arith
bump_mono (no _) h = h

of_le : (e : ℕ) (m : Message) (l : List Message) → times m (of_epoch e l) ≤ times m l
unfolding of_epoch count
of_le e m [] = omega arith
of_le e m (x ∷ l) = elim (ℕ_discrete x.epoch.0 e) [
  | yes q ↦ rw (eq-eqb x.epoch.0 e q) (bump_mono (message_dec m x) (of_le e m l))
  | no n ↦ rw (ne_eqb x.epoch.0 e n) (omega (arith, of_le e m l, count_cons_le m x l))
]

of_same : (m : Message) (l : List Message) → times m (of_epoch m.epoch.0 l) ≡ times m l
unfolding of_epoch count
of_same m [] = refl
of_same m (x ∷ l) = elim (ℕ_discrete x.epoch.0 m.epoch.0) [
  | yes q ↦ rw (eq-eqb x.epoch.0 m.epoch.0 q) (ap (bump (message_dec m x)) (of_same m l))
  | no n ↦ rw (ne_eqb x.epoch.0 m.epoch.0 n) (of_same m l ∙ sym (count_no Message message_dec m x l (λ e. n (ap (λ (y : Message). y.epoch.0) (sym e)))))
]

-- ---- the history

module _ (G : Type 0) (X : Xor G) (τ : Message → G) where
  abbrev pub total : List Message → G
  total = sum Message G X τ

  -- of the clock, the current epoch, whether an old one is open, and the messages evicted and added
  pub record Hist (clock epoch : ℕ) (old : Bool) (evs ads : List Message) : Type 0 where
    pub ev_time : (m : Message) → Memᴰ m evs → m.time.0 ≤ clock
    pub once : (m : Message) → times m evs ≤ 1
    pub from_one : 1 ≤ epoch
    pub old_two : old ≡ true → 2 ≤ epoch
    pub no_zero : (of_epoch 0 ads ≡ []) × (of_epoch 0 evs ≡ [])
    pub settled : (e : ℕ) → suc e ≤ epoch → (old ≡ true → suc (suc e) ≤ epoch)
        → (length (of_epoch e ads) ≡ length (of_epoch e evs)) × (total (of_epoch e ads) ≡ total (of_epoch e evs))

  -- the exception of one epoch
  abbrev pub Cancels : ℕ → List Message → List Message → Type 0
  Cancels e ads evs = let o = odds Message message_dec (of_epoch e ads ++ of_epoch e evs) in (o ≢ []) × (total o ≡ X.nil)

  decide_all : {A B : ℕ → Type 0} (e : ℕ) → ((i : ℕ) → i ≤ e → A i ⊎ B i) → ((i : ℕ) × (i ≤ e) × A i) ⊎ ((i : ℕ) → i ≤ e → B i)
  decide_all {A} {B} zero f = elim (f 0 (omega arith)) [
    | inl a ↦ inl (0, omega arith, a)
    | inr b ↦ inr (λ i h. let z : 0 ≡ i = omega arith in subst B z b)
  ]
  decide_all {A} {B} (suc e) f = elim (decide_all {A = A} {B = B} e (λ i h. f i (omega arith))) [
    | inl x ↦ inl (x.0, omega arith, x.2)
    | inr g ↦ elim (f (suc e) (omega arith)) [
      | inl a ↦ inl (suc e, omega arith, a)
      | inr b ↦ inr (λ i h. elim (ℕ_discrete i (suc e)) [ yes q ↦ subst B (sym q) b | no n ↦ g i (omega arith) ])
    ]
  ]

  pub hist_start : Hist 0 1 false [] []
  unfolding of_epoch count
  hist_start = record {
    ev_time = λ m h. absurd (no_mem h);
    once = λ m. omega arith;
    from_one = omega arith;
    old_two = λ t. absurd (false≢true t);
    no_zero = (refl, refl);
    settled = λ e i j. (refl, refl);
  }
    where
      no_mem : {m : Message} → Memᴰ m [] → ⊥
      no_mem h = omega (arith, count_mem h)

  module _ (clock epoch : ℕ) (old : Bool) (evs ads : List Message) (h : Hist clock epoch old evs ads) where
    pub hist_evict : (m : Message) → m.time.0 ≡ suc clock → m.epoch.0 ≡ epoch → Hist (suc clock) epoch old (m ∷ evs) ads
    hist_evict m t q = record {
      ev_time = λ n i. elim (Memᴰ.cases_cons i) [ inl e ↦ omega (arith, ap (λ (y : Message). y.time.0) e) | inr k ↦ omega (arith, h.ev_time n k) ];
      once = λ n. elim (message_dec n m) [
        | yes e ↦ elim (dec_le 1 (times n evs)) [
          | yes g ↦ omega (arith, h.ev_time n (mem_count n evs g), ap (λ (y : Message). y.time.0) e)
          | no g ↦ omega (arith, count_yes Message message_dec n m evs e)
        ]
        | no d ↦ omega (arith, count_no Message message_dec n m evs d, h.once n)
      ];
      from_one = h.from_one;
      old_two = h.old_two;
      no_zero = (h.no_zero.0, of_other 0 m evs (omega (arith, h.from_one)) ∙ h.no_zero.1);
      settled = λ e i j. rw (of_other e m evs (omega arith)) (h.settled e i j);
    }

    pub hist_add : (m : Message) → ((e : ℕ) → suc e ≤ epoch → (old ≡ true → suc (suc e) ≤ epoch) → m.epoch.0 ≢ e) → Hist clock epoch old evs (m ∷ ads)
    hist_add m d = record {
      ev_time = h.ev_time;
      once = h.once;
      from_one = h.from_one;
      old_two = h.old_two;
      no_zero = (of_other 0 m ads (d 0 h.from_one h.old_two) ∙ h.no_zero.0, h.no_zero.1);
      settled = λ e i j. rw (of_other e m ads (d e i j)) (h.settled e i j);
    }

    pub hist_advance : old ≡ false → Hist clock (suc epoch) true evs ads
    hist_advance o = record {
      ev_time = h.ev_time;
      once = h.once;
      from_one = omega arith;
      old_two = λ t. omega (arith, h.from_one);
      no_zero = h.no_zero;
      settled = λ e i j. let k = j refl in h.settled e (omega arith) (λ t. absurd (true≢false (sym t ∙ o)));
    }

    pub hist_close : (e : ℕ) → suc e ≡ epoch → length (of_epoch e ads) ≡ length (of_epoch e evs) → total (of_epoch e ads) ≡ total (of_epoch e evs) → Hist clock epoch false evs ads
    hist_close e q l s = record {
      ev_time = h.ev_time;
      once = h.once;
      from_one = h.from_one;
      old_two = λ t. absurd (false≢true t);
      no_zero = h.no_zero;
      settled = λ i a b. elim (ℕ_discrete i e) [ yes r ↦ rw r (l, s) | no n ↦ h.settled i a (λ t. omega arith) ];
    }

    -- the settled epochs up to e: the exception of one, or the adds are the evicts
    pub settle : (e : ℕ) → suc e ≤ epoch → (old ≡ true → suc (suc e) ≤ epoch)
        → ((i : ℕ) × (1 ≤ i) × (i ≤ e) × Cancels i ads evs) ⊎ ((m : Message) → m.epoch.0 ≤ e → times m ads ≡ times m evs)
    unfolding odds
    settle e a b = elim (decide_all {A = λ i. Cancels i ads evs} {B = λ i. (m : Message) → times m (of_epoch i ads) ≡ times m (of_epoch i evs)} e each) [
      | inl x ↦ inl (x.0, positive x.0 x.2, x.1, x.2)
      | inr f ↦ inr (λ m i. sym (of_same m ads) ∙ f m.epoch.0 i m ∙ of_same m evs)
    ]
      where
        positive : (i : ℕ) → Cancels i ads evs → 1 ≤ i
        positive zero x = absurd (x.0 (rw (h.no_zero.0, h.no_zero.1) refl))
        positive (suc i) x = omega arith

        each : (i : ℕ) → i ≤ e → Cancels i ads evs ⊎ ((m : Message) → times m (of_epoch i ads) ≡ times m (of_epoch i evs))
        each i q = let r = h.settled i (omega arith) (λ t. let z = b t in omega arith) in
            counted Message message_dec G X τ (of_epoch i ads) (of_epoch i evs) (λ m. omega (arith, of_le i m evs, h.once m)) r.0 r.1
