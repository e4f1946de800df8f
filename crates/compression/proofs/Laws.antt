-- Laws of the definitions: one more word of a schedule, some more rounds. Assumes nothing.
use Rattle.std.proofs.Common.{◌≡◌, ℕ, zero, suc, ◌+◌, ◌-◌, ◌*◌, ◌%◌, ◌<◌, ◌≤◌, min, Bool, true, false, leb, List, [], ◌∷◌, ◌++◌, length, get_or, take, set, sym, refl, ap, ◌∙◌, ap₂, add-zero, add_assoc, add-suc, add-one, arith, length-append, length-set, get_or-take, take-suc-set, leb-false, leb-true}
use lib.ListN.{get_or-append}
use borrow.Author.Tests.{lt-leb}
use Rattle.words.specs.Choice.{pick}
use Rattle.words.specs.Numbers.{number_at}
use Rattle.compression.specs.declared.Hash.{Hash}
use Rattle.compression.specs.Compression.{words, next, schedule, K, round, rounds}
use Rattle.compression.specs.Steps.{upto, grown, extended}

-- one more store appends to what is written
pub stored : (w : List ℕ) (i v : ℕ) → i < length w → take (i + 1) (set w i v) ≡ take i w ++ v ∷ []
stored w i v h = rw (add-one, take-suc-set)

pub words_more : (b w : List ℕ) (i v : ℕ) → i < length w → take i w ≡ words b i → v ≡ number_at 4 b (4 * i) → take (i + 1) (set w i v) ≡ words b (i + 1)
unfolding words
words_more b w i v h e f = stored w i v h ∙ ap₂ (λ (l : List ℕ) (x : ℕ). l ++ x ∷ []) e f ∙ sym (ap (words b) (add-one i))

-- the next word is made of words that are there
pub next_take : (w : List ℕ) (j : ℕ) → next (take (16 + j) w) j ≡ next w j
unfolding next
next_take w j =
    rw (
      get_or-take (16 + j) w (j + 14) 0 (omega arith),
      get_or-take (16 + j) w (j + 9) 0 (omega arith),
      get_or-take (16 + j) w (j + 1) 0 (omega arith),
      get_or-take (16 + j) w j 0 (omega arith),
    )

pub schedule_more : (m w : List ℕ) (j v : ℕ) → 16 + j < length w → take (16 + j) w ≡ schedule m j → v ≡ next w j → take (16 + (j + 1)) (set w (16 + j) v) ≡ schedule m (j + 1)
unfolding schedule
schedule_more m w j v h e f =
    let p : 16 + (j + 1) ≡ (16 + j) + 1 = omega arith in
    ap (λ (k : ℕ). take k (set w (16 + j) v)) p ∙ stored w (16 + j) v h
    ∙ ap₂ (λ (l : List ℕ) (x : ℕ). l ++ x ∷ []) e (f ∙ sym (next_take w j) ∙ ap (λ (l : List ℕ). next l j) e)
    ∙ sym (ap (schedule m) (add-one j))

-- ---- rounds, some at a time
rounds_upto : (k w : List ℕ) (s : Hash) (i n : ℕ) → k ≡ K → rounds w s (i + n) ≡ upto k w i (rounds w s i) n
unfolding rounds upto
rounds_upto k w s i zero e = ap (rounds w s) (add-zero i)
rounds_upto k w s i (suc n) e = ap (rounds w s) (add-suc i n) ∙ ap₂ (λ (l : List ℕ) (t : Hash). round (get_or l (i + n) 0) (get_or w (i + n) 0) t) (sym e) (rounds_upto k w s i n e)

pub more_rounds : (k w : List ℕ) (s t u : Hash) (i n : ℕ) → k ≡ K → t ≡ rounds w s i → u ≡ upto k w i t n → u ≡ rounds w s (i + n)
more_rounds k w s t u i n e f g = g ∙ ap (λ (x : Hash). upto k w i x n) f ∙ sym (rounds_upto k w s i n e)

-- what is known of two schedules up to round i + n is enough for these rounds
upto_agree : (k w v : List ℕ) (i n : ℕ) (s : Hash) → ((j : ℕ) → j < i + n → get_or w j 0 ≡ get_or v j 0) → upto k w i s n ≡ upto k v i s n
unfolding upto
upto_agree k w v i zero s f = refl
upto_agree k w v i (suc n) s f =
    ap₂ (round (get_or k (i + n) 0)) (f (i + n) (omega arith)) (upto_agree k w v i n s (λ j h. f j (omega arith)))

schedule_length : (m : List ℕ) (n : ℕ) → length (schedule m n) ≡ length m + n
unfolding schedule
schedule_length m zero = sym (add-zero (length m))
schedule_length m (suc n) = length-append (schedule m n) (next (schedule m n) n ∷ []) ∙ rw (schedule_length m n) (omega arith)

-- a schedule keeps what it has
schedule_keeps : (m : List ℕ) (n d j : ℕ) → j < length m + n → get_or (schedule m n) j 0 ≡ get_or (schedule m (n + d)) j 0
unfolding schedule
schedule_keeps m n zero j h = rw add-zero
schedule_keeps m n (suc d) j h =
    schedule_keeps m n d j h
    ∙ sym (get_or-append (schedule m (n + d)) (next (schedule m (n + d)) (n + d) ∷ []) 0 j (rw schedule_length (omega arith)))
    ∙ ap (λ (x : ℕ). get_or (schedule m x) j 0) (sym (add-suc n d))

-- the words that a turn of the loop has in hand are those of the whole schedule
pub in_hand : (m w : List ℕ) (n j : ℕ) → length m ≡ 16 → n ≤ 48 → take (16 + n) w ≡ schedule m n → j < 16 + n → get_or w j 0 ≡ get_or (schedule m 48) j 0
in_hand m w n j l h e k =
    let d : n + (48 - n) ≡ 48 = omega arith in
    sym (get_or-take (16 + n) w j 0 k) ∙ ap (λ (x : List ℕ). get_or x j 0) e
    ∙ schedule_keeps m n (48 - n) j (omega arith) ∙ ap (λ (x : ℕ). get_or (schedule m x) j 0) d

-- the words of a schedule that are known when round i begins
abbrev pub known : ℕ → ℕ
known i = min i 48

four_more : (m w : List ℕ) (j : ℕ) → length w ≡ 64 → j + 4 ≤ 48 → take (16 + j) w ≡ schedule m j
    → take (16 + (j + 4)) (grown (grown (grown (grown w j) (j + 1)) (j + 2)) (j + 3)) ≡ schedule m (j + 4)
four_more m w j l h e =
    let w1 = grown w j in
    let w2 = grown w1 (j + 1) in
    let w3 = grown w2 (j + 2) in
    let e1 = schedule_more m w j (next w j) (omega arith) e refl in
    let e2 = schedule_more m w1 (j + 1) (next w1 (j + 1)) (simp length-set (omega arith)) e1 refl in
    let e3 = schedule_more m w2 (j + 2) (next w2 (j + 2)) (simp length-set (omega arith)) (rw (add_assoc j 1 1) at e2) refl in
    rw (add_assoc j 3 1) at (schedule_more m w3 (j + 3) (next w3 (j + 3)) (simp length-set (omega arith)) (rw (add_assoc j 2 1) at e3) refl)

module _ (m w : List ℕ) (i : ℕ) (l : length w ≡ 64) (h : i < 64) (f : i % 4 ≡ 0) (e : take (16 + known i) w ≡ schedule m (known i)) where
  by_test : (t : Bool) → leb i 44 ≡ t
      → take (16 + known (i + 4)) (pick t (grown (grown (grown (grown w i) (i + 1)) (i + 2)) (i + 3)) w) ≡ schedule m (known (i + 4))
  by_test true p =
      let b : i ≤ 44 = leb-true _ _ p in
      let k : known i ≡ i = omega arith in
      let n : known (i + 4) ≡ i + 4 = omega arith in
      rw n (four_more m w i l (omega arith) (rw k at e))
  by_test false p =
      let b : 44 < i = leb-false _ _ p in
      let k : known i ≡ 48 = omega arith in
      let n : known (i + 4) ≡ 48 = omega arith in
      rw n (rw k at e)

  pub extended_known : take (16 + known (i + 4)) (extended w i) ≡ schedule m (known (i + 4))
  unfolding extended
  extended_known = by_test (leb i 44) refl

pub turned : (k m v : List ℕ) (s t u : Hash) (i : ℕ) → length m ≡ 16 → k ≡ K → i < 64 → i % 4 ≡ 0 → take (16 + known (i + 4)) v ≡ schedule m (known (i + 4))
    → t ≡ rounds (schedule m 48) s i → u ≡ upto k v i t 4 → u ≡ rounds (schedule m 48) s (i + 4)
turned k m v s t u i l e h f g p q =
    more_rounds k (schedule m 48) s t u i 4 e p
    (q ∙ upto_agree k v (schedule m 48) i 4 t (λ j b. in_hand m v (known (i + 4)) j l (omega arith) g (omega arith)))

-- past its end nothing is stored
pub extended_none : (w : List ℕ) (j : ℕ) → 44 < j → w ≡ extended w j
unfolding extended
extended_none w j h = rw (lt-leb j 44 h)

pub words_length : (b : List ℕ) (n : ℕ) → length (words b n) ≡ n
unfolding words
words_length b zero = refl
words_length b (suc n) = length-append (words b n) (number_at 4 b (4 * n) ∷ []) ∙ rw (words_length b n) (add-one n)

pub extended_length : (w : List ℕ) (j : ℕ) → length (extended w j) ≡ length w
unfolding extended
extended_length w j = by_choice (leb j 44)
  where
    by_choice : (t : Bool) → length (pick t (grown (grown (grown (grown w j) (j + 1)) (j + 2)) (j + 3)) w) ≡ length w
    by_choice true = simp length-set
    by_choice false = refl
