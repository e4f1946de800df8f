-- Laws of the listing: what is still to be stored, line by line. Assumes nothing.
use Prim.Native.Nat.{ℕ, zero, suc, ◌+◌, ◌-◌, ◌≤◌, ◌<◌}
use mathlib.Core.Path.{◌≡◌, refl, ap, sym, ◌∙◌}
use mathlib.Core.List.{List, ◌++◌}
use mathlib.Core.Bool.{true, false, true≢false}
use native.Mathlib.Omega.{arith}
use lib.ListN.{length, get_or, drop, length-append}
use lib.Seq.{length-take-le}
use borrow.Author.Tests.{lt-leb, le-leb, eq-eqb}
use Rattle.words.specs.Splices.{splice}
use Rattle.std.specs.Prelude.{Err}
use Rattle.verdict.specs.Verdicts.{accepted, number}
use Rattle.verdict.specs.declared.Refusal.{Refusal}
use Rattle.run.proofs.Laws.{refused_uncounted}
use Rattle.words.proofs.Laws.{true_both}
use Rattle.cache.specs.Caches.{well_length, well_cache, opened_cache}
use Rattle.state.specs.States.{Opened, opened, Opening, opening, open_def, fresh_state, settled, well_state}
use Rattle.state.proofs.Laws.{open_well_state, open_well_cache, open_well_length}
use Rattle.state.specs.declared.State.{State}
use Rattle.rules.specs.Steps.{stepped, step, Stepped}
use Rattle.rules.specs.Runs.{halts, sound}
use Rattle.text.specs.Text.{line_text, slots_text, end_text}
use Rattle.text.proofs.Laws.{Stored, stored_rest}
use Rattle.listing.specs.Listings.{row_then, rows_from, listing}
use Rattle.listing.specs.Rooms.{Counts}

rows_over : (f : ℕ) (log : List ℕ) (at n : ℕ) (st : State) (c : List ℕ) → length log ≤ at → rows_from f log at n st c ≡ end_text (settled st) at
unfolding rows_from
rows_over zero log at n st c h = refl
rows_over (suc f) log at n st c h = rw (le-leb _ _ h)

rows_turn : (f g : ℕ) (log : List ℕ) (at n : ℕ) (st : State) (c : List ℕ) → g ≡ suc f → at < length log
    → rows_from g log at n st c ≡ row_then (rows_from f log) log at n (step (drop at log) st c)
unfolding rows_from
rows_turn f g log at n st c p h = rw (p, lt-leb _ _ h)

-- what is still to be stored at pos, of x₀, which ends at k₀
pub record Left (log x₀ : List ℕ) (k₀ at n : ℕ) (st : State) (c : List ℕ) (pos : ℕ) (out : List ℕ) : Type 0 where
  pub bytes : splice out pos (rows_from (length log - n) log at n st c) ≡ x₀
  pub count : pos + length (rows_from (length log - n) log at n st c) ≡ k₀

module _ (log x₀ : List ℕ) (k₀ at n : ℕ) (st : State) (c : List ℕ) (pos : ℕ) (out : List ℕ) (left : Left log x₀ k₀ at n st c pos out) where
  -- at the log's end, the last line
  pub left_over : length log ≤ at → (r : ℕ) (x : List ℕ) → Stored out pos (end_text (settled st) at) r x → (r ≡ k₀) × (x ≡ x₀)
  left_over h r x s = (
    s.0 ∙ ap (λ (t : List ℕ). pos + length t) (sym (rows_over (length log - n) log at n st c h)) ∙ left.count,
    s.1 ∙ ap (splice out pos) (sym (rows_over (length log - n) log at n st c h)) ∙ left.bytes,
  )

  -- a turn: the step on the rest of the log gave r and left the cache as c'; its line ends at p, and y is what that leaves
  module _ (r : Stepped) (c' : List ℕ) (e : stepped r c' ≡ step (drop at log) st c) (h : at < length log) (g : n < length log) (p : ℕ) (y : List ℕ)
      (fits : pos + length (line_text (n + 1) (get_or log at 0) r.verdict r.state.epoch.0) ≤ length out)
      (s : Stored out pos (line_text (n + 1) (get_or log at 0) r.verdict r.state.epoch.0) p y) where
    abbrev row : List ℕ
    row = line_text (n + 1) (get_or log at 0) r.verdict r.state.epoch.0

    turned : rows_from (length log - n) log at n st c ≡ row_then (rows_from (length log - (n + 1)) log) log at n (stepped r c')
    turned =
        rows_turn (length log - (n + 1)) (length log - n) log at n st c (omega arith) h
        ∙ ap (row_then (rows_from (length log - (n + 1)) log) log at n) (sym e)

    -- the rest, t, that follows the line
    module _ (t : List ℕ) (q : row_then (rows_from (length log - (n + 1)) log) log at n (stepped r c') ≡ row ++ t) where
      rest_bytes : splice y p t ≡ x₀
      rest_bytes = stored_rest out y pos p row t x₀ fits s (ap (splice out pos) (sym (turned ∙ q)) ∙ left.bytes)

      rest_count : p + length t ≡ k₀
      rest_count =
          let k : length (rows_from (length log - n) log at n st c) ≡ length row + length t = ap length (turned ∙ q) ∙ simp length-append in
          omega (arith, s.0, left.count)

    pub left_on : halts r.verdict ≡ false → Left log x₀ k₀ (at + r.used) (n + 1) r.state c' p y
    left_on f =
        let q : row_then (rows_from (length log - (n + 1)) log) log at n (stepped r c') ≡ row ++ rows_from (length log - (n + 1)) log (at + r.used) (n + 1) r.state c' = rw f in
        record { bytes = rest_bytes _ q; count = rest_count _ q }

    pub left_stop : halts r.verdict ≡ true → (k : ℕ) (x : List ℕ) → Stored y p (end_text (settled r.state) at) k x → (k ≡ k₀) × (x ≡ x₀)
    left_stop f k x w =
        let q : row_then (rows_from (length log - (n + 1)) log) log at n (stepped r c') ≡ row ++ end_text (settled r.state) at = rw f in
        (w.0 ∙ rest_count _ q, w.1 ∙ rest_bytes _ q)

-- the same turn, as the code has its verdict and its state: v and u are those of r
module _ (log x₀ : List ℕ) (k₀ at n : ℕ) (st : State) (c : List ℕ) (pos : ℕ) (out : List ℕ) (left : Left log x₀ k₀ at n st c pos out)
    (r : Stepped) (c' : List ℕ) (e : stepped r c' ≡ step (drop at log) st c) (h : at < length log) (g : n < length log)
    (v : ℕ) (u : State) (ev : v ≡ r.verdict) (eu : u ≡ r.state) (p : ℕ) (y : List ℕ)
    (fits : pos + length (line_text (n + 1) (get_or log at 0) v u.epoch.0) ≤ length out)
    (s : Stored out pos (line_text (n + 1) (get_or log at 0) v u.epoch.0) p y) where
  pub row_on : halts v ≡ false → Left log x₀ k₀ (at + r.used) (n + 1) u c' p y
  row_on f = rw eu (left_on log x₀ k₀ at n st c pos out left r c' e h g p y (rw (ev, eu) at fits) (rw (ev, eu) at s) (rw ev at f))

  pub row_stop : halts v ≡ true → (k : ℕ) (x : List ℕ) → Stored y p (end_text (settled u) at) k x → (k ≡ k₀) × (x ≡ x₀)
  row_stop f k x w = left_stop log x₀ k₀ at n st c pos out left r c' e h g p y (rw (ev, eu) at fits) (rw (ev, eu) at s) (rw ev at f) k x (rw eu at w)

-- ---- four slots, opened

four_opened : (key c : List ℕ) → length c ≡ 768 → open_def key c ≡ opening (record { verdict = accepted; state = fresh_state key }) (opened_cache 3)
unfolding open_def well_length
four_opened key c e = rw e

four_well : (c : List ℕ) → length c ≡ 768 → well_length c ≡ true
unfolding well_length
four_well c e = rw e

-- opening them is not refused
pub four_open : (key c d : List ℕ) (r : Refusal) → opening (opened (Err r)) c ≡ open_def key d → length d ≡ 768 → ⊥
four_open key c d r e n =
    let q : number r ≡ accepted = ap (λ (x : Opening). x.answer.verdict) (e ∙ four_opened key d n) in
    true≢false (sym (eq-eqb (number r) accepted q) ∙ refused_uncounted r)

-- neither 28 nor 1 applies to them
pub four_sound : (key c d : List ℕ) (o : Opened) → opening o c ≡ open_def key d → length d ≡ 768 → sound o.state c ≡ true
unfolding sound
four_sound key c d o e n =
    true_both _ _ (ap (λ (x : Opening). well_length x.bytes) e ∙ open_well_length key d (four_well d n))
    (true_both _ _ (ap (λ (x : Opening). well_state x.answer.state) e ∙ open_well_state key d (four_well d n))
    (ap (λ (x : Opening). well_cache x.bytes) e ∙ open_well_cache key d (four_well d n)))

-- the first line, and the rows behind it
pub listed : (key log c d : List ℕ) (o : Opened) (st : State) → st ≡ o.state → opening o c ≡ open_def key d → length d ≡ 768
    → slots_text ++ rows_from (length log) log 0 0 st c ≡ listing key log
unfolding listing
listed key log c d o st es e n =
    let a : opening o c ≡ opening (record { verdict = accepted; state = fresh_state key }) (opened_cache 3) = e ∙ four_opened key d n in
    let s : st ≡ fresh_state key = es ∙ ap (λ (x : Opening). x.answer.state) a in
    let b : c ≡ opened_cache 3 = ap (λ (x : Opening). x.bytes) a in
    rw (s, b)

pub counts : (n : ℕ) (xs : List ℕ) → n ≤ length xs → Counts n xs
counts n xs h = (h, sym (length-take-le n xs h))
