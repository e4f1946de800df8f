-- How many bytes the reader uses, and that it looks at no others. Assumes nothing.
use Prim.Native.Nat.{ℕ, ◌+◌, ◌-◌, ◌≤◌}
use mathlib.Core.Path.{◌≡◌, refl, ap, sym, ◌∙◌}
use mathlib.Core.List.{List, [], ◌++◌}
use native.Mathlib.Omega.{arith}
use lib.Dec.{ltb}
use lib.ListN.{get_or, length, take, drop, length-append, length-take, length-drop, take-append-drop, get_or-append}
use lib.Seq.{take-append-le, drop-append-le, get_or-take}
use borrow.Author.Tests.{le-ltb, ltb-false}
use Rattle.words.specs.Numbers.{number_at}
use Rattle.words.specs.Splices.{part}
use Rattle.words.proofs.Laws.{number_front, picked, never}
use Rattle.std.specs.Prelude.{Option, Some, None, Err}
use Rattle.std.proofs.lemmas.Option.{same_Some}
use Rattle.entry.specs.Entries.{entry_of, head_of, head_end, read_by, reading_of, read_entry, reading_used}
use Rattle.entry.specs.declared.Entry.{Entry}
use Rattle.entry.specs.declared.Head.{Head}
use Rattle.entry.specs.declared.Unread.TheVariants.{Short}

-- ---- the head

-- a whole head: its tag and length stand in the log, and the body is there
pub record HeadThere (log : List ℕ) (t n : ℕ) : Type 0 where
  pub whole : 3 + n ≤ length log
  pub tag : get_or log 0 0 ≡ t
  pub len : number_at 2 log 1 ≡ n

pub head_there : (log : List ℕ) (t n : ℕ) → head_of log ≡ Some (record { tag = t; len = n }) → HeadThere log t n
unfolding head_of
head_there log t n e =
    picked (ltb (length log) 3) _ _ _ e (λ _ q. never cc) λ a q.
    picked (ltb (length log - 3) (number_at 2 log 1)) _ _ _ q (λ _ u. never cc) λ b u.
    let same = same_Some _ _ u in
    let l : number_at 2 log 1 ≡ n = ap (λ (h : Head). h.len) same in
    record {
      whole = omega (arith, ltb-false (length log) 3 a, ltb-false (length log - 3) (number_at 2 log 1) b);
      tag = ap (λ (h : Head). h.tag) same;
      len = l;
    }

pub head_made : (log : List ℕ) (t n : ℕ) → HeadThere log t n → head_of log ≡ Some (record { tag = t; len = n })
unfolding head_of
head_made log t n h =
    rw (h.tag, h.len, le-ltb (length log) 3 (omega (arith, h.whole)), le-ltb (length log - 3) n (omega (arith, h.whole)))

-- ---- bytes used

used_by : (n : ℕ) (x : Option Entry) → reading_used (reading_of n x) ≡ n
used_by n None = refl
used_by n (Some e) = refl

-- the bytes used are the head and its body: the entry's whole length, or none
pub read_used : (log : List ℕ) → reading_used (read_entry log) ≡ head_end (head_of log)
unfolding read_entry
read_used log = go (head_of log)
  where
    go : (h : Option Head) → reading_used (read_by log h) ≡ head_end h
    go None = refl
    go (Some h) = used_by (3 + h.len) (entry_of h.tag (part log 3 h.len))

-- they are at most what the log has
pub used_within : (log : List ℕ) → reading_used (read_entry log) ≤ length log
used_within log = rw (read_used log) (go (head_of log) refl)
  where
    go : (h : Option Head) → head_of log ≡ h → head_end h ≤ length log
    go None e = omega arith
    go (Some h) e = (head_there log h.tag h.len e).whole

cut_short : (log : List ℕ) → head_of log ≡ None → read_entry log ≡ Err Short
unfolding read_entry
cut_short log e = rw e

-- and at least a head's, where there is an entry
pub used_some : (log : List ℕ) → (read_entry log ≡ Err Short → ⊥) → 3 ≤ reading_used (read_entry log)
used_some log f = rw (read_used log) (go (head_of log) refl)
  where
    go : (h : Option Head) → head_of log ≡ h → 3 ≤ head_end h
    go None e = absurd (f (cut_short log e))
    go (Some h) e = omega arith

-- ---- what the reader looks at

module _ (log r : List ℕ) (t n : ℕ) (h : HeadThere log t n) where
  head_front : HeadThere (log ++ r) t n
  head_front =
      record {
        whole = simp length-append (omega (arith, h.whole));
        tag = get_or-append log r 0 0 (omega (arith, h.whole)) ∙ h.tag;
        len = number_front 2 log r 1 (omega (arith, h.whole)) ∙ h.len;
      }

  body_front : part (log ++ r) 3 n ≡ part log 3 n
  body_front =
      ap (take n) (drop-append-le 3 log r (omega (arith, h.whole)))
      ∙ take-append-le n (drop 3 log) r (simp length-drop (omega (arith, h.whole)))

  -- a whole entry is read alike whatever follows it
  pub read_front : read_entry (log ++ r) ≡ read_entry log
  unfolding read_entry
  read_front = rw (head_made (log ++ r) t n head_front, head_made log t n h, body_front)

module _ (log : List ℕ) (t n : ℕ) (h : HeadThere log t n) where
  own_length : length (take (3 + n) log) ≡ 3 + n
  own_length = simp length-take (omega (arith, h.whole))

  head_own : HeadThere (take (3 + n) log) t n
  head_own =
      record {
        whole = omega (arith, own_length);
        tag = get_or-take (3 + n) log 0 0 (omega arith) ∙ h.tag;
        len =
            sym (number_front 2 (take (3 + n) log) (drop (3 + n) log) 1 (omega (arith, own_length)))
            ∙ ap (λ (s : List ℕ). number_at 2 s 1) (take-append-drop (3 + n) log)
            ∙ h.len;
      }

  read_whole : read_entry log ≡ read_entry (take (3 + n) log)
  read_whole = ap read_entry (sym (take-append-drop (3 + n) log)) ∙ read_front (take (3 + n) log) (drop (3 + n) log) t n head_own

nothing : head_of [] ≡ None
unfolding head_of
nothing = refl

-- the reader looks at no byte but those it uses
pub read_own : (log : List ℕ) → read_entry log ≡ read_entry (take (reading_used (read_entry log)) log)
read_own log = rw (read_used log) (go (head_of log) refl)
  where
    go : (h : Option Head) → head_of log ≡ h → read_entry log ≡ read_entry (take (head_end h) log)
    go None e = cut_short log e ∙ sym (cut_short [] nothing)
    go (Some h) e = read_whole log h.tag h.len (head_there log h.tag h.len e)
