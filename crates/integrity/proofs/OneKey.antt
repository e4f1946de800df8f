-- Part 3 of demand 3, what holds of one key: where it lives, and what the links to it and its outstanding messages say; each way a key moves
-- keeps it.
use mathlib.Core.Path.{◌≡◌, refl, sym, ◌∙◌, ap}
use mathlib.Core.Logic.{◌⊎◌, inl, inr, ◌≢◌}
use mathlib.Core.Bool.{Bool, true, false, true≢false, false≢true, cond}
use mathlib.Core.Option.{Option, none, some, none-ne-some, some-ne-none, some-injective}
use native.Mathlib.Omega.{arith}
use Rattle.integrity.proofs.Ancestors.{Key}
use Rattle.integrity.proofs.Records.{Digest, Value, vnone, bare, from_tree, from_deferred, Cell, Message, IsNode}

not_deferred : from_tree ≡ from_deferred → ⊥
not_deferred e = omega arith

module _ (H : Value → Digest) (is_data : Key → Bool) where
  abbrev pub first : Key → Value
  first k = cond (is_data k) vnone (bare)

  -- L d b: a link to k with digest d and mark b stands in the tree. O m: the message m is outstanding, and is of k.
  pub record Good (k : Key) (c : Option Cell) (v : Value) (l : Bool) (L : Digest → Bool → Type 0) (O : Message → Type 0) : Type 0 where
    pub cached : (x : Cell) → c ≡ some x → (x.value ≡ v) × (l ≡ true)
    pub fresh : l ≡ false → v ≡ first k
    pub fits : is_data k ≡ true → IsNode v → ⊥
    pub hash : (d : Digest) → L d false → c ≡ none → d ≡ H v
    pub mark : (x : Cell) (d : Digest) (b : Bool) → c ≡ some x → x.origin ≡ from_deferred → L d b → b ≡ true
    pub out : (m : Message) → O m → (m.value ≡ v) × (c ≡ none) × (l ≡ true)
    pub out_mark : (m : Message) (d : Digest) (b : Bool) → O m → L d b → b ≡ true
    pub out_one : (m n : Message) → O m → O n → m ≡ n

  module _ (k : Key) where
    pub good_mono : {c : Option Cell} {v : Value} {l : Bool} {L L' : Digest → Bool → Type 0} {O O' : Message → Type 0}
        → ((d : Digest) (b : Bool) → L' d b → L d b) → ((m : Message) → O' m → O m) → Good k c v l L O → Good k c v l L' O'
    good_mono f g G = record {
      cached = G.cached;
      fresh = G.fresh;
      fits = G.fits;
      hash = λ d h. G.hash d (f d false h);
      mark = λ x d b e o h. G.mark x d b e o (f d b h);
      out = λ m h. G.out m (g m h);
      out_mark = λ m d b h i. G.out_mark m d b (g m h) (f d b i);
      out_one = λ m n h i. G.out_one m n (g m h) (g n i);
    }

    -- A key in the cache has no outstanding message.
    pub none_out : {x : Cell} {v : Value} {l : Bool} {L : Digest → Bool → Type 0} {O : Message → Type 0} → Good k (some x) v l L O → (m : Message) → O m → ⊥
    none_out G m h = some-ne-none _ (G.out m h).1

    -- The cell of the ancestor, or of a put, is written: same origin.
    pub good_write : {x : Cell} {v w : Value} {l : Bool} {L : Digest → Bool → Type 0} {O : Message → Type 0} → Good k (some x) v l L O
        → (is_data k ≡ true → IsNode w → ⊥) → Good k (some (record { origin = x.origin; value = w })) w l L O
    good_write {x} {w} G f = record {
      cached = λ y e. (ap (λ c. c.value) (sym (some-injective _ _ e)), (G.cached x refl).1);
      fresh = λ e. absurd (true≢false (sym (G.cached x refl).1 ∙ e));
      fits = f;
      hash = λ d h e. absurd (some-ne-none _ e);
      mark = λ y d b e o h. G.mark x d b refl (ap (λ c. c.origin) (some-injective _ _ e) ∙ o) h;
      out = λ m h. absurd (none_out G m h);
      out_mark = G.out_mark;
      out_one = G.out_one;
    }

    pub good_evict_tree : {x : Cell} {v : Value} {l : Bool} {L L' : Digest → Bool → Type 0} {O : Message → Type 0} → Good k (some x) v l L O
        → ((d : Digest) (b : Bool) → L' d b → (d ≡ H v) × (b ≡ false)) → Good k none v l L' O
    good_evict_tree G f = record {
      cached = λ y e. absurd (none-ne-some _ e);
      fresh = G.fresh;
      fits = G.fits;
      hash = λ d h e. (f d false h).0;
      mark = λ y d b e. absurd (none-ne-some _ e);
      out = λ m h. absurd (none_out G m h);
      out_mark = λ m d b h. absurd (none_out G m h);
      out_one = G.out_one;
    }

    -- Evicted with the message m; every link to it is marked.
    pub good_evict_deferred : {x : Cell} {v : Value} {l : Bool} {L L' : Digest → Bool → Type 0} {O O' : Message → Type 0} → Good k (some x) v l L O
        → ((d : Digest) (b : Bool) → L' d b → b ≡ true)
        → (m : Message) → m.value ≡ v → ((n : Message) → O' n → (n ≡ m) ⊎ O n) → Good k none v l L' O'
    good_evict_deferred {x} {v} {l} {O'} G f m e g = record {
      cached = λ y e. absurd (none-ne-some _ e);
      fresh = G.fresh;
      fits = G.fits;
      hash = λ d h e. absurd (false≢true (f d false h));
      mark = λ y d b e. absurd (none-ne-some _ e);
      out = λ n h. (ap (λ c. c.value) (one n h) ∙ e, refl, (G.cached x refl).1);
      out_mark = λ n d b h. f d b;
      out_one = λ n o h i. one n h ∙ sym (one o i);
    }
      where
        one : (n : Message) → O' n → n ≡ m
        one n h = elim (g n h) [ inl q ↦ q | inr i ↦ absurd (none_out G n i) ]

    pub good_add_deferred : {v : Value} {l : Bool} {L : Digest → Bool → Type 0} {O O' : Message → Type 0} → Good k none v l L O
        → (m : Message) → O m → ((n : Message) → O' n → O n × (n ≢ m)) → Good k (some (record { origin = from_deferred; value = m.value })) v l L O'
    good_add_deferred {O'} G m h g = record {
      cached = λ y e. (ap (λ c. c.value) (sym (some-injective _ _ e)) ∙ (G.out m h).0, (G.out m h).2);
      fresh = G.fresh;
      fits = G.fits;
      hash = λ d i e. absurd (some-ne-none _ e);
      mark = λ y d b e o i. G.out_mark m d b h i;
      out = λ n i. absurd (none n i);
      out_mark = λ n d b i. absurd (none n i);
      out_one = λ n o i. absurd (none n i);
    }
      where
        none : (n : Message) → O' n → ⊥
        none n i = (g n i).1 (G.out_one n m (g n i).0 h)

    -- Added from the tree, by a link with mark 0, with its true value.
    pub good_add_tree : {v : Value} {l : Bool} {L : Digest → Bool → Type 0} {O : Message → Type 0} → Good k none v l L O
        → (d : Digest) → L d false → l ≡ true → (w : Value) → w ≡ v → Good k (some (record { origin = from_tree; value = w })) v l L O
    good_add_tree {O} G d h lt w q = record {
      cached = λ y e. (ap (λ c. c.value) (sym (some-injective _ _ e)) ∙ q, lt);
      fresh = G.fresh;
      fits = G.fits;
      hash = λ d i e. absurd (some-ne-none _ e);
      mark = λ y d b e o i. absurd (not_deferred (ap (λ c. c.origin) (some-injective _ _ e) ∙ o));
      out = λ n i. absurd (none n i);
      out_mark = λ n d b i. absurd (none n i);
      out_one = λ n o i. absurd (none n i);
    }
      where
        none : (n : Message) → O n → ⊥
        none n i = false≢true (G.out_mark n d false i h)

    -- Added for the first time.
    pub good_new : {v : Value} {L L' : Digest → Bool → Type 0} {O : Message → Type 0} → Good k none v false L O
        → (w : Value) → (is_data k ≡ true → IsNode w → ⊥) → Good k (some (record { origin = from_tree; value = w })) w true L' O
    good_new {O} G w f = record {
      cached = λ y e. (ap (λ c. c.value) (sym (some-injective _ _ e)), refl);
      fresh = λ e. absurd (true≢false e);
      fits = f;
      hash = λ d i e. absurd (some-ne-none _ e);
      mark = λ y d b e o i. absurd (not_deferred (ap (λ c. c.origin) (some-injective _ _ e) ∙ o));
      out = λ n i. absurd (none n i);
      out_mark = λ n d b i. absurd (none n i);
      out_one = λ n o i. absurd (none n i);
    }
      where
        none : (n : Message) → O n → ⊥
        none n i = false≢true (G.out n i).2
