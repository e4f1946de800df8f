-- Keys as words: proper ancestor with its side, and what a tree of keys needs of it: two prefixes of one key are comparable, and sides go on
-- downward. Whether a key is well formed is part of the relation, so that every law holds without conditions.
use Prim.Native.Nat.{ℕ, ◌+◌, ◌-◌, ◌/◌, ◌%◌, ◌^◌, ◌≤◌, ◌<◌}
use mathlib.Core.Path.{◌≡◌, refl, sym, ◌∙◌, ap, subst}
use mathlib.Core.Bool.{Bool, true}
use native.Mathlib.Omega.{arith}
use native.Mathlib.Decide.{dec_lt}
use native.Mathlib.Nat.{div-add-mod'}
use lib.Pow.{shr-shr}
use lib.Dec.{eqb, ltb, leb}
use borrow.Author.Tests.{eqb-true, eq-eqb, ltb-true, lt-ltb, le-ltb, leb-true}
use Rattle.key.specs.Keys.{same_top, clean, well_key, above, bit_at, toward, root_key}
use Rattle.words.proofs.Laws.{both_true}
pub use Rattle.key.specs.declared.Key.{Key}

-- The first n bits of two keys are the same: word by word, as quotients.
pub record Tops (p k : Key) (n : ℕ) : Type 0 where
  pub t0 : p.w0 / 2 ^ (64 - n) ≡ k.w0 / 2 ^ (64 - n)
  pub t1 : p.w1 / 2 ^ (64 - (n - 64)) ≡ k.w1 / 2 ^ (64 - (n - 64))
  pub t2 : p.w2 / 2 ^ (64 - (n - 128)) ≡ k.w2 / 2 ^ (64 - (n - 128))
  pub t3 : p.w3 / 2 ^ (64 - (n - 192)) ≡ k.w3 / 2 ^ (64 - (n - 192))

-- fewer top bits
fewer : (x y i j : ℕ) → j ≤ i → x / 2 ^ j ≡ y / 2 ^ j → x / 2 ^ i ≡ y / 2 ^ i
fewer x y i j h e =
    let d : i ≡ j + (i - j) = omega arith in
    rw (d, ← shr-shr x j (i - j), ← shr-shr y j (i - j), e)

tops_fewer : {p k : Key} {m n : ℕ} → m ≤ n → Tops p k n → Tops p k m
tops_fewer h t = record {
  t0 = fewer _ _ _ _ (omega arith) t.t0;
  t1 = fewer _ _ _ _ (omega arith) t.t1;
  t2 = fewer _ _ _ _ (omega arith) t.t2;
  t3 = fewer _ _ _ _ (omega arith) t.t3;
}

tops_trans : {p q k : Key} {n : ℕ} → Tops p q n → Tops q k n → Tops p k n
tops_trans s t = record { t0 = s.t0 ∙ t.t0; t1 = s.t1 ∙ t.t1; t2 = s.t2 ∙ t.t2; t3 = s.t3 ∙ t.t3 }

tops_sym : {p k : Key} {n : ℕ} → Tops p k n → Tops k p n
tops_sym t = record { t0 = sym t.t0; t1 = sym t.t1; t2 = sym t.t2; t3 = sym t.t3 }

below_is : (p k : Key) → above p k ≡ true → (p.len < k.len) × Tops p k p.len
unfolding above same_top
below_is p k e =
    let a = both_true (ltb p.len k.len) _ e in
    let b = both_true (same_top p.len p.w0 k.w0) _ a.1 in
    let c = both_true (same_top (p.len - 64) p.w1 k.w1) _ b.1 in
    let d = both_true (same_top (p.len - 128) p.w2 k.w2) (same_top (p.len - 192) p.w3 k.w3) c.1 in
    (ltb-true _ _ a.0, record { t0 = eqb-true _ _ b.0; t1 = eqb-true _ _ c.0; t2 = eqb-true _ _ d.0; t3 = eqb-true _ _ d.1 })

is_below : (p k : Key) → p.len < k.len → Tops p k p.len → above p k ≡ true
unfolding above same_top
is_below p k h t = rw (lt-ltb _ _ h, eq-eqb _ _ t.t0, eq-eqb _ _ t.t1, eq-eqb _ _ t.t2, eq-eqb _ _ t.t3)

-- a bit among the first n is the same
same_bit : (p k : Key) (n i : ℕ) → i < n → Tops p k n → bit_at p i ≡ bit_at k i
unfolding bit_at
same_bit p k n i h t = elim (dec_lt i 64) [
  | yes a ↦ rw (lt-ltb i 64 a, fewer p.w0 k.w0 (63 - i) _ (omega arith) t.t0)
  | no a ↦ elim (dec_lt i 128) [
    | yes b ↦ rw (le-ltb i 64 (omega arith), lt-ltb i 128 b, fewer p.w1 k.w1 (127 - i) _ (omega arith) t.t1)
    | no b ↦ elim (dec_lt i 192) [
      | yes c ↦ rw (le-ltb i 64 (omega arith), le-ltb i 128 (omega arith), lt-ltb i 192 c, fewer p.w2 k.w2 (191 - i) _ (omega arith) t.t2)
      | no c ↦ rw (le-ltb i 64 (omega arith), le-ltb i 128 (omega arith), le-ltb i 192 (omega arith), fewer p.w3 k.w3 (255 - i) _ (omega arith) t.t3)
    ]
  ]
]

-- A key is well formed: its length, and its words past it.
pub record Well (k : Key) : Type 0 where
  pub short : k.len ≤ 256
  pub c0 : k.w0 % 2 ^ (64 - k.len) ≡ 0
  pub c1 : k.w1 % 2 ^ (64 - (k.len - 64)) ≡ 0
  pub c2 : k.w2 % 2 ^ (64 - (k.len - 128)) ≡ 0
  pub c3 : k.w3 % 2 ^ (64 - (k.len - 192)) ≡ 0

pub well : (k : Key) → well_key k ≡ true → Well k
unfolding well_key clean
well k e =
    let a = both_true (leb k.len 256) _ e in
    let b = both_true (clean k.len k.w0) _ a.1 in
    let c = both_true (clean (k.len - 64) k.w1) _ b.1 in
    let d = both_true (clean (k.len - 128) k.w2) (clean (k.len - 192) k.w3) c.1 in
    record { short = leb-true _ _ a.0; c0 = eqb-true _ _ b.0; c1 = eqb-true _ _ c.0; c2 = eqb-true _ _ d.0; c3 = eqb-true _ _ d.1 }

whole : (x y n : ℕ) → x / 2 ^ n ≡ y / 2 ^ n → x % 2 ^ n ≡ 0 → y % 2 ^ n ≡ 0 → x ≡ y
whole x y n q a b = sym (div-add-mod' x (2 ^ n)) ∙ rw (q, a, ← b) (div-add-mod' y (2 ^ n))

tops_same : (p k : Key) → Well p → Well k → p.len ≡ k.len → Tops p k p.len → p ≡ k
tops_same p k a b e t =
    let f : (n : ℕ) → 64 - (p.len - n) ≡ 64 - (k.len - n) = λ n. ap (λ (l : ℕ). 64 - (l - n)) e in
    let w0 = whole _ _ _ t.t0 a.c0 (rw e b.c0) in
    let w1 = whole _ _ _ t.t1 a.c1 (rw e b.c1) in
    let w2 = whole _ _ _ t.t2 a.c2 (rw e b.c2) in
    let w3 = whole _ _ _ t.t3 a.c3 (rw e b.c3) in
    λ i. record { len = e i; w0 = w0 i; w1 = w1 i; w2 = w2 i; w3 = w3 i }

-- `Below p s k`: p is a proper ancestor of k, and k lies on the side s of it.
pub record Below (p : Key) (s : Bool) (k : Key) : Type 0 where
  pub wp : well_key p ≡ true
  pub wk : well_key k ≡ true
  pub up : above p k ≡ true
  pub side : toward p k ≡ s

pub data Pre (p k : Key) : Type 0 where
  pre_same : p ≡ k → Pre p k
  pre_up : {s : Bool} → Below p s k → Pre p k

pub below_length : {p k : Key} {s : Bool} → Below p s k → p.len < k.len
below_length {p} {k} b = (below_is p k b.up).0

pub pre_refl : (k : Key) → Pre k k
pre_refl k = pre_same refl

pub below_pre : {p k : Key} {s : Bool} → Below p s k → Pre p k
below_pre b = pre_up b

-- The side is one.
pub side_one : {p k : Key} {s t : Bool} → Below p s k → Below p t k → s ≡ t
side_one g h = sym g.side ∙ h.side

pub below_trans : {p q k : Key} {s : Bool} → Below p s q → Pre q k → Below p s k
below_trans {p} {q} {k} {s} g (pre_same e) = subst (Below p s) e g
below_trans {p} {q} {k} {s} g (pre_up h) =
    let a = below_is p q g.up in
    let b = below_is q k h.up in
    record {
      wp = g.wp;
      wk = h.wk;
      up = is_below p k (omega arith) (tops_trans a.1 (tops_fewer (omega arith) b.1));
      side = unfold toward in (ap (λ (n : ℕ). eqb n 1) (sym (same_bit q k q.len p.len a.0 b.1)) ∙ unfold toward in g.side);
    }

pub pre_trans : {p q k : Key} → Pre p q → Pre q k → Pre p k
pre_trans (pre_same e) h = rw e h
pre_trans (pre_up g) h = pre_up (below_trans g h)

pub below_not_back : {p k : Key} {s : Bool} → Below p s k → Pre k p → ⊥
below_not_back {p} {k} g (pre_same e) = let h : k.len ≡ p.len = ap (λ (x : Key). x.len) e in omega (arith, below_length g)
below_not_back g (pre_up h) = omega (arith, below_length g, below_length h)

-- Two keys that a third begins with: equal, or one below the other on the third's side.
pub data Order (p : Key) (s : Bool) (q : Key) (t : Bool) : Type 0 where
  same : p ≡ q → Order p s q t
  over : Below p s q → Order p s q t
  under : Below q t p → Order p s q t

between : {p q k : Key} {s t : Bool} → Below p s k → Below q t k → p.len < q.len → Below p s q
between {p} {q} {k} {s} g h l =
    let a = below_is p k g.up in
    let b = below_is q k h.up in
    record {
      wp = g.wp;
      wk = h.wp;
      up = is_below p q l (tops_trans a.1 (tops_sym (tops_fewer (omega arith) b.1)));
      side = unfold toward in (ap (λ (n : ℕ). eqb n 1) (same_bit q k q.len p.len l b.1) ∙ unfold toward in g.side);
    }

pub order : {p q k : Key} {s t : Bool} → Below p s k → Below q t k → Order p s q t
order {p} {q} {k} g h = elim (dec_lt p.len q.len) [
  | yes l ↦ over (between g h l)
  | no a ↦ elim (dec_lt q.len p.len) [
    | yes l ↦ under (between h g l)
    | no b ↦ let e : p.len ≡ q.len = omega arith in
        same (tops_same p q (well p g.wp) (well q h.wp) e (tops_trans (below_is p k g.up).1 (tops_sym (rw e (below_is q k h.up).1))))
  ]
]

pub not_below_root : {p : Key} {s : Bool} → Below p s root_key → ⊥
not_below_root b = omega (arith, below_length b)
