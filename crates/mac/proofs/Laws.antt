-- Laws of the chain, and of a block that is filled up. Assumes nothing.
use mathlib.Core.Path.{◌≡◌, ap, ap₂, sym, ◌∙◌}
use mathlib.Core.List.{List, ◌++◌}
use Prim.Native.Nat.{ℕ, zero, suc, ◌+◌, ◌-◌, ◌*◌, ◌<◌}
use native.Mathlib.Nat.{zero-add, sub-zero, zero-sub, suc-sub-suc}
use native.Mathlib.Numerals.{add-one}
use native.Mathlib.Omega.{arith}
use lib.ListN.{length, drop, set, replicate}
use lib.Seq.{set-append_seam}
use Rattle.words.specs.Numbers.{zeros}
use Rattle.words.specs.Splices.{splice}
use Rattle.aes.specs.Aes.{cipher, block_at}
use Rattle.aes.specs.declared.Block.{Block}
use Rattle.mac.specs.Cmac.{xor_block, chain, padding}

-- ---- the chain

-- one more block
pub chain_more : (w m : List ℕ) (i : ℕ) (x u v r : Block) → x ≡ chain w m i → u ≡ block_at m (16 * i) → v ≡ xor_block x u → r ≡ cipher w v → r ≡ chain w m (i + 1)
unfolding chain
chain_more w m i x u v r ex eu ev er = er ∙ ap (cipher w) (ev ∙ ap₂ xor_block ex eu) ∙ sym (ap (chain w m) (add-one i))

-- ---- a block that is filled up

drop_zeros : (n k : ℕ) → drop {A = ℕ} k (replicate n 0) ≡ replicate (n - k) 0
drop_zeros n zero = rw sub-zero
drop_zeros zero (suc k) = rw zero-sub
drop_zeros (suc n) (suc k) = rw suc-sub-suc (drop_zeros n k)

pub filled_is : (l b : List ℕ) (end : ℕ) → length l < 16 → end ≡ 0 + length l → b ≡ splice (replicate 16 0) 0 l → set b end 0x80 ≡ padding l
unfolding zeros splice
filled_is l b end h e p =
    let n : 16 - length l ≡ suc (15 - length l) = omega arith in
    let q : b ≡ l ++ replicate (suc (15 - length l)) 0 = p ∙ ap (λ (x : List ℕ). l ++ x) (ap (λ (k : ℕ). drop {A = ℕ} k (replicate 16 0)) (zero-add (length l)) ∙ drop_zeros 16 (length l) ∙ ap (λ (k : ℕ). replicate {A = ℕ} k 0) n) in
    ap₂ (λ (x : List ℕ) (k : ℕ). set x k 0x80) q (e ∙ zero-add (length l)) ∙ set-append_seam l 0 (replicate (15 - length l) 0) 0x80
