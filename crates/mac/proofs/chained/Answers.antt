use mathlib.Core.Path.{◌≡◌, refl}
use native.Mathlib.Omega.{arith}
use Rattle.mac.specs.Cmac.{chain}
use Rattle.mac.proofs.Laws.{chain_more}
use Rattle.mac.proofs.chained.Goals as goal

pub loop-i-init : goal.loop-i-init
unfolding chain
loop-i-init c = refl

pub loop-i-preserved : goal.loop-i-preserved
loop-i-preserved c = let l = c.loop-i in chain_more _ _ l.i l.x _ _ _ l.invariant c.block_at.ensures c.bitxor.ensures c.encrypt_block-x.ensures

pub returns : goal.returns
returns c = let l = c.loop-i in let e : l.i ≡ c.args.n = omega arith in rw e at l.invariant
