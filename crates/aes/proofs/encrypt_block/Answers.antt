use mathlib.Core.Path.{◌≡◌}
use native.Mathlib.Omega.{arith}
use Rattle.aes.proofs.Laws.{key_added, first_round, more_rounds, cipher_is}
use Rattle.aes.proofs.encrypt_block.Goals as goal

pub loop-i-init : goal.loop-i-init
loop-i-init c = first_round _ c.args.s _ _ (key_added _ 0 _ _ _ (omega arith) c.block_at.ensures c.bitxor.ensures) c.one_round-x.ensures

pub loop-i-preserved : goal.loop-i-preserved
loop-i-preserved c = let l = c.loop-i in more_rounds _ _ l.x _ l.i (omega arith) l.invariant c.one_round-x-in-loop-i.ensures

pub returns : goal.returns
returns c = let l = c.loop-i in let e : l.i ≡ 10 = omega arith in cipher_is _ c.args.s l.x _ l.i l.invariant e c.last_round.ensures
