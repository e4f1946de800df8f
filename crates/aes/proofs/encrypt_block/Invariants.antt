use mathlib.Core.Path.{◌≡◌}
use Prim.Native.Nat.{◌-◌}
use Rattle.aes.specs.Aes.{add_round_key, rounds, key_words}
use Rattle.aes.proofs.encrypt_block.Given as goal

abbrev pub invariant-loop-i : goal.invariant-loop-i
invariant-loop-i l = let w = key_words l.k in l.x ≡ rounds w (l.i - 1) (add_round_key w 0 l.fn.s)
