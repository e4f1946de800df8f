use borrow.Author.Rules.{rules}
use Rattle.sha256.proofs.Laws.{ending_is}
use lib.ListN.{length-set}
use native.Mathlib.Omega.{arith}
use Rattle.sha256.proofs.ending.Goals as goal

pub put_number-requires : goal.put_number-requires
put_number-requires c = record { there = simp length-set (omega arith); narrow = search rules }

pub returns : goal.returns
returns c = rw c.put_number.ensures (ending_is _ _ c.args.x c.put_bytes-end.result (search rules) c.put_bytes-end.ensures.0 c.put_bytes-end.ensures.1)
