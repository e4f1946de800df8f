use borrow.Author.Rules.{rules}
use Rattle.aes.proofs.Laws.{block_put}
use Rattle.aes.proofs.block_bytes.Goals as goal

pub returns : goal.returns
returns c = block_put c.args.s _ _ _ _ _ (search rules) (rw c.from.ensures at c.put_number.ensures) (rw c.from-2.ensures at c.put_number-2.ensures) (rw c.from-3.ensures at c.put_number-3.ensures) (rw c.from-4.ensures at c.put_number-4.ensures)
