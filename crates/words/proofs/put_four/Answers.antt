use Rattle.words.proofs.Laws.{splice_four, bytes_length}
use borrow.Author.Rules.{rules}
use Rattle.words.proofs.put_four.Goals as goal

pub returns : goal.returns
returns c = splice_four _ _ _ _ _ _ 8 16 24 _ _ _ _ c.put_number.ensures c.put_number-2.ensures c.put_number-3.ensures c.put_number-4.ensures (bytes_length 8 _) (simp bytes_length) (simp bytes_length) (search rules)
