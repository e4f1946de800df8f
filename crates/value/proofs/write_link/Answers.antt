use Rattle.value.proofs.Laws.{digest_length}
use Rattle.key.proofs.Laws.{key_length}
use Rattle.words.proofs.Laws.{splice_four}
use mathlib.Core.Path.{refl}
use Rattle.value.specs.Values.{link_bytes}
use borrow.Author.Rules.{rules}
use Rattle.value.proofs.write_link.Goals as goal

pub returns : goal.returns
unfolding link_bytes
returns c = splice_four _ _ _ _ _ _ 1 35 67 _ _ _ _ c.put_u8.ensures c.write.ensures c.write-2.ensures (rw c.from.ensures at c.put_u8-2.ensures) refl (simp key_length) (simp digest_length) (search rules)
