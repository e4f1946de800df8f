use Rattle.words.proofs.Laws.{splice_three, bytes_length}
use Rattle.entry.specs.Entries.{entry_bytes}
use native.Mathlib.Omega.{arith}
use mathlib.Core.Path.{refl}
use borrow.Author.Rules.{rules}
use Rattle.writer.proofs.write_whole.Goals as goal

pub returns : goal.returns
unfolding entry_bytes
returns c = rw (← c.tag_of.ensures, ← c.requires.0) (splice_three _ _ _ _ 0 1 3 _ _ _ c.put_u8.ensures c.put_number.ensures c.write_body.ensures refl (omega (arith, bytes_length 2 c.args.n)) (search rules))
