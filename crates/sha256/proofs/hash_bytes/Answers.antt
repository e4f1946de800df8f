use Rattle.sha256.proofs.Laws.{hash_written}
use mathlib.Core.Path.{refl}
use Rattle.sha256.proofs.hash_bytes.Goals as goal

pub returns : goal.returns
returns c = hash_written c.args.s _ _ _ refl c.hash_words.ensures c.put_four.ensures
