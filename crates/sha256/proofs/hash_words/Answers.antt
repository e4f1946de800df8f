use Rattle.sha256.proofs.Laws.{words_joined}
use Rattle.sha256.proofs.hash_words.Goals as goal

pub returns : goal.returns
returns c = words_joined c.args.s _ _ _ _ c.joined.ensures c.joined-2.ensures c.joined-3.ensures c.joined-4.ensures
