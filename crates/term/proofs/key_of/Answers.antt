use Rattle.term.proofs.Laws.{joined}
use Rattle.sha256.specs.Sha256.{sha256, hash_bytes, hash_of}
use lib.Seq.{length-take-le}
use mathlib.Core.Path.{ap, sym, ◌∙◌}
use borrow.Author.Rules.{rules}
use Rattle.term.proofs.key_of.Goals as goal

pub slice_bounds-hash_of-end : goal.slice_bounds-hash_of-end
slice_bounds-hash_of-end c = sym (length-take-le _ _ (search rules))

pub returns : goal.returns
unfolding sha256
returns c = c.hash_bytes.ensures
    ∙ ap hash_bytes (c.hash_of.ensures
    ∙ ap hash_of (joined _ _ _ _ _ _ _ c.put_bytes-n.ensures.1 c.put_bytes-e.ensures.1 c.put_bytes-n.ensures.0 c.put_bytes-e.ensures.0 (search rules)))
