use Rattle.sha256.proofs.Laws.{one_block, two_blocks}
use Rattle.sha256.specs.Sha256.{Hash, compress, hash_of}
use lib.ListN.{take, drop}
use mathlib.Core.Path.{ap, ◌∙◌}
use borrow.Author.Rules.{rules}
use Rattle.sha256.proofs.hash_of.Goals as goal

pub returns-then-n-lt56 : goal.returns-then-n-lt56
unfolding hash_of
returns-then-n-lt56 c = c.compressed-s.ensures
    ∙ ap (λ (s : Hash). compress s (take 64 c.ending-b.result)) c.absorb.ensures
    ∙ one_block c.args.m.now c.ending-b.result (search rules) c.ending-b.ensures c.if-n-lt56.true

pub returns-else-n-lt56 : goal.returns-else-n-lt56
unfolding hash_of
returns-else-n-lt56 c = c.compressed.ensures
    ∙ ap (λ (s : Hash). compress s (take 64 (drop 64 c.ending-b.result)))
    (c.compressed-s.ensures ∙ ap (λ (s : Hash). compress s (take 64 c.ending-b.result)) c.absorb.ensures)
    ∙ two_blocks c.args.m.now c.ending-b.result (search rules) c.ending-b.ensures c.if-n-lt56.false
