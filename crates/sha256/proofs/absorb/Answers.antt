use Rattle.std.proofs.Common.{◌∙◌, length, length-append, ap, arith}
use Rattle.std.specs.Slice.Iter.{chunks_exact_rest, chunks_exact_size}
use Rattle.sha256.proofs.Laws.{absorbed_none, absorbed_more, absorbed_all}
use Rattle.sha256.proofs.absorb.Goals as goal

pub loop-b-init : goal.loop-b-init
loop-b-init c =
    let e = c.into_iter-b-iterator.ensures.into_iter_gives in
    (ap chunks_exact_size e ∙ c.chunks_exact-b-items.ensures.size, absorbed_none _ _ (ap chunks_exact_rest e ∙ c.chunks_exact-b-items.ensures.rest))

pub loop-b-preserved : goal.loop-b-preserved
loop-b-preserved c =
    let l = c.loop-b in
    let n = c.in-Some.ensures.steps in
    (n.0 ∙ l.invariant.0, absorbed_more _ _ _ c.in-Some.b.now l.s _ (length l.yielded) _ l.invariant.1 n.1.0 (n.1.1 ∙ l.invariant.0) c.compressed-s.ensures (length-append l.yielded _))

pub returns : goal.returns
returns c =
    let l = c.loop-b in
    let n = c.in-None.ensures.steps in
    absorbed_all _ (chunks_exact_rest l.b-iterator) l.s (length l.yielded) l.invariant.1 (omega (arith, n.1.0, l.invariant.0))
