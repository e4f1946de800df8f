use mathlib.Core.Path.{◌≡◌, refl}
use native.Mathlib.Omega.{arith}
use Rattle.aes.proofs.Laws.{subs, subs_more, subs_fits, substituted_is}
use Rattle.aes.proofs.substituted.Goals as goal

pub loop-b-init : goal.loop-b-init
unfolding subs
loop-b-init c = refl

pub overflow_add-v : goal.overflow_add-v
overflow_add-v c = record { fits = subs_fits c.rows-b-items.result c.loop-b.b-index c.loop-b.v _ c.sub_at.ensures }

pub loop-b-preserved : goal.loop-b-preserved
loop-b-preserved c = subs_more _ c.loop-b.b-index c.loop-b.v _ c.loop-b.invariant c.sub_at.ensures

pub returns : goal.returns
returns c =
    let l = c.loop-b in
    let e : l.b-index ≡ 4 = omega arith in
    let a = c.args in
    substituted_is a.w a.x a.y a.z _ l.b-index l.v c.rows-b-items.ensures e l.invariant
