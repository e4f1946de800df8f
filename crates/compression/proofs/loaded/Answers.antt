use Rattle.compression.proofs.Laws.{words_more}
use Rattle.compression.specs.Compression.{words}
use Rattle.std.proofs.Common.{◌≡◌, refl, arith, length-set, rules}
use Rattle.compression.proofs.loaded.Goals as goal

pub loop-i-init : goal.loop-i-init
unfolding words
loop-i-init c = (refl, refl)

pub loop-i-preserved : goal.loop-i-preserved
loop-i-preserved c =
    let l = c.loop-i in (
      simp length-set l.invariant.0,
      words_more _ l.w l.i _ (search rules) l.invariant.1 c.read_number.ensures.value,
    )

pub returns : goal.returns
returns c =
    let l = c.loop-i in
    let e : l.i ≡ 16 = omega arith in
    rw e at l.invariant.1
