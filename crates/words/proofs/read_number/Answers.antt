use Rattle.std.proofs.Common.{◌∙◌, arith}
use Rattle.words.proofs.Laws.{number_padded, number_lt}
use Rattle.words.proofs.read_number.Goals as goal

pub returns : goal.returns
returns g c =
    let s = c.args.s.now in
    let e = c.from_be_bytes.ensures ∙ number_padded g.row.N c.args.at s _ c.requires.narrow c.requires.there c.put_bytes.ensures.1 in
    record { value = e; fits = rw e (number_lt g.row.N s c.args.at (λ i. omega (arith, c.type_inv.s i))) }
