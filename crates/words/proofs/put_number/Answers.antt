use Rattle.std.proofs.Common.{◌∙◌, ◌+◌, ◌-◌, ◌≤◌, ◌≡◌, List, ℕ, ap, arith, drop, take, sym}
use Rattle.std.specs.Int.{bytes_high_first}
use Rattle.words.specs.Splices.{splice}
use Rattle.words.specs.Numbers.{bytes_of}
use Rattle.std.proofs.Math.Seq.{take_all}
use Rattle.words.proofs.Laws.{bytes_length, high_last}
use Rattle.words.proofs.put_number.Goals as goal

-- the last n bytes of std's eight
last : (n x : ℕ) (b : List ℕ) → n ≤ 8 → b ≡ bytes_high_first 8 x → take (8 - (8 - n)) (drop (8 - n) b) ≡ bytes_of n x
last n x b h e =
    let k : (8 - n) + n ≡ 8 = omega arith in
    let d : drop (8 - n) b ≡ bytes_of n x = ap (drop (8 - n)) (e ∙ ap (λ (j : ℕ). bytes_high_first j x) (sym k)) ∙ high_last (8 - n) n x in
    ap (take (8 - (8 - n))) d ∙ take_all _ (bytes_of n x) (omega (arith, bytes_length n x))

pub returns : goal.returns
returns g c = c.put_bytes.ensures.1 ∙ ap (splice c.args.s.now c.args.at) (last g.row.N c.args.x _ c.requires.narrow c.to_be_bytes-bytes.ensures)
