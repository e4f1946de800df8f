use Rattle.words.proofs.Laws.{splice_step}
use Rattle.value.proofs.Laws.{fingerprint_length}
use Rattle.std.proofs.Common.{sym, refl, arith}
use Rattle.value.specs.Values.{fingerprint_bytes}
use Rattle.value.proofs.write_fingerprint.Goals as goal

pub returns : goal.returns
unfolding fingerprint_bytes
returns c = (splice_step _ _ _ _ 1 _ _ c.put_u8.ensures c.write.ensures refl (omega (arith, fingerprint_length c.args.d)), sym (fingerprint_length _))
