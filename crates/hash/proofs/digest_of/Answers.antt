use native.Mathlib.Omega.{arith}
use Rattle.std.proofs.Common.{◌∙◌}
use Rattle.value.proofs.Laws.{value_length_lem}
use Rattle.hash.proofs.Laws.{digest_is, written_front, written_within, written_length}
use Rattle.hash.proofs.digest_of.Goals as goal

pub write_value-n-requires : goal.write_value-n-requires
write_value-n-requires c = omega (arith, value_length_lem c.args.v)

pub slice_bounds-b-end : goal.slice_bounds-b-end
slice_bounds-b-end c = written_within _ _ _ _ c.write_value-n.ensures.0 c.write_value-n.ensures.1 (value_length_lem c.args.v)

pub slice_bounds-hash_of-end : goal.slice_bounds-hash_of-end
slice_bounds-hash_of-end c = written_length _ _ _ _ c.write_value-n.ensures.0 c.write_value-n.ensures.1 (value_length_lem c.args.v)

pub returns : goal.returns
returns c = c.into.ensures ∙ digest_is _ _ _ _ (written_front _ _ _ _ c.write_value-n.ensures.0 c.write_value-n.ensures.1 (value_length_lem c.args.v)) c.hash_of.ensures c.hash_words.ensures
