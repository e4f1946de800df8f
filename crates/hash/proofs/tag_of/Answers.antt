use Rattle.cmac.specs.Tags.{tag_words}
use Rattle.cmac.specs.Cmac.{cmac}
use Prim.Native.Nat.{ℕ}
use mathlib.Core.List.{List}
use mathlib.Core.Path.{ap, ◌∙◌}
use Rattle.message.proofs.Laws.{message_short}
use Rattle.hash.proofs.Laws.{written_front, written_within, written_length}
use Rattle.hash.proofs.tag_of.Goals as goal

pub write_message-n-requires : goal.write_message-n-requires
write_message-n-requires c = message_short c.args.m

pub slice_bounds-b-end : goal.slice_bounds-b-end
slice_bounds-b-end c = written_within _ _ _ _ c.write_message-n.ensures.0 c.write_message-n.ensures.1 (message_short c.args.m)

pub slice_bounds-mac-end : goal.slice_bounds-mac-end
slice_bounds-mac-end c = written_length _ _ _ _ c.write_message-n.ensures.0 c.write_message-n.ensures.1 (message_short c.args.m)

pub returns : goal.returns
returns c = c.mac.ensures ∙ ap (λ (l : List ℕ). tag_words (cmac c.args.x.now.bytes l)) (written_front _ _ _ _ c.write_message-n.ensures.0 c.write_message-n.ensures.1 (message_short c.args.m))
