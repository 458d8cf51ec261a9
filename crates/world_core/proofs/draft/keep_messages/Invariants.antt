use Rattle.std.proofs.Common.{◌≡◌, ◌+◌, ◌++◌, length}
use Rattle.std.specs.Vec.Iter.{into_iter_items}
use Rattle.world_core.specs.Drafting.{behind}
use Rattle.world_core.proofs.draft.keep_messages.Given as goal

abbrev pub invariant-messages : goal.invariant-messages
invariant-messages l =
    (l.entries.items ++ behind l.known l.place (into_iter_items l.message-iterator) ≡ l.fn.entries.items ++ behind l.known l.applied l.fn.messages.items)
    × (l.place + length (into_iter_items l.message-iterator) ≡ l.applied + length l.fn.messages.items)
