use Rattle.std.proofs.Common.{◌≡◌, ◌++◌}
use Rattle.std.specs.Vec.Iter.{into_iter_items}
use Rattle.letter_bytes.proofs.letters.shared_messages.Given as goal

abbrev pub invariant-messages : goal.invariant-messages
invariant-messages l = l.all.items ++ into_iter_items l.message-iterator ≡ l.fn.messages.items
