use Rattle.std.proofs.Common.{◌≡◌, take}
use Rattle.letter_bytes.proofs.letters.owned_messages.Given as goal

abbrev pub invariant-messages : goal.invariant-messages
invariant-messages l = l.copied.items ≡ take l.message-index l.messages
