-- The messages so far are written, and are such messages.
use Rattle.std.proofs.Common.{◌≡◌, ◌++◌, All, length, take}
use Rattle.std.specs.List.{flat_map}
use Rattle.packet_bytes.specs.Sound.{IsMessage}
use Rattle.packet_bytes.specs.Spelling.{four, message_spelling}
use Rattle.packet_bytes.proofs.writing.put_messages.Given as goal

abbrev pub invariant-loop-message : goal.invariant-loop-message
invariant-loop-message l =
    (l.out.items ≡ l.fn.out.items ++ (four (length l.messages) ++ flat_map message_spelling (take l.message-index l.messages)))
    × All IsMessage (take l.message-index l.messages)
