-- Where a message's spelling stands in bytes.
use Rattle.std.specs.Prelude.{◌≡◌, ℕ, ◌-◌, ◌≤◌, List, length, take, drop}
use Rattle.value_core.specs.declared.message.Message.{Message}
use Rattle.packet_bytes.specs.Spelling.{message_spelling}

-- the bytes from one place up to the other are the message's spelling
pub record StandsAt (bytes : List ℕ) (from end : ℕ) (m : Message) : Type 0 where
  pub behind : from ≤ end
  pub within : end ≤ length bytes
  pub spelled : take (end - from) (drop from bytes) ≡ message_spelling m
