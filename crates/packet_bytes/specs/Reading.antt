-- Reading messages, replies and packets from the front of a list of bytes, with the first fault from the left (docs/RUNTIME.md, Packets
-- in bytes). Fields are read as values are (value_bytes/specs/Reading.antt): `end` is the number of bytes given, so that the first byte
-- of `bytes` has the place `end - length bytes`, and a field's wrong byte is NotCanonical, which a packet calls BadField.
use Rattle.std.specs.Prelude.{◌≡◌, ℕ, ℤ, ◌-◌, refl, Bool, true, ◌&&◌, List, [], ◌∷◌, length, drop, Option, Some, None, Result, Ok, Err, nat_lt, nat_le, ◌==◌, if◌then◌else◌}
use Rattle.std.specs.Int.{w16, w32, w64, cast_signed}
use Rattle.orca_base.specs.declared.ids.ObjectId.{ObjectId}
use Rattle.orca_base.specs.declared.ids.ProcessNo.{ProcessNo}
use Rattle.orca_base.specs.declared.ids.CallNo.{CallNo}
use Rattle.orca_base.specs.declared.ids.KindNo.{KindNo}
use Rattle.orca_base.specs.declared.ids.OpNo.{OpNo}
use Rattle.orca_base.specs.declared.ids.TextNo.{TextNo}
use Rattle.orca_base.specs.declared.fault.FaultKind.{FaultKind}
use Rattle.orca_base.specs.declared.fault.FaultKind.TheVariants.{Overflow, DivideByZero, IndexOutside, FromEmpty, TooLarge, TooLong, TooDeep, NoReturn}
use Rattle.orca_base.specs.declared.limits.TheConstants.{VALUE_NESTING}
use Rattle.orca_base.specs.declared.refusal.Refusal.{Refusal}
use Rattle.orca_base.specs.declared.refusal.Refusal.TheVariants.{Because, NoMemory}
use Rattle.value_core.specs.Datum.{Data, data_of}
use Rattle.value_core.specs.View.{value_of}
use Rattle.value_core.specs.declared.action.Action.TheVariants as action
use Rattle.value_core.specs.declared.action.Reply.{Reply}
use Rattle.value_core.specs.declared.action.Reply.TheVariants as answer
use Rattle.value_core.specs.declared.message.Message.{Message}
use Rattle.value_bytes.specs.declared.fault.ValueError.{ValueError}
use Rattle.value_bytes.specs.declared.fault.ValueError.TheVariants as fault
use Rattle.value_bytes.specs.Reading.{Reads, ◌>>=◌, number_at, byte_at, items_at, value_at}
use Rattle.group_packets.specs.declared.packet.Packet.{Packet}
use Rattle.group_packets.specs.declared.packet.Packet.TheVariants as packet
use Rattle.packet_bytes.specs.declared.fault.PacketError.{PacketError}
use Rattle.packet_bytes.specs.declared.fault.PacketError.TheVariants.{Short, BadTag, BadField, Trailing}

-- what any may follow
abbrev pub any : {X : Type 0} → Option X → X → Bool
any last x = true

-- a byte from 1 to 3
unfoldable pub choice_at : ℕ → List ℕ → Reads ℕ
choice_at end [] = Err (fault.Short end)
choice_at end (b ∷ rest) = if nat_le 1 b && nat_le b 3 then Ok (b, rest) else Err (fault.NotCanonical (end - length (b ∷ rest)))

-- 2 bytes of process, and 4 of number
unfoldable pub object_at : ℕ → List ℕ → Reads ObjectId
object_at end bytes = do
  process ← number_at w16 end bytes
  number ← number_at w32 end process.1
  Ok (record { process = process.0; number = number.0 }, number.1)

-- the integer behind the byte 1
unfoldable pub named_at : ℕ → List ℕ → Reads (Option ℤ)
named_at end bytes = number_at w64 end bytes >>= λ n. Ok (Some (cast_signed w64 n.0), n.1)

-- a byte 0 for none, or a byte 1 and an integer
unfoldable pub place_at : ℕ → List ℕ → Reads (Option ℤ)
place_at end bytes = byte_at 1 end bytes >>= λ b. if b.0 == 0 then Ok (None, b.1) else named_at end b.1

-- a byte of count, and so many values
unfoldable pub arguments_at : ℕ → List ℕ → Reads Data
arguments_at end bytes = do
  n ← byte_at 255 end bytes
  values ← items_at (value_at end VALUE_NESTING) any end n.0 None n.1
  Ok (data_of values.0, values.1)

-- the message by which this process, as this call, makes an object, calls an operation or forks a process
abbrev pub made : ProcessNo → CallNo → KindNo → ObjectId → Message
made process call kind object = record { process = process; call = call; action = action.Make kind object; performable = refl }

abbrev pub called : ProcessNo → CallNo → KindNo → OpNo → ObjectId → Data → Message
called process call kind op object args =
    record { process = process; call = call; action = action.Call kind op object args; performable = refl }

abbrev pub forked : ProcessNo → CallNo → TextNo → Data → Option ℤ → Message
forked process call text args place_on =
    record { process = process; call = call; action = action.Fork text args place_on; performable = refl }

-- the fields of each
unfoldable pub make_at : ℕ → ProcessNo → CallNo → List ℕ → Reads Message
make_at end process call bytes = do
  kind ← number_at w16 end bytes
  object ← object_at end kind.1
  Ok (made process call (record { 0 = kind.0 }) object.0, object.1)

unfoldable pub call_at : ℕ → ProcessNo → CallNo → List ℕ → Reads Message
call_at end process call bytes = do
  kind ← number_at w16 end bytes
  op ← number_at w16 end kind.1
  object ← object_at end op.1
  args ← arguments_at end object.1
  Ok (called process call (record { 0 = kind.0 }) (record { 0 = op.0 }) object.0 args.0, args.1)

unfoldable pub fork_at : ℕ → ProcessNo → CallNo → List ℕ → Reads Message
fork_at end process call bytes = do
  text ← number_at w16 end bytes
  place_on ← place_at end text.1
  args ← arguments_at end place_on.1
  Ok (forked process call (record { 0 = text.0 }) args.0 place_on.0, args.1)

-- what stands behind the action's byte
abbrev pub action_at : ℕ → ℕ → ProcessNo → CallNo → List ℕ → Reads Message
action_at tag end process call bytes =
    if tag == 1 then make_at end process call bytes
    else (if tag == 2 then call_at end process call bytes
    else fork_at end process call bytes)

-- 2 bytes of process, 8 of call, a byte for the action, and then its fields
unfoldable pub message_at : ℕ → List ℕ → Reads Message
message_at end bytes = do
  process ← number_at w16 end bytes
  call ← number_at w64 end process.1
  tag ← choice_at end call.1
  action_at tag.0 end (record { 0 = process.0 }) (record { 0 = call.0 }) tag.1

-- 4 bytes of count, and so many messages
unfoldable pub messages_at : ℕ → List ℕ → Reads (List Message)
messages_at end bytes = number_at w32 end bytes >>= λ n. items_at (message_at end) any end n.0 None n.1

-- the fault with this number
abbrev pub fault_of : ℕ → FaultKind
fault_of n =
    if n == 0 then Overflow
    else (if n == 1 then DivideByZero
    else (if n == 2 then IndexOutside
    else (if n == 3 then FromEmpty
    else (if n == 4 then TooLarge
    else (if n == 5 then TooLong
    else (if n == 6 then TooDeep
    else NoReturn))))))

-- the value behind the byte 1, and the fault's number behind the byte 2
unfoldable pub gave_at : ℕ → List ℕ → Reads Reply
gave_at end bytes = value_at end VALUE_NESTING bytes >>= λ v. Ok (answer.Gave (value_of v.0), v.1)

unfoldable pub broke_at : ℕ → List ℕ → Reads Reply
broke_at end bytes = byte_at 7 end bytes >>= λ n. Ok (answer.Broke (fault_of n.0), n.1)

-- a byte 0 for none, 1 and a value, or 2 and a fault's number
unfoldable pub reply_at : ℕ → List ℕ → Reads Reply
reply_at end bytes = byte_at 2 end bytes >>= λ tag.
    if tag.0 == 0 then Ok (answer.Done, tag.1) else (if tag.0 == 1 then gave_at end tag.1 else broke_at end tag.1)

-- each member is greater than the one before it
abbrev pub rises : Option ℕ → ℕ → Bool
rises None m = true
rises (Some l) m = nat_lt l m

-- a byte of count, and so many members below 16, rising
unfoldable pub members_at : ℕ → List ℕ → Reads (List ℕ)
members_at end bytes = byte_at 255 end bytes >>= λ n. items_at (byte_at 15 end) rises end n.0 None n.1

-- the fields of each kind behind an incarnation
abbrev pub ReadsPacket : Type 0
ReadsPacket = ℕ → ℕ → List ℕ → Reads (Packet Message Reply)

unfoldable pub request_at : ReadsPacket
request_at end incarnation bytes = do
  applied ← number_at w64 end bytes
  message ← message_at end applied.1
  Ok (packet.Request incarnation applied.0 message.0, message.1)

unfoldable pub body_at : ReadsPacket
body_at end incarnation bytes = do
  applied ← number_at w64 end bytes
  message ← message_at end applied.1
  Ok (packet.Body incarnation applied.0 message.0, message.1)

unfoldable pub order_at : ReadsPacket
order_at end incarnation bytes = do
  number ← number_at w64 end bytes
  process ← number_at w16 end number.1
  call ← number_at w64 end process.1
  accepted ← number_at w64 end call.1
  stable ← number_at w64 end accepted.1
  Ok (packet.Order incarnation number.0 (record { 0 = process.0 }) (record { 0 = call.0 }) accepted.0 stable.0, stable.1)

unfoldable pub entry_at : ReadsPacket
entry_at end incarnation bytes = do
  number ← number_at w64 end bytes
  accepted ← number_at w64 end number.1
  stable ← number_at w64 end accepted.1
  message ← message_at end stable.1
  Ok (packet.Entry incarnation number.0 accepted.0 stable.0 message.0, message.1)

unfoldable pub ack_at : ReadsPacket
ack_at end incarnation bytes = do
  length ← number_at w64 end bytes
  applied ← number_at w64 end length.1
  Ok (packet.Ack incarnation length.0 applied.0, applied.1)

unfoldable pub accept_at : ReadsPacket
accept_at end incarnation bytes = do
  accepted ← number_at w64 end bytes
  stable ← number_at w64 end accepted.1
  Ok (packet.Accept incarnation accepted.0 stable.0, stable.1)

unfoldable pub nack_at : ReadsPacket
nack_at end incarnation bytes = do
  first ← number_at w64 end bytes
  applied ← number_at w64 end first.1
  whole ← byte_at 1 end applied.1
  Ok (packet.Nack incarnation first.0 applied.0 (whole.0 == 1), whole.1)

unfoldable pub status_at : ReadsPacket
status_at end incarnation bytes = do
  length ← number_at w64 end bytes
  applied ← number_at w64 end length.1
  Ok (packet.Status incarnation length.0 applied.0, applied.1)

unfoldable pub join_at : ReadsPacket
join_at end incarnation bytes = do
  installed ← number_at w64 end bytes
  accepted ← number_at w64 end installed.1
  applied ← number_at w64 end accepted.1
  base ← number_at w64 end applied.1
  messages ← messages_at end base.1
  Ok (
    packet.Join (record {
      incarnation = incarnation;
      installed = installed.0;
      accepted = accepted.0;
      applied = applied.0;
      base = base.0;
      messages = messages.0;
    }),
    messages.1,
  )

unfoldable pub result_at : ReadsPacket
result_at end incarnation bytes = do
  accepted ← number_at w64 end bytes
  base ← number_at w64 end accepted.1
  members ← members_at end base.1
  messages ← messages_at end members.1
  Ok (
    packet.Result (record {
      incarnation = incarnation;
      accepted = accepted.0;
      base = base.0;
      members = members.0;
      messages = messages.0;
    }),
    messages.1,
  )

unfoldable pub ask_at : ReadsPacket
ask_at end incarnation bytes = do
  place ← number_at w64 end bytes
  message ← message_at end place.1
  Ok (packet.Ask incarnation place.0 message.0, message.1)

unfoldable pub answer_at : ReadsPacket
answer_at end incarnation bytes = do
  place ← number_at w64 end bytes
  process ← number_at w16 end place.1
  call ← number_at w64 end process.1
  reply ← reply_at end call.1
  Ok (packet.Answer incarnation place.0 (record { 0 = process.0 }) (record { 0 = call.0 }) reply.0, reply.1)

-- the fields of the kind with this tag
unfoldable pub fields_at : ℕ → ReadsPacket
fields_at tag =
    if tag == 1 then request_at
    else (if tag == 2 then body_at
    else (if tag == 3 then order_at
    else (if tag == 4 then entry_at
    else (if tag == 5 then ack_at
    else (if tag == 6 then accept_at
    else (if tag == 7 then nack_at
    else (if tag == 8 then status_at
    else (if tag == 9 then (λ end incarnation bytes. Ok (packet.Invite incarnation, bytes))
    else (if tag == 10 then join_at
    else (if tag == 11 then result_at
    else (if tag == 12 then ask_at
    else answer_at)))))))))))

-- an incarnation, and then the fields of the kind with this tag
unfoldable pub content_at : ℕ → ℕ → List ℕ → Reads (Packet Message Reply)
content_at tag end bytes = number_at w64 end bytes >>= λ incarnation. fields_at tag end incarnation.0 incarnation.1

-- a field's fault, as packets tell it
abbrev pub in_field : ValueError → PacketError
in_field (fault.Short at) = Short at
in_field (fault.BadTag at) = BadField at
in_field (fault.NotCanonical at) = BadField at

abbrev pub told : {X : Type 0} → Result X ValueError → Result X PacketError
told (Ok x) = Ok x
told (Err e) = Err (in_field e)

-- what is read, where no byte is left
abbrev pub whole : {X : Type 0} → ℕ → Reads X → Result X PacketError
whole end (Ok (x, [])) = Ok x
whole end (Ok (x, b ∷ rest)) = Err (Trailing (end - length (b ∷ rest)))
whole end (Err e) = Err (in_field e)

-- the packet that all of the bytes are
unfoldable pub packet_at : List ℕ → Result (Packet Message Reply) PacketError
packet_at [] = Err (Short 0)
packet_at (tag ∷ rest) =
    if nat_le 1 tag && nat_le tag 13 then whole (length (tag ∷ rest)) (content_at tag (length (tag ∷ rest)) rest) else Err (BadTag 0)

-- the message at a place, and the place behind it
unfoldable pub found_at : List ℕ → ℕ → Result (Message × ℕ) PacketError
found_at bytes at = told (message_at (length bytes) (drop at bytes) >>= λ x. Ok (x.0, length bytes - length x.1))

-- what a function returned is what reading gives, unless memory ran out
abbrev pub Answers : {X : Type 0} → Result X (Refusal PacketError) → Result X PacketError → Type 0
Answers (Ok x) read = read ≡ Ok x
Answers (Err (Because cause)) read = read ≡ Err cause
Answers (Err NoMemory) read = Unit {0}
