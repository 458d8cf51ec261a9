-- The one spelling of each message, reply and packet in bytes (docs/RUNTIME.md, Packets in bytes). All numbers are big-endian, and
-- integers are in two's complement.
use Rattle.std.specs.Prelude.{ℕ, ℤ, Bool, List, [], ◌∷◌, ◌++◌, Option, None, Some, length, if◌then◌else◌}
use Rattle.std.specs.Int.{w16, w32, w64, cast_unsigned, to_be_bytes}
use Rattle.std.specs.List.{flat_map}
use Rattle.orca_base.specs.declared.ids.ObjectId.{ObjectId}
use Rattle.orca_base.specs.declared.fault.FaultKind.{FaultKind}
use Rattle.orca_base.specs.declared.fault.FaultKind.TheVariants.{Overflow, DivideByZero, IndexOutside, FromEmpty, TooLarge, TooLong, TooDeep, NoReturn}
use Rattle.value_core.specs.Datum.{Data, list_of}
use Rattle.value_core.specs.View.{datum_of}
use Rattle.value_core.specs.declared.action.Action.{Action}
use Rattle.value_core.specs.declared.action.Action.TheVariants as action
use Rattle.value_core.specs.declared.action.Reply.{Reply}
use Rattle.value_core.specs.declared.action.Reply.TheVariants as answer
use Rattle.value_core.specs.declared.message.Message.{Message}
use Rattle.value_bytes.specs.Spelling.{spelling, spellings}
use Rattle.group_packets.specs.declared.packet.Packet.{Packet}
use Rattle.group_packets.specs.declared.packet.Packet.TheVariants as packet

-- 2, 4 and 8 bytes
unfoldable pub two : ℕ → List ℕ
two n = to_be_bytes w16 n

unfoldable pub four : ℕ → List ℕ
four n = to_be_bytes w32 n

unfoldable pub eight : ℕ → List ℕ
eight n = to_be_bytes w64 n

-- 2 bytes for the process, and 4 for the number
unfoldable pub object_spelling : ObjectId → List ℕ
object_spelling object = two object.process ++ four object.number

-- the byte 0, or the byte 1 and 8 bytes for the integer that names a member
unfoldable pub place_spelling : Option ℤ → List ℕ
place_spelling None = 0 ∷ []
place_spelling (Some place) = 1 ∷ eight (cast_unsigned w64 place)

-- a byte for their number, and then the values
unfoldable pub arguments_spelling : Data → List ℕ
arguments_spelling args = length (list_of args) ∷ spellings args

-- a tag; 2 bytes for a type, an operation or a text, and 6 for an object; an action that isn't ordered has no bytes
abbrev pub action_spelling : Action → List ℕ
action_spelling (action.Make kind object) = 1 ∷ two kind.0 ++ object_spelling object
action_spelling (action.Call kind op object args) = 2 ∷ two kind.0 ++ two op.0 ++ object_spelling object ++ arguments_spelling args
action_spelling (action.Fork process args place_on) = 3 ∷ two process.0 ++ place_spelling place_on ++ arguments_spelling args
action_spelling action.Ended = []
action_spelling (action.Faulted fault) = []

-- 2 bytes for the process and 8 for the call, and then the action
unfoldable pub message_spelling : Message → List ℕ
message_spelling message = two message.process.0 ++ eight message.call.0 ++ action_spelling message.action

-- 4 bytes for their number, and then the messages
unfoldable pub messages_spelling : List Message → List ℕ
messages_spelling messages = four (length messages) ++ flat_map message_spelling messages

-- a fault's number, in order
abbrev pub fault_number : FaultKind → ℕ
fault_number Overflow = 0
fault_number DivideByZero = 1
fault_number IndexOutside = 2
fault_number FromEmpty = 3
fault_number TooLarge = 4
fault_number TooLong = 5
fault_number TooDeep = 6
fault_number NoReturn = 7

-- the byte 0 for none, 1 and a value, or 2 and the fault's number
unfoldable pub reply_spelling : Reply → List ℕ
reply_spelling answer.Done = 0 ∷ []
reply_spelling (answer.Gave value) = 1 ∷ spelling (datum_of value)
reply_spelling (answer.Broke fault) = 2 ∷ fault_number fault ∷ []

-- a byte for a truth
abbrev pub truth_byte : Bool → ℕ
truth_byte b = if b then 1 else 0

-- a byte for their number, and one for each
unfoldable pub members_spelling : List ℕ → List ℕ
members_spelling members = length members ∷ members

-- the tag of its kind, 8 bytes for the incarnation, and then the fields in order: 8 bytes each, but for a process 2, and for whether
-- all is lacking 1
abbrev pub packet_spelling : Packet Message Reply → List ℕ
packet_spelling (packet.Request incarnation applied message) = 1 ∷ eight incarnation ++ eight applied ++ message_spelling message
packet_spelling (packet.Body incarnation applied message) = 2 ∷ eight incarnation ++ eight applied ++ message_spelling message
packet_spelling (packet.Order incarnation number process call accepted stable) =
    3 ∷ eight incarnation ++ eight number ++ two process.0 ++ eight call.0 ++ eight accepted ++ eight stable
packet_spelling (packet.Entry incarnation number accepted stable message) =
    4 ∷ eight incarnation ++ eight number ++ eight accepted ++ eight stable ++ message_spelling message
packet_spelling (packet.Ack incarnation length applied) = 5 ∷ eight incarnation ++ eight length ++ eight applied
packet_spelling (packet.Accept incarnation accepted stable) = 6 ∷ eight incarnation ++ eight accepted ++ eight stable
packet_spelling (packet.Nack incarnation first applied whole) =
    7 ∷ eight incarnation ++ eight first ++ eight applied ++ truth_byte whole ∷ []
packet_spelling (packet.Status incarnation length applied) = 8 ∷ eight incarnation ++ eight length ++ eight applied
packet_spelling (packet.Invite incarnation) = 9 ∷ eight incarnation
packet_spelling (packet.Join join) =
    10 ∷ eight join.incarnation ++ eight join.installed ++ eight join.accepted ++ eight join.applied ++ eight join.base ++
    messages_spelling join.messages
packet_spelling (packet.Result news) =
    11 ∷ eight news.incarnation ++ eight news.accepted ++ eight news.base ++ members_spelling news.members ++
    messages_spelling news.messages
packet_spelling (packet.Ask incarnation place message) = 12 ∷ eight incarnation ++ eight place ++ message_spelling message
packet_spelling (packet.Answer incarnation place process call reply) =
    13 ∷ eight incarnation ++ eight place ++ two process.0 ++ eight call.0 ++ reply_spelling reply
