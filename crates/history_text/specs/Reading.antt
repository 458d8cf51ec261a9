-- Reading a line from the front of a text, where the names of these tables are known.
use Rattle.std.specs.Prelude.{ℕ, ℤ, ◌^◌, List, length, take, drop, codes, position, Option, Some, None, nat_le, if◌then◌else◌}
use Rattle.std.specs.List.{prefix_len}
use Rattle.std.specs.Str.{bytes_eq}
use Rattle.orca_base.specs.declared.fault.FaultKind.{FaultKind}
use Rattle.orca_base.specs.declared.fault.FaultKind.TheVariants as fault
use Rattle.orca_base.specs.declared.ids.CallNo.{CallNo}
use Rattle.orca_base.specs.declared.ids.KindNo.{KindNo}
use Rattle.orca_base.specs.declared.ids.ObjectId.{ObjectId}
use Rattle.orca_base.specs.declared.ids.OpNo.{OpNo}
use Rattle.orca_base.specs.declared.ids.ProcessNo.{ProcessNo}
use Rattle.orca_base.specs.declared.limits.TheConstants.{PARAMETERS, VALUE_NESTING}
use Rattle.value_core.specs.Datum.{Data, data_of}
use Rattle.value_core.specs.View.{value_of}
use Rattle.value_core.specs.declared.action.Action.{Action}
use Rattle.value_core.specs.declared.action.Action.TheVariants as action
use Rattle.value_core.specs.declared.action.Line.{Line}
use Rattle.value_core.specs.declared.action.Reply.{Reply}
use Rattle.value_core.specs.declared.action.Reply.TheVariants as answer
use Rattle.value_texts.specs.Reading.{◌>>=◌, Reads, begins, integer_at, natural_at, natural_below, object_id_at, sign_at, value_at, values_at, word_at}
use Rattle.history_text.specs.declared.names.Names.{Names}
use Rattle.history_text.specs.Sound.{is_name_byte}
use Rattle.history_text.specs.Spelling.{operation_names}

-- the number of a name in a table
abbrev pub number_of : List (List ℕ) → List ℕ → Option ℕ
number_of names name = position (λ other. bytes_eq other name) names

-- how many bytes in front may belong to a name
abbrev pub name_len : List ℕ → ℕ
name_len text = prefix_len is_name_byte text

-- a name in front, with all such bytes that stand there
unfoldable pub named_at : List (List ℕ) → List ℕ → Reads ℕ
named_at names text = number_of names (take (name_len text) text) >>= λ n. Some (n, drop (name_len text) text)

unfoldable pub object_at : List ℕ → Reads ObjectId
object_at text = sign_at 111 text >>= λ rest. object_id_at rest

-- arguments, as many as one call may have
unfoldable pub arguments_at : List ℕ → Reads Data
arguments_at text = values_at text >>= λ x. if nat_le (length x.0) PARAMETERS then Some (data_of x.0, x.1) else None

-- where a fork is placed
unfoldable pub place_from : Option (List ℕ) → List ℕ → Reads (Option ℤ)
place_from (Some rest) text = Some (None, rest)
place_from None text = integer_at text >>= λ z. Some (Some z.0, z.1)

unfoldable pub place_at : List ℕ → Reads (Option ℤ)
place_at text = place_from (word_at (codes "parent") text) text

-- an action and its guard, behind its word
unfoldable pub make_at : Names → List ℕ → Reads (Action × ℕ)
make_at names text = do
  kind ← named_at names.kinds.items text
  rest ← sign_at 32 kind.1
  object ← object_at rest
  Some ((action.Make (record { 0 = kind.0 }) object.0, 0), object.1)

-- the names of a type and of its operation
unfoldable pub called_at : Names → List ℕ → Reads (KindNo × OpNo)
called_at names text = do
  kind ← named_at names.kinds.items text
  rest ← sign_at 36 kind.1
  op ← named_at (operation_names names kind.0) rest
  Some ((record { 0 = kind.0 }, record { 0 = op.0 }), op.1)

-- arguments and a guard
unfoldable pub guarded_at : List ℕ → Reads (Data × ℕ)
guarded_at text = do
  args ← arguments_at text
  rest ← word_at (codes " guard ") args.1
  guard ← natural_below (2 ^ 16) rest
  Some ((args.0, guard.0), guard.1)

unfoldable pub call_at : Names → List ℕ → Reads (Action × ℕ)
call_at names text = do
  called ← called_at names text
  rest ← sign_at 32 called.1
  object ← object_at rest
  more ← sign_at 32 object.1
  given ← guarded_at more
  Some ((action.Call called.0.0 called.0.1 object.0 given.0.0, given.0.1), given.1)

unfoldable pub fork_at : Names → List ℕ → Reads (Action × ℕ)
fork_at names text = do
  process ← named_at names.texts.items text
  rest ← sign_at 32 process.1
  args ← arguments_at rest
  last ← word_at (codes " on ") args.1
  place ← place_at last
  Some ((action.Fork (record { 0 = process.0 }) args.0 place.0, 0), place.1)

unfoldable pub action_at : Names → List ℕ → Reads (Action × ℕ)
action_at names text =
    if begins 109 text then (word_at (codes "make ") text >>= λ rest. make_at names rest)
    else (if begins 99 text then (word_at (codes "call ") text >>= λ rest. call_at names rest)
    else (word_at (codes "fork ") text >>= λ rest. fork_at names rest))

-- the fault with this name
unfoldable pub fault_of : List ℕ → Option FaultKind
fault_of name =
    if bytes_eq name (codes "Overflow") then Some fault.Overflow
    else (if bytes_eq name (codes "DivideByZero") then Some fault.DivideByZero
    else (if bytes_eq name (codes "IndexOutside") then Some fault.IndexOutside
    else (if bytes_eq name (codes "FromEmpty") then Some fault.FromEmpty
    else (if bytes_eq name (codes "TooLarge") then Some fault.TooLarge
    else (if bytes_eq name (codes "TooLong") then Some fault.TooLong
    else (if bytes_eq name (codes "TooDeep") then Some fault.TooDeep
    else (if bytes_eq name (codes "NoReturn") then Some fault.NoReturn else None)))))))

unfoldable pub fault_at : List ℕ → Reads Reply
fault_at text = fault_of (take (name_len text) text) >>= λ kind. Some (answer.Broke kind, drop (name_len text) text)

unfoldable pub given_at : Option (List ℕ) → List ℕ → Reads Reply
given_at (Some rest) text = fault_at rest
given_at None text = value_at VALUE_NESTING text >>= λ v. Some (answer.Gave (value_of v.0), v.1)

unfoldable pub reply_at : List ℕ → Reads Reply
reply_at text =
    if begins 110 text then (word_at (codes "none") text >>= λ rest. Some (answer.Done, rest))
    else given_at (word_at (codes "fault ") text) text

-- a process and the number of its call
unfoldable pub caller_at : List ℕ → Reads (ProcessNo × CallNo)
caller_at text = do
  process ← natural_below (2 ^ 16) text
  rest ← sign_at 32 process.1
  call ← natural_at rest
  Some ((record { 0 = process.0 }, record { 0 = call.0 }), call.1)

-- a reply and the line feed behind it
unfoldable pub last_at : List ℕ → Reads Reply
last_at text = reply_at text >>= λ reply. sign_at 10 reply.1 >>= λ rest. Some (reply.0, rest)

-- a line with its line feed
unfoldable pub line_at : Names → List ℕ → Reads Line
line_at names text = do
  caller ← caller_at text
  rest ← sign_at 32 caller.1
  act ← action_at names rest
  more ← sign_at 32 act.1
  reply ← last_at more
  Some (record { process = caller.0.0; call = caller.0.1; action = act.0.0; guard = act.0.1; reply = reply.0 }, reply.1)
