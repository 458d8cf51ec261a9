-- How many bytes spell values, replies and messages. A value has a tag of one byte before its content.
use Rattle.std.specs.Prelude.{ℕ, ℤ, ◌+◌, ◌-◌, ◌^◌, Option, None, Some, length, min}
use Rattle.value_core.specs.Datum.{Datum, Data}
use Rattle.value_core.specs.Datum as datum
use Rattle.value_core.specs.View.{datum_of}
use Rattle.value_core.specs.declared.action.Action.{Action}
use Rattle.value_core.specs.declared.action.Action.TheVariants as action
use Rattle.value_core.specs.declared.action.Reply.{Reply}
use Rattle.value_core.specs.declared.action.Reply.TheVariants as answer
use Rattle.value_core.specs.declared.message.Message.{Message}

-- 8 bytes for an integer, 1 for a truth or a char, 2 for an enumeration's value, 6 for an object's name; a string, an array, a
-- record, a set or a bag has 4 for its length, and then a byte for each char, or the parts
abbrev mutual
  pub value_length : Datum → ℕ
  value_length (datum.int z) = 9
  value_length (datum.truth b) = 2
  value_length (datum.char c) = 2
  value_length (datum.enumerated n) = 3
  value_length (datum.text t) = length t + 5
  value_length (datum.array w) = values_length w + 5
  value_length (datum.fields w) = values_length w + 5
  value_length (datum.set w) = values_length w + 5
  value_length (datum.bag w) = values_length w + 5
  value_length (datum.object p n) = 7

  pub values_length : Data → ℕ
  values_length datum.none = 0
  values_length (datum.more v w) = value_length v + values_length w

-- a byte that says whether a fork names a member, and the integer that names it
abbrev pub place_length : Option ℤ → ℕ
place_length None = 1
place_length (Some place) = 9

-- a tag, then 2 bytes for a type, an operation or a text, 6 for an object, and 1 for the number of arguments before them; a
-- process's end is no message, and has no bytes
abbrev pub action_length : Action → ℕ
action_length (action.Make kind object) = 9
action_length (action.Call kind op object args) = values_length args + 12
action_length (action.Fork process args place_on) = values_length args + (place_length place_on + 4)
action_length action.Ended = 0
action_length (action.Faulted fault) = 0

-- 2 bytes for the process and 8 for the call, then the action
abbrev pub message_length : Message → ℕ
message_length message = action_length message.action + 10

-- a tag, and then the value or the fault's number
abbrev pub answer_length : Reply → ℕ
answer_length answer.Done = 1
answer_length (answer.Gave value) = value_length (datum_of value) + 1
answer_length (answer.Broke fault) = 2

-- a length as 32 bits tell it: it stops at the greatest
abbrev pub told_length : ℕ → ℕ
told_length n = min n (2 ^ 32 - 1)
