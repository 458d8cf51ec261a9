-- What messages of pools and flags ask for.
use Rattle.std.specs.Prelude.{◌≡◌, ℕ, ℤ, List, [], ◌∷◌, Option, None, Some, pos}
use Rattle.orca_base.specs.declared.ids.KindNo.{KindNo}
use Rattle.orca_base.specs.declared.ids.OpNo.{OpNo}
use Rattle.orca_base.specs.declared.ids.ObjectId.{ObjectId}
use Rattle.value_core.specs.Datum.{Data, Datum, list_of}
use Rattle.value_core.specs.Datum as datum
use Rattle.value_core.specs.declared.action.Action.TheVariants as action
use Rattle.value_core.specs.declared.message.Message.{Message}

-- the integer alone, or nothing
abbrev pub given : Option ℤ → List Datum
given None = []
given (Some number) = datum.int number ∷ []

-- this process, in this line of its own, calls the operation of the object, with this argument where there is one
pub record AsksCall (m : Message) (process line : ℕ) (operation : KindNo × OpNo) (object : ObjectId) (argument : Option ℤ) : Type 0 where
  pub args : Data
  pub caller : m.process.0 ≡ process
  pub numbered : m.call.0 ≡ line
  pub calls : m.action ≡ action.Call operation.0 operation.1 object args
  pub hands : list_of args ≡ given argument

-- this process, in this line of its own, forks the text 1 on the member 1, and hands it the object and the number
pub record AsksFork (m : Message) (process line : ℕ) (object : ObjectId) (number : ℤ) : Type 0 where
  pub args : Data
  pub caller : m.process.0 ≡ process
  pub numbered : m.call.0 ≡ line
  pub forks : m.action ≡ action.Fork (record { 0 = 1 }) args (Some (pos 1))
  pub hands : list_of args ≡ datum.object object.process object.number ∷ datum.int number ∷ []
