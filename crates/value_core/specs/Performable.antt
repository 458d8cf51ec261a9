-- Actions that the group orders, and that a line can have: a make, a call or a fork.
use Rattle.std.specs.Prelude.{Bool, true, false}
use Rattle.value_core.specs.declared.action.Action.{Action}
use Rattle.value_core.specs.declared.action.Action.TheVariants as action

-- whether it is one
abbrev pub is_performable : Action → Bool
is_performable (action.Make kind object) = true
is_performable (action.Call kind op object args) = true
is_performable (action.Fork process args place_on) = true
is_performable action.Ended = false
is_performable (action.Faulted fault) = false
