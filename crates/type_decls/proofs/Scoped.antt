-- A scope, by its parts.
use Rattle.std.proofs.Common.{ℕ, Bool, List, Option}
use Rattle.link_rules.specs.Units.{Source}
use Rattle.type_rules.specs.declared.types.DataType.{DataType}
use Rattle.type_rules.specs.declared.names.Owner.{Owner}
use Rattle.type_rules.specs.Scopes.{Local, Scope}

abbrev pub body_scope : List Source → List ℕ → List Local → Owner → Option (Option DataType) → Bool → Scope
body_scope us m ls owner result in_guard = record { program = us; home = m; locals = ls; owner = owner; result = result; in_guard = in_guard }
