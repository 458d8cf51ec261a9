-- Functions and processes, whose bodies may hold objects (docs/RUNTIME.md, Choice of copies).
use Rattle.std.specs.Prelude.{ℕ, Bool, true, false, List, filter, length, Option, Some, None, option_and_then}
use Rattle.orca_tree.specs.declared.tree.Name.{Name}
use Rattle.orca_syntax.specs.Syntax.{Stmts}
use Rattle.link_rules.specs.Units.{Source}
use Rattle.type_rules.specs.Types.{object_in, outside_of}
use Rattle.type_rules.specs.TopLevel as top
use Rattle.type_rules.specs.TopLevel.{What, TopName, top_names}
use Rattle.type_rules.specs.Scopes.{Scope, own_names}
use Rattle.meaning_rules.specs.Designators.{root_type}
use Rattle.meaning_rules.specs.Programs.{function_scope, process_scope}

-- a function or a process: where its body stands, how many parameters it has, the names of these with those of its variables behind them,
-- and its statements
pub record Routine : Type 0 where
  pub scope : Scope
  pub parameters : ℕ
  pub names : List Name
  pub statements : Stmts

abbrev pub routine_in : List Source → List ℕ → What → Option Routine
routine_in us m (top.Function ps r b) = Some
    (record { scope = function_scope us m ps r b; parameters = length ps; names = own_names ps b; statements = b.statements })
routine_in us m (top.Process ps b) = Some
    (record { scope = process_scope us m ps b; parameters = length ps; names = own_names ps b; statements = b.statements })
routine_in us m _ = None

-- what a name of the top level is as one
abbrev pub routine_of : List Source → TopName → Option Routine
routine_of us t = routine_in us t.defined.by t.what

abbrev pub runs : What → Bool
runs (top.Function ps r b) = true
runs (top.Process ps b) = true
runs _ = false

abbrev pub is_routine : TopName → Bool
is_routine t = runs t.what

abbrev pub count_routines : List Source → ℕ
count_routines us = length (filter is_routine (top_names us))

-- the number of a name's object type, where it is an object
abbrev pub object_type_number : Scope → Name → Option ℕ
object_type_number w n = option_and_then (λ t. object_in (outside_of t)) (root_type w n)
