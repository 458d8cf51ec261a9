-- What functions and processes run: where their statements stand, and whether they have a result.
use Rattle.std.specs.Prelude.{◌≡◌, ℕ, Bool, false, List, is_some, slice_get, Option, Some, None, option_and_then}
use Rattle.orca_base.specs.declared.ids.TextNo.{TextNo}
use Rattle.orca_syntax.specs.Syntax.{Stmts}
use Rattle.orca_syntax.specs.Shown.{stmts}
use Rattle.link_rules.specs.Units.{Source}
use Rattle.type_rules.specs.TopLevel as top
use Rattle.type_rules.specs.TopLevel.{TopName, What, top_names}
use Rattle.type_rules.specs.Scopes.{Scope}
use Rattle.meaning_rules.specs.Programs.{function_scope, process_scope, process_texts}
use Rattle.program_bodies.specs.declared.blocks.BlockCode.{BlockCode}
use Rattle.program_bodies.specs.Bodies.{IsBody}

pub record Routine : Type 0 where
  pub scope : Scope
  pub statements : Stmts
  pub has_result : Bool

abbrev pub function_in : List Source → TopName → What → Option Routine
function_in us t (top.Function ps r b) =
    Some (record { scope = function_scope us t.defined.by ps r b; statements = b.statements; has_result = is_some r })
function_in us t _ = None

abbrev pub process_in : List Source → TopName → What → Option Routine
process_in us t (top.Process ps b) =
    Some (record { scope = process_scope us t.defined.by ps b; statements = b.statements; has_result = false })
process_in us t _ = None

-- what a name of the top level runs as a function, and as a process
abbrev pub function_of : List Source → TopName → Option Routine
function_of us t = function_in us t t.what

abbrev pub process_of : List Source → TopName → Option Routine
process_of us t = process_in us t t.what

-- the function with this number at the top, and the process with this text
abbrev pub function_at : List Source → ℕ → Option Routine
function_at us i = option_and_then (function_of us) (slice_get (top_names us) i)

abbrev pub process_at : List Source → TextNo → Option Routine
process_at us text = option_and_then (process_of us) (slice_get (process_texts us) text.0)

-- this is the code of it
pub record IsBlockCode (c : BlockCode) (r : Routine) : Type 0 where
  pub body : IsBody c.body r.scope
  pub statements : stmts c.statements.now ≡ r.statements
  pub has_result : c.has_result ≡ r.has_result
