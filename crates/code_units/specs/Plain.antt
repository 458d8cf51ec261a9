-- A body of statements alone: of a function, and of a making.
use Rattle.orca_syntax.specs.Syntax.{Stmts}
use Rattle.type_rules.specs.Scopes.{Scope}
use Rattle.meaning_rules.specs.Functions.{opened}
use Rattle.code_rules.specs.Instructions.{Instr}
use Rattle.code_rules.specs.Machine.{Body}
use Rattle.code_rules.specs.Phrases.{depth_all}
use Rattle.code_rules.specs.Bodies.{body_piece}

abbrev pub plain_body : Scope → Stmts → Instr → Body
plain_body w ss last = record { code = body_piece w (depth_all ss) ss last 0; opens = opened w.program w.locals; spare = depth_all ss }
