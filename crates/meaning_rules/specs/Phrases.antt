-- Phrases of which the examples are built: those of a text whose places are left out.
use Rattle.std.specs.Prelude.{ℕ, pos, List, [], ◌∷◌, codes, Option, Some, None}
use Rattle.orca_tree.specs.declared.tree.Name.{Name}
use Rattle.orca_tree.specs.declared.tree.Mode.{Mode}
use Rattle.orca_tree.specs.declared.tree.Operator.{Operator}
use Rattle.orca_syntax.specs.Bare.{nowhere}
use Rattle.orca_syntax.specs.Syntax as syn
use Rattle.orca_syntax.specs.Syntax.{Expr, Links, Exprs, Kind, Stmt, Stmts, Arm, Arms, Variables, TypedName, Parameter, Head, Guard, Body, Operation, Block, Decl}
use Rattle.link_rules.specs.Units.{Source}

abbrev pub name : List ℕ → Name
name text = record { at = nowhere; text = text }

-- ---- expressions

abbrev pub number : ℕ → Expr
number n = syn.Number nowhere (pos n)

abbrev pub get : List ℕ → Expr
get text = syn.Get (name text) syn.here

abbrev pub joined : Expr → Operator → Expr → Expr
joined left operator right = syn.Chain left (syn.link operator right syn.no_link)

abbrev pub arguments : List Expr → Exprs
arguments [] = syn.no_expr
arguments (e ∷ es) = syn.expr e (arguments es)

-- ---- statements

abbrev pub statements : List Stmt → Stmts
statements [] = syn.no_stmt
statements (s ∷ ss) = syn.stmt s (statements ss)

abbrev pub set : List ℕ → Expr → Stmt
set text e = syn.Assign (name text) syn.here e

abbrev pub write_line : Exprs → Stmt
write_line es = syn.WriteLine nowhere es

abbrev pub arms : List Arm → Arms
arms [] = syn.no_arm
arms (a ∷ as_) = syn.arm a (arms as_)

-- ---- declarations

abbrev pub variables : List Name → Kind → Variables
variables names kind = record { names = names; kind = kind }

abbrev pub typed_name : Name → Kind → TypedName
typed_name n kind = record { name = n; kind = kind }

abbrev pub parameter : Name → Mode → Kind → Parameter
parameter n mode kind = record { name = n; mode = mode; kind = kind }

abbrev pub head : Name → List TypedName → Option Kind → Head
head n parameters result = record { at = nowhere; name = n; parameters = parameters; result = result }

abbrev pub guard : Expr → Stmts → Guard
guard test body = record { at = nowhere; test = test; body = body }

abbrev pub operation : Head → List Variables → Body → Operation
operation h variables body = record { head = h; variables = variables; body = body }

abbrev pub block : List Variables → Stmts → Block
block variables body = record { variables = variables; statements = body }

-- a program of one text
abbrev pub program : List Decl → List Source
program declarations = record { file = []; syntax = record { name = None; imports = []; declarations = declarations } } ∷ []

-- texts of several modules
abbrev pub in_module : List ℕ → List Decl → Source
in_module m declarations = record { file = []; syntax = record { name = Some (name m); imports = []; declarations = declarations } }

abbrev pub importing : List Name → List Decl → Source
importing imports declarations = record { file = []; syntax = record { name = None; imports = imports; declarations = declarations } }

-- the process `OrcaMain`
abbrev pub main : List Variables → Stmts → Decl
main variables body = syn.Process nowhere (name (codes "OrcaMain")) [] (block variables body)
