-- The limits of a program beside the rules: of its tokens and declared names together, and of parameters (docs/LANGUAGE.md, Typing).
use Rattle.std.specs.Prelude.{◌≡◌, ◌≤◌, ◌+◌, ◌*◌, nat_le, ℕ, Bool, true, List, length, Some, None}
use Rattle.std.specs.List.{list_all, sum_by}
use Rattle.orca_base.specs.declared.limits.TheConstants.{CODE_LENGTH, PARAMETERS}
use Rattle.orca_grammar.specs.Forms.{spelled}
use Rattle.orca_syntax.specs.Derivation.{syntax_marks}
use Rattle.orca_syntax.specs.Syntax as syn
use Rattle.orca_syntax.specs.Syntax.{Stmt, Stmts, Arm, Arms, Guard, Head, Body, Operation, Block, Definition, Decl, Syntax}
use Rattle.link_rules.specs.Units.{Source}
use Rattle.type_rules.specs.Scopes.{variable_names}
use Rattle.type_rules.specs.TopLevel as top
use Rattle.type_rules.specs.TopLevel.{What, top_names}

-- ---- names at the places where they are declared

abbrev mutual
  -- the loop variables of a statement
  pub loops_in : Stmt → ℕ
  loops_in (syn.If at as_) = loops_in_arms as_
  loops_in (syn.While at test ss) = loops_in_all ss
  loops_in (syn.For at n low high ss) = 1 + loops_in_all ss
  loops_in (syn.Repeat at ss test) = loops_in_all ss
  loops_in _ = 0

  pub loops_in_all : Stmts → ℕ
  loops_in_all syn.no_stmt = 0
  loops_in_all (syn.stmt s ss) = loops_in s + loops_in_all ss

  pub loops_in_arm : Arm → ℕ
  loops_in_arm (syn.When test ss) = loops_in_all ss
  loops_in_arm (syn.Otherwise ss) = loops_in_all ss

  pub loops_in_arms : Arms → ℕ
  loops_in_arms syn.no_arm = 0
  loops_in_arms (syn.arm a as_) = loops_in_arm a + loops_in_arms as_

abbrev pub loops_in_body : Body → ℕ
loops_in_body (syn.Guarded first others) = loops_in_all first.body + sum_by (λ g. loops_in_all g.body) others
loops_in_body (syn.Plain ss) = loops_in_all ss

-- of a block its variables, and of an operation its name too and its parameters
abbrev pub names_in_block : Block → ℕ
names_in_block b = length (variable_names b.variables) + loops_in_all b.statements

abbrev pub names_in_head : Head → ℕ
names_in_head h = 1 + length h.parameters

abbrev pub names_in_operation : Operation → ℕ
names_in_operation o = names_in_head o.head + (length (variable_names o.variables) + loops_in_body o.body)

-- the fields of a record, and the values of an enumeration
abbrev pub names_in_definition : Definition → ℕ
names_in_definition (syn.Record at fields) = length fields
names_in_definition (syn.Enumeration at names) = length names
names_in_definition (syn.Alias k) = 0

abbrev pub names_declared : Decl → ℕ
names_declared (syn.Constant at n value) = 1
names_declared (syn.Declares at n of) = 1 + names_in_definition of
names_declared (syn.Specification at n heads) = 1 + sum_by names_in_head heads
names_declared (syn.Implementation at n fields operations (Some opening)) =
    1 + (length (variable_names fields) + (sum_by names_in_operation operations + loops_in_all opening))
names_declared (syn.Implementation at n fields operations None) = 1 + (length (variable_names fields) + sum_by names_in_operation operations)
names_declared (syn.Function at n parameters result body) = 1 + (length parameters + names_in_block body)
names_declared (syn.Process at n parameters body) = 1 + (length parameters + names_in_block body)

abbrev pub declared_count : Syntax → ℕ
declared_count s = sum_by names_declared s.declarations

-- ---- the limits

-- the tokens of a text, and its declared names
abbrev pub words_in : Source → ℕ
words_in u = length (spelled (syntax_marks u.syntax)) + declared_count u.syntax

-- a function, process or operation has no more parameters than may be
abbrev pub has_few_parameters : What → Bool
has_few_parameters (top.Function ps r b) = nat_le (length ps) PARAMETERS
has_few_parameters (top.Process ps b) = nat_le (length ps) PARAMETERS
has_few_parameters (top.Specified hs) = list_all (λ h. nat_le (length h.parameters) PARAMETERS) hs
has_few_parameters (top.Implemented os) = list_all (λ o. nat_le (length o.head.parameters) PARAMETERS) os
has_few_parameters _ = true

-- 20 instructions for each token and each declared name are no more than a program's code may have
pub record IsWithinLimits (us : List Source) : Type 0 where
  pub words : 20 * sum_by words_in us ≤ CODE_LENGTH
  pub parameters : list_all (λ t. has_few_parameters t.what) (top_names us) ≡ true
