-- Programs that tell single phrases apart: operators of one level, relations, opening values, and which of two comes first. For the rows
-- that are computed of them.
use Rattle.std.specs.Prelude.{pos, true, false, List, [], ◌∷◌, codes, Some, None}
use Rattle.orca_tree.specs.declared.tree.Bound.TheVariants as bounds
use Rattle.orca_tree.specs.declared.tree.Mode.TheVariants as mode
use Rattle.orca_tree.specs.declared.tree.Operator.TheVariants as op
use Rattle.orca_tree.specs.declared.tree.Name.{Name}
use Rattle.orca_tree.specs.declared.tree.Operator.{Operator}
use Rattle.orca_syntax.specs.Bare.{nowhere}
use Rattle.orca_syntax.specs.Syntax as syn
use Rattle.orca_syntax.specs.Syntax.{Decl, Expr, Stmt}
use Rattle.link_rules.specs.Units.{Source}
use Rattle.meaning_rules.specs.Phrases.{name, number, get, joined, arguments, statements, set, write_line, arms, variables, parameter, block, program, main}

-- ---- operators, opening values, `else` and `return`

-- one operator twice between three operands
abbrev pub joined_twice : Expr → Operator → Expr → Expr → Expr
joined_twice first operator second third = syn.Chain first (syn.link operator second (syn.link operator third syn.no_link))

-- process OrcaMain();
--   b: boolean; c: char; n: nodename; s: string;
-- begin
--   WriteLine(10 - 4 - 3, " ", 100 / 7 / 2, " ", "a" & "b" & "c");
--   WriteLine(b, ord(c), n = nil, size(s));
--   WriteLine(1 /= 1, 1 /= 2, 1 <= 1, 2 <= 1, 1 >= 1, 1 >= 2, not true);
--   if false then WriteLine("yes"); else WriteLine("no"); fi;
--   return;
--   WriteLine("never");
-- end;
abbrev pub phrases : List Source
phrases =
    program
    (main
    (variables (name (codes "b") ∷ []) (syn.Boolean nowhere)
    ∷ variables (name (codes "c") ∷ []) (syn.Character nowhere)
    ∷ variables (name (codes "n") ∷ []) (syn.Named (name (codes "nodename")))
    ∷ variables (name (codes "s") ∷ []) (syn.String nowhere) ∷ [])
    (statements
    (write_line
    (arguments
    (joined_twice (number 10) op.Subtract (number 4) (number 3)
    ∷ syn.Text nowhere (codes " ")
    ∷ joined_twice (number 100) op.Divide (number 7) (number 2)
    ∷ syn.Text nowhere (codes " ")
    ∷ joined_twice (syn.Text nowhere (codes "a")) op.Join (syn.Text nowhere (codes "b"))
    (syn.Text nowhere (codes "c")) ∷ []))
    ∷ write_line
    (arguments
    (get (codes "b")
    ∷ syn.Ordinal nowhere (get (codes "c"))
    ∷ joined (get (codes "n")) op.Equal (get (codes "nil"))
    ∷ syn.Size nowhere (get (codes "s")) ∷ []))
    ∷ write_line
    (arguments
    (joined (number 1) op.Different (number 1)
    ∷ joined (number 1) op.Different (number 2)
    ∷ joined (number 1) op.AtMost (number 1)
    ∷ joined (number 2) op.AtMost (number 1)
    ∷ joined (number 1) op.AtLeast (number 1)
    ∷ joined (number 1) op.AtLeast (number 2)
    ∷ syn.Not nowhere (syn.Truth nowhere true) ∷ []))
    ∷ syn.If nowhere
    (arms
    (syn.When (syn.Truth nowhere false)
    (statements (write_line (arguments (syn.Text nowhere (codes "yes") ∷ [])) ∷ []))
    ∷ syn.Otherwise (statements (write_line (arguments (syn.Text nowhere (codes "no") ∷ [])) ∷ [])) ∷ []))
    ∷ syn.Return nowhere None
    ∷ write_line (arguments (syn.Text nowhere (codes "never") ∷ [])) ∷ [])) ∷ [])

-- ---- which of two comes first: `from(s)`, of an empty set, is FromEmpty, and 1 / 0 is DivideByZero

abbrev pub from_set : Expr
from_set = syn.From nowhere (name (codes "s")) syn.here

abbrev pub by_zero : Expr
by_zero = joined (number 1) op.Divide (number 0)

abbrev pub the_set : syn.Variables
the_set = variables (name (codes "s") ∷ []) (syn.Set nowhere (syn.Integer nowhere))

abbrev pub pair_of : syn.Kind → syn.Kind
pair_of k = syn.Array nowhere (bounds.Number nowhere (pos 1)) (bounds.Number nowhere (pos 2)) k

-- process OrcaMain();
--   s: set of integer; m: array [1..2] of array [1..2] of integer;
-- begin m[from(s)][1 / 0] := 1; end;
abbrev pub two_indices : List Source
two_indices =
    program
    (main (the_set ∷ variables (name (codes "m") ∷ []) (pair_of (pair_of (syn.Integer nowhere))) ∷ [])
    (statements
    (syn.Assign (name (codes "m")) (syn.to (syn.Index nowhere from_set) (syn.to (syn.Index nowhere by_zero) syn.here))
    (number 1) ∷ [])) ∷ [])

-- function g(a: integer; b: integer); begin end;
-- process OrcaMain();
--   s: set of integer;
-- begin g(from(s), 1 / 0); end;
abbrev pub two_arguments : List Source
two_arguments =
    program
    (syn.Function nowhere (name (codes "g"))
    (parameter (name (codes "a")) mode.Value (syn.Integer nowhere)
    ∷ parameter (name (codes "b")) mode.Value (syn.Integer nowhere) ∷ []) None (block [] syn.no_stmt)
    ∷ main (the_set ∷ []) (statements (Stmt.Call (name (codes "g")) (arguments (from_set ∷ by_zero ∷ [])) ∷ [])) ∷ [])

-- process OrcaMain();
--   s: set of integer;
-- begin for i in from(s)..1 / 0 do od; end;
abbrev pub low_first : List Source
low_first =
    program (main (the_set ∷ []) (statements (syn.For nowhere (name (codes "i")) from_set by_zero syn.no_stmt ∷ [])) ∷ [])

-- ---- functions

-- a function without parameters that gives an integer
abbrev pub gives_integer : Name → Stmt → Expr → Decl
gives_integer called first last =
    syn.Function nowhere called [] (Some (syn.Integer nowhere))
    (block [] (statements (first ∷ syn.Return nowhere (Some last) ∷ [])))

-- function w(): integer; begin while true do return 1; od; return 2; end;
-- function r(): integer; begin repeat return 3; until true; return 4; end;
-- process OrcaMain();
-- begin WriteLine(w(), r()); end;
abbrev pub left_loops : List Source
left_loops =
    program
    (gives_integer (name (codes "w"))
    (syn.While nowhere (syn.Truth nowhere true) (statements (syn.Return nowhere (Some (number 1)) ∷ []))) (number 2)
    ∷ gives_integer (name (codes "r"))
    (syn.Repeat nowhere (statements (syn.Return nowhere (Some (number 3)) ∷ [])) (syn.Truth nowhere true)) (number 4)
    ∷ main []
    (statements
    (write_line
    (arguments
    (Expr.Call (name (codes "w")) syn.no_expr ∷ Expr.Call (name (codes "r")) syn.no_expr ∷ [])) ∷ [])) ∷ [])

-- function two(a: string; b: string); begin end;
-- process OrcaMain();
--   s: string;
-- begin s := "0123456789"; repeat s := s & s; until size(s) > 5000; WriteLine(size(s)); two(s, s); end;
abbrev pub two_large : List Source
two_large =
    program
    (syn.Function nowhere (name (codes "two"))
    (parameter (name (codes "a")) mode.Value (syn.String nowhere)
    ∷ parameter (name (codes "b")) mode.Value (syn.String nowhere) ∷ []) None (block [] syn.no_stmt)
    ∷ main (variables (name (codes "s") ∷ []) (syn.String nowhere) ∷ [])
    (statements
    (set (codes "s") (syn.Text nowhere (codes "0123456789"))
    ∷ syn.Repeat nowhere
    (statements (set (codes "s") (joined (get (codes "s")) op.Join (get (codes "s"))) ∷ []))
    (joined (syn.Size nowhere (get (codes "s"))) op.Greater (number 5000))
    ∷ write_line (arguments (syn.Size nowhere (get (codes "s")) ∷ []))
    ∷ Stmt.Call (name (codes "two")) (arguments (get (codes "s") ∷ get (codes "s") ∷ [])) ∷ [])) ∷ [])

-- function down(n: integer): integer;
-- begin if n > 0 then return down(n - 1); fi; return 0; end;
-- process OrcaMain();
-- begin WriteLine(down(64)); end;
abbrev pub too_deep : List Source
too_deep =
    program
    (syn.Function nowhere (name (codes "down"))
    (parameter (name (codes "n")) mode.Value (syn.Integer nowhere) ∷ []) (Some (syn.Integer nowhere))
    (block []
    (statements
    (syn.If nowhere
    (arms
    (syn.When (joined (get (codes "n")) op.Greater (number 0))
    (statements
    (syn.Return nowhere
    (Some
    (Expr.Call (name (codes "down"))
    (arguments (joined (get (codes "n")) op.Subtract (number 1) ∷ [])))) ∷ [])) ∷ []))
    ∷ syn.Return nowhere (Some (number 0)) ∷ [])))
    ∷ main []
    (statements (write_line (arguments (Expr.Call (name (codes "down")) (arguments (number 64 ∷ [])) ∷ [])) ∷ [])) ∷ [])

-- ---- all of them

abbrev pub programs : List (List Source)
programs = phrases ∷ two_indices ∷ two_arguments ∷ low_first ∷ left_loops ∷ two_large ∷ too_deep ∷ []
