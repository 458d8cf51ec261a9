-- Programs of processes and functions, for the rows that are computed of them.
use Rattle.std.specs.Prelude.{pos, true, false, List, [], ◌∷◌, codes, Some, None}
use Rattle.orca_tree.specs.declared.tree.Bound.TheVariants as bounds
use Rattle.orca_tree.specs.declared.tree.Mode.TheVariants as mode
use Rattle.orca_tree.specs.declared.tree.Operator.TheVariants as op
use Rattle.orca_syntax.specs.Bare.{nowhere}
use Rattle.orca_syntax.specs.Syntax as syn
use Rattle.orca_syntax.specs.Syntax.{Expr, Stmt}
use Rattle.link_rules.specs.Units.{Source}
use Rattle.meaning_rules.specs.Phrases.{name, number, get, joined, arguments, statements, set, write_line, arms, variables, typed_name, parameter, block, program, in_module, importing, main}

-- ---- order of evaluation, and faults

-- process OrcaMain(); begin end;
abbrev pub empty_main : List Source
empty_main =
    program (main [] syn.no_stmt ∷ [])

-- process OrcaMain();
--   s: set of integer; x: integer;
-- begin x := from(s) + 1 / 0; end;
abbrev pub left_first : List Source
left_first =
    program
    (main
    (variables (name (codes "s") ∷ []) (syn.Set nowhere (syn.Integer nowhere))
    ∷ variables (name (codes "x") ∷ []) (syn.Integer nowhere) ∷ [])
    (statements
    (set (codes "x")
    (joined (syn.From nowhere (name (codes "s")) syn.here) op.Add (joined (number 1) op.Divide (number 0))) ∷ [])) ∷ [])

-- process OrcaMain();
--   s: set of integer; a: array [1..2] of integer;
-- begin a[1 / 0] := from(s); end;
abbrev pub indices_first : List Source
indices_first =
    program
    (main
    (variables (name (codes "s") ∷ []) (syn.Set nowhere (syn.Integer nowhere))
    ∷ variables (name (codes "a") ∷ [])
    (syn.Array nowhere (bounds.Number nowhere (pos 1)) (bounds.Number nowhere (pos 2)) (syn.Integer nowhere)) ∷ [])
    (statements
    (syn.Assign (name (codes "a"))
    (syn.to (syn.Index nowhere (joined (number 1) op.Divide (number 0))) syn.here)
    (syn.From nowhere (name (codes "s")) syn.here) ∷ [])) ∷ [])

-- process OrcaMain();
--   a: array [1..2] of integer;
-- begin a[3] := 1 / 0; end;
abbrev pub right_side_before_the_walk : List Source
right_side_before_the_walk =
    program
    (main
    (variables (name (codes "a") ∷ [])
    (syn.Array nowhere (bounds.Number nowhere (pos 1)) (bounds.Number nowhere (pos 2)) (syn.Integer nowhere)) ∷ [])
    (statements
    (syn.Assign (name (codes "a")) (syn.to (syn.Index nowhere (number 3)) syn.here)
    (joined (number 1) op.Divide (number 0)) ∷ [])) ∷ [])

-- process OrcaMain();
--   a: array [1..2] of integer;
-- begin a[2] := 5; WriteLine(a[1], a[2]); a[3] := 1; end;
abbrev pub bad_index : List Source
bad_index =
    program
    (main
    (variables (name (codes "a") ∷ [])
    (syn.Array nowhere (bounds.Number nowhere (pos 1)) (bounds.Number nowhere (pos 2)) (syn.Integer nowhere)) ∷ [])
    (statements
    (syn.Assign (name (codes "a")) (syn.to (syn.Index nowhere (number 2)) syn.here) (number 5)
    ∷ write_line
    (arguments
    (syn.Get (name (codes "a")) (syn.to (syn.Index nowhere (number 1)) syn.here)
    ∷ syn.Get (name (codes "a")) (syn.to (syn.Index nowhere (number 2)) syn.here) ∷ []))
    ∷ syn.Assign (name (codes "a")) (syn.to (syn.Index nowhere (number 3)) syn.here) (number 1) ∷ [])) ∷ [])

-- process OrcaMain();
-- begin
--   if false and 1 / 0 = 1 then WriteLine("yes"); elsif true or 1 / 0 = 1 then WriteLine("or"); else WriteLine("no"); fi;
-- end;
abbrev pub short_and : List Source
short_and =
    program
    (main []
    (statements
    (syn.If nowhere
    (arms
    (syn.When
    (joined (syn.Truth nowhere false) op.And
    (joined (joined (number 1) op.Divide (number 0)) op.Equal (number 1)))
    (statements (write_line (arguments (syn.Text nowhere (codes "yes") ∷ [])) ∷ []))
    ∷ syn.When
    (joined (syn.Truth nowhere true) op.Or
    (joined (joined (number 1) op.Divide (number 0)) op.Equal (number 1)))
    (statements (write_line (arguments (syn.Text nowhere (codes "or") ∷ [])) ∷ []))
    ∷ syn.Otherwise (statements (write_line (arguments (syn.Text nowhere (codes "no") ∷ [])) ∷ [])) ∷ [])) ∷ [])) ∷ [])

-- process OrcaMain();
--   m: integer;
-- begin m := -9223372036854775807 - 1; WriteLine(m); WriteLine(m / -1); end;
abbrev pub least_divided : List Source
least_divided =
    program
    (main (variables (name (codes "m") ∷ []) (syn.Integer nowhere) ∷ [])
    (statements
    (set (codes "m") (joined (syn.Negative nowhere (number 9223372036854775807)) op.Subtract (number 1))
    ∷ write_line (arguments (get (codes "m") ∷ []))
    ∷ write_line (arguments (joined (get (codes "m")) op.Divide (syn.Negative nowhere (number 1)) ∷ [])) ∷ [])) ∷ [])

-- process OrcaMain();
--   m: integer;
-- begin m := -9223372036854775807 - 1; WriteLine(-7 / 2, " ", -7 % 2); WriteLine(m % -1); end;
abbrev pub least_remainder : List Source
least_remainder =
    program
    (main (variables (name (codes "m") ∷ []) (syn.Integer nowhere) ∷ [])
    (statements
    (set (codes "m") (joined (syn.Negative nowhere (number 9223372036854775807)) op.Subtract (number 1))
    ∷ write_line
    (arguments
    (joined (syn.Negative nowhere (number 7)) op.Divide (number 2)
    ∷ syn.Text nowhere (codes " ")
    ∷ joined (syn.Negative nowhere (number 7)) op.Remainder (number 2) ∷ []))
    ∷ write_line (arguments (joined (get (codes "m")) op.Remainder (syn.Negative nowhere (number 1)) ∷ [])) ∷ [])) ∷ [])

-- process OrcaMain();
--   b: bag of integer; a: array [1..2] of set of integer;
-- begin insert(from(b), a[1 / 0]); end;
abbrev pub element_first : List Source
element_first =
    program
    (main
    (variables (name (codes "b") ∷ []) (syn.Bag nowhere (syn.Integer nowhere))
    ∷ variables (name (codes "a") ∷ [])
    (syn.Array nowhere (bounds.Number nowhere (pos 1)) (bounds.Number nowhere (pos 2))
    (syn.Set nowhere (syn.Integer nowhere))) ∷ [])
    (statements
    (syn.Insert nowhere (syn.From nowhere (name (codes "b")) syn.here) (name (codes "a"))
    (syn.to (syn.Index nowhere (joined (number 1) op.Divide (number 0))) syn.here) ∷ [])) ∷ [])

-- ---- values

-- type Color = enum (Red, Green);
-- const N = 3;
-- process OrcaMain();
--   c: Color;
-- begin WriteLine("a", N, true, 'c', c, Green); WriteLine(ord(Green), size("xyz")); WriteLine(); end;
abbrev pub texts : List Source
texts =
    program
    (syn.Declares nowhere (name (codes "Color"))
    (syn.Enumeration nowhere (name (codes "Red") ∷ name (codes "Green") ∷ []))
    ∷ syn.Constant nowhere (name (codes "N")) (bounds.Number nowhere (pos 3))
    ∷ main (variables (name (codes "c") ∷ []) (syn.Named (name (codes "Color"))) ∷ [])
    (statements
    (write_line
    (arguments
    (syn.Text nowhere (codes "a")
    ∷ get (codes "N")
    ∷ syn.Truth nowhere true
    ∷ syn.Char nowhere 99
    ∷ get (codes "c")
    ∷ get (codes "Green") ∷ []))
    ∷ write_line
    (arguments
    (syn.Ordinal nowhere (get (codes "Green")) ∷ syn.Size nowhere (syn.Text nowhere (codes "xyz")) ∷ []))
    ∷ write_line syn.no_expr ∷ [])) ∷ [])

-- process OrcaMain();
--   b: bag of integer;
-- begin
--   insert(3, b); insert(1, b); insert(1, b); insert(2, b); delete(1, b); delete(9, b);
--   WriteLine(size(b)); WriteLine(from(b)); WriteLine(from(b), 2 in b, 3 in b);
-- end;
abbrev pub least_element : List Source
least_element =
    program
    (main (variables (name (codes "b") ∷ []) (syn.Bag nowhere (syn.Integer nowhere)) ∷ [])
    (statements
    (syn.Insert nowhere (number 3) (name (codes "b")) syn.here
    ∷ syn.Insert nowhere (number 1) (name (codes "b")) syn.here
    ∷ syn.Insert nowhere (number 1) (name (codes "b")) syn.here
    ∷ syn.Insert nowhere (number 2) (name (codes "b")) syn.here
    ∷ syn.Delete nowhere (number 1) (name (codes "b")) syn.here
    ∷ syn.Delete nowhere (number 9) (name (codes "b")) syn.here
    ∷ write_line (arguments (syn.Size nowhere (get (codes "b")) ∷ []))
    ∷ write_line (arguments (syn.From nowhere (name (codes "b")) syn.here ∷ []))
    ∷ write_line
    (arguments
    (syn.From nowhere (name (codes "b")) syn.here
    ∷ joined (number 2) op.In (get (codes "b"))
    ∷ joined (number 3) op.In (get (codes "b")) ∷ [])) ∷ [])) ∷ [])

-- type Point = record x: integer; y: integer; end;
-- process OrcaMain();
--   a: array [-1..1] of Point; p: Point;
-- begin
--   p.y := 4; a[0] := p; p.y := 5; a[-1].x := a[0].y + p.y;
--   WriteLine(a[-1].x, a[0].y, a[1].x, a[0] < p);
-- end;
abbrev pub records : List Source
records =
    program
    (syn.Declares nowhere (name (codes "Point"))
    (syn.Record nowhere
    (typed_name (name (codes "x")) (syn.Integer nowhere)
    ∷ typed_name (name (codes "y")) (syn.Integer nowhere) ∷ []))
    ∷ main
    (variables (name (codes "a") ∷ [])
    (syn.Array nowhere (bounds.Negative nowhere (pos 1)) (bounds.Number nowhere (pos 1))
    (syn.Named (name (codes "Point"))))
    ∷ variables (name (codes "p") ∷ []) (syn.Named (name (codes "Point"))) ∷ [])
    (statements
    (syn.Assign (name (codes "p")) (syn.to (syn.Field nowhere (name (codes "y"))) syn.here) (number 4)
    ∷ syn.Assign (name (codes "a")) (syn.to (syn.Index nowhere (number 0)) syn.here) (get (codes "p"))
    ∷ syn.Assign (name (codes "p")) (syn.to (syn.Field nowhere (name (codes "y"))) syn.here) (number 5)
    ∷ syn.Assign (name (codes "a"))
    (syn.to (syn.Index nowhere (syn.Negative nowhere (number 1)))
    (syn.to (syn.Field nowhere (name (codes "x"))) syn.here))
    (joined
    (syn.Get (name (codes "a"))
    (syn.to (syn.Index nowhere (number 0)) (syn.to (syn.Field nowhere (name (codes "y"))) syn.here)))
    op.Add (syn.Get (name (codes "p")) (syn.to (syn.Field nowhere (name (codes "y"))) syn.here)))
    ∷ write_line
    (arguments
    (syn.Get (name (codes "a"))
    (syn.to (syn.Index nowhere (syn.Negative nowhere (number 1)))
    (syn.to (syn.Field nowhere (name (codes "x"))) syn.here))
    ∷ syn.Get (name (codes "a"))
    (syn.to (syn.Index nowhere (number 0)) (syn.to (syn.Field nowhere (name (codes "y"))) syn.here))
    ∷ syn.Get (name (codes "a"))
    (syn.to (syn.Index nowhere (number 1)) (syn.to (syn.Field nowhere (name (codes "x"))) syn.here))
    ∷ joined (syn.Get (name (codes "a")) (syn.to (syn.Index nowhere (number 0)) syn.here)) op.Less
    (get (codes "p")) ∷ [])) ∷ [])) ∷ [])

-- type Item = record data: integer; next: nodename; end;
-- type Chain = array [1..graph] of Item;
-- process OrcaMain();
--   c: Chain; n: nodename;
-- begin
--   n := addnode(c); c[n].data := 7; WriteLine(c[n].data, n = nil);
--   deletenode(n, c); WriteLine(c[n].data);
-- end;
abbrev pub a_chain_of_nodes : List Source
a_chain_of_nodes =
    program
    (syn.Declares nowhere (name (codes "Item"))
    (syn.Record nowhere
    (typed_name (name (codes "data")) (syn.Integer nowhere)
    ∷ typed_name (name (codes "next")) (syn.Named (name (codes "nodename"))) ∷ []))
    ∷ syn.Declares nowhere (name (codes "Chain"))
    (syn.Alias
    (syn.Array nowhere (bounds.Number nowhere (pos 1)) (bounds.Named (name (codes "graph")))
    (syn.Named (name (codes "Item")))))
    ∷ main
    (variables (name (codes "c") ∷ []) (syn.Named (name (codes "Chain")))
    ∷ variables (name (codes "n") ∷ []) (syn.Named (name (codes "nodename"))) ∷ [])
    (statements
    (set (codes "n") (Expr.Call (name (codes "addnode")) (arguments (get (codes "c") ∷ [])))
    ∷ syn.Assign (name (codes "c"))
    (syn.to (syn.Index nowhere (get (codes "n")))
    (syn.to (syn.Field nowhere (name (codes "data"))) syn.here)) (number 7)
    ∷ write_line
    (arguments
    (syn.Get (name (codes "c"))
    (syn.to (syn.Index nowhere (get (codes "n")))
    (syn.to (syn.Field nowhere (name (codes "data"))) syn.here))
    ∷ joined (get (codes "n")) op.Equal (get (codes "nil")) ∷ []))
    ∷ Stmt.Call (name (codes "deletenode")) (arguments (get (codes "n") ∷ get (codes "c") ∷ []))
    ∷ write_line
    (arguments
    (syn.Get (name (codes "c"))
    (syn.to (syn.Index nowhere (get (codes "n")))
    (syn.to (syn.Field nowhere (name (codes "data"))) syn.here)) ∷ [])) ∷ [])) ∷ [])

-- ---- loops and turns

-- process OrcaMain();
--   x: integer;
-- begin while x < 3 do x := x + 1; od; WriteLine(x); end;
abbrev pub three_rounds : List Source
three_rounds =
    program
    (main (variables (name (codes "x") ∷ []) (syn.Integer nowhere) ∷ [])
    (statements
    (syn.While nowhere (joined (get (codes "x")) op.Less (number 3))
    (statements (set (codes "x") (joined (get (codes "x")) op.Add (number 1)) ∷ []))
    ∷ write_line (arguments (get (codes "x") ∷ [])) ∷ [])) ∷ [])

-- process OrcaMain();
--   x: integer;
-- begin repeat x := x + 1; until x = 3 or x > 9; WriteLine(x); end;
abbrev pub three_until : List Source
three_until =
    program
    (main (variables (name (codes "x") ∷ []) (syn.Integer nowhere) ∷ [])
    (statements
    (syn.Repeat nowhere (statements (set (codes "x") (joined (get (codes "x")) op.Add (number 1)) ∷ []))
    (joined (joined (get (codes "x")) op.Equal (number 3)) op.Or
    (joined (get (codes "x")) op.Greater (number 9)))
    ∷ write_line (arguments (get (codes "x") ∷ [])) ∷ [])) ∷ [])

-- process OrcaMain();
-- begin repeat WriteLine("once"); until true; end;
abbrev pub once_until : List Source
once_until =
    program
    (main []
    (statements
    (syn.Repeat nowhere (statements (write_line (arguments (syn.Text nowhere (codes "once") ∷ [])) ∷ []))
    (syn.Truth nowhere true) ∷ [])) ∷ [])

-- process OrcaMain();
--   n: integer;
-- begin n := 3; for i in 1..n do n := 0; WriteLine(i); od; for i in 3..1 do WriteLine("never"); od; end;
abbrev pub counting : List Source
counting =
    program
    (main (variables (name (codes "n") ∷ []) (syn.Integer nowhere) ∷ [])
    (statements
    (set (codes "n") (number 3)
    ∷ syn.For nowhere (name (codes "i")) (number 1) (get (codes "n"))
    (statements (set (codes "n") (number 0) ∷ write_line (arguments (get (codes "i") ∷ [])) ∷ []))
    ∷ syn.For nowhere (name (codes "i")) (number 3) (number 1)
    (statements (write_line (arguments (syn.Text nowhere (codes "never") ∷ [])) ∷ [])) ∷ [])) ∷ [])

-- ---- functions

-- function both(a: out integer; b: out integer; c: integer);
-- begin a := a + c; b := a + c; end;
-- process OrcaMain();
--   x, y: integer;
-- begin x := 5; both(x, y, 2); WriteLine(x, " ", y); end;
abbrev pub handed_back : List Source
handed_back =
    program
    (syn.Function nowhere (name (codes "both"))
    (parameter (name (codes "a")) mode.Out (syn.Integer nowhere)
    ∷ parameter (name (codes "b")) mode.Out (syn.Integer nowhere)
    ∷ parameter (name (codes "c")) mode.Value (syn.Integer nowhere) ∷ []) None
    (block []
    (statements
    (set (codes "a") (joined (get (codes "a")) op.Add (get (codes "c")))
    ∷ set (codes "b") (joined (get (codes "a")) op.Add (get (codes "c"))) ∷ [])))
    ∷ main (variables (name (codes "x") ∷ name (codes "y") ∷ []) (syn.Integer nowhere) ∷ [])
    (statements
    (set (codes "x") (number 5)
    ∷ Stmt.Call (name (codes "both")) (arguments (get (codes "x") ∷ get (codes "y") ∷ number 2 ∷ []))
    ∷ write_line (arguments (get (codes "x") ∷ syn.Text nowhere (codes " ") ∷ get (codes "y") ∷ [])) ∷ [])) ∷ [])

-- function f(a: out integer): integer;
-- begin a := 1; end;
-- process OrcaMain();
--   a: array [1..2] of integer;
-- begin a[1] := f(a[9]); end;
abbrev pub no_return : List Source
no_return =
    program
    (syn.Function nowhere (name (codes "f")) (parameter (name (codes "a")) mode.Out (syn.Integer nowhere) ∷ [])
    (Some (syn.Integer nowhere)) (block [] (statements (set (codes "a") (number 1) ∷ [])))
    ∷ main
    (variables (name (codes "a") ∷ [])
    (syn.Array nowhere (bounds.Number nowhere (pos 1)) (bounds.Number nowhere (pos 2)) (syn.Integer nowhere)) ∷ [])
    (statements
    (syn.Assign (name (codes "a")) (syn.to (syn.Index nowhere (number 1)) syn.here)
    (Expr.Call (name (codes "f"))
    (arguments (syn.Get (name (codes "a")) (syn.to (syn.Index nowhere (number 9)) syn.here) ∷ []))) ∷ [])) ∷ [])

-- function first(n: integer): integer;
-- begin for i in 1..n do if i * i > n then return i; fi; od; return n; end;
-- process OrcaMain();
-- begin WriteLine(first(10)); end;
abbrev pub left_by_return : List Source
left_by_return =
    program
    (syn.Function nowhere (name (codes "first"))
    (parameter (name (codes "n")) mode.Value (syn.Integer nowhere) ∷ []) (Some (syn.Integer nowhere))
    (block []
    (statements
    (syn.For nowhere (name (codes "i")) (number 1) (get (codes "n"))
    (statements
    (syn.If nowhere
    (arms
    (syn.When
    (joined (joined (get (codes "i")) op.Multiply (get (codes "i"))) op.Greater
    (get (codes "n"))) (statements (syn.Return nowhere (Some (get (codes "i"))) ∷ [])) ∷ [])) ∷ []))
    ∷ syn.Return nowhere (Some (get (codes "n"))) ∷ [])))
    ∷ main []
    (statements
    (write_line (arguments (Expr.Call (name (codes "first")) (arguments (number 10 ∷ [])) ∷ [])) ∷ [])) ∷ [])

-- function down(n: integer): integer;
-- begin if n > 0 then return down(n - 1); fi; return 0; end;
-- process OrcaMain();
-- begin WriteLine(down(63)); WriteLine(down(64)); end;
abbrev pub down : List Source
down =
    program
    (syn.Function nowhere (name (codes "down"))
    (parameter (name (codes "n")) mode.Value (syn.Integer nowhere) ∷ []) (Some (syn.Integer nowhere))
    (block []
    (statements
    (syn.If nowhere
    (arms
    (syn.When (joined (get (codes "n")) op.Greater (number 0))
    (statements
    (syn.Return nowhere
    (Some
    (Expr.Call (name (codes "down"))
    (arguments (joined (get (codes "n")) op.Subtract (number 1) ∷ [])))) ∷ [])) ∷ []))
    ∷ syn.Return nowhere (Some (number 0)) ∷ [])))
    ∷ main []
    (statements
    (write_line (arguments (Expr.Call (name (codes "down")) (arguments (number 63 ∷ [])) ∷ []))
    ∷ write_line (arguments (Expr.Call (name (codes "down")) (arguments (number 64 ∷ [])) ∷ [])) ∷ [])) ∷ [])

-- ---- forks

-- process P(n: integer); begin end;
-- process OrcaMain();
-- begin fork P(4) on -1; fork P(5); end;
abbrev pub forking : List Source
forking =
    program
    (syn.Process nowhere (name (codes "P")) (parameter (name (codes "n")) mode.Value (syn.Integer nowhere) ∷ [])
    (block [] syn.no_stmt)
    ∷ main []
    (statements
    (syn.Fork nowhere (name (codes "P")) (arguments (number 4 ∷ [])) (Some (syn.Negative nowhere (number 1)))
    ∷ syn.Fork nowhere (name (codes "P")) (arguments (number 5 ∷ [])) None ∷ [])) ∷ [])

-- module M;
-- const N = -2;
-- type Color = enum (Red, Green);
-- function last(): Color; begin return Green; end;
-- import M;
-- process OrcaMain();
--   c: Color;
-- begin c := last(); WriteLine(c, N); end;
abbrev pub of_another_module : List Source
of_another_module =
    in_module (codes "M")
    (syn.Constant nowhere (name (codes "N")) (bounds.Negative nowhere (pos 2))
    ∷ syn.Declares nowhere (name (codes "Color"))
    (syn.Enumeration nowhere (name (codes "Red") ∷ name (codes "Green") ∷ []))
    ∷ syn.Function nowhere (name (codes "last")) [] (Some (syn.Named (name (codes "Color"))))
    (block [] (statements (syn.Return nowhere (Some (get (codes "Green"))) ∷ []))) ∷ [])
    ∷ importing (name (codes "M") ∷ [])
    (main (variables (name (codes "c") ∷ []) (syn.Named (name (codes "Color"))) ∷ [])
    (statements
    (set (codes "c") (Expr.Call (name (codes "last")) syn.no_expr)
    ∷ write_line (arguments (get (codes "c") ∷ get (codes "N") ∷ [])) ∷ [])) ∷ []) ∷ []

-- process P(n: integer); begin end;
-- process OrcaMain();
--   s: bag of integer;
-- begin fork P(from(s)) on 1 / 0; end;
abbrev pub forked_badly : List Source
forked_badly =
    program
    (syn.Process nowhere (name (codes "P")) (parameter (name (codes "n")) mode.Value (syn.Integer nowhere) ∷ [])
    (block [] syn.no_stmt)
    ∷ main (variables (name (codes "s") ∷ []) (syn.Bag nowhere (syn.Integer nowhere)) ∷ [])
    (statements
    (syn.Fork nowhere (name (codes "P")) (arguments (syn.From nowhere (name (codes "s")) syn.here ∷ []))
    (Some (joined (number 1) op.Divide (number 0))) ∷ [])) ∷ [])

-- ---- all of them

abbrev pub programs : List (List Source)
programs =
    empty_main
    ∷ left_first
    ∷ indices_first
    ∷ right_side_before_the_walk
    ∷ bad_index
    ∷ short_and
    ∷ least_divided
    ∷ least_remainder
    ∷ element_first
    ∷ texts
    ∷ least_element
    ∷ records
    ∷ a_chain_of_nodes
    ∷ three_rounds
    ∷ three_until
    ∷ once_until
    ∷ counting
    ∷ handed_back
    ∷ no_return
    ∷ left_by_return
    ∷ down
    ∷ forking
    ∷ of_another_module
    ∷ forked_badly ∷ []
