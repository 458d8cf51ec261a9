-- Programs of objects, for the rows that are computed of them.
use Rattle.std.specs.Prelude.{pos, true, List, [], ◌∷◌, codes, Some, None}
use Rattle.orca_tree.specs.declared.tree.Bound.TheVariants as bounds
use Rattle.orca_tree.specs.declared.tree.Mode.TheVariants as mode
use Rattle.orca_tree.specs.declared.tree.Operator.TheVariants as op
use Rattle.orca_syntax.specs.Bare.{nowhere}
use Rattle.orca_syntax.specs.Syntax as syn
use Rattle.orca_syntax.specs.Syntax.{Expr, Stmt}
use Rattle.link_rules.specs.Units.{Source}
use Rattle.meaning_rules.specs.Phrases.{name, number, get, joined, arguments, statements, set, write_line, arms, variables, typed_name, parameter, head, guard, operation, block, program, main}

-- ---- object types

-- object specification Cell;
--   operation Value(): integer;
--   operation Assign(v: integer);
-- end;
-- object implementation Cell;
--   x: integer;
--   operation Value(): integer; begin return x; end;
--   operation Assign(v: integer); begin x := v; end;
-- begin x := 0; end;
-- process OrcaMain();
--   X: Cell;
-- begin X$Assign(6); WriteLine(X$Value()); end;
abbrev pub one_orca : List Source
one_orca =
    program
    (syn.Specification nowhere (name (codes "Cell"))
    (head (name (codes "Value")) [] (Some (syn.Integer nowhere))
    ∷ head (name (codes "Assign")) (typed_name (name (codes "v")) (syn.Integer nowhere) ∷ []) None ∷ [])
    ∷ syn.Implementation nowhere (name (codes "Cell"))
    (variables (name (codes "x") ∷ []) (syn.Integer nowhere) ∷ [])
    (operation (head (name (codes "Value")) [] (Some (syn.Integer nowhere))) []
    (syn.Plain (statements (syn.Return nowhere (Some (get (codes "x"))) ∷ [])))
    ∷ operation (head (name (codes "Assign")) (typed_name (name (codes "v")) (syn.Integer nowhere) ∷ []) None)
    [] (syn.Plain (statements (set (codes "x") (get (codes "v")) ∷ []))) ∷ [])
    (Some (statements (set (codes "x") (number 0) ∷ [])))
    ∷ main (variables (name (codes "X") ∷ []) (syn.Named (name (codes "Cell"))) ∷ [])
    (statements
    (Stmt.Invoke (name (codes "X")) (name (codes "Assign")) (arguments (number 6 ∷ []))
    ∷ write_line (arguments (Expr.Invoke (name (codes "X")) (name (codes "Value")) syn.no_expr ∷ [])) ∷ [])) ∷ [])

-- object specification Pair;
--   operation Two();
--   operation A(): integer;
--   operation Lost(): integer;
-- end;
-- object implementation Pair;
--   a, b: integer;
--   operation Two(); begin a := 1; b := 9223372036854775807 + 1; end;
--   operation A(): integer; begin return a; end;
--   operation Lost(): integer; begin a := 1; end;
-- end;
-- process OrcaMain();
--   X: Pair;
-- begin X$Two(); WriteLine(9); end;
abbrev pub a_pair : List Source
a_pair =
    program
    (syn.Specification nowhere (name (codes "Pair"))
    (head (name (codes "Two")) [] None
    ∷ head (name (codes "A")) [] (Some (syn.Integer nowhere))
    ∷ head (name (codes "Lost")) [] (Some (syn.Integer nowhere)) ∷ [])
    ∷ syn.Implementation nowhere (name (codes "Pair"))
    (variables (name (codes "a") ∷ name (codes "b") ∷ []) (syn.Integer nowhere) ∷ [])
    (operation (head (name (codes "Two")) [] None) []
    (syn.Plain
    (statements
    (set (codes "a") (number 1)
    ∷ set (codes "b") (joined (number 9223372036854775807) op.Add (number 1)) ∷ [])))
    ∷ operation (head (name (codes "A")) [] (Some (syn.Integer nowhere))) []
    (syn.Plain (statements (syn.Return nowhere (Some (get (codes "a"))) ∷ [])))
    ∷ operation (head (name (codes "Lost")) [] (Some (syn.Integer nowhere))) []
    (syn.Plain (statements (set (codes "a") (number 1) ∷ []))) ∷ []) None
    ∷ main (variables (name (codes "X") ∷ []) (syn.Named (name (codes "Pair"))) ∷ [])
    (statements
    (Stmt.Invoke (name (codes "X")) (name (codes "Two")) syn.no_expr
    ∷ write_line (arguments (number 9 ∷ [])) ∷ [])) ∷ [])

-- object specification Pool;
--   operation Put(v: integer);
--   operation Take(): integer;
-- end;
-- object implementation Pool;
--   items: bag of integer;
--   operation Put(v: integer); begin insert(v, items); end;
--   operation Take(): integer; begin guard size(items) > 0 do return from(items); od; end;
-- begin insert(9, items); insert(4, items); end;
-- process OrcaMain(); begin end;
abbrev pub a_pool : List Source
a_pool =
    program
    (syn.Specification nowhere (name (codes "Pool"))
    (head (name (codes "Put")) (typed_name (name (codes "v")) (syn.Integer nowhere) ∷ []) None
    ∷ head (name (codes "Take")) [] (Some (syn.Integer nowhere)) ∷ [])
    ∷ syn.Implementation nowhere (name (codes "Pool"))
    (variables (name (codes "items") ∷ []) (syn.Bag nowhere (syn.Integer nowhere)) ∷ [])
    (operation (head (name (codes "Put")) (typed_name (name (codes "v")) (syn.Integer nowhere) ∷ []) None) []
    (syn.Plain (statements (syn.Insert nowhere (get (codes "v")) (name (codes "items")) syn.here ∷ [])))
    ∷ operation (head (name (codes "Take")) [] (Some (syn.Integer nowhere))) []
    (syn.Guarded
    (guard (joined (syn.Size nowhere (get (codes "items"))) op.Greater (number 0))
    (statements (syn.Return nowhere (Some (syn.From nowhere (name (codes "items")) syn.here)) ∷ []))) []) ∷ [])
    (Some
    (statements
    (syn.Insert nowhere (number 9) (name (codes "items")) syn.here
    ∷ syn.Insert nowhere (number 4) (name (codes "items")) syn.here ∷ [])))
    ∷ main [] syn.no_stmt ∷ [])

-- object specification Pool;
--   operation Put(v: integer);
--   operation Take(): integer;
-- end;
-- object implementation Pool;
--   items: bag of integer;
--   operation Put(v: integer); begin insert(v, items); end;
--   operation Take(): integer;
--   begin guard size(items) > 0 do return from(items); od; end;
-- end;
-- process Producer(p: shared Pool; base: integer);
-- begin for k in 1..2 do p$Put(base + k); od; end;
-- process OrcaMain();
--   P: Pool; sum: integer;
-- begin
--   fork Producer(P, 10) on 1;
--   fork Producer(P, 20) on 2;
--   for k in 1..4 do sum := sum + P$Take(); od;
--   WriteLine(sum);
-- end;
abbrev pub pool_orca : List Source
pool_orca =
    program
    (syn.Specification nowhere (name (codes "Pool"))
    (head (name (codes "Put")) (typed_name (name (codes "v")) (syn.Integer nowhere) ∷ []) None
    ∷ head (name (codes "Take")) [] (Some (syn.Integer nowhere)) ∷ [])
    ∷ syn.Implementation nowhere (name (codes "Pool"))
    (variables (name (codes "items") ∷ []) (syn.Bag nowhere (syn.Integer nowhere)) ∷ [])
    (operation (head (name (codes "Put")) (typed_name (name (codes "v")) (syn.Integer nowhere) ∷ []) None) []
    (syn.Plain (statements (syn.Insert nowhere (get (codes "v")) (name (codes "items")) syn.here ∷ [])))
    ∷ operation (head (name (codes "Take")) [] (Some (syn.Integer nowhere))) []
    (syn.Guarded
    (guard (joined (syn.Size nowhere (get (codes "items"))) op.Greater (number 0))
    (statements (syn.Return nowhere (Some (syn.From nowhere (name (codes "items")) syn.here)) ∷ []))) []) ∷ [])
    None
    ∷ syn.Process nowhere (name (codes "Producer"))
    (parameter (name (codes "p")) mode.Shared (syn.Named (name (codes "Pool")))
    ∷ parameter (name (codes "base")) mode.Value (syn.Integer nowhere) ∷ [])
    (block []
    (statements
    (syn.For nowhere (name (codes "k")) (number 1) (number 2)
    (statements
    (Stmt.Invoke (name (codes "p")) (name (codes "Put"))
    (arguments (joined (get (codes "base")) op.Add (get (codes "k")) ∷ [])) ∷ [])) ∷ [])))
    ∷ main
    (variables (name (codes "P") ∷ []) (syn.Named (name (codes "Pool")))
    ∷ variables (name (codes "sum") ∷ []) (syn.Integer nowhere) ∷ [])
    (statements
    (syn.Fork nowhere (name (codes "Producer")) (arguments (get (codes "P") ∷ number 10 ∷ []))
    (Some (number 1))
    ∷ syn.Fork nowhere (name (codes "Producer")) (arguments (get (codes "P") ∷ number 20 ∷ []))
    (Some (number 2))
    ∷ syn.For nowhere (name (codes "k")) (number 1) (number 4)
    (statements
    (set (codes "sum")
    (joined (get (codes "sum")) op.Add
    (Expr.Invoke (name (codes "P")) (name (codes "Take")) syn.no_expr)) ∷ []))
    ∷ write_line (arguments (get (codes "sum") ∷ [])) ∷ [])) ∷ [])

-- object specification G;
--   operation Which(v: integer): integer;
--   operation Divide(v: integer): integer;
-- end;
-- object implementation G;
--   x: integer;
--   operation Which(v: integer): integer;
--     w: integer;
--   begin
--     guard v > 5 do return 1; od;
--     guard v > w do x := v; return 2; od;
--     guard v > 3 do return 3; od;
--   end;
--   operation Divide(v: integer): integer;
--   begin
--     guard v > 5 do return 1; od;
--     guard 10 / v = 5 do return 2; od;
--   end;
-- end;
-- process OrcaMain(); begin end;
abbrev pub guards : List Source
guards =
    program
    (syn.Specification nowhere (name (codes "G"))
    (head (name (codes "Which")) (typed_name (name (codes "v")) (syn.Integer nowhere) ∷ [])
    (Some (syn.Integer nowhere))
    ∷ head (name (codes "Divide")) (typed_name (name (codes "v")) (syn.Integer nowhere) ∷ [])
    (Some (syn.Integer nowhere)) ∷ [])
    ∷ syn.Implementation nowhere (name (codes "G")) (variables (name (codes "x") ∷ []) (syn.Integer nowhere) ∷ [])
    (operation
    (head (name (codes "Which")) (typed_name (name (codes "v")) (syn.Integer nowhere) ∷ [])
    (Some (syn.Integer nowhere))) (variables (name (codes "w") ∷ []) (syn.Integer nowhere) ∷ [])
    (syn.Guarded
    (guard (joined (get (codes "v")) op.Greater (number 5))
    (statements (syn.Return nowhere (Some (number 1)) ∷ [])))
    (guard (joined (get (codes "v")) op.Greater (get (codes "w")))
    (statements (set (codes "x") (get (codes "v")) ∷ syn.Return nowhere (Some (number 2)) ∷ []))
    ∷ guard (joined (get (codes "v")) op.Greater (number 3))
    (statements (syn.Return nowhere (Some (number 3)) ∷ [])) ∷ []))
    ∷ operation
    (head (name (codes "Divide")) (typed_name (name (codes "v")) (syn.Integer nowhere) ∷ [])
    (Some (syn.Integer nowhere))) []
    (syn.Guarded
    (guard (joined (get (codes "v")) op.Greater (number 5))
    (statements (syn.Return nowhere (Some (number 1)) ∷ [])))
    (guard (joined (joined (number 10) op.Divide (get (codes "v"))) op.Equal (number 5))
    (statements (syn.Return nowhere (Some (number 2)) ∷ [])) ∷ [])) ∷ []) None
    ∷ main [] syn.no_stmt ∷ [])

-- object specification B; end;
-- object implementation B;
--   x: integer;
-- begin x := 1; x := x / 0; end;
-- process OrcaMain();
--   u: integer; X: B; Y: B;
-- begin end;
abbrev pub broken_making : List Source
broken_making =
    program
    (syn.Specification nowhere (name (codes "B")) []
    ∷ syn.Implementation nowhere (name (codes "B")) (variables (name (codes "x") ∷ []) (syn.Integer nowhere) ∷ [])
    []
    (Some
    (statements
    (set (codes "x") (number 1) ∷ set (codes "x") (joined (get (codes "x")) op.Divide (number 0)) ∷ [])))
    ∷ main
    (variables (name (codes "u") ∷ []) (syn.Integer nowhere)
    ∷ variables (name (codes "X") ∷ []) (syn.Named (name (codes "B")))
    ∷ variables (name (codes "Y") ∷ []) (syn.Named (name (codes "B"))) ∷ []) syn.no_stmt ∷ [])

-- object specification F;
--   operation Turn();
-- end;
-- object implementation F;
--   x: integer;
--   operation Turn(); begin x := 1; while true do od; end;
-- end;
-- process OrcaMain(); begin end;
abbrev pub forever : List Source
forever =
    program
    (syn.Specification nowhere (name (codes "F")) (head (name (codes "Turn")) [] None ∷ [])
    ∷ syn.Implementation nowhere (name (codes "F")) (variables (name (codes "x") ∷ []) (syn.Integer nowhere) ∷ [])
    (operation (head (name (codes "Turn")) [] None) []
    (syn.Plain
    (statements (set (codes "x") (number 1) ∷ syn.While nowhere (syn.Truth nowhere true) syn.no_stmt ∷ []))) ∷ [])
    None
    ∷ main [] syn.no_stmt ∷ [])

-- function put(a: out integer); begin a := 1; end;
-- object specification R;
--   operation Local();
--   operation Lent();
--   operation Taken();
--   operation Shown(): integer;
--   operation Early(): integer;
-- end;
-- object implementation R;
--   x: integer; s: set of integer; a: array [1..3] of integer;
--   operation Local(); y: integer; begin put(y); y := x; end;
--   operation Lent(); begin put(a[2]); end;
--   operation Taken(); begin if from(s) > 0 then fi; end;
--   operation Shown(): integer; begin guard x in s do return a[x]; od; end;
--   operation Early(): integer; begin for i in 1..3 do x := x + i; if i = 2 then return i; fi; od; return 0; end;
-- end;
-- process OrcaMain(); begin end;
abbrev pub reads_and_writes : List Source
reads_and_writes =
    program
    (syn.Function nowhere (name (codes "put")) (parameter (name (codes "a")) mode.Out (syn.Integer nowhere) ∷ [])
    None (block [] (statements (set (codes "a") (number 1) ∷ [])))
    ∷ syn.Specification nowhere (name (codes "R"))
    (head (name (codes "Local")) [] None
    ∷ head (name (codes "Lent")) [] None
    ∷ head (name (codes "Taken")) [] None
    ∷ head (name (codes "Shown")) [] (Some (syn.Integer nowhere))
    ∷ head (name (codes "Early")) [] (Some (syn.Integer nowhere)) ∷ [])
    ∷ syn.Implementation nowhere (name (codes "R"))
    (variables (name (codes "x") ∷ []) (syn.Integer nowhere)
    ∷ variables (name (codes "s") ∷ []) (syn.Set nowhere (syn.Integer nowhere))
    ∷ variables (name (codes "a") ∷ [])
    (syn.Array nowhere (bounds.Number nowhere (pos 1)) (bounds.Number nowhere (pos 3)) (syn.Integer nowhere)) ∷ [])
    (operation (head (name (codes "Local")) [] None)
    (variables (name (codes "y") ∷ []) (syn.Integer nowhere) ∷ [])
    (syn.Plain
    (statements
    (Stmt.Call (name (codes "put")) (arguments (get (codes "y") ∷ []))
    ∷ set (codes "y") (get (codes "x")) ∷ [])))
    ∷ operation (head (name (codes "Lent")) [] None) []
    (syn.Plain
    (statements
    (Stmt.Call (name (codes "put"))
    (arguments (syn.Get (name (codes "a")) (syn.to (syn.Index nowhere (number 2)) syn.here) ∷ [])) ∷ [])))
    ∷ operation (head (name (codes "Taken")) [] None) []
    (syn.Plain
    (statements
    (syn.If nowhere
    (arms
    (syn.When (joined (syn.From nowhere (name (codes "s")) syn.here) op.Greater (number 0))
    syn.no_stmt ∷ [])) ∷ [])))
    ∷ operation (head (name (codes "Shown")) [] (Some (syn.Integer nowhere))) []
    (syn.Guarded
    (guard (joined (get (codes "x")) op.In (get (codes "s")))
    (statements
    (syn.Return nowhere
    (Some (syn.Get (name (codes "a")) (syn.to (syn.Index nowhere (get (codes "x"))) syn.here))) ∷ [])))
    [])
    ∷ operation (head (name (codes "Early")) [] (Some (syn.Integer nowhere))) []
    (syn.Plain
    (statements
    (syn.For nowhere (name (codes "i")) (number 1) (number 3)
    (statements
    (set (codes "x") (joined (get (codes "x")) op.Add (get (codes "i")))
    ∷ syn.If nowhere
    (arms
    (syn.When (joined (get (codes "i")) op.Equal (number 2))
    (statements (syn.Return nowhere (Some (get (codes "i"))) ∷ [])) ∷ [])) ∷ []))
    ∷ syn.Return nowhere (Some (number 0)) ∷ []))) ∷ []) None
    ∷ main [] syn.no_stmt ∷ [])

-- object specification Changes;
--   operation Sets();
--   operation Inserts();
--   operation Deletes();
--   operation Adds();
--   operation Frees();
--   operation Counts(): integer;
-- end;
-- object implementation Changes;
--   a: array [1..3] of integer; s: set of integer; g: array [1..graph] of integer;
--   operation Sets(); begin a[2] := 1; end;
--   operation Inserts(); begin insert(1, s); end;
--   operation Deletes(); begin delete(1, s); end;
--   operation Adds(); n: nodename; begin n := addnode(g); end;
--   operation Frees(); begin deletenode(nil, g); end;
--   operation Counts(): integer; y: integer; begin for i in 1..3 do y := y + a[i]; od; return y; end;
-- end;
-- process OrcaMain(); begin end;
abbrev pub changes : List Source
changes =
    program
    (syn.Specification nowhere (name (codes "Changes"))
    (head (name (codes "Sets")) [] None
    ∷ head (name (codes "Inserts")) [] None
    ∷ head (name (codes "Deletes")) [] None
    ∷ head (name (codes "Adds")) [] None
    ∷ head (name (codes "Frees")) [] None
    ∷ head (name (codes "Counts")) [] (Some (syn.Integer nowhere)) ∷ [])
    ∷ syn.Implementation nowhere (name (codes "Changes"))
    (variables (name (codes "a") ∷ [])
    (syn.Array nowhere (bounds.Number nowhere (pos 1)) (bounds.Number nowhere (pos 3)) (syn.Integer nowhere))
    ∷ variables (name (codes "s") ∷ []) (syn.Set nowhere (syn.Integer nowhere))
    ∷ variables (name (codes "g") ∷ [])
    (syn.Array nowhere (bounds.Number nowhere (pos 1)) (bounds.Named (name (codes "graph"))) (syn.Integer nowhere)) ∷ [])
    (operation (head (name (codes "Sets")) [] None) []
    (syn.Plain
    (statements (syn.Assign (name (codes "a")) (syn.to (syn.Index nowhere (number 2)) syn.here) (number 1) ∷ [])))
    ∷ operation (head (name (codes "Inserts")) [] None) []
    (syn.Plain (statements (syn.Insert nowhere (number 1) (name (codes "s")) syn.here ∷ [])))
    ∷ operation (head (name (codes "Deletes")) [] None) []
    (syn.Plain (statements (syn.Delete nowhere (number 1) (name (codes "s")) syn.here ∷ [])))
    ∷ operation (head (name (codes "Adds")) [] None)
    (variables (name (codes "n") ∷ []) (syn.Named (name (codes "nodename"))) ∷ [])
    (syn.Plain
    (statements (set (codes "n") (Expr.Call (name (codes "addnode")) (arguments (get (codes "g") ∷ []))) ∷ [])))
    ∷ operation (head (name (codes "Frees")) [] None) []
    (syn.Plain
    (statements (Stmt.Call (name (codes "deletenode")) (arguments (get (codes "nil") ∷ get (codes "g") ∷ [])) ∷ [])))
    ∷ operation (head (name (codes "Counts")) [] (Some (syn.Integer nowhere)))
    (variables (name (codes "y") ∷ []) (syn.Integer nowhere) ∷ [])
    (syn.Plain
    (statements
    (syn.For nowhere (name (codes "i")) (number 1) (number 3)
    (statements
    (set (codes "y")
    (joined (get (codes "y")) op.Add
    (syn.Get (name (codes "a")) (syn.to (syn.Index nowhere (get (codes "i"))) syn.here))) ∷ []))
    ∷ syn.Return nowhere (Some (get (codes "y"))) ∷ []))) ∷ []) None
    ∷ main [] syn.no_stmt ∷ [])

-- object implementation B; end;
-- object specification A; operation Set(v: integer); end;
-- object specification B; end;
-- object implementation A; x: integer; operation Set(v: integer); begin x := v; end; end;
-- function sets(a: shared A; v: integer); begin a$Set(v); end;
-- process Worker(n: integer; a: shared A); begin sets(a, n + 1); end;
-- process OrcaMain();
--   Y: B; n: integer; X: A;
-- begin n := 6; fork Worker(n, X); sets(X, n); end;
abbrev pub two_types : List Source
two_types =
    program
    (syn.Implementation nowhere (name (codes "B")) [] [] None
    ∷ syn.Specification nowhere (name (codes "A"))
    (head (name (codes "Set")) (typed_name (name (codes "v")) (syn.Integer nowhere) ∷ []) None ∷ [])
    ∷ syn.Specification nowhere (name (codes "B")) []
    ∷ syn.Implementation nowhere (name (codes "A")) (variables (name (codes "x") ∷ []) (syn.Integer nowhere) ∷ [])
    (operation (head (name (codes "Set")) (typed_name (name (codes "v")) (syn.Integer nowhere) ∷ []) None) []
    (syn.Plain (statements (set (codes "x") (get (codes "v")) ∷ []))) ∷ []) None
    ∷ syn.Function nowhere (name (codes "sets"))
    (parameter (name (codes "a")) mode.Shared (syn.Named (name (codes "A")))
    ∷ parameter (name (codes "v")) mode.Value (syn.Integer nowhere) ∷ []) None
    (block []
    (statements (Stmt.Invoke (name (codes "a")) (name (codes "Set")) (arguments (get (codes "v") ∷ [])) ∷ [])))
    ∷ syn.Process nowhere (name (codes "Worker"))
    (parameter (name (codes "n")) mode.Value (syn.Integer nowhere)
    ∷ parameter (name (codes "a")) mode.Shared (syn.Named (name (codes "A"))) ∷ [])
    (block []
    (statements
    (Stmt.Call (name (codes "sets"))
    (arguments (get (codes "a") ∷ joined (get (codes "n")) op.Add (number 1) ∷ [])) ∷ [])))
    ∷ main
    (variables (name (codes "Y") ∷ []) (syn.Named (name (codes "B")))
    ∷ variables (name (codes "n") ∷ []) (syn.Integer nowhere)
    ∷ variables (name (codes "X") ∷ []) (syn.Named (name (codes "A"))) ∷ [])
    (statements
    (set (codes "n") (number 6)
    ∷ syn.Fork nowhere (name (codes "Worker")) (arguments (get (codes "n") ∷ get (codes "X") ∷ [])) None
    ∷ Stmt.Call (name (codes "sets")) (arguments (get (codes "X") ∷ get (codes "n") ∷ [])) ∷ [])) ∷ [])

-- ---- all of them

abbrev pub programs : List (List Source)
programs =
    one_orca ∷ a_pair ∷ a_pool ∷ pool_orca ∷ guards ∷ broken_making ∷ forever ∷ reads_and_writes ∷ changes ∷ two_types ∷ []
