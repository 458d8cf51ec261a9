-- Programs, and the first rule that each breaks.
use Rattle.std.specs.Prelude.{ℕ, true, List, [], ◌∷◌, codes, Option, Some, None, pos}
use Rattle.orca_tree.specs.declared.tree.Bound.TheVariants as bounds
use Rattle.orca_tree.specs.declared.tree.Mode.TheVariants as mode
use Rattle.orca_tree.specs.declared.tree.Operator.TheVariants as op
use Rattle.orca_syntax.specs.Syntax as syn
use Rattle.orca_syntax.specs.Syntax.{Decl, Expr, Stmt}
use Rattle.link_rules.specs.Units.{Source}
use Rattle.link_rules.specs.Examples.{place, name, plain}
use Rattle.type_rules.specs.declared.type_error.TypeError.{TypeError}

abbrev pub breach : ℕ → ℕ → ℕ → Option TypeError
breach rule line column = Some (record { rule = rule; file = codes "t.orca"; at = place line column })

abbrev pub text : List Decl → List Source
text declarations = plain (codes "t.orca") declarations ∷ []

-- object specification A; end;
-- object implementation A;
--   x: integer;
-- begin
--   WriteLine(y);
-- end;
-- process OrcaMain(); begin end;
abbrev pub rule_1 : List Source
rule_1 = text
    ((syn.Specification (place 1 1) (name 1 22 (codes "A")) [])
    ∷ (syn.Implementation (place 2 1) (name 2 23 (codes "A"))
    ((record { names = ((name 3 3 (codes "x")) ∷ []); kind = (syn.Integer (place 3 6)) }) ∷ []) []
    (Some (syn.stmt (syn.WriteLine (place 5 3) (syn.expr (syn.Get (name 5 13 (codes "y")) syn.here) syn.no_expr)) syn.no_stmt)))
    ∷ (syn.Process (place 7 1) (name 7 9 (codes "OrcaMain")) [] record { variables = []; statements = syn.no_stmt }) ∷ [])

-- process OrcaMain(); x: Cell; begin end;
abbrev pub rule_2 : List Source
rule_2 = text
    ((syn.Process (place 1 1) (name 1 9 (codes "OrcaMain")) []
    (record {
      variables = ((record { names = ((name 1 21 (codes "x")) ∷ []); kind = (syn.Named (name 1 24 (codes "Cell"))) }) ∷ []);
      statements = syn.no_stmt;
    })) ∷ [])

-- process OrcaMain();
--   i: integer;
-- begin
--   for i in 1..true do od;
-- end;
abbrev pub rule_3 : List Source
rule_3 = text
    ((syn.Process (place 1 1) (name 1 9 (codes "OrcaMain")) []
    (record {
      variables = ((record { names = ((name 2 3 (codes "i")) ∷ []); kind = (syn.Integer (place 2 6)) }) ∷ []);
      statements = (syn.stmt
          (syn.For (place 4 3) (name 4 7 (codes "i")) (syn.Number (place 4 12) (pos 1))
          (syn.Truth (place 4 15) true) syn.no_stmt)
          syn.no_stmt);
    })) ∷ [])

-- process OrcaMain();
--   f: integer;
-- begin
--   for OrcaMain in 1..2 do od;
-- end;
abbrev pub rule_4 : List Source
rule_4 = text
    ((syn.Process (place 1 1) (name 1 9 (codes "OrcaMain")) []
    (record {
      variables = ((record { names = ((name 2 3 (codes "f")) ∷ []); kind = (syn.Integer (place 2 6)) }) ∷ []);
      statements = (syn.stmt
          (syn.For (place 4 3) (name 4 7 (codes "OrcaMain")) (syn.Number (place 4 19) (pos 1))
          (syn.Number (place 4 22) (pos 2)) syn.no_stmt)
          syn.no_stmt);
    })) ∷ [])

-- type t = nil;
-- process OrcaMain(); begin end;
abbrev pub rule_5 : List Source
rule_5 = text
    ((syn.Declares (place 1 1) (name 1 6 (codes "t")) (syn.Alias (syn.Named (name 1 10 (codes "nil")))))
    ∷ (syn.Process (place 2 1) (name 2 9 (codes "OrcaMain")) [] record { variables = []; statements = syn.no_stmt }) ∷ [])

-- object specification A; end;
-- object implementation A;
--   a: A;
-- end;
-- process OrcaMain(); begin end;
abbrev pub rule_6 : List Source
rule_6 = text
    ((syn.Specification (place 1 1) (name 1 22 (codes "A")) [])
    ∷ (syn.Implementation (place 2 1) (name 2 23 (codes "A"))
    ((record { names = ((name 3 3 (codes "a")) ∷ []); kind = (syn.Named (name 3 6 (codes "A"))) }) ∷ []) [] None)
    ∷ (syn.Process (place 5 1) (name 5 9 (codes "OrcaMain")) [] record { variables = []; statements = syn.no_stmt }) ∷ [])

-- function f(a: shared integer); begin end;
-- process OrcaMain(); begin end;
abbrev pub rule_7 : List Source
rule_7 = text
    ((syn.Function (place 1 1) (name 1 10 (codes "f"))
    ((record { name = (name 1 12 (codes "a")); mode = mode.Shared; kind = (syn.Integer (place 1 22)) }) ∷ []) None record
    { variables = []; statements = syn.no_stmt })
    ∷ (syn.Process (place 2 1) (name 2 9 (codes "OrcaMain")) [] record { variables = []; statements = syn.no_stmt }) ∷ [])

-- type t = t;
-- process OrcaMain(); begin end;
abbrev pub rule_8 : List Source
rule_8 = text
    ((syn.Declares (place 1 1) (name 1 6 (codes "t")) (syn.Alias (syn.Named (name 1 10 (codes "t")))))
    ∷ (syn.Process (place 2 1) (name 2 9 (codes "OrcaMain")) [] record { variables = []; statements = syn.no_stmt }) ∷ [])

-- const c = nil;
-- process OrcaMain(); begin end;
abbrev pub rule_9 : List Source
rule_9 = text
    ((syn.Constant (place 1 1) (name 1 7 (codes "c")) (bounds.Named (name 1 11 (codes "nil"))))
    ∷ (syn.Process (place 2 1) (name 2 9 (codes "OrcaMain")) [] record { variables = []; statements = syn.no_stmt }) ∷ [])

-- type t = array [1..10000] of integer;
-- process OrcaMain(); begin end;
abbrev pub rule_10 : List Source
rule_10 = text
    ((syn.Declares (place 1 1) (name 1 6 (codes "t"))
    (syn.Alias
    (syn.Array (place 1 10) (bounds.Number (place 1 17) (pos 1)) (bounds.Number (place 1 20) (pos 10000))
    (syn.Integer (place 1 30)))))
    ∷ (syn.Process (place 2 1) (name 2 9 (codes "OrcaMain")) [] record { variables = []; statements = syn.no_stmt }) ∷ [])

-- process OrcaMain(); begin end;
-- object implementation A; end;
abbrev pub rule_11 : List Source
rule_11 = text
    ((syn.Process (place 1 1) (name 1 9 (codes "OrcaMain")) [] record { variables = []; statements = syn.no_stmt })
    ∷ (syn.Implementation (place 2 1) (name 2 23 (codes "A")) [] [] None) ∷ [])

-- object specification A; operation f(): integer; end;
-- object implementation A;
-- operation f(); begin end;
-- end;
-- process OrcaMain(); begin end;
abbrev pub rule_12 : List Source
rule_12 = text
    ((syn.Specification (place 1 1) (name 1 22 (codes "A"))
    ((record { at = (place 1 25); name = (name 1 35 (codes "f")); parameters = []; result = (Some (syn.Integer (place 1 40))) }) ∷ []))
    ∷ (syn.Implementation (place 2 1) (name 2 23 (codes "A")) []
    ((record {
      head = (record { at = (place 3 1); name = (name 3 11 (codes "f")); parameters = []; result = None });
      variables = [];
      body = (syn.Plain syn.no_stmt);
    }) ∷ [])
    None)
    ∷ (syn.Process (place 5 1) (name 5 9 (codes "OrcaMain")) [] record { variables = []; statements = syn.no_stmt }) ∷ [])

-- function g(a: out integer);
-- begin
--   WriteLine(a);
-- end;
-- process OrcaMain(); begin end;
abbrev pub rule_13 : List Source
rule_13 = text
    ((syn.Function (place 1 1) (name 1 10 (codes "g"))
    ((record { name = (name 1 12 (codes "a")); mode = mode.Out; kind = (syn.Integer (place 1 19)) }) ∷ []) None
    (record {
      variables = [];
      statements = (syn.stmt (syn.WriteLine (place 3 3) (syn.expr (syn.Get (name 3 13 (codes "a")) syn.here) syn.no_expr))
          syn.no_stmt);
    }))
    ∷ (syn.Process (place 5 1) (name 5 9 (codes "OrcaMain")) [] record { variables = []; statements = syn.no_stmt }) ∷ [])

-- function g();
-- begin
--   fork OrcaMain();
-- end;
-- process OrcaMain(); begin end;
abbrev pub rule_14 : List Source
rule_14 = text
    ((syn.Function (place 1 1) (name 1 10 (codes "g")) [] None
    (record {
      variables = [];
      statements = (syn.stmt (syn.Fork (place 3 3) (name 3 8 (codes "OrcaMain")) syn.no_expr None) syn.no_stmt);
    }))
    ∷ (syn.Process (place 5 1) (name 5 9 (codes "OrcaMain")) [] record { variables = []; statements = syn.no_stmt }) ∷ [])

-- object specification A; operation f(); end;
-- function g(a: shared A); begin end;
-- object implementation A; x: integer;
-- operation f(); begin
--   g(x);
-- end; end;
-- process OrcaMain(); begin end;
abbrev pub rule_15 : List Source
rule_15 = text
    ((syn.Specification (place 1 1) (name 1 22 (codes "A"))
    ((record { at = (place 1 25); name = (name 1 35 (codes "f")); parameters = []; result = None }) ∷ []))
    ∷ (syn.Function (place 2 1) (name 2 10 (codes "g"))
    ((record { name = (name 2 12 (codes "a")); mode = mode.Shared; kind = (syn.Named (name 2 22 (codes "A"))) }) ∷ []) None record
    { variables = []; statements = syn.no_stmt })
    ∷ (syn.Implementation (place 3 1) (name 3 23 (codes "A"))
    ((record { names = ((name 3 26 (codes "x")) ∷ []); kind = (syn.Integer (place 3 29)) }) ∷ [])
    ((record {
      head = (record { at = (place 4 1); name = (name 4 11 (codes "f")); parameters = []; result = None });
      variables = [];
      body = (syn.Plain
          (syn.stmt
          (Stmt.Call (name 5 3 (codes "g")) (syn.expr (syn.Get (name 5 5 (codes "x")) syn.here) syn.no_expr))
          syn.no_stmt));
    }) ∷ [])
    None)
    ∷ (syn.Process (place 7 1) (name 7 9 (codes "OrcaMain")) [] record { variables = []; statements = syn.no_stmt }) ∷ [])

-- function OrcaMain(); begin end;
abbrev pub rule_16 : List Source
rule_16 = text ((syn.Function (place 1 1) (name 1 10 (codes "OrcaMain")) [] None record { variables = []; statements = syn.no_stmt }) ∷ [])

-- object specification A; operation f(); end;
-- object implementation A; x: integer;
-- operation f(); begin
--   guard x do od;
-- end; end;
-- process OrcaMain(); begin end;
abbrev pub rule_17 : List Source
rule_17 = text
    ((syn.Specification (place 1 1) (name 1 22 (codes "A"))
    ((record { at = (place 1 25); name = (name 1 35 (codes "f")); parameters = []; result = None }) ∷ []))
    ∷ (syn.Implementation (place 2 1) (name 2 23 (codes "A"))
    ((record { names = ((name 2 26 (codes "x")) ∷ []); kind = (syn.Integer (place 2 29)) }) ∷ [])
    ((record {
      head = (record { at = (place 3 1); name = (name 3 11 (codes "f")); parameters = []; result = None });
      variables = [];
      body = (syn.Guarded
          (record { at = (place 4 3); test = (syn.Get (name 4 9 (codes "x")) syn.here); body = syn.no_stmt }) []);
    }) ∷ [])
    None)
    ∷ (syn.Process (place 6 1) (name 6 9 (codes "OrcaMain")) [] record { variables = []; statements = syn.no_stmt }) ∷ [])

-- object specification A; operation f(); end;
-- object implementation A; g: array [1..graph] of integer;
-- operation f(); begin
--   guard (addnode(g) = nil) do od;
-- end; end;
-- process OrcaMain(); begin end;
abbrev pub rule_18 : List Source
rule_18 = text
    ((syn.Specification (place 1 1) (name 1 22 (codes "A"))
    ((record { at = (place 1 25); name = (name 1 35 (codes "f")); parameters = []; result = None }) ∷ []))
    ∷ (syn.Implementation (place 2 1) (name 2 23 (codes "A"))
    ((record {
      names = ((name 2 26 (codes "g")) ∷ []);
      kind = (syn.Array (place 2 29) (bounds.Number (place 2 36) (pos 1)) (bounds.Named (name 2 39 (codes "graph")))
          (syn.Integer (place 2 49)));
    }) ∷ [])
    ((record {
      head = (record { at = (place 3 1); name = (name 3 11 (codes "f")); parameters = []; result = None });
      variables = [];
      body = (syn.Guarded
          (record {
            at = (place 4 3);
            test = (syn.Parentheses (place 4 9)
                (syn.Chain
                (Expr.Call (name 4 10 (codes "addnode"))
                (syn.expr (syn.Get (name 4 18 (codes "g")) syn.here) syn.no_expr))
                (syn.link op.Equal (syn.Get (name 4 23 (codes "nil")) syn.here) syn.no_link)));
            body = syn.no_stmt;
          })
          []);
    }) ∷ [])
    None)
    ∷ (syn.Process (place 6 1) (name 6 9 (codes "OrcaMain")) [] record { variables = []; statements = syn.no_stmt }) ∷ [])

-- process OrcaMain(); x: integer; begin
--   nil := nil;
-- end;
abbrev pub rule_19 : List Source
rule_19 = text
    ((syn.Process (place 1 1) (name 1 9 (codes "OrcaMain")) []
    (record {
      variables = ((record { names = ((name 1 21 (codes "x")) ∷ []); kind = (syn.Integer (place 1 24)) }) ∷ []);
      statements = (syn.stmt (syn.Assign (name 2 3 (codes "nil")) syn.here (syn.Get (name 2 10 (codes "nil")) syn.here))
          syn.no_stmt);
    })) ∷ [])

-- process OrcaMain(); x: integer; begin
--   x := true;
-- end;
abbrev pub rule_20 : List Source
rule_20 = text
    ((syn.Process (place 1 1) (name 1 9 (codes "OrcaMain")) []
    (record {
      variables = ((record { names = ((name 1 21 (codes "x")) ∷ []); kind = (syn.Integer (place 1 24)) }) ∷ []);
      statements = (syn.stmt (syn.Assign (name 2 3 (codes "x")) syn.here (syn.Truth (place 2 8) true)) syn.no_stmt);
    })) ∷ [])

-- process OrcaMain(); x: integer; begin
--   if x then fi;
-- end;
abbrev pub rule_21 : List Source
rule_21 = text
    ((syn.Process (place 1 1) (name 1 9 (codes "OrcaMain")) []
    (record {
      variables = ((record { names = ((name 1 21 (codes "x")) ∷ []); kind = (syn.Integer (place 1 24)) }) ∷ []);
      statements = (syn.stmt
          (syn.If (place 2 3) (syn.arm (syn.When (syn.Get (name 2 6 (codes "x")) syn.here) syn.no_stmt) syn.no_arm))
          syn.no_stmt);
    })) ∷ [])

-- process OrcaMain(); begin
--   for i in 1..'a' do od;
-- end;
abbrev pub rule_22 : List Source
rule_22 = text
    ((syn.Process (place 1 1) (name 1 9 (codes "OrcaMain")) []
    (record {
      variables = [];
      statements = (syn.stmt
          (syn.For (place 2 3) (name 2 7 (codes "i")) (syn.Number (place 2 12) (pos 1))
          (syn.Char (place 2 15) 97) syn.no_stmt)
          syn.no_stmt);
    })) ∷ [])

-- process OrcaMain(); begin
--   return 1 + true;
-- end;
abbrev pub rule_23 : List Source
rule_23 = text
    ((syn.Process (place 1 1) (name 1 9 (codes "OrcaMain")) []
    (record {
      variables = [];
      statements = (syn.stmt
          (syn.Return (place 2 3)
          (Some
          (syn.Chain (syn.Number (place 2 10) (pos 1))
          (syn.link op.Add (syn.Truth (place 2 14) true) syn.no_link))))
          syn.no_stmt);
    })) ∷ [])

-- process OrcaMain(); x: integer; begin
--   fork addnode(x);
-- end;
abbrev pub rule_24 : List Source
rule_24 = text
    ((syn.Process (place 1 1) (name 1 9 (codes "OrcaMain")) []
    (record {
      variables = ((record { names = ((name 1 21 (codes "x")) ∷ []); kind = (syn.Integer (place 1 24)) }) ∷ []);
      statements = (syn.stmt
          (syn.Fork (place 2 3) (name 2 8 (codes "addnode"))
          (syn.expr (syn.Get (name 2 16 (codes "x")) syn.here) syn.no_expr) None)
          syn.no_stmt);
    })) ∷ [])

-- process P(); begin end;
-- process OrcaMain(); begin
--   fork P() on true;
-- end;
abbrev pub rule_25 : List Source
rule_25 = text
    ((syn.Process (place 1 1) (name 1 9 (codes "P")) [] record { variables = []; statements = syn.no_stmt })
    ∷ (syn.Process (place 2 1) (name 2 9 (codes "OrcaMain")) []
    (record {
      variables = [];
      statements = (syn.stmt (syn.Fork (place 3 3) (name 3 8 (codes "P")) syn.no_expr (Some (syn.Truth (place 3 15) true)))
          syn.no_stmt);
    })) ∷ [])

-- process OrcaMain(); x: integer; begin
--   x(1);
-- end;
abbrev pub rule_26 : List Source
rule_26 = text
    ((syn.Process (place 1 1) (name 1 9 (codes "OrcaMain")) []
    (record {
      variables = ((record { names = ((name 1 21 (codes "x")) ∷ []); kind = (syn.Integer (place 1 24)) }) ∷ []);
      statements = (syn.stmt (Stmt.Call (name 2 3 (codes "x")) (syn.expr (syn.Number (place 2 5) (pos 1)) syn.no_expr))
          syn.no_stmt);
    })) ∷ [])

-- process OrcaMain(); x: integer; begin
--   x$f();
-- end;
abbrev pub rule_27 : List Source
rule_27 = text
    ((syn.Process (place 1 1) (name 1 9 (codes "OrcaMain")) []
    (record {
      variables = ((record { names = ((name 1 21 (codes "x")) ∷ []); kind = (syn.Integer (place 1 24)) }) ∷ []);
      statements = (syn.stmt (Stmt.Invoke (name 2 3 (codes "x")) (name 2 5 (codes "f")) syn.no_expr) syn.no_stmt);
    })) ∷ [])

-- object specification A; operation f(): integer; end;
-- object implementation A; x: integer; operation f(): integer; begin return 1; end; end;
-- process OrcaMain(); x: A; begin
--   x$x();
-- end;
abbrev pub rule_28 : List Source
rule_28 = text
    ((syn.Specification (place 1 1) (name 1 22 (codes "A"))
    ((record { at = (place 1 25); name = (name 1 35 (codes "f")); parameters = []; result = (Some (syn.Integer (place 1 40))) }) ∷ []))
    ∷ (syn.Implementation (place 2 1) (name 2 23 (codes "A"))
    ((record { names = ((name 2 26 (codes "x")) ∷ []); kind = (syn.Integer (place 2 29)) }) ∷ [])
    ((record {
      head = (record {
        at = (place 2 38);
        name = (name 2 48 (codes "f"));
        parameters = [];
        result = (Some (syn.Integer (place 2 53)));
      });
      variables = [];
      body = (syn.Plain (syn.stmt (syn.Return (place 2 68) (Some (syn.Number (place 2 75) (pos 1)))) syn.no_stmt));
    }) ∷ [])
    None)
    ∷ (syn.Process (place 3 1) (name 3 9 (codes "OrcaMain")) []
    (record {
      variables = ((record { names = ((name 3 21 (codes "x")) ∷ []); kind = (syn.Named (name 3 24 (codes "A"))) }) ∷ []);
      statements = (syn.stmt (Stmt.Invoke (name 4 3 (codes "x")) (name 4 5 (codes "x")) syn.no_expr) syn.no_stmt);
    })) ∷ [])

-- function f(a: integer); begin end;
-- process OrcaMain(); begin
--   f();
-- end;
abbrev pub rule_29 : List Source
rule_29 = text
    ((syn.Function (place 1 1) (name 1 10 (codes "f"))
    ((record { name = (name 1 12 (codes "a")); mode = mode.Value; kind = (syn.Integer (place 1 15)) }) ∷ []) None record
    { variables = []; statements = syn.no_stmt })
    ∷ (syn.Process (place 2 1) (name 2 9 (codes "OrcaMain")) []
    (record { variables = []; statements = (syn.stmt (Stmt.Call (name 3 3 (codes "f")) syn.no_expr) syn.no_stmt) })) ∷ [])

-- function f(a: integer); begin end;
-- process OrcaMain(); begin
--   f(true);
-- end;
abbrev pub rule_30 : List Source
rule_30 = text
    ((syn.Function (place 1 1) (name 1 10 (codes "f"))
    ((record { name = (name 1 12 (codes "a")); mode = mode.Value; kind = (syn.Integer (place 1 15)) }) ∷ []) None record
    { variables = []; statements = syn.no_stmt })
    ∷ (syn.Process (place 2 1) (name 2 9 (codes "OrcaMain")) []
    (record {
      variables = [];
      statements = (syn.stmt (Stmt.Call (name 3 3 (codes "f")) (syn.expr (syn.Truth (place 3 5) true) syn.no_expr)) syn.no_stmt);
    })) ∷ [])

-- object specification A; end;
-- object implementation A; end;
-- function f(a: shared A); begin end; process OrcaMain(); a: A; begin
--   f((a));
-- end;
abbrev pub rule_31 : List Source
rule_31 = text
    ((syn.Specification (place 1 1) (name 1 22 (codes "A")) [])
    ∷ (syn.Implementation (place 2 1) (name 2 23 (codes "A")) [] [] None)
    ∷ (syn.Function (place 3 1) (name 3 10 (codes "f"))
    ((record { name = (name 3 12 (codes "a")); mode = mode.Shared; kind = (syn.Named (name 3 22 (codes "A"))) }) ∷ []) None record
    { variables = []; statements = syn.no_stmt })
    ∷ (syn.Process (place 3 37) (name 3 45 (codes "OrcaMain")) []
    (record {
      variables = ((record { names = ((name 3 57 (codes "a")) ∷ []); kind = (syn.Named (name 3 60 (codes "A"))) }) ∷ []);
      statements = (syn.stmt
          (Stmt.Call (name 4 3 (codes "f"))
          (syn.expr (syn.Parentheses (place 4 5) (syn.Get (name 4 6 (codes "a")) syn.here)) syn.no_expr))
          syn.no_stmt);
    })) ∷ [])

-- function f(a: out integer); begin end;
-- process OrcaMain(); begin
--   f(1);
-- end;
abbrev pub rule_32 : List Source
rule_32 = text
    ((syn.Function (place 1 1) (name 1 10 (codes "f"))
    ((record { name = (name 1 12 (codes "a")); mode = mode.Out; kind = (syn.Integer (place 1 19)) }) ∷ []) None record
    { variables = []; statements = syn.no_stmt })
    ∷ (syn.Process (place 2 1) (name 2 9 (codes "OrcaMain")) []
    (record {
      variables = [];
      statements = (syn.stmt (Stmt.Call (name 3 3 (codes "f")) (syn.expr (syn.Number (place 3 5) (pos 1)) syn.no_expr))
          syn.no_stmt);
    })) ∷ [])

-- function f(); begin end;
-- process OrcaMain(); begin
--   WriteLine(f());
-- end;
abbrev pub rule_33 : List Source
rule_33 = text
    ((syn.Function (place 1 1) (name 1 10 (codes "f")) [] None record { variables = []; statements = syn.no_stmt })
    ∷ (syn.Process (place 2 1) (name 2 9 (codes "OrcaMain")) []
    (record {
      variables = [];
      statements = (syn.stmt
          (syn.WriteLine (place 3 3) (syn.expr (Expr.Call (name 3 13 (codes "f")) syn.no_expr) syn.no_expr))
          syn.no_stmt);
    })) ∷ [])

-- process OrcaMain(); begin
--   WriteLine(1, nil);
-- end;
abbrev pub rule_34 : List Source
rule_34 = text
    ((syn.Process (place 1 1) (name 1 9 (codes "OrcaMain")) []
    (record {
      variables = [];
      statements = (syn.stmt
          (syn.WriteLine (place 2 3)
          (syn.expr (syn.Number (place 2 13) (pos 1))
          (syn.expr (syn.Get (name 2 16 (codes "nil")) syn.here) syn.no_expr)))
          syn.no_stmt);
    })) ∷ [])

-- process OrcaMain(); x: boolean; begin
--   x := 1 and true;
-- end;
abbrev pub rule_35 : List Source
rule_35 = text
    ((syn.Process (place 1 1) (name 1 9 (codes "OrcaMain")) []
    (record {
      variables = ((record { names = ((name 1 21 (codes "x")) ∷ []); kind = (syn.Boolean (place 1 24)) }) ∷ []);
      statements = (syn.stmt
          (syn.Assign (name 2 3 (codes "x")) syn.here
          (syn.Chain (syn.Number (place 2 8) (pos 1))
          (syn.link op.And (syn.Truth (place 2 14) true) syn.no_link)))
          syn.no_stmt);
    })) ∷ [])

-- process OrcaMain(); x: string; begin
--   x := x + x;
-- end;
abbrev pub rule_36 : List Source
rule_36 = text
    ((syn.Process (place 1 1) (name 1 9 (codes "OrcaMain")) []
    (record {
      variables = ((record { names = ((name 1 21 (codes "x")) ∷ []); kind = (syn.String (place 1 24)) }) ∷ []);
      statements = (syn.stmt
          (syn.Assign (name 2 3 (codes "x")) syn.here
          (syn.Chain (syn.Get (name 2 8 (codes "x")) syn.here)
          (syn.link op.Add (syn.Get (name 2 12 (codes "x")) syn.here) syn.no_link)))
          syn.no_stmt);
    })) ∷ [])

-- process OrcaMain(); x: boolean; begin
--   x := 1 in 1;
-- end;
abbrev pub rule_37 : List Source
rule_37 = text
    ((syn.Process (place 1 1) (name 1 9 (codes "OrcaMain")) []
    (record {
      variables = ((record { names = ((name 1 21 (codes "x")) ∷ []); kind = (syn.Boolean (place 1 24)) }) ∷ []);
      statements = (syn.stmt
          (syn.Assign (name 2 3 (codes "x")) syn.here
          (syn.Chain (syn.Number (place 2 8) (pos 1))
          (syn.link op.In (syn.Number (place 2 13) (pos 1)) syn.no_link)))
          syn.no_stmt);
    })) ∷ [])

-- process OrcaMain(); x: integer; begin
--   insert(1, x);
-- end;
abbrev pub rule_38 : List Source
rule_38 = text
    ((syn.Process (place 1 1) (name 1 9 (codes "OrcaMain")) []
    (record {
      variables = ((record { names = ((name 1 21 (codes "x")) ∷ []); kind = (syn.Integer (place 1 24)) }) ∷ []);
      statements = (syn.stmt (syn.Insert (place 2 3) (syn.Number (place 2 10) (pos 1)) (name 2 13 (codes "x")) syn.here)
          syn.no_stmt);
    })) ∷ [])

-- process OrcaMain(); x: integer; begin
--   x := ord(x);
-- end;
abbrev pub rule_39 : List Source
rule_39 = text
    ((syn.Process (place 1 1) (name 1 9 (codes "OrcaMain")) []
    (record {
      variables = ((record { names = ((name 1 21 (codes "x")) ∷ []); kind = (syn.Integer (place 1 24)) }) ∷ []);
      statements = (syn.stmt
          (syn.Assign (name 2 3 (codes "x")) syn.here
          (syn.Ordinal (place 2 8) (syn.Get (name 2 12 (codes "x")) syn.here)))
          syn.no_stmt);
    })) ∷ [])

-- process OrcaMain(); x: integer; begin
--   x := x.f;
-- end;
abbrev pub rule_40 : List Source
rule_40 = text
    ((syn.Process (place 1 1) (name 1 9 (codes "OrcaMain")) []
    (record {
      variables = ((record { names = ((name 1 21 (codes "x")) ∷ []); kind = (syn.Integer (place 1 24)) }) ∷ []);
      statements = (syn.stmt
          (syn.Assign (name 2 3 (codes "x")) syn.here
          (syn.Get (name 2 8 (codes "x")) (syn.to (syn.Field (place 2 9) (name 2 10 (codes "f"))) syn.here)))
          syn.no_stmt);
    })) ∷ [])

-- process OrcaMain(); n: nodename; begin
--   n := addnode(n);
-- end;
abbrev pub rule_41 : List Source
rule_41 = text
    ((syn.Process (place 1 1) (name 1 9 (codes "OrcaMain")) []
    (record {
      variables = ((record { names = ((name 1 21 (codes "n")) ∷ []); kind = (syn.Named (name 1 24 (codes "nodename"))) }) ∷ []);
      statements = (syn.stmt
          (syn.Assign (name 2 3 (codes "n")) syn.here
          (Expr.Call (name 2 8 (codes "addnode"))
          (syn.expr (syn.Get (name 2 16 (codes "n")) syn.here) syn.no_expr)))
          syn.no_stmt);
    })) ∷ [])

-- object specification Pool; operation Put(j: integer); operation Take(): integer; end;
-- object implementation Pool;
--   jobs: bag of integer;
--   operation Put(j: integer); begin insert(j, jobs); end;
--   operation Take(): integer; begin
--     guard size(jobs) > 0 do return from(jobs); od;
--   end;
-- end;
-- process Worker(p: shared Pool; n: integer); s: integer; begin
--   for i in 1..n do s := s + p$Take() * i; od;
--   p$Put(s);
-- end;
-- process OrcaMain(); P: Pool; begin
--   for j in 1..3 do fork Worker(P, j) on j; od;
-- end;
abbrev pub a_pool : List Source
a_pool = text
    ((syn.Specification (place 1 1) (name 1 22 (codes "Pool"))
    ((record {
      at = (place 1 28);
      name = (name 1 38 (codes "Put"));
      parameters = ((record { name = (name 1 42 (codes "j")); kind = (syn.Integer (place 1 45)) }) ∷ []);
      result = None;
    })
    ∷ (record { at = (place 1 55); name = (name 1 65 (codes "Take")); parameters = []; result = (Some (syn.Integer (place 1 73))) }) ∷ []))
    ∷ (syn.Implementation (place 2 1) (name 2 23 (codes "Pool"))
    ((record { names = ((name 3 3 (codes "jobs")) ∷ []); kind = (syn.Bag (place 3 9) (syn.Integer (place 3 16))) }) ∷ [])
    ((record {
      head = (record {
        at = (place 4 3);
        name = (name 4 13 (codes "Put"));
        parameters = ((record { name = (name 4 17 (codes "j")); kind = (syn.Integer (place 4 20)) }) ∷ []);
        result = None;
      });
      variables = [];
      body = (syn.Plain
          (syn.stmt
          (syn.Insert (place 4 36) (syn.Get (name 4 43 (codes "j")) syn.here) (name 4 46 (codes "jobs")) syn.here)
          syn.no_stmt));
    })
    ∷ (record {
      head = (record {
        at = (place 5 3);
        name = (name 5 13 (codes "Take"));
        parameters = [];
        result = (Some (syn.Integer (place 5 21)));
      });
      variables = [];
      body = (syn.Guarded
          (record {
            at = (place 6 5);
            test = (syn.Chain (syn.Size (place 6 11) (syn.Get (name 6 16 (codes "jobs")) syn.here))
                (syn.link op.Greater (syn.Number (place 6 24) (pos 0)) syn.no_link));
            body = (syn.stmt
                (syn.Return (place 6 29) (Some (syn.From (place 6 36) (name 6 41 (codes "jobs")) syn.here)))
                syn.no_stmt);
          })
          []);
    }) ∷ [])
    None)
    ∷ (syn.Process (place 9 1) (name 9 9 (codes "Worker"))
    ((record { name = (name 9 16 (codes "p")); mode = mode.Shared; kind = (syn.Named (name 9 26 (codes "Pool"))) })
    ∷ (record { name = (name 9 32 (codes "n")); mode = mode.Value; kind = (syn.Integer (place 9 35)) }) ∷ [])
    (record {
      variables = ((record { names = ((name 9 45 (codes "s")) ∷ []); kind = (syn.Integer (place 9 48)) }) ∷ []);
      statements = (syn.stmt
          (syn.For (place 10 3) (name 10 7 (codes "i")) (syn.Number (place 10 12) (pos 1))
          (syn.Get (name 10 15 (codes "n")) syn.here)
          (syn.stmt
          (syn.Assign (name 10 20 (codes "s")) syn.here
          (syn.Chain (syn.Get (name 10 25 (codes "s")) syn.here)
          (syn.link op.Add
          (syn.Chain
          (Expr.Invoke (name 10 29 (codes "p")) (name 10 31 (codes "Take"))
          syn.no_expr)
          (syn.link op.Multiply (syn.Get (name 10 40 (codes "i")) syn.here) syn.no_link))
          syn.no_link)))
          syn.no_stmt))
          (syn.stmt
          (Stmt.Invoke (name 11 3 (codes "p")) (name 11 5 (codes "Put"))
          (syn.expr (syn.Get (name 11 9 (codes "s")) syn.here) syn.no_expr))
          syn.no_stmt));
    }))
    ∷ (syn.Process (place 13 1) (name 13 9 (codes "OrcaMain")) []
    (record {
      variables = ((record { names = ((name 13 21 (codes "P")) ∷ []); kind = (syn.Named (name 13 24 (codes "Pool"))) }) ∷ []);
      statements = (syn.stmt
          (syn.For (place 14 3) (name 14 7 (codes "j")) (syn.Number (place 14 12) (pos 1))
          (syn.Number (place 14 15) (pos 3))
          (syn.stmt
          (syn.Fork (place 14 20) (name 14 25 (codes "Worker"))
          (syn.expr (syn.Get (name 14 32 (codes "P")) syn.here)
          (syn.expr (syn.Get (name 14 35 (codes "j")) syn.here) syn.no_expr))
          (Some (syn.Get (name 14 41 (codes "j")) syn.here)))
          syn.no_stmt))
          syn.no_stmt);
    })) ∷ [])

-- type net = array [1..graph] of record_of_net; type record_of_net = record next: nodename; value: integer; end;
-- process OrcaMain(); g: net; n: nodename; graph: integer; begin
--   n := addnode(g); g[n].value := g[n].value + 1; g[n].next := nil;
--   if (g[n].next = nil) and (n > nil) then deletenode(g[n].next, g); fi;
--   graph := 2;
-- end;
abbrev pub a_net : List Source
a_net = text
    ((syn.Declares (place 1 1) (name 1 6 (codes "net"))
    (syn.Alias
    (syn.Array (place 1 12) (bounds.Number (place 1 19) (pos 1)) (bounds.Named (name 1 22 (codes "graph")))
    (syn.Named (name 1 32 (codes "record_of_net"))))))
    ∷ (syn.Declares (place 1 47) (name 1 52 (codes "record_of_net"))
    (syn.Record (place 1 68)
    ((record { name = (name 1 75 (codes "next")); kind = (syn.Named (name 1 81 (codes "nodename"))) })
    ∷ (record { name = (name 1 91 (codes "value")); kind = (syn.Integer (place 1 98)) }) ∷ [])))
    ∷ (syn.Process (place 2 1) (name 2 9 (codes "OrcaMain")) []
    (record {
      variables = ((record { names = ((name 2 21 (codes "g")) ∷ []); kind = (syn.Named (name 2 24 (codes "net"))) })
          ∷ (record { names = ((name 2 29 (codes "n")) ∷ []); kind = (syn.Named (name 2 32 (codes "nodename"))) })
          ∷ (record { names = ((name 2 42 (codes "graph")) ∷ []); kind = (syn.Integer (place 2 49)) }) ∷ []);
      statements = (syn.stmt
          (syn.Assign (name 3 3 (codes "n")) syn.here
          (Expr.Call (name 3 8 (codes "addnode"))
          (syn.expr (syn.Get (name 3 16 (codes "g")) syn.here) syn.no_expr)))
          (syn.stmt
          (syn.Assign (name 3 20 (codes "g"))
          (syn.to (syn.Index (place 3 21) (syn.Get (name 3 22 (codes "n")) syn.here))
          (syn.to (syn.Field (place 3 24) (name 3 25 (codes "value"))) syn.here))
          (syn.Chain
          (syn.Get (name 3 34 (codes "g"))
          (syn.to (syn.Index (place 3 35) (syn.Get (name 3 36 (codes "n")) syn.here))
          (syn.to (syn.Field (place 3 38) (name 3 39 (codes "value"))) syn.here)))
          (syn.link op.Add (syn.Number (place 3 47) (pos 1)) syn.no_link)))
          (syn.stmt
          (syn.Assign (name 3 50 (codes "g"))
          (syn.to (syn.Index (place 3 51) (syn.Get (name 3 52 (codes "n")) syn.here))
          (syn.to (syn.Field (place 3 54) (name 3 55 (codes "next"))) syn.here))
          (syn.Get (name 3 63 (codes "nil")) syn.here))
          (syn.stmt
          (syn.If (place 4 3)
          (syn.arm
          (syn.When
          (syn.Chain
          (syn.Parentheses (place 4 6)
          (syn.Chain
          (syn.Get (name 4 7 (codes "g"))
          (syn.to
          (syn.Index (place 4 8)
          (syn.Get (name 4 9 (codes "n")) syn.here))
          (syn.to
          (syn.Field (place 4 11)
          (name 4 12 (codes "next")))
          syn.here)))
          (syn.link op.Equal
          (syn.Get (name 4 19 (codes "nil")) syn.here)
          syn.no_link)))
          (syn.link op.And
          (syn.Parentheses (place 4 28)
          (syn.Chain (syn.Get (name 4 29 (codes "n")) syn.here)
          (syn.link op.Greater
          (syn.Get (name 4 33 (codes "nil")) syn.here)
          syn.no_link)))
          syn.no_link))
          (syn.stmt
          (Stmt.Call (name 4 43 (codes "deletenode"))
          (syn.expr
          (syn.Get (name 4 54 (codes "g"))
          (syn.to
          (syn.Index (place 4 55)
          (syn.Get (name 4 56 (codes "n")) syn.here))
          (syn.to
          (syn.Field (place 4 58)
          (name 4 59 (codes "next")))
          syn.here)))
          (syn.expr (syn.Get (name 4 65 (codes "g")) syn.here)
          syn.no_expr)))
          syn.no_stmt))
          syn.no_arm))
          (syn.stmt
          (syn.Assign (name 5 3 (codes "graph")) syn.here (syn.Number (place 5 12) (pos 2)))
          syn.no_stmt)))));
    })) ∷ [])
