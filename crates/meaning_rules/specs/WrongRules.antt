-- Wrong rules, each of which a row tells apart from the right one; nothing else rests on them.
use Rattle.std.specs.Prelude.{ℕ, zero, suc, ℤ, pos, ◌+ℤ◌, int_le, Bool, true, false, List, [], ◌∷◌, reverse, codes, Result, Ok}
use Rattle.orca_base.specs.declared.fault.FaultKind.{FaultKind}
use Rattle.orca_tree.specs.declared.tree.Name.{Name}
use Rattle.orca_tree.specs.declared.tree.Bound.TheVariants as bounds
use Rattle.orca_tree.specs.declared.tree.Operator.{Operator}
use Rattle.orca_tree.specs.declared.tree.Operator.TheVariants as op
use Rattle.orca_syntax.specs.Bare.{nowhere}
use Rattle.orca_syntax.specs.Syntax as syn
use Rattle.orca_syntax.specs.Syntax.{Expr, Path, Stmt, Stmts}
use Rattle.link_rules.specs.Units.{Source}
use Rattle.type_rules.specs.Scopes.{Scope}
use Rattle.type_rules.specs.Statements.{with_loop}
use Rattle.value_core.specs.Datum.{Datum, data_of}
use Rattle.value_core.specs.Datum as datum
use Rattle.value_core.specs.declared.action.Reply.TheVariants as reply
use Rattle.value_core.specs.declared.meaning.Tried.{Tried}
use Rattle.value_core.specs.declared.meaning.Tried.TheVariants as tried
use Rattle.value_ops.specs.Elements.{elements, first_of, without_least}
use Rattle.meaning_rules.specs.Operators.{integer_in, applied, decides}
use Rattle.meaning_rules.specs.Programs.{process_scope}
use Rattle.meaning_rules.specs.States.{State, Out, Goes, Stops, after, gives}
use Rattle.meaning_rules.specs.Designators.{root_type}
use Rattle.meaning_rules.specs.Variables.{Target, target, store, held, change}
use Rattle.meaning_rules.specs.Calls.{Calls}
use Rattle.meaning_rules.specs.Expressions.{eval, eval_path}
use Rattle.meaning_rules.specs.Loops.{Flow, On, go_on, counted_round}
use Rattle.meaning_rules.specs.Statements.{run, run_all}
use Rattle.meaning_rules.specs.Functions.{all_calls}
use Rattle.meaning_rules.specs.Operations.{fault_of}
use Rattle.meaning_rules.specs.Phrases.{name, number, get, joined, statements, set, variables, program, main}

-- ---- the rules

-- an assignment evaluates its right side before the indices of its left side
abbrev pub right_side_first : List Source → Scope → Name → Path → Expr → State → Out Flow
right_side_first us v n p e s =
    after (eval (all_calls us) v e s) (λ x s1.
    after (eval_path (all_calls us) v (root_type v n) p s1) (λ path s2.
    after (store (target v n path) x s2) (λ _ s3. Goes On s3)))

-- an operator always evaluates its right operand
abbrev pub decided : Bool → Operator → Datum → Datum → Result Datum FaultKind
decided true operator left right = Ok left
decided false operator left right = applied operator left right

abbrev pub both_operands : Operator → Datum → (State → Out Datum) → State → Out Datum
both_operands operator left right s = after (right s) (λ x s1. gives (decided (decides operator left) operator left x) s1)

-- the variable of a `for` keeps its first value
abbrev pub variable_stays : ℕ → ℤ → (State → Out Flow) → State → Out Flow
variable_stays zero i body s = Goes On s
variable_stays (suc n) i body s = after (counted_round i body s) (λ flow s1. go_on flow s1 (variable_stays n i body))

-- the high bound of a `for` is evaluated in each round, of which there are so many at most
abbrev pub round_below : Bool → (State → Out Flow) → State → Out Flow
round_below true rounds s = rounds s
round_below false rounds s = Goes On s

abbrev pub bound_in_each_round : ℕ → ℤ → (State → Out Datum) → (State → Out Flow) → State → Out Flow
bound_in_each_round zero i high body s = Goes On s
bound_in_each_round (suc n) i high body s =
    after (high s) (λ b s1.
    round_below (int_le i (integer_in b)) (λ s2.
    after (counted_round i body s2) (λ flow s3. go_on flow s3 (bound_in_each_round n (i +ℤ pos 1) high body))) s1)

-- `from` takes the greatest element
abbrev pub last_of : List Datum → Result Datum FaultKind
last_of xs = first_of (reverse xs)

abbrev pub take_greatest : Target → State → Out Datum
take_greatest to s =
    after (held to s) (λ all s1.
    after (gives (last_of (elements all)) s1) (λ greatest s2.
    after (change to (λ old. Ok (without_least old)) s2) (λ _ s3. Goes greatest s3)))

-- a body that faults leaves what it stored before
abbrev pub half_behind : Out Flow → State → (State → Tried) → Tried
half_behind (Goes flow s1) s rest = rest s1
half_behind (Stops why) s rest = tried.Did 0 (data_of s.frame) (reply.Broke (fault_of why))

abbrev pub fault_keeps_half : List Source → Scope → Stmts → State → Tried
fault_keeps_half us v syn.no_stmt s = tried.Did 0 (data_of s.frame) reply.Done
fault_keeps_half us v (syn.stmt x xs) s = half_behind (run (all_calls us) v x s) s (fault_keeps_half us v xs)

-- ---- a body on which they are tried

-- x, n: integer; s: set of integer; a: array [1..2] of integer;
abbrev pub body_variables : List syn.Variables
body_variables =
    variables (name (codes "x") ∷ name (codes "n") ∷ []) (syn.Integer nowhere)
    ∷ variables (name (codes "s") ∷ []) (syn.Set nowhere (syn.Integer nowhere))
    ∷ variables (name (codes "a") ∷ [])
    (syn.Array nowhere (bounds.Number nowhere (pos 1)) (bounds.Number nowhere (pos 2)) (syn.Integer nowhere)) ∷ []

abbrev pub body_program : List Source
body_program = program (main body_variables syn.no_stmt ∷ [])

abbrev pub body_scope : Scope
body_scope = process_scope body_program (codes "Main") [] (record { variables = body_variables; statements = syn.no_stmt })

-- where x is 0, n is 3, s has 2 and 7, and a has 0 and 0
abbrev pub numbers : List ℕ → List Datum
numbers [] = []
numbers (n ∷ ns) = datum.int (pos n) ∷ numbers ns

abbrev pub body_frame : ℕ → ℕ → List ℕ → List Datum
body_frame x n elements =
    datum.int (pos x) ∷ datum.int (pos n) ∷ datum.set (data_of (numbers elements))
    ∷ datum.array (data_of (numbers (0 ∷ 0 ∷ []))) ∷ []

abbrev pub body_state : State
body_state = record { frame = body_frame 0 3 (2 ∷ 7 ∷ []); replies = []; left = 100 }

-- what a body leaves
abbrev pub frame_of : {A : Type 0} → Out A → List Datum
frame_of (Goes x s) = s.frame
frame_of (Stops why) = []

-- a[1 / 0], and 9223372036854775807 + 1
abbrev pub divides : Expr
divides = joined (number 1) op.Divide (number 0)

abbrev pub bad_index : Path
bad_index = syn.to (syn.Index nowhere divides) syn.here

abbrev pub overflows : Expr
overflows = joined (number 9223372036854775807) op.Add (number 1)

-- x := x + i; n := 0;
abbrev pub adds : Stmts
adds = statements (set (codes "x") (joined (get (codes "x")) op.Add (get (codes "i"))) ∷ set (codes "n") (number 0) ∷ [])

-- x := 1; n := 9223372036854775807 + 1;
abbrev pub faults_behind : Stmts
faults_behind = statements (set (codes "x") (number 1) ∷ set (codes "n") overflows ∷ [])

-- evaluation in the body, and of the body of a `for` whose variable is i
abbrev pub here : Calls
here = all_calls body_program

abbrev pub evaluates : Expr → State → Out Datum
evaluates e s = eval here body_scope e s

abbrev pub runs_adds : State → Out Flow
runs_adds s = run_all here (with_loop body_scope (name (codes "i"))) adds s

abbrev pub the_set : Target
the_set = target body_scope (name (codes "s")) []
