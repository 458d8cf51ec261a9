-- A process makes an object for each of its variables of an object type, numbered from 1; other bodies make none.
use Rattle.std.proofs.Common.{ℕ, ◌+◌, ◌<◌, ◌≤◌, Bool, true, false, List, [], ◌∷◌, length, drop, Option, Some, None, arith, length-drop}
use Rattle.std.specs.Prelude.{is_some}
use Rattle.orca_syntax.specs.Syntax as syn
use Rattle.orca_syntax.specs.Syntax.{Stmts, Guard, Kind, Parameter, Operation, Block}
use Rattle.link_rules.specs.Units.{Source}
use Rattle.type_rules.specs.Scopes.{Scope, Local}
use Rattle.meaning_rules.specs.Processes.{object_type_of}
use Rattle.meaning_rules.specs.Programs.{ObjectType, begin_scope, function_scope, operation_scope, process_scope}
use Rattle.code_rules.specs.Instructions.{Instr, End}
use Rattle.code_rules.specs.Layouts.{layout_of}
use Rattle.code_rules.specs.Phrases.{depth_all, expr_code, stmts_code}
use Rattle.code_rules.specs.Bodies.{alternatives_piece, begin_stmts, body_depth, body_piece, function_code, guards_piece, last_instr, making_code, operation_code, process_code, variable_code, variables_code}
use Rattle.code_numbers.proofs.Below.{IsBelow, AreBelow, PieceBelow, append_below, guard_below}
use Rattle.code_numbers.proofs.Phrases.{expr_below, stmts_below}

last_below : (n : ℕ) (has_result : Bool) → IsBelow n (last_instr has_result)
last_below n true = tt
last_below n false = tt

body_below : (n : ℕ) (v : Scope) (spare : ℕ) (ss : Stmts) (last : Instr) → IsBelow n last → PieceBelow n (body_piece v spare ss last)
body_below n v spare ss last h pc =
    append_below n (stmts_code v (layout_of v spare) ss pc) _ (stmts_below n ss v (layout_of v spare) pc) (h, tt)

-- ---- processes

variables_below : (n : ℕ) (us : List Source) (ls : List Local) (slot count : ℕ) → count + length ls ≤ n → PieceBelow n (variables_code us ls slot count)
variables_below n us [] slot count few pc = tt
variables_below n us (l ∷ ls) slot count few pc =
    by_type (object_type_of l) (λ k le q. variables_below n us ls (slot + 1) k le q)
  where
    by_type : (o : Option ℕ) → ((k : ℕ) → k + length ls ≤ n → PieceBelow n (variables_code us ls (slot + 1) k)) →
        AreBelow n (variable_code us count slot o (variables_code us ls (slot + 1)) pc)
    by_type None h = h count (omega (arith, few)) pc
    by_type (Some i) h = (omega (arith, few), (tt, h (count + 1) (omega (arith, few)) _))

pub process_below : (n : ℕ) (us : List Source) (home : List ℕ) (ps : List Parameter) (b : Block) → length (process_scope us home ps b).locals < n →
    AreBelow n (process_code us home ps b).code
process_below n us home ps b few =
    let v = process_scope us home ps b in
    let fewer = length-drop (length ps) v.locals in
    append_below n (variables_code us (drop (length ps) v.locals) (length ps) 1 0) _
    (variables_below n us (drop (length ps) v.locals) (length ps) 1 (omega (arith, few, fewer)) 0)
    (body_below n v (depth_all b.statements) b.statements End tt _)

-- ---- the others

pub function_below : (n : ℕ) (us : List Source) (home : List ℕ) (ps : List Parameter) (r : Option Kind) (b : Block) → AreBelow n (function_code us home ps r b).code
function_below n us home ps r b =
    body_below n (function_scope us home ps r b) (depth_all b.statements) b.statements (last_instr (is_some r)) (last_below n (is_some r)) 0

guards_below : (n : ℕ) (g v : Scope) (spare : ℕ) (has : Bool) (gs : List Guard) → PieceBelow n (guards_piece g v spare has gs)
guards_below n g v spare has [] pc = (tt, tt)
guards_below n g v spare has (x ∷ gs) pc =
    guard_below n (expr_code g (layout_of g spare) x.test) (body_piece v spare x.body (last_instr has)) (guards_piece g v spare has gs)
    (expr_below n x.test g (layout_of g spare)) (body_below n v spare x.body (last_instr has) (last_below n has)) (guards_below n g v spare has gs) pc

alternatives_below : (n : ℕ) (g v : Scope) (spare : ℕ) (has : Bool) (b : syn.Body) → PieceBelow n (alternatives_piece g v spare has b)
alternatives_below n g v spare has (syn.Guarded first others) pc = guards_below n g v spare has (first ∷ others) pc
alternatives_below n g v spare has (syn.Plain ss) pc = body_below n v spare ss (last_instr has) (last_below n has) pc

pub operation_below : (n : ℕ) (us : List Source) (t : ObjectType) (o : Operation) → AreBelow n (operation_code us t o).body.code
operation_below n us t o =
    alternatives_below n (operation_scope us t o true) (operation_scope us t o false) (body_depth o.body) (is_some o.head.result) o.body 0

pub making_below : (n : ℕ) (us : List Source) (t : ObjectType) → AreBelow n (making_code us t).code
making_below n us t =
    body_below n (begin_scope us t) (depth_all (begin_stmts t.begins)) (begin_stmts t.begins) End tt 0
