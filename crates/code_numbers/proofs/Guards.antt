-- The guard that decides a try is one of the operation's, which are numbered from 1; a body without guards counts as guard 0.
use Rattle.std.proofs.Common.{◌≡◌, ℕ, ◌+◌, ◌<◌, ◌≤◌, ◌^◌, ◌==◌, Bool, true, false, List, [], ◌∷◌, length, Option, Some, None, refl, arith}
use Rattle.std.specs.Prelude.{is_some, slice_get, if◌then◌else◌}
use Rattle.orca_base.specs.declared.ids.KindNo.{KindNo}
use Rattle.orca_base.specs.declared.ids.OpNo.{OpNo}
use Rattle.orca_syntax.specs.Syntax as syn
use Rattle.orca_syntax.specs.Syntax.{Body, Expr, Guard, Operation, Stmts}
use Rattle.link_rules.specs.Units.{Source}
use Rattle.value_core.specs.Datum.{Datum, Data}
use Rattle.value_core.specs.declared.action.Reply.TheVariants as reply
use Rattle.value_core.specs.declared.meaning.Tried.{Tried}
use Rattle.value_core.specs.declared.meaning.Tried.TheVariants as tried
use Rattle.meaning_rules.specs.Operators.{truth_in}
use Rattle.meaning_rules.specs.Programs.{ObjectType, object_type, operation_scope}
use Rattle.meaning_rules.specs.States.{Out, Goes, Stops}
use Rattle.meaning_rules.specs.Expressions.{eval}
use Rattle.meaning_rules.specs.Loops.{Flow, On, Back}
use Rattle.meaning_rules.specs.Statements.{run_all}
use Rattle.meaning_rules.specs.Functions.{all_calls}
use Rattle.meaning_rules.specs.Operations.{alternatives_tried, body_tried, chosen, guard_tried, guards_tried, operation_start, operation_tried, own_count, tries_of, type_tried}
use Rattle.accepted_law.specs.Numbers.{AreNumbers, guards_in}

-- a try whose guard has a number below this
abbrev pub IsSmall : ℕ → Tried → Type 0
IsSmall n tried.Blocked = Unit {0}
IsSmall n (tried.Did guard state reply) = guard < n
IsSmall n (tried.Broke guard fault) = guard < n

body_small : (n guard own : ℕ) (has_result : Bool) (o : Out Flow) → guard < n → IsSmall n (body_tried guard own has_result o)
body_small n guard own has_result (Goes (Back x) s) few = few
body_small n guard own true (Goes On s) few = few
body_small n guard own false (Goes On s) few = few
body_small n guard own has_result (Stops why) few = few

chosen_small : (n : ℕ) (b : Bool) (body others : Tried) → IsSmall n body → IsSmall n others → IsSmall n (chosen b body others)
chosen_small n true body others h k = h
chosen_small n false body others h k = k

guard_small : (n guard : ℕ) (body others : Tried) (o : Out Datum) → guard < n → IsSmall n body → IsSmall n others → IsSmall n (guard_tried guard body others o)
guard_small n guard body others (Goes x s) few h k = chosen_small n (truth_in x) body others h k
guard_small n guard body others (Stops why) few h k = few

guards_small : (n : ℕ) (test : Expr → Out Datum) (body : ℕ → Stmts → Tried) → ((guard : ℕ) (ss : Stmts) → guard < n → IsSmall n (body guard ss)) →
    (guard : ℕ) (gs : List Guard) → guard + length gs ≤ n → IsSmall n (guards_tried test body guard gs)
guards_small n test body h guard [] few = tt
guards_small n test body h guard (g ∷ gs) few =
    guard_small n guard (body guard g.body) (guards_tried test body (guard + 1) gs) (test g.test) (omega (arith, few)) (h guard g.body (omega (arith, few)))
    (guards_small n test body h (guard + 1) gs (omega (arith, few)))

alternatives_small : (n : ℕ) (test : Expr → Out Datum) (body : ℕ → Stmts → Tried) → ((guard : ℕ) (ss : Stmts) → guard < n → IsSmall n (body guard ss)) →
    (b : Body) → guards_in b < n → IsSmall n (alternatives_tried test body b)
alternatives_small n test body h (syn.Guarded first others) few = guards_small n test body h 1 (first ∷ others) (omega (arith, few))
alternatives_small n test body h (syn.Plain ss) few = h 0 ss few

operation_small : (n : ℕ) (us : List Source) (t : ObjectType) (state args : Data) (o : Operation) → guards_in o.body < n →
    IsSmall n (operation_tried us t state args (Some o))
operation_small n us t state args o few =
    let s = operation_start us t o state args in
    alternatives_small n (λ e. eval (all_calls us) (operation_scope us t o true) e s)
    (λ guard ss. body_tried guard (own_count us t o args) (is_some o.head.result) (run_all (all_calls us) (operation_scope us t o false) ss s))
    (λ guard ss le. body_small n guard (own_count us t o args) (is_some o.head.result) (run_all (all_calls us) (operation_scope us t o false) ss s) le)
    o.body few

type_small : (n : ℕ) (us : List Source) (op : OpNo) (state args : Data) (t : ObjectType) (o : Option Operation) →
    ((own : Operation) → o ≡ Some own → guards_in own.body < n) → IsSmall n (operation_tried us t state args o)
type_small n us op state args t None h = tt
type_small n us op state args t (Some o) h = operation_small n us t state args o (h o refl)

kind_small : (us : List Source) → AreNumbers us → (kind : KindNo) (op : OpNo) (state args : Data) (o : Option ObjectType) → object_type us kind ≡ o →
    IsSmall (2 ^ 16) (type_tried us op state args o)
kind_small us numbers kind op state args None e = tt
kind_small us numbers kind op state args (Some t) e =
    type_small (2 ^ 16) us op state args t (slice_get t.operations op.0) (λ o there. numbers.guards kind t op.0 o e there)

pub tries_small : (us : List Source) → AreNumbers us → (kind : KindNo) (op : OpNo) (state args : Data) → IsSmall (2 ^ 16) (tries_of us kind op state args)
tries_small us numbers kind op state args = by_output (kind.0 == 0)
  where
    by_output : (b : Bool) → IsSmall (2 ^ 16) (if b then tried.Did 0 state reply.Done else type_tried us op state args (object_type us kind))
    by_output true = omega arith
    by_output false = kind_small us numbers kind op state args (object_type us kind) refl
