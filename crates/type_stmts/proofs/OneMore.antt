-- What a loop over statements, arms, guards or expressions has found, one of them further.
use Rattle.std.proofs.Common.{◌≡◌, ℕ, ◌<◌, ◌+◌, List, ◌++◌, length, get_or, drop, map, Bool, Option, sym, ap, ◌∙◌}
use Rattle.std.specs.Prelude.{flat_map}
use Rattle.orca_tree.specs.declared.tree.Arm.{Arm}
use Rattle.orca_tree.specs.declared.tree.Expression.{Expression}
use Rattle.orca_tree.specs.declared.tree.Guard.{Guard}
use Rattle.orca_tree.specs.declared.tree.Statement.{Statement}
use Rattle.orca_syntax.specs.Shown.{arm, arms, expr, exprs, guard, stmt, stmts}
use Rattle.type_rules.specs.declared.breach.Breach.{Breach}
use Rattle.type_rules.specs.Types.{is_printed}
use Rattle.type_rules.specs.Order.{least, lesser}
use Rattle.type_rules.specs.Scopes.{Scope}
use Rattle.type_rules.specs.Statements.{arm_breaches, arms_breaches, printed, stmt_breaches, stmts_breaches, wants}
use Rattle.type_rules.specs.Declarations.{guard_breaches}
use Rattle.type_rules.proofs.Least.{least_of_both, lesser_assoc}
use Rattle.type_forms.proofs.Loops.{rest_is}

one_more : (bs rest front : List Breach) (first own new all : Option Breach) → front ≡ bs ++ rest → own ≡ least bs → new ≡ lesser first own →
    lesser first (least front) ≡ all → lesser new (least rest) ≡ all
one_more bs rest front first own new all is o n h =
    ap (λ (x : Option Breach). lesser x (least rest)) (n ∙ ap (lesser first) o)
    ∙ lesser_assoc first (least bs) (least rest)
    ∙ ap (lesser first) (sym (least_of_both bs rest))
    ∙ ap (λ (l : List Breach). lesser first (least l)) (sym is)
    ∙ h

pub statement_more : (w : Scope) (ss : List Statement) (i : ℕ) (s : Statement) (first own new all : Option Breach) → i < length ss → s ≡ get_or ss i s →
    own ≡ least (stmt_breaches w (stmt s)) → new ≡ lesser first own → lesser first (least (stmts_breaches w (stmts (drop i ss)))) ≡ all →
    lesser new (least (stmts_breaches w (stmts (drop (i + 1) ss)))) ≡ all
statement_more w ss i s first own new all lt is =
    one_more (stmt_breaches w (stmt s)) (stmts_breaches w (stmts (drop (i + 1) ss))) (stmts_breaches w (stmts (drop i ss))) first own new all
    (ap (λ (l : List Statement). stmts_breaches w (stmts l)) (rest_is ss i s lt is))

pub arm_more : (w : Scope) (as_ : List Arm) (i : ℕ) (a : Arm) (first own new all : Option Breach) → i < length as_ → a ≡ get_or as_ i a →
    own ≡ least (arm_breaches w (arm a)) → new ≡ lesser first own → lesser first (least (arms_breaches w (arms (drop i as_)))) ≡ all →
    lesser new (least (arms_breaches w (arms (drop (i + 1) as_)))) ≡ all
arm_more w as_ i a first own new all lt is =
    one_more (arm_breaches w (arm a)) (arms_breaches w (arms (drop (i + 1) as_))) (arms_breaches w (arms (drop i as_))) first own new all
    (ap (λ (l : List Arm). arms_breaches w (arms l)) (rest_is as_ i a lt is))

pub printed_more : (w : Scope) (es : List Expression) (i : ℕ) (e : Expression) (first own new all : Option Breach) → i < length es → e ≡ get_or es i e →
    own ≡ least (wants w 34 is_printed (expr e)) → new ≡ lesser first own → lesser first (least (printed w (exprs (drop i es)))) ≡ all →
    lesser new (least (printed w (exprs (drop (i + 1) es)))) ≡ all
printed_more w es i e first own new all lt is =
    one_more (wants w 34 is_printed (expr e)) (printed w (exprs (drop (i + 1) es))) (printed w (exprs (drop i es))) first own new all
    (ap (λ (l : List Expression). printed w (exprs l)) (rest_is es i e lt is))

pub guard_more : (w : Bool → Scope) (gs : List Guard) (i : ℕ) (g : Guard) (first own new all : Option Breach) → i < length gs → g ≡ get_or gs i g →
    own ≡ least (guard_breaches w (guard g)) → new ≡ lesser first own → lesser first (least (flat_map (guard_breaches w) (map guard (drop i gs)))) ≡ all →
    lesser new (least (flat_map (guard_breaches w) (map guard (drop (i + 1) gs)))) ≡ all
guard_more w gs i g first own new all lt is =
    one_more (guard_breaches w (guard g)) (flat_map (guard_breaches w) (map guard (drop (i + 1) gs))) (flat_map (guard_breaches w) (map guard (drop i gs)))
    first own new all (ap (λ (l : List Guard). flat_map (guard_breaches w) (map guard l)) (rest_is gs i g lt is))
