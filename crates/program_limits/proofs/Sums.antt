-- What a loop that counts has, one of its list further.
use Rattle.std.proofs.Common.{◌≡◌, refl, ℕ, ◌<◌, ◌+◌, List, ◌∷◌, length, get_or, drop, map, ap, ◌∙◌, arith}
use Rattle.std.proofs.lemmas.List.{length-append}
use Rattle.std.proofs.lemmas.List.Sums.{sum_by-cons}
use Rattle.orca_tree.specs.declared.tree.Arm.{Arm}
use Rattle.orca_tree.specs.declared.tree.Declaration.{Declaration}
use Rattle.orca_tree.specs.declared.tree.Guard.{Guard}
use Rattle.orca_tree.specs.declared.tree.Head.{Head}
use Rattle.orca_tree.specs.declared.tree.Operation.{Operation}
use Rattle.orca_tree.specs.declared.tree.Statement.{Statement}
use Rattle.orca_tree.specs.declared.tree.Variables.{Variables}
use Rattle.orca_syntax.specs.Shown.{arm, arms, decl, guard, head, operation, stmt, stmts, variables}
use Rattle.link_rules.specs.Units.{source}
use Rattle.link_rules.specs.declared.named_unit.NamedUnit.{NamedUnit}
use Rattle.type_rules.specs.Scopes.{variable_names}
use Rattle.accepted_law.specs.Limits.{loops_in, loops_in_all, loops_in_arm, loops_in_arms, names_declared, names_in_head, names_in_operation, words_in}
use Rattle.program_limits.specs.Counted.{loops_in_guards, names_in_declarations, names_in_heads, names_in_operations, names_of_variables, words_in_units}
use Rattle.type_forms.proofs.Loops.{rest_is}

pub one_more : {A : Type 0} (F : List A → ℕ) (f : A → ℕ) → ((x : A) (xs : List A) → F (x ∷ xs) ≡ f x + F xs) →
    (xs : List A) (i : ℕ) (x : A) (n own new total : ℕ) → i < length xs → x ≡ get_or xs i x → own ≡ f x → new ≡ n + own → n + F (drop i xs) ≡ total →
    new + F (drop (i + 1) xs) ≡ total
one_more F f cons xs i x n own new total lt is o w h =
    let front : F (drop i xs) ≡ f x + F (drop (i + 1) xs) = ap F (rest_is xs i x lt is) ∙ cons x (drop (i + 1) xs) in
    omega arith

-- each further one of what lists count
pub statement_more : (ss : List Statement) (i : ℕ) (s : Statement) (n own new total : ℕ) → i < length ss → s ≡ get_or ss i s → own ≡ loops_in (stmt s) →
    new ≡ n + own → n + loops_in_all (stmts (drop i ss)) ≡ total → new + loops_in_all (stmts (drop (i + 1) ss)) ≡ total
statement_more = one_more (λ ss. loops_in_all (stmts ss)) (λ s. loops_in (stmt s)) (λ s ss. refl)

pub arm_more : (as_ : List Arm) (i : ℕ) (a : Arm) (n own new total : ℕ) → i < length as_ → a ≡ get_or as_ i a → own ≡ loops_in_arm (arm a) →
    new ≡ n + own → n + loops_in_arms (arms (drop i as_)) ≡ total → new + loops_in_arms (arms (drop (i + 1) as_)) ≡ total
arm_more = one_more (λ as_. loops_in_arms (arms as_)) (λ a. loops_in_arm (arm a)) (λ a as_. refl)

pub guard_more : (gs : List Guard) (i : ℕ) (g : Guard) (n own new total : ℕ) → i < length gs → g ≡ get_or gs i g → own ≡ loops_in_all (stmts g.body.items) →
    new ≡ n + own → n + loops_in_guards (drop i gs) ≡ total → new + loops_in_guards (drop (i + 1) gs) ≡ total
guard_more = one_more loops_in_guards (λ g. loops_in_all (stmts g.body.items)) (λ g gs. sum_by-cons _ (guard g) (map guard gs))

pub variables_more : (vs : List Variables) (i : ℕ) (v : Variables) (n own new total : ℕ) → i < length vs → v ≡ get_or vs i v → own ≡ length v.names.items →
    new ≡ n + own → n + names_of_variables (drop i vs) ≡ total → new + names_of_variables (drop (i + 1) vs) ≡ total
variables_more = one_more names_of_variables (λ v. length v.names.items) (λ v vs. length-append v.names.items (variable_names (map variables vs)))

pub head_more : (hs : List Head) (i : ℕ) (h : Head) (n own new total : ℕ) → i < length hs → h ≡ get_or hs i h → own ≡ names_in_head (head h) →
    new ≡ n + own → n + names_in_heads (drop i hs) ≡ total → new + names_in_heads (drop (i + 1) hs) ≡ total
head_more = one_more names_in_heads (λ h. names_in_head (head h)) (λ h hs. sum_by-cons names_in_head (head h) (map head hs))

pub operation_more : (os : List Operation) (i : ℕ) (o : Operation) (n own new total : ℕ) → i < length os → o ≡ get_or os i o →
    own ≡ names_in_operation (operation o) →
    new ≡ n + own → n + names_in_operations (drop i os) ≡ total → new + names_in_operations (drop (i + 1) os) ≡ total
operation_more = one_more names_in_operations (λ o. names_in_operation (operation o)) (λ o os. sum_by-cons names_in_operation (operation o) (map operation os))

pub declaration_more : (ds : List Declaration) (i : ℕ) (d : Declaration) (n own new total : ℕ) → i < length ds → d ≡ get_or ds i d →
    own ≡ names_declared (decl d) →
    new ≡ n + own → n + names_in_declarations (drop i ds) ≡ total → new + names_in_declarations (drop (i + 1) ds) ≡ total
declaration_more = one_more names_in_declarations (λ d. names_declared (decl d)) (λ d ds. sum_by-cons names_declared (decl d) (map decl ds))

pub unit_more : (us : List NamedUnit) (i : ℕ) (u : NamedUnit) (n own new total : ℕ) → i < length us → u ≡ get_or us i u → own ≡ words_in (source u) →
    new ≡ n + own → n + words_in_units (drop i us) ≡ total → new + words_in_units (drop (i + 1) us) ≡ total
unit_more = one_more words_in_units (λ u. words_in (source u)) (λ u us. sum_by-cons words_in (source u) (map source us))
