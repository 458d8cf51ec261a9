-- What a phrase with a `Vec` shows, in words of the list that the code goes over.
use Rattle.std.proofs.Common.{Box, Vec, Global, ◌≡◌, refl, ap, ◌∙◌}
use mathlib.Core.Former.{Count}
use Rattle.orca_base.specs.declared.place.Place.{Place}
use Rattle.orca_tree.specs.declared.tree.Name.{Name}
use Rattle.orca_tree.specs.declared.tree.Range.{Range}
use Rattle.orca_tree.specs.declared.tree.Expression.{Expression, Chain, From, Get, Call, Invoke, Row_of-Expression, end_of-Expression, more_of-Expression, items-the_row-Expression as items-expressions, items_hidden-the_row-Expression-2 as items_hidden-expressions, Row_of-Link, end_of-Link as no_link, more_of-Link as a_link, items-the_row-Link as items-links, items_hidden-the_row-Link-0 as items_hidden-links, Row_of-Selector, end_of-Selector as no_step, more_of-Selector as a_step, items-the_row-Selector as items-steps, items_hidden-the_row-Selector-1 as items_hidden-steps}
use Rattle.orca_tree.specs.declared.tree.Expression.TheVariants.{Chain', From', Get', Call', Invoke'}
use Rattle.orca_tree.specs.declared.tree.Link.{Link}
use Rattle.orca_tree.specs.declared.tree.Designator.{Designator}
use Rattle.orca_tree.specs.declared.tree.Statement.{Statement, If, While, For, Repeat, Row_of-Statement, end_of-Statement, more_of-Statement, items-the_row-Statement as items-statements, items_hidden-the_row-Statement-0 as items_hidden-statements, Row_of-Arm, end_of-Arm as no_arm, more_of-Arm as an_arm, items-the_row-Arm as items-arms, items_hidden-the_row-Arm-1 as items_hidden-arms}
use Rattle.orca_tree.specs.declared.tree.Statement.TheVariants.{If', While', For', Repeat'}
use Rattle.orca_tree.specs.declared.tree.Arm.{Arm, When, Otherwise}
use Rattle.orca_tree.specs.declared.tree.Arm.TheVariants.{When', Otherwise'}
use Rattle.orca_syntax.specs.Syntax as syn
use Rattle.orca_syntax.specs.Syntax.{Expr, Links, Path, Exprs, Stmt, Stmts, Arms}
use Rattle.orca_syntax.specs.Shown.{expr, link_row, links, path_row, path, step, expr_row, exprs, stmt, stmt_row, stmts, arm, arm_row, arms}

-- ---- the rows that a phrase holds

abbrev links_in : Expression → (n : Count) × Row_of-Link n
links_in (Chain' p first shape row) = (_, row)
links_in _ = (_, no_link)

abbrev steps_in : Expression → (n : Count) × Row_of-Selector n
steps_in (From' at name shape row) = (_, row)
steps_in (Get' name shape row) = (_, row)
steps_in _ = (_, no_step)

abbrev arguments_in : Expression → (n : Count) × Row_of-Expression n
arguments_in (Call' name shape row) = (_, row)
arguments_in (Invoke' object operation shape row) = (_, row)
arguments_in _ = (_, end_of-Expression)

abbrev body_in : Statement → (n : Count) × Row_of-Statement n
body_in (While' at test shape row) = (_, row)
body_in (For' at name range shape row) = (_, row)
body_in (Repeat' at shape row test) = (_, row)
body_in _ = (_, end_of-Statement)

abbrev arms_in : Statement → (n : Count) × Row_of-Arm n
arms_in (If' at shape row) = (_, row)
arms_in _ = (_, no_arm)

abbrev body_of : Arm → (n : Count) × Row_of-Statement n
body_of (When' test shape row) = (_, row)
body_of (Otherwise' shape row) = (_, row)

-- ---- a row shows what its list shows

links_are : {n : _} (row : Row_of-Link n) → link_row row ≡ links (items-links n row)
links_are no_link = refl
links_are (a_link op e row) = ap (λ ls. syn.link op (expr e) ls) (links_are row)

steps_are : {n : _} (row : Row_of-Selector n) → path_row row ≡ path (items-steps n row)
steps_are no_step = refl
steps_are (a_step s row) = ap (λ p. syn.to (step s) p) (steps_are row)

exprs_are : {n : _} (row : Row_of-Expression n) → expr_row row ≡ exprs (items-expressions n row)
exprs_are end_of-Expression = refl
exprs_are (more_of-Expression e row) = ap (λ es. syn.expr (expr e) es) (exprs_are row)

stmts_are : {n : _} (row : Row_of-Statement n) → stmt_row row ≡ stmts (items-statements n row)
stmts_are end_of-Statement = refl
stmts_are (more_of-Statement s row) = ap (λ ss. syn.stmt (stmt s) ss) (stmts_are row)

arms_are : {n : _} (row : Row_of-Arm n) → arm_row row ≡ arms (items-arms n row)
arms_are no_arm = refl
arms_are (an_arm a row) = ap (λ as_. syn.arm (arm a) as_) (arms_are row)

-- ---- phrases

pub chain_is : (first : Box Expression Global) (ls : Vec Link Global) → expr (Chain first ls) ≡ syn.Chain (expr first.value) (links ls.items)
chain_is first ls = ap (λ x. syn.Chain (expr first.value) x) (links_are (links_in (Chain first ls)).1 ∙ ap links (items_hidden-links ls))

pub from_is : (at : Place) (source : Designator) → expr (From at source) ≡ syn.From at source.name (path source.path.items)
from_is at source = ap (λ x. syn.From at source.name x) (steps_are (steps_in (From at source)).1 ∙ ap path (items_hidden-steps source.path))

pub get_is : (from : Designator) → expr (Get from) ≡ syn.Get from.name (path from.path.items)
get_is from = ap (λ x. syn.Get from.name x) (steps_are (steps_in (Get from)).1 ∙ ap path (items_hidden-steps from.path))

pub call_is : (function : Name) (args : Vec Expression Global) → expr (Call function args) ≡ Expr.Call function (exprs args.items)
call_is function args = ap (λ x. Expr.Call function x) (exprs_are (arguments_in (Call function args)).1 ∙ ap exprs (items_hidden-expressions args))

pub invoke_is : (object operation : Name) (args : Vec Expression Global) → expr (Invoke object operation args) ≡ Expr.Invoke object operation (exprs args.items)
invoke_is object operation args = ap (λ x. Expr.Invoke object operation x) (exprs_are (arguments_in (Invoke object operation args)).1 ∙ ap exprs (items_hidden-expressions args))

pub if_is : (at : Place) (as_ : Vec Arm Global) → stmt (If at as_) ≡ syn.If at (arms as_.items)
if_is at as_ = ap (λ x. syn.If at x) (arms_are (arms_in (If at as_)).1 ∙ ap arms (items_hidden-arms as_))

pub while_is : (at : Place) (test : Expression) (body : Vec Statement Global) → stmt (While at test body) ≡ syn.While at (expr test) (stmts body.items)
while_is at test body = ap (λ x. syn.While at (expr test) x) (stmts_are (body_in (While at test body)).1 ∙ ap stmts (items_hidden-statements body))

pub for_is : (at : Place) (name : Name) (range : Range) (body : Vec Statement Global) → stmt (For at name range body) ≡ syn.For at name (expr range.low) (expr range.high) (stmts body.items)
for_is at name range body = ap (λ x. syn.For at name (expr range.low) (expr range.high) x) (stmts_are (body_in (For at name range body)).1 ∙ ap stmts (items_hidden-statements body))

pub repeat_is : (at : Place) (body : Vec Statement Global) (test : Expression) → stmt (Repeat at body test) ≡ syn.Repeat at (stmts body.items) (expr test)
repeat_is at body test = ap (λ x. syn.Repeat at x (expr test)) (stmts_are (body_in (Repeat at body test)).1 ∙ ap stmts (items_hidden-statements body))

pub when_is : (test : Expression) (body : Vec Statement Global) → arm (When test body) ≡ syn.When (expr test) (stmts body.items)
when_is test body = ap (λ x. syn.When (expr test) x) (stmts_are (body_of (When test body)).1 ∙ ap stmts (items_hidden-statements body))

pub otherwise_is : (body : Vec Statement Global) → arm (Otherwise body) ≡ syn.Otherwise (stmts body.items)
otherwise_is body = ap (λ x. syn.Otherwise x) (stmts_are (body_of (Otherwise body)).1 ∙ ap stmts (items_hidden-statements body))

-- the equations of expressions and of statements
pub ruleset phrases = (chain_is, from_is, get_is, call_is, invoke_is)

pub ruleset statements = (if_is, while_is, for_is, repeat_is, when_is, otherwise_is)
