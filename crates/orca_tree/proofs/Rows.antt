-- The marks of a phrase with a `Vec`, in words of the list that the code goes over.
use Rattle.std.proofs.Common.{Box, Vec, Global, ◌≡◌, List, [], ◌∷◌, ◌++◌, refl, sym, ap, ◌∙◌, append_assoc}
use mathlib.Core.Former.{Count}
use Rattle.std.specs.List.{flat_map}
use Rattle.orca_base.specs.declared.place.Place.{Place}
use Rattle.orca_lexer.specs.declared.token.Keyword.TheVariants.{KeyDo, KeyFi, KeyFor, KeyFrom, KeyIf, KeyIn, KeyOd, KeyRepeat, KeyThen, KeyUntil, KeyWhile}
use Rattle.orca_lexer.specs.declared.token.Symbol.TheVariants.{Comma, Dollar, Range as RangeSign, Semicolon}
use Rattle.orca_lexer.specs.declared.token.TokenKind.TheVariants.{Key, Sign}
use Rattle.orca_grammar.specs.Forms.{Links, Chain as ChainOf, Mark, bracketed}
use Rattle.orca_tree.specs.declared.tree.Name.{Name}
use Rattle.orca_tree.specs.declared.tree.Range.{Range}
use Rattle.orca_tree.specs.declared.tree.Expression.{Expression, Chain, From, Get, Call, Invoke, Row_of-Expression, end_of-Expression, more_of-Expression, items-the_row-Expression as items-expressions, items_hidden-the_row-Expression-2 as items_hidden-expressions, Row_of-Link, end_of-Link as no_link, more_of-Link as a_link, items-the_row-Link as items-links, items_hidden-the_row-Link-0 as items_hidden-links, Row_of-Selector, end_of-Selector as no_step, more_of-Selector as a_step, items-the_row-Selector as items-steps, items_hidden-the_row-Selector-1 as items_hidden-steps}
use Rattle.orca_tree.specs.declared.tree.Expression.TheVariants.{Chain', From', Get', Call', Invoke'}
use Rattle.orca_tree.specs.declared.tree.Link.{Link}
use Rattle.orca_tree.specs.declared.tree.Designator.{Designator}
use Rattle.orca_tree.specs.declared.tree.Statement.{Statement, If, While, For, Repeat, Row_of-Statement, end_of-Statement, more_of-Statement, items-the_row-Statement as items-statements, items_hidden-the_row-Statement-0 as items_hidden-statements, Row_of-Arm, end_of-Arm as no_arm, more_of-Arm as an_arm, items-the_row-Arm as items-arms, items_hidden-the_row-Arm-1 as items_hidden-arms}
use Rattle.orca_tree.specs.declared.tree.Statement.TheVariants.{If', While', For', Repeat'}
use Rattle.orca_tree.specs.declared.tree.Arm.{Arm, When, Otherwise}
use Rattle.orca_tree.specs.declared.tree.Arm.TheVariants.{When', Otherwise'}
use Rattle.orca_tree.specs.Marks.{word, word_at, name_mark, factor, enclosed, row_links, list_links, operand, expression, link, links_row, selector, selectors, selectors_row, designator, arguments, arguments_row, more_arguments_row, statement_of, statement, statements, statements_row, arm, arm_word, arms, arms_row, more_arms, more_arms_row}

-- ---- the rows that a phrase holds

abbrev links_in : Expression → (n : Count) × Row_of-Link n
links_in (Chain' p first shape row) = (_, row)
links_in _ = (_, no_link)

abbrev steps_in : Expression → (n : Count) × Row_of-Selector n
steps_in (From' at name shape row) = (_, row)
steps_in (Get' name shape row) = (_, row)
steps_in _ = (_, no_step)

abbrev arguments_in : Expression → (n : Count) × Row_of-Expression n
arguments_in (Call' name shape row) = (_, row)
arguments_in (Invoke' object operation shape row) = (_, row)
arguments_in _ = (_, end_of-Expression)

abbrev body_in : Statement → (n : Count) × Row_of-Statement n
body_in (While' at test shape row) = (_, row)
body_in (For' at name range shape row) = (_, row)
body_in (Repeat' at shape row test) = (_, row)
body_in _ = (_, end_of-Statement)

abbrev arms_in : Statement → (n : Count) × Row_of-Arm n
arms_in (If' at shape row) = (_, row)
arms_in _ = (_, no_arm)

abbrev body_of : Arm → (n : Count) × Row_of-Statement n
body_of (When' test shape row) = (_, row)
body_of (Otherwise' shape row) = (_, row)

-- ---- a row's marks are those of its list

row_links_are : {n : _} (row : Row_of-Link n) → row_links row ≡ list_links (items-links n row)
row_links_are no_link = refl
row_links_are (a_link op e row) = refl

links_are : {n : _} (row : Row_of-Link n) → links_row row ≡ flat_map link (items-links n row)
links_are no_link = refl
links_are (a_link op e row) = ap (λ (ms : List Mark). link (record { operator = op; right = e }) ++ ms) (links_are row)

steps_are : {n : _} (row : Row_of-Selector n) → selectors_row row ≡ selectors (items-steps n row)
steps_are no_step = refl
steps_are (a_step s row) = ap (λ (ms : List Mark). selector s ++ ms) (steps_are row)

more_arguments_are : {n : _} (row : Row_of-Expression n) → more_arguments_row row ≡ flat_map (λ y. word (Sign Comma) ∷ expression y) (items-expressions n row)
more_arguments_are end_of-Expression = refl
more_arguments_are (more_of-Expression e row) = ap (λ (ms : List Mark). word (Sign Comma) ∷ expression e ++ ms) (more_arguments_are row)

arguments_are : {n : _} (row : Row_of-Expression n) → arguments_row row ≡ arguments (items-expressions n row)
arguments_are end_of-Expression = refl
arguments_are (more_of-Expression e row) = ap (λ (ms : List Mark). expression e ++ ms) (more_arguments_are row)

statements_are : {n : _} (row : Row_of-Statement n) → statements_row row ≡ statements (items-statements n row)
statements_are end_of-Statement = refl
statements_are (more_of-Statement s row) =
    ap (λ (ms : List Mark). statement s ++ word (Sign Semicolon) ∷ ms) (statements_are row) ∙ sym (append_assoc (statement s) (word (Sign Semicolon) ∷ []) _)

more_arms_are : {n : _} (row : Row_of-Arm n) → more_arms_row row ≡ more_arms (items-arms n row)
more_arms_are no_arm = refl
more_arms_are (an_arm a row) = ap (λ (ms : List Mark). word (arm_word a) ∷ arm a ++ ms) (more_arms_are row)

arms_are : {n : _} (row : Row_of-Arm n) → arms_row row ≡ arms (items-arms n row)
arms_are no_arm = refl
arms_are (an_arm a row) = ap (λ (ms : List Mark). arm a ++ ms) (more_arms_are row)

-- ---- expressions

pub chain_is : (first : Box Expression Global) (links : Vec Link Global) → operand (Chain first links) ≡ operand first.value ++ bracketed (ChainOf (list_links links.items)) (flat_map link links.items)
chain_is first links =
    let row = links_in (Chain first links) in
    ap (λ (l : Links). operand first.value ++ bracketed (ChainOf l) (links_row row.1)) (row_links_are row.1)
    ∙ ap (λ (ms : List Mark). operand first.value ++ bracketed (ChainOf (list_links (items-links row.0 row.1))) ms) (links_are row.1)
    ∙ ap (λ (ls : List Link). operand first.value ++ bracketed (ChainOf (list_links ls)) (flat_map link ls)) (items_hidden-links links)

pub from_is : (at : Place) (source : Designator) → operand (From at source) ≡ factor (word_at at (Key KeyFrom) ∷ enclosed (designator source))
from_is at source =
    let row = steps_in (From at source) in
    ap (λ (ms : List Mark). factor (word_at at (Key KeyFrom) ∷ enclosed (name_mark source.name ∷ ms))) (steps_are row.1 ∙ ap selectors (items_hidden-steps source.path))

pub get_is : (from : Designator) → operand (Get from) ≡ factor (designator from)
get_is from =
    let row = steps_in (Get from) in
    ap (λ (ms : List Mark). factor (name_mark from.name ∷ ms)) (steps_are row.1 ∙ ap selectors (items_hidden-steps from.path))

pub call_is : (function : Name) (args : Vec Expression Global) → operand (Call function args) ≡ factor (name_mark function ∷ enclosed (arguments args.items))
call_is function args =
    let row = arguments_in (Call function args) in
    ap (λ (ms : List Mark). factor (name_mark function ∷ enclosed ms)) (arguments_are row.1 ∙ ap arguments (items_hidden-expressions args))

pub invoke_is : (object operation : Name) (args : Vec Expression Global) → operand (Invoke object operation args) ≡ factor (name_mark object ∷ word (Sign Dollar) ∷ name_mark operation ∷ enclosed (arguments args.items))
invoke_is object operation args =
    let row = arguments_in (Invoke object operation args) in
    ap (λ (ms : List Mark). factor (name_mark object ∷ word (Sign Dollar) ∷ name_mark operation ∷ enclosed ms)) (arguments_are row.1 ∙ ap arguments (items_hidden-expressions args))

-- ---- statements

pub if_is : (at : Place) (as_ : Vec Arm Global) → statement (If at as_) ≡ statement_of (word_at at (Key KeyIf) ∷ (arms as_.items ++ word (Key KeyFi) ∷ []))
if_is at as_ =
    let row = arms_in (If at as_) in
    ap (λ (ms : List Mark). statement_of (word_at at (Key KeyIf) ∷ (ms ++ word (Key KeyFi) ∷ []))) (arms_are row.1 ∙ ap arms (items_hidden-arms as_))

pub while_is : (at : Place) (test : Expression) (body : Vec Statement Global) → statement (While at test body) ≡ statement_of (word_at at (Key KeyWhile) ∷ (expression test ++ word (Key KeyDo) ∷ (statements body.items ++ word (Key KeyOd) ∷ [])))
while_is at test body =
    let row = body_in (While at test body) in
    ap (λ (ms : List Mark). statement_of (word_at at (Key KeyWhile) ∷ (expression test ++ word (Key KeyDo) ∷ (ms ++ word (Key KeyOd) ∷ []))))
    (statements_are row.1 ∙ ap statements (items_hidden-statements body))

pub for_is : (at : Place) (name : Name) (range : Range) (body : Vec Statement Global) → statement (For at name range body)
    ≡ statement_of (word_at at (Key KeyFor) ∷ name_mark name ∷ word (Key KeyIn) ∷ (expression range.low ++ word (Sign RangeSign) ∷ (expression range.high ++ word (Key KeyDo) ∷ (statements body.items ++ word (Key KeyOd) ∷ []))))
for_is at name range body =
    let row = body_in (For at name range body) in
    ap (λ (ms : List Mark). statement_of (word_at at (Key KeyFor) ∷ name_mark name ∷ word (Key KeyIn) ∷ (expression range.low ++ word (Sign RangeSign) ∷ (expression range.high ++ word (Key KeyDo) ∷ (ms ++ word (Key KeyOd) ∷ [])))))
    (statements_are row.1 ∙ ap statements (items_hidden-statements body))

pub repeat_is : (at : Place) (body : Vec Statement Global) (test : Expression) → statement (Repeat at body test) ≡ statement_of (word_at at (Key KeyRepeat) ∷ (statements body.items ++ word (Key KeyUntil) ∷ expression test))
repeat_is at body test =
    let row = body_in (Repeat at body test) in
    ap (λ (ms : List Mark). statement_of (word_at at (Key KeyRepeat) ∷ (ms ++ word (Key KeyUntil) ∷ expression test)))
    (statements_are row.1 ∙ ap statements (items_hidden-statements body))

-- ---- arms

pub when_is : (test : Expression) (body : Vec Statement Global) → arm (When test body) ≡ expression test ++ word (Key KeyThen) ∷ statements body.items
when_is test body =
    let row = body_of (When test body) in
    ap (λ (ms : List Mark). expression test ++ word (Key KeyThen) ∷ ms) (statements_are row.1 ∙ ap statements (items_hidden-statements body))

pub otherwise_is : (body : Vec Statement Global) → arm (Otherwise body) ≡ statements body.items
otherwise_is body =
    let row = body_of (Otherwise body) in
    statements_are row.1 ∙ ap statements (items_hidden-statements body)
