-- The tokens of a phrase with a `Vec`, where the code goes over its slice.
use Rattle.std.proofs.Common.{Box, Vec, Global, ◌≡◌, List, [], ◌∷◌, ◌++◌, sym, ap, ◌∙◌}
use Rattle.std.specs.List.{flat_map}
use Rattle.orca_base.specs.declared.place.Place.{Place}
use Rattle.orca_lexer.specs.declared.token.Keyword.TheVariants.{KeyDo, KeyFi, KeyFor, KeyFrom, KeyIf, KeyIn, KeyOd, KeyRepeat, KeyThen, KeyUntil, KeyWhile}
use Rattle.orca_lexer.specs.declared.token.Symbol.TheVariants.{Dollar, Range as RangeSign}
use Rattle.orca_lexer.specs.declared.token.TokenKind.{TokenKind}
use Rattle.orca_lexer.specs.declared.token.TokenKind.TheVariants as token
use Rattle.orca_lexer.specs.declared.token.TokenKind.TheVariants.{Key, Sign}
use Rattle.orca_grammar.specs.Forms.{Mark, spelled}
use Rattle.orca_tree.specs.declared.tree.Name.{Name}
use Rattle.orca_tree.specs.declared.tree.Expression.{Expression, Chain, From, Get, Call, Invoke}
use Rattle.orca_tree.specs.declared.tree.Link.{Link}
use Rattle.orca_tree.specs.declared.tree.Designator.{Designator}
use Rattle.orca_tree.specs.declared.tree.Range.{Range}
use Rattle.orca_tree.specs.declared.tree.Statement.{Statement, If, While, For, Repeat}
use Rattle.orca_tree.specs.declared.tree.Arm.{Arm, When, Otherwise}
use Rattle.orca_tree.specs.Marks.{word, word_at, name_mark, enclosed, operand, expression, link, designator, arguments, statement, statements, arm, arms}
use Rattle.orca_tree.proofs.Rows.{chain_is, from_is, get_is, call_is, invoke_is, if_is, while_is, for_is, repeat_is, when_is, otherwise_is}
use Rattle.orca_tree.proofs.Spelled.{spelled_append, spelled_bracketed}

pub chain_spelled : (e : Expression) (first : Box Expression Global) (links : Vec Link Global) (f : Expression) (ls : List Link) → e ≡ Chain first links → f ≡ first.value → ls ≡ links.items
    → spelled (operand e) ≡ spelled (operand f) ++ spelled (flat_map link ls)
chain_spelled e first links f ls is one same =
    ap (λ (x : Expression). spelled (operand x)) is ∙ ap spelled (chain_is first links)
    ∙ spelled_append (operand first.value) _
    ∙ ap (λ (ks : List TokenKind). spelled (operand first.value) ++ ks) (spelled_bracketed _ (flat_map link links.items))
    ∙ ap (λ (x : Expression). spelled (operand x) ++ spelled (flat_map link links.items)) (sym one)
    ∙ ap (λ (l : List Link). spelled (operand f) ++ spelled (flat_map link l)) (sym same)

pub from_spelled : (e : Expression) (at : Place) (source : Designator) → e ≡ From at source → spelled (operand e) ≡ Key KeyFrom ∷ spelled (enclosed (designator source))
from_spelled e at source is = ap (λ (x : Expression). spelled (operand x)) is ∙ ap spelled (from_is at source) ∙ spelled_bracketed _ (word_at at (Key KeyFrom) ∷ enclosed (designator source))

pub get_spelled : (e : Expression) (from : Designator) → e ≡ Get from → spelled (operand e) ≡ spelled (designator from)
get_spelled e from is = ap (λ (x : Expression). spelled (operand x)) is ∙ ap spelled (get_is from) ∙ spelled_bracketed _ (designator from)

pub call_spelled : (e : Expression) (function : Name) (args : Vec Expression Global) (given : List Expression) → e ≡ Call function args → given ≡ args.items
    → spelled (operand e) ≡ spelled (name_mark function ∷ enclosed (arguments given))
call_spelled e function args given is same =
    ap (λ (x : Expression). spelled (operand x)) is ∙ ap spelled (call_is function args)
    ∙ spelled_bracketed _ (name_mark function ∷ enclosed (arguments args.items))
    ∙ ap (λ (es : List Expression). spelled (name_mark function ∷ enclosed (arguments es))) (sym same)

pub invoke_spelled : (e : Expression) (object operation : Name) (args : Vec Expression Global) (given : List Expression) → e ≡ Invoke object operation args → given ≡ args.items
    → spelled (operand e) ≡ spelled (name_mark object ∷ word (Sign Dollar) ∷ name_mark operation ∷ enclosed (arguments given))
invoke_spelled e object operation args given is same =
    ap (λ (x : Expression). spelled (operand x)) is ∙ ap spelled (invoke_is object operation args)
    ∙ spelled_bracketed _ (name_mark object ∷ word (Sign Dollar) ∷ name_mark operation ∷ enclosed (arguments args.items))
    ∙ ap (λ (es : List Expression). spelled (name_mark object ∷ word (Sign Dollar) ∷ name_mark operation ∷ enclosed (arguments es))) (sym same)

pub if_spelled : (s : Statement) (at : Place) (as_ : Vec Arm Global) (all : List Arm) → s ≡ If at as_ → all ≡ as_.items
    → spelled (statement s) ≡ Key KeyIf ∷ spelled (arms all ++ word (Key KeyFi) ∷ [])
if_spelled s at as_ all is same =
    ap (λ (x : Statement). spelled (statement x)) is ∙ ap spelled (if_is at as_)
    ∙ spelled_bracketed _ (word_at at (Key KeyIf) ∷ (arms as_.items ++ word (Key KeyFi) ∷ []))
    ∙ ap (λ (l : List Arm). Key KeyIf ∷ spelled (arms l ++ word (Key KeyFi) ∷ [])) (sym same)

-- statements between `do` and `od`
abbrev in_body : List Statement → List Mark
in_body ss = word (Key KeyDo) ∷ (statements ss ++ word (Key KeyOd) ∷ [])

pub while_spelled : (s : Statement) (at : Place) (test : Expression) (body : Vec Statement Global) (all : List Statement) → s ≡ While at test body → all ≡ body.items
    → spelled (statement s) ≡ Key KeyWhile ∷ spelled (expression test ++ in_body all)
while_spelled s at test body all is same =
    ap (λ (x : Statement). spelled (statement x)) is ∙ ap spelled (while_is at test body)
    ∙ spelled_bracketed _ (word_at at (Key KeyWhile) ∷ (expression test ++ in_body body.items))
    ∙ ap (λ (l : List Statement). Key KeyWhile ∷ spelled (expression test ++ in_body l)) (sym same)

pub for_spelled : (s : Statement) (at : Place) (name : Name) (range : Range) (body : Vec Statement Global) (all : List Statement) → s ≡ For at name range body → all ≡ body.items
    → spelled (statement s) ≡ Key KeyFor ∷ token.Name name.text ∷ Key KeyIn ∷ spelled (expression range.low ++ word (Sign RangeSign) ∷ (expression range.high ++ in_body all))
for_spelled s at name range body all is same =
    ap (λ (x : Statement). spelled (statement x)) is ∙ ap spelled (for_is at name range body)
    ∙ spelled_bracketed _ (word_at at (Key KeyFor) ∷ name_mark name ∷ word (Key KeyIn) ∷ (expression range.low ++ word (Sign RangeSign) ∷ (expression range.high ++ in_body body.items)))
    ∙ ap (λ (l : List Statement). Key KeyFor ∷ token.Name name.text ∷ Key KeyIn ∷ spelled (expression range.low ++ word (Sign RangeSign) ∷ (expression range.high ++ in_body l))) (sym same)

pub repeat_spelled : (s : Statement) (at : Place) (body : Vec Statement Global) (test : Expression) (all : List Statement) → s ≡ Repeat at body test → all ≡ body.items
    → spelled (statement s) ≡ Key KeyRepeat ∷ spelled (statements all ++ word (Key KeyUntil) ∷ expression test)
repeat_spelled s at body test all is same =
    ap (λ (x : Statement). spelled (statement x)) is ∙ ap spelled (repeat_is at body test)
    ∙ spelled_bracketed _ (word_at at (Key KeyRepeat) ∷ (statements body.items ++ word (Key KeyUntil) ∷ expression test))
    ∙ ap (λ (l : List Statement). Key KeyRepeat ∷ spelled (statements l ++ word (Key KeyUntil) ∷ expression test)) (sym same)

pub when_spelled : (a : Arm) (test : Expression) (body : Vec Statement Global) (all : List Statement) → a ≡ When test body → all ≡ body.items
    → spelled (arm a) ≡ spelled (expression test ++ word (Key KeyThen) ∷ statements all)
when_spelled a test body all is same =
    ap (λ (x : Arm). spelled (arm x)) is ∙ ap spelled (when_is test body)
    ∙ ap (λ (l : List Statement). spelled (expression test ++ word (Key KeyThen) ∷ statements l)) (sym same)

pub otherwise_spelled : (a : Arm) (body : Vec Statement Global) (all : List Statement) → a ≡ Otherwise body → all ≡ body.items → spelled (arm a) ≡ spelled (statements all)
otherwise_spelled a body all is same =
    ap (λ (x : Arm). spelled (arm x)) is ∙ ap spelled (otherwise_is body) ∙ ap (λ (l : List Statement). spelled (statements l)) (sym same)
