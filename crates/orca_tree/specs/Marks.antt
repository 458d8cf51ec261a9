-- The marks of a tree: its derivation by the grammar (orca_grammar, specs/Forms.antt and Rules.antt), which are its tokens in
-- order, with brackets round each nested phrase and round the links of each chain, and the tree's places. Trees with the marks
-- of one text show the same syntax (orca_syntax, `syntax_law`: `trees`).
use Rattle.std.specs.Prelude.{Bool, true, false, List, [], ◌∷◌, ◌++◌, Option, Some, None}
use Rattle.std.specs.List.{flat_map}
use Rattle.orca_base.specs.declared.place.Place.{Place}
use Rattle.orca_lexer.specs.declared.token.Keyword.TheVariants.{KeyAnd, KeyArray, KeyBag, KeyBegin, KeyBoolean, KeyChar, KeyConst, KeyDelete, KeyDo, KeyElse, KeyElsif, KeyEnd, KeyEnum, KeyFalse, KeyFi, KeyFor, KeyFork, KeyFrom, KeyFunction, KeyGuard, KeyIf, KeyImplementation, KeyImport, KeyIn, KeyInsert, KeyInteger, KeyModule, KeyNot, KeyObject, KeyOd, KeyOf, KeyOn, KeyOperation, KeyOr, KeyOrd, KeyOut, KeyProcess, KeyRecord, KeyRepeat, KeyReturn, KeySet, KeyShared, KeySize, KeySpecification, KeyString, KeyThen, KeyTrue, KeyType, KeyUntil, KeyWhile, KeyWriteLine}
use Rattle.orca_lexer.specs.declared.token.Symbol.TheVariants.{Becomes, Range as RangeSign, Differs, AtMost as AtMostSign, AtLeast as AtLeastSign, Semicolon, Colon, Comma, Period, Equals, Less as LessSign, Greater as GreaterSign, Plus, Minus, Times, Over, Percent, Joins, Opens, Closes, OpensIndex, ClosesIndex, Dollar}
use Rattle.orca_lexer.specs.declared.token.TokenKind.{TokenKind}
use Rattle.orca_lexer.specs.declared.token.TokenKind.TheVariants as token
use Rattle.orca_lexer.specs.declared.token.TokenKind.TheVariants.{Key, Sign}
use Rattle.orca_grammar.specs.Forms.{Statement as StatementPhrase, Expression as ExpressionPhrase, Factor as FactorPhrase, TypePhrase as TypeNest, Links, Disjunction, Conjunction, Relation, Sum, Term, Phrase, Chain as ChainOf, Mark, Spelled, bracketed}
use Rattle.orca_tree.specs.declared.tree.Name.{Name}
use Rattle.orca_tree.specs.declared.tree.Bound.{Bound}
use Rattle.orca_tree.specs.declared.tree.Bound.TheVariants as bounds
use Rattle.orca_tree.specs.declared.tree.TypePhrase.{TypePhrase}
use Rattle.orca_tree.specs.declared.tree.TypePhrase.TheVariants as types
use Rattle.orca_tree.specs.declared.tree.TypedName.{TypedName}
use Rattle.orca_tree.specs.declared.tree.Variables.{Variables}
use Rattle.orca_tree.specs.declared.tree.Mode.{Mode}
use Rattle.orca_tree.specs.declared.tree.Mode.TheVariants as modes
use Rattle.orca_tree.specs.declared.tree.Parameter.{Parameter}
use Rattle.orca_tree.specs.declared.tree.Head.{Head}
use Rattle.orca_tree.specs.declared.tree.Statement.{Statement, Row_of-Statement, end_of-Statement, more_of-Statement, Row_of-Arm, end_of-Arm as no_arm, more_of-Arm as an_arm}
use Rattle.orca_tree.specs.declared.tree.Statement.TheVariants as does
use Rattle.orca_tree.specs.declared.tree.Arm.{Arm}
use Rattle.orca_tree.specs.declared.tree.Arm.TheVariants.{When', Otherwise'}
use Rattle.orca_tree.specs.declared.tree.Guard.{Guard}
use Rattle.orca_tree.specs.declared.tree.Block.{Block}
use Rattle.orca_tree.specs.declared.tree.Operation.{Operation}
use Rattle.orca_tree.specs.declared.tree.OperationBody.{OperationBody}
use Rattle.orca_tree.specs.declared.tree.OperationBody.TheVariants.{Guarded, Plain}
use Rattle.orca_tree.specs.declared.tree.Definition.{Definition}
use Rattle.orca_tree.specs.declared.tree.Definition.TheVariants.{Record, Enumeration, Alias}
use Rattle.orca_tree.specs.declared.tree.Declaration.{Declaration}
use Rattle.orca_tree.specs.declared.tree.Declaration.TheVariants as declares
use Rattle.orca_tree.specs.declared.tree.Unit.{Unit as UnitTree}
use Rattle.orca_tree.specs.declared.tree.Operator.{Operator}
use Rattle.orca_tree.specs.declared.tree.Operator.TheVariants as op
use Rattle.orca_tree.specs.declared.tree.Expression.{Expression, Row_of-Expression, end_of-Expression, more_of-Expression, Row_of-Link, end_of-Link as no_link, more_of-Link as a_link, Row_of-Selector, end_of-Selector as no_step, more_of-Selector as a_step}
use Rattle.orca_tree.specs.declared.tree.Expression.TheVariants.{Chain', Number, Char, Text, Truth, Not', Negative', Parentheses', From', Size', Ordinal', Get', Call', Invoke'}
use Rattle.orca_tree.specs.declared.tree.Link.{Link}
use Rattle.orca_tree.specs.declared.tree.Designator.{Designator}
use Rattle.orca_tree.specs.declared.tree.Selector.{Selector}
use Rattle.orca_tree.specs.declared.tree.Selector.TheVariants.{Field, Index}

-- a token, and one with its place; a name
abbrev pub word : TokenKind → Mark
word kind = Spelled None kind

abbrev pub word_at : Place → TokenKind → Mark
word_at at kind = Spelled (Some at) kind

abbrev pub name_mark : Name → Mark
name_mark n = word_at n.at (token.Name n.text)

-- an operator's token, and the links in which it stands
abbrev pub operator_token : Operator → TokenKind
operator_token op.Or = Key KeyOr
operator_token op.And = Key KeyAnd
operator_token op.Equal = Sign Equals
operator_token op.Different = Sign Differs
operator_token op.Less = Sign LessSign
operator_token op.AtMost = Sign AtMostSign
operator_token op.Greater = Sign GreaterSign
operator_token op.AtLeast = Sign AtLeastSign
operator_token op.In = Key KeyIn
operator_token op.Add = Sign Plus
operator_token op.Subtract = Sign Minus
operator_token op.Join = Sign Joins
operator_token op.Multiply = Sign Times
operator_token op.Divide = Sign Over
operator_token op.Remainder = Sign Percent

abbrev pub links_of : Operator → Links
links_of op.Or = Disjunction
links_of op.And = Conjunction
links_of op.Equal = Relation
links_of op.Different = Relation
links_of op.Less = Relation
links_of op.AtMost = Relation
links_of op.Greater = Relation
links_of op.AtLeast = Relation
links_of op.In = Relation
links_of op.Add = Sum
links_of op.Subtract = Sum
links_of op.Join = Sum
links_of op.Multiply = Term
links_of op.Divide = Term
links_of op.Remainder = Term

abbrev pub truth_token : Bool → TokenKind
truth_token true = Key KeyTrue
truth_token false = Key KeyFalse

-- a factor, and an expression that stands by itself
abbrev pub factor : List Mark → List Mark
factor ms = bracketed (Phrase FactorPhrase) ms

abbrev pub whole : List Mark → List Mark
whole ms = bracketed (Phrase ExpressionPhrase) ms

-- in parentheses
abbrev pub enclosed : List Mark → List Mark
enclosed ms = word (Sign Opens) ∷ (ms ++ word (Sign Closes) ∷ [])

-- the operator of the first link says what they are
abbrev pub row_links : {n : _} → Row_of-Link n → Links
row_links no_link = Term
row_links (a_link op e row) = links_of op

abbrev mutual
  -- an expression, as an operand
  pub operand : Expression → List Mark
  operand (Chain' p first shape links) = operand first ++ bracketed (ChainOf (row_links links)) (links_row links)
  operand (Number at value) = factor (word_at at (token.Number value) ∷ [])
  operand (Char at code) = factor (word_at at (token.Char code) ∷ [])
  operand (Text at text) = factor (word_at at (token.Text text) ∷ [])
  operand (Truth at value) = factor (word_at at (truth_token value) ∷ [])
  operand (Not' at p e) = factor (word_at at (Key KeyNot) ∷ operand e)
  operand (Negative' at p e) = factor (word_at at (Sign Minus) ∷ operand e)
  operand (Parentheses' at p e) = factor (word_at at (Sign Opens) ∷ (whole (operand e) ++ word (Sign Closes) ∷ []))
  operand (From' at name shape path) = factor (word_at at (Key KeyFrom) ∷ enclosed (name_mark name ∷ selectors_row path))
  operand (Size' at p e) = factor (word_at at (Key KeySize) ∷ enclosed (whole (operand e)))
  operand (Ordinal' at p e) = factor (word_at at (Key KeyOrd) ∷ enclosed (whole (operand e)))
  operand (Get' name shape path) = factor (name_mark name ∷ selectors_row path)
  operand (Call' name shape arguments) = factor (name_mark name ∷ enclosed (arguments_row arguments))
  operand (Invoke' object operation shape arguments) = factor
      (name_mark object ∷ word (Sign Dollar) ∷ name_mark operation ∷ enclosed (arguments_row arguments))

  pub selector : Selector → List Mark
  selector (Field at name) = word_at at (Sign Period) ∷ name_mark name ∷ []
  selector (Index at e) = word_at at (Sign OpensIndex) ∷ (whole (operand e) ++ word (Sign ClosesIndex) ∷ [])

  pub links_row : {n : _} → Row_of-Link n → List Mark
  links_row no_link = []
  links_row (a_link op e row) = word (operator_token op) ∷ (operand e ++ links_row row)

  pub selectors_row : {n : _} → Row_of-Selector n → List Mark
  selectors_row no_step = []
  selectors_row (a_step s row) = selector s ++ selectors_row row

  pub arguments_row : {n : _} → Row_of-Expression n → List Mark
  arguments_row end_of-Expression = []
  arguments_row (more_of-Expression e row) = whole (operand e) ++ more_arguments_row row

  pub more_arguments_row : {n : _} → Row_of-Expression n → List Mark
  more_arguments_row end_of-Expression = []
  more_arguments_row (more_of-Expression e row) = word (Sign Comma) ∷ (whole (operand e) ++ more_arguments_row row)

abbrev pub expression : Expression → List Mark
expression e = whole (operand e)

-- parts with a separator between two
abbrev pub separated : {X : Type 0} → TokenKind → (X → List Mark) → List X → List Mark
separated separator marks [] = []
separated separator marks (x ∷ xs) = marks x ++ flat_map (λ y. word separator ∷ marks y) xs

-- where there is one
abbrev pub if_any : {X : Type 0} → (X → List Mark) → Option X → List Mark
if_any marks None = []
if_any marks (Some x) = marks x

abbrev pub link : Link → List Mark
link l = word (operator_token l.operator) ∷ operand l.right

abbrev pub list_links : List Link → Links
list_links [] = Term
list_links (l ∷ ls) = links_of l.operator

abbrev pub selectors : List Selector → List Mark
selectors path = flat_map selector path

abbrev pub designator : Designator → List Mark
designator d = name_mark d.name ∷ selectors d.path.items

abbrev pub arguments : List Expression → List Mark
arguments es = separated (Sign Comma) expression es

abbrev pub names : List Name → List Mark
names ns = separated (Sign Comma) (λ n. name_mark n ∷ []) ns

-- ---- types

abbrev pub bound : Bound → List Mark
bound (bounds.Number at value) = word_at at (token.Number value) ∷ []
bound (bounds.Negative at value) = word_at at (Sign Minus) ∷ word (token.Number value) ∷ []
bound (bounds.Named name) = name_mark name ∷ []

abbrev pub type_phrase : TypePhrase → List Mark
type_phrase (types.Integer at) = bracketed (Phrase TypeNest) (word_at at (Key KeyInteger) ∷ [])
type_phrase (types.Boolean at) = bracketed (Phrase TypeNest) (word_at at (Key KeyBoolean) ∷ [])
type_phrase (types.Char at) = bracketed (Phrase TypeNest) (word_at at (Key KeyChar) ∷ [])
type_phrase (types.Text at) = bracketed (Phrase TypeNest) (word_at at (Key KeyString) ∷ [])
type_phrase (types.Named name) = bracketed (Phrase TypeNest) (name_mark name ∷ [])
type_phrase (types.Array' at low high p element) =
    bracketed (Phrase TypeNest)
    (word_at at (Key KeyArray) ∷ word (Sign OpensIndex) ∷
    (bound low ++ word (Sign RangeSign) ∷ (bound high ++ word (Sign ClosesIndex) ∷ word (Key KeyOf) ∷ type_phrase element)))
type_phrase (types.Set' at p element) = bracketed (Phrase TypeNest) (word_at at (Key KeySet) ∷ word (Key KeyOf) ∷ type_phrase element)
type_phrase (types.Bag' at p element) = bracketed (Phrase TypeNest) (word_at at (Key KeyBag) ∷ word (Key KeyOf) ∷ type_phrase element)

abbrev pub typed_name : TypedName → List Mark
typed_name t = name_mark t.name ∷ word (Sign Colon) ∷ type_phrase t.kind

abbrev pub result : Option TypePhrase → List Mark
result r = if_any (λ t. word (Sign Colon) ∷ type_phrase t) r

abbrev pub variables : Variables → List Mark
variables v = names v.names.items ++ word (Sign Colon) ∷ (type_phrase v.kind ++ word (Sign Semicolon) ∷ [])

-- ---- statements

abbrev pub statement_of : List Mark → List Mark
statement_of ms = bracketed (Phrase StatementPhrase) ms

-- the word in front of an arm that isn't the first
abbrev pub arm_word : Arm → TokenKind
arm_word (When' test shape body) = Key KeyElsif
arm_word (Otherwise' shape body) = Key KeyElse

abbrev mutual
  pub statement : Statement → List Mark
  statement (does.Return at value) = statement_of (word_at at (Key KeyReturn) ∷ if_any expression value)
  statement (does.If' at shape arms) = statement_of (word_at at (Key KeyIf) ∷ (arms_row arms ++ word (Key KeyFi) ∷ []))
  statement (does.While' at test shape body) = statement_of
      (word_at at (Key KeyWhile) ∷ (expression test ++ word (Key KeyDo) ∷ (statements_row body ++ word (Key KeyOd) ∷ [])))
  statement (does.For' at name range shape body) =
      statement_of (word_at at (Key KeyFor) ∷ name_mark name ∷ word (Key KeyIn) ∷
      (expression range.low ++ word (Sign RangeSign) ∷
      (expression range.high ++ word (Key KeyDo) ∷ (statements_row body ++ word (Key KeyOd) ∷ []))))
  statement (does.Repeat' at shape body test) = statement_of
      (word_at at (Key KeyRepeat) ∷ (statements_row body ++ word (Key KeyUntil) ∷ expression test))
  statement (does.Fork at process args on) = statement_of
      (word_at at (Key KeyFork) ∷ name_mark process ∷ (enclosed (arguments args.items) ++ if_any (λ e. word (Key KeyOn) ∷ expression e) on))
  statement (does.WriteLine at args) = statement_of (word_at at (Key KeyWriteLine) ∷ enclosed (arguments args.items))
  statement (does.Insert at element into) = statement_of
      (word_at at (Key KeyInsert) ∷ enclosed (expression element ++ word (Sign Comma) ∷ designator into))
  statement (does.Delete at element from) = statement_of
      (word_at at (Key KeyDelete) ∷ enclosed (expression element ++ word (Sign Comma) ∷ designator from))
  statement (does.Assign to value) = statement_of (designator to ++ word (Sign Becomes) ∷ expression value)
  statement (does.Call function args) = statement_of (name_mark function ∷ enclosed (arguments args.items))
  statement (does.Invoke object operation args) = statement_of
      (name_mark object ∷ word (Sign Dollar) ∷ name_mark operation ∷ enclosed (arguments args.items))

  pub statements_row : {n : _} → Row_of-Statement n → List Mark
  statements_row end_of-Statement = []
  statements_row (more_of-Statement s row) = statement s ++ word (Sign Semicolon) ∷ statements_row row

  -- the arms of an `if`: the first, behind `if` itself, and those behind it
  pub arms_row : {n : _} → Row_of-Arm n → List Mark
  arms_row no_arm = []
  arms_row (an_arm a row) = arm a ++ more_arms_row row

  pub more_arms_row : {n : _} → Row_of-Arm n → List Mark
  more_arms_row no_arm = []
  more_arms_row (an_arm a row) = word (arm_word a) ∷ (arm a ++ more_arms_row row)

  pub arm : Arm → List Mark
  arm (When' test shape body) = expression test ++ word (Key KeyThen) ∷ statements_row body
  arm (Otherwise' shape body) = statements_row body

abbrev pub statements : List Statement → List Mark
statements ss = flat_map (λ s. statement s ++ word (Sign Semicolon) ∷ []) ss

abbrev pub more_arms : List Arm → List Mark
more_arms as_ = flat_map (λ a. word (arm_word a) ∷ arm a) as_

abbrev pub arms : List Arm → List Mark
arms [] = []
arms (a ∷ rest) = arm a ++ more_arms rest

-- ---- declarations

abbrev pub typed_names : List TypedName → List Mark
typed_names ts = separated (Sign Semicolon) typed_name ts

abbrev pub head : Head → List Mark
head h = word_at h.at (Key KeyOperation) ∷ name_mark h.name ∷ word (Sign Opens) ∷
    (typed_names h.parameters.items ++ word (Sign Closes) ∷ result h.result)

abbrev pub mode : Mode → List Mark
mode modes.Value = []
mode modes.Shared = word (Key KeyShared) ∷ []
mode modes.Out = word (Key KeyOut) ∷ []

abbrev pub parameter : Parameter → List Mark
parameter p = name_mark p.name ∷ word (Sign Colon) ∷ (mode p.mode ++ type_phrase p.kind)

abbrev pub parameters : List Parameter → List Mark
parameters ps = separated (Sign Semicolon) parameter ps

abbrev pub all_variables : List Variables → List Mark
all_variables vs = flat_map variables vs

abbrev pub ended : List Mark → List Mark
ended ms = ms ++ word (Key KeyEnd) ∷ word (Sign Semicolon) ∷ []

abbrev pub block : Block → List Mark
block b = all_variables b.variables.items ++ word (Key KeyBegin) ∷ ended (statements b.statements.items)

abbrev pub guard : Guard → List Mark
guard g = word_at g.at (Key KeyGuard) ∷
    (expression g.test ++ word (Key KeyDo) ∷ (statements g.body.items ++ word (Key KeyOd) ∷ word (Sign Semicolon) ∷ []))

abbrev pub operation_body : OperationBody → List Mark
operation_body (Guarded first others) = guard first ++ flat_map guard others.items
operation_body (Plain body) = statements body.items

abbrev pub operation : Operation → List Mark
operation o = head o.head ++ word (Sign Semicolon) ∷
    (all_variables o.variables.items ++ word (Key KeyBegin) ∷ ended (operation_body o.body))

abbrev pub definition : Definition → List Mark
definition (Record at fields) = word_at at (Key KeyRecord) ∷
    (flat_map (λ f. typed_name f ++ word (Sign Semicolon) ∷ []) fields.items ++ word (Key KeyEnd) ∷ [])
definition (Enumeration at ns) = word_at at (Key KeyEnum) ∷ enclosed (names ns.items)
definition (Alias of) = type_phrase of

abbrev pub heads : List Head → List Mark
heads hs = flat_map (λ h. head h ++ word (Sign Semicolon) ∷ []) hs

abbrev pub opening : List Statement → List Mark
opening ss = word (Key KeyBegin) ∷ statements ss

abbrev pub declaration : Declaration → List Mark
declaration (declares.Constant at name value) = word_at at (Key KeyConst) ∷ name_mark name ∷ word (Sign Equals) ∷
    (bound value ++ word (Sign Semicolon) ∷ [])
declaration (declares.Type at name of) = word_at at (Key KeyType) ∷ name_mark name ∷ word (Sign Equals) ∷
    (definition of ++ word (Sign Semicolon) ∷ [])
declaration (declares.Specification at name hs) =
    word_at at (Key KeyObject) ∷ word (Key KeySpecification) ∷ name_mark name ∷ word (Sign Semicolon) ∷ ended (heads hs.items)
declaration (declares.Implementation at name fields operations begins) =
    word_at at (Key KeyObject) ∷ word (Key KeyImplementation) ∷ name_mark name ∷ word (Sign Semicolon)
    ∷ ended (all_variables fields.items ++ (flat_map operation operations.items ++ if_any (λ ss. opening ss.items) begins))
declaration (declares.Function at name ps r body) =
    word_at at (Key KeyFunction) ∷ name_mark name ∷ word (Sign Opens) ∷
    (parameters ps.items ++ word (Sign Closes) ∷ (result r ++ word (Sign Semicolon) ∷ block body))
declaration (declares.Process at name ps body) =
    word_at at (Key KeyProcess) ∷ name_mark name ∷ word (Sign Opens) ∷
    (parameters ps.items ++ word (Sign Closes) ∷ word (Sign Semicolon) ∷ block body)

-- module N ; and import N ;
abbrev pub module_line : Option Name → List Mark
module_line m = if_any (λ n. word (Key KeyModule) ∷ name_mark n ∷ word (Sign Semicolon) ∷ []) m

abbrev pub import_line : Name → List Mark
import_line n = word (Key KeyImport) ∷ name_mark n ∷ word (Sign Semicolon) ∷ []

-- the marks of a whole text
abbrev pub unit : UnitTree → List Mark
unit u = module_line u.module ++ (flat_map import_line u.imports.items ++ flat_map declaration u.declarations.items)
