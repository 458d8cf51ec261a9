-- The derivation of a syntax by the grammar (orca_grammar, specs/Rules.antt), and its marks. Each phrase stands in front of what comes
-- behind it, which is the last argument.
use Rattle.std.specs.Prelude.{List, [], ◌∷◌, Option, Some, None}
use Rattle.orca_base.specs.declared.place.Place.{Place}
use Rattle.orca_lexer.specs.declared.token.Keyword.TheVariants.{KeyArray, KeyBag, KeyBegin, KeyBoolean, KeyChar, KeyConst, KeyDelete, KeyDo, KeyElse, KeyElsif, KeyEnd, KeyEnum, KeyFi, KeyFor, KeyFork, KeyFrom, KeyFunction, KeyGuard, KeyIf, KeyImplementation, KeyImport, KeyIn, KeyInsert, KeyInteger, KeyModule, KeyNot, KeyObject, KeyOd, KeyOf, KeyOn, KeyOperation, KeyOrd, KeyOut, KeyProcess, KeyRecord, KeyRepeat, KeyReturn, KeySet, KeyShared, KeySize, KeySpecification, KeyString, KeyThen, KeyType, KeyUntil, KeyWhile, KeyWriteLine}
use Rattle.orca_lexer.specs.declared.token.Symbol.TheVariants.{Becomes, Closes, ClosesIndex, Colon, Comma, Dollar, Equals, Minus, Opens, OpensIndex, Period, Range as RangeSign, Semicolon}
use Rattle.orca_lexer.specs.declared.token.TokenKind.{TokenKind}
use Rattle.orca_lexer.specs.declared.token.TokenKind.TheVariants as kind
use Rattle.orca_lexer.specs.declared.token.TokenKind.TheVariants.{Key, Sign}
use Rattle.orca_grammar.specs.Forms.{Statement as StatementPhrase, Expression as ExpressionPhrase, Factor as FactorPhrase, TypePhrase as TypeNest, Links as Level, Term, Phrase, Chain as ChainOf, Mark}
use Rattle.orca_tree.specs.declared.tree.Name.{Name}
use Rattle.orca_tree.specs.declared.tree.Bound.{Bound}
use Rattle.orca_tree.specs.declared.tree.Bound.TheVariants as bounds
use Rattle.orca_tree.specs.declared.tree.Mode.{Mode}
use Rattle.orca_tree.specs.declared.tree.Mode.TheVariants as modes
use Rattle.orca_tree.specs.Marks.{operator_token, links_of, truth_token}
use Rattle.orca_syntax.specs.Syntax as syn
use Rattle.orca_syntax.specs.Syntax.{Expr, Links, Step, Path, Exprs, Kind, Stmt, Stmts, Arm, Arms, Variables, TypedName, Parameter, Head, Guard, Body, Operation, Block, Definition, Decl, Syntax}
use Rattle.orca_syntax.specs.Forest.{Forest, none, token, group, flat}

-- a token, and one with its place; a name
abbrev pub word : TokenKind → Forest → Forest
word k f = token None k f

abbrev pub word_at : Place → TokenKind → Forest → Forest
word_at at k f = token (Some at) k f

abbrev pub name : Name → Forest → Forest
name n f = word_at n.at (kind.Name n.text) f

-- a factor, and an expression that stands by itself, in their brackets
abbrev pub factor : Forest → Forest → Forest
factor g f = group (Phrase FactorPhrase) g f

abbrev pub whole : Forest → Forest → Forest
whole g f = group (Phrase ExpressionPhrase) g f

-- the operator of the first link says what they are
abbrev pub level : Links → Level
level syn.no_link = Term
level (syn.link op e ls) = links_of op

-- ---- expressions

abbrev mutual
  -- an expression, as an operand
  pub operand : Expr → Forest → Forest
  operand (syn.Chain first ls) f = operand first (group (ChainOf (level ls)) (links ls) f)
  operand (syn.Number at value) f = factor (word_at at (kind.Number value) none) f
  operand (syn.Char at code) f = factor (word_at at (kind.Char code) none) f
  operand (syn.Text at text) f = factor (word_at at (kind.Text text) none) f
  operand (syn.Truth at value) f = factor (word_at at (truth_token value) none) f
  operand (syn.Not at e) f = factor (word_at at (Key KeyNot) (operand e none)) f
  operand (syn.Negative at e) f = factor (word_at at (Sign Minus) (operand e none)) f
  operand (syn.Parentheses at e) f = factor (word_at at (Sign Opens) (whole (operand e none) (word (Sign Closes) none))) f
  operand (syn.From at n p) f = factor (word_at at (Key KeyFrom) (word (Sign Opens) (name n (path p (word (Sign Closes) none))))) f
  operand (syn.Size at e) f = factor (word_at at (Key KeySize) (word (Sign Opens) (whole (operand e none) (word (Sign Closes) none)))) f
  operand (syn.Ordinal at e) f = factor (word_at at (Key KeyOrd) (word (Sign Opens) (whole (operand e none) (word (Sign Closes) none)))) f
  operand (syn.Get n p) f = factor (name n (path p none)) f
  operand (Expr.Call n es) f = factor (name n (word (Sign Opens) (exprs es (word (Sign Closes) none)))) f
  operand (Expr.Invoke n m es) f = factor (name n (word (Sign Dollar) (name m (word (Sign Opens) (exprs es (word (Sign Closes) none)))))) f

  pub links : Links → Forest
  links syn.no_link = none
  links (syn.link op e ls) = word (operator_token op) (operand e (links ls))

  pub step : Step → Forest → Forest
  step (syn.Field at n) f = word_at at (Sign Period) (name n f)
  step (syn.Index at e) f = word_at at (Sign OpensIndex) (whole (operand e none) (word (Sign ClosesIndex) f))

  pub path : Path → Forest → Forest
  path syn.here f = f
  path (syn.to s p) f = step s (path p f)

  pub exprs : Exprs → Forest → Forest
  exprs syn.no_expr f = f
  exprs (syn.expr e es) f = whole (operand e none) (more_exprs es f)

  pub more_exprs : Exprs → Forest → Forest
  more_exprs syn.no_expr f = f
  more_exprs (syn.expr e es) f = word (Sign Comma) (whole (operand e none) (more_exprs es f))

-- parts one after the other; parts with a separator between two; a part, where there is one
abbrev pub each : {X : Type 0} → (X → Forest → Forest) → List X → Forest → Forest
each put [] f = f
each put (x ∷ xs) f = put x (each put xs f)

abbrev pub separated : {X : Type 0} → TokenKind → (X → Forest → Forest) → List X → Forest → Forest
separated separator put [] f = f
separated separator put (x ∷ xs) f = put x (each (λ y g. word separator (put y g)) xs f)

abbrev pub if_any : {X : Type 0} → (X → Forest → Forest) → Option X → Forest → Forest
if_any put None f = f
if_any put (Some x) f = put x f

-- ---- types

abbrev pub bound : Bound → Forest → Forest
bound (bounds.Number at value) f = word_at at (kind.Number value) f
bound (bounds.Negative at value) f = word_at at (Sign Minus) (word (kind.Number value) f)
bound (bounds.Named n) f = name n f

-- a type, without its brackets
abbrev pub type_inside : Kind → Forest
type_inside (syn.Integer at) = word_at at (Key KeyInteger) none
type_inside (syn.Boolean at) = word_at at (Key KeyBoolean) none
type_inside (syn.Character at) = word_at at (Key KeyChar) none
type_inside (syn.String at) = word_at at (Key KeyString) none
type_inside (syn.Named n) = name n none
type_inside (syn.Array at low high k) =
    word_at at (Key KeyArray)
    (word (Sign OpensIndex)
    (bound low (word (Sign RangeSign)
    (bound high (word (Sign ClosesIndex) (word (Key KeyOf) (group (Phrase TypeNest) (type_inside k) none)))))))
type_inside (syn.Set at k) = word_at at (Key KeySet) (word (Key KeyOf) (group (Phrase TypeNest) (type_inside k) none))
type_inside (syn.Bag at k) = word_at at (Key KeyBag) (word (Key KeyOf) (group (Phrase TypeNest) (type_inside k) none))

abbrev pub type_phrase : Kind → Forest → Forest
type_phrase k f = group (Phrase TypeNest) (type_inside k) f

-- ---- statements

-- an expression that stands by itself; one behind `on`; arguments in parentheses
abbrev pub value : Expr → Forest → Forest
value e f = whole (operand e none) f

abbrev pub on_value : Expr → Forest → Forest
on_value e f = word (Key KeyOn) (value e f)

abbrev pub enclosed : Exprs → Forest → Forest
enclosed es f = word (Sign Opens) (exprs es (word (Sign Closes) f))

-- ( e , n path )
abbrev pub pair : Expr → Name → Path → Forest
pair e n p = word (Sign Opens) (value e (word (Sign Comma) (name n (path p (word (Sign Closes) none)))))

-- the word in front of an arm that isn't the first
abbrev pub arm_word : Arm → TokenKind
arm_word (syn.When test ss) = Key KeyElsif
arm_word (syn.Otherwise ss) = Key KeyElse

abbrev mutual
  -- a statement, without its brackets
  pub stmt_inside : Stmt → Forest
  stmt_inside (syn.Return at v) = word_at at (Key KeyReturn) (if_any value v none)
  stmt_inside (syn.If at as_) = word_at at (Key KeyIf) (arms as_ (word (Key KeyFi) none))
  stmt_inside (syn.While at test ss) = word_at at (Key KeyWhile) (value test (word (Key KeyDo) (stmts ss (word (Key KeyOd) none))))
  stmt_inside (syn.For at n low high ss) =
      word_at at (Key KeyFor)
      (name n (word (Key KeyIn) (value low (word (Sign RangeSign) (value high (word (Key KeyDo) (stmts ss (word (Key KeyOd) none))))))))
  stmt_inside (syn.Repeat at ss test) = word_at at (Key KeyRepeat) (stmts ss (word (Key KeyUntil) (value test none)))
  stmt_inside (syn.Fork at n es on) = word_at at (Key KeyFork) (name n (enclosed es (if_any on_value on none)))
  stmt_inside (syn.WriteLine at es) = word_at at (Key KeyWriteLine) (enclosed es none)
  stmt_inside (syn.Insert at e n p) = word_at at (Key KeyInsert) (pair e n p)
  stmt_inside (syn.Delete at e n p) = word_at at (Key KeyDelete) (pair e n p)
  stmt_inside (syn.Assign n p e) = name n (path p (word (Sign Becomes) (value e none)))
  stmt_inside (Stmt.Call n es) = name n (enclosed es none)
  stmt_inside (Stmt.Invoke n m es) = name n (word (Sign Dollar) (name m (enclosed es none)))

  pub stmts : Stmts → Forest → Forest
  stmts syn.no_stmt f = f
  stmts (syn.stmt s ss) f = group (Phrase StatementPhrase) (stmt_inside s) (word (Sign Semicolon) (stmts ss f))

  pub arms : Arms → Forest → Forest
  arms syn.no_arm f = f
  arms (syn.arm a as_) f = arm a (more_arms as_ f)

  pub more_arms : Arms → Forest → Forest
  more_arms syn.no_arm f = f
  more_arms (syn.arm a as_) f = word (arm_word a) (arm a (more_arms as_ f))

  pub arm : Arm → Forest → Forest
  arm (syn.When test ss) f = value test (word (Key KeyThen) (stmts ss f))
  arm (syn.Otherwise ss) f = stmts ss f

-- ---- declarations

abbrev pub names : List Name → Forest → Forest
names ns f = separated (Sign Comma) name ns f

abbrev pub variables : Variables → Forest → Forest
variables v f = names v.names (word (Sign Colon) (type_phrase v.kind (word (Sign Semicolon) f)))

abbrev pub typed_name : TypedName → Forest → Forest
typed_name t f = name t.name (word (Sign Colon) (type_phrase t.kind f))

abbrev pub field : TypedName → Forest → Forest
field t f = typed_name t (word (Sign Semicolon) f)

abbrev pub result : Kind → Forest → Forest
result k f = word (Sign Colon) (type_phrase k f)

abbrev pub mode : Mode → Forest → Forest
mode modes.Value f = f
mode modes.Shared f = word (Key KeyShared) f
mode modes.Out f = word (Key KeyOut) f

abbrev pub parameter : Parameter → Forest → Forest
parameter p f = name p.name (word (Sign Colon) (mode p.mode (type_phrase p.kind f)))

abbrev pub head : Head → Forest → Forest
head h f =
    word_at h.at (Key KeyOperation)
    (name h.name (word (Sign Opens)
    (separated (Sign Semicolon) typed_name h.parameters (word (Sign Closes) (if_any result h.result f)))))

abbrev pub head_line : Head → Forest → Forest
head_line h f = head h (word (Sign Semicolon) f)

abbrev pub ended : Forest → Forest
ended f = word (Key KeyEnd) (word (Sign Semicolon) f)

abbrev pub block : Block → Forest → Forest
block b f = each variables b.variables (word (Key KeyBegin) (stmts b.statements (ended f)))

abbrev pub guard : Guard → Forest → Forest
guard g f = word_at g.at (Key KeyGuard) (value g.test (word (Key KeyDo) (stmts g.body (word (Key KeyOd) (word (Sign Semicolon) f)))))

abbrev pub body : Body → Forest → Forest
body (syn.Guarded g gs) f = guard g (each guard gs f)
body (syn.Plain ss) f = stmts ss f

abbrev pub operation : Operation → Forest → Forest
operation o f = head_line o.head (each variables o.variables (word (Key KeyBegin) (body o.body (ended f))))

abbrev pub opening : Stmts → Forest → Forest
opening ss f = word (Key KeyBegin) (stmts ss f)

abbrev pub definition : Definition → Forest → Forest
definition (syn.Record at ts) f = word_at at (Key KeyRecord) (each field ts (word (Key KeyEnd) f))
definition (syn.Enumeration at ns) f = word_at at (Key KeyEnum) (word (Sign Opens) (names ns (word (Sign Closes) f)))
definition (syn.Alias k) f = type_phrase k f

-- name ( parameters
abbrev pub called : Name → List Parameter → Forest → Forest
called n ps f = name n (word (Sign Opens) (separated (Sign Semicolon) parameter ps (word (Sign Closes) f)))

abbrev pub decl : Decl → Forest → Forest
decl (syn.Constant at n b) f = word_at at (Key KeyConst) (name n (word (Sign Equals) (bound b (word (Sign Semicolon) f))))
decl (syn.Declares at n d) f = word_at at (Key KeyType) (name n (word (Sign Equals) (definition d (word (Sign Semicolon) f))))
decl (syn.Specification at n hs) f = word_at at (Key KeyObject)
    (word (Key KeySpecification) (name n (word (Sign Semicolon) (each head_line hs (ended f)))))
decl (syn.Implementation at n vs os ss) f =
    word_at at (Key KeyObject)
    (word (Key KeyImplementation)
    (name n (word (Sign Semicolon) (each variables vs (each operation os (if_any opening ss (ended f)))))))
decl (syn.Function at n ps r b) f = word_at at (Key KeyFunction) (called n ps (if_any result r (word (Sign Semicolon) (block b f))))
decl (syn.Process at n ps b) f = word_at at (Key KeyProcess) (called n ps (word (Sign Semicolon) (block b f)))

-- module N ; and import N ;
abbrev pub module_line : Name → Forest → Forest
module_line n f = word (Key KeyModule) (name n (word (Sign Semicolon) f))

abbrev pub import_line : Name → Forest → Forest
import_line n f = word (Key KeyImport) (name n (word (Sign Semicolon) f))

-- a whole text, and its marks
abbrev pub unit : Syntax → Forest
unit s = if_any module_line s.name (each import_line s.imports (each decl s.declarations none))

abbrev pub syntax_marks : Syntax → List Mark
syntax_marks s = flat (unit s)
