-- The words of a text's syntax are sound, phrase by phrase.
use Rattle.std.proofs.Common.{ℕ, List, [], ◌∷◌, ◌++◌, Option, Some, None, subst, sym}
use Rattle.std.specs.Prelude.{IfSome}
use Rattle.std.specs.List.{AllByRecursion}
use Rattle.orca_lexer.specs.declared.token.Keyword.TheVariants.{KeyBegin, KeyEnd, KeyFi, KeyOd, KeyOf, KeyUntil}
use Rattle.orca_lexer.specs.declared.token.Symbol.TheVariants.{Becomes, Closes, ClosesIndex, Colon, Comma, Range as RangeSign, Semicolon}
use Rattle.orca_lexer.specs.declared.token.Token.{Token}
use Rattle.orca_lexer.specs.declared.token.TokenKind.{TokenKind}
use Rattle.orca_lexer.specs.declared.token.TokenKind.TheVariants.{Key, Sign}
use Rattle.orca_lexer.specs.Spelling.{IsSound}
use Rattle.orca_grammar.specs.Forms.{TypePhrase as TypeNest, Phrase, Chain as ChainOf, End, spelled}
use Rattle.orca_grammar.specs.Grammar.{IsText}
use Rattle.orca_grammar.proofs.Placed.{spelled_append}
use Rattle.orca_tree.specs.declared.tree.Bound.TheVariants as bounds
use Rattle.orca_tree.specs.declared.tree.Mode.{Mode}
use Rattle.orca_tree.specs.declared.tree.Mode.TheVariants as modes
use Rattle.orca_syntax.specs.Syntax as syn
use Rattle.orca_syntax.specs.Syntax.{Expr, Links, Step, Path, Exprs, Kind, Stmt, Stmts, Arm, Arms, Parameter, Definition, Decl, Syntax}
use Rattle.orca_syntax.specs.Forest.{Forest, none, token, group, flat}
use Rattle.orca_syntax.specs.Derivation as der
use Rattle.orca_syntax.specs.TextSyntax.{HasSyntax}
use Rattle.orca_syntax.specs.Sound.{AreSoundArms, AreSoundExprs, AreSoundLinks, AreSoundNames, AreSoundStmts, AreSoundVariables, IsSoundArm, IsSoundBlock, IsSoundBody, IsSoundBound, IsSoundDecl, IsSoundDefinition, IsSoundExpr, IsSoundGuard, IsSoundHead, IsSoundKind, IsSoundName, IsSoundOperation, IsSoundParameter, IsSoundPath, IsSoundStep, IsSoundStmt, IsSoundSyntax, IsSoundTypedName}
use Rattle.orca_syntax.proofs.Complete.{HasParts, HasAllParts, made}
use Rattle.orca_syntax.proofs.PrintedOnce.{syntax_sound}
use Rattle.orca_syntax.proofs.TextOnce.{marks_once}

-- ---- forests

abbrev AllSound : Forest → Type 0
AllSound none = Unit {0}
AllSound (token p k f) = IsSound k × AllSound f
AllSound (group b g f) = AllSound g × AllSound f

in_two : (xs ys : List TokenKind) → AllByRecursion IsSound (xs ++ ys) → AllByRecursion IsSound xs × AllByRecursion IsSound ys
in_two [] ys h = (tt, h)
in_two (x ∷ xs) ys h = let r = in_two xs ys h.1 in ((h.0, r.0), r.1)

forest_sound : (f : Forest) → AllByRecursion IsSound (spelled (flat f)) → AllSound f
forest_sound none h = tt
forest_sound (token p k f) h = (h.0, forest_sound f h.1)
forest_sound (group b g f) h =
    let r = in_two (spelled (flat g)) (spelled (flat f)) (subst (λ (ks : List TokenKind). AllByRecursion IsSound ks) (spelled_append (flat g) (End b ∷ flat f)) h) in
    (forest_sound g r.0, forest_sound f r.1)

-- a phrase's words are sound, and those behind it
abbrev Sounds : {X : Type 0} → (X → Forest → Forest) → (X → Type 0) → Type 0
Sounds {X = X} put P = (x : X) (f : Forest) → AllSound (put x f) → P x × AllSound f

each_sound : {X : Type 0} (put : X → Forest → Forest) (P : X → Type 0) → Sounds put P → (xs : List X) (f : Forest) → AllSound (der.each put xs f) → AllByRecursion P xs × AllSound f
each_sound put P s [] f h = (tt, h)
each_sound put P s (x ∷ xs) f h =
    let a = s x (der.each put xs f) h in
    let b = each_sound put P s xs f a.1 in
    ((a.0, b.0), b.1)

separated_sound : {X : Type 0} (k : TokenKind) (put : X → Forest → Forest) (P : X → Type 0) → Sounds put P → (xs : List X) (f : Forest) → AllSound (der.separated k put xs f) → AllByRecursion P xs × AllSound f
separated_sound k put P s [] f h = (tt, h)
separated_sound {X} k put P s (x ∷ xs) f h =
    let led : X → Forest → Forest = λ y g. der.word k (put y g) in
    let a = s x (der.each led xs f) h in
    let b = each_sound led P (λ y g q. s y g q.1) xs f a.1 in
    ((a.0, b.0), b.1)

any_sound : {X : Type 0} (put : X → Forest → Forest) (P : X → Type 0) → Sounds put P → (o : Option X) (f : Forest) → AllSound (der.if_any put o f) → IfSome o P × AllSound f
any_sound put P s None f h = (tt, h)
any_sound put P s (Some x) f h = s x f h

abbrev closed : Forest
closed = der.word (Sign Closes) none

name_sound : Sounds der.name IsSoundName
name_sound n f h = (h.0, h.1)

-- ---- expressions

mutual
  operand_sound : (e : Expr) (f : Forest) → AllSound (der.operand e f) → IsSoundExpr e × AllSound f
  operand_sound (syn.Chain first ls) f h =
      let a = operand_sound first (group (ChainOf (der.level ls)) (der.links ls) f) h in
      ((a.0, links_sound ls a.1.0), a.1.1)
  operand_sound (syn.Number at value) f h = (h.0.0, h.1)
  operand_sound (syn.Char at code) f h = (h.0.0, h.1)
  operand_sound (syn.Text at text) f h = (h.0.0, h.1)
  operand_sound (syn.Truth at value) f h = (tt, h.1)
  operand_sound (syn.Not at e) f h = ((operand_sound e none h.0.1).0, h.1)
  operand_sound (syn.Negative at e) f h = ((operand_sound e none h.0.1).0, h.1)
  operand_sound (syn.Parentheses at e) f h = ((operand_sound e none h.0.1.0).0, h.1)
  operand_sound (syn.From at n p) f h = ((h.0.1.1.0, (path_sound p closed h.0.1.1.1).0), h.1)
  operand_sound (syn.Size at e) f h = ((operand_sound e none h.0.1.1.0).0, h.1)
  operand_sound (syn.Ordinal at e) f h = ((operand_sound e none h.0.1.1.0).0, h.1)
  operand_sound (syn.Get n p) f h = ((h.0.0, (path_sound p none h.0.1).0), h.1)
  operand_sound (Expr.Call n es) f h = ((h.0.0, (exprs_sound es closed h.0.1.1).0), h.1)
  operand_sound (Expr.Invoke n m es) f h = ((h.0.0, h.0.1.1.0, (exprs_sound es closed h.0.1.1.1.1).0), h.1)

  links_sound : (ls : Links) → AllSound (der.links ls) → AreSoundLinks ls
  links_sound syn.no_link h = tt
  links_sound (syn.link op e ls) h = let a = operand_sound e (der.links ls) h.1 in (a.0, links_sound ls a.1)

  step_sound : (s : Step) (f : Forest) → AllSound (der.step s f) → IsSoundStep s × AllSound f
  step_sound (syn.Field at n) f h = (h.1.0, h.1.1)
  step_sound (syn.Index at e) f h = ((operand_sound e none h.1.0).0, h.1.1.1)

  path_sound : (p : Path) (f : Forest) → AllSound (der.path p f) → IsSoundPath p × AllSound f
  path_sound syn.here f h = (tt, h)
  path_sound (syn.to s p) f h =
      let a = step_sound s (der.path p f) h in
      let b = path_sound p f a.1 in
      ((a.0, b.0), b.1)

  exprs_sound : (es : Exprs) (f : Forest) → AllSound (der.exprs es f) → AreSoundExprs es × AllSound f
  exprs_sound syn.no_expr f h = (tt, h)
  exprs_sound (syn.expr e es) f h = let b = more_sound es f h.1 in (((operand_sound e none h.0).0, b.0), b.1)

  more_sound : (es : Exprs) (f : Forest) → AllSound (der.more_exprs es f) → AreSoundExprs es × AllSound f
  more_sound syn.no_expr f h = (tt, h)
  more_sound (syn.expr e es) f h = let b = more_sound es f h.1.1 in (((operand_sound e none h.1.0).0, b.0), b.1)

value_sound : Sounds der.value IsSoundExpr
value_sound e f h = ((operand_sound e none h.0).0, h.1)

on_sound : Sounds der.on_value IsSoundExpr
on_sound e f h = ((operand_sound e none h.1.0).0, h.1.1)

-- ---- types

bound_sound : Sounds der.bound IsSoundBound
bound_sound (bounds.Number at value) f h = (h.0, h.1)
bound_sound (bounds.Negative at value) f h = (h.1.0, h.1.1)
bound_sound (bounds.Named n) f h = (h.0, h.1)

inside_sound : (k : Kind) → AllSound (der.type_inside k) → IsSoundKind k
inside_sound (syn.Integer at) h = tt
inside_sound (syn.Boolean at) h = tt
inside_sound (syn.Character at) h = tt
inside_sound (syn.String at) h = tt
inside_sound (syn.Named n) h = h.0
inside_sound (syn.Array at low high k) h =
    let last : Forest = der.word (Sign ClosesIndex) (der.word (Key KeyOf) (group (Phrase TypeNest) (der.type_inside k) none)) in
    let a = bound_sound low (der.word (Sign RangeSign) (der.bound high last)) h.1.1 in
    let b = bound_sound high last a.1.1 in
    (a.0, b.0, inside_sound k b.1.1.1.0)
inside_sound (syn.Set at k) h = inside_sound k h.1.1.0
inside_sound (syn.Bag at k) h = inside_sound k h.1.1.0

type_sound : Sounds der.type_phrase IsSoundKind
type_sound k f h = (inside_sound k h.0, h.1)

-- ---- statements

mutual
  stmt_sound : (s : Stmt) → AllSound (der.stmt_inside s) → IsSoundStmt s
  stmt_sound (syn.Return at v) h = (any_sound der.value IsSoundExpr value_sound v none h.1).0
  stmt_sound (syn.If at as_) h = (arms_sound as_ (der.word (Key KeyFi) none) h.1).0
  stmt_sound (syn.While at test ss) h = ((operand_sound test none h.1.0).0, (stmts_sound ss (der.word (Key KeyOd) none) h.1.1.1).0)
  stmt_sound (syn.For at n low high ss) h = (
    h.1.0,
    (operand_sound low none h.1.1.1.0).0,
    (operand_sound high none h.1.1.1.1.1.0).0,
    (stmts_sound ss (der.word (Key KeyOd) none) h.1.1.1.1.1.1.1).0,
  )
  stmt_sound (syn.Repeat at ss test) h =
      let a = stmts_sound ss (der.word (Key KeyUntil) (der.value test none)) h.1 in
      (a.0, (operand_sound test none a.1.1.0).0)
  stmt_sound (syn.Fork at n es on) h =
      let a = exprs_sound es (der.word (Sign Closes) (der.if_any der.on_value on none)) h.1.1.1 in
      let b = any_sound der.on_value IsSoundExpr on_sound on none a.1.1 in
      (h.1.0, a.0, b.0)
  stmt_sound (syn.WriteLine at es) h = (exprs_sound es closed h.1.1).0
  stmt_sound (syn.Insert at e n p) h = ((operand_sound e none h.1.1.0).0, h.1.1.1.1.0, (path_sound p closed h.1.1.1.1.1).0)
  stmt_sound (syn.Delete at e n p) h = ((operand_sound e none h.1.1.0).0, h.1.1.1.1.0, (path_sound p closed h.1.1.1.1.1).0)
  stmt_sound (syn.Assign n p e) h =
      let a = path_sound p (der.word (Sign Becomes) (der.value e none)) h.1 in
      (h.0, a.0, (operand_sound e none a.1.1.0).0)
  stmt_sound (Stmt.Call n es) h = (h.0, (exprs_sound es closed h.1.1).0)
  stmt_sound (Stmt.Invoke n m es) h = (h.0, h.1.1.0, (exprs_sound es closed h.1.1.1.1).0)

  stmts_sound : (ss : Stmts) (f : Forest) → AllSound (der.stmts ss f) → AreSoundStmts ss × AllSound f
  stmts_sound syn.no_stmt f h = (tt, h)
  stmts_sound (syn.stmt s ss) f h = let b = stmts_sound ss f h.1.1 in ((stmt_sound s h.0, b.0), b.1)

  arms_sound : (as_ : Arms) (f : Forest) → AllSound (der.arms as_ f) → AreSoundArms as_ × AllSound f
  arms_sound syn.no_arm f h = (tt, h)
  arms_sound (syn.arm a as_) f h =
      let x = arm_sound a (der.more_arms as_ f) h in
      let b = more_arms_sound as_ f x.1 in
      ((x.0, b.0), b.1)

  more_arms_sound : (as_ : Arms) (f : Forest) → AllSound (der.more_arms as_ f) → AreSoundArms as_ × AllSound f
  more_arms_sound syn.no_arm f h = (tt, h)
  more_arms_sound (syn.arm a as_) f h =
      let x = arm_sound a (der.more_arms as_ f) h.1 in
      let b = more_arms_sound as_ f x.1 in
      ((x.0, b.0), b.1)

  arm_sound : (a : Arm) (f : Forest) → AllSound (der.arm a f) → IsSoundArm a × AllSound f
  arm_sound (syn.When test ss) f h = let b = stmts_sound ss f h.1.1 in (((operand_sound test none h.0).0, b.0), b.1)
  arm_sound (syn.Otherwise ss) f h = stmts_sound ss f h

-- ---- declarations

names_sound : Sounds der.names AreSoundNames
names_sound ns f h = separated_sound (Sign Comma) der.name IsSoundName name_sound ns f h

variables_sound : Sounds der.variables AreSoundVariables
variables_sound v f h =
    let a = names_sound v.names (der.word (Sign Colon) (der.type_phrase v.kind (der.word (Sign Semicolon) f))) h in
    ((a.0, inside_sound v.kind a.1.1.0), a.1.1.1.1)

typed_name_sound : Sounds der.typed_name IsSoundTypedName
typed_name_sound t f h = ((h.0, inside_sound t.kind h.1.1.0), h.1.1.1)

field_sound : Sounds der.field IsSoundTypedName
field_sound t f h = let a = typed_name_sound t (der.word (Sign Semicolon) f) h in (a.0, a.1.1)

result_sound : Sounds der.result IsSoundKind
result_sound k f h = (inside_sound k h.1.0, h.1.1)

mode_sound : (m : Mode) (f : Forest) → AllSound (der.mode m f) → AllSound f
mode_sound modes.Value f h = h
mode_sound modes.Shared f h = h.1
mode_sound modes.Out f h = h.1

parameter_sound : Sounds der.parameter IsSoundParameter
parameter_sound p f h = let m = mode_sound p.mode (der.type_phrase p.kind f) h.1.1 in ((h.0, inside_sound p.kind m.0), m.1)

head_sound : Sounds der.head IsSoundHead
head_sound q f h =
    let a = separated_sound (Sign Semicolon) der.typed_name IsSoundTypedName typed_name_sound q.parameters (der.word (Sign Closes) (der.if_any der.result q.result f)) h.1.1.1 in
    let b = any_sound der.result IsSoundKind result_sound q.result f a.1.1 in
    ((h.1.0, a.0, b.0), b.1)

head_line_sound : Sounds der.head_line IsSoundHead
head_line_sound q f h = let a = head_sound q (der.word (Sign Semicolon) f) h in (a.0, a.1.1)

block_sound : Sounds der.block IsSoundBlock
block_sound b f h =
    let a = each_sound der.variables AreSoundVariables variables_sound b.variables (der.word (Key KeyBegin) (der.stmts b.statements (der.ended f))) h in
    let c = stmts_sound b.statements (der.ended f) a.1.1 in
    ((a.0, c.0), c.1.1.1)

guard_sound : Sounds der.guard IsSoundGuard
guard_sound g f h =
    let c = stmts_sound g.body (der.word (Key KeyOd) (der.word (Sign Semicolon) f)) h.1.1.1 in
    (((operand_sound g.test none h.1.0).0, c.0), c.1.1.1)

body_sound : Sounds der.body IsSoundBody
body_sound (syn.Guarded g gs) f h =
    let a = guard_sound g (der.each der.guard gs f) h in
    let b = each_sound der.guard IsSoundGuard guard_sound gs f a.1 in
    ((a.0, b.0), b.1)
body_sound (syn.Plain ss) f h = stmts_sound ss f h

operation_sound : Sounds der.operation IsSoundOperation
operation_sound o f h =
    let last : Forest = der.word (Key KeyBegin) (der.body o.body (der.ended f)) in
    let a = head_line_sound o.head (der.each der.variables o.variables last) h in
    let b = each_sound der.variables AreSoundVariables variables_sound o.variables last a.1 in
    let c = body_sound o.body (der.ended f) b.1.1 in
    ((a.0, b.0, c.0), c.1.1.1)

opening_sound : Sounds der.opening AreSoundStmts
opening_sound ss f h = stmts_sound ss f h.1

-- the words of a definition and of a declaration, without that a definition has parts
abbrev AreDefinitionWords : Definition → Type 0
AreDefinitionWords (syn.Record at ts) = AllByRecursion IsSoundTypedName ts
AreDefinitionWords (syn.Enumeration at ns) = AreSoundNames ns
AreDefinitionWords (syn.Alias k) = IsSoundKind k

abbrev AreDeclWords : Decl → Type 0
AreDeclWords (syn.Declares at n d) = IsSoundName n × AreDefinitionWords d
AreDeclWords d = IsSoundDecl d

definition_sound : Sounds der.definition AreDefinitionWords
definition_sound (syn.Record at ts) f h = let a = each_sound der.field IsSoundTypedName field_sound ts (der.word (Key KeyEnd) f) h.1 in (a.0, a.1.1)
definition_sound (syn.Enumeration at ns) f h = let a = names_sound ns (der.word (Sign Closes) f) h.1.1 in (a.0, a.1.1)
definition_sound (syn.Alias k) f h = type_sound k f h

parameters_sound : (ps : List Parameter) (f : Forest) → AllSound (der.separated (Sign Semicolon) der.parameter ps (der.word (Sign Closes) f)) → AllByRecursion IsSoundParameter ps × AllSound f
parameters_sound ps f h = let a = separated_sound (Sign Semicolon) der.parameter IsSoundParameter parameter_sound ps (der.word (Sign Closes) f) h in (a.0, a.1.1)

decl_sound : Sounds der.decl AreDeclWords
decl_sound (syn.Constant at n b) f h = let a = bound_sound b (der.word (Sign Semicolon) f) h.1.1.1 in ((h.1.0, a.0), a.1.1)
decl_sound (syn.Declares at n d) f h = let a = definition_sound d (der.word (Sign Semicolon) f) h.1.1.1 in ((h.1.0, a.0), a.1.1)
decl_sound (syn.Specification at n hs) f h =
    let a = each_sound der.head_line IsSoundHead head_line_sound hs (der.ended f) h.1.1.1.1 in
    ((h.1.1.0, a.0), a.1.1.1)
decl_sound (syn.Implementation at n vs os ss) f h =
    let last : Forest = der.if_any der.opening ss (der.ended f) in
    let a = each_sound der.variables AreSoundVariables variables_sound vs (der.each der.operation os last) h.1.1.1.1 in
    let b = each_sound der.operation IsSoundOperation operation_sound os last a.1 in
    let c = any_sound der.opening AreSoundStmts opening_sound ss (der.ended f) b.1 in
    ((h.1.1.0, a.0, b.0, c.0), c.1.1.1)
decl_sound (syn.Function at n ps r b) f h =
    let last : Forest = der.word (Sign Semicolon) (der.block b f) in
    let a = parameters_sound ps (der.if_any der.result r last) h.1.1.1 in
    let c = any_sound der.result IsSoundKind result_sound r last a.1 in
    let d = block_sound b f c.1.1 in
    ((h.1.0, a.0, c.0, d.0), d.1)
decl_sound (syn.Process at n ps b) f h =
    let a = parameters_sound ps (der.word (Sign Semicolon) (der.block b f)) h.1.1.1 in
    let d = block_sound b f a.1.1 in
    ((h.1.0, a.0, d.0), d.1)

line_sound : Sounds der.module_line IsSoundName
line_sound n f h = (h.1.0, h.1.1.1)

import_sound : Sounds der.import_line IsSoundName
import_sound n f h = (h.1.0, h.1.1.1)

unit_sound : (s : Syntax) → AllSound (der.unit s) → IfSome s.name IsSoundName × AreSoundNames s.imports × AllByRecursion AreDeclWords s.declarations
unit_sound s h =
    let last : Forest = der.each der.decl s.declarations none in
    let a = any_sound der.module_line IsSoundName line_sound s.name (der.each der.import_line s.imports last) h in
    let b = each_sound der.import_line IsSoundName import_sound s.imports last a.1 in
    let c = each_sound der.decl AreDeclWords decl_sound s.declarations none b.1 in
    (a.0, b.0, c.0)

-- ---- definitions have parts

with_parts : (d : Definition) → AreDefinitionWords d → HasParts d → IsSoundDefinition d
with_parts (syn.Record at ts) words parts = (words, parts)
with_parts (syn.Enumeration at ns) words parts = (words, parts)
with_parts (syn.Alias k) words parts = words

with_all_parts : (d : Decl) → AreDeclWords d → HasAllParts d → IsSoundDecl d
with_all_parts (syn.Constant at n b) words parts = words
with_all_parts (syn.Declares at n d) words parts = (words.0, with_parts d words.1 parts)
with_all_parts (syn.Specification at n hs) words parts = words
with_all_parts (syn.Implementation at n vs os ss) words parts = words
with_all_parts (syn.Function at n ps r b) words parts = words
with_all_parts (syn.Process at n ps b) words parts = words

all_with_parts : (ds : List Decl) → AllByRecursion AreDeclWords ds → AllByRecursion HasAllParts ds → AllByRecursion IsSoundDecl ds
all_with_parts [] words parts = tt
all_with_parts (d ∷ ds) words parts = (with_all_parts d words.0 parts.0, all_with_parts ds words.1 parts.1)

text_parts : (s : Syntax) (tokens : List Token) → IsText (der.syntax_marks s) tokens → AllByRecursion HasAllParts s.declarations
text_parts s tokens text =
    let x = made (der.syntax_marks s) tokens text in
    subst (λ (t : Syntax). AllByRecursion HasAllParts t.declarations) (sym (marks_once s x.syntax tokens text (sym x.same))) x.parts

pub parts_sound : (text : List ℕ) (s : Syntax) → HasSyntax text s → IsSoundSyntax s
parts_sound text s has =
    let words = unit_sound s (forest_sound (der.unit s) (syntax_sound text s has)) in
    (words.0, words.1, all_with_parts s.declarations words.2 (text_parts s has.tokens has.derived))
