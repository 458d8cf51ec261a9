-- The derivation of a syntax without places is its derivation with each place that of nowhere.
use Rattle.std.proofs.Common.{◌≡◌, List, [], ◌∷◌, Option, Some, None, refl, ap, ◌∙◌}
use Rattle.std.specs.Prelude.{map, option_map}
use Rattle.orca_base.specs.declared.place.Place.{Place}
use Rattle.orca_lexer.specs.declared.token.Keyword.TheVariants.{KeyArray, KeyBag, KeyBegin, KeyConst, KeyDelete, KeyDo, KeyElse, KeyElsif, KeyEnd, KeyEnum, KeyFi, KeyFor, KeyFork, KeyFrom, KeyFunction, KeyGuard, KeyIf, KeyImplementation, KeyIn, KeyInsert, KeyNot, KeyObject, KeyOd, KeyOf, KeyOn, KeyOperation, KeyOrd, KeyProcess, KeyRecord, KeyRepeat, KeyReturn, KeySet, KeySize, KeySpecification, KeyThen, KeyType, KeyUntil, KeyWhile, KeyWriteLine}
use Rattle.orca_lexer.specs.declared.token.Symbol.TheVariants.{Becomes, Closes, ClosesIndex, Colon, Comma, Dollar, Equals, Minus, Opens, OpensIndex, Range as RangeSign, Semicolon}
use Rattle.orca_lexer.specs.declared.token.TokenKind.{TokenKind}
use Rattle.orca_lexer.specs.declared.token.TokenKind.TheVariants.{Key, Sign}
use Rattle.orca_grammar.specs.Forms.{Statement as StatementPhrase, TypePhrase as TypeNest, Links as Level, Phrase, Chain as ChainOf}
use Rattle.orca_tree.specs.declared.tree.Name.{Name}
use Rattle.orca_tree.specs.declared.tree.Bound.{Bound}
use Rattle.orca_tree.specs.declared.tree.Bound.TheVariants as bounds
use Rattle.orca_tree.specs.declared.tree.Mode.{Mode}
use Rattle.orca_tree.specs.declared.tree.Mode.TheVariants as modes
use Rattle.orca_tree.specs.Marks.{operator_token}
use Rattle.orca_syntax.specs.Syntax as syn
use Rattle.orca_syntax.specs.Syntax.{Expr, Links, Step, Path, Exprs, Kind, Stmt, Stmts, Arm, Arms, Variables, Body, Definition, Decl, Syntax}
use Rattle.orca_syntax.specs.Forest.{Forest, none, token, group}
use Rattle.orca_syntax.specs.Derivation as der
use Rattle.orca_syntax.specs.Bare as bare
use Rattle.orca_syntax.specs.Bare.{nowhere}

abbrev pub blank_place : Option Place → Option Place
blank_place None = None
blank_place (Some at) = Some nowhere

abbrev pub blank : Forest → Forest
blank none = none
blank (token p k f) = token (blank_place p) k (blank f)
blank (group b g f) = group b (blank g) (blank f)

-- a phrase in front, and then what stands behind it
on : {f g h : Forest} (put : Forest → Forest) → f ≡ put g → g ≡ h → f ≡ put h
on put p q = p ∙ ap put q

-- ---- expressions

level_blank : (ls : Links) → der.level ls ≡ der.level (bare.links ls)
level_blank syn.no_link = refl
level_blank (syn.link op e ls) = refl

mutual
  operand_blank : (e : Expr) (f : Forest) → blank (der.operand e f) ≡ der.operand (bare.expr e) (blank f)
  operand_blank (syn.Chain e ls) f =
      on (der.operand (bare.expr e)) (operand_blank e (group (ChainOf (der.level ls)) (der.links ls) f))
      (ap (λ (l : Level). group (ChainOf l) (blank (der.links ls)) (blank f)) (level_blank ls) ∙ ap (λ x. group (ChainOf (der.level (bare.links ls))) x (blank f)) (links_blank ls))
  operand_blank (syn.Number at v) f = refl
  operand_blank (syn.Char at c) f = refl
  operand_blank (syn.Text at t) f = refl
  operand_blank (syn.Truth at b) f = refl
  operand_blank (syn.Not at e) f = ap (λ x. der.factor (der.word_at nowhere (Key KeyNot) x) (blank f)) (operand_blank e none)
  operand_blank (syn.Negative at e) f = ap (λ x. der.factor (der.word_at nowhere (Sign Minus) x) (blank f)) (operand_blank e none)
  operand_blank (syn.Parentheses at e) f = ap (λ x. der.factor (der.word_at nowhere (Sign Opens) (der.whole x (der.word (Sign Closes) none))) (blank f)) (operand_blank e none)
  operand_blank (syn.From at n p) f = ap (λ x. der.factor (der.word_at nowhere (Key KeyFrom) (der.word (Sign Opens) (der.name (bare.name n) x))) (blank f)) (path_blank p (der.word (Sign Closes) none))
  operand_blank (syn.Size at e) f = ap (λ x. der.factor (der.word_at nowhere (Key KeySize) (der.word (Sign Opens) (der.whole x (der.word (Sign Closes) none)))) (blank f)) (operand_blank e none)
  operand_blank (syn.Ordinal at e) f = ap (λ x. der.factor (der.word_at nowhere (Key KeyOrd) (der.word (Sign Opens) (der.whole x (der.word (Sign Closes) none)))) (blank f)) (operand_blank e none)
  operand_blank (syn.Get n p) f = ap (λ x. der.factor (der.name (bare.name n) x) (blank f)) (path_blank p none)
  operand_blank (Expr.Call n es) f = ap (λ x. der.factor (der.name (bare.name n) (der.word (Sign Opens) x)) (blank f)) (exprs_blank es (der.word (Sign Closes) none))
  operand_blank (Expr.Invoke n m es) f =
      ap (λ x. der.factor (der.name (bare.name n) (der.word (Sign Dollar) (der.name (bare.name m) (der.word (Sign Opens) x)))) (blank f)) (exprs_blank es (der.word (Sign Closes) none))

  links_blank : (ls : Links) → blank (der.links ls) ≡ der.links (bare.links ls)
  links_blank syn.no_link = refl
  links_blank (syn.link op e ls) = ap (λ x. der.word (operator_token op) x) (on (der.operand (bare.expr e)) (operand_blank e (der.links ls)) (links_blank ls))

  step_blank : (s : Step) (f : Forest) → blank (der.step s f) ≡ der.step (bare.step s) (blank f)
  step_blank (syn.Field at n) f = refl
  step_blank (syn.Index at e) f = ap (λ x. der.word_at nowhere (Sign OpensIndex) (der.whole x (der.word (Sign ClosesIndex) (blank f)))) (operand_blank e none)

  path_blank : (p : Path) (f : Forest) → blank (der.path p f) ≡ der.path (bare.path p) (blank f)
  path_blank syn.here f = refl
  path_blank (syn.to s p) f = on (der.step (bare.step s)) (step_blank s (der.path p f)) (path_blank p f)

  exprs_blank : (es : Exprs) (f : Forest) → blank (der.exprs es f) ≡ der.exprs (bare.exprs es) (blank f)
  exprs_blank syn.no_expr f = refl
  exprs_blank (syn.expr e es) f = ap (λ x. der.whole x (blank (der.more_exprs es f))) (operand_blank e none) ∙ ap (λ x. der.value (bare.expr e) x) (more_blank es f)

  more_blank : (es : Exprs) (f : Forest) → blank (der.more_exprs es f) ≡ der.more_exprs (bare.exprs es) (blank f)
  more_blank syn.no_expr f = refl
  more_blank (syn.expr e es) f =
      ap (λ x. der.word (Sign Comma) (der.whole x (blank (der.more_exprs es f)))) (operand_blank e none) ∙ ap (λ x. der.word (Sign Comma) (der.value (bare.expr e) x)) (more_blank es f)

value_blank : (e : Expr) (f : Forest) → blank (der.value e f) ≡ der.value (bare.expr e) (blank f)
value_blank e f = ap (λ x. der.whole x (blank f)) (operand_blank e none)

-- ---- lists

each_blank : {X : Type 0} (put : X → Forest → Forest) (view : X → X) → ((x : X) (f : Forest) → blank (put x f) ≡ put (view x) (blank f)) → (xs : List X) (f : Forest) → blank (der.each put xs f) ≡ der.each put (map view xs) (blank f)
each_blank put view same [] f = refl
each_blank put view same (x ∷ xs) f = on (put (view x)) (same x (der.each put xs f)) (each_blank put view same xs f)

separated_blank : {X : Type 0} (k : TokenKind) (put : X → Forest → Forest) (view : X → X) → ((x : X) (f : Forest) → blank (put x f) ≡ put (view x) (blank f)) → (xs : List X) (f : Forest)
    → blank (der.separated k put xs f) ≡ der.separated k put (map view xs) (blank f)
separated_blank k put view same [] f = refl
separated_blank k put view same (x ∷ xs) f =
    on (put (view x)) (same x (der.each (λ y g. der.word k (put y g)) xs f)) (each_blank (λ y g. der.word k (put y g)) view (λ y g. ap (λ z. der.word k z) (same y g)) xs f)

any_blank : {X : Type 0} (put : X → Forest → Forest) (view : X → X) → ((x : X) (f : Forest) → blank (put x f) ≡ put (view x) (blank f)) → (o : Option X) (f : Forest) → blank (der.if_any put o f) ≡ der.if_any put (option_map view o) (blank f)
any_blank put view same None f = refl
any_blank put view same (Some x) f = same x f

-- ---- types

bound_blank : (b : Bound) (f : Forest) → blank (der.bound b f) ≡ der.bound (bare.bound b) (blank f)
bound_blank (bounds.Number at v) f = refl
bound_blank (bounds.Negative at v) f = refl
bound_blank (bounds.Named n) f = refl

inside_blank : (k : Kind) → blank (der.type_inside k) ≡ der.type_inside (bare.kind k)
inside_blank (syn.Integer at) = refl
inside_blank (syn.Boolean at) = refl
inside_blank (syn.Character at) = refl
inside_blank (syn.String at) = refl
inside_blank (syn.Named n) = refl
inside_blank (syn.Array at low high k) =
    let of_element = der.word (Sign ClosesIndex) (der.word (Key KeyOf) (der.type_phrase k none)) in
    ap (λ x. der.word_at nowhere (Key KeyArray) (der.word (Sign OpensIndex) x))
    (on (λ x. der.bound (bare.bound low) (der.word (Sign RangeSign) x)) (bound_blank low (der.word (Sign RangeSign) (der.bound high of_element)))
    (on (λ x. der.bound (bare.bound high) (der.word (Sign ClosesIndex) (der.word (Key KeyOf) (group (Phrase TypeNest) x none)))) (bound_blank high of_element) (inside_blank k)))
inside_blank (syn.Set at k) = ap (λ x. der.word_at nowhere (Key KeySet) (der.word (Key KeyOf) (group (Phrase TypeNest) x none))) (inside_blank k)
inside_blank (syn.Bag at k) = ap (λ x. der.word_at nowhere (Key KeyBag) (der.word (Key KeyOf) (group (Phrase TypeNest) x none))) (inside_blank k)

type_blank : (k : Kind) (f : Forest) → blank (der.type_phrase k f) ≡ der.type_phrase (bare.kind k) (blank f)
type_blank k f = ap (λ x. group (Phrase TypeNest) x (blank f)) (inside_blank k)

-- ---- statements

on_blank : (o : Option Expr) (f : Forest) → blank (der.if_any der.on_value o f) ≡ der.if_any der.on_value (option_map bare.expr o) (blank f)
on_blank o f = any_blank der.on_value bare.expr (λ e g. ap (λ x. der.word (Key KeyOn) x) (value_blank e g)) o f

enclosed_blank : (es : Exprs) (f : Forest) → blank (der.enclosed es f) ≡ der.enclosed (bare.exprs es) (blank f)
enclosed_blank es f = ap (λ x. der.word (Sign Opens) x) (exprs_blank es (der.word (Sign Closes) f))

pair_blank : (e : Expr) (n : Name) (p : Path) → blank (der.pair e n p) ≡ der.pair (bare.expr e) (bare.name n) (bare.path p)
pair_blank e n p =
    let last = der.word (Sign Closes) none in
    ap (λ x. der.word (Sign Opens) x)
    (on (λ x. der.value (bare.expr e) (der.word (Sign Comma) (der.name (bare.name n) x))) (value_blank e (der.word (Sign Comma) (der.name n (der.path p last)))) (path_blank p last))

mutual
  inner_blank : (s : Stmt) → blank (der.stmt_inside s) ≡ der.stmt_inside (bare.stmt s)
  inner_blank (syn.Return at v) = ap (λ x. der.word_at nowhere (Key KeyReturn) x) (any_blank der.value bare.expr value_blank v none)
  inner_blank (syn.If at as_) = ap (λ x. der.word_at nowhere (Key KeyIf) x) (arms_blank as_ (der.word (Key KeyFi) none))
  inner_blank (syn.While at test ss) =
      let last = der.word (Key KeyOd) none in
      ap (λ x. der.word_at nowhere (Key KeyWhile) x) (on (λ x. der.value (bare.expr test) (der.word (Key KeyDo) x)) (value_blank test (der.word (Key KeyDo) (der.stmts ss last))) (stmts_blank ss last))
  inner_blank (syn.For at n low high ss) =
      let last = der.word (Key KeyOd) none in
      let does_body = der.word (Key KeyDo) (der.stmts ss last) in
      ap (λ x. der.word_at nowhere (Key KeyFor) (der.name (bare.name n) (der.word (Key KeyIn) x)))
      (on (λ x. der.value (bare.expr low) (der.word (Sign RangeSign) x)) (value_blank low (der.word (Sign RangeSign) (der.value high does_body)))
      (on (λ x. der.value (bare.expr high) (der.word (Key KeyDo) x)) (value_blank high does_body) (stmts_blank ss last)))
  inner_blank (syn.Repeat at ss test) =
      ap (λ x. der.word_at nowhere (Key KeyRepeat) x)
      (on (λ x. der.stmts (bare.stmts ss) (der.word (Key KeyUntil) x)) (stmts_blank ss (der.word (Key KeyUntil) (der.value test none))) (value_blank test none))
  inner_blank (syn.Fork at n es o) =
      ap (λ x. der.word_at nowhere (Key KeyFork) (der.name (bare.name n) x)) (on (der.enclosed (bare.exprs es)) (enclosed_blank es (der.if_any der.on_value o none)) (on_blank o none))
  inner_blank (syn.WriteLine at es) = ap (λ x. der.word_at nowhere (Key KeyWriteLine) x) (enclosed_blank es none)
  inner_blank (syn.Insert at e n p) = ap (λ x. der.word_at nowhere (Key KeyInsert) x) (pair_blank e n p)
  inner_blank (syn.Delete at e n p) = ap (λ x. der.word_at nowhere (Key KeyDelete) x) (pair_blank e n p)
  inner_blank (syn.Assign n p e) =
      ap (λ x. der.name (bare.name n) x) (on (λ x. der.path (bare.path p) (der.word (Sign Becomes) x)) (path_blank p (der.word (Sign Becomes) (der.value e none))) (value_blank e none))
  inner_blank (Stmt.Call n es) = ap (λ x. der.name (bare.name n) x) (enclosed_blank es none)
  inner_blank (Stmt.Invoke n m es) = ap (λ x. der.name (bare.name n) (der.word (Sign Dollar) (der.name (bare.name m) x))) (enclosed_blank es none)

  stmts_blank : (ss : Stmts) (f : Forest) → blank (der.stmts ss f) ≡ der.stmts (bare.stmts ss) (blank f)
  stmts_blank syn.no_stmt f = refl
  stmts_blank (syn.stmt s ss) f =
      ap (λ x. group (Phrase StatementPhrase) x (der.word (Sign Semicolon) (blank (der.stmts ss f)))) (inner_blank s)
      ∙ ap (λ x. group (Phrase StatementPhrase) (der.stmt_inside (bare.stmt s)) (der.word (Sign Semicolon) x)) (stmts_blank ss f)

  arms_blank : (as_ : Arms) (f : Forest) → blank (der.arms as_ f) ≡ der.arms (bare.arms as_) (blank f)
  arms_blank syn.no_arm f = refl
  arms_blank (syn.arm a as_) f = on (der.arm (bare.arm a)) (arm_blank a (der.more_arms as_ f)) (more_arms_blank as_ f)

  more_arms_blank : (as_ : Arms) (f : Forest) → blank (der.more_arms as_ f) ≡ der.more_arms (bare.arms as_) (blank f)
  more_arms_blank syn.no_arm f = refl
  more_arms_blank (syn.arm (syn.When e ss) as_) f =
      ap (λ x. der.word (Key KeyElsif) x) (on (der.arm (bare.arm (syn.When e ss))) (arm_blank (syn.When e ss) (der.more_arms as_ f)) (more_arms_blank as_ f))
  more_arms_blank (syn.arm (syn.Otherwise ss) as_) f = ap (λ x. der.word (Key KeyElse) x) (on (der.stmts (bare.stmts ss)) (stmts_blank ss (der.more_arms as_ f)) (more_arms_blank as_ f))

  arm_blank : (a : Arm) (f : Forest) → blank (der.arm a f) ≡ der.arm (bare.arm a) (blank f)
  arm_blank (syn.When e ss) f = on (λ x. der.value (bare.expr e) (der.word (Key KeyThen) x)) (value_blank e (der.word (Key KeyThen) (der.stmts ss f))) (stmts_blank ss f)
  arm_blank (syn.Otherwise ss) f = stmts_blank ss f

-- ---- declarations

names_blank : (ns : List Name) (f : Forest) → blank (der.names ns f) ≡ der.names (map bare.name ns) (blank f)
names_blank ns f = separated_blank (Sign Comma) der.name bare.name (λ n g. refl) ns f

variables_blank : (v : Variables) (f : Forest) → blank (der.variables v f) ≡ der.variables (bare.variables v) (blank f)
variables_blank v f =
    let last = der.word (Sign Semicolon) f in
    on (λ x. der.names (map bare.name v.names) (der.word (Sign Colon) x)) (names_blank v.names (der.word (Sign Colon) (der.type_phrase v.kind last))) (type_blank v.kind last)

all_variables_blank : (vs : List Variables) (f : Forest) → blank (der.each der.variables vs f) ≡ der.each der.variables (map bare.variables vs) (blank f)
all_variables_blank vs f = each_blank der.variables bare.variables variables_blank vs f

typed_name_blank : (t : syn.TypedName) (f : Forest) → blank (der.typed_name t f) ≡ der.typed_name (bare.typed_name t) (blank f)
typed_name_blank t f = ap (λ x. der.name (bare.name t.name) (der.word (Sign Colon) x)) (type_blank t.kind f)

results_blank : (r : Option Kind) (f : Forest) → blank (der.if_any der.result r f) ≡ der.if_any der.result (option_map bare.kind r) (blank f)
results_blank r f = any_blank der.result bare.kind (λ k g. ap (λ x. der.word (Sign Colon) x) (type_blank k g)) r f

mode_blank : (m : Mode) (f : Forest) → blank (der.mode m f) ≡ der.mode m (blank f)
mode_blank modes.Value f = refl
mode_blank modes.Shared f = refl
mode_blank modes.Out f = refl

parameter_blank : (p : syn.Parameter) (f : Forest) → blank (der.parameter p f) ≡ der.parameter (bare.parameter p) (blank f)
parameter_blank p f = ap (λ x. der.name (bare.name p.name) (der.word (Sign Colon) x)) (on (der.mode p.mode) (mode_blank p.mode (der.type_phrase p.kind f)) (type_blank p.kind f))

head_blank : (h : syn.Head) (f : Forest) → blank (der.head h f) ≡ der.head (bare.head h) (blank f)
head_blank h f =
    let last = der.if_any der.result h.result f in
    ap (λ x. der.word_at nowhere (Key KeyOperation) (der.name (bare.name h.name) (der.word (Sign Opens) x)))
    (on (λ x. der.separated (Sign Semicolon) der.typed_name (map bare.typed_name h.parameters) (der.word (Sign Closes) x))
    (separated_blank (Sign Semicolon) der.typed_name bare.typed_name typed_name_blank h.parameters (der.word (Sign Closes) last)) (results_blank h.result f))

head_line_blank : (h : syn.Head) (f : Forest) → blank (der.head_line h f) ≡ der.head_line (bare.head h) (blank f)
head_line_blank h f = head_blank h (der.word (Sign Semicolon) f)

block_blank : (b : syn.Block) (f : Forest) → blank (der.block b f) ≡ der.block (bare.block b) (blank f)
block_blank b f =
    on (λ x. der.each der.variables (map bare.variables b.variables) (der.word (Key KeyBegin) x)) (all_variables_blank b.variables (der.word (Key KeyBegin) (der.stmts b.statements (der.ended f)))) (stmts_blank b.statements (der.ended f))

guard_blank : (g : syn.Guard) (f : Forest) → blank (der.guard g f) ≡ der.guard (bare.guard g) (blank f)
guard_blank g f =
    let last = der.word (Key KeyOd) (der.word (Sign Semicolon) f) in
    ap (λ x. der.word_at nowhere (Key KeyGuard) x) (on (λ x. der.value (bare.expr g.test) (der.word (Key KeyDo) x)) (value_blank g.test (der.word (Key KeyDo) (der.stmts g.body last))) (stmts_blank g.body last))

body_blank : (b : Body) (f : Forest) → blank (der.body b f) ≡ der.body (bare.body b) (blank f)
body_blank (syn.Guarded g gs) f = on (der.guard (bare.guard g)) (guard_blank g (der.each der.guard gs f)) (each_blank der.guard bare.guard guard_blank gs f)
body_blank (syn.Plain ss) f = stmts_blank ss f

operation_blank : (o : syn.Operation) (f : Forest) → blank (der.operation o f) ≡ der.operation (bare.operation o) (blank f)
operation_blank o f =
    let inside = der.body o.body (der.ended f) in
    on (der.head_line (bare.head o.head)) (head_line_blank o.head (der.each der.variables o.variables (der.word (Key KeyBegin) inside)))
    (on (λ x. der.each der.variables (map bare.variables o.variables) (der.word (Key KeyBegin) x)) (all_variables_blank o.variables (der.word (Key KeyBegin) inside)) (body_blank o.body (der.ended f)))

field_blank : (t : syn.TypedName) (f : Forest) → blank (der.field t f) ≡ der.field (bare.typed_name t) (blank f)
field_blank t f = typed_name_blank t (der.word (Sign Semicolon) f)

definition_blank : (d : Definition) (f : Forest) → blank (der.definition d f) ≡ der.definition (bare.definition d) (blank f)
definition_blank (syn.Record at ts) f = ap (λ x. der.word_at nowhere (Key KeyRecord) x) (each_blank der.field bare.typed_name field_blank ts (der.word (Key KeyEnd) f))
definition_blank (syn.Enumeration at ns) f = ap (λ x. der.word_at nowhere (Key KeyEnum) (der.word (Sign Opens) x)) (names_blank ns (der.word (Sign Closes) f))
definition_blank (syn.Alias k) f = type_blank k f

called_blank : (n : Name) (ps : List syn.Parameter) (f : Forest) → blank (der.called n ps f) ≡ der.called (bare.name n) (map bare.parameter ps) (blank f)
called_blank n ps f = ap (λ x. der.name (bare.name n) (der.word (Sign Opens) x)) (separated_blank (Sign Semicolon) der.parameter bare.parameter parameter_blank ps (der.word (Sign Closes) f))

decl_blank : (d : Decl) (f : Forest) → blank (der.decl d f) ≡ der.decl (bare.decl d) (blank f)
decl_blank (syn.Constant at n b) f = ap (λ x. der.word_at nowhere (Key KeyConst) (der.name (bare.name n) (der.word (Sign Equals) x))) (bound_blank b (der.word (Sign Semicolon) f))
decl_blank (syn.Declares at n d) f = ap (λ x. der.word_at nowhere (Key KeyType) (der.name (bare.name n) (der.word (Sign Equals) x))) (definition_blank d (der.word (Sign Semicolon) f))
decl_blank (syn.Specification at n hs) f =
    ap (λ x. der.word_at nowhere (Key KeyObject) (der.word (Key KeySpecification) (der.name (bare.name n) (der.word (Sign Semicolon) x)))) (each_blank der.head_line bare.head head_line_blank hs (der.ended f))
decl_blank (syn.Implementation at n vs os o) f =
    let opening = der.if_any der.opening o (der.ended f) in
    ap (λ x. der.word_at nowhere (Key KeyObject) (der.word (Key KeyImplementation) (der.name (bare.name n) (der.word (Sign Semicolon) x))))
    (on (der.each der.variables (map bare.variables vs)) (all_variables_blank vs (der.each der.operation os opening))
    (on (der.each der.operation (map bare.operation os)) (each_blank der.operation bare.operation operation_blank os opening)
    (any_blank der.opening bare.stmts (λ ss g. ap (λ x. der.word (Key KeyBegin) x) (stmts_blank ss g)) o (der.ended f))))
decl_blank (syn.Function at n ps r b) f =
    let rest = der.word (Sign Semicolon) (der.block b f) in
    ap (λ x. der.word_at nowhere (Key KeyFunction) x)
    (on (der.called (bare.name n) (map bare.parameter ps)) (called_blank n ps (der.if_any der.result r rest))
    (on (λ x. der.if_any der.result (option_map bare.kind r) (der.word (Sign Semicolon) x)) (results_blank r rest) (block_blank b f)))
decl_blank (syn.Process at n ps b) f =
    ap (λ x. der.word_at nowhere (Key KeyProcess) x)
    (on (λ x. der.called (bare.name n) (map bare.parameter ps) (der.word (Sign Semicolon) x)) (called_blank n ps (der.word (Sign Semicolon) (der.block b f))) (block_blank b f))

pub unit_blank : (s : Syntax) → blank (der.unit s) ≡ der.unit (bare.bare s)
unit_blank s =
    let decls = der.each der.decl s.declarations none in
    on (der.if_any der.module_line (option_map bare.name s.name)) (any_blank der.module_line bare.name (λ n g. refl) s.name (der.each der.import_line s.imports decls))
    (on (der.each der.import_line (map bare.name s.imports)) (each_blank der.import_line bare.name (λ n g. refl) s.imports decls) (each_blank der.decl bare.decl decl_blank s.declarations none))
