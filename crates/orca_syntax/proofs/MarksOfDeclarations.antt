-- The marks of declarations and of a unit are those of the syntax that it shows.
use Rattle.std.proofs.Common.{◌≡◌, List, [], ◌∷◌, ◌++◌, Option, Some, None, refl}
use Rattle.std.specs.Prelude.{map, option_map}
use Rattle.std.specs.List.{flat_map}
use Rattle.orca_lexer.specs.declared.token.Keyword.TheVariants.{KeyBegin, KeyDo, KeyEnd, KeyOd}
use Rattle.orca_lexer.specs.declared.token.Symbol.TheVariants.{Closes, Colon, Comma, Semicolon}
use Rattle.orca_lexer.specs.declared.token.TokenKind.{TokenKind}
use Rattle.orca_lexer.specs.declared.token.TokenKind.TheVariants.{Key, Sign}
use Rattle.orca_grammar.specs.Forms.{Mark}
use Rattle.orca_tree.specs.declared.tree.Name.{Name}
use Rattle.orca_tree.specs.declared.tree.Mode.{Mode}
use Rattle.orca_tree.specs.declared.tree.Mode.TheVariants as modes
use Rattle.orca_tree.specs.declared.tree.TypePhrase.{TypePhrase}
use Rattle.orca_tree.specs.declared.tree.Variables.{Variables}
use Rattle.orca_tree.specs.declared.tree.Parameter.{Parameter}
use Rattle.orca_tree.specs.declared.tree.Statement.{Statement}
use Rattle.orca_tree.specs.declared.tree.OperationBody.TheVariants.{Guarded, Plain}
use Rattle.orca_tree.specs.declared.tree.Definition.TheVariants.{Record, Enumeration, Alias}
use Rattle.orca_tree.specs.declared.tree.Declaration.TheVariants as declares
use Rattle.orca_tree.specs.declared.tree.Unit.{Unit as UnitTree}
use Rattle.orca_tree.specs.Marks as marks
use Rattle.orca_syntax.specs.Shown as shown
use Rattle.orca_syntax.specs.Shown.{expr, kind, stmts, syntax_of}
use Rattle.orca_syntax.specs.Forest.{Forest, none, flat}
use Rattle.orca_syntax.specs.Derivation as der
use Rattle.orca_syntax.proofs.MarksShown.{alone, in_front, in_turn}
use Rattle.orca_syntax.proofs.MarksOfStatements.{expression_shown, bound_shown, type_shown, stmt_shown}

-- the marks of each X are those of what it shows
abbrev pub Shows : {X Y : Type 0} → (X → List Mark) → (Y → Forest → Forest) → (X → Y) → Type 0
Shows {X = X} marks_of put view = (x : X) (f : Forest) → marks_of x ++ flat f ≡ flat (put (view x) f)

-- ---- lists

each_shown : {X Y : Type 0} (marks_of : X → List Mark) (put : Y → Forest → Forest) (view : X → Y) → Shows marks_of put view → (xs : List X) (f : Forest) → flat_map marks_of xs ++ flat f ≡ flat (der.each put (map view xs) f)
each_shown marks_of put view shows [] f = refl
each_shown marks_of put view shows (x ∷ xs) f =
    in_turn (marks_of x) (flat_map marks_of xs) (flat f) (each_shown marks_of put view shows xs f) (shows x (der.each put (map view xs) f))

separated_shown : {X Y : Type 0} (k : TokenKind) (marks_of : X → List Mark) (put : Y → Forest → Forest) (view : X → Y) → Shows marks_of put view → (xs : List X) (f : Forest)
    → marks.separated k marks_of xs ++ flat f ≡ flat (der.separated k put (map view xs) f)
separated_shown k marks_of put view shows [] f = refl
separated_shown k marks_of put view shows (x ∷ xs) f =
    in_turn (marks_of x) (flat_map (λ y. marks.word k ∷ marks_of y) xs) (flat f)
    (each_shown (λ y. marks.word k ∷ marks_of y) (λ y g. der.word k (put y g)) view (λ y g. in_front (marks.word k) _ _ (shows y g)) xs f)
    (shows x (der.each (λ y g. der.word k (put y g)) (map view xs) f))

any_shown : {X Y : Type 0} (marks_of : X → List Mark) (put : Y → Forest → Forest) (view : X → Y) → Shows marks_of put view → (o : Option X) (f : Forest)
    → marks.if_any marks_of o ++ flat f ≡ flat (der.if_any put (option_map view o) f)
any_shown marks_of put view shows None f = refl
any_shown marks_of put view shows (Some x) f = shows x f

more_names_shown : (ns : List Name) (f : Forest) → flat_map (λ n. marks.word (Sign Comma) ∷ marks.name_mark n ∷ []) ns ++ flat f ≡ flat (der.each (λ n g. der.word (Sign Comma) (der.name n g)) ns f)
more_names_shown [] f = refl
more_names_shown (n ∷ ns) f = in_front _ _ _ (in_front _ _ _ (more_names_shown ns f))

names_shown : (ns : List Name) (f : Forest) → marks.names ns ++ flat f ≡ flat (der.names ns f)
names_shown [] f = refl
names_shown (n ∷ ns) f = in_front _ _ _ (more_names_shown ns f)

imports_shown : (ns : List Name) (f : Forest) → flat_map marks.import_line ns ++ flat f ≡ flat (der.each der.import_line ns f)
imports_shown [] f = refl
imports_shown (n ∷ ns) f = in_front _ _ _ (in_front _ _ _ (in_front _ _ _ (imports_shown ns f)))

statements_shown : (ss : List Statement) (f : Forest) → marks.statements ss ++ flat f ≡ flat (der.stmts (stmts ss) f)
statements_shown [] f = refl
statements_shown (s ∷ ss) f =
    in_turn (marks.statement s ++ marks.word (Sign Semicolon) ∷ []) (marks.statements ss) (flat f) (statements_shown ss f)
    (in_turn (marks.statement s) (marks.word (Sign Semicolon) ∷ []) (flat (der.stmts (stmts ss) f)) refl (stmt_shown s (der.word (Sign Semicolon) (der.stmts (stmts ss) f))))

-- ---- parts of declarations

variables_shown : Shows marks.variables der.variables shown.variables
variables_shown v f =
    let last = der.word (Sign Semicolon) f in
    in_turn (marks.names v.names.items) (marks.word (Sign Colon) ∷ (marks.type_phrase v.kind ++ marks.word (Sign Semicolon) ∷ [])) (flat f)
    (in_front (marks.word (Sign Colon)) _ _ (in_turn (marks.type_phrase v.kind) (marks.word (Sign Semicolon) ∷ []) (flat f) refl (type_shown v.kind last)))
    (names_shown v.names.items (der.word (Sign Colon) (der.type_phrase (kind v.kind) last)))

all_variables_shown : (vs : List Variables) (f : Forest) → marks.all_variables vs ++ flat f ≡ flat (der.each der.variables (map shown.variables vs) f)
all_variables_shown vs f = each_shown marks.variables der.variables shown.variables variables_shown vs f

typed_name_shown : Shows marks.typed_name der.typed_name shown.typed_name
typed_name_shown t f = in_front _ _ _ (in_front _ _ _ (type_shown t.kind f))

field_shown : Shows (λ t. marks.typed_name t ++ marks.word (Sign Semicolon) ∷ []) der.field shown.typed_name
field_shown t f = in_turn (marks.typed_name t) (marks.word (Sign Semicolon) ∷ []) (flat f) refl (typed_name_shown t (der.word (Sign Semicolon) f))

result_shown : (r : Option TypePhrase) (f : Forest) → marks.result r ++ flat f ≡ flat (der.if_any der.result (option_map kind r) f)
result_shown r f = any_shown (λ t. marks.word (Sign Colon) ∷ marks.type_phrase t) der.result kind (λ t g. in_front (marks.word (Sign Colon)) _ _ (type_shown t g)) r f

mode_shown : (m : Mode) (f : Forest) → marks.mode m ++ flat f ≡ flat (der.mode m f)
mode_shown modes.Value f = refl
mode_shown modes.Shared f = refl
mode_shown modes.Out f = refl

parameter_shown : Shows marks.parameter der.parameter shown.parameter
parameter_shown p f =
    in_front _ _ _ (in_front _ _ _
    (in_turn (marks.mode p.mode) (marks.type_phrase p.kind) (flat f) (type_shown p.kind f) (mode_shown p.mode (der.type_phrase (kind p.kind) f))))

parameters_shown : (ps : List Parameter) (f : Forest) → marks.parameters ps ++ flat f ≡ flat (der.separated (Sign Semicolon) der.parameter (map shown.parameter ps) f)
parameters_shown ps f = separated_shown (Sign Semicolon) marks.parameter der.parameter shown.parameter parameter_shown ps f

pub head_shown : Shows marks.head der.head shown.head
head_shown h f =
    in_front _ _ _ (in_front _ _ _ (in_front _ _ _
    (in_turn (marks.typed_names h.parameters.items) (marks.word (Sign Closes) ∷ marks.result h.result) (flat f) (in_front (marks.word (Sign Closes)) _ _ (result_shown h.result f))
    (separated_shown (Sign Semicolon) marks.typed_name der.typed_name shown.typed_name typed_name_shown h.parameters.items (der.word (Sign Closes) (der.if_any der.result (option_map kind h.result) f))))))

head_line_shown : Shows (λ h. marks.head h ++ marks.word (Sign Semicolon) ∷ []) der.head_line shown.head
head_line_shown h f = in_turn (marks.head h) (marks.word (Sign Semicolon) ∷ []) (flat f) refl (head_shown h (der.word (Sign Semicolon) f))

-- what ends with `end ;`
ended_shown : (ms : List Mark) {z : List Mark} (f : Forest) → ms ++ flat (der.ended f) ≡ z → marks.ended ms ++ flat f ≡ z
ended_shown ms f first = in_turn ms (marks.word (Key KeyEnd) ∷ marks.word (Sign Semicolon) ∷ []) (flat f) refl first

block_shown : Shows marks.block der.block shown.block
block_shown b f =
    in_turn (marks.all_variables b.variables.items) (marks.word (Key KeyBegin) ∷ marks.ended (marks.statements b.statements.items)) (flat f)
    (in_front (marks.word (Key KeyBegin)) _ _ (ended_shown (marks.statements b.statements.items) f (statements_shown b.statements.items (der.ended f))))
    (all_variables_shown b.variables.items (der.word (Key KeyBegin) (der.stmts (stmts b.statements.items) (der.ended f))))

pub guard_shown : Shows marks.guard der.guard shown.guard
guard_shown g f =
    let last = der.word (Key KeyOd) (der.word (Sign Semicolon) f) in
    in_front _ _ _
    (in_turn (marks.expression g.test) (marks.word (Key KeyDo) ∷ (marks.statements g.body.items ++ marks.word (Key KeyOd) ∷ marks.word (Sign Semicolon) ∷ [])) (flat f)
    (in_front (marks.word (Key KeyDo)) _ _
    (in_turn (marks.statements g.body.items) (marks.word (Key KeyOd) ∷ marks.word (Sign Semicolon) ∷ []) (flat f) refl (statements_shown g.body.items last)))
    (expression_shown g.test (der.word (Key KeyDo) (der.stmts (stmts g.body.items) last))))

body_shown : Shows marks.operation_body der.body shown.body
body_shown (Guarded first others) f =
    in_turn (marks.guard first) (flat_map marks.guard others.items) (flat f) (each_shown marks.guard der.guard shown.guard guard_shown others.items f)
    (guard_shown first (der.each der.guard (map shown.guard others.items) f))
body_shown (Plain ss) f = statements_shown ss.items f

pub operation_shown : Shows marks.operation der.operation shown.operation
operation_shown o f =
    let inside = der.body (shown.body o.body) (der.ended f) in
    let rest = der.each der.variables (map shown.variables o.variables.items) (der.word (Key KeyBegin) inside) in
    in_turn (marks.head o.head) (marks.word (Sign Semicolon) ∷ (marks.all_variables o.variables.items ++ marks.word (Key KeyBegin) ∷ marks.ended (marks.operation_body o.body))) (flat f)
    (in_front (marks.word (Sign Semicolon)) _ _
    (in_turn (marks.all_variables o.variables.items) (marks.word (Key KeyBegin) ∷ marks.ended (marks.operation_body o.body)) (flat f)
    (in_front (marks.word (Key KeyBegin)) _ _ (ended_shown (marks.operation_body o.body) f (body_shown o.body (der.ended f))))
    (all_variables_shown o.variables.items (der.word (Key KeyBegin) inside))))
    (head_shown o.head (der.word (Sign Semicolon) rest))

pub definition_shown : Shows marks.definition der.definition shown.definition
definition_shown (Record at fields) f =
    in_front _ _ _
    (in_turn (flat_map (λ t. marks.typed_name t ++ marks.word (Sign Semicolon) ∷ []) fields.items) (marks.word (Key KeyEnd) ∷ []) (flat f) refl
    (each_shown (λ t. marks.typed_name t ++ marks.word (Sign Semicolon) ∷ []) der.field shown.typed_name field_shown fields.items (der.word (Key KeyEnd) f)))
definition_shown (Enumeration at ns) f =
    in_front _ _ _ (in_front _ _ _ (in_turn (marks.names ns.items) (marks.word (Sign Closes) ∷ []) (flat f) refl (names_shown ns.items (der.word (Sign Closes) f))))
definition_shown (Alias t) f = type_shown t f

-- ---- declarations

pub decl_shown : Shows marks.declaration der.decl shown.decl
decl_shown (declares.Constant at n b) f =
    in_front _ _ _ (in_front _ _ _ (in_front _ _ _ (in_turn (marks.bound b) (marks.word (Sign Semicolon) ∷ []) (flat f) refl (bound_shown b (der.word (Sign Semicolon) f)))))
decl_shown (declares.Type at n d) f =
    in_front _ _ _ (in_front _ _ _ (in_front _ _ _
    (in_turn (marks.definition d) (marks.word (Sign Semicolon) ∷ []) (flat f) refl (definition_shown d (der.word (Sign Semicolon) f)))))
decl_shown (declares.Specification at n hs) f =
    in_front _ _ _ (in_front _ _ _ (in_front _ _ _ (in_front _ _ _
    (ended_shown (marks.heads hs.items) f
    (each_shown (λ h. marks.head h ++ marks.word (Sign Semicolon) ∷ []) der.head_line shown.head head_line_shown hs.items (der.ended f))))))
decl_shown (declares.Implementation at n vs os begins) f =
    let opening_marks = marks.if_any (λ ss. marks.opening ss.items) begins in
    let opening = der.if_any der.opening (option_map (λ ss. stmts ss.items) begins) (der.ended f) in
    let operations = der.each der.operation (map shown.operation os.items) opening in
    in_front _ _ _ (in_front _ _ _ (in_front _ _ _ (in_front _ _ _
    (ended_shown (marks.all_variables vs.items ++ (flat_map marks.operation os.items ++ opening_marks)) f
    (in_turn (marks.all_variables vs.items) (flat_map marks.operation os.items ++ opening_marks) (flat (der.ended f))
    (in_turn (flat_map marks.operation os.items) opening_marks (flat (der.ended f))
    (any_shown (λ ss. marks.opening ss.items) der.opening (λ ss. stmts ss.items) (λ ss g. in_front (marks.word (Key KeyBegin)) _ _ (statements_shown ss.items g)) begins (der.ended f))
    (each_shown marks.operation der.operation shown.operation operation_shown os.items opening))
    (all_variables_shown vs.items operations))))))
decl_shown (declares.Function at n ps r b) f =
    let rest = der.word (Sign Semicolon) (der.block (shown.block b) f) in
    in_front _ _ _ (in_front _ _ _ (in_front _ _ _
    (in_turn (marks.parameters ps.items) (marks.word (Sign Closes) ∷ (marks.result r ++ marks.word (Sign Semicolon) ∷ marks.block b)) (flat f)
    (in_front (marks.word (Sign Closes)) _ _
    (in_turn (marks.result r) (marks.word (Sign Semicolon) ∷ marks.block b) (flat f) (in_front (marks.word (Sign Semicolon)) _ _ (block_shown b f)) (result_shown r rest)))
    (parameters_shown ps.items (der.word (Sign Closes) (der.if_any der.result (option_map kind r) rest))))))
decl_shown (declares.Process at n ps b) f =
    in_front _ _ _ (in_front _ _ _ (in_front _ _ _
    (in_turn (marks.parameters ps.items) (marks.word (Sign Closes) ∷ marks.word (Sign Semicolon) ∷ marks.block b) (flat f)
    (in_front (marks.word (Sign Closes)) _ _ (in_front (marks.word (Sign Semicolon)) _ _ (block_shown b f)))
    (parameters_shown ps.items (der.word (Sign Closes) (der.word (Sign Semicolon) (der.block (shown.block b) f)))))))

module_shown : (o : Option Name) (f : Forest) → marks.module_line o ++ flat f ≡ flat (der.if_any der.module_line o f)
module_shown None f = refl
module_shown (Some n) f = refl

-- the marks of a whole text
pub unit_shown : (u : UnitTree) → marks.unit u ≡ der.syntax_marks (syntax_of u)
unit_shown u =
    let decls = der.each der.decl (map shown.decl u.declarations.items) none in
    alone (marks.unit u) _
    (in_turn (marks.module_line u.module) (flat_map marks.import_line u.imports.items ++ flat_map marks.declaration u.declarations.items) []
    (in_turn (flat_map marks.import_line u.imports.items) (flat_map marks.declaration u.declarations.items) []
    (each_shown marks.declaration der.decl shown.decl decl_shown u.declarations.items none) (imports_shown u.imports.items decls))
    (module_shown u.module (der.each der.import_line u.imports.items decls)))
