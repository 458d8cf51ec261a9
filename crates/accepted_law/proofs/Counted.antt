-- What the limit of tokens and declared names says of an enumeration's names and of an object type's fields.
use Rattle.std.proofs.Common.{◌≤◌, ◌<◌, ◌+◌, ◌*◌, ◌^◌, refl, ap, ◌∙◌, subst, arith, length-append}
use Rattle.std.specs.Prelude.{◌≡◌, ℕ, zero, suc, Bool, true, false, if◌then◌else◌, bytes_eq, List, [], ◌∷◌, length, flat_map, slice_get, Option, Some, None}
use Rattle.std.specs.List.{AllByRecursion, sum_by}
use Rattle.std.specs.Option.{option_map_or}
use Rattle.std.proofs.lemmas.List.{length-map}
use Rattle.std.proofs.lemmas.List.Sums.{sum_by-cons}
use Rattle.orca_lexer.specs.declared.token.Keyword.TheVariants.{KeyBegin, KeyDo, KeyEnd, KeyOd}
use Rattle.orca_lexer.specs.declared.token.Symbol.TheVariants.{Closes, Comma, Colon, Semicolon}
use Rattle.orca_lexer.specs.declared.token.TokenKind.{TokenKind}
use Rattle.orca_lexer.specs.declared.token.TokenKind.TheVariants.{Key, Sign}
use Rattle.orca_grammar.specs.Forms.{Statement as StatementPhrase, Expression as ExpressionPhrase, Phrase, End, spelled}
use Rattle.orca_grammar.proofs.Placed.{spelled_append}
use Rattle.orca_tree.specs.declared.tree.Bound.TheVariants as bounds
use Rattle.orca_tree.specs.declared.tree.Mode.{Mode}
use Rattle.orca_tree.specs.declared.tree.Mode.TheVariants as modes
use Rattle.orca_tree.specs.declared.tree.Name.{Name}
use Rattle.orca_syntax.specs.Derivation as der
use Rattle.orca_syntax.specs.Forest.{Forest, none, group, flat}
use Rattle.orca_syntax.specs.Syntax as syn
use Rattle.orca_syntax.specs.Syntax.{Kind, Stmts, Parameter, Variables, TypedName, Head, Guard, Body, Operation, Block, Definition, Decl, Syntax}
use Rattle.link_rules.specs.Declarations.{declarations, declarations_of}
use Rattle.link_rules.specs.Units.{Source, module_name, values_of}
use Rattle.type_rules.specs.declared.names.LocalRole.{LocalRole}
use Rattle.type_rules.specs.declared.types.Base.TheVariants as base
use Rattle.type_rules.specs.declared.types.Layer.TheVariants as layer
use Rattle.type_rules.specs.declared.types.Measured.{Measured}
use Rattle.type_rules.specs.Types as types
use Rattle.type_rules.specs.Types.{Outside}
use Rattle.type_rules.specs.Rules.{Found}
use Rattle.type_rules.specs.TopLevel.{What, TopName, name_in, names_in, top_names, unit_names, values_at, values_in, what_in}
use Rattle.type_rules.specs.Scopes.{Local, locals_of, type_of, variable_names}
use Rattle.meaning_rules.specs.Programs.{ObjectType, implementation, implements}
use Rattle.meaning_rules.specs.Statements as named
use Rattle.meaning_rules.specs.Statements.{names_at}
use Rattle.meaning_rules.proofs.Judged.{all_at}
use Rattle.meaning_rules.proofs.Orderly.{all_both, all_flat, all_map, units}
use Rattle.accepted_law.specs.Limits.{IsWithinLimits, declared_count, names_declared, words_in}
use Rattle.accepted_law.proofs.Lists.{same_some}
use Rattle.accepted_law.proofs.Operations.{made_from}

-- ---- how many tokens a forest has

abbrev pub tokens : Forest → ℕ
tokens f = length (spelled (flat f))

pub grouped : (g f : Forest) (b : _) → tokens (group b g f) ≡ tokens g + tokens f
grouped g f b = ap length (spelled_append (flat g) (End b ∷ flat f)) ∙ length-append (spelled (flat g)) (spelled (flat f))

-- a phrase takes no token from what stands behind it
abbrev pub Grows : {X : Type 0} → (X → Forest → Forest) → Type 0
Grows {X = X} put = (x : X) (f : Forest) → tokens f ≤ tokens (put x f)

grown : (a b c : ℕ) → a ≤ b → b ≤ c → a ≤ c
grown a b c one two = omega (arith, one, two)

longer : (a b : ℕ) → a ≤ b → a ≤ suc b
longer a b le = omega (arith, le)

pub behind_group : (b : _) (g f : Forest) → tokens f ≤ tokens (group b g f)
behind_group b g f = let e = grouped g f b in omega (arith, e)

pub each_grows : {X : Type 0} (put : X → Forest → Forest) → Grows put → (xs : List X) (f : Forest) → tokens f ≤ tokens (der.each put xs f)
each_grows put grows [] f = omega arith
each_grows put grows (x ∷ xs) f = grown (tokens f) (tokens (der.each put xs f)) (tokens (put x (der.each put xs f))) (each_grows put grows xs f) (grows x (der.each put xs f))

pub separated_grows : {X : Type 0} (k : TokenKind) (put : X → Forest → Forest) → Grows put → (xs : List X) (f : Forest) → tokens f ≤ tokens (der.separated k put xs f)
separated_grows k put grows [] f = omega arith
separated_grows {X} k put grows (x ∷ xs) f =
    let led : X → Forest → Forest = λ y g. der.word k (put y g) in
    grown (tokens f) (tokens (der.each led xs f)) (tokens (put x (der.each led xs f)))
    (each_grows led (λ y g. longer (tokens g) (tokens (put y g)) (grows y g)) xs f) (grows x (der.each led xs f))

pub any_grows : {X : Type 0} (put : X → Forest → Forest) → Grows put → (o : Option X) (f : Forest) → tokens f ≤ tokens (der.if_any put o f)
any_grows put grows None f = omega arith
any_grows put grows (Some x) f = grows x f

name_grows : Grows der.name
name_grows n f = omega arith

pub type_grows : Grows der.type_phrase
type_grows k f = behind_group _ (der.type_inside k) f

pub stmts_grow : (ss : Stmts) (f : Forest) → tokens f ≤ tokens (der.stmts ss f)
stmts_grow syn.no_stmt f = omega arith
stmts_grow (syn.stmt s ss) f =
    let rest = stmts_grow ss f in
    let own = behind_group (Phrase StatementPhrase) (der.stmt_inside s) (der.word (Sign Semicolon) (der.stmts ss f)) in
    omega (arith, rest, own)

names_grow : Grows der.names
names_grow ns f = separated_grows (Sign Comma) der.name name_grows ns f

pub variables_grow : Grows der.variables
variables_grow v f =
    let last = der.type_phrase v.kind (der.word (Sign Semicolon) f) in
    let one = type_grows v.kind (der.word (Sign Semicolon) f) in
    let two = names_grow v.names (der.word (Sign Colon) last) in
    omega (arith, one, two)

pub typed_name_grows : Grows der.typed_name
typed_name_grows t f = let one = type_grows t.kind f in omega (arith, one)

pub field_grows : Grows der.field
field_grows t f = let one = typed_name_grows t (der.word (Sign Semicolon) f) in omega (arith, one)

pub result_grows : Grows der.result
result_grows k f = let one = type_grows k f in omega (arith, one)

mode_grows : (m : Mode) (f : Forest) → tokens f ≤ tokens (der.mode m f)
mode_grows modes.Value f = omega arith
mode_grows modes.Shared f = omega arith
mode_grows modes.Out f = omega arith

pub parameter_grows : Grows der.parameter
parameter_grows p f =
    let one = type_grows p.kind f in
    let two = mode_grows p.mode (der.type_phrase p.kind f) in
    omega (arith, one, two)

head_grows : Grows der.head
head_grows h f =
    let last = der.if_any der.result h.result f in
    let one = any_grows der.result result_grows h.result f in
    let two = separated_grows (Sign Semicolon) der.typed_name typed_name_grows h.parameters (der.word (Sign Closes) last) in
    omega (arith, one, two)

pub head_line_grows : Grows der.head_line
head_line_grows h f = let one = head_grows h (der.word (Sign Semicolon) f) in omega (arith, one)

pub block_grows : Grows der.block
block_grows b f =
    let one = stmts_grow b.statements (der.ended f) in
    let two = each_grows der.variables variables_grow b.variables (der.word (Key KeyBegin) (der.stmts b.statements (der.ended f))) in
    omega (arith, one, two)

pub guard_grows : Grows der.guard
guard_grows g f =
    let last = der.word (Key KeyOd) (der.word (Sign Semicolon) f) in
    let one = stmts_grow g.body last in
    let two = behind_group (Phrase ExpressionPhrase) (der.operand g.test none) (der.word (Key KeyDo) (der.stmts g.body last)) in
    omega (arith, one, two)

body_grows : Grows der.body
body_grows (syn.Guarded g gs) f =
    let one = each_grows der.guard guard_grows gs f in
    let two = guard_grows g (der.each der.guard gs f) in
    omega (arith, one, two)
body_grows (syn.Plain ss) f = stmts_grow ss f

pub operation_grows : Grows der.operation
operation_grows o f =
    let last = der.word (Key KeyBegin) (der.body o.body (der.ended f)) in
    let one = body_grows o.body (der.ended f) in
    let two = each_grows der.variables variables_grow o.variables last in
    let three = head_line_grows o.head (der.each der.variables o.variables last) in
    omega (arith, one, two, three)

pub opening_grows : Grows der.opening
opening_grows ss f = let one = stmts_grow ss f in omega (arith, one)

pub bound_grows : Grows der.bound
bound_grows (bounds.Number at value) f = omega arith
bound_grows (bounds.Negative at value) f = omega arith
bound_grows (bounds.Named n) f = omega arith

pub definition_grows : Grows der.definition
definition_grows (syn.Record at ts) f = let one = each_grows der.field field_grows ts (der.word (Key KeyEnd) f) in omega (arith, one)
definition_grows (syn.Enumeration at ns) f = let one = names_grow ns (der.word (Sign Closes) f) in omega (arith, one)
definition_grows (syn.Alias k) f = type_grows k f

pub decl_grows : Grows der.decl
decl_grows (syn.Constant at n b) f = let one = bound_grows b (der.word (Sign Semicolon) f) in omega (arith, one)
decl_grows (syn.Declares at n d) f = let one = definition_grows d (der.word (Sign Semicolon) f) in omega (arith, one)
decl_grows (syn.Specification at n hs) f = let one = each_grows der.head_line head_line_grows hs (der.ended f) in omega (arith, one)
decl_grows (syn.Implementation at n vs os ss) f =
    let last = der.if_any der.opening ss (der.ended f) in
    let one = any_grows der.opening opening_grows ss (der.ended f) in
    let two = each_grows der.operation operation_grows os last in
    let three = each_grows der.variables variables_grow vs (der.each der.operation os last) in
    omega (arith, one, two, three)
decl_grows (syn.Function at n ps r b) f =
    let last = der.if_any der.result r (der.word (Sign Semicolon) (der.block b f)) in
    let one = block_grows b f in
    let two = any_grows der.result result_grows r (der.word (Sign Semicolon) (der.block b f)) in
    let three = separated_grows (Sign Semicolon) der.parameter parameter_grows ps (der.word (Sign Closes) last) in
    omega (arith, one, two, three)
decl_grows (syn.Process at n ps b) f =
    let last = der.word (Sign Semicolon) (der.block b f) in
    let one = block_grows b f in
    let three = separated_grows (Sign Semicolon) der.parameter parameter_grows ps (der.word (Sign Closes) last) in
    omega (arith, one, three)

-- ---- names take a token each

each_name : (ns : List Name) (f : Forest) → length ns ≤ tokens (der.each (λ n g. der.word (Sign Comma) (der.name n g)) ns f)
each_name [] f = omega arith
each_name (n ∷ ns) f = let rest = each_name ns f in omega (arith, rest)

names_count : (ns : List Name) (f : Forest) → length ns ≤ tokens (der.names ns f)
names_count [] f = omega arith
names_count (n ∷ ns) f = let rest = each_name ns f in omega (arith, rest)

values_count : (d : Decl) (f : Forest) → length (values_in d) ≤ tokens (der.decl d f)
values_count (syn.Declares at n (syn.Enumeration p ns)) f = let one = names_count ns (der.word (Sign Closes) (der.word (Sign Semicolon) f)) in omega (arith, one)
values_count (syn.Declares at n (syn.Record p ts)) f = omega arith
values_count (syn.Declares at n (syn.Alias k)) f = omega arith
values_count (syn.Constant at n b) f = omega arith
values_count (syn.Specification at n hs) f = omega arith
values_count (syn.Implementation at n vs os ss) f = omega arith
values_count (syn.Function at n ps r b) f = omega arith
values_count (syn.Process at n ps b) f = omega arith

values_declared : (d : Decl) → length (values_in d) ≤ names_declared d
values_declared (syn.Declares at n (syn.Enumeration p ns)) = omega arith
values_declared (syn.Declares at n (syn.Record p ts)) = omega arith
values_declared (syn.Declares at n (syn.Alias k)) = omega arith
values_declared (syn.Constant at n b) = omega arith
values_declared (syn.Specification at n hs) = omega arith
values_declared (syn.Implementation at n vs os ss) = omega arith
values_declared (syn.Function at n ps r b) = omega arith
values_declared (syn.Process at n ps b) = omega arith

-- of one declaration among these
decls_count : (ds : List Decl) → AllByRecursion (λ d. (length (values_in d) ≤ tokens (der.each der.decl ds none)) × (names_declared d ≤ sum_by names_declared ds)) ds
decls_count [] = tt
decls_count (d ∷ ds) =
    let rest = der.each der.decl ds none in
    let own = values_count d rest in
    let more = decl_grows d rest in
    let sum = sum_by-cons names_declared d ds in (
      (own, omega (arith, sum)),
      all_both (λ e. (length (values_in e) ≤ tokens rest) × (names_declared e ≤ sum_by names_declared ds)) (λ e. Unit {0})
          (λ e. (length (values_in e) ≤ tokens (der.decl d rest)) × (names_declared e ≤ sum_by names_declared (d ∷ ds))) ds
          (λ e h unit. let a = h.0 in let b = h.1 in (omega (arith, a, more), omega (arith, b, sum))) (decls_count ds) (units ds),
    )

-- ---- within so many words

module _ (K : ℕ) where
  abbrev IsSmall : Decl → Type 0
  IsSmall d = (2 * length (values_in d) ≤ K) × (names_declared d ≤ K)

  unit_small : (u : Source) → words_in u ≤ K → AllByRecursion IsSmall u.syntax.declarations
  unit_small u less =
      let s = u.syntax in
      let rest = der.each der.decl s.declarations none in
      let imports = each_grows der.import_line (λ n f. omega arith) s.imports rest in
      let module_ = any_grows der.module_line (λ n f. omega arith) s.name (der.each der.import_line s.imports rest) in
      all_both (λ d. (length (values_in d) ≤ tokens rest) × (names_declared d ≤ declared_count s)) (λ d. Unit {0}) IsSmall s.declarations
      (λ d h unit. let a = h.0 in let b = h.1 in let c = values_declared d in (omega (arith, a, b, c, imports, module_, less), omega (arith, b, less))) (decls_count s.declarations) (units s.declarations)

  -- ---- the names of enumerations

  abbrev HasFew : What → Type 0
  HasFew w = 2 * length (named.names_in w) ≤ K

  what_few : (d : Decl) → IsSmall d → HasFew (what_in d)
  what_few (syn.Declares at n of) small = let l = length-map (values_of of) (λ m. m.text) in let s = small.0 in omega (arith, l, s)
  what_few (syn.Constant at n b) small = omega arith
  what_few (syn.Specification at n hs) small = omega arith
  what_few (syn.Implementation at n vs os ss) small = omega arith
  what_few (syn.Function at n ps r b) small = omega arith
  what_few (syn.Process at n ps b) small = omega arith

  values_few : (m file of : List ℕ) (number : ℕ) (ns : List Name) → AllByRecursion (λ t. HasFew t.what) (values_at m file of number ns)
  values_few m file of number [] = tt
  values_few m file of number (n ∷ ns) = (omega arith, values_few m file of (suc number) ns)

  module _ (us : List Source) (less : AllByRecursion (λ u. words_in u ≤ K) us) where
    tops_few : AllByRecursion (λ t. HasFew t.what) (top_names us)
    tops_few =
        all_flat (λ t. HasFew t.what) unit_names us
        (all_both (λ u. words_in u ≤ K) (λ u. Unit {0}) (λ u. AllByRecursion (λ t. HasFew t.what) (unit_names u)) us
        (λ u l unit. all_flat (λ t. HasFew t.what) (names_in (module_name u) u.file) u.syntax.declarations
        (all_both IsSmall (λ d. Unit {0}) (λ d. AllByRecursion (λ t. HasFew t.what) (names_in (module_name u) u.file d)) u.syntax.declarations
        (λ d small unit2. (what_few d small, values_few (module_name u) u.file (name_in d).text zero (values_in d))) (unit_small u l) (units u.syntax.declarations))) less (units us))

    decls_small : AllByRecursion (λ x. IsSmall x.decl) (declarations us)
    decls_small =
        all_flat (λ x. IsSmall x.decl) declarations_of us
        (all_both (λ u. words_in u ≤ K) (λ u. Unit {0}) (λ u. AllByRecursion (λ x. IsSmall x.decl) (declarations_of u)) us
        (λ u l unit. all_map (λ x. IsSmall x.decl) (λ d. record { by = module_name u; file = u.file; decl = d }) u.syntax.declarations (unit_small u l)) less (units us))

    names_few : (o : Outside) → 2 * length (names_at us o) ≤ K
    names_few (types.Bare (base.Enumeration i)) = by (slice_get (top_names us) i) refl
      where
        by : (x : Option TopName) → slice_get (top_names us) i ≡ x → 2 * length (option_map_or (λ t. named.names_in t.what) x []) ≤ K
        by None at = omega arith
        by (Some t) at = all_at (λ x. HasFew x.what) (top_names us) i t tops_few at
    names_few (types.Bare base.Integer) = omega arith
    names_few (types.Bare base.Boolean) = omega arith
    names_few (types.Bare base.Character) = omega arith
    names_few (types.Bare base.String) = omega arith
    names_few (types.Bare base.NodeName) = omega arith
    names_few (types.Bare (base.Record j)) = omega arith
    names_few (types.Bare (base.Object j)) = omega arith
    names_few (types.Within (layer.Array low high)) = omega arith
    names_few (types.Within layer.Set) = omega arith
    names_few (types.Within layer.Bag) = omega arith
    names_few (types.Within layer.Graph) = omega arith

    -- ---- the fields of object types

    fields_declared : (name m : List ℕ) (d : Decl) (t : ObjectType) → implements name m d ≡ Some t → length (variable_names t.fields) ≤ names_declared d
    fields_declared name m (syn.Implementation at n fields os opening) t is = by (bytes_eq n.text name) is (own opening)
      where
        T : ObjectType
        T = record { home = m; fields = fields; operations = os; begins = opening }

        own : (o : Option Stmts) → length (variable_names fields) ≤ names_declared (syn.Implementation at n fields os o)
        own None = omega arith
        own (Some ss) = omega arith

        by : (b : Bool) → (if b then Some T else None) ≡ Some t → length (variable_names fields) ≤ names_declared (syn.Implementation at n fields os opening) →
            length (variable_names t.fields) ≤ names_declared (syn.Implementation at n fields os opening)
        by true e small = subst (λ x. length (variable_names x.fields) ≤ names_declared (syn.Implementation at n fields os opening)) (same_some T t e) small
        by false e small = absurd cc
    fields_declared name m (syn.Constant at n value) t is = absurd cc
    fields_declared name m (syn.Declares at n of) t is = absurd cc
    fields_declared name m (syn.Specification at n heads) t is = absurd cc
    fields_declared name m (syn.Function at n ps r b) t is = absurd cc
    fields_declared name m (syn.Process at n ps b) t is = absurd cc

    fields_few : (name : List ℕ) (t : ObjectType) → implementation us name ≡ Some t → length (variable_names t.fields) ≤ K
    fields_few name t is =
        let m = made_from (λ x. implements name x.by x.decl) (declarations us) 0 t is in
        let small = (all_at (λ x. IsSmall x.decl) (declarations us) m.place.0 m.from decls_small m.place.1).1 in
        let own = fields_declared name m.from.by m.from.decl t m.made in
        omega (arith, small, own)

-- ---- within the limits

pub each_word : (us : List Source) → AllByRecursion (λ u. words_in u ≤ sum_by words_in us) us
each_word [] = tt
each_word (u ∷ us) =
    let sum = sum_by-cons words_in u us in (
      omega (arith, sum),
      all_both (λ v. words_in v ≤ sum_by words_in us) (λ v. Unit {0}) (λ v. words_in v ≤ sum_by words_in (u ∷ us)) us (λ v l unit. omega (arith, l, sum)) (each_word us) (units us),
    )

pub few_names : (us : List Source) → IsWithinLimits us → (o : Outside) → length (names_at us o) ≤ 2 ^ 16
few_names us limits o =
    let few = names_few (sum_by words_in us) us (each_word us) o in
    let l = limits.words in
    omega (arith, few, l)

pub locals_count : (role : LocalRole) (find : Kind → Found Measured) (vs : List Variables) → length (flat_map (locals_of role find) vs) ≡ length (variable_names vs)
locals_count role find [] = refl
locals_count role find (v ∷ vs) =
    let one = length-append (locals_of role find v) (flat_map (locals_of role find) vs) in
    let two = length-append v.names (variable_names vs) in
    let make : Name → Local = λ n. record { name = n.text; role = role; type = type_of (find v.kind) } in
    let three = length-map v.names make in
    let rest = locals_count role find vs in
    omega (arith, one, two, three, rest)

pub few_fields : (us : List Source) → IsWithinLimits us → (name : List ℕ) (t : ObjectType) → implementation us name ≡ Some t → (role : LocalRole) (find : Kind → Found Measured) →
    length (flat_map (locals_of role find) t.fields) < 2 ^ 32
few_fields us limits name t is role find =
    let few = fields_few (sum_by words_in us) us (each_word us) name t is in
    let l = limits.words in
    let count = locals_count role find t.fields in
    omega (arith, few, l, count)
