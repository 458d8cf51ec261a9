-- Within the limits a program's numbers fit their types.
use Rattle.std.proofs.Common.{◌≤◌, ◌<◌, ◌+◌, ◌*◌, ◌^◌, refl, ap, ◌∙◌, subst, arith, length-append}
use Rattle.std.specs.Prelude.{◌≡◌, ℕ, zero, suc, Bool, true, false, cond, if◌then◌else◌, bytes_eq, List, [], ◌∷◌, length, map, flat_map, filter, position, take, slice_get, unwrap_or, Option, Some, None, option_and_then}
use Rattle.std.specs.List.{AllByRecursion, sum_by}
use Rattle.std.specs.Option.{option_map_or}
use Rattle.std.proofs.lemmas.List.{length-map}
use Rattle.std.proofs.lemmas.List.Elements.{filter-append}
use Rattle.std.proofs.lemmas.List.Sums.{sum_by-cons}
use Rattle.std.proofs.lemmas.Option.{slice_get_within}
use Rattle.orca_base.specs.declared.ids.KindNo.{KindNo}
use Rattle.orca_lexer.specs.declared.token.Keyword.TheVariants.{KeyBegin, KeyDo, KeyEnd, KeyOd}
use Rattle.orca_lexer.specs.declared.token.Symbol.TheVariants.{Closes, Semicolon}
use Rattle.orca_lexer.specs.declared.token.TokenKind.TheVariants.{Key, Sign}
use Rattle.orca_grammar.specs.Forms.{Expression as ExpressionPhrase, Phrase}
use Rattle.orca_tree.specs.declared.tree.Name.{Name}
use Rattle.orca_syntax.specs.Derivation as der
use Rattle.orca_syntax.specs.Forest.{Forest, none}
use Rattle.orca_syntax.specs.Syntax as syn
use Rattle.orca_syntax.specs.Syntax.{Kind, Stmts, Parameter, Variables, Head, Guard, Body, Operation, Block, Definition, Decl}
use Rattle.link_rules.specs.Declarations.{declarations, declarations_of}
use Rattle.link_rules.specs.Units.{Source, module_name}
use Rattle.link_rules.specs.declared.role.Role.TheVariants.{Other}
use Rattle.type_rules.specs.declared.names.LocalRole.TheVariants.{Variable}
use Rattle.type_rules.specs.TopLevel as top
use Rattle.type_rules.specs.TopLevel.{What, TopName, bears, name_in, names_in, role_in, top_at, top_names, unit_names, values_at, values_in, what_in}
use Rattle.type_rules.specs.TypePhrases.{kind_found}
use Rattle.type_rules.specs.Scopes.{heads_in, locals_of, own_names, parameter_local, specification_of, variable_names, view_of}
use Rattle.meaning_rules.specs.Openings.{fields_in, fields_of_what, record_fields}
use Rattle.meaning_rules.specs.Programs.{ObjectType, implementation, implements, is_process, is_specification, kind_of, object_type, op_in, op_of, process_scope, process_texts, specifications, specified, text_of, type_at}
use Rattle.meaning_rules.proofs.Judged.{all_at}
use Rattle.meaning_rules.proofs.Orderly.{all_both, all_filter, all_flat, all_map, units}
use Rattle.accepted_law.specs.Limits.{IsWithinLimits, declared_count, names_declared, names_in_head, words_in}
use Rattle.accepted_law.specs.Numbers.{AreNumbers, guards_in}
use Rattle.accepted_law.proofs.Counted.{any_grows, behind_group, block_grows, bound_grows, definition_grows, parameter_grows, result_grows, separated_grows, type_grows, typed_name_grows, decl_grows, each_grows, each_word, head_line_grows, locals_count, opening_grows, operation_grows, stmts_grow, tokens, variables_grow}
use Rattle.accepted_law.proofs.Lists.{found_at, same_some}
use Rattle.accepted_law.proofs.Operations.{made_from}

-- ---- a phrase that takes a token at least, so many times

each_one : {X : Type 0} (put : X → Forest → Forest) → ((x : X) (f : Forest) → suc (tokens f) ≤ tokens (put x f)) → (xs : List X) (f : Forest) → length xs + tokens f ≤ tokens (der.each put xs f)
each_one put more [] f = omega arith
each_one put more (x ∷ xs) f = let rest = each_one put more xs f in let own = more x (der.each put xs f) in omega (arith, rest, own)

each_four : {X : Type 0} (put : X → Forest → Forest) → ((x : X) (f : Forest) → 4 + tokens f ≤ tokens (put x f)) → (xs : List X) (f : Forest) → 4 * length xs + tokens f ≤ tokens (der.each put xs f)
each_four put more [] f = omega arith
each_four put more (x ∷ xs) f = let rest = each_four put more xs f in let own = more x (der.each put xs f) in omega (arith, rest, own)

guard_four : (g : Guard) (f : Forest) → 4 + tokens f ≤ tokens (der.guard g f)
guard_four g f =
    let last = der.word (Key KeyOd) (der.word (Sign Semicolon) f) in
    let one = stmts_grow g.body last in
    let two = behind_group (Phrase ExpressionPhrase) (der.operand g.test none) (der.word (Key KeyDo) (der.stmts g.body last)) in
    omega (arith, one, two)

body_guards : (b : Body) (f : Forest) → 4 * guards_in b ≤ tokens (der.body b f)
body_guards (syn.Guarded g gs) f =
    let one = each_four der.guard guard_four gs f in
    let two = guard_four g (der.each der.guard gs f) in
    omega (arith, one, two)
body_guards (syn.Plain ss) f = omega arith

operation_guards : (o : Operation) (f : Forest) → 4 * guards_in o.body ≤ tokens (der.operation o f)
operation_guards o f =
    let last = der.word (Key KeyBegin) (der.body o.body (der.ended f)) in
    let one = body_guards o.body (der.ended f) in
    let two = each_grows der.variables variables_grow o.variables last in
    let three = head_line_grows o.head (der.each der.variables o.variables last) in
    omega (arith, one, two, three)

operations_guards : (os : List Operation) (f : Forest) → AllByRecursion (λ o. 4 * guards_in o.body ≤ tokens (der.each der.operation os f)) os
operations_guards [] f = tt
operations_guards (o ∷ os) f =
    let own = operation_guards o (der.each der.operation os f) in
    let more = operation_grows o (der.each der.operation os f) in (
      own,
      all_both (λ p. 4 * guards_in p.body ≤ tokens (der.each der.operation os f)) (λ p. Unit {0}) (λ p. 4 * guards_in p.body ≤ tokens (der.each der.operation (o ∷ os) f)) os
          (λ p h unit. omega (arith, h, more)) (operations_guards os f) (units os),
    )

decl_one : (d : Decl) (f : Forest) → suc (tokens f) ≤ tokens (der.decl d f)
decl_one (syn.Constant at n b) f = let one = bound_grows b (der.word (Sign Semicolon) f) in omega (arith, one)
decl_one (syn.Declares at n d) f = let one = definition_grows d (der.word (Sign Semicolon) f) in omega (arith, one)
decl_one (syn.Specification at n hs) f = let one = each_grows der.head_line head_line_grows hs (der.ended f) in omega (arith, one)
decl_one (syn.Implementation at n vs os ss) f =
    let last = der.if_any der.opening ss (der.ended f) in
    let one = any_grows der.opening opening_grows ss (der.ended f) in
    let two = each_grows der.operation operation_grows os last in
    let three = each_grows der.variables variables_grow vs (der.each der.operation os last) in
    omega (arith, one, two, three)
decl_one (syn.Function at n ps r b) f =
    let last = der.if_any der.result r (der.word (Sign Semicolon) (der.block b f)) in
    let one = block_grows b f in
    let two = any_grows der.result result_grows r (der.word (Sign Semicolon) (der.block b f)) in
    let three = separated_grows (Sign Semicolon) der.parameter parameter_grows ps (der.word (Sign Closes) last) in
    omega (arith, one, two, three)
decl_one (syn.Process at n ps b) f =
    let last = der.word (Sign Semicolon) (der.block b f) in
    let one = block_grows b f in
    let three = separated_grows (Sign Semicolon) der.parameter parameter_grows ps (der.word (Sign Closes) last) in
    omega (arith, one, three)

-- ---- what a declaration has

-- heads of a specification, fields of a record, and guards of an operation
abbrev heads_of_decl : Decl → List Head
heads_of_decl (syn.Specification at n hs) = hs
heads_of_decl _ = []

abbrev fields_of_decl : Decl → ℕ
fields_of_decl (syn.Declares at n d) = length (fields_in d)
fields_of_decl _ = 0

abbrev operations_of_decl : Decl → List Operation
operations_of_decl (syn.Implementation at n vs os ss) = os
operations_of_decl _ = []

field_one : (t : syn.TypedName) (f : Forest) → suc (tokens f) ≤ tokens (der.field t f)
field_one t f = let one = type_grows t.kind (der.word (Sign Semicolon) f) in omega (arith, one)

head_line_one : (h : Head) (f : Forest) → suc (tokens f) ≤ tokens (der.head_line h f)
head_line_one h f =
    let last = der.if_any der.result h.result (der.word (Sign Semicolon) f) in
    let one = any_grows der.result result_grows h.result (der.word (Sign Semicolon) f) in
    let two = separated_grows (Sign Semicolon) der.typed_name typed_name_grows h.parameters (der.word (Sign Closes) last) in
    omega (arith, one, two)

heads_tokens : (d : Decl) (f : Forest) → length (heads_of_decl d) ≤ tokens (der.decl d f)
heads_tokens (syn.Specification at n hs) f = let one = each_one der.head_line head_line_one hs (der.ended f) in omega (arith, one)
heads_tokens (syn.Constant at n b) f = omega arith
heads_tokens (syn.Declares at n d) f = omega arith
heads_tokens (syn.Implementation at n vs os ss) f = omega arith
heads_tokens (syn.Function at n ps r b) f = omega arith
heads_tokens (syn.Process at n ps b) f = omega arith

fields_tokens : (d : Decl) (f : Forest) → fields_of_decl d ≤ tokens (der.decl d f)
fields_tokens (syn.Declares at n (syn.Record p ts)) f = let one = each_one der.field field_one ts (der.word (Key KeyEnd) (der.word (Sign Semicolon) f)) in omega (arith, one)
fields_tokens (syn.Declares at n (syn.Enumeration p ns)) f = omega arith
fields_tokens (syn.Declares at n (syn.Alias k)) f = omega arith
fields_tokens (syn.Constant at n b) f = omega arith
fields_tokens (syn.Specification at n hs) f = omega arith
fields_tokens (syn.Implementation at n vs os ss) f = omega arith
fields_tokens (syn.Function at n ps r b) f = omega arith
fields_tokens (syn.Process at n ps b) f = omega arith

guards_tokens : (d : Decl) (f : Forest) → AllByRecursion (λ o. 4 * guards_in o.body ≤ tokens (der.decl d f)) (operations_of_decl d)
guards_tokens (syn.Implementation at n vs os ss) f =
    let last = der.if_any der.opening ss (der.ended f) in
    let three = each_grows der.variables variables_grow vs (der.each der.operation os last) in
    all_both (λ o. 4 * guards_in o.body ≤ tokens (der.each der.operation os last)) (λ o. Unit {0}) (λ o. 4 * guards_in o.body ≤ tokens (der.decl (syn.Implementation at n vs os ss) f)) os
    (λ o h unit. omega (arith, h, three)) (operations_guards os last) (units os)
guards_tokens (syn.Constant at n b) f = tt
guards_tokens (syn.Declares at n d) f = tt
guards_tokens (syn.Specification at n hs) f = tt
guards_tokens (syn.Function at n ps r b) f = tt
guards_tokens (syn.Process at n ps b) f = tt

heads_sum : (hs : List Head) → length hs ≤ sum_by names_in_head hs
heads_sum [] = omega arith
heads_sum (h ∷ hs) = let rest = heads_sum hs in let sum = sum_by-cons names_in_head h hs in omega (arith, rest, sum)

heads_declared : (d : Decl) → length (heads_of_decl d) ≤ names_declared d
heads_declared (syn.Specification at n hs) = let sum = heads_sum hs in omega (arith, sum)
heads_declared (syn.Constant at n b) = omega arith
heads_declared (syn.Declares at n d) = omega arith
heads_declared (syn.Implementation at n vs os ss) = omega arith
heads_declared (syn.Function at n ps r b) = omega arith
heads_declared (syn.Process at n ps b) = omega arith

fields_declared : (d : Decl) → fields_of_decl d ≤ names_declared d
fields_declared (syn.Declares at n (syn.Record p ts)) = omega arith
fields_declared (syn.Declares at n (syn.Enumeration p ns)) = omega arith
fields_declared (syn.Declares at n (syn.Alias k)) = omega arith
fields_declared (syn.Constant at n b) = omega arith
fields_declared (syn.Specification at n hs) = omega arith
fields_declared (syn.Implementation at n vs os ss) = omega arith
fields_declared (syn.Function at n ps r b) = omega arith
fields_declared (syn.Process at n ps b) = omega arith

one_declared : (d : Decl) → 1 ≤ names_declared d
one_declared (syn.Constant at n b) = omega arith
one_declared (syn.Declares at n d) = omega arith
one_declared (syn.Specification at n hs) = omega arith
one_declared (syn.Implementation at n vs os None) = omega arith
one_declared (syn.Implementation at n vs os (Some ss)) = omega arith
one_declared (syn.Function at n ps r b) = omega arith
one_declared (syn.Process at n ps b) = omega arith

-- a declaration is within so many tokens and so many names
record IsWithin (T N : ℕ) (d : Decl) : Type 0 where
  heads : length (heads_of_decl d) ≤ T
  fields : fields_of_decl d ≤ T
  guards : AllByRecursion (λ o. 4 * guards_in o.body ≤ T) (operations_of_decl d)
  names : names_declared d ≤ N

more_within : (T U N M : ℕ) → T ≤ U → N ≤ M → (d : Decl) → IsWithin T N d → IsWithin U M d
more_within T U N M le lf d h = record {
  heads = let a = h.heads in omega (arith, a, le);
  fields = let a = h.fields in omega (arith, a, le);
  guards = all_both (λ o. 4 * guards_in o.body ≤ T) (λ o. Unit {0}) (λ o. 4 * guards_in o.body ≤ U) (operations_of_decl d) (λ o a unit. omega (arith, a, le)) h.guards (units (operations_of_decl d));
  names = let a = h.names in omega (arith, a, lf);
}

decls_within : (ds : List Decl) → AllByRecursion (IsWithin (tokens (der.each der.decl ds none)) (sum_by names_declared ds)) ds
decls_within [] = tt
decls_within (d ∷ ds) =
    let rest = der.each der.decl ds none in
    let more = decl_grows d rest in
    let sum = sum_by-cons names_declared d ds in
    let bigger : sum_by names_declared ds ≤ sum_by names_declared (d ∷ ds) = omega (arith, sum) in (
      record { heads = heads_tokens d rest; fields = fields_tokens d rest; guards = guards_tokens d rest; names = omega (arith, sum) },
      all_both (IsWithin (tokens rest) (sum_by names_declared ds)) (λ e. Unit {0}) (IsWithin (tokens (der.decl d rest)) (sum_by names_declared (d ∷ ds))) ds
          (λ e h unit. more_within (tokens rest) (tokens (der.decl d rest)) (sum_by names_declared ds) (sum_by names_declared (d ∷ ds)) more bigger e h) (decls_within ds) (units ds),
    )

decls_many : (ds : List Decl) → length ds ≤ sum_by names_declared ds
decls_many [] = omega arith
decls_many (d ∷ ds) = let rest = decls_many ds in let own = one_declared d in let sum = sum_by-cons names_declared d ds in omega (arith, rest, own, sum)

-- ---- units

unit_tokens : (u : Source) → tokens (der.each der.decl u.syntax.declarations none) ≤ tokens (der.unit u.syntax)
unit_tokens u =
    let rest = der.each der.decl u.syntax.declarations none in
    let imports = each_grows der.import_line (λ n f. omega arith) u.syntax.imports rest in
    let module_ = any_grows der.module_line (λ n f. omega arith) u.syntax.name (der.each der.import_line u.syntax.imports rest) in
    omega (arith, imports, module_)

unit_many : (u : Source) → 2 * length u.syntax.declarations ≤ words_in u
unit_many u =
    let a = each_one der.decl decl_one u.syntax.declarations none in
    let b = decls_many u.syntax.declarations in
    let c = unit_tokens u in
    omega (arith, a, b, c)

-- ---- kinds and texts

module _ (p : TopName → Bool) (values_not : (m file of : List ℕ) (number : ℕ) (n : Name) → p (top_at m file Other n (top.Value of number)) ≡ false) where
  no_values : (m file of : List ℕ) (number : ℕ) (ns : List Name) → filter p (values_at m file of number ns) ≡ []
  no_values m file of number [] = refl
  no_values m file of number (n ∷ ns) =
      ap (λ b. cond b (top_at m file Other n (top.Value of number) ∷ filter p (values_at m file of (suc number) ns)) (filter p (values_at m file of (suc number) ns))) (values_not m file of number n) ∙ no_values m file of (suc number) ns

  decl_few : (m file : List ℕ) (d : Decl) → length (filter p (names_in m file d)) ≤ 1
  decl_few m file d =
      let first = top_at m file (role_in d) (name_in d) (what_in d) in
      by (p first) (no_values m file (name_in d).text zero (values_in d))
    where
      by : (b : Bool) → filter p (values_at m file (name_in d).text zero (values_in d)) ≡ [] →
          length (cond b (top_at m file (role_in d) (name_in d) (what_in d) ∷ filter p (values_at m file (name_in d).text zero (values_in d))) (filter p (values_at m file (name_in d).text zero (values_in d)))) ≤ 1
      by true e = let l = ap (λ xs. length xs) e in omega (arith, l)
      by false e = let l = ap (λ xs. length xs) e in omega (arith, l)

  decls_few : (m file : List ℕ) (ds : List Decl) → length (filter p (flat_map (names_in m file) ds)) ≤ length ds
  decls_few m file [] = omega arith
  decls_few m file (d ∷ ds) =
      let e = ap (λ xs. length xs) (filter-append p (names_in m file d) (flat_map (names_in m file) ds)) in
      let l = length-append (filter p (names_in m file d)) (filter p (flat_map (names_in m file) ds)) in
      let own = decl_few m file d in
      let rest = decls_few m file ds in
      omega (arith, e, l, own, rest)

  tops_few : (us : List Source) → 2 * length (filter p (top_names us)) ≤ sum_by words_in us
  tops_few [] = omega arith
  tops_few (u ∷ us) =
      let e = ap (λ xs. length xs) (filter-append p (unit_names u) (top_names us)) in
      let l = length-append (filter p (unit_names u)) (filter p (top_names us)) in
      let own = decls_few (module_name u) u.file u.syntax.declarations in
      let many = unit_many u in
      let rest = tops_few us in
      let sum = sum_by-cons words_in u us in
      omega (arith, e, l, own, many, rest, sum)

  fewer_taken : (xs : List TopName) (i : ℕ) → length (filter p (take i xs)) ≤ length (filter p xs)
  fewer_taken xs zero = omega arith
  fewer_taken [] (suc i) = omega arith
  fewer_taken (x ∷ xs) (suc i) = by (p x) (fewer_taken xs i)
    where
      by : (b : Bool) → length (filter p (take i xs)) ≤ length (filter p xs) →
          length (cond b (x ∷ filter p (take i xs)) (filter p (take i xs))) ≤ length (cond b (x ∷ filter p xs) (filter p xs))
      by true le = omega (arith, le)
      by false le = le

place_less : {X : Type 0} (p : X → Bool) (xs : List X) (K : ℕ) → length xs ≤ K → unwrap_or (position p xs) 0 ≤ K
place_less p xs K le = by (position p xs) refl
  where
    by : (o : Option ℕ) → position p xs ≡ o → unwrap_or o 0 ≤ K
    by None e = omega arith
    by (Some k) e = let h = found_at p xs k e in let l = slice_get_within xs k h.0 h.1 in omega (arith, l, le)

-- ---- what names of the top level have

module _ (us : List Source) (limits : IsWithinLimits us) where
  abbrev K : ℕ
  K = sum_by words_in us

  few_words : K ≤ 100000
  few_words = let l = limits.words in omega (arith, l)

  abbrev IsFewDecl : Decl → Type 0
  IsFewDecl d = (2 * length (heads_of_decl d) ≤ K) × (2 * fields_of_decl d ≤ K) × AllByRecursion (λ o. 4 * guards_in o.body ≤ K) (operations_of_decl d) × (names_declared d ≤ K)

  unit_few : (u : Source) → words_in u ≤ K → AllByRecursion IsFewDecl u.syntax.declarations
  unit_few u less =
      let T : ℕ = tokens (der.each der.decl u.syntax.declarations none) in
      let N : ℕ = declared_count u.syntax in
      let c = unit_tokens u in
      all_both (IsWithin T N) (λ d. Unit {0}) IsFewDecl u.syntax.declarations
      (λ d h unit.
      let a = h.heads in
      let b = heads_declared d in
      let e = h.fields in
      let f = fields_declared d in
      let g = h.names in (
        omega (arith, a, b, c, g, less),
        omega (arith, e, f, c, g, less),
        all_both (λ o. 4 * guards_in o.body ≤ T) (λ o. Unit {0}) (λ o. 4 * guards_in o.body ≤ K) (operations_of_decl d) (λ o i unit2. omega (arith, i, c, less)) h.guards (units (operations_of_decl d)),
        omega (arith, g, less),
      )) (decls_within u.syntax.declarations) (units u.syntax.declarations)

  abbrev IsFewWhat : What → Type 0
  IsFewWhat (top.TypeName of) = 2 * length (fields_in of) ≤ K
  IsFewWhat (top.Specified hs) = 2 * length hs ≤ K
  IsFewWhat (top.Process ps b) = length ps + length (variable_names b.variables) ≤ K
  IsFewWhat _ = Unit {0}

  what_few : (d : Decl) → IsFewDecl d → IsFewWhat (what_in d)
  what_few (syn.Declares at n of) few = few.1
  what_few (syn.Specification at n hs) few = few.0
  what_few (syn.Process at n ps b) few = let g = few.3 in omega (arith, g)
  what_few (syn.Constant at n b) few = tt
  what_few (syn.Implementation at n vs os ss) few = tt
  what_few (syn.Function at n ps r b) few = tt

  values_few : (m file of : List ℕ) (number : ℕ) (ns : List Name) → AllByRecursion (λ t. IsFewWhat t.what) (values_at m file of number ns)
  values_few m file of number [] = tt
  values_few m file of number (n ∷ ns) = (tt, values_few m file of (suc number) ns)

  top_parts : AllByRecursion (λ t. IsFewWhat t.what) (top_names us)
  top_parts =
      all_flat (λ t. IsFewWhat t.what) unit_names us
      (all_both (λ u. words_in u ≤ K) (λ u. Unit {0}) (λ u. AllByRecursion (λ t. IsFewWhat t.what) (unit_names u)) us
      (λ u l unit. all_flat (λ t. IsFewWhat t.what) (names_in (module_name u) u.file) u.syntax.declarations
      (all_both IsFewDecl (λ d. Unit {0}) (λ d. AllByRecursion (λ t. IsFewWhat t.what) (names_in (module_name u) u.file d)) u.syntax.declarations
      (λ d few unit2. (what_few d few, values_few (module_name u) u.file (name_in d).text zero (values_in d))) (unit_few u l) (units u.syntax.declarations))) (each_word us) (units us))

  decl_parts : AllByRecursion (λ x. IsFewDecl x.decl) (declarations us)
  decl_parts =
      all_flat (λ x. IsFewDecl x.decl) declarations_of us
      (all_both (λ u. words_in u ≤ K) (λ u. Unit {0}) (λ u. AllByRecursion (λ x. IsFewDecl x.decl) (declarations_of u)) us
      (λ u l unit. all_map (λ x. IsFewDecl x.decl) (λ d. record { by = module_name u; file = u.file; decl = d }) u.syntax.declarations (unit_few u l)) (each_word us) (units us))

  heads_few : (i : ℕ) (name : List ℕ) → (op_of us i name).0 < 2 ^ 16
  heads_few i name = by (slice_get (top_names us) i) refl
    where
      what : (t : TopName) (w : What) → IsFewWhat w → unwrap_or (option_and_then (op_in name) (heads_in t w)) 0 < 2 ^ 16
      what t (top.Specified hs) few = let l = few_words in let p = place_less (λ h. bytes_eq h.name.text name) hs (length hs) (omega arith) in omega (arith, few, l, p)
      what t (top.Constant b) few = omega arith
      what t (top.TypeName of) few = omega arith
      what t (top.Value of number) few = omega arith
      what t (top.Implemented os) few = omega arith
      what t (top.Function ps r b) few = omega arith
      what t (top.Process ps b) few = omega arith

      by : (o : Option TopName) → slice_get (top_names us) i ≡ o → unwrap_or (option_and_then (op_in name) (specification_of o)) 0 < 2 ^ 16
      by None e = omega arith
      by (Some t) e = what t t.what (all_at (λ x. IsFewWhat x.what) (top_names us) i t top_parts e)

  fields_few : (i : ℕ) → length (record_fields us i) < 2 ^ 16
  fields_few i = by (slice_get (top_names us) i) refl
    where
      what : (w : What) → IsFewWhat w → length (fields_of_what w) < 2 ^ 16
      what (top.TypeName of) few = let l = few_words in omega (arith, few, l)
      what (top.Specified hs) few = omega arith
      what (top.Constant b) few = omega arith
      what (top.Value of number) few = omega arith
      what (top.Implemented os) few = omega arith
      what (top.Function ps r b) few = omega arith
      what (top.Process ps b) few = omega arith

      by : (o : Option TopName) → slice_get (top_names us) i ≡ o → length (option_map_or (λ t. fields_of_what t.what) o []) < 2 ^ 16
      by None e = omega arith
      by (Some t) e = what t.what (all_at (λ x. IsFewWhat x.what) (top_names us) i t top_parts e)

  kinds_few : (i : ℕ) → (kind_of us i).0 < 2 ^ 16
  kinds_few i =
      let a = tops_few is_specification (λ m file of number n. refl) us in
      let b = fewer_taken is_specification (λ m file of number n. refl) (top_names us) i in
      let l = few_words in
      omega (arith, a, b, l)

  texts_few : (name : List ℕ) → (text_of us name).0 < 2 ^ 16
  texts_few name =
      let a = tops_few (λ t. is_process t.what) (λ m file of number n. refl) us in
      let p = place_less (bears name) (process_texts us) (length (process_texts us)) (omega arith) in
      let l = few_words in
      omega (arith, a, p, l)

  variables_few : (i : ℕ) (t : TopName) (ps : List Parameter) (b : Block) → slice_get (process_texts us) i ≡ Some t → t.what ≡ top.Process ps b →
      length (process_scope us t.defined.by ps b).locals < 2 ^ 32
  variables_few i t ps b at what =
      let few = subst IsFewWhat what (all_at (λ x. IsFewWhat x.what) (process_texts us) i t (all_filter (λ x. IsFewWhat x.what) (λ x. is_process x.what) (top_names us) top_parts) at) in
      let w = view_of us t.defined.by (own_names ps b) in
      let one = length-append (map (parameter_local w) ps) (flat_map (locals_of Variable (kind_found w)) b.variables) in
      let two = length-map ps (parameter_local w) in
      let three = locals_count Variable (kind_found w) b.variables in
      let l = few_words in
      omega (arith, few, one, two, three, l)

  -- ---- guards

  operations_declared : (name m : List ℕ) (d : Decl) (t : ObjectType) → implements name m d ≡ Some t → operations_of_decl d ≡ t.operations
  operations_declared name m (syn.Implementation at n fields os opening) t is = by (bytes_eq n.text name) is
    where
      by : (b : Bool) → (if b then Some (record { home = m; fields = fields; operations = os; begins = opening }) else None) ≡ Some t → os ≡ t.operations
      by true e = ap (λ x. x.operations) (same_some (record { home = m; fields = fields; operations = os; begins = opening }) t e)
      by false e = absurd cc
  operations_declared name m (syn.Constant at n value) t is = absurd cc
  operations_declared name m (syn.Declares at n of) t is = absurd cc
  operations_declared name m (syn.Specification at n heads) t is = absurd cc
  operations_declared name m (syn.Function at n ps r b) t is = absurd cc
  operations_declared name m (syn.Process at n ps b) t is = absurd cc

  implementation_guards : (name : List ℕ) (t : ObjectType) → implementation us name ≡ Some t → AllByRecursion (λ o. 4 * guards_in o.body ≤ K) t.operations
  implementation_guards name t is =
      let m = made_from (λ x. implements name x.by x.decl) (declarations us) 0 t is in
      let few = all_at (λ x. IsFewDecl x.decl) (declarations us) m.place.0 m.from decl_parts m.place.1 in
      subst (AllByRecursion (λ o. 4 * guards_in o.body ≤ K)) (operations_declared name m.from.by m.from.decl t m.made) few.2

  guards_few : (kind : KindNo) (t : ObjectType) (i : ℕ) (o : Operation) → object_type us kind ≡ Some t → slice_get t.operations i ≡ Some o → guards_in o.body < 2 ^ 16
  guards_few kind t i o is at =
      let few = all_at (λ x. 4 * guards_in x.body ≤ K) t.operations i o (by kind.0 is) at in
      let l = few_words in
      omega (arith, few, l)
    where
      specification : (x : Option TopName) → option_and_then (specified us) x ≡ Some t → AllByRecursion (λ p. 4 * guards_in p.body ≤ K) t.operations
      specification None e = absurd cc
      specification (Some x) e = implementation_guards x.defined.name.text t e

      by : (k : ℕ) → type_at us k ≡ Some t → AllByRecursion (λ p. 4 * guards_in p.body ≤ K) t.operations
      by zero e = absurd cc
      by (suc k) e = specification (slice_get (specifications us) k) e

pub are_numbers : (us : List Source) → IsWithinLimits us → AreNumbers us
are_numbers us limits = record {
  kinds = kinds_few us limits;
  ops = heads_few us limits;
  texts = texts_few us limits;
  fields = fields_few us limits;
  guards = guards_few us limits;
  variables = variables_few us limits;
}
