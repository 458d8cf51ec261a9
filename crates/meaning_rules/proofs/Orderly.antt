-- A program that breaks no rule, and whose texts have sound words, has bodies in order; its constants are numbers of 64 bits, and the names
-- of its enumerations' values have the codes of chars.
use Rattle.std.proofs.Common.{refl, ap, sym, subst, arith, leb-true, eqb-true}
use Rattle.std.specs.Prelude.{◌≡◌, ◌≤◌, ◌<◌, ◌^◌, ◌||◌, ◌==◌, nat_le, ℕ, zero, suc, pos, neg_ℤ, Bool, true, false, cond, if◌then◌else◌, bytes_eq, List, [], ◌∷◌, ◌++◌, map, flat_map, filter, filter_map, length, slice_get, Option, Some, None, option_and_then, IfSome}
use Rattle.std.specs.Char.{is_ascii_alphabetic, is_ascii_alphanumeric}
use Rattle.std.specs.Int.{is_in_range}
use Rattle.std.specs.List.{All, AllByRecursion, cons_option, list_all, list_any}
use Rattle.std.specs.Option.{option_map_or}
use Rattle.std.proofs.lemmas.List.Elements.{All-from_recursion, All-nil, All-cons}
use Rattle.orca_lexer.specs.Shapes.{is_name_byte, is_word}
use Rattle.orca_tree.specs.declared.tree.Name.{Name}
use Rattle.orca_tree.specs.declared.tree.Bound.{Bound}
use Rattle.orca_tree.specs.declared.tree.Bound.TheVariants as bounds
use Rattle.orca_syntax.specs.Sound.{IsSoundName, IsSoundBound, IsSoundDefinition, IsSoundDecl, IsSoundSyntax, IsSoundOperation, IsSoundGuard, IsSoundBody, AreSoundStmts}
use Rattle.orca_syntax.specs.Syntax as syn
use Rattle.orca_syntax.specs.Syntax.{Kind, Stmts, Parameter, Guard, Body, Operation, Block, Definition, Decl}
use Rattle.link_rules.specs.Units.{Source, module_name, values_of}
use Rattle.link_rules.specs.Declarations.{declarations, declarations_of}
use Rattle.type_rules.specs.declared.breach.Breach.{Breach}
use Rattle.type_rules.specs.declared.names.Chain.{Chain}
use Rattle.type_rules.specs.declared.names.Chain.TheVariants.{EndsAt, GoesRound, Fails}
use Rattle.type_rules.specs.declared.types.Base.TheVariants as base
use Rattle.type_rules.specs.declared.types.Layer.TheVariants as layer
use Rattle.type_rules.specs.Types as types
use Rattle.type_rules.specs.Types.{Outside}
use Rattle.type_rules.specs.TopLevel as top
use Rattle.type_rules.specs.TopLevel.{What, TopName, StandsFor, stands_for, top_at, top_names, unit_names, names_in, name_in, role_in, what_in, values_at, values_in}
use Rattle.type_rules.specs.Order.{comes_before, in_text_order, put}
use Rattle.type_rules.specs.Breaches.{type_error, unit_breaches}
use Rattle.type_rules.specs.Constants.{bound_chain, chain_of, chain_of_what, chain_within, numbered_chain, value_chain}
use Rattle.type_rules.specs.TypePhrases.{kind_found, data_found}
use Rattle.type_rules.specs.declared.names.Owner.{Owner}
use Rattle.type_rules.specs.Scopes.{Scope, own_names, view_of, specification, texts}
use Rattle.type_rules.specs.declared.names.Owner.TheVariants as owner
use Rattle.type_rules.specs.Statements.{wants, stmts_breaches}
use Rattle.type_rules.specs.Types.{is_boolean}
use Rattle.type_rules.specs.Declarations.{are_free, block_breaches, block_scope, parameters_breaches, result_breaches, variables_breaches, values_breaches, decl_breaches, no_main, process_form, function_breaches, process_breaches, implementation_breaches, implementation_scope, operation_breaches, operation_locals, operation_names, operation_view, field_locals, field_names, fields_view, result_of, body_breaches, guard_breaches, opening_breaches, heads_of, heads_match, owner_of, is_shared, is_specified_in}
use Rattle.type_rules.specs.Rules.{are_new, asks, Found}
use Rattle.type_rules.specs.declared.types.Measured.{Measured}
use Rattle.type_rules.specs.Constants.{View}
use Rattle.value_core.specs.Integers.{IsWord}
use Rattle.value_core.specs.Sound.{IsCode}
use Rattle.meaning_rules.specs.Programs.{ObjectType, begin_scope, function_scope, implementation, implements, is_process, operation_scope, process_scope, process_texts, specifications, specified, type_at}
use Rattle.meaning_rules.specs.Statements as named
use Rattle.meaning_rules.specs.Statements.{names_at}
use Rattle.meaning_rules.specs.Accepted.{AreInOrder, BodyInOrder, GivesOrder}
use Rattle.meaning_rules.proofs.OperatorsFit.{or_either}
use Rattle.meaning_rules.proofs.Judged.{left_none, right_none, both_left, both_right, all_at}

-- ---- lists

pub map_none : {X Y : Type 0} (f : X → Y) (xs : List X) → map f xs ≡ [] → xs ≡ []
map_none f [] is = refl
map_none f (x ∷ xs) is = absurd cc

pub each_none : {X Y : Type 0} (f : X → List Y) (xs : List X) → flat_map f xs ≡ [] → AllByRecursion (λ x. f x ≡ []) xs
each_none f [] is = tt
each_none f (x ∷ xs) is = (left_none (f x) (flat_map f xs) is, each_none f xs (right_none (f x) (flat_map f xs) is))

pub all_both : {X : Type 0} (P Q R : X → Type 0) (xs : List X) → ((x : X) → P x → Q x → R x) → AllByRecursion P xs → AllByRecursion Q xs → AllByRecursion R xs
all_both P Q R [] f ps qs = tt
all_both P Q R (x ∷ xs) f ps qs = (f x ps.0 qs.0, all_both P Q R xs f ps.1 qs.1)

pub all_append : {X : Type 0} (P : X → Type 0) (xs ys : List X) → AllByRecursion P xs → AllByRecursion P ys → AllByRecursion P (xs ++ ys)
all_append P [] ys all more = more
all_append P (x ∷ xs) ys all more = (all.0, all_append P xs ys all.1 more)

pub all_flat : {X Y : Type 0} (P : Y → Type 0) (f : X → List Y) (xs : List X) → AllByRecursion (λ x. AllByRecursion P (f x)) xs → AllByRecursion P (flat_map f xs)
all_flat P f [] all = tt
all_flat P f (x ∷ xs) all = all_append P (f x) (flat_map f xs) all.0 (all_flat P f xs all.1)

pub all_map : {X Y : Type 0} (P : Y → Type 0) (f : X → Y) (xs : List X) → AllByRecursion (λ x. P (f x)) xs → AllByRecursion P (map f xs)
all_map P f [] all = tt
all_map P f (x ∷ xs) all = (all.0, all_map P f xs all.1)

pub all_filter : {X : Type 0} (P : X → Type 0) (p : X → Bool) (xs : List X) → AllByRecursion P xs → AllByRecursion P (filter p xs)
all_filter P p [] all = tt
all_filter P p (x ∷ xs) all = by (p x) (all_filter P p xs all.1)
  where
    by : (b : Bool) → AllByRecursion P (filter p xs) → AllByRecursion P (cond b (x ∷ filter p xs) (filter p xs))
    by true rest = (all.0, rest)
    by false rest = rest

pub all_filter_map : {X Y : Type 0} (P : Y → Type 0) (h : X → Option Y) (xs : List X) → AllByRecursion (λ x. (y : Y) → h x ≡ Some y → P y) xs → AllByRecursion P (filter_map h xs)
all_filter_map P h [] all = tt
all_filter_map P h (x ∷ xs) all = by (h x) refl (all_filter_map P h xs all.1)
  where
    by : (o : Option _) → h x ≡ o → AllByRecursion P (filter_map h xs) → AllByRecursion P (cons_option o (filter_map h xs))
    by None is rest = rest
    by (Some y) is rest = (all.0 y is, rest)

pub units : {X : Type 0} (xs : List X) → AllByRecursion (λ x. Unit {0}) xs
units [] = tt
units (x ∷ xs) = (tt, units xs)

-- ---- the codes of a word

in_range : (low high c : ℕ) → high ≤ 127 → is_in_range low high c ≡ true → IsCode c
in_range low high c less is =
    let below = leb-true c high (both_right (nat_le low c) (nat_le c high) is) in
    omega (arith, less, below)

first_code : (c : ℕ) → is_ascii_alphabetic c ≡ true → IsCode c
first_code c is = or_either (is_in_range 65 90 c) (is_in_range 97 122 c) is (IsCode c) (in_range 65 90 c (omega arith)) (in_range 97 122 c (omega arith))

next_code : (c : ℕ) → is_name_byte c ≡ true → IsCode c
next_code c is =
    or_either (is_ascii_alphanumeric c) (c == 95) is (IsCode c)
    (λ h. or_either (is_in_range 48 57 c || is_in_range 65 90 c) (is_in_range 97 122 c) h (IsCode c)
    (λ k. or_either (is_in_range 48 57 c) (is_in_range 65 90 c) k (IsCode c) (in_range 48 57 c (omega arith)) (in_range 65 90 c (omega arith))) (in_range 97 122 c (omega arith)))
    (λ h. let same : c ≡ 95 = eqb-true c 95 h in omega (arith, same))

rest_codes : (cs : List ℕ) → list_all is_name_byte cs ≡ true → All IsCode cs
rest_codes [] is = All-nil IsCode
rest_codes (c ∷ cs) is = All-cons IsCode c cs (next_code c (both_left (is_name_byte c) (list_all is_name_byte cs) is)) (rest_codes cs (both_right (is_name_byte c) (list_all is_name_byte cs) is))

word_codes : (s : List ℕ) → is_word s ≡ true → All IsCode s
word_codes [] is = absurd cc
word_codes (c ∷ cs) is =
    All-cons IsCode c cs (first_code c (both_left (is_ascii_alphabetic c) (list_all is_name_byte cs) is)) (rest_codes cs (both_right (is_ascii_alphabetic c) (list_all is_name_byte cs) is))

-- ---- no breach in any declaration

put_some : (b : Breach) (bs : List Breach) → put b bs ≡ [] → ⊥
put_some b [] is = absurd cc
put_some b (c ∷ cs) is = by (comes_before c b) is
  where
    by : (t : Bool) → (if t then c ∷ put b cs else b ∷ c ∷ cs) ≡ [] → ⊥
    by true e = absurd cc
    by false e = absurd cc

pub order_none : (bs : List Breach) → in_text_order bs ≡ [] → bs ≡ []
order_none [] is = refl
order_none (b ∷ bs) is = absurd (put_some b (in_text_order bs) is)

module _ (us : List Source) where
  -- a declaration of sound words that breaks no rule
  abbrev IsFine : List ℕ → Decl → Type 0
  IsFine m d = (decl_breaches us m d ≡ []) × IsSoundDecl d

  all_fine : (us' : List Source) → flat_map (λ u. map (type_error u) (unit_breaches us u)) us' ≡ [] → AllByRecursion (λ u. IsSoundSyntax u.syntax) us' →
      AllByRecursion (λ u. AllByRecursion (IsFine (module_name u)) u.syntax.declarations) us'
  all_fine us' none sound =
      all_both (λ u. map (type_error u) (unit_breaches us u) ≡ []) (λ u. IsSoundSyntax u.syntax) (λ u. AllByRecursion (IsFine (module_name u)) u.syntax.declarations) us'
      (λ u one words. all_both (λ d. decl_breaches us (module_name u) d ≡ []) IsSoundDecl (IsFine (module_name u)) u.syntax.declarations (λ d a b. (a, b))
      (each_none (decl_breaches us (module_name u)) u.syntax.declarations (order_none _ (map_none (type_error u) (unit_breaches us u) one))) words.2)
      (each_none (λ u. map (type_error u) (unit_breaches us u)) us' none) sound

  -- ---- names of the top level

  abbrev OrderOf : List ℕ → What → Type 0
  OrderOf m (top.Constant b) = IsSoundBound b
  OrderOf m (top.TypeName of) = IsSoundDefinition of
  OrderOf m (top.Function ps r b) = AreInOrder (function_scope us m ps r b) b.statements
  OrderOf m (top.Process ps b) = AreInOrder (process_scope us m ps b) b.statements
  OrderOf m _ = Unit {0}

  block_order : (m : List ℕ) (o : Owner) (find_kind : Kind → Found Measured) (v : View) (ps : List Parameter) (r : Option Kind) (b : Block) →
      block_breaches us m o find_kind v ps r b ≡ [] → stmts_breaches (block_scope us m o find_kind v ps r b) b.statements ≡ []
  block_order m o find_kind v ps r b none =
      let stmts = stmts_breaches (block_scope us m o find_kind v ps r b) b.statements in
      let one = right_none (are_new (own_names ps b)) _ none in
      let two = right_none (are_free us m [] (own_names ps b)) _ one in
      let three = right_none (parameters_breaches v ps) _ two in
      let four = right_none (result_breaches v r) _ three in
      right_none (variables_breaches find_kind b.variables) stmts four

  decl_order : (m : List ℕ) (d : Decl) → IsFine m d → OrderOf m (what_in d)
  decl_order m (syn.Constant at n value) fine = fine.1.1
  decl_order m (syn.Declares at n of) fine = fine.1.1
  decl_order m (syn.Specification at n heads) fine = tt
  decl_order m (syn.Implementation at n fields operations opening) fine = tt
  decl_order m (syn.Function at n ps r b) fine = (
    fine.1.3.1,
    block_order m (owner_of ps (list_any (λ p. is_shared p.mode) ps)) (data_found (view_of us m (own_names ps b))) (view_of us m (own_names ps b)) ps r b
        (right_none (no_main n) (function_breaches us m ps r b) fine.0),
  )
  decl_order m (syn.Process at n ps b) fine = (
    fine.1.2.1,
    block_order m owner.Process (kind_found (view_of us m (own_names ps b))) (view_of us m (own_names ps b)) ps None b
        (right_none (process_form n ps) (process_breaches us m ps b) fine.0),
  )

  abbrev IsIn : TopName → Type 0
  IsIn t = OrderOf t.defined.by t.what

  values_order : (m file of : List ℕ) (number : ℕ) (ns : List Name) → AllByRecursion IsIn (values_at m file of number ns)
  values_order m file of number [] = tt
  values_order m file of number (n ∷ ns) = (tt, values_order m file of (suc number) ns)

  top_order : AllByRecursion (λ u. AllByRecursion (IsFine (module_name u)) u.syntax.declarations) us → AllByRecursion IsIn (top_names us)
  top_order fine =
      all_flat IsIn unit_names us (all_both (λ u. AllByRecursion (IsFine (module_name u)) u.syntax.declarations) (λ u. Unit {0}) (λ u. AllByRecursion IsIn (unit_names u)) us
      (λ u one two. all_flat IsIn (names_in (module_name u) u.file) u.syntax.declarations
      (all_both (IsFine (module_name u)) (λ d. Unit {0}) (λ d. AllByRecursion IsIn (names_in (module_name u) u.file d)) u.syntax.declarations
      (λ d f unit. (decl_order (module_name u) d f, values_order (module_name u) u.file (name_in d).text zero (values_in d))) one (units u.syntax.declarations))) fine (units us))

  -- ---- constants

  abbrev IsChain : Chain → Type 0
  IsChain (EndsAt z) = IsWord z
  IsChain GoesRound = Unit {0}
  IsChain Fails = Unit {0}

  negated_word : (n : ℕ) → n < 2 ^ 63 → IsWord (neg_ℤ (pos n))
  negated_word zero less = record { sfits = omega arith }
  negated_word (suc n) less = record { sfits = omega (arith, less) }

  named_chain : (chain : ℕ → Chain) → ((i : ℕ) → IsChain (chain i)) → (s : StandsFor) → IsChain (chain_of chain s)
  named_chain chain h top.Nothing = tt
  named_chain chain h (top.Everywhere p) = tt
  named_chain chain h (top.Top i t) = by t.what
    where
      by : (w : What) → IsChain (chain_of_what chain i w)
      by (top.Constant b) = h i
      by (top.TypeName of) = tt
      by (top.Value of number) = tt
      by (top.Specified heads) = tt
      by (top.Implemented os) = tt
      by (top.Function ps r b) = tt
      by (top.Process ps b) = tt

  bound_word : (chain : ℕ → Chain) → ((i : ℕ) → IsChain (chain i)) → (m : List ℕ) (b : Bound) → IsSoundBound b → IsChain (bound_chain chain us m b)
  bound_word chain h m (bounds.Number at value) sound = subst IsWord (sym sound.2) (record { sfits = sound.1 })
  bound_word chain h m (bounds.Negative at value) sound = subst (λ z. IsWord (neg_ℤ z)) (sym sound.2) (negated_word sound.0 sound.1)
  bound_word chain h m (bounds.Named n) sound = named_chain chain h (stands_for us m n.text)

  value_word : (chain : ℕ → Chain) → ((i : ℕ) → IsChain (chain i)) → (t : TopName) (w : What) → OrderOf t.defined.by w → IsChain (value_chain chain us t w)
  value_word chain h t (top.Constant b) order = bound_word chain h t.defined.by b order
  value_word chain h t (top.TypeName of) order = tt
  value_word chain h t (top.Value of number) order = tt
  value_word chain h t (top.Specified heads) order = tt
  value_word chain h t (top.Implemented os) order = tt
  value_word chain h t (top.Function ps r b) order = tt
  value_word chain h t (top.Process ps b) order = tt

  module _ (order : AllByRecursion IsIn (top_names us)) where
    numbered_word : (chain : ℕ → Chain) → ((i : ℕ) → IsChain (chain i)) → (i : ℕ) (o : Option TopName) → slice_get (top_names us) i ≡ o → IsChain (numbered_chain chain us o)
    numbered_word chain h i None at = tt
    numbered_word chain h i (Some t) at = value_word chain h t t.what (all_at IsIn (top_names us) i t order at)

    chain_word : (k i : ℕ) → IsChain (chain_within us k i)
    chain_word zero i = tt
    chain_word (suc k) i = numbered_word (chain_within us k) (chain_word k) i (slice_get (top_names us) i) refl

    -- ---- names of values

    names_code : (o : Outside) → All (All IsCode) (names_at us o)
    names_code (types.Bare (base.Enumeration i)) = by (slice_get (top_names us) i) refl
      where
        of_definition : (d : Definition) → IsSoundDefinition d → All (All IsCode) (map (λ n. n.text) (values_of d))
        of_definition (syn.Enumeration at ns) sound = All-from_recursion (All IsCode) (map (λ n. n.text) ns) (all_map (All IsCode) (λ n. n.text) ns
            (all_both IsSoundName (λ n. Unit {0}) (λ n. All IsCode n.text) ns (λ n s unit. word_codes n.text s.0) sound.0 (units ns)))
        of_definition (syn.Record at fields) sound = All-nil (All IsCode)
        of_definition (syn.Alias k) sound = All-nil (All IsCode)

        of_what : (m : List ℕ) (w : What) → OrderOf m w → All (All IsCode) (named.names_in w)
        of_what m (top.TypeName of) h = of_definition of h
        of_what m (top.Constant b) h = All-nil (All IsCode)
        of_what m (top.Value of number) h = All-nil (All IsCode)
        of_what m (top.Specified heads) h = All-nil (All IsCode)
        of_what m (top.Implemented os) h = All-nil (All IsCode)
        of_what m (top.Function ps r b) h = All-nil (All IsCode)
        of_what m (top.Process ps b) h = All-nil (All IsCode)

        by : (x : Option TopName) → slice_get (top_names us) i ≡ x → All (All IsCode) (option_map_or (λ t. named.names_in t.what) x [])
        by None at = All-nil (All IsCode)
        by (Some t) at = of_what t.defined.by t.what (all_at IsIn (top_names us) i t order at)
    names_code (types.Bare base.Integer) = All-nil (All IsCode)
    names_code (types.Bare base.Boolean) = All-nil (All IsCode)
    names_code (types.Bare base.Character) = All-nil (All IsCode)
    names_code (types.Bare base.String) = All-nil (All IsCode)
    names_code (types.Bare base.NodeName) = All-nil (All IsCode)
    names_code (types.Bare (base.Record j)) = All-nil (All IsCode)
    names_code (types.Bare (base.Object j)) = All-nil (All IsCode)
    names_code (types.Within (layer.Array low high)) = All-nil (All IsCode)
    names_code (types.Within layer.Set) = All-nil (All IsCode)
    names_code (types.Within layer.Bag) = All-nil (All IsCode)
    names_code (types.Within layer.Graph) = All-nil (All IsCode)

  -- ---- implementations

  record IsOrderlyType (t : ObjectType) : Type 0 where
    begins : IfSome t.begins (AreInOrder (begin_scope us t))
    operations : AllByRecursion (λ o. BodyInOrder (operation_scope us t o false) o.body) t.operations

  guards_order : (scope : Bool → Scope) (gs : List Guard) → flat_map (guard_breaches scope) gs ≡ [] → AllByRecursion IsSoundGuard gs →
      AllByRecursion (λ g. AreInOrder (scope false) g.body) gs
  guards_order scope [] none sound = tt
  guards_order scope (g ∷ gs) none sound = (
    (sound.0.1, right_none (wants (scope true) 17 is_boolean g.test) (stmts_breaches (scope false) g.body) (left_none (guard_breaches scope g) _ none)),
    guards_order scope gs (right_none (guard_breaches scope g) _ none) sound.1,
  )

  body_order : (scope : Bool → Scope) (b : Body) → body_breaches scope b ≡ [] → IsSoundBody b → BodyInOrder (scope false) b
  body_order scope (syn.Guarded first others) none sound = guards_order scope (first ∷ others) none sound
  body_order scope (syn.Plain ss) none sound = (sound, none)

  operation_order : (t : ObjectType) (o : Operation) → operation_breaches us t.home t.fields o ≡ [] → IsSoundOperation o → BodyInOrder (operation_scope us t o false) o.body
  operation_order t o none sound =
      let scope : Bool → Scope = implementation_scope us t.home (operation_locals us t.home t.fields o) (result_of (operation_view us t.home t.fields o) o.head.result) in
      let one = right_none (are_new (operation_names o)) _ none in
      let two = right_none (are_free us t.home (texts (field_names t.fields)) (operation_names o)) _ one in
      let three = right_none (values_breaches (operation_view us t.home t.fields o) o.head.parameters) _ two in
      let four = right_none (result_breaches (operation_view us t.home t.fields o) o.head.result) _ three in
      body_order scope o.body (right_none (variables_breaches (data_found (operation_view us t.home t.fields o)) o.variables) (body_breaches scope o.body) four) sound.2

  opening_order : (v : Scope) (b : Option Stmts) → opening_breaches v b ≡ [] → IfSome b AreSoundStmts → IfSome b (AreInOrder v)
  opening_order v None none sound = tt
  opening_order v (Some ss) none sound = (sound, none)

  implementation_order : (m : List ℕ) (n : Name) (fields : List syn.Variables) (os : List Operation) (opening : Option Stmts) → implementation_breaches us m n fields os opening ≡ [] →
      AllByRecursion IsSoundOperation os → IfSome opening AreSoundStmts →
      IsOrderlyType (record { home = m; fields = fields; operations = os; begins = opening })
  implementation_order m n fields os opening none sound words =
      let t : ObjectType = record { home = m; fields = fields; operations = os; begins = opening } in
      let opened = opening_breaches (implementation_scope us m (field_locals us m fields) None false) opening in
      let one = right_none (asks 11 n.at (is_specified_in m (specification us n.text))) _ none in
      let two = right_none (are_new (field_names fields ++ map (λ o. o.head.name) os)) _ one in
      let three = right_none (are_free us m [] (field_names fields)) _ two in
      let four = right_none (variables_breaches (data_found (fields_view us m fields)) fields) _ three in
      let five = right_none (heads_of (specification us n.text) os (heads_match us m fields)) (flat_map (operation_breaches us m fields) os ++ opened) four in
      record {
        begins = opening_order (begin_scope us t) opening (right_none (flat_map (operation_breaches us m fields) os) opened five) words;
        operations =
            all_both (λ o. operation_breaches us m fields o ≡ []) IsSoundOperation (λ o. BodyInOrder (operation_scope us t o false) o.body) os
            (λ o a b. operation_order t o a b) (each_none (operation_breaches us m fields) os (left_none (flat_map (operation_breaches us m fields) os) opened five)) sound;
      }

  implements_order : (name m : List ℕ) (d : Decl) → IsFine m d → (t : ObjectType) → implements name m d ≡ Some t → IsOrderlyType t
  implements_order name m (syn.Implementation at n fields os opening) fine t is = by (bytes_eq n.text name) is
    where
      given : ObjectType → Option ObjectType → ObjectType
      given x None = x
      given x (Some y) = y

      own : ObjectType
      own = record { home = m; fields = fields; operations = os; begins = opening }

      by : (b : Bool) → (if b then Some own else None) ≡ Some t → IsOrderlyType t
      by true e = subst IsOrderlyType (ap (given own) e) (implementation_order m n fields os opening (right_none (no_main n) (implementation_breaches us m n fields os opening) fine.0) fine.1.2 fine.1.3)
      by false e = absurd cc
  implements_order name m (syn.Constant at n value) fine t is = absurd cc
  implements_order name m (syn.Declares at n of) fine t is = absurd cc
  implements_order name m (syn.Specification at n heads) fine t is = absurd cc
  implements_order name m (syn.Function at n ps r b) fine t is = absurd cc
  implements_order name m (syn.Process at n ps b) fine t is = absurd cc

  module _ (fine : AllByRecursion (λ u. AllByRecursion (IsFine (module_name u)) u.syntax.declarations) us) where
    declared_fine : AllByRecursion (λ x. IsFine x.by x.decl) (declarations us)
    declared_fine =
        all_flat (λ x. IsFine x.by x.decl) declarations_of us
        (all_both (λ u. AllByRecursion (IsFine (module_name u)) u.syntax.declarations) (λ u. Unit {0}) (λ u. AllByRecursion (λ x. IsFine x.by x.decl) (declarations_of u)) us
        (λ u one unit. all_map (λ x. IsFine x.by x.decl) (λ d. record { by = module_name u; file = u.file; decl = d }) u.syntax.declarations one) fine (units us))

    implementation_fine : (name : List ℕ) (t : ObjectType) → implementation us name ≡ Some t → IsOrderlyType t
    implementation_fine name t is =
        all_at IsOrderlyType (filter_map (λ x. implements name x.by x.decl) (declarations us)) zero t
        (all_filter_map IsOrderlyType (λ x. implements name x.by x.decl) (declarations us)
        (all_both (λ x. IsFine x.by x.decl) (λ x. Unit {0}) (λ x. (y : ObjectType) → implements name x.by x.decl ≡ Some y → IsOrderlyType y) (declarations us)
        (λ x f unit y e. implements_order name x.by x.decl f y e) declared_fine (units (declarations us)))) is

    type_fine : (k : ℕ) (t : ObjectType) → type_at us k ≡ Some t → IsOrderlyType t
    type_fine zero t is = absurd cc
    type_fine (suc k) t is = by (slice_get (specifications us) k) is
      where
        by : (o : Option TopName) → option_and_then (specified us) o ≡ Some t → IsOrderlyType t
        by None e = absurd cc
        by (Some x) e = implementation_fine x.defined.name.text t e

pub gives_order : (us : List Source) → GivesOrder us
gives_order us none sound =
    let fine = all_fine us us none sound in
    let order = top_order us fine in
    record {
      functions = λ i t ps r b at what. subst (OrderOf us t.defined.by) what (all_at (IsIn us) (top_names us) i t order at);
      processes = λ i t ps b at what.
          subst (OrderOf us t.defined.by) what (all_at (IsIn us) (process_texts us) i t (all_filter (IsIn us) (λ x. is_process x.what) (top_names us) order) at);
      begins = λ kind t is. (type_fine us fine kind.0 t is).begins;
      operations = λ kind t is i o at. all_at (λ x. BodyInOrder (operation_scope us t x false) x.body) t.operations i o (type_fine us fine kind.0 t is).operations at;
      constants = λ i z is. subst (IsChain us) is (chain_word us order (length (top_names us)) i);
      names = names_code us order;
    }
