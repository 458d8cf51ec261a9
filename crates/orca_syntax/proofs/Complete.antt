-- Each derivation of a unit is that of a syntax. Each production is covered by the parts that its form names, in the order of the text; a
-- nested phrase has fewer marks inside than it has.
use Rattle.std.proofs.Common.{◌≡◌, ℕ, zero, suc, true, false, List, [], ◌∷◌, length, map, Option, Some, None, refl, ap, ◌∙◌, sym, arith}
use Rattle.std.specs.Prelude.{◌≢◌}
use Rattle.std.specs.List.{AllByRecursion}
use Rattle.orca_base.specs.declared.place.Place.{Place}
use Rattle.orca_lexer.specs.declared.token.Keyword.TheVariants.{KeyAnd, KeyArray, KeyBag, KeyBegin, KeyBoolean, KeyChar, KeyConst, KeyDelete, KeyDo, KeyElse, KeyElsif, KeyEnd, KeyEnum, KeyFalse, KeyFi, KeyFor, KeyFork, KeyFrom, KeyFunction, KeyGuard, KeyIf, KeyImplementation, KeyImport, KeyIn, KeyInsert, KeyInteger, KeyModule, KeyNot, KeyObject, KeyOd, KeyOf, KeyOn, KeyOperation, KeyOr, KeyOrd, KeyOut, KeyProcess, KeyRecord, KeyRepeat, KeyReturn, KeySet, KeyShared, KeySize, KeySpecification, KeyString, KeyThen, KeyTrue, KeyType, KeyUntil, KeyWhile, KeyWriteLine}
use Rattle.orca_lexer.specs.declared.token.Symbol.TheVariants.{Becomes, Range as RangeSign, Differs, AtMost, AtLeast, Semicolon, Colon, Comma, Period, Equals, Less, Greater, Plus, Minus, Times, Over, Percent, Joins, Opens, Closes, OpensIndex, ClosesIndex, Dollar}
use Rattle.orca_lexer.specs.declared.token.Token.{Token}
use Rattle.orca_lexer.specs.declared.token.TokenKind.TheVariants as kind
use Rattle.orca_lexer.specs.declared.token.TokenKind.TheVariants.{Key, Sign}
use Rattle.orca_grammar.specs.Forms.{Statement as StatementPhrase, Expression as ExpressionPhrase, Factor as FactorPhrase, TypePhrase as TypeNest, Links as Level, Term, Sum, Relation, Conjunction, Disjunction, Form, ◌⨾◌, Many, Nested, Phrase, Chain as ChainOf, Mark}
use Rattle.orca_grammar.specs.Rules as rules
use Rattle.orca_grammar.specs.Grammar.{IsText}
use Rattle.orca_tree.specs.declared.tree.Name.{Name}
use Rattle.orca_tree.specs.declared.tree.Bound.TheVariants as bounds
use Rattle.orca_tree.specs.declared.tree.Mode.TheVariants as modes
use Rattle.orca_tree.specs.declared.tree.Operator.{Operator}
use Rattle.orca_tree.specs.declared.tree.Operator.TheVariants as op
use Rattle.orca_tree.specs.Marks.{operator_token, links_of}
use Rattle.orca_syntax.specs.Syntax as syn
use Rattle.orca_syntax.specs.Syntax.{Expr, Links, Path, Exprs, Kind, Stmt, Stmts, Arms, Variables, TypedName, Head, Guard, Operation, Definition, Decl, Syntax}
use Rattle.orca_syntax.specs.Forest.{Forest, none, group, flat}
use Rattle.orca_syntax.specs.Derivation as der
use Rattle.orca_syntax.proofs.MarksShown.{alone}
use Rattle.orca_syntax.proofs.Told.{made_variables, made_typed, made_parameter, made_head, made_guard, made_operation, made_block, made_syntax}
use Rattle.orca_syntax.proofs.Covered.{Covers, as_part, a_key, a_key_at, a_sign, a_sign_at, a_name, a_number, a_value, a_char, a_text, seq, alt, maybe, many, nothing_there, each_map, some_listed, any_listed, in_phrase, in_chain}

-- the nested phrases with fewer marks than so many
record Nests (k : ℕ) : Type 0 where
  exprs : Covers k (Nested ExpressionPhrase) der.value
  factors : Covers k (Nested FactorPhrase) der.operand
  stmts : Covers k (Nested StatementPhrase) (λ (s : Stmt) g. group (Phrase StatementPhrase) (der.stmt_inside s) g)
  types : Covers k (Nested TypeNest) der.type_phrase

-- ---- types

-- of names there is one at least
abbrev SomeNames : Type 0
SomeNames = (ns : List Name) × (ns ≢ [])

some_names_covered : (k : ℕ) → Covers k rules.names (λ (x : SomeNames) g. der.names x.0 g)
unfolding rules.names
some_names_covered k =
    as_part (seq (a_name k) (many (seq (a_sign k Comma) (a_name k)))) (λ x. (x.0 ∷ map (λ y. y.1) x.1, λ e. absurd cc))
    (λ x g. ap (der.name x.0) (each_map (λ y h. der.word (Sign Comma) (der.name y h)) (λ y. y.1) x.1 g))

names_covered : (k : ℕ) → Covers k rules.names der.names
unfolding rules.names
names_covered k = some_listed Comma (a_name k)

bound_covered : (k : ℕ) → Covers k rules.bound der.bound
unfolding rules.bound
bound_covered k =
    alt (as_part (a_number k) (λ x. bounds.Number x.0 x.1) (λ x g. refl))
    (alt (as_part (seq (a_sign_at k Minus) (a_value k)) (λ x. bounds.Negative x.0 x.1) (λ x g. refl)) (as_part (a_name k) (λ n. bounds.Named n) (λ n g. refl)))

-- a type, and what stands in its brackets
record TypeIn : Type 0 where
  kind : Kind
  inside : Forest → Forest
  same : inside none ≡ der.type_inside kind

abbrev type_in : (k : Kind) (inside : Forest → Forest) → inside none ≡ der.type_inside k → TypeIn
type_in k inside same = record { kind = k; inside = inside; same = same }

abbrev put_type : TypeIn → Forest → Forest
put_type x g = x.inside g

element_covered : {k : ℕ} → Nests k → Covers k rules.element_rest (λ (t : Kind) g. der.word (Key KeyOf) (der.type_phrase t g))
unfolding rules.element_rest
element_covered {k = k} n = as_part (seq (a_key k KeyOf) n.types) (λ x. x.1) (λ x g. refl)

plain_covered : (k : ℕ) → Covers k rules.plain_type put_type
unfolding rules.plain_type
plain_covered k =
    alt (as_part (a_key_at k KeyInteger) (λ at. type_in (syn.Integer at) (λ g. der.word_at at (Key KeyInteger) g) refl) (λ x g. refl))
    (alt (as_part (a_key_at k KeyBoolean) (λ at. type_in (syn.Boolean at) (λ g. der.word_at at (Key KeyBoolean) g) refl) (λ x g. refl))
    (alt (as_part (a_key_at k KeyChar) (λ at. type_in (syn.Character at) (λ g. der.word_at at (Key KeyChar) g) refl) (λ x g. refl))
    (alt (as_part (a_key_at k KeyString) (λ at. type_in (syn.String at) (λ g. der.word_at at (Key KeyString) g) refl) (λ x g. refl))
    (as_part (a_name k) (λ n. type_in (syn.Named n) (λ g. der.name n g) refl) (λ x g. refl)))))

type_covered : {k : ℕ} → Nests k → Covers k rules.type_rule put_type
unfolding rules.type_rule rules.array_rest
type_covered {k = k} n =
    alt (plain_covered k)
    (alt
    (as_part (seq (a_key_at k KeyArray) (seq (a_sign k OpensIndex) (seq (bound_covered k) (seq (a_sign k RangeSign) (seq (bound_covered k) (seq (a_sign k ClosesIndex) (element_covered n)))))))
    (λ x. type_in (syn.Array x.0 x.1.1.0 x.1.1.1.1.0 x.1.1.1.1.1.1)
    (λ g. der.word_at x.0 (Key KeyArray) (der.word (Sign OpensIndex) (der.bound x.1.1.0 (der.word (Sign RangeSign) (der.bound x.1.1.1.1.0 (der.word (Sign ClosesIndex) (der.word (Key KeyOf) (der.type_phrase x.1.1.1.1.1.1 g))))))))
    refl)
    (λ x g. refl))
    (alt (as_part (seq (a_key_at k KeySet) (element_covered n)) (λ x. type_in (syn.Set x.0 x.1) (λ g. der.word_at x.0 (Key KeySet) (der.word (Key KeyOf) (der.type_phrase x.1 g))) refl) (λ x g. refl))
    (as_part (seq (a_key_at k KeyBag) (element_covered n)) (λ x. type_in (syn.Bag x.0 x.1) (λ g. der.word_at x.0 (Key KeyBag) (der.word (Key KeyOf) (der.type_phrase x.1 g))) refl) (λ x g. refl))))

-- ---- expressions

abbrev to_exprs : List Expr → Exprs
to_exprs [] = syn.no_expr
to_exprs (e ∷ es) = syn.expr e (to_exprs es)

more_same : (es : List Expr) (g : Forest) → der.each (λ e h. der.word (Sign Comma) (der.value e h)) es g ≡ der.more_exprs (to_exprs es) g
more_same [] g = refl
more_same (e ∷ es) g = ap (λ x. der.word (Sign Comma) (der.value e x)) (more_same es g)

exprs_same : (es : List Expr) (g : Forest) → der.separated (Sign Comma) der.value es g ≡ der.exprs (to_exprs es) g
exprs_same [] g = refl
exprs_same (e ∷ es) g = ap (λ x. der.value e x) (more_same es g)

some_arguments : {k : ℕ} → Nests k → Covers k rules.arguments der.exprs
unfolding rules.arguments
some_arguments n = as_part (any_listed Comma n.exprs) to_exprs exprs_same

arguments_covered : {k : ℕ} → Nests k → Covers k rules.argument_list der.enclosed
unfolding rules.argument_list
arguments_covered {k = k} n = as_part (seq (a_sign k Opens) (seq (some_arguments n) (a_sign k Closes))) (λ x. x.1.0) (λ x g. refl)

step_covered : {k : ℕ} → Nests k → Covers k rules.selector der.step
unfolding rules.selector
step_covered {k = k} n =
    alt (as_part (seq (a_sign_at k Period) (a_name k)) (λ x. syn.Field x.0 x.1) (λ x g. refl))
    (as_part (seq (a_sign_at k OpensIndex) (seq n.exprs (a_sign k ClosesIndex))) (λ x. syn.Index x.0 x.1.0) (λ x g. refl))

abbrev to_path : List syn.Step → Path
to_path [] = syn.here
to_path (s ∷ ss) = syn.to s (to_path ss)

path_same : (ss : List syn.Step) (g : Forest) → der.each der.step ss g ≡ der.path (to_path ss) g
path_same [] g = refl
path_same (s ∷ ss) g = ap (der.step s) (path_same ss g)

path_covered : {k : ℕ} → Nests k → Covers k rules.selectors der.path
unfolding rules.selectors
path_covered n = as_part (many (step_covered n)) to_path path_same

variable_covered : {k : ℕ} → Nests k → Covers k rules.designator (λ (x : Name × Path) g. der.name x.0 (der.path x.1 g))
unfolding rules.designator
variable_covered {k = k} n = seq (a_name k) (path_covered n)

parentheses_covered : {k : ℕ} → Nests k → Covers k rules.in_parentheses (λ (e : Expr) g. der.word (Sign Opens) (der.value e (der.word (Sign Closes) g)))
unfolding rules.in_parentheses
parentheses_covered {k = k} n = as_part (seq (a_sign k Opens) (seq n.exprs (a_sign k Closes))) (λ x. x.1.0) (λ x g. refl)

-- what stands behind a name
data NamedRest : Type 0 where
  called : Exprs → NamedRest
  invoked : Name → Exprs → NamedRest
  stepped : Path → NamedRest

abbrev put_named : NamedRest → Forest → Forest
put_named (called es) g = der.enclosed es g
put_named (invoked m es) g = der.word (Sign Dollar) (der.name m (der.enclosed es g))
put_named (stepped p) g = der.path p g

invocation_covered : {k : ℕ} → Nests k → Covers k rules.invocation_rest (λ (x : Name × Exprs) g. der.name x.0 (der.enclosed x.1 g))
unfolding rules.invocation_rest
invocation_covered {k = k} n = seq (a_name k) (arguments_covered n)

named_covered : {k : ℕ} → Nests k → Covers k rules.named_rest put_named
unfolding rules.named_rest
named_covered {k = k} n =
    alt (as_part (arguments_covered n) (λ es. called es) (λ x g. refl))
    (alt (as_part (seq (a_sign k Dollar) (invocation_covered n)) (λ x. invoked x.1.0 x.1.1) (λ x g. refl)) (as_part (path_covered n) (λ p. stepped p) (λ x g. refl)))

-- a factor, and what stands in its brackets
record FactorIn : Type 0 where
  expr : Expr
  inside : Forest → Forest
  same : (g : Forest) → group (Phrase FactorPhrase) (inside none) g ≡ der.operand expr g

abbrev factor_in : (e : Expr) (inside : Forest → Forest) → ((g : Forest) → group (Phrase FactorPhrase) (inside none) g ≡ der.operand e g) → FactorIn
factor_in e inside same = record { expr = e; inside = inside; same = same }

abbrev put_factor : FactorIn → Forest → Forest
put_factor x g = x.inside g

abbrev named_factor : Name → NamedRest → FactorIn
named_factor n (called es) = factor_in (Expr.Call n es) (λ g. der.name n (der.enclosed es g)) (λ g. refl)
named_factor n (invoked m es) = factor_in (Expr.Invoke n m es) (λ g. der.name n (der.word (Sign Dollar) (der.name m (der.enclosed es g)))) (λ g. refl)
named_factor n (stepped p) = factor_in (syn.Get n p) (λ g. der.name n (der.path p g)) (λ g. refl)

named_same : (n : Name) (r : NamedRest) (g : Forest) → der.name n (put_named r g) ≡ put_factor (named_factor n r) g
named_same n (called es) g = refl
named_same n (invoked m es) g = refl
named_same n (stepped p) g = refl

factor_covered : {k : ℕ} → Nests k → Covers k rules.factor_rule put_factor
unfolding rules.factor_rule rules.designator_in_parentheses
factor_covered {k = k} n =
    alt (as_part (a_number k) (λ x. factor_in (syn.Number x.0 x.1) (λ g. der.word_at x.0 (kind.Number x.1) g) (λ g. refl)) (λ x g. refl))
    (alt (as_part (a_char k) (λ x. factor_in (syn.Char x.0 x.1) (λ g. der.word_at x.0 (kind.Char x.1) g) (λ g. refl)) (λ x g. refl))
    (alt (as_part (a_text k) (λ x. factor_in (syn.Text x.0 x.1) (λ g. der.word_at x.0 (kind.Text x.1) g) (λ g. refl)) (λ x g. refl))
    (alt (as_part (a_key_at k KeyTrue) (λ at. factor_in (syn.Truth at true) (λ g. der.word_at at (Key KeyTrue) g) (λ g. refl)) (λ x g. refl))
    (alt (as_part (a_key_at k KeyFalse) (λ at. factor_in (syn.Truth at false) (λ g. der.word_at at (Key KeyFalse) g) (λ g. refl)) (λ x g. refl))
    (alt (as_part (seq (a_key_at k KeyNot) n.factors) (λ x. factor_in (syn.Not x.0 x.1) (λ g. der.word_at x.0 (Key KeyNot) (der.operand x.1 g)) (λ g. refl)) (λ x g. refl))
    (alt (as_part (seq (a_sign_at k Minus) n.factors) (λ x. factor_in (syn.Negative x.0 x.1) (λ g. der.word_at x.0 (Sign Minus) (der.operand x.1 g)) (λ g. refl)) (λ x g. refl))
    (alt
    (as_part (seq (a_sign_at k Opens) (seq n.exprs (a_sign k Closes)))
    (λ x. factor_in (syn.Parentheses x.0 x.1.0) (λ g. der.word_at x.0 (Sign Opens) (der.value x.1.0 (der.word (Sign Closes) g))) (λ g. refl)) (λ x g. refl))
    (alt
    (as_part (seq (a_key_at k KeyFrom) (seq (a_sign k Opens) (seq (variable_covered n) (a_sign k Closes))))
    (λ x. factor_in (syn.From x.0 x.1.1.0.0 x.1.1.0.1) (λ g. der.word_at x.0 (Key KeyFrom) (der.word (Sign Opens) (der.name x.1.1.0.0 (der.path x.1.1.0.1 (der.word (Sign Closes) g))))) (λ g. refl)) (λ x g. refl))
    (alt
    (as_part (seq (a_key_at k KeySize) (parentheses_covered n))
    (λ x. factor_in (syn.Size x.0 x.1) (λ g. der.word_at x.0 (Key KeySize) (der.word (Sign Opens) (der.value x.1 (der.word (Sign Closes) g)))) (λ g. refl)) (λ x g. refl))
    (alt
    (as_part (seq (a_key_at k KeyOrd) (parentheses_covered n))
    (λ x. factor_in (syn.Ordinal x.0 x.1) (λ g. der.word_at x.0 (Key KeyOrd) (der.word (Sign Opens) (der.value x.1 (der.word (Sign Closes) g)))) (λ g. refl)) (λ x g. refl))
    (as_part (seq (a_name k) (named_covered n)) (λ x. named_factor x.0 x.1) (λ x g. named_same x.0 x.1 g))))))))))))

-- ---- chains of operators

-- an operator of this level, and links of it
record OperatorAt (l : Level) : Type 0 where
  operator : Operator
  at : links_of operator ≡ l

record LinksAt (l : Level) : Type 0 where
  links : Links
  at : der.level links ≡ l

abbrev put_operator : {l : Level} → OperatorAt l → Forest → Forest
put_operator x g = der.word (operator_token x.operator) g

abbrev links_to : Links → Forest → Forest
links_to syn.no_link g = g
links_to (syn.link o e ls) g = der.word (operator_token o) (der.operand e (links_to ls g))

links_end : (ls : Links) → links_to ls none ≡ der.links ls
links_end syn.no_link = refl
links_end (syn.link o e ls) = ap (λ x. der.word (operator_token o) (der.operand e x)) (links_end ls)

abbrev put_links : {l : Level} → LinksAt l → Forest → Forest
put_links x g = links_to x.links g

abbrev to_links : {l : Level} → List (OperatorAt l × Expr) → Links
to_links [] = syn.no_link
to_links (x ∷ xs) = syn.link x.0.operator x.1 (to_links xs)

links_same : {l : Level} (xs : List (OperatorAt l × Expr)) (g : Forest) → der.each (λ x h. put_operator x.0 (der.operand x.1 h)) xs g ≡ links_to (to_links xs) g
links_same [] g = refl
links_same (x ∷ xs) g = ap (λ y. put_operator x.0 (der.operand x.1 y)) (links_same xs g)

abbrev some_links : {l : Level} → OperatorAt l × Expr → List (OperatorAt l × Expr) → LinksAt l
some_links x xs = record { links = syn.link x.0.operator x.1 (to_links xs); at = x.0.at }

abbrev operator_at : (o : Operator) → OperatorAt (links_of o)
operator_at o = record { operator = o; at = refl }

operator_covered : (k : ℕ) (l : Level) → Covers k (rules.operator l) (put_operator {l = l})
unfolding rules.operator
operator_covered k Term =
    alt (as_part (a_sign k Times) (λ u. operator_at op.Multiply) (λ u g. refl))
    (alt (as_part (a_sign k Over) (λ u. operator_at op.Divide) (λ u g. refl)) (as_part (a_sign k Percent) (λ u. operator_at op.Remainder) (λ u g. refl)))
operator_covered k Sum =
    alt (as_part (a_sign k Plus) (λ u. operator_at op.Add) (λ u g. refl))
    (alt (as_part (a_sign k Minus) (λ u. operator_at op.Subtract) (λ u g. refl)) (as_part (a_sign k Joins) (λ u. operator_at op.Join) (λ u g. refl)))
operator_covered k Relation =
    alt (as_part (a_sign k Equals) (λ u. operator_at op.Equal) (λ u g. refl))
    (alt (as_part (a_sign k Differs) (λ u. operator_at op.Different) (λ u g. refl))
    (alt (as_part (a_sign k Less) (λ u. operator_at op.Less) (λ u g. refl))
    (alt (as_part (a_sign k AtMost) (λ u. operator_at op.AtMost) (λ u g. refl))
    (alt (as_part (a_sign k Greater) (λ u. operator_at op.Greater) (λ u g. refl))
    (alt (as_part (a_sign k AtLeast) (λ u. operator_at op.AtLeast) (λ u g. refl)) (as_part (a_key k KeyIn) (λ u. operator_at op.In) (λ u g. refl)))))))
operator_covered k Conjunction = as_part (a_key k KeyAnd) (λ u. operator_at op.And) (λ u g. refl)
operator_covered k Disjunction = as_part (a_key k KeyOr) (λ u. operator_at op.Or) (λ u g. refl)

several_covered : {k : ℕ} (l : Level) {f : Form} → Covers k f der.operand
    → Covers k ((rules.operator l ⨾ f) ⨾ Many (rules.operator l ⨾ f)) (put_links {l = l})
several_covered {k = k} l covers =
    as_part (seq (seq (operator_covered k l) covers) (many (seq (operator_covered k l) covers))) (λ x. some_links x.0 x.1) (λ x g. ap (λ y. put_operator x.0.0 (der.operand x.0.1 y)) (links_same x.1 g))

links_covered : {k : ℕ} (l : Level) {f : Form} → Covers k f der.operand → Covers k (rules.links l f) (put_links {l = l})
unfolding rules.links
links_covered Term covers = several_covered Term covers
links_covered Sum covers = several_covered Sum covers
links_covered {k = k} Relation covers = as_part (seq (operator_covered k Relation) covers) (λ x. some_links x []) (λ x g. refl)
links_covered Conjunction covers = several_covered Conjunction covers
links_covered Disjunction covers = several_covered Disjunction covers

abbrev chain_of : {l : Level} → Expr → Option (LinksAt l) → Expr
chain_of e None = e
chain_of e (Some x) = syn.Chain e x.links

chain_same : {l : Level} (e : Expr) (o : Option (LinksAt l)) (g : Forest) → der.operand e (der.if_any (λ x h. group (ChainOf l) (links_to x.links none) h) o g) ≡ der.operand (chain_of e o) g
chain_same e None g = refl
chain_same {l = l} e (Some x) g =
    ap (λ y. der.operand e (group (ChainOf l) y g)) (links_end x.links) ∙ ap (λ (m : Level). der.operand e (group (ChainOf m) (der.links x.links) g)) (sym x.at)

chain_covered : {k : ℕ} (l : Level) {f : Form} → Covers k f der.operand → Covers k (rules.chain l f) der.operand
unfolding rules.chained
chain_covered l covers = as_part (seq covers (maybe (in_chain (links_covered l covers)))) (λ x. chain_of x.0 x.1) (λ x g. chain_same x.0 x.1 g)

expression_covered : {k : ℕ} → Nests k → Covers k rules.disjunction der.operand
unfolding rules.term rules.sum rules.relation rules.conjunction rules.disjunction
expression_covered n =
    chain_covered Disjunction (chain_covered Conjunction (chain_covered Relation (chain_covered Sum (chain_covered Term n.factors))))

-- ---- statements

abbrev to_stmts : List Stmt → Stmts
to_stmts [] = syn.no_stmt
to_stmts (s ∷ ss) = syn.stmt s (to_stmts ss)

abbrev put_line : Stmt → Forest → Forest
put_line s g = group (Phrase StatementPhrase) (der.stmt_inside s) (der.word (Sign Semicolon) g)

stmts_same : (ss : List Stmt) (g : Forest) → der.each put_line ss g ≡ der.stmts (to_stmts ss) g
stmts_same [] g = refl
stmts_same (s ∷ ss) g = ap (put_line s) (stmts_same ss g)

line_covered : {k : ℕ} → Nests k → Covers k rules.statement_line put_line
unfolding rules.statement_line
line_covered {k = k} n = as_part (seq n.stmts (a_sign k Semicolon)) (λ x. x.0) (λ x g. refl)

stmts_covered : {k : ℕ} → Nests k → Covers k rules.statements der.stmts
unfolding rules.statements
stmts_covered n = as_part (many (line_covered n)) to_stmts stmts_same

-- a test and the statements behind it
abbrev put_when : Expr × Stmts → Forest → Forest
put_when x g = der.value x.0 (der.word (Key KeyThen) (der.stmts x.1 g))

when_covered : {k : ℕ} → Nests k → Covers k rules.when put_when
unfolding rules.when
when_covered {k = k} n = as_part (seq n.exprs (seq (a_key k KeyThen) (stmts_covered n))) (λ x. (x.0, x.1.1)) (λ x g. refl)

elsif_covered : {k : ℕ} → Nests k → Covers k rules.elsif_arm (λ (x : Expr × Stmts) g. der.word (Key KeyElsif) (put_when x g))
unfolding rules.elsif_arm
elsif_covered {k = k} n = as_part (seq (a_key k KeyElsif) (when_covered n)) (λ x. x.1) (λ x g. refl)

else_covered : {k : ℕ} → Nests k → Covers k rules.otherwise (λ (ss : Stmts) g. der.word (Key KeyElse) (der.stmts ss g))
unfolding rules.otherwise
else_covered {k = k} n = as_part (seq (a_key k KeyElse) (stmts_covered n)) (λ x. x.1) (λ x g. refl)

abbrev to_arms : List (Expr × Stmts) → Option Stmts → Arms
to_arms [] None = syn.no_arm
to_arms [] (Some ss) = syn.arm (syn.Otherwise ss) syn.no_arm
to_arms (x ∷ xs) o = syn.arm (syn.When x.0 x.1) (to_arms xs o)

arms_same : (xs : List (Expr × Stmts)) (o : Option Stmts) (g : Forest)
    → der.each (λ x h. der.word (Key KeyElsif) (put_when x h)) xs (der.if_any (λ ss h. der.word (Key KeyElse) (der.stmts ss h)) o g) ≡ der.more_arms (to_arms xs o) g
arms_same [] None g = refl
arms_same [] (Some ss) g = refl
arms_same (x ∷ xs) o g = ap (λ y. der.word (Key KeyElsif) (put_when x y)) (arms_same xs o g)

whens_covered : {k : ℕ} → Nests k → Covers k rules.when_arms (λ (x : (Expr × Stmts) × List (Expr × Stmts)) g. put_when x.0 (der.each (λ y h. der.word (Key KeyElsif) (put_when y h)) x.1 g))
unfolding rules.when_arms rules.elsif_arms
whens_covered n = seq (when_covered n) (many (elsif_covered n))

last_covered : {k : ℕ} → Nests k → Covers k rules.else_arm (λ (o : Option Stmts) g. der.if_any (λ ss h. der.word (Key KeyElse) (der.stmts ss h)) o g)
unfolding rules.else_arm
last_covered n = maybe (else_covered n)

arms_covered : {k : ℕ} → Nests k → Covers k rules.arms der.arms
unfolding rules.arms
arms_covered n =
    as_part (seq (whens_covered n) (last_covered n)) (λ x. syn.arm (syn.When x.0.0.0 x.0.0.1) (to_arms x.0.1 x.1)) (λ x g. ap (λ y. put_when x.0.0 y) (arms_same x.0.1 x.1 g))

-- a statement, and what stands in its brackets
record StmtIn : Type 0 where
  stmt : Stmt
  inside : Forest → Forest
  same : inside none ≡ der.stmt_inside stmt

abbrev stmt_in : (s : Stmt) (inside : Forest → Forest) → inside none ≡ der.stmt_inside s → StmtIn
stmt_in s inside same = record { stmt = s; inside = inside; same = same }

abbrev put_stmt : StmtIn → Forest → Forest
put_stmt x g = x.inside g

on_covered : {k : ℕ} → Nests k → Covers k rules.on_member (λ (o : Option Expr) g. der.if_any der.on_value o g)
unfolding rules.on_member
on_covered {k = k} n = maybe (as_part (seq (a_key k KeyOn) n.exprs) (λ x. x.1) (λ x g. refl))

record Pair : Type 0 where
  element : Expr
  name : Name
  path : Path

abbrev put_pair : Pair → Forest → Forest
put_pair x g = der.word (Sign Opens) (der.value x.element (der.word (Sign Comma) (der.name x.name (der.path x.path (der.word (Sign Closes) g)))))

abbrev pair_of : Expr → Name → Path → Pair
pair_of e n p = record { element = e; name = n; path = p }

pair_covered : {k : ℕ} → Nests k → Covers k rules.element_and_designator put_pair
unfolding rules.element_and_designator
pair_covered {k = k} n =
    as_part (seq (a_sign k Opens) (seq n.exprs (seq (a_sign k Comma) (seq (variable_covered n) (a_sign k Closes))))) (λ x. pair_of x.1.0 x.1.1.1.0.0 x.1.1.1.0.1) (λ x g. refl)

-- what stands behind a name
data StmtRest : Type 0 where
  calls : Exprs → StmtRest
  invokes : Name → Exprs → StmtRest
  assigns : Path → Expr → StmtRest

abbrev put_rest : StmtRest → Forest → Forest
put_rest (calls es) g = der.enclosed es g
put_rest (invokes m es) g = der.word (Sign Dollar) (der.name m (der.enclosed es g))
put_rest (assigns p e) g = der.path p (der.word (Sign Becomes) (der.value e g))

rest_covered : {k : ℕ} → Nests k → Covers k rules.named_statement_rest put_rest
unfolding rules.named_statement_rest rules.assignment_rest
rest_covered {k = k} n =
    alt (as_part (arguments_covered n) (λ es. calls es) (λ x g. refl))
    (alt (as_part (seq (a_sign k Dollar) (invocation_covered n)) (λ x. invokes x.1.0 x.1.1) (λ x g. refl))
    (as_part (seq (path_covered n) (seq (a_sign k Becomes) n.exprs)) (λ x. assigns x.0 x.1.1) (λ x g. refl)))

abbrev named_stmt : Name → StmtRest → StmtIn
named_stmt n (calls es) = stmt_in (Stmt.Call n es) (λ g. der.name n (der.enclosed es g)) refl
named_stmt n (invokes m es) = stmt_in (Stmt.Invoke n m es) (λ g. der.name n (der.word (Sign Dollar) (der.name m (der.enclosed es g)))) refl
named_stmt n (assigns p e) = stmt_in (syn.Assign n p e) (λ g. der.name n (der.path p (der.word (Sign Becomes) (der.value e g)))) refl

rest_same : (n : Name) (r : StmtRest) (g : Forest) → der.name n (put_rest r g) ≡ put_stmt (named_stmt n r) g
rest_same n (calls es) g = refl
rest_same n (invokes m es) g = refl
rest_same n (assigns p e) g = refl

stmt_covered : {k : ℕ} → Nests k → Covers k rules.statement_rule put_stmt
unfolding rules.statement_rule rules.return_rest rules.if_rest rules.while_rest rules.for_rest rules.repeat_rest rules.fork_rest
stmt_covered {k = k} n =
    alt (as_part (seq (a_key_at k KeyReturn) (maybe n.exprs)) (λ x. stmt_in (syn.Return x.0 x.1) (λ g. der.word_at x.0 (Key KeyReturn) (der.if_any der.value x.1 g)) refl) (λ x g. refl))
    (alt
    (as_part (seq (a_key_at k KeyIf) (seq (arms_covered n) (a_key k KeyFi))) (λ x. stmt_in (syn.If x.0 x.1.0) (λ g. der.word_at x.0 (Key KeyIf) (der.arms x.1.0 (der.word (Key KeyFi) g))) refl) (λ x g. refl))
    (alt
    (as_part (seq (a_key_at k KeyWhile) (seq n.exprs (seq (a_key k KeyDo) (seq (stmts_covered n) (a_key k KeyOd)))))
    (λ x. stmt_in (syn.While x.0 x.1.0 x.1.1.1.0) (λ g. der.word_at x.0 (Key KeyWhile) (der.value x.1.0 (der.word (Key KeyDo) (der.stmts x.1.1.1.0 (der.word (Key KeyOd) g))))) refl) (λ x g. refl))
    (alt
    (as_part
    (seq (a_key_at k KeyFor) (seq (a_name k) (seq (a_key k KeyIn) (seq n.exprs (seq (a_sign k RangeSign) (seq n.exprs (seq (a_key k KeyDo) (seq (stmts_covered n) (a_key k KeyOd)))))))))
    (λ x. stmt_in (syn.For x.0 x.1.0 x.1.1.1.0 x.1.1.1.1.1.0 x.1.1.1.1.1.1.1.0)
    (λ g. der.word_at x.0 (Key KeyFor) (der.name x.1.0 (der.word (Key KeyIn) (der.value x.1.1.1.0 (der.word (Sign RangeSign) (der.value x.1.1.1.1.1.0 (der.word (Key KeyDo) (der.stmts x.1.1.1.1.1.1.1.0 (der.word (Key KeyOd) g)))))))))
    refl)
    (λ x g. refl))
    (alt
    (as_part (seq (a_key_at k KeyRepeat) (seq (stmts_covered n) (seq (a_key k KeyUntil) n.exprs)))
    (λ x. stmt_in (syn.Repeat x.0 x.1.0 x.1.1.1) (λ g. der.word_at x.0 (Key KeyRepeat) (der.stmts x.1.0 (der.word (Key KeyUntil) (der.value x.1.1.1 g)))) refl) (λ x g. refl))
    (alt
    (as_part (seq (a_key_at k KeyFork) (seq (a_name k) (seq (arguments_covered n) (on_covered n))))
    (λ x. stmt_in (syn.Fork x.0 x.1.0 x.1.1.0 x.1.1.1) (λ g. der.word_at x.0 (Key KeyFork) (der.name x.1.0 (der.enclosed x.1.1.0 (der.if_any der.on_value x.1.1.1 g)))) refl) (λ x g. refl))
    (alt (as_part (seq (a_key_at k KeyWriteLine) (arguments_covered n)) (λ x. stmt_in (syn.WriteLine x.0 x.1) (λ g. der.word_at x.0 (Key KeyWriteLine) (der.enclosed x.1 g)) refl) (λ x g. refl))
    (alt
    (as_part (seq (a_key_at k KeyInsert) (pair_covered n)) (λ x. stmt_in (syn.Insert x.0 x.1.element x.1.name x.1.path) (λ g. der.word_at x.0 (Key KeyInsert) (put_pair x.1 g)) refl) (λ x g. refl))
    (alt
    (as_part (seq (a_key_at k KeyDelete) (pair_covered n)) (λ x. stmt_in (syn.Delete x.0 x.1.element x.1.name x.1.path) (λ g. der.word_at x.0 (Key KeyDelete) (put_pair x.1 g)) refl) (λ x g. refl))
    (as_part (seq (a_name k) (rest_covered n)) (λ x. named_stmt x.0 x.1) (λ x g. rest_same x.0 x.1 g))))))))))

-- ---- all nested phrases

none_shorter : {X : Type 0} (n : Form) (p : X → Forest → Forest) → Covers 0 n p
none_shorter n p ms ts rest less d = absurd (omega (arith, less))

nests : (k : ℕ) → Nests k
nests zero = record {
  exprs = none_shorter (Nested ExpressionPhrase) der.value;
  factors = none_shorter (Nested FactorPhrase) der.operand;
  stmts = none_shorter (Nested StatementPhrase) (λ s g. group (Phrase StatementPhrase) (der.stmt_inside s) g);
  types = none_shorter (Nested TypeNest) der.type_phrase;
}
nests (suc k) =
    let n = nests k in
    record {
      exprs = as_part (in_phrase ExpressionPhrase (expression_covered n)) (λ e. e) (λ e g. refl);
      factors = as_part (in_phrase FactorPhrase (factor_covered n)) (λ x. x.expr) (λ x g. x.same g);
      stmts = as_part (in_phrase StatementPhrase (stmt_covered n)) (λ x. x.stmt) (λ x g. ap (λ i. group (Phrase StatementPhrase) i g) x.same);
      types = as_part (in_phrase TypeNest (type_covered n)) (λ x. x.kind) (λ x g. ap (λ i. group (Phrase TypeNest) i g) x.same);
    }

-- ---- declarations

variables_covered : {k : ℕ} → Nests k → Covers k rules.variable_line der.variables
unfolding rules.variable_line
variables_covered {k = k} n = as_part (seq (names_covered k) (seq (a_sign k Colon) (seq n.types (a_sign k Semicolon)))) (λ x. made_variables x.0 x.1.1.0) (λ x g. refl)

all_variables_covered : {k : ℕ} → Nests k → Covers k rules.variables (λ (vs : List Variables) g. der.each der.variables vs g)
unfolding rules.variables
all_variables_covered n = many (variables_covered n)

typed_name_covered : {k : ℕ} → Nests k → Covers k rules.typed_name der.typed_name
unfolding rules.typed_name
typed_name_covered {k = k} n = as_part (seq (a_name k) (seq (a_sign k Colon) n.types)) (λ x. made_typed x.0 x.1.1) (λ x g. refl)

typed_names_covered : {k : ℕ} → Nests k → Covers k rules.typed_names (λ (ts : List TypedName) g. der.separated (Sign Semicolon) der.typed_name ts g)
unfolding rules.typed_names
typed_names_covered n = any_listed Semicolon (typed_name_covered n)

result_covered : {k : ℕ} → Nests k → Covers k rules.result (λ (r : Option Kind) g. der.if_any der.result r g)
unfolding rules.result
result_covered {k = k} n = maybe (as_part (seq (a_sign k Colon) n.types) (λ x. x.1) (λ x g. refl))

head_covered : {k : ℕ} → Nests k → Covers k rules.head der.head
unfolding rules.head
head_covered {k = k} n =
    as_part (seq (a_key_at k KeyOperation) (seq (a_name k) (seq (a_sign k Opens) (seq (typed_names_covered n) (seq (a_sign k Closes) (result_covered n))))))
    (λ x. made_head x.0 x.1.0 x.1.1.1.0 x.1.1.1.1.1) (λ x g. refl)

head_line_covered : {k : ℕ} → Nests k → Covers k rules.head_line der.head_line
unfolding rules.head_line
head_line_covered {k = k} n = as_part (seq (head_covered n) (a_sign k Semicolon)) (λ x. x.0) (λ x g. refl)

mode_covered : (k : ℕ) → Covers k rules.mode der.mode
unfolding rules.mode
mode_covered k =
    alt (as_part (a_key k KeyShared) (λ u. modes.Shared) (λ x g. refl)) (alt (as_part (a_key k KeyOut) (λ u. modes.Out) (λ x g. refl)) (as_part (nothing_there k) (λ u. modes.Value) (λ x g. refl)))

parameter_covered : {k : ℕ} → Nests k → Covers k rules.parameter der.parameter
unfolding rules.parameter
parameter_covered {k = k} n = as_part (seq (a_name k) (seq (a_sign k Colon) (seq (mode_covered k) n.types))) (λ x. made_parameter x.0 x.1.1.0 x.1.1.1) (λ x g. refl)

parameters_covered : {k : ℕ} → Nests k → Covers k rules.parameters (λ (ps : List syn.Parameter) g. der.separated (Sign Semicolon) der.parameter ps g)
unfolding rules.parameters
parameters_covered n = any_listed Semicolon (parameter_covered n)

block_covered : {k : ℕ} → Nests k → Covers k rules.block der.block
unfolding rules.block
block_covered {k = k} n =
    as_part (seq (all_variables_covered n) (seq (a_key k KeyBegin) (seq (stmts_covered n) (seq (a_key k KeyEnd) (a_sign k Semicolon))))) (λ x. made_block x.0 x.1.1.0) (λ x g. refl)

guard_covered : {k : ℕ} → Nests k → Covers k rules.guard der.guard
unfolding rules.guard
guard_covered {k = k} n =
    as_part (seq (a_key_at k KeyGuard) (seq n.exprs (seq (a_key k KeyDo) (seq (stmts_covered n) (seq (a_key k KeyOd) (a_sign k Semicolon))))))
    (λ x. made_guard x.0 x.1.0 x.1.1.1.0) (λ x g. refl)

body_covered : {k : ℕ} → Nests k → Covers k rules.operation_body der.body
unfolding rules.operation_body rules.guards
body_covered n = alt (as_part (seq (guard_covered n) (many (guard_covered n))) (λ x. syn.Guarded x.0 x.1) (λ x g. refl)) (as_part (stmts_covered n) (λ ss. syn.Plain ss) (λ x g. refl))

operation_covered : {k : ℕ} → Nests k → Covers k rules.operation der.operation
unfolding rules.operation
operation_covered {k = k} n =
    as_part (seq (head_covered n) (seq (a_sign k Semicolon) (seq (all_variables_covered n) (seq (a_key k KeyBegin) (seq (body_covered n) (seq (a_key k KeyEnd) (a_sign k Semicolon)))))))
    (λ x. made_operation x.0 x.1.1.0 x.1.1.1.1.0) (λ x g. refl)

field_covered : {k : ℕ} → Nests k → Covers k rules.field der.field
unfolding rules.field
field_covered {k = k} n = as_part (seq (typed_name_covered n) (a_sign k Semicolon)) (λ x. x.0) (λ x g. refl)

-- a definition with parts: a record with a field at least, or an enumeration with a name
abbrev pub HasParts : Definition → Type 0
HasParts (syn.Record at ts) = ts ≢ []
HasParts (syn.Enumeration at ns) = ns ≢ []
HasParts (syn.Alias k) = Unit {0}

record Defined : Type 0 where
  of : Definition
  parts : HasParts of

abbrev put_defined : Defined → Forest → Forest
put_defined x g = der.definition x.of g

definition_covered : {k : ℕ} → Nests k → Covers k rules.definition put_defined
unfolding rules.definition rules.record_rest rules.fields rules.enumeration_rest
definition_covered {k = k} n =
    alt (as_part (seq (a_key_at k KeyRecord) (seq (seq (field_covered n) (many (field_covered n))) (a_key k KeyEnd))) (λ x. record { of = syn.Record x.0 (x.1.0.0 ∷ x.1.0.1); parts = λ e. absurd cc }) (λ x g. refl))
    (alt (as_part (seq (a_key_at k KeyEnum) (seq (a_sign k Opens) (seq (some_names_covered k) (a_sign k Closes)))) (λ x. record { of = syn.Enumeration x.0 x.1.1.0.0; parts = x.1.1.0.1 }) (λ x g. refl))
    (as_part n.types (λ t. record { of = syn.Alias t; parts = tt }) (λ x g. refl)))

-- an object type, behind its `object`
data Object : Type 0 where
  specified : Name → List Head → Object
  implemented : Name → List Variables → List Operation → Option Stmts → Object

abbrev put_object : Object → Forest → Forest
put_object (specified n hs) g = der.word (Key KeySpecification) (der.name n (der.word (Sign Semicolon) (der.each der.head_line hs g)))
put_object (implemented n vs os o) g =
    der.word (Key KeyImplementation) (der.name n (der.word (Sign Semicolon) (der.each der.variables vs (der.each der.operation os (der.if_any der.opening o g)))))

opening_covered : {k : ℕ} → Nests k → Covers k rules.opening (λ (o : Option Stmts) g. der.if_any der.opening o g)
unfolding rules.opening
opening_covered {k = k} n = maybe (as_part (seq (a_key k KeyBegin) (stmts_covered n)) (λ x. x.1) (λ x g. refl))

specified_covered : {k : ℕ} → Nests k → Covers k (rules.key KeySpecification ⨾ rules.specification_rest) put_object
unfolding rules.specification_rest rules.heads
specified_covered {k = k} n =
    as_part (seq (a_key k KeySpecification) (seq (a_name k) (seq (a_sign k Semicolon) (many (head_line_covered n))))) (λ x. specified x.1.0 x.1.1.1) (λ x g. refl)

implemented_covered : {k : ℕ} → Nests k → Covers k (rules.key KeyImplementation ⨾ rules.implementation_rest) put_object
unfolding rules.implementation_rest rules.operations
implemented_covered {k = k} n =
    as_part (seq (a_key k KeyImplementation) (seq (a_name k) (seq (a_sign k Semicolon) (seq (all_variables_covered n) (seq (many (operation_covered n)) (opening_covered n))))))
    (λ x. implemented x.1.0 x.1.1.1.0 x.1.1.1.1.0 x.1.1.1.1.1) (λ x g. refl)

object_covered : {k : ℕ} → Nests k → Covers k rules.object_rest (λ (o : Object) g. put_object o (der.ended g))
unfolding rules.object_rest
object_covered {k = k} n = as_part (seq (alt (specified_covered n) (implemented_covered n)) (seq (a_key k KeyEnd) (a_sign k Semicolon))) (λ x. x.0) (λ x g. refl)

-- a declaration whose definition, where it has one, has parts
abbrev pub HasAllParts : Decl → Type 0
HasAllParts (syn.Declares at n d) = HasParts d
HasAllParts _ = Unit {0}

pub record Declared : Type 0 where
  pub decl : Decl
  pub parts : HasAllParts decl

abbrev put_declared : Declared → Forest → Forest
put_declared x g = der.decl x.decl g

abbrev object_declared : Place → Object → Declared
object_declared at (specified n hs) = record { decl = syn.Specification at n hs; parts = tt }
object_declared at (implemented n vs os o) = record { decl = syn.Implementation at n vs os o; parts = tt }

object_same : (at : Place) (o : Object) (g : Forest) → der.word_at at (Key KeyObject) (put_object o (der.ended g)) ≡ put_declared (object_declared at o) g
object_same at (specified n hs) g = refl
object_same at (implemented n vs os o) g = refl

decl_covered : {k : ℕ} → Nests k → Covers k rules.declaration put_declared
unfolding rules.declaration rules.constant_rest rules.type_rest rules.function_rest rules.process_rest
decl_covered {k = k} n =
    alt (as_part (seq (a_key_at k KeyConst) (seq (a_name k) (seq (a_sign k Equals) (seq (bound_covered k) (a_sign k Semicolon))))) (λ x. record { decl = syn.Constant x.0 x.1.0 x.1.1.1.0; parts = tt }) (λ x g. refl))
    (alt (as_part (seq (a_key_at k KeyType) (seq (a_name k) (seq (a_sign k Equals) (seq (definition_covered n) (a_sign k Semicolon))))) (λ x. record { decl = syn.Declares x.0 x.1.0 x.1.1.1.0.of; parts = x.1.1.1.0.parts }) (λ x g. refl))
    (alt (as_part (seq (a_key_at k KeyObject) (object_covered n)) (λ x. object_declared x.0 x.1) (λ x g. object_same x.0 x.1 g))
    (alt
    (as_part (seq (a_key_at k KeyFunction) (seq (a_name k) (seq (a_sign k Opens) (seq (parameters_covered n) (seq (a_sign k Closes) (seq (result_covered n) (seq (a_sign k Semicolon) (block_covered n))))))))
    (λ x. record { decl = syn.Function x.0 x.1.0 x.1.1.1.0 x.1.1.1.1.1.0 x.1.1.1.1.1.1.1; parts = tt }) (λ x g. refl))
    (as_part (seq (a_key_at k KeyProcess) (seq (a_name k) (seq (a_sign k Opens) (seq (parameters_covered n) (seq (a_sign k Closes) (seq (a_sign k Semicolon) (block_covered n)))))))
    (λ x. record { decl = syn.Process x.0 x.1.0 x.1.1.1.0 x.1.1.1.1.1.1; parts = tt }) (λ x g. refl)))))

-- ---- units

abbrev Parts : Type 0
Parts = Option Name × (List Name × List Declared)

abbrev put_parts : Parts → Forest → Forest
put_parts x g = der.if_any der.module_line x.0 (der.each der.import_line x.1.0 (der.each put_declared x.1.1 g))

module_covered : (k : ℕ) → Covers k rules.module_line (λ (o : Option Name) g. der.if_any der.module_line o g)
unfolding rules.module_line
module_covered k = maybe (as_part (seq (a_key k KeyModule) (seq (a_name k) (a_sign k Semicolon))) (λ x. x.1.0) (λ x g. refl))

import_covered : (k : ℕ) → Covers k rules.import_line der.import_line
unfolding rules.import_line
import_covered k = as_part (seq (a_key k KeyImport) (seq (a_name k) (a_sign k Semicolon))) (λ x. x.1.0) (λ x g. refl)

unit_covered : {k : ℕ} → Nests k → Covers k rules.unit put_parts
unfolding rules.unit rules.imports rules.declarations
unit_covered {k = k} n = seq (module_covered k) (seq (many (import_covered k)) (many (decl_covered n)))

-- a syntax with these marks, whose declarations have their parts
pub record Made (ms : List Mark) : Type 0 where
  pub syntax : Syntax
  pub parts : AllByRecursion HasAllParts syntax.declarations
  pub same : der.syntax_marks syntax ≡ ms

all_parts : (ds : List Declared) → AllByRecursion HasAllParts (map (λ d. d.decl) ds)
all_parts [] = tt
all_parts (d ∷ ds) = (d.parts, all_parts ds)

pub made : (ms : List Mark) (tokens : List Token) → IsText ms tokens → Made ms
made ms tokens text =
    let x = unit_covered (nests (suc (length ms))) ms tokens [] (omega arith) text in
    record {
      syntax = made_syntax x.part.0 x.part.1.0 (map (λ d. d.decl) x.part.1.1);
      parts = all_parts x.part.1.1;
      same =
          ap (λ f. flat (der.if_any der.module_line x.part.0 (der.each der.import_line x.part.1.0 f))) (sym (each_map der.decl (λ d. d.decl) x.part.1.1 none))
          ∙ sym (alone ms _ (x.same none));
    }

-- each derivation of a unit is that of a syntax
pub some_syntax : (ms : List Mark) (tokens : List Token) → IsText ms tokens → (s : Syntax) × (der.syntax_marks s ≡ ms)
some_syntax ms tokens text = let x = made ms tokens text in (x.syntax, x.same)
