-- Declarations are told by their derivations: where two forests that begin with one are equal, so are the declarations, and what stands
-- behind them.
use Rattle.std.proofs.Common.{◌≡◌, ℕ, Bool, true, false, cond, List, [], ◌∷◌, Option, Some, None, refl, sym, ap, ◌∙◌, subst, arith}
use Rattle.std.proofs.lemmas.Bool.{true≢false}
use Rattle.orca_base.specs.declared.place.Place.{Place}
use Rattle.orca_lexer.specs.declared.token.Keyword.TheVariants.{KeyBegin, KeyConst, KeyDo, KeyEnd, KeyFunction, KeyGuard, KeyImport, KeyModule, KeyObject, KeyOd, KeyOperation, KeyRecord, KeyShared, KeySpecification, KeyType}
use Rattle.orca_lexer.specs.declared.token.Symbol.TheVariants.{Closes, Colon, Comma, Minus, Opens, Semicolon}
use Rattle.orca_lexer.specs.declared.token.TokenKind.{TokenKind}
use Rattle.orca_lexer.specs.declared.token.TokenKind.TheVariants.{Key, Sign}
use Rattle.orca_tree.specs.declared.tree.Name.{Name}
use Rattle.orca_tree.specs.declared.tree.Bound.{Bound}
use Rattle.orca_tree.specs.declared.tree.Bound.TheVariants as bounds
use Rattle.orca_tree.specs.declared.tree.Mode.{Mode}
use Rattle.orca_tree.specs.declared.tree.Mode.TheVariants as modes
use Rattle.orca_syntax.specs.Syntax as syn
use Rattle.orca_syntax.specs.Syntax.{Expr, Kind, Stmts, Variables, TypedName, Parameter, Head, Guard, Body, Operation, Block, Definition, Decl, Syntax}
use Rattle.orca_syntax.specs.Forest.{Forest, none, token, group}
use Rattle.orca_syntax.specs.Derivation as der
use Rattle.orca_syntax.proofs.Branches.{Full}
use Rattle.orca_syntax.proofs.ReadBack.{place_of, name_of, nowhere, read_whole, operand_back}
use Rattle.orca_syntax.proofs.ReadStatements.{behind_token, read_bound, bound_back, read_type, inside_back, read_stmt, stmt_back}

pub record Told {X : Type 0} (x y : X) (f g : Forest) : Type 0 where
  pub part : x ≡ y
  pub rest : f ≡ g
  pub full : Full f

abbrev pub Tells : {X : Type 0} → (X → Forest → Forest) → Type 0
Tells {X = X} put = (x y : X) (f g : Forest) → Full (put x f) → put x f ≡ put y g → Told x y f g

-- ---- the parts of a forest

abbrev first_place : Forest → Place
first_place (token p k f) = place_of p
first_place _ = nowhere

abbrev first_name : Forest → Name
first_name (token p k f) = name_of p k
first_name _ = record { at = nowhere; text = [] }

abbrev inner : Forest → Forest
inner (group b g f) = g
inner _ = none

abbrev behind_group : Forest → Forest
behind_group (group b g f) = f
behind_group _ = none

-- ---- how a forest begins

abbrev begins_with_token : Forest → Bool
begins_with_token (token p k f) = true
begins_with_token _ = false

abbrev is_key : TokenKind → Bool
is_key (Key w) = true
is_key _ = false

abbrev begins_with_key : Forest → Bool
begins_with_key (token p k f) = is_key k
begins_with_key _ = false

abbrev is_end : TokenKind → Bool
is_end (Sign Closes) = true
is_end (Sign Colon) = true
is_end _ = false

-- the end of a list with separators
abbrev ends : Forest → Bool
ends (token p k f) = is_end k
ends _ = false

abbrev no_colon : Forest → Bool
no_colon (token p (Sign Colon) f) = false
no_colon _ = true

abbrev no_guard : Forest → Bool
no_guard (token p (Key KeyGuard) f) = false
no_guard _ = true

abbrev no_operation : Forest → Bool
no_operation (token p (Key KeyOperation) f) = false
no_operation _ = true

abbrev no_begin : Forest → Bool
no_begin (token p (Key KeyBegin) f) = false
no_begin _ = true

abbrev no_import : Forest → Bool
no_import (token p (Key KeyImport) f) = false
no_import _ = true

abbrev no_module : Forest → Bool
no_module (token p (Key KeyModule) f) = false
no_module _ = true

abbrev is_none : Forest → Bool
is_none none = true
is_none _ = false

-- of two forests that are equal one begins so, and the other not
differ : (test : Forest → Bool) (f g : Forest) → test f ≡ true → test g ≡ false → f ≡ g → ⊥
differ test f g p q e = true≢false (sym p ∙ ap test e ∙ q)

-- ---- lists

cons_same : {X : Type 0} (x y : X) (xs ys : List X) → x ≡ y → xs ≡ ys → x ∷ xs ≡ y ∷ ys
cons_same {X = X} x y xs ys p q = ap (λ z. let l : List X = z ∷ xs in l) p ∙ ap (λ zs. let l : List X = y ∷ zs in l) q

each_told : {X : Type 0} (put : X → Forest → Forest) → Tells put → (stops : Forest → Bool) → ((x : X) (f : Forest) → stops (put x f) ≡ false) → (xs ys : List X) (f g : Forest) → stops f ≡ true → stops g ≡ true
    → Full (der.each put xs f) → der.each put xs f ≡ der.each put ys g → Told xs ys f g
each_told put told stops starts [] [] f g p q h e = record { part = refl; rest = e; full = h }
each_told put told stops starts [] (y ∷ ys) f g p q h e = absurd (differ stops f (put y (der.each put ys g)) p (starts y (der.each put ys g)) e)
each_told put told stops starts (x ∷ xs) [] f g p q h e = absurd (differ stops g (put x (der.each put xs f)) q (starts x (der.each put xs f)) (sym e))
each_told put told stops starts (x ∷ xs) (y ∷ ys) f g p q h e =
    let t = told x y (der.each put xs f) (der.each put ys g) h e in
    let r = each_told put told stops starts xs ys f g p q t.full t.rest in
    record { part = cons_same x y xs ys t.part r.part; rest = r.rest; full = r.full }

separated_told : {X : Type 0} (k : TokenKind) (put : X → Forest → Forest) → Tells put → is_end k ≡ false → ((x : X) (f : Forest) → ends (put x f) ≡ false) → (xs ys : List X) (f g : Forest) → ends f ≡ true → ends g ≡ true
    → Full (der.separated k put xs f) → der.separated k put xs f ≡ der.separated k put ys g → Told xs ys f g
separated_told k put told not_end starts [] [] f g p q h e = record { part = refl; rest = e; full = h }
separated_told k put told not_end starts [] (y ∷ ys) f g p q h e =
    let more = der.each (λ z r. der.word k (put z r)) ys g in absurd (differ ends f (put y more) p (starts y more) e)
separated_told k put told not_end starts (x ∷ xs) [] f g p q h e =
    let more = der.each (λ z r. der.word k (put z r)) xs f in absurd (differ ends g (put x more) q (starts x more) (sym e))
separated_told k put told not_end starts (x ∷ xs) (y ∷ ys) f g p q h e =
    let t = told x y (der.each (λ z r. der.word k (put z r)) xs f) (der.each (λ z r. der.word k (put z r)) ys g) h e in
    let r = each_told (λ z r. der.word k (put z r)) (λ a b c d full same. told a b c d full.1 (ap behind_token same)) ends (λ z r. not_end) xs ys f g p q t.full t.rest in
    record { part = cons_same x y xs ys t.part r.part; rest = r.rest; full = r.full }

any_told : {X : Type 0} (put : X → Forest → Forest) → Tells put → (stops : Forest → Bool) → ((x : X) (f : Forest) → stops (put x f) ≡ false) → (o q : Option X) (f g : Forest) → stops f ≡ true → stops g ≡ true
    → Full (der.if_any put o f) → der.if_any put o f ≡ der.if_any put q g → Told o q f g
any_told put told stops starts None None f g p q h e = record { part = refl; rest = e; full = h }
any_told put told stops starts None (Some y) f g p q h e = absurd (differ stops f (put y g) p (starts y g) e)
any_told put told stops starts (Some x) None f g p q h e = absurd (differ stops g (put x f) q (starts x f) (sym e))
any_told put told stops starts (Some x) (Some y) f g p q h e = let t = told x y f g h e in record { part = ap (λ z. Some z) t.part; rest = t.rest; full = t.full }

-- ---- names, bounds, types and expressions

name_told : Tells der.name
name_told n m f g h e = record { part = ap first_name e; rest = ap behind_token e; full = h.1 }

names_told : (ns ms : List Name) (f g : Forest) → ends f ≡ true → ends g ≡ true → Full (der.names ns f) → der.names ns f ≡ der.names ms g → Told ns ms f g
names_told ns ms f g p q h e = separated_told (Sign Comma) der.name name_told refl (λ n r. refl) ns ms f g p q h e

abbrev is_minus : TokenKind → Bool
is_minus (Sign Minus) = true
is_minus _ = false

abbrev behind_bound : Forest → Forest
behind_bound (token p k f) = cond (is_minus k) (behind_token f) f
behind_bound _ = none

bound_behind : (b : Bound) (f : Forest) → behind_bound (der.bound b f) ≡ f
bound_behind (bounds.Number at v) f = refl
bound_behind (bounds.Negative at v) f = refl
bound_behind (bounds.Named n) f = refl

bound_full : (b : Bound) (f : Forest) → Full (der.bound b f) → Full f
bound_full (bounds.Number at v) f h = h.1
bound_full (bounds.Negative at v) f h = h.1.1
bound_full (bounds.Named n) f h = h.1

bound_told : Tells der.bound
bound_told b c f g h e = record {
  part = sym (bound_back b f) ∙ ap read_bound e ∙ bound_back c g;
  rest = sym (bound_behind b f) ∙ ap behind_bound e ∙ bound_behind c g;
  full = bound_full b f h;
}

type_told : Tells der.type_phrase
type_told k l f g h e = record { part = sym (inside_back k) ∙ ap read_type e ∙ inside_back l; rest = ap behind_group e; full = h.1 }

value_told : Tells der.value
value_told x y f g h e = record { part = sym (operand_back x none) ∙ ap read_whole e ∙ operand_back y none; rest = ap behind_group e; full = h.1 }

-- ---- statements

stmts_told : (ss ss' : Stmts) (f g : Forest) → begins_with_token f ≡ true → begins_with_token g ≡ true → Full (der.stmts ss f) → der.stmts ss f ≡ der.stmts ss' g → Told ss ss' f g
stmts_told syn.no_stmt syn.no_stmt f g p q h e = record { part = refl; rest = e; full = h }
stmts_told syn.no_stmt (syn.stmt t rest) f g p q h e = absurd (differ begins_with_token f (der.stmts (syn.stmt t rest) g) p refl e)
stmts_told (syn.stmt s rest) syn.no_stmt f g p q h e = absurd (differ begins_with_token g (der.stmts (syn.stmt s rest) f) q refl (sym e))
stmts_told (syn.stmt s ss) (syn.stmt t ss') f g p q h e =
    let inside = ap inner e in
    let same = sym (stmt_back s h.0) ∙ ap read_stmt inside ∙ stmt_back t (subst Full inside h.0) in
    let r = stmts_told ss ss' f g p q h.1.1 (ap (λ x. behind_token (behind_group x)) e) in
    record { part = ap (λ x. syn.stmt x ss) same ∙ ap (λ x. syn.stmt t x) r.part; rest = r.rest; full = r.full }

-- ---- parts of declarations

abbrev pub made_variables : List Name → Kind → Variables
made_variables ns k = record { names = ns; kind = k }

abbrev pub made_typed : Name → Kind → TypedName
made_typed n k = record { name = n; kind = k }

abbrev pub made_parameter : Name → Mode → Kind → Parameter
made_parameter n m k = record { name = n; mode = m; kind = k }

abbrev pub made_head : Place → Name → List TypedName → Option Kind → Head
made_head at n ps r = record { at = at; name = n; parameters = ps; result = r }

abbrev pub made_guard : Place → Expr → Stmts → Guard
made_guard at e ss = record { at = at; test = e; body = ss }

abbrev pub made_operation : Head → List Variables → Body → Operation
made_operation h vs b = record { head = h; variables = vs; body = b }

abbrev pub made_block : List Variables → Stmts → Block
made_block vs ss = record { variables = vs; statements = ss }

variables_told : Tells der.variables
variables_told v w f g h e =
    let t = names_told v.names w.names (der.result v.kind (der.word (Sign Semicolon) f)) (der.result w.kind (der.word (Sign Semicolon) g)) refl refl h e in
    let k = type_told v.kind w.kind (der.word (Sign Semicolon) f) (der.word (Sign Semicolon) g) t.full.1 (ap behind_token t.rest) in
    record { part = ap (λ x. made_variables x v.kind) t.part ∙ ap (λ x. made_variables w.names x) k.part; rest = ap behind_token k.rest; full = k.full.1 }

names_start : (ns : List Name) (f : Forest) → begins_with_key (der.names ns (der.word (Sign Colon) f)) ≡ false
names_start [] f = refl
names_start (n ∷ ns) f = refl

all_variables_told : (vs ws : List Variables) (f g : Forest) → begins_with_key f ≡ true → begins_with_key g ≡ true → Full (der.each der.variables vs f) → der.each der.variables vs f ≡ der.each der.variables ws g → Told vs ws f g
all_variables_told vs ws f g p q h e = each_told der.variables variables_told begins_with_key (λ v r. names_start v.names (der.type_phrase v.kind (der.word (Sign Semicolon) r))) vs ws f g p q h e

typed_name_told : Tells der.typed_name
typed_name_told t u f g h e =
    let n = name_told t.name u.name (der.result t.kind f) (der.result u.kind g) h e in
    let k = type_told t.kind u.kind f g n.full.1 (ap behind_token n.rest) in
    record { part = ap (λ x. made_typed x t.kind) n.part ∙ ap (λ x. made_typed u.name x) k.part; rest = k.rest; full = k.full }

field_told : Tells der.field
field_told t u f g h e =
    let r = typed_name_told t u (der.word (Sign Semicolon) f) (der.word (Sign Semicolon) g) h e in record { part = r.part; rest = ap behind_token r.rest; full = r.full.1 }

result_told : Tells der.result
result_told k l f g h e = type_told k l f g h.1 (ap behind_token e)

results_told : (o q : Option Kind) (f g : Forest) → no_colon f ≡ true → no_colon g ≡ true → Full (der.if_any der.result o f) → der.if_any der.result o f ≡ der.if_any der.result q g → Told o q f g
results_told o q f g a b h e = any_told der.result result_told no_colon (λ k r. refl) o q f g a b h e

abbrev is_shared : TokenKind → Bool
is_shared (Key KeyShared) = true
is_shared _ = false

abbrev read_mode : Forest → Mode
read_mode (token p k f) = cond (is_shared k) modes.Shared modes.Out
read_mode _ = modes.Value

abbrev behind_mode : Forest → Forest
behind_mode (token p k f) = f
behind_mode f = f

mode_back : (m : Mode) (k : Kind) (f : Forest) → read_mode (der.mode m (der.type_phrase k f)) ≡ m
mode_back modes.Value k f = refl
mode_back modes.Shared k f = refl
mode_back modes.Out k f = refl

mode_behind : (m : Mode) (k : Kind) (f : Forest) → behind_mode (der.mode m (der.type_phrase k f)) ≡ der.type_phrase k f
mode_behind modes.Value k f = refl
mode_behind modes.Shared k f = refl
mode_behind modes.Out k f = refl

mode_full : (m : Mode) (f : Forest) → Full (der.mode m f) → Full f
mode_full modes.Value f h = h
mode_full modes.Shared f h = h.1
mode_full modes.Out f h = h.1

parameter_told : Tells der.parameter
parameter_told p q f g h e =
    let n = name_told p.name q.name (der.word (Sign Colon) (der.mode p.mode (der.type_phrase p.kind f))) (der.word (Sign Colon) (der.mode q.mode (der.type_phrase q.kind g))) h e in
    let behind = ap behind_token n.rest in
    let m = sym (mode_back p.mode p.kind f) ∙ ap read_mode behind ∙ mode_back q.mode q.kind g in
    let k = type_told p.kind q.kind f g (mode_full p.mode (der.type_phrase p.kind f) n.full.1) (sym (mode_behind p.mode p.kind f) ∙ ap behind_mode behind ∙ mode_behind q.mode q.kind g) in
    record { part = ap (λ x. made_parameter x p.mode p.kind) n.part ∙ ap (λ x. made_parameter q.name x p.kind) m ∙ ap (λ x. made_parameter q.name q.mode x) k.part; rest = k.rest; full = k.full }

head_line_told : Tells der.head_line
head_line_told h k f g full e =
    let after_ps = der.word (Sign Closes) (der.if_any der.result h.result (der.word (Sign Semicolon) f)) in
    let after_qs = der.word (Sign Closes) (der.if_any der.result k.result (der.word (Sign Semicolon) g)) in
    let at = ap first_place e in
    let n = name_told h.name k.name (der.word (Sign Opens) (der.separated (Sign Semicolon) der.typed_name h.parameters after_ps)) (der.word (Sign Opens) (der.separated (Sign Semicolon) der.typed_name k.parameters after_qs)) full.1 (ap behind_token e) in
    let ps = separated_told (Sign Semicolon) der.typed_name typed_name_told refl (λ t r. refl) h.parameters k.parameters after_ps after_qs refl refl n.full.1 (ap behind_token n.rest) in
    let r = results_told h.result k.result (der.word (Sign Semicolon) f) (der.word (Sign Semicolon) g) refl refl ps.full.1 (ap behind_token ps.rest) in
    record {
      part = ap (λ x. made_head x h.name h.parameters h.result) at ∙ ap (λ x. made_head k.at x h.parameters h.result) n.part ∙ ap (λ x. made_head k.at k.name x h.result) ps.part ∙ ap (λ x. made_head k.at k.name k.parameters x) r.part;
      rest = ap behind_token r.rest;
      full = r.full.1;
    }

block_told : Tells der.block
block_told b c f g h e =
    let vs = all_variables_told b.variables c.variables (der.opening b.statements (der.ended f)) (der.opening c.statements (der.ended g)) refl refl h e in
    let ss = stmts_told b.statements c.statements (der.ended f) (der.ended g) refl refl vs.full.1 (ap behind_token vs.rest) in
    record { part = ap (λ x. made_block x b.statements) vs.part ∙ ap (λ x. made_block c.variables x) ss.part; rest = ap (λ x. behind_token (behind_token x)) ss.rest; full = ss.full.1.1 }

guard_told : Tells der.guard
guard_told a b f g h e =
    let last = der.word (Key KeyOd) (der.word (Sign Semicolon) f) in
    let last' = der.word (Key KeyOd) (der.word (Sign Semicolon) g) in
    let at = ap first_place e in
    let t = value_told a.test b.test (der.word (Key KeyDo) (der.stmts a.body last)) (der.word (Key KeyDo) (der.stmts b.body last')) h.1 (ap behind_token e) in
    let ss = stmts_told a.body b.body last last' refl refl t.full.1 (ap behind_token t.rest) in
    record {
      part = ap (λ x. made_guard x a.test a.body) at ∙ ap (λ x. made_guard b.at x a.body) t.part ∙ ap (λ x. made_guard b.at b.test x) ss.part;
      rest = ap (λ x. behind_token (behind_token x)) ss.rest;
      full = ss.full.1.1;
    }

plain_start : (ss : Stmts) (f : Forest) → no_guard (der.stmts ss (der.ended f)) ≡ true
plain_start syn.no_stmt f = refl
plain_start (syn.stmt s ss) f = refl

body_told : (b c : Body) (f g : Forest) → Full (der.body b (der.ended f)) → der.body b (der.ended f) ≡ der.body c (der.ended g) → Told b c (der.ended f) (der.ended g)
body_told (syn.Guarded a as_) (syn.Guarded b bs) f g h e =
    let t = guard_told a b (der.each der.guard as_ (der.ended f)) (der.each der.guard bs (der.ended g)) h e in
    let r = each_told der.guard guard_told no_guard (λ x y. refl) as_ bs (der.ended f) (der.ended g) refl refl t.full t.rest in
    record { part = ap (λ x. syn.Guarded x as_) t.part ∙ ap (λ x. syn.Guarded b x) r.part; rest = r.rest; full = r.full }
body_told (syn.Guarded a as_) (syn.Plain ss) f g h e = absurd (differ no_guard (der.stmts ss (der.ended g)) (der.guard a (der.each der.guard as_ (der.ended f))) (plain_start ss g) refl (sym e))
body_told (syn.Plain ss) (syn.Guarded b bs) f g h e = absurd (differ no_guard (der.stmts ss (der.ended f)) (der.guard b (der.each der.guard bs (der.ended g))) (plain_start ss f) refl e)
body_told (syn.Plain ss) (syn.Plain ss') f g h e = let r = stmts_told ss ss' (der.ended f) (der.ended g) refl refl h e in record { part = ap (λ x. syn.Plain x) r.part; rest = r.rest; full = r.full }

operation_told : Tells der.operation
operation_told o q f g h e =
    let inside = der.word (Key KeyBegin) (der.body o.body (der.ended f)) in
    let inside' = der.word (Key KeyBegin) (der.body q.body (der.ended g)) in
    let t = head_line_told o.head q.head (der.each der.variables o.variables inside) (der.each der.variables q.variables inside') h e in
    let vs = all_variables_told o.variables q.variables inside inside' refl refl t.full t.rest in
    let b = body_told o.body q.body f g vs.full.1 (ap behind_token vs.rest) in
    record {
      part = ap (λ x. made_operation x o.variables o.body) t.part ∙ ap (λ x. made_operation q.head x o.body) vs.part ∙ ap (λ x. made_operation q.head q.variables x) b.part;
      rest = ap (λ x. behind_token (behind_token x)) b.rest;
      full = b.full.1.1;
    }

opening_told : (o q : Option Stmts) (f g : Forest) → Full (der.if_any der.opening o (der.ended f)) → der.if_any der.opening o (der.ended f) ≡ der.if_any der.opening q (der.ended g) → Told o q (der.ended f) (der.ended g)
opening_told None None f g h e = record { part = refl; rest = e; full = h }
opening_told None (Some ss) f g h e = absurd (differ no_begin (der.ended f) (der.opening ss (der.ended g)) refl refl e)
opening_told (Some ss) None f g h e = absurd (differ no_begin (der.ended g) (der.opening ss (der.ended f)) refl refl (sym e))
opening_told (Some ss) (Some ss') f g h e =
    let r = stmts_told ss ss' (der.ended f) (der.ended g) refl refl h.1 (ap behind_token e) in record { part = ap (λ x. Some x) r.part; rest = r.rest; full = r.full }

opening_start : (o : Option Stmts) (f : Forest) → no_operation (der.if_any der.opening o (der.ended f)) ≡ true
opening_start None f = refl
opening_start (Some ss) f = refl

operations_start : (os : List Operation) (o : Option Stmts) (f : Forest) → begins_with_key (der.each der.operation os (der.if_any der.opening o (der.ended f))) ≡ true
operations_start [] None f = refl
operations_start [] (Some ss) f = refl
operations_start (x ∷ os) o f = refl

abbrev definition_tag : Forest → ℕ
definition_tag (token p (Key KeyRecord) f) = 0
definition_tag (token p k f) = 1
definition_tag _ = 2

definition_told : Tells der.definition
definition_told (syn.Record at ts) (syn.Record at' us) f g h e =
    let r = each_told der.field field_told begins_with_key (λ t x. refl) ts us (der.word (Key KeyEnd) f) (der.word (Key KeyEnd) g) refl refl h.1 (ap behind_token e) in
    record { part = ap (λ x. syn.Record x ts) (ap first_place e) ∙ ap (λ x. syn.Record at' x) r.part; rest = ap behind_token r.rest; full = r.full.1 }
definition_told (syn.Enumeration at ns) (syn.Enumeration at' ms) f g h e =
    let r = names_told ns ms (der.word (Sign Closes) f) (der.word (Sign Closes) g) refl refl h.1.1 (ap (λ x. behind_token (behind_token x)) e) in
    record { part = ap (λ x. syn.Enumeration x ns) (ap first_place e) ∙ ap (λ x. syn.Enumeration at' x) r.part; rest = ap behind_token r.rest; full = r.full.1 }
definition_told (syn.Alias k) (syn.Alias l) f g h e = let r = type_told k l f g h e in record { part = ap (λ x. syn.Alias x) r.part; rest = r.rest; full = r.full }
definition_told _ _ f g h e = absurd (omega (arith, ap definition_tag e))

-- ---- declarations

abbrev decl_kind : TokenKind → TokenKind → ℕ
decl_kind (Key KeyConst) k = 0
decl_kind (Key KeyType) k = 1
decl_kind (Key KeyObject) (Key KeySpecification) = 2
decl_kind (Key KeyObject) k = 3
decl_kind (Key KeyFunction) k = 4
decl_kind _ k = 5

abbrev decl_tag : Forest → ℕ
decl_tag (token p k (token q l f)) = decl_kind k l
decl_tag _ = 6

-- name ( parameters )
record ToldCall (n m : Name) (ps qs : List Parameter) (f g : Forest) : Type 0 where
  name : n ≡ m
  parts : Told ps qs f g

called_told : (n m : Name) (ps qs : List Parameter) (f g : Forest) → Full (der.called n ps f) → der.called n ps f ≡ der.called m qs g → ToldCall n m ps qs f g
called_told n m ps qs f g h e =
    let last = der.word (Sign Closes) f in
    let last' = der.word (Sign Closes) g in
    let r = separated_told (Sign Semicolon) der.parameter parameter_told refl (λ p x. refl) ps qs last last' refl refl h.1.1 (ap (λ x. behind_token (behind_token x)) e) in
    record { name = ap first_name e; parts = record { part = r.part; rest = ap behind_token r.rest; full = r.full.1 } }

decl_told : Tells der.decl
decl_told (syn.Constant at n b) (syn.Constant at' n' b') f g h e =
    let r = bound_told b b' (der.word (Sign Semicolon) f) (der.word (Sign Semicolon) g) h.1.1.1 (ap (λ x. behind_token (behind_token (behind_token x))) e) in
    record {
      part = ap (λ x. syn.Constant x n b) (ap first_place e) ∙ ap (λ x. syn.Constant at' x b) (ap (λ x. first_name (behind_token x)) e) ∙ ap (λ x. syn.Constant at' n' x) r.part;
      rest = ap behind_token r.rest;
      full = r.full.1;
    }
decl_told (syn.Declares at n d) (syn.Declares at' n' d') f g h e =
    let r = definition_told d d' (der.word (Sign Semicolon) f) (der.word (Sign Semicolon) g) h.1.1.1 (ap (λ x. behind_token (behind_token (behind_token x))) e) in
    record {
      part = ap (λ x. syn.Declares x n d) (ap first_place e) ∙ ap (λ x. syn.Declares at' x d) (ap (λ x. first_name (behind_token x)) e) ∙ ap (λ x. syn.Declares at' n' x) r.part;
      rest = ap behind_token r.rest;
      full = r.full.1;
    }
decl_told (syn.Specification at n hs) (syn.Specification at' n' hs') f g h e =
    let r = each_told der.head_line head_line_told no_operation (λ x y. refl) hs hs' (der.ended f) (der.ended g) refl refl h.1.1.1.1 (ap (λ x. behind_token (behind_token (behind_token (behind_token x)))) e) in
    record {
      part = ap (λ x. syn.Specification x n hs) (ap first_place e) ∙ ap (λ x. syn.Specification at' x hs) (ap (λ x. first_name (behind_token (behind_token x))) e) ∙ ap (λ x. syn.Specification at' n' x) r.part;
      rest = ap (λ x. behind_token (behind_token x)) r.rest;
      full = r.full.1.1;
    }
decl_told (syn.Implementation at n vs os o) (syn.Implementation at' n' vs' os' o') f g h e =
    let last = der.if_any der.opening o (der.ended f) in
    let last' = der.if_any der.opening o' (der.ended g) in
    let v = all_variables_told vs vs' (der.each der.operation os last) (der.each der.operation os' last') (operations_start os o f) (operations_start os' o' g) h.1.1.1.1 (ap (λ x. behind_token (behind_token (behind_token (behind_token x)))) e) in
    let p = each_told der.operation operation_told no_operation (λ x y. refl) os os' last last' (opening_start o f) (opening_start o' g) v.full v.rest in
    let r = opening_told o o' f g p.full p.rest in
    record {
      part =
          ap (λ x. syn.Implementation x n vs os o) (ap first_place e) ∙ ap (λ x. syn.Implementation at' x vs os o) (ap (λ x. first_name (behind_token (behind_token x))) e) ∙ ap (λ x. syn.Implementation at' n' x os o) v.part
          ∙ ap (λ x. syn.Implementation at' n' vs' x o) p.part ∙ ap (λ x. syn.Implementation at' n' vs' os' x) r.part;
      rest = ap (λ x. behind_token (behind_token x)) r.rest;
      full = r.full.1.1;
    }
decl_told (syn.Function at n ps k b) (syn.Function at' n' ps' k' b') f g h e =
    let last = der.word (Sign Semicolon) (der.block b f) in
    let last' = der.word (Sign Semicolon) (der.block b' g) in
    let c = called_told n n' ps ps' (der.if_any der.result k last) (der.if_any der.result k' last') h.1 (ap behind_token e) in
    let t = results_told k k' last last' refl refl c.parts.full c.parts.rest in
    let r = block_told b b' f g t.full.1 (ap behind_token t.rest) in
    record {
      part =
          ap (λ x. syn.Function x n ps k b) (ap first_place e) ∙ ap (λ x. syn.Function at' x ps k b) c.name ∙ ap (λ x. syn.Function at' n' x k b) c.parts.part ∙ ap (λ x. syn.Function at' n' ps' x b) t.part
          ∙ ap (λ x. syn.Function at' n' ps' k' x) r.part;
      rest = r.rest;
      full = r.full;
    }
decl_told (syn.Process at n ps b) (syn.Process at' n' ps' b') f g h e =
    let c = called_told n n' ps ps' (der.word (Sign Semicolon) (der.block b f)) (der.word (Sign Semicolon) (der.block b' g)) h.1 (ap behind_token e) in
    let r = block_told b b' f g c.parts.full.1 (ap behind_token c.parts.rest) in
    record {
      part = ap (λ x. syn.Process x n ps b) (ap first_place e) ∙ ap (λ x. syn.Process at' x ps b) c.name ∙ ap (λ x. syn.Process at' n' x b) c.parts.part ∙ ap (λ x. syn.Process at' n' ps' x) r.part;
      rest = r.rest;
      full = r.full;
    }
decl_told _ _ f g h e = absurd (omega (arith, ap decl_tag e))

-- ---- units

decl_start : (d : Decl) (f : Forest) → is_none (der.decl d f) ≡ false
decl_start (syn.Constant at n b) f = refl
decl_start (syn.Declares at n d) f = refl
decl_start (syn.Specification at n hs) f = refl
decl_start (syn.Implementation at n vs os o) f = refl
decl_start (syn.Function at n ps k b) f = refl
decl_start (syn.Process at n ps b) f = refl

decls_no_import : (ds : List Decl) → no_import (der.each der.decl ds none) ≡ true
decls_no_import [] = refl
decls_no_import (syn.Constant at n b ∷ ds) = refl
decls_no_import (syn.Declares at n d ∷ ds) = refl
decls_no_import (syn.Specification at n hs ∷ ds) = refl
decls_no_import (syn.Implementation at n vs os o ∷ ds) = refl
decls_no_import (syn.Function at n ps k b ∷ ds) = refl
decls_no_import (syn.Process at n ps b ∷ ds) = refl

imports_no_module : (ns : List Name) (ds : List Decl) → no_module (der.each der.import_line ns (der.each der.decl ds none)) ≡ true
imports_no_module (n ∷ ns) ds = refl
imports_no_module [] [] = refl
imports_no_module [] (syn.Constant at n b ∷ ds) = refl
imports_no_module [] (syn.Declares at n d ∷ ds) = refl
imports_no_module [] (syn.Specification at n hs ∷ ds) = refl
imports_no_module [] (syn.Implementation at n vs os o ∷ ds) = refl
imports_no_module [] (syn.Function at n ps k b ∷ ds) = refl
imports_no_module [] (syn.Process at n ps b ∷ ds) = refl

module_told : Tells der.module_line
module_told n m f g h e = record { part = ap (λ x. first_name (behind_token x)) e; rest = ap (λ x. behind_token (behind_token (behind_token x))) e; full = h.1.1.1 }

import_told : Tells der.import_line
import_told n m f g h e = record { part = ap (λ x. first_name (behind_token x)) e; rest = ap (λ x. behind_token (behind_token (behind_token x))) e; full = h.1.1.1 }

abbrev pub made_syntax : Option Name → List Name → List Decl → Syntax
made_syntax n is ds = record { name = n; imports = is; declarations = ds }

-- the derivation determines the syntax
pub unit_told : (s t : Syntax) → Full (der.unit s) → der.unit s ≡ der.unit t → s ≡ t
unit_told s t h e =
    let decls = der.each der.decl s.declarations none in
    let decls' = der.each der.decl t.declarations none in
    let m = any_told der.module_line module_told no_module (λ n f. refl) s.name t.name (der.each der.import_line s.imports decls) (der.each der.import_line t.imports decls')
    (imports_no_module s.imports s.declarations) (imports_no_module t.imports t.declarations) h e in
    let i = each_told der.import_line import_told no_import (λ n f. refl) s.imports t.imports decls decls' (decls_no_import s.declarations) (decls_no_import t.declarations) m.full m.rest in
    let d = each_told der.decl decl_told is_none decl_start s.declarations t.declarations none none refl refl i.full i.rest in
    ap (λ x. made_syntax x s.imports s.declarations) m.part ∙ ap (λ x. made_syntax t.name x s.declarations) i.part ∙ ap (λ x. made_syntax t.name t.imports x) d.part
