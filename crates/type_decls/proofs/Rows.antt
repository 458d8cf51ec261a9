-- Rows of parameters and of heads, compared from the end.
use Rattle.std.proofs.Common.{◌≡◌, ℕ, zero, suc, ◌<◌, ◌+◌, Bool, true, false, ◌&&◌, List, [], ◌∷◌, ◌++◌, length, get_or, drop, map, Option, Some, None, refl, sym, ap, ◌∙◌, arith}
use Rattle.std.specs.Prelude.{◌==◌, bytes_eq, slice_get}
use Rattle.std.proofs.lemmas.Bool.{eqb-true}
use Rattle.orca_tree.specs.declared.tree.TypedName as tree
use Rattle.orca_tree.specs.declared.tree.Operation as tree_operation
use Rattle.orca_syntax.specs.Syntax.{Head, TypedName, Variables}
use Rattle.orca_syntax.specs.Shown.{operation, typed_name}
use Rattle.link_rules.specs.Units.{Source}
use Rattle.type_rules.specs.declared.breach.Breach.{Breach}
use Rattle.type_rules.specs.Rules.{agree, asks, breaks}
use Rattle.type_rules.specs.Constants.{View}
use Rattle.type_rules.specs.TypePhrases.{data_found}
use Rattle.type_rules.specs.Scopes.{type_of}
use Rattle.type_rules.specs.Declarations.{heads_match, is_empty, is_head_of, operation_view, same_parameters, lacks}
use Rattle.type_forms.proofs.Loops.{rest_is}
use Rattle.type_exprs.proofs.Pushed.{drop_once}

and_false : (b : Bool) → (b && false) ≡ false
and_false true = refl
and_false false = refl

abbrev same_first : View → View → TypedName → TypedName → Bool
same_first v w t u = bytes_eq t.name.text u.name.text && agree (type_of (data_found v t.kind)) (type_of (data_found w u.kind))

and_again : (a b c : Bool) → ((a && b) && c) ≡ (a && (b && c))
and_again true b c = refl
and_again false b c = refl

-- rows of different lengths
pub parameters_apart : (v w : View) (ts us : List tree.TypedName) → (length ts ≡ length us → ⊥) → same_parameters v w (map typed_name ts) (map typed_name us) ≡ false
parameters_apart v w [] [] apart = absurd (apart refl)
parameters_apart v w [] (u ∷ us) apart = refl
parameters_apart v w (t ∷ ts) [] apart = refl
parameters_apart v w (t ∷ ts) (u ∷ us) apart =
    sym (and_again (bytes_eq t.name.text u.name.text) _ (same_parameters v w (map typed_name ts) (map typed_name us)))
    ∙ ap (λ (b : Bool). same_first v w (typed_name t) (typed_name u) && b) (parameters_apart v w ts us (λ e. apart (ap (λ (n : ℕ). suc n) e)))
    ∙ and_false (same_first v w (typed_name t) (typed_name u))

-- one parameter more in front
pub parameter_more : (v w : View) (ts us : List tree.TypedName) (i : ℕ) (t u : tree.TypedName) → i < length ts → i < length us → t ≡ get_or ts i t →
    u ≡ get_or us i u → same_parameters v w (map typed_name (drop i ts)) (map typed_name (drop i us))
    ≡ (same_first v w (typed_name t) (typed_name u) && same_parameters v w (map typed_name (drop (i + 1) ts)) (map typed_name (drop (i + 1) us)))
parameter_more v w ts us i t u lt lu is js =
    ap (λ (l : List tree.TypedName). same_parameters v w (map typed_name l) (map typed_name (drop i us))) (rest_is ts i t lt is)
    ∙ ap (λ (l : List tree.TypedName). same_parameters v w (map typed_name (t ∷ drop (i + 1) ts)) (map typed_name l)) (rest_is us i u lu js)
    ∙ sym (and_again (bytes_eq t.name.text u.name.text) _ (same_parameters v w (map typed_name (drop (i + 1) ts)) (map typed_name (drop (i + 1) us))))

pub none_there : {A B : Type 0} (f : A → B) (xs : List A) → (length xs == 0) ≡ is_empty (map f xs)
none_there {A} {B} f [] = refl
none_there {A} {B} f (x ∷ xs) = by_test (length (x ∷ xs) == 0) refl
  where
    by_test : (b : Bool) → (length (x ∷ xs) == 0) ≡ b → b ≡ false
    by_test true is = let none = eqb-true (length (x ∷ xs)) 0 is in absurd (omega (arith, none))
    by_test false is = refl

-- ---- heads

first_left : {A : Type 0} (i : ℕ) (xs : List A) → slice_get (drop i xs) 0 ≡ slice_get xs i
first_left {A} zero xs = refl
first_left {A} (suc i) [] = refl
first_left {A} (suc i) (x ∷ xs) = first_left i xs

-- one operation more in front
pub head_more : (us : List Source) (m : List ℕ) (fs : List Variables) (home : List ℕ) (hs : List Head) (os : List tree_operation.Operation) (i : ℕ)
    (o : tree_operation.Operation) → i < length os → o ≡ get_or os i o →
    heads_match us m fs home (drop i hs) (map operation (drop i os))
    ≡ asks 12 o.head.at (is_head_of us (operation_view us m fs (operation o)) home (operation o).head (slice_get hs i))
    ++ heads_match us m fs home (drop (i + 1) hs) (map operation (drop (i + 1) os))
head_more us m fs home hs os i o lt is =
    ap (λ (l : List tree_operation.Operation). heads_match us m fs home (drop i hs) (map operation l)) (rest_is os i o lt is)
    ∙ ap (λ (h : Option Head). asks 12 o.head.at (is_head_of us (operation_view us m fs (operation o)) home (operation o).head h)
    ++ heads_match us m fs home (drop 1 (drop i hs)) (map operation (drop (i + 1) os))) (first_left i hs)
    ∙ ap (λ (l : List Head). asks 12 o.head.at (is_head_of us (operation_view us m fs (operation o)) home (operation o).head (slice_get hs i))
    ++ heads_match us m fs home l (map operation (drop (i + 1) os))) (drop_once i hs)

abbrev pub lacks_one : Option Head → List Breach
lacks_one None = []
lacks_one (Some h) = breaks 12 h.at

-- what is lacked behind so many
pub lacks_there : (hs : List Head) (i : ℕ) → lacks (drop i hs) ≡ lacks_one (slice_get hs i)
lacks_there [] zero = refl
lacks_there [] (suc i) = refl
lacks_there (h ∷ hs) zero = refl
lacks_there (h ∷ hs) (suc i) = lacks_there hs i
