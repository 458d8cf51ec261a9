-- Chains and paths, one part further; and what is left of arguments.
use Rattle.std.proofs.Common.{◌≡◌, ℕ, zero, suc, ◌<◌, ◌+◌, List, [], ◌∷◌, ◌++◌, length, get_or, take, drop, true, false, Option, refl, sym, ap, ◌∙◌, arith}
use Rattle.std.specs.Prelude.{◌==◌}
use Rattle.std.proofs.lemmas.List.{append_assoc, take_more}
use Rattle.orca_base.specs.declared.place.Place.{Place}
use Rattle.orca_tree.specs.declared.tree.Name.{Name}
use Rattle.orca_tree.specs.declared.tree.Link.{Link}
use Rattle.orca_tree.specs.declared.tree.Selector.{Selector}
use Rattle.orca_tree.specs.declared.tree.Expression.{Expression}
use Rattle.orca_syntax.specs.Shown.{expr, exprs, links, path, step}
use Rattle.orca_syntax.specs.Syntax.{Expr, Get}
use Rattle.orca_syntax.specs.Places.{expr_place}
use Rattle.type_rules.specs.declared.breach.Breach.{Breach}
use Rattle.type_rules.specs.declared.types.DataType.{DataType}
use Rattle.type_rules.specs.declared.signature.Formal.TheVariants as passing
use Rattle.type_rules.specs.Order.{least, lesser}
use Rattle.type_rules.specs.Rules.{Found}
use Rattle.type_rules.specs.declared.signature.Formal.{Formal}
use Rattle.type_rules.specs.Scopes.{Scope}
use Rattle.type_rules.specs.Expressions.{arguments, chained, count_of, has_object, joined, named_here, lent_root, lent_roots, step_found, stepped, suits_first, typed, walked}
use Rattle.type_rules.proofs.Least.{least_of_both, lesser_assoc}
use Rattle.type_forms.proofs.Loops.{rest_is}
use Rattle.type_exprs.specs.Scoped.{at_place}

-- ---- chains of operators

chained_push : (w : Scope) (at : Place) (f : Found DataType) (ls : List Link) (l : Link) →
    chained w at f (links (ls ++ l ∷ [])) ≡ joined l.operator at (chained w at f (links ls)) (expr_place (expr l.right)) (typed w (expr l.right))
chained_push w at f [] l = refl
chained_push w at f (k ∷ ls) l = chained_push w at (joined k.operator at f (expr_place (expr k.right)) (typed w (expr k.right))) ls l

pub chained_more : (w : Scope) (at : Place) (f : Found DataType) (ls : List Link) (i : ℕ) (l : Link) → i < length ls → l ≡ get_or ls i l →
    chained w at f (links (take (i + 1) ls))
    ≡ joined l.operator at (chained w at f (links (take i ls))) (expr_place (expr l.right)) (typed w (expr l.right))
chained_more w at f ls i l lt is =
    ap (λ (v : List Link). chained w at f (links v)) (take_more ls i l lt ∙ ap (λ (v : Link). take i ls ++ v ∷ []) (sym is)) ∙ chained_push w at f (take i ls) l

-- ---- paths

walked_push : (w : Scope) (f : Found DataType) (ss : List Selector) (s : Selector) →
    walked w f (path (ss ++ s ∷ [])) ≡ step_found (walked w f (path ss)) (stepped w (walked w f (path ss)).is (step s))
walked_push w f [] s = refl
walked_push w f (t ∷ ss) s = walked_push w (step_found f (stepped w f.is (step t))) ss s

pub walked_more : (w : Scope) (f : Found DataType) (ss : List Selector) (i : ℕ) (s : Selector) → i < length ss → s ≡ get_or ss i s →
    walked w f (path (take (i + 1) ss)) ≡ step_found (walked w f (path (take i ss))) (stepped w (walked w f (path (take i ss))).is (step s))
walked_more w f ss i s lt is =
    ap (λ (v : List Selector). walked w f (path v)) (take_more ss i s lt ∙ ap (λ (v : Selector). take i ss ++ v ∷ []) (sym is)) ∙ walked_push w f (take i ss) s

-- ---- arguments

pub counted : (es : List Expression) → count_of (exprs es) ≡ length es
counted [] = refl
counted (e ∷ es) = let rest = counted es in omega (arith, rest)

pub drop_once : {A : Type 0} (i : ℕ) (xs : List A) → drop 1 (drop i xs) ≡ drop (i + 1) xs
drop_once {A} zero xs = refl
drop_once {A} (suc i) [] = let none : List A = [] in let next : suc i + 1 ≡ suc (i + 1) = omega arith in ap (λ (k : ℕ). drop k none) (sym next)
drop_once {A} (suc i) (x ∷ xs) = let next : suc i + 1 ≡ suc (i + 1) = omega arith in drop_once i xs ∙ ap (λ (k : ℕ). drop k (x ∷ xs)) (sym next)

-- what a place of the parameters is asked for
pub suits_there : (w : Scope) (fs : List Formal) (i : ℕ) (e : Expr) (t : Option DataType) → suits_first w (drop i fs) e t ≡ suits_first w (at_place fs i) e t
suits_there w [] zero e t = refl
suits_there w [] (suc i) e t = refl
suits_there w (f ∷ fs) zero e t = refl
suits_there w (f ∷ fs) (suc i) e t = suits_there w fs i e t

lent_first : (f : Formal) (fs : List Formal) (e : Expr) → lent_root (f ∷ fs) e ≡ lent_root (f ∷ []) e
lent_first (passing.ByValue t) fs e = refl
lent_first (passing.Shared t) fs e = refl
lent_first (passing.Out t) fs e = refl
lent_first passing.SomeGraph fs e = refl
lent_first passing.NodeOf fs e = refl

pub lent_there : (fs : List Formal) (i : ℕ) (e : Expr) → lent_root (drop i fs) e ≡ lent_root (at_place fs i) e
lent_there [] zero e = refl
lent_there [] (suc i) e = refl
lent_there (f ∷ fs) zero e = lent_first f fs e
lent_there (f ∷ fs) (suc i) e = lent_there fs i e

-- one root more
pub root_more : (fs : List Formal) (es : List Expression) (i : ℕ) (e : Expression) → i < length es → e ≡ get_or es i e →
    lent_roots (drop i fs) (exprs (drop i es)) ≡ lent_root (at_place fs i) (expr e) ++ lent_roots (drop (i + 1) fs) (exprs (drop (i + 1) es))
root_more fs es i e lt is =
    ap (λ (l : List Expression). lent_roots (drop i fs) (exprs l)) (rest_is es i e lt is)
    ∙ ap (λ (l : List Name). l ++ lent_roots (drop 1 (drop i fs)) (exprs (drop (i + 1) es))) (lent_there fs i (expr e))
    ∙ ap (λ (l : List Formal). lent_root (at_place fs i) (expr e) ++ lent_roots l (exprs (drop (i + 1) es))) (drop_once i fs)

-- one argument more
pub argument_more : (w : Scope) (fs : List Formal) (es : List Expression) (i : ℕ) (e : Expression) (first own new all : Option Breach) → i < length es →
    e ≡ get_or es i e → own ≡ least ((typed w (expr e)).breaches ++ suits_first w (at_place fs i) (expr e) (typed w (expr e)).is) → new ≡ lesser first own →
    lesser first (least (arguments w (drop i fs) (exprs (drop i es)))) ≡ all → lesser new (least (arguments w (drop (i + 1) fs) (exprs (drop (i + 1) es)))) ≡ all
argument_more w fs es i e first own new all lt is o n h =
    let inside = (typed w (expr e)).breaches in
    let suit = suits_first w (drop i fs) (expr e) (typed w (expr e)).is in
    let rest = arguments w (drop (i + 1) fs) (exprs (drop (i + 1) es)) in
    ap (λ (x : Option Breach). lesser x (least rest)) (n ∙ ap (lesser first) (o ∙ ap (λ (l : List Breach). least (inside ++ l)) (sym (suits_there w fs i (expr e) (typed w (expr e)).is))))
    ∙ lesser_assoc first (least (inside ++ suit)) (least rest)
    ∙ ap (lesser first) (sym (least_of_both (inside ++ suit) rest) ∙ ap least (append_assoc inside suit rest))
    ∙ ap (λ (l : List Formal). lesser first (least (inside ++ (suit ++ arguments w l (exprs (drop (i + 1) es)))))) (sym (drop_once i fs))
    ∙ ap (λ (l : List Expression). lesser first (least (arguments w (drop i fs) (exprs l)))) (sym (rest_is es i e lt is))
    ∙ h

-- ---- names of objects

pub no_object : (w : Scope) (n : Name) (ps : List Selector) → (length ps == 0) ≡ false → has_object (named_here w (Get n (path ps))) ≡ false
no_object w n [] e = let clash : true ≡ false = e in absurd (cc clash)
no_object w n (s ∷ ps) e = refl
