-- The names of a body and the fields of its object, by what a name is first; and what the variable of a loop breaks by its name.
use Rattle.std.proofs.Common.{◌≡◌, ℕ, Bool, true, false, not, ◌&&◌, ◌||◌, cond, List, [], ◌∷◌, ◌++◌, map, Option, Some, refl, sym, ap, ◌∙◌, true≢false}
use Rattle.std.specs.Prelude.{bytes_eq, filter, find, IsTrue}
use Rattle.std.specs.declared.cmp.Ordering.{Ordering}
use Rattle.std.specs.Ordering.{is_lt, nat_cmp, ordering_then}
use Rattle.std.proofs.lemmas.Cmp.{nat_cmp_total, tied_itself}
use Rattle.orca_base.specs.declared.place.Place.{Place}
use Rattle.orca_tree.specs.declared.tree.Name.{Name}
use Rattle.type_rules.specs.declared.breach.Breach.{Breach}
use Rattle.type_rules.specs.TopLevel.{sees}
use Rattle.type_rules.specs.Order.{comes_before, least, lesser}
use Rattle.type_rules.specs.Rules.{asks, is_among}
use Rattle.type_rules.specs.Scopes.{Local, Scope, is_field, local}
use Rattle.type_rules.specs.Statements.{counts, field_names, own_locals}
use Rattle.type_rules.proofs.Least.{least_of_both}
use Rattle.type_forms.specs.Finding.{FirstOf}
use Rattle.type_forms.proofs.Loops.{bytes_turned}
use Rattle.type_exprs.proofs.Firsts.{first_of_two}
use Rattle.type_stmts.specs.Bodies.{all_fields, fields_last, is_field_local, is_own_local}

abbrev own : List Local → List Local
own ls = filter (λ l. not (is_field l.role)) ls

abbrev fields : List Local → List Local
fields ls = filter (λ l. is_field l.role) ls

abbrev names : List Local → List (List ℕ)
names ls = map (λ l. l.name) ls

abbrev named : List Local → List ℕ → Option Local
named ls n = find (λ l. bytes_eq l.name n) ls

-- ---- among fields alone

none_own : (ls : List Local) (n : List ℕ) → all_fields ls ≡ true → is_among (names (own ls)) n ≡ false
none_own [] n e = refl
none_own (l ∷ ls) n e = by_role (is_field l.role) e (λ h. none_own ls n h)
  where
    by_role : (f : Bool) → (f && all_fields ls) ≡ true → (all_fields ls ≡ true → is_among (names (own ls)) n ≡ false) →
        is_among (names (cond (not f) (l ∷ own ls) (own ls))) n ≡ false
    by_role true e ih = ih e
    by_role false e ih = absurd (true≢false (sym e))

first_not_own : (ls : List Local) (n : List ℕ) → all_fields ls ≡ true → is_own_local (named ls n) ≡ false
first_not_own [] n e = refl
first_not_own (l ∷ ls) n e = by_both (is_field l.role) (bytes_eq l.name n) refl e (λ h. first_not_own ls n h)
  where
    by_both : (f t : Bool) → is_field l.role ≡ f → (f && all_fields ls) ≡ true → (all_fields ls ≡ true → is_own_local (named ls n) ≡ false) →
        is_own_local (cond t (Some l) (named ls n)) ≡ false
    by_both true true is e ih = ap not is
    by_both true false is e ih = ih e
    by_both false t is e ih = absurd (true≢false (sym e))

fields_are : (ls : List Local) (n : List ℕ) → all_fields ls ≡ true → is_among (names (fields ls)) n ≡ is_field_local (named ls n)
fields_are [] n e = refl
fields_are (l ∷ ls) n e = by_both (is_field l.role) (bytes_eq l.name n) refl refl e (λ h. fields_are ls n h)
  where
    by_both : (f t : Bool) → is_field l.role ≡ f → bytes_eq l.name n ≡ t → (f && all_fields ls) ≡ true →
        (all_fields ls ≡ true → is_among (names (fields ls)) n ≡ is_field_local (named ls n)) →
        is_among (names (cond f (l ∷ fields ls) (fields ls))) n ≡ is_field_local (cond t (Some l) (named ls n))
    by_both true true is same e ih = ap (λ (b : Bool). b || is_among (names (fields ls)) n) (bytes_turned n l.name ∙ same) ∙ sym is
    by_both true false is same e ih = ap (λ (b : Bool). b || is_among (names (fields ls)) n) (bytes_turned n l.name ∙ same) ∙ ih e
    by_both false t is same e ih = absurd (true≢false (sym e))

-- ---- where the fields stand last

pub own_is : (ls : List Local) (n : List ℕ) → fields_last ls ≡ true → is_among (names (own ls)) n ≡ is_own_local (named ls n)
own_is [] n e = refl
own_is (l ∷ ls) n e = by_both (is_field l.role) (bytes_eq l.name n) refl refl e (λ h. own_is ls n h)
  where
    by_both : (f t : Bool) → is_field l.role ≡ f → bytes_eq l.name n ≡ t → cond f (all_fields ls) (fields_last ls) ≡ true →
        (fields_last ls ≡ true → is_among (names (own ls)) n ≡ is_own_local (named ls n)) →
        is_among (names (cond (not f) (l ∷ own ls) (own ls))) n ≡ is_own_local (cond t (Some l) (named ls n))
    by_both true true is same e ih = none_own ls n e ∙ sym (ap not is)
    by_both true false is same e ih = none_own ls n e ∙ sym (first_not_own ls n e)
    by_both false true is same e ih = ap (λ (b : Bool). b || is_among (names (own ls)) n) (bytes_turned n l.name ∙ same) ∙ sym (ap not is)
    by_both false false is same e ih = ap (λ (b : Bool). b || is_among (names (own ls)) n) (bytes_turned n l.name ∙ same) ∙ ih e

-- a name that is none of the body's is a field exactly where the first that bears it is one
pub field_is : (ls : List Local) (n : List ℕ) → fields_last ls ≡ true → is_own_local (named ls n) ≡ false →
    is_among (names (fields ls)) n ≡ is_field_local (named ls n)
field_is [] n e o = refl
field_is (l ∷ ls) n e o = by_both (is_field l.role) (bytes_eq l.name n) refl refl e o (λ h k. field_is ls n h k)
  where
    by_both : (f t : Bool) → is_field l.role ≡ f → bytes_eq l.name n ≡ t → cond f (all_fields ls) (fields_last ls) ≡ true →
        is_own_local (cond t (Some l) (named ls n)) ≡ false →
        (fields_last ls ≡ true → is_own_local (named ls n) ≡ false → is_among (names (fields ls)) n ≡ is_field_local (named ls n)) →
        is_among (names (cond f (l ∷ fields ls) (fields ls))) n ≡ is_field_local (cond t (Some l) (named ls n))
    by_both true true is same e o ih = ap (λ (b : Bool). b || is_among (names (fields ls)) n) (bytes_turned n l.name ∙ same) ∙ sym is
    by_both true false is same e o ih = ap (λ (b : Bool). b || is_among (names (fields ls)) n) (bytes_turned n l.name ∙ same) ∙ fields_are ls n e
    by_both false true is same e o ih = absurd (true≢false (sym (ap not is) ∙ o))
    by_both false false is same e o ih = ih e o

-- ---- at one place the lower rule is told

abbrev broken : ℕ → Place → Breach
broken rule at = record { rule = rule; at = at }

same_place : (at : Place) → comes_before (broken 4 at) (broken 3 at) ≡ false
same_place at =
    ap (λ (o : Ordering). is_lt (ordering_then o (ordering_then (nat_cmp at.column at.column) (nat_cmp 4 3)))) (tied_itself nat_cmp_total at.line)
    ∙ ap (λ (o : Ordering). is_lt (ordering_then o (nat_cmp 4 3))) (tied_itself nat_cmp_total at.column)

lower_first : (at : Place) (b : Bool) → least (asks 3 at false ++ asks 4 at b) ≡ least (asks 3 at false)
lower_first at true = refl
lower_first at false =
    ap (λ (t : Bool). Some (cond t (broken 4 at) (broken 3 at))) (same_place at)

pub counts_found : (v : Scope) (n : Name) (x y q : Option Breach) → IsTrue (fields_last v.locals) → q ≡ lesser x y →
    x ≡ least (asks 3 n.at (not (is_own_local (local v n.text)))) →
    y ≡ least (asks 4 n.at (not (sees v.program v.home n.text) && not (is_field_local (local v n.text)))) → FirstOf q (counts v n)
counts_found v n x y q last e f g = by_test (is_own_local (local v n.text)) refl
  where
    seen : Bool
    seen = not (sees v.program v.home n.text)

    here : Bool
    here = seen && not (is_field_local (local v n.text))

    there : Bool
    there = seen && not (is_among (field_names v) n.text)

    by_test : (o : Bool) → is_own_local (local v n.text) ≡ o → FirstOf q (counts v n)
    by_test true is =
        e
        ∙ ap (λ (k : Option Breach). lesser k y) (f ∙ ap (λ (b : Bool). least (asks 3 n.at (not b))) is)
        ∙ ap (lesser (least (asks 3 n.at false))) g
        ∙ sym (least_of_both (asks 3 n.at false) (asks 4 n.at here))
        ∙ lower_first n.at here
        ∙ sym (lower_first n.at there)
        ∙ ap (λ (b : Bool). least (asks 3 n.at (not b) ++ asks 4 n.at there)) (sym (own_is v.locals n.text last ∙ is))
    by_test false is =
        first_of_two x y q (asks 3 n.at (not (is_among (own_locals v) n.text))) (asks 4 n.at there) e
        (f ∙ ap (λ (b : Bool). least (asks 3 n.at (not b))) (sym (own_is v.locals n.text last)))
        (g ∙ ap (λ (b : Bool). least (asks 4 n.at (seen && not b))) (sym (field_is v.locals n.text last is)))
