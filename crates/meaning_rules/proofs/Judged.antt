-- What no breach of a phrase says of its parts and of its type.
use Rattle.std.proofs.Common.{refl, ap, sym, ◌∙◌, subst}
use Rattle.std.specs.Prelude.{◌≡◌, ℕ, Bool, true, false, not, ◌&&◌, List, [], ◌∷◌, ◌++◌, Option, Some, None, bytes_eq, slice_get}
use Rattle.std.specs.List.{AllByRecursion}
use Rattle.std.specs.Option.{option_map_or}
use Rattle.std.proofs.lemmas.List.Folds.{find_at}
use Rattle.orca_base.specs.declared.place.Place.{Place}
use Rattle.orca_tree.specs.declared.tree.Name.{Name}
use Rattle.orca_syntax.specs.Syntax as syn
use Rattle.orca_syntax.specs.Syntax.{Expr, Step, Path}
use Rattle.type_rules.specs.declared.types.DataType.{DataType}
use Rattle.type_rules.specs.Types.{same_type}
use Rattle.type_rules.specs.declared.breach.Breach.{Breach}
use Rattle.type_rules.specs.Rules.{Found, found, unless, asks, fits, agree}
use Rattle.type_rules.specs.TopLevel as top
use Rattle.type_rules.specs.TopLevel.{StandsFor, stands_for}
use Rattle.type_rules.specs.Scopes.{Local, Scope, local}
use Rattle.type_rules.specs.Expressions.{may_write, root_of, outer_root, written_root, step_found, stepped, walked}
use Rattle.value_core.specs.Datum.{Datum}
use Rattle.value_core.specs.Fits.{Kinds}
use Rattle.link_rules.specs.Units.{Source}
use Rattle.meaning_rules.specs.Designators.{slot, root_type}
use Rattle.meaning_rules.specs.Fitting.{Fits}
use Rattle.meaning_rules.specs.Accepted.{IsKnown, IsOpening, IsPlain}

-- ---- lists and tests

pub left_none : {X : Type 0} (xs ys : List X) → (xs ++ ys) ≡ [] → xs ≡ []
left_none [] ys is = refl
left_none (x ∷ xs) ys is = absurd cc

pub right_none : {X : Type 0} (xs ys : List X) → (xs ++ ys) ≡ [] → ys ≡ []
right_none [] ys is = is
right_none (x ∷ xs) ys is = absurd cc

pub both_left : (a b : Bool) → (a && b) ≡ true → a ≡ true
both_left true b is = refl
both_left false b is = absurd cc

pub both_right : (a b : Bool) → (a && b) ≡ true → b ≡ true
both_right true b is = is
both_right false b is = absurd cc

pub not_true : (b : Bool) → not b ≡ true → b ≡ false
not_true true is = absurd cc
not_true false is = refl

pub asked : (rule : ℕ) (at : Place) (b : Bool) → asks rule at b ≡ [] → b ≡ true
asked rule at true is = refl
asked rule at false is = absurd cc

-- ---- what was found

pub unless_none : {X : Type 0} (bs : List Breach) (x : Option X) → (unless bs x).breaches ≡ [] → bs ≡ []
unless_none [] x is = refl
unless_none (b ∷ bs) x is = absurd cc

pub unless_is : {X : Type 0} (bs : List Breach) (x : Option X) → bs ≡ [] → unless bs x ≡ found x
unless_is bs x is = ap (λ cs. unless cs x) is

pub found_whole : {X : Type 0} (f : Found X) → f.breaches ≡ [] → f ≡ found f.is
found_whole f is = let whole : f ≡ record { is = f.is; breaches = [] } = ap (λ bs. record { is = f.is; breaches = bs }) is in whole

-- ---- types of values

pub record SameTypes : Type 0 where
  pub same : (t u : DataType) → same_type t u ≡ true → t ≡ u

module _ (us : List Source) (kinds : Kinds) where
  -- a value fits a type that is known, and a test holds of that
  pub fits_known : (x : Datum) (o : Option DataType) → Fits us kinds x o → IsKnown o
  fits_known x None h = absurd h
  fits_known x (Some t) h = (t, refl)

  pub fits_tested : (p : DataType → Bool) (x : Datum) (o : Option DataType) → Fits us kinds x o → fits p o ≡ true →
      (t : DataType) × (o ≡ Some t) × (p t ≡ true) × Fits us kinds x (Some t)
  fits_tested p x None h holds = absurd h
  fits_tested p x (Some t) h holds = (t, refl, holds, h)

  pub fits_agreed : SameTypes → (x : Datum) (t : DataType) (o : Option DataType) → Fits us kinds x o → agree (Some t) o ≡ true → Fits us kinds x (Some t)
  fits_agreed types x t None h holds = absurd h
  fits_agreed types x t (Some u) h holds = subst (λ y. Fits us kinds x (Some y)) (sym (types.same t u holds)) h

-- ---- names of a body

pub local_at : (v : Scope) (n : Name) (l : Local) → local v n.text ≡ Some l → slice_get v.locals (slot v n) ≡ Some l
local_at v n l is = sym (find_at (λ m. bytes_eq m.name n.text) v.locals) ∙ is

pub all_at : {X : Type 0} (P : X → Type 0) (xs : List X) (place : ℕ) (x : X) → AllByRecursion P xs → slice_get xs place ≡ Some x → P x
all_at P [] place x all at = absurd cc
all_at P (y ∷ ys) ℕ.zero x all at = subst P (ap (given y) at) all.0
  where
    given : {X : Type 0} → X → Option X → X
    given y None = y
    given y (Some z) = z
all_at P (y ∷ ys) (ℕ.suc place) x all at = all_at P ys place x all.1 at

pub opening_at : (v : Scope) → IsPlain v → (n : Name) (l : Local) → local v n.text ≡ Some l → IsOpening v.program l
opening_at v plain n l is = all_at (IsOpening v.program) v.locals (slot v n) l plain.names (local_at v n l is)

-- ---- designators

pub walked_none : (v : Scope) (d : Found DataType) (p : Path) → (walked v d p).breaches ≡ [] → d.breaches ≡ []
walked_none v d syn.here is = is
walked_none v d (syn.to s p) is =
    left_none d.breaches (stepped v d.is s).breaches (unless_none (d.breaches ++ (stepped v d.is s).breaches) (stepped v d.is s).is
    (walked_none v (step_found d (stepped v d.is s)) p is))

-- a name that may be written, and its type
pub record IsWritten (v : Scope) (rule : ℕ) (n : Name) : Type 0 where
  pub of : Local
  pub type : DataType
  pub named : local v n.text ≡ Some of
  pub writes : may_write of ≡ true
  pub typed : of.type ≡ Some type
  pub found_so : written_root v rule n ≡ found (Some type)
  pub root : root_type v n ≡ Some type

outer_breaks : (rule : ℕ) (n : Name) (s : StandsFor) → (outer_root rule n s).breaches ≡ [] → ⊥
outer_breaks rule n top.Nothing is = absurd cc
outer_breaks rule n (top.Top i t) is = absurd cc
outer_breaks rule n (top.Everywhere p) is = absurd cc

pub is_written : (v : Scope) → IsPlain v → (rule : ℕ) (n : Name) → (written_root v rule n).breaches ≡ [] → IsWritten v rule n
is_written v plain rule n none = by (local v n.text) refl none
  where
    by : (o : Option Local) → local v n.text ≡ o → (root_of v rule n o).breaches ≡ [] → IsWritten v rule n
    by None is breaks = absurd (outer_breaks rule n (stands_for v.program v.home n.text) breaks)
    by (Some l) is breaks =
        let no = unless_none (asks rule n.at (may_write l)) l.type breaks in
        let known = (opening_at v plain n l is).known in
        record {
          of = l;
          type = known.0;
          named = is;
          writes = asked rule n.at (may_write l) no;
          typed = known.1;
          found_so = ap (root_of v rule n) is ∙ (unless_is (asks rule n.at (may_write l)) l.type no ∙ ap found known.1);
          root = ap (λ o. option_map_or (λ m. m.type) o None) is ∙ known.1;
        }
