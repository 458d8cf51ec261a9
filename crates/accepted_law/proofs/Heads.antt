-- What fits as arguments is of an operation that has a head in its type's specification: an implementation has no more operations.
use Rattle.std.proofs.Common.{◌≤◌, refl, sym, ap, ◌∙◌, subst, arith}
use Rattle.std.specs.Prelude.{◌≡◌, ℕ, zero, suc, Bool, true, List, [], ◌∷◌, drop, length, slice_get, Option, Some, None, option_and_then}
use Rattle.std.specs.List.{AllByRecursion, list_all}
use Rattle.std.proofs.lemmas.Bool.{true≢false}
use Rattle.std.proofs.lemmas.Option.{slice_get_within}
use Rattle.orca_base.specs.declared.ids.KindNo.{KindNo}
use Rattle.orca_base.specs.declared.ids.OpNo.{OpNo}
use Rattle.orca_syntax.specs.Syntax.{Head, Operation, Variables}
use Rattle.link_rules.specs.Declarations.{declarations}
use Rattle.link_rules.specs.Linked.{IsLinked}
use Rattle.link_rules.specs.Rules.{Links, is_role}
use Rattle.link_rules.specs.Units.{Source}
use Rattle.link_rules.specs.declared.role.Role.TheVariants.{Specification}
use Rattle.link_rules.proofs.Breaches.{no_breach}
use Rattle.type_rules.specs.Breaches.{IsWellTyped}
use Rattle.type_rules.specs.Declarations.{heads_match, heads_of, is_head_of, operation_view}
use Rattle.type_rules.specs.Rules.{asks}
use Rattle.type_rules.specs.TopLevel as top
use Rattle.type_rules.specs.TopLevel.{What, TopName, top_names}
use Rattle.value_core.specs.Datum.{Data}
use Rattle.value_core.specs.Fits.{Kinds}
use Rattle.meaning_rules.specs.Accepted.{AreTexts}
use Rattle.meaning_rules.specs.Fitting.{FitsArgsOf, FitsOperation, FitsParameters}
use Rattle.meaning_rules.specs.Programs.{ObjectType, is_specification, specifications, specified, type_at}
use Rattle.meaning_rules.proofs.Judged.{all_at, asked, left_none, right_none}
use Rattle.accepted_law.specs.Limits.{IsWithinLimits, has_few_parameters}
use Rattle.accepted_law.specs.NextNamed.{CallsKnown, HasHead, HeadOf}
use Rattle.accepted_law.proofs.Bodies.{type_is_fine}
use Rattle.accepted_law.proofs.Lists.{Place, kept_place}
use Rattle.accepted_law.proofs.Operations.{named_is}
use Rattle.accepted_law.proofs.Tops.{HasRole, IsFineDecl, IsFineTop, decls_fine, role_of, tops_fine, top_roles}

-- heads that match are no fewer than the operations
no_fewer : (us : List Source) (m : List ℕ) (fields : List Variables) (home : List ℕ) (hs : List Head) (os : List Operation) → heads_match us m fields home hs os ≡ [] → length os ≤ length hs
no_fewer us m fields home hs [] none = omega arith
no_fewer us m fields home hs (o ∷ os) none = by hs (asked 12 o.head.at first (left_none (asks 12 o.head.at first) _ none)) (no_fewer us m fields home (drop 1 hs) os (right_none (asks 12 o.head.at first) _ none))
  where
    first : Bool
    first = is_head_of us (operation_view us m fields o) home o.head (slice_get hs 0)

    by : (gs : List Head) → is_head_of us (operation_view us m fields o) home o.head (slice_get gs 0) ≡ true → length os ≤ length (drop 1 gs) → suc (length os) ≤ length gs
    by [] is rest = absurd (true≢false (sym is))
    by (g ∷ gs) is rest = omega (arith, rest)

module _ (us : List Source) (linked : IsLinked us) (fine : AllByRecursion (IsFineTop us) (top_names us)) (decls : AllByRecursion (λ x. IsFineDecl us x.by x.decl) (declarations us))
    (few : list_all (λ t. has_few_parameters t.what) (top_names us) ≡ true) where
  -- a specification has heads, no fewer than its type has operations
  heads_there : (k : ℕ) (t : TopName) (T : ObjectType) → slice_get (specifications us) k ≡ Some t → specified us t ≡ Some T → (hs : List Head) × (t.what ≡ top.Specified hs) × (length T.operations ≤ length hs)
  heads_there k t T at is = by t.what refl
    where
      place : Place (top_names us) t × (is_specification t ≡ true)
      place = kept_place is_specification (top_names us) k t at

      not_other : (w : What) → t.what ≡ w → is_role Specification (role_of w) ≡ true
      not_other w what = sym (ap (is_role Specification) (all_at HasRole (top_names us) place.0.0 t (top_roles us) place.0.1 ∙ ap role_of what)) ∙ place.1

      by : (w : What) → t.what ≡ w → (hs : List Head) × (t.what ≡ top.Specified hs) × (length T.operations ≤ length hs)
      by (top.Specified hs) what = (
        hs,
        what,
        no_fewer us T.home T.fields t.defined.by hs T.operations
            (subst (λ o. heads_of o T.operations (heads_match us T.home T.fields) ≡ []) (named_is us linked fine decls few place.0.0 t hs place.0.1 what)
            (type_is_fine us linked fine decls t.defined.name.text T is).heads),
      )
      by (top.Implemented os) what = absurd (true≢false (sym (not_other (top.Implemented os) what)))
      by (top.Constant b) what = absurd (true≢false (sym (not_other (top.Constant b) what)))
      by (top.TypeName of) what = absurd (true≢false (sym (not_other (top.TypeName of) what)))
      by (top.Value of number) what = absurd (true≢false (sym (not_other (top.Value of number) what)))
      by (top.Function ps r b) what = absurd (true≢false (sym (not_other (top.Function ps r b) what)))
      by (top.Process ps b) what = absurd (true≢false (sym (not_other (top.Process ps b) what)))

  called : (kinds : Kinds) (kind : KindNo) (op : OpNo) (args : Data) (k : ℕ) → FitsArgsOf us kinds k kind op args → kind.0 ≡ k → HasHead us k op.0
  called kinds kind op args zero fits is = fits.0
  called kinds kind op args (suc k) fits is = by (slice_get (specifications us) k) refl (subst (λ n. FitsOperation us kinds op args (type_at us n)) is fits)
    where
      operation : (t : TopName) → slice_get (specifications us) k ≡ Some t → (T : ObjectType) → specified us t ≡ Some T → (o : Option Operation) → slice_get T.operations op.0 ≡ o →
          FitsParameters us kinds T args o → HeadOf us k op.0
      operation t at T made None none h = absurd h
      operation t at T made (Some o) here h =
          let heads = heads_there k t T at made in
          let within = slice_get_within T.operations op.0 o here in
          let few_operations = heads.2 in
          record { specification = t; heads = heads.0; at = at; is = heads.1; within = omega (arith, within, few_operations) }

      of_type : (t : TopName) → slice_get (specifications us) k ≡ Some t → (x : Option ObjectType) → specified us t ≡ x → FitsOperation us kinds op args x → HeadOf us k op.0
      of_type t at None made h = absurd h
      of_type t at (Some T) made h = operation t at T made (slice_get T.operations op.0) refl h

      by : (o : Option TopName) → slice_get (specifications us) k ≡ o → FitsOperation us kinds op args (option_and_then (specified us) o) → HeadOf us k op.0
      by None at h = absurd h
      by (Some t) at h = of_type t at (specified us t) refl h

pub calls_known : (us : List Source) → Links us → IsWellTyped us → AreTexts us → IsWithinLimits us → CallsKnown us
calls_known us links typed sound limits kinds kind op args fits =
    called us ((no_breach us).0 links) (tops_fine us typed sound) (decls_fine us typed sound) limits.parameters kinds kind op args kind.0 fits refl
