-- A read of an object leaves its state as it is, where its arguments and the state fit. It is a proof, which the traits of a machine ask for.
use Rattle.std.proofs.Common.{refl, sym, ap, ◌∙◌, subst}
use Rattle.std.specs.Prelude.{◌≡◌, ℕ, zero, suc, List, map, slice_get, Option, Some, None}
use Rattle.std.specs.Option.{option_map_or}
use Rattle.std.proofs.lemmas.List.{length-map}
use Rattle.orca_base.specs.declared.ids.KindNo.{KindNo}
use Rattle.orca_base.specs.declared.ids.OpNo.{OpNo}
use Rattle.orca_syntax.specs.Syntax.{Operation}
use Rattle.link_rules.specs.Units.{Source}
use Rattle.type_rules.specs.Declarations.{field_locals, operation_view}
use Rattle.type_rules.specs.Scopes.{value_local}
use Rattle.value_core.specs.Datum.{Data, list_of}
use Rattle.value_core.specs.Fits.{KeepsState, Kinds}
use Rattle.value_core.specs.declared.action.Class.TheVariants.{Reads, Writes}
use Rattle.meaning_rules.specs.Classes.{class_of, type_class}
use Rattle.meaning_rules.specs.Fitting.{FitsArgs, FitsArgsOf, FitsOperation, FitsParameters, FitsState, FitsType}
use Rattle.meaning_rules.specs.Operations.{tries_of}
use Rattle.meaning_rules.specs.Programs.{ObjectType, object_type, type_at}
use Rattle.meaning_rules.proofs.FittingBodies.{fitting_length}
use Rattle.meaning_rules.proofs.ReadsKeeping.{reads_keep}

-- what the output object's type has is a write
writes_apart : Writes ≡ Reads → ⊥
writes_apart e = cc

module _ (us : List Source) (kinds : Kinds) (kind : KindNo) (op : OpNo) (state args : Data) (is_read : class_of us kind op ≡ Reads)
    (state_fits : FitsState us kinds kind state) where
  abbrev Kept : Type 0
  Kept = KeepsState (tries_of us kind op state args) (λ after. after ≡ state)

  -- an operation whose arguments fit is called with as many as it has parameters
  called : (t : ObjectType) → object_type us kind ≡ Some t → (o : Option Operation) → slice_get t.operations op.0 ≡ o →
      FitsParameters us kinds t args o → Kept
  called t type None here fits = absurd fits
  called t type (Some o) here fits =
      let v = value_local (operation_view us t.home t.fields o) in
      let ps = o.head.parameters in
      let fields = field_locals us t.home t.fields in
      reads_keep us kind op state args
      (record {
        of = t;
        operation = o;
        type = type;
        has = here;
        given = fitting_length us kinds (list_of args) (map v ps) fits.0 ∙ length-map ps v;
        values = fitting_length us kinds (list_of state) fields (subst (FitsType us kinds state) type state_fits);
      })
      is_read

  of_type : (x : Option ObjectType) → object_type us kind ≡ x → FitsOperation us kinds op args x → Kept
  of_type None type fits = absurd fits
  of_type (Some t) type fits = called t type (slice_get t.operations op.0) refl fits

  by_number : (k : ℕ) → kind.0 ≡ k → FitsArgsOf us kinds k kind op args → Kept
  by_number zero is fits = absurd (writes_apart (sym (ap (λ n. option_map_or (type_class us op) (type_at us n) Writes) is) ∙ is_read))
  by_number (suc k) is fits = of_type (object_type us kind) refl fits

  pub read_keeps : FitsArgs us kinds kind op args → Kept
  read_keeps fits = by_number kind.0 refl fits
