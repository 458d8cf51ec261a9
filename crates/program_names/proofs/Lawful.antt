-- The meaning of an accepted program has the laws of a performer and a processor.
use Rattle.std.proofs.Common.{refl, sym, ap, ◌∙◌, subst}
use Rattle.std.specs.Prelude.{◌≡◌, ℕ, zero, suc, List, map, slice_get, Option, Some, None}
use Rattle.std.specs.Option.{option_map_or}
use Rattle.std.proofs.lemmas.List.{length-map}
use Rattle.orca_base.specs.declared.ids.KindNo.{KindNo}
use Rattle.orca_base.specs.declared.ids.OpNo.{OpNo}
use Rattle.orca_syntax.specs.Syntax.{Operation}
use Rattle.link_rules.specs.Units.{Source}
use Rattle.type_rules.specs.Declarations.{field_locals, operation_view}
use Rattle.type_rules.specs.Scopes.{value_local}
use Rattle.value_core.specs.Datum.{Data, list_of}
use Rattle.value_core.specs.Fits.{KeepsState, Kinds}
use Rattle.value_core.specs.declared.action.Class.TheVariants.{Reads, Writes}
use Rattle.book_law.proofs.Fits.{Laws}
use Rattle.meaning_rules.specs.Classes.{class_of, type_class}
use Rattle.meaning_rules.specs.Fitting.{FitsArgs, FitsArgsOf, FitsOperation, FitsParameters, FitsReply, FitsState, FitsText, FitsType}
use Rattle.meaning_rules.specs.Meanings.{computes_of, performs_of}
use Rattle.meaning_rules.specs.Operations.{tries_of}
use Rattle.meaning_rules.specs.Preservation.{Preservation}
use Rattle.meaning_rules.specs.Programs.{ObjectType, object_type, type_at}
use Rattle.meaning_rules.specs.ReadsKeep.{ReadsKeep}
use Rattle.meaning_rules.specs.StaysFit.{StatesStay, TextsStay}
use Rattle.meaning_rules.proofs.FittingBodies.{fitting_length}

module _ (us : List Source) (reads : ReadsKeep us) (kinds : Kinds) (kind : KindNo) (op : OpNo) (state args : Data) (is_read : class_of us kind op ≡ Reads) (state_fits : FitsState us kinds kind state) where
  abbrev Kept : Type 0
  Kept = KeepsState (tries_of us kind op state args) (λ after. after ≡ state)

  -- an operation whose arguments fit is called with as many as it has parameters
  called : (t : ObjectType) → object_type us kind ≡ Some t → (o : Option Operation) → slice_get t.operations op.0 ≡ o → FitsParameters us kinds t args o → Kept
  called t type None here fits = absurd fits
  called t type (Some o) here fits =
      reads kind op state args
      (record {
        of = t;
        operation = o;
        type = type;
        has = here;
        given = fitting_length us kinds (list_of args) (map (value_local (operation_view us t.home t.fields o)) o.head.parameters) fits.0 ∙ length-map o.head.parameters (value_local (operation_view us t.home t.fields o));
        values = fitting_length us kinds (list_of state) (field_locals us t.home t.fields) (subst (FitsType us kinds state) type state_fits);
      })
      is_read

  of_type : (x : Option ObjectType) → object_type us kind ≡ x → FitsOperation us kinds op args x → Kept
  of_type None type fits = absurd fits
  of_type (Some t) type fits = called t type (slice_get t.operations op.0) refl fits

  -- the output object's type has no read
  pub read_keeps : (k : ℕ) → kind.0 ≡ k → FitsArgsOf us kinds k kind op args → Kept
  read_keeps zero is fits = absurd (let writes : Writes ≡ Reads = sym (ap (λ n. option_map_or (type_class us op) (type_at us n) Writes) is) ∙ is_read in cc)
  read_keeps (suc k) is fits = of_type (object_type us kind) refl fits

pub lawful : (us : List Source) → Preservation us → ReadsKeep us → StatesStay us → TextsStay us → Laws (performs_of us) (computes_of us) (FitsState us) (FitsArgs us) (FitsText us) (FitsReply us)
lawful us preserved reads states texts = record {
  output_fits = λ kinds. refl;
  main_fits = preserved.main;
  made_fits = preserved.makings;
  keeps_fit = preserved.states;
  replies_fit = preserved.replies;
  reads_keep = λ kinds kind op state args is state_fits args_fit. read_keeps us reads kinds kind op state args is state_fits kind.0 refl args_fit;
  state_stays_fit = states;
  text_stays_fit = texts;
  lawful = preserved.processes;
}
