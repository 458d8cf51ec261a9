-- A program that links and is well typed, whose words are such as a text may have and which keeps within the limits, is accepted.
use Rattle.std.proofs.Common.{subst, sym, ◌∙◌}
use Rattle.std.specs.Prelude.{◌≡◌, ℕ, zero, suc, List, [], slice_get, Option, Some, None, option_and_then}
use Rattle.std.specs.List.{AllByRecursion}
use Rattle.orca_base.specs.declared.ids.KindNo.{KindNo}
use Rattle.orca_syntax.specs.Syntax.{Kind}
use Rattle.link_rules.specs.Declarations.{declarations}
use Rattle.link_rules.specs.Linked.{IsLinked}
use Rattle.link_rules.specs.Rules.{Links}
use Rattle.link_rules.specs.Units.{Source}
use Rattle.link_rules.proofs.Breaches.{no_breach}
use Rattle.type_rules.specs.declared.names.LocalRole.TheVariants.{ObjectField}
use Rattle.type_rules.specs.Breaches.{IsWellTyped}
use Rattle.type_rules.specs.Constants.{View}
use Rattle.type_rules.specs.Declarations.{fields_view}
use Rattle.type_rules.specs.TopLevel.{TopName, top_names}
use Rattle.type_rules.specs.TypePhrases.{data_found, kind_found}
use Rattle.meaning_rules.specs.Accepted.{AreTexts, IsAccepted, IsObjectType}
use Rattle.meaning_rules.specs.Programs.{ObjectType, implementation, object_type, specifications, specified, type_at}
use Rattle.meaning_rules.proofs.Orderly.{gives_order}
use Rattle.accepted_law.specs.Known.{ArePhrasesKnown, AreTypesKnown, IsPhraseKnown}
use Rattle.accepted_law.specs.Limits.{IsWithinLimits}
use Rattle.accepted_law.proofs.Bodies.{all_fields, all_functions, all_texts, begin_plain, fields_data, operations_fine, type_is_fine}
use Rattle.accepted_law.proofs.Counted.{few_fields, few_names}
use Rattle.accepted_law.proofs.Declared.{IsType, declared_is, declared_known}
use Rattle.accepted_law.proofs.Found.{kind_is_found}
use Rattle.accepted_law.proofs.Measures.{is_data}
use Rattle.accepted_law.proofs.Named.{all_values, has_main}
use Rattle.accepted_law.proofs.Operations.{all_operations}
use Rattle.accepted_law.proofs.Texts.{all_processes}
use Rattle.accepted_law.proofs.Tops.{IsFineDecl, IsFineTop, decls_fine, tops_fine}

module _ (us : List Source) (linked : IsLinked us) (fine : AllByRecursion (IsFineTop us) (top_names us)) (decls : AllByRecursion (λ x. IsFineDecl us x.by x.decl) (declarations us)) (limits : IsWithinLimits us) where
  implementation_known : (name : List ℕ) (t : ObjectType) → implementation us name ≡ Some t → IsObjectType us t
  implementation_known name t is =
      let f = type_is_fine us linked fine decls name t is in
      record {
        scope = begin_plain us linked fine decls name t f;
        holds = fields_data us linked fine decls name t f;
        few = few_fields us limits name t is ObjectField (data_found (fields_view us t.home t.fields));
        operations = operations_fine us linked fine decls name t f;
      }

  types_known : (kind : KindNo) (t : ObjectType) → object_type us kind ≡ Some t → IsObjectType us t
  types_known kind t is = by kind.0 is
    where
      specification : (o : Option TopName) → option_and_then (specified us) o ≡ Some t → IsObjectType us t
      specification None e = absurd cc
      specification (Some x) e = implementation_known x.defined.name.text t e

      by : (k : ℕ) → type_at us k ≡ Some t → IsObjectType us t
      by zero e = absurd cc
      by (suc k) e = specification (slice_get (specifications us) k) e

pub accepted : (us : List Source) → Links us → IsWellTyped us → AreTexts us → IsWithinLimits us → IsAccepted us
accepted us links typed sound limits =
    let linked = (no_breach us).0 links in
    let fine = tops_fine us typed sound in
    let decls = decls_fine us typed sound in
    record {
      fields = all_fields us linked fine;
      orderly = gives_order us typed sound;
      values = all_values us linked;
      few = few_names us limits;
      functions = all_functions us linked fine;
      object_types = types_known us linked fine decls limits;
      texts = all_texts us linked fine;
      operations = all_operations us linked fine decls limits.parameters;
      processes = all_processes us linked fine limits.parameters;
      main = has_main us linked fine;
    }

pub types_are_known : (us : List Source) → Links us → IsWellTyped us → AreTexts us → AreTypesKnown us
types_are_known us links typed sound = λ i t of at what.
    let linked = (no_breach us).0 links in
    let fine = tops_fine us typed sound in
    let is : IsType us linked fine i = record { named = t; of = of; at = at; what = what } in
    let known = declared_known us linked fine i is in
    record { type = known.0; is = known.1; defined = sym (declared_is us linked fine i is) ∙ known.1 }

pub phrases_are_known : (us : List Source) → Links us → IsWellTyped us → AreTexts us → ArePhrasesKnown us
phrases_are_known us links typed sound = λ v k is _ none. by v is k none
  where
    here : (m : List ℕ) (names : List (List ℕ)) (k : Kind) → (kind_found (record { program = us; home = m; names = names }) k).breaches ≡ [] → IsPhraseKnown (record { program = us; home = m; names = names }) k
    here m names k none =
        let h = kind_is_found us ((no_breach us).0 links) (tops_fine us typed sound) m names k none in
        record { type = h.0; is = h.1; data_type = λ simple. is_data us h.0 (h.2 simple) }

    by : (v : View) → v.program ≡ us → (k : Kind) → (kind_found v k).breaches ≡ [] → IsPhraseKnown v k
    by v is =
        subst (λ p. (k : Kind) → (kind_found (record { program = p; home = v.home; names = v.names }) k).breaches ≡ [] → IsPhraseKnown (record { program = p; home = v.home; names = v.names }) k) (sym is)
        (here v.home v.names)
