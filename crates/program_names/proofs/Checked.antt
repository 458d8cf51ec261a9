-- What a checked program gives: its words are such as a text may have, and the names that were listed are those of its source.
use Rattle.std.proofs.Common.{List, [], ◌∷◌, map, filter, ap, ◌∙◌}
use Rattle.std.proofs.Math.Logic.{∥∥₁_elim}
use Rattle.std.proofs.Props.{props}
use Rattle.std.specs.Prelude.{◌≡◌, codes}
use Rattle.link_rules.specs.OfText.{IsUnitOfText}
use Rattle.link_rules.specs.Units.{Source, source}
use Rattle.link_rules.specs.declared.named_unit.NamedUnit.{NamedUnit}
use Rattle.type_rules.specs.TopLevel.{TopName, top_names}
use Rattle.type_forms.specs.Indexed.{Indexes}
use Rattle.type_forms.specs.Seen.{top}
use Rattle.type_forms.specs.declared.tops.Top.{Top}
use Rattle.type_decls.specs.Symbols.{AreSymbols}
use Rattle.type_decls.specs.declared.symbols.Symbols.{Symbols}
use Rattle.meaning_rules.specs.Accepted.{AreTexts}
use Rattle.meaning_rules.specs.Programs.{is_process, is_specification}
use Rattle.history_text.specs.declared.names.Names.{Names}
use Rattle.program_names.specs.Naming.{AreNamesOf, name_text, operation_texts}

pub are_texts : ((u : NamedUnit) → IsUnitOfText u) → (units : List NamedUnit) → AreTexts (map source units)
are_texts of [] = tt
are_texts of (u ∷ units) = ((of u).words, are_texts of units)

-- of the names of the top level that were listed
pub record AreListed (ts : List TopName) (names : Names) : Type 0 where
  pub kinds : names.kinds.items ≡ codes "Output" ∷ map name_text (filter is_specification ts)
  pub operations : map (λ o. o.names.items) names.operations.items ≡ (codes "WriteLine" ∷ []) ∷ map operation_texts (filter is_specification ts)
  pub texts : names.texts.items ≡ map name_text (filter (λ t. is_process t.what) ts)

once : (us : List Source) (names : Names) → IsProp (AreNamesOf us names)
once us names = hlevel props

pub are_names : (us : List Source) (symbols : Symbols) (tops : List Top) (names : Names) → ∥ AreSymbols us symbols ∥₁ → ((vs : List Source) → Indexes symbols.index vs → map top tops ≡ top_names vs) →
    AreListed (map top tops) names → AreNamesOf us names
are_names us symbols tops names tables seen listed =
    ∥∥₁_elim tables (once us names)
    (λ s.
    let all = seen us s.names in
    record {
      kinds = listed.kinds ∙ ap (λ (ts : List TopName). codes "Output" ∷ map name_text (filter is_specification ts)) all;
      operations = listed.operations ∙ ap (λ (ts : List TopName). (codes "WriteLine" ∷ []) ∷ map operation_texts (filter is_specification ts)) all;
      texts = listed.texts ∙ ap (λ (ts : List TopName). map name_text (filter (λ t. is_process t.what) ts)) all;
    })
