-- That the types of a program are known (docs/LANGUAGE.md, Types): each declared type, and each type phrase that breaks no rule and whose
-- words are such as a text may have.
use Rattle.std.specs.Prelude.{◌≡◌, ℕ, false, List, [], slice_get, Some}
use Rattle.orca_syntax.specs.Syntax.{Kind, Definition}
use Rattle.orca_syntax.specs.Sound.{IsSoundKind}
use Rattle.link_rules.specs.Units.{Source}
use Rattle.type_rules.specs.declared.types.Measured.{Measured}
use Rattle.type_rules.specs.Constants.{View}
use Rattle.type_rules.specs.TopLevel as top
use Rattle.type_rules.specs.TopLevel.{TopName, top_names}
use Rattle.type_rules.specs.TypePhrases.{declared_type, definition, kind_found, whole_module}
use Rattle.type_rules.specs.Types.{is_object}
use Rattle.meaning_rules.specs.Accepted.{IsData}

-- a declared type of this number is known, and is what its definition says over the declared types of the program
pub record IsTypeKnown (us : List Source) (i : ℕ) (t : TopName) (of : Definition) : Type 0 where
  pub type : Measured
  pub is : declared_type us i ≡ Some type
  pub defined : (definition (declared_type us) (whole_module us t) i of).is ≡ Some type

abbrev pub AreTypesKnown : List Source → Type 0
AreTypesKnown us =
    (i : ℕ) (t : TopName) (of : Definition) → slice_get (top_names us) i ≡ Some t → t.what ≡ top.TypeName of → IsTypeKnown us i t of

-- a type phrase is a type, and of data where that is no object type
pub record IsPhraseKnown (v : View) (k : Kind) : Type 0 where
  pub type : Measured
  pub is : (kind_found v k).is ≡ Some type
  pub data_type : is_object type.kind ≡ false → IsData v.program type.kind

abbrev pub ArePhrasesKnown : List Source → Type 0
ArePhrasesKnown us = (v : View) (k : Kind) → v.program ≡ us → IsSoundKind k → (kind_found v k).breaches ≡ [] → IsPhraseKnown v k
