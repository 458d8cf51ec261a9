-- Sources, files with their texts, and what is said of them together (docs/FORMATS.md, The program). `Source` of link_rules has the
-- syntax in place of the bytes.
use Rattle.std.specs.Prelude.{◌≡◌, ℕ, List, [], ◌∷◌, ◌++◌}
use Rattle.orca_base.specs.declared.place.Place.{Place}
use Rattle.orca_io.specs.Files.{File}
use Rattle.orca_syntax.specs.TextSyntax.{HasSyntax}
use Rattle.link_rules.specs.declared.link_error.LinkError.{LinkError}
use Rattle.link_rules.specs.Rules.{IsLinkError, Links}
use Rattle.link_rules.specs.Units.{Source}
use Rattle.type_rules.specs.declared.type_error.TypeError.{TypeError}
use Rattle.type_rules.specs.Breaches.{IsTypeError, IsWellTyped}
use Rattle.orca_front.specs.declared.fault.FrontFault.{FrontFault}
use Rattle.orca_front.specs.declared.fault.FrontFault.TheVariants.{Faulty, TooNested, Unlinked, Mistyped}
use Rattle.orca_front.specs.declared.source.SourceFile.{SourceFile}
use Rattle.orca_front.specs.Texts.{IsFaulty, IsTooDeep}

abbrev pub file_of : SourceFile → File
file_of s = (s.name.now, s.text.items)

-- a source is a unit with this syntax, which nests no deeper than a text may
pub record IsUnit (file : File) (u : Source) : Type 0 where
  pub named : u.file ≡ file.0
  pub has : HasSyntax file.1 u.syntax
  pub shallow : IsTooDeep file.1 → ⊥

-- the sources are these units, in order; a text has one syntax at most, so these are the only ones
pub data AreUnits : List File → List Source → Type 0 where
  none : AreUnits [] []
  one : (file : File) (files : List File) (u : Source) (us : List Source) → IsUnit file u → AreUnits files us →
      AreUnits (file ∷ files) (u ∷ us)

-- one of the sources, before which all are units
pub record Reaches (sources : List File) (source : File) : Type 0 where
  pub before : List File
  pub after : List File
  pub units : List Source
  pub splits : sources ≡ before ++ source ∷ after
  pub are : AreUnits before units

-- the first text that is no unit nests too deep
pub record NestTooDeep (sources : List File) : Type 0 where
  pub source : File
  pub first : Reaches sources source
  pub deep : IsTooDeep source.1

-- the first text that is no unit has no tokens, or its tokens are none
pub record IsTextFault (sources : List File) (file : List ℕ) (at : Place) (said : List ℕ) : Type 0 where
  pub source : File
  pub named : source.0 ≡ file
  pub first : Reaches sources source
  pub shallow : IsTooDeep source.1 → ⊥
  pub faulty : IsFaulty source.1 at said

-- the sources are units, of which this is the first breach of the lowest rule of linking that is broken
pub record IsUnlinked (sources : List File) (error : LinkError) : Type 0 where
  pub units : List Source
  pub are : AreUnits sources units
  pub first : IsLinkError units error

-- the sources are units that link, of which this is the first breach of a rule of typing
pub record IsMistyped (sources : List File) (error : TypeError) : Type 0 where
  pub units : List Source
  pub are : AreUnits sources units
  pub links : Links units
  pub first : IsTypeError units error

-- the sources are units that link and break no rule of typing
pub record IsAccepted (sources : List File) (units : List Source) : Type 0 where
  pub are : AreUnits sources units
  pub links : Links units
  pub typed : IsWellTyped units

-- why the sources are no program that is accepted
abbrev pub IsFault : List File → FrontFault → Type 0
IsFault sources (Faulty file at said) = IsTextFault sources file at said.items
IsFault sources TooNested = NestTooDeep sources
IsFault sources (Unlinked error) = IsUnlinked sources error
IsFault sources (Mistyped error) = IsMistyped sources error

-- why they are no program that links, whose types weren't looked at
abbrev pub IsLinkFault : List File → FrontFault → Type 0
IsLinkFault sources (Mistyped error) = ⊥
IsLinkFault sources fault = IsFault sources fault
