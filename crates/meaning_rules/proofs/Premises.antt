-- The laws of values that preservation stands on.
use Rattle.std.specs.Prelude.{ℕ, List}
use Rattle.std.specs.List.{All}
use Rattle.link_rules.specs.Units.{Source}
use Rattle.value_core.specs.Datum.{Datum}
use Rattle.value_core.specs.Sound.{IsCode, IsSound}
use Rattle.value_ops.specs.Texts.{text_of}
use Rattle.meaning_rules.specs.ElementsFit.{ElementsFit}
use Rattle.meaning_rules.specs.GraphsFit.{GraphsFit}
use Rattle.meaning_rules.specs.PartsFit.{PartsFit}
use Rattle.meaning_rules.specs.PathsFit.{PathsFit}
use Rattle.meaning_rules.proofs.Changing.{SizeLaws}
use Rattle.meaning_rules.proofs.Judged.{SameTypes}

pub record Laws (us : List Source) : Type 0 where
  pub same : SameTypes
  pub parts : PartsFit us
  pub paths : PathsFit us
  pub elements : ElementsFit us
  pub graphs : GraphsFit us
  pub sizes : SizeLaws
  pub told : (names : List (List ℕ)) (v : Datum) → All (All IsCode) names → IsSound v → All IsCode (text_of names v)
