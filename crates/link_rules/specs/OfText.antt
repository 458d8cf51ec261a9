-- What a unit is, in that a text has it.
use Rattle.std.specs.Prelude.{◌≡◌, None}
use Rattle.orca_base.specs.declared.limits.TheConstants.{NESTING}
use Rattle.orca_grammar.specs.Forms.{first_deep}
use Rattle.orca_tree.specs.Marks.{unit as unit_marks}
use Rattle.orca_syntax.specs.Shown.{syntax_of}
use Rattle.orca_syntax.specs.Places.{IsInTextOrder}
use Rattle.orca_syntax.specs.Sound.{IsSoundSyntax}
use Rattle.link_rules.specs.declared.named_unit.NamedUnit.{NamedUnit}

-- its words are sound, its places are in text order, and it nests no deeper than may be
pub record IsUnitOfText (u : NamedUnit) : Type 0 where
  pub words : IsSoundSyntax (syntax_of u.unit)
  pub order : IsInTextOrder (syntax_of u.unit)
  pub nests : first_deep (unit_marks u.unit) NESTING ≡ None
