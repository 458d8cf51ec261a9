-- A unit keeps that some text has it, and each of these facts has one proof.
use Rattle.std.proofs.Math.Logic.{∥∥₁_elim}
use Rattle.std.proofs.Props.{props}
use Rattle.std.proofs.Common.{◌≡◌, None}
use Rattle.orca_base.specs.declared.limits.TheConstants.{NESTING}
use Rattle.orca_grammar.specs.Forms.{first_deep}
use Rattle.orca_tree.specs.Marks.{unit as unit_marks}
use Rattle.orca_syntax.specs.Shown.{syntax_of}
use Rattle.orca_syntax.specs.SoundOnce.{IsSoundSyntax-prop, IsInTextOrder-prop}
use Rattle.orca_syntax.proofs.PlacesInOrder.{syntax_in_order}
use Rattle.orca_syntax.proofs.SoundParts.{parts_sound}
use Rattle.link_rules.specs.declared.named_unit.NamedUnit.{NamedUnit}
use Rattle.link_rules.specs.OfText.{IsUnitOfText}

pub unit_of_text : (u : NamedUnit) → IsUnitOfText u
unit_of_text u =
    let deep_once : IsProp (first_deep (unit_marks u.unit) NESTING ≡ None) = hlevel props in
    record {
      words = ∥∥₁_elim u.read (IsSoundSyntax-prop (syntax_of u.unit)) (λ x. parts_sound x.text (syntax_of u.unit) x.has);
      order = ∥∥₁_elim u.read (IsInTextOrder-prop (syntax_of u.unit)) (λ x. syntax_in_order x.text (syntax_of u.unit) x.has);
      nests = ∥∥₁_elim u.read deep_once (λ x. x.nests);
    }
