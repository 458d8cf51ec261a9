use Rattle.std.proofs.Math.ListN.{drop_of_length-le}
use Rattle.std.proofs.Common.{Bool, ap, ◌∙◌}
use Rattle.orca_syntax.specs.Syntax.{Parameter}
use Rattle.orca_syntax.specs.Shown.{parameter}
use Rattle.type_rules.specs.Order.{least}
use Rattle.type_rules.specs.Rules.{asks}
use Rattle.type_rules.specs.Declarations.{is_not_out}
use Rattle.type_decls.proofs.FirstOnes.{shown_further, shown_end}
use Rattle.type_decls.proofs.blocks.none_out.Goals as goal

pub parameters-preserved : goal.parameters-preserved
parameters-preserved c =
    shown_further parameter (λ (p : Parameter). asks 16 p.name.at (is_not_out p.mode)) c.args.parameters.now c.parameters.parameter-index
    c.parameter-item.result c.parameters.first c.asks-own.result c.lesser-first.result _ c.parameters-test.true c.parameter-item.is c.lesser-first.ensures
    (c.asks-own.ensures ∙ ap (λ (b : Bool). least (asks 16 c.parameter-item.result.name.at b)) c.is_not_out.ensures) c.parameters.invariant

pub returns : goal.returns
returns c =
    shown_end parameter (λ (p : Parameter). asks 16 p.name.at (is_not_out p.mode)) c.args.parameters.now c.parameters.parameter-index c.parameters.first _
    (drop_of_length-le c.args.parameters.now c.parameters-test.false) c.parameters.invariant
