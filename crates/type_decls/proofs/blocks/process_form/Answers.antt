use Rattle.std.proofs.Common.{Bool, not, ◌||◌, map, ap, ◌∙◌}
use Rattle.std.specs.Prelude.{flat_map}
use Rattle.orca_syntax.specs.Shown.{parameter}
use Rattle.type_rules.specs.Order.{least}
use Rattle.type_rules.specs.Rules.{asks}
use Rattle.type_rules.specs.Declarations.{is_empty, is_main, is_not_out}
use Rattle.type_decls.proofs.FirstOnes.{first_of_two}
use Rattle.type_decls.proofs.blocks.process_form.Goals as goal

pub returns : goal.returns
returns c =
    let ps = map parameter c.args.parameters.now in
    let n = c.args.name.now in
    first_of_two c.asks.result c.none_out.result c.lesser.result (asks 16 n.at (not (is_main n) || is_empty ps)) (flat_map (λ p. asks 16 p.name.at (is_not_out p.mode)) ps)
    c.lesser.ensures (c.asks.ensures ∙ ap (λ (b : Bool). least (asks 16 n.at b)) c.may_start.ensures) c.none_out.ensures
