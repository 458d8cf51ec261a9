use Rattle.std.proofs.Common.{Bool, List, length, ap, ◌∙◌}
use Rattle.std.specs.Prelude.{◌==◌}
use Rattle.orca_syntax.specs.Shown.{exprs}
use Rattle.type_rules.specs.Order.{least}
use Rattle.type_rules.specs.Rules.{asks}
use Rattle.type_rules.specs.Expressions.{count_of, is_used_well}
use Rattle.type_rules.specs.declared.signature.Formal.{Formal}
use Rattle.type_forms.proofs.FirstOfBoth.{first_of_both}
use Rattle.type_exprs.specs.Callees.{used_as}
use Rattle.type_exprs.proofs.calls.called_well.Goals as goal

pub returns : goal.returns
returns c =
    let s = c.args.signature.now in
    let es = exprs c.args.given.now in
    let at = c.args.name.now.at in
    c.lesser.ensures
    ∙ first_of_both c.asks.result c.asks-2.result (asks 33 c.args.at (is_used_well (used_as c.args.way) s.result)) (asks 29 at (length s.formals == count_of es))
    (c.asks.ensures ∙ ap (λ (b : Bool). least (asks 33 c.args.at b)) c.is_used_well.ensures)
    (c.asks-2.ensures
    ∙ ap (λ (b : Bool). least (asks 29 at b)) (c.is_filled.ensures ∙ ap (λ (l : List Formal). length l == count_of es) c.as_slice.ensures))
