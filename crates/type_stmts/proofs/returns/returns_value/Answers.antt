use Rattle.std.proofs.Common.{Option, Some, subst, sym, ap, ◌∙◌}
use Rattle.type_rules.specs.declared.types.DataType.{DataType}
use Rattle.type_rules.specs.Rules.{agree, asks}
use Rattle.type_rules.specs.Statements.{returns as rule_returns}
use Rattle.type_forms.specs.Finding.{FirstOf}
use Rattle.type_exprs.proofs.Firsts.{asked, first_of_two}
use Rattle.type_stmts.proofs.returns.returns_value.Goals as goal

pub returns : goal.returns
returns c = λ f is_f.
    let k = c.in-Some.kind in
    subst (λ (o : Option (Option DataType)). FirstOf c.lesser-in-Some.result (rule_returns o c.args.at (Some f))) (sym c.in-Some.is)
    (first_of_two c.args.value.first c.asks.result c.lesser-in-Some.result f.breaches (asks 23 c.args.at (agree k f.is)) c.lesser-in-Some.ensures is_f.first
    (asked 23 c.args.at c.asks.result c.agree.result _ c.asks.ensures (c.agree.ensures ∙ ap (agree k) is_f.is)))
