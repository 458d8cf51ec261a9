use Rattle.std.proofs.Common.{sym, ap, ◌∙◌}
use Rattle.orca_syntax.specs.Shown.{expr}
use Rattle.orca_syntax.specs.Syntax.{Expr}
use Rattle.orca_syntax.proofs.ShownLaws.{get_is}
use Rattle.access_estimates.specs.Seen.{all_seen}
use Rattle.estimate_rules.specs.Uses.{passed}
use Rattle.access_estimates.proofs.Rest.{same}
use Rattle.access_estimates.proofs.expressions.add_argument.Goals as goal

pub returns-in-Get : goal.returns-in-Get
returns-in-Get c =
    same c.add_passed.result (all_seen c.args.out.now.items) _ _ _
    (ap (λ (x : Expr). passed c.args.times c.args.to.now c.args.position x) (sym (ap expr c.in-Get.is ∙ get_is c.in-Get.from))) c.add_passed.ensures
