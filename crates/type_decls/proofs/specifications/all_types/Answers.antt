use Rattle.std.proofs.Math.ListN.{drop_of_length-le}
use Rattle.std.proofs.Common.{◌++◌}
use Rattle.orca_syntax.specs.Syntax.{Head}
use Rattle.orca_syntax.specs.Shown.{head}
use Rattle.type_rules.specs.Scopes.{head_view}
use Rattle.type_rules.specs.Declarations.{result_breaches, values_breaches}
use Rattle.type_decls.proofs.FirstOnes.{shown_further, shown_end}
use Rattle.type_decls.proofs.specifications.all_types.Goals as goal

pub heads-preserved : goal.heads-preserved
heads-preserved c = λ us t.
    shown_further head (λ (h : Head). values_breaches (head_view us c.args.home.now h) h.parameters ++ result_breaches (head_view us c.args.home.now h) h.result)
    c.args.heads.now c.heads.head-index c.head-item.result c.heads.first c.in_ok-own.own c.lesser-first.result _ c.heads-test.true c.head-item.is
    c.lesser-first.ensures ((c.in_ok-own.ensures {u = tt}) us t) (c.heads.invariant us t)

pub returns : goal.returns
returns c = λ us t.
    shown_end head (λ (h : Head). values_breaches (head_view us c.args.home.now h) h.parameters ++ result_breaches (head_view us c.args.home.now h) h.result)
    c.args.heads.now c.heads.head-index c.heads.first _ (drop_of_length-le c.args.heads.now c.heads-test.false) (c.heads.invariant us t)
