use Rattle.std.proofs.Common.{Option, subst, sym}
use Rattle.std.specs.Borrow.{Bor}
use Rattle.type_rules.specs.Rules.{asks}
use Rattle.type_rules.specs.Expressions.{may_write, root_of}
use Rattle.type_forms.specs.Finding.{Finds}
use Rattle.type_exprs.specs.declared.scope.Local.{Local}
use Rattle.type_exprs.specs.Scoped.{lent_local, local_as}
use Rattle.type_exprs.proofs.Firsts.{asked, found_as}
use Rattle.type_exprs.proofs.designators.root_of.Goals as goal

pub returns-in_ok-copy_known-in-Some : goal.returns-in_ok-copy_known-in-Some
returns-in_ok-copy_known-in-Some c = λ w s.
    let n = c.args.name.now in
    let rule = c.args.rule in
    let own = asks rule n.at (may_write (local_as n.text c.in-Some.local.now)) in
    subst (λ (o : Option (Bor Local)). Finds c.unless.result (root_of w rule n (lent_local n.text o))) (sym c.in-Some.is)
    (found_as c.unless.result own _ _
    (c.unless.ensures own (asked rule n.at c.asks-breach.result c.may_write.result _ c.asks-breach.ensures (c.may_write.ensures n.text)))
    (c.in_ok-copy_known-in-Some.ensures {u = tt}))
