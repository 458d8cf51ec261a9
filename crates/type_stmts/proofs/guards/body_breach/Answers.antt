use Rattle.std.proofs.Common.{List, map, subst, sym, ap, ◌∙◌}
use Rattle.std.specs.Prelude.{flat_map}
use Rattle.orca_tree.specs.declared.tree.Guard.{Guard}
use Rattle.orca_tree.specs.declared.tree.OperationBody.{OperationBody}
use Rattle.orca_syntax.specs.Shown.{body, guard}
use Rattle.type_rules.specs.Order.{least}
use Rattle.type_rules.specs.Declarations.{body_breaches, guard_breaches}
use Rattle.type_forms.specs.Finding.{FirstOf}
use Rattle.type_exprs.proofs.Firsts.{first_of_two}
use Rattle.type_stmts.proofs.guards.body_breach.Goals as goal

pub returns-in_ok-behind-in-Guarded : goal.returns-in_ok-behind-in-Guarded
returns-in_ok-behind-in-Guarded c = λ w s.
    let own = guard_breaches w (guard c.in-Guarded.first) in
    let rest = flat_map (guard_breaches w) (map guard c.in-Guarded.others.items) in
    subst (λ (o : OperationBody). FirstOf c.lesser.result (body_breaches w (body o))) (sym c.in-Guarded.is)
    (first_of_two c.in_ok-own-in-Guarded.own c.in_ok-behind-in-Guarded.behind c.lesser.result own rest c.lesser.ensures
    ((c.in_ok-own-in-Guarded.ensures {u = tt}) w s)
    ((c.in_ok-behind-in-Guarded.ensures {u = tt}) w s
    ∙ ap (λ (l : List Guard). least (flat_map (guard_breaches w) (map guard l))) c.deref.ensures.value))
