use Rattle.std.proofs.Common.{Option, is_some, ap, sym, ◌∙◌}
use Rattle.value_core.specs.History.{Objects, object_at}
use Rattle.object_manager.specs.After.{Copied}
use Rattle.run_ends.proofs.Calls.{some_copied}
use Rattle.run_ends.proofs.placing.keeps.Goals as goal

pub returns : goal.returns
returns g c w is =
    let node = is.nodes c.args.member c.member_of-node.result.now (sym c.member_of-node.ensures) in
    c.is_some.ensures ∙ some_copied c.get.result ∙ ap is_some c.get.ensures
    ∙ ap (λ (o : Objects). is_some (object_at o c.args.object)) (c.own.ensures.objects ∙ ap (λ (s : Copied). s.own) (c.copies.ensures ∙ node.copies))
