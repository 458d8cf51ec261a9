use Rattle.std.proofs.Common.{sym, ◌∙◌}
use Rattle.code_steps.proofs.Acting.{other_kind}
use Rattle.code_steps.proofs.actions.object_in.Goals as goal

pub returns : goal.returns
returns c = c.object_there.ensures ∙ sym (other_kind c.args.kind.0 c.args.slot c.args.run.now.frame c.if-kind-eq0.false)
