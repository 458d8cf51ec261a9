use Rattle.std.proofs.Common.{◌∙◌, sym}
use Rattle.guard_queue.specs.Shown.{shown_objects}
use Rattle.guard_queue.proofs.Same.{pointwise_shown, entries_decide}
use Rattle.guard_queue.proofs.objects.same_entries.Goals as goal

pub returns : goal.returns
returns c =
    let told = c.eq.ensures ∙ pointwise_shown c.args.one.now.entries c.args.other.now.entries in
    let decide = entries_decide (shown_objects c.args.one.now.entries) (shown_objects c.args.other.now.entries) in
    (λ h. decide.0 (sym told ∙ h), λ e. told ∙ decide.1 e)
