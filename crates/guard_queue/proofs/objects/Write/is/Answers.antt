use Rattle.std.proofs.Common.{◌∙◌, ap, sym}
use Rattle.std.specs.Arc.{arc_value}
use Rattle.orca_base.specs.declared.ids.ObjectId.{ObjectId}
use Rattle.value_core.specs.declared.action.Instance.{Instance}
use Rattle.guard_queue.proofs.Same.{id_decides, kept_decides}
use Rattle.guard_queue.proofs.objects.Write.is.Goals as goal

pub returns-then-eq : goal.returns-then-eq
returns-then-eq c =
    let id = (id_decides c.args.self.now.object c.args.other.now.object).0 (sym c.eq.ensures ∙ c.if-eq.true) in
    let decides = kept_decides (arc_value c.args.self.now.kept) (arc_value c.args.other.now.kept) in (
      λ h. let kept = decides.0 (sym c.eq-then-eq.ensures ∙ h) in λ i. (id i, kept i),
      λ e. c.eq-then-eq.ensures ∙ decides.1 (ap (λ (x : ObjectId × Instance). x.1) e),
    )
