use Rattle.std.proofs.Common.{sym}
use Rattle.guard_queue.proofs.Writes.{same_both, true_unless}
use Rattle.guard_queue.proofs.objects.Objects.is.Goals as goal

pub returns-then-has_all : goal.returns-then-has_all
returns-then-has_all c =
    let here = c.has_all.ensures in
    let there = c.has_all-then-has_all.ensures in (
      λ h. same_both c.args.self.now c.args.other.now c.len.ensures.ids c.len-2.ensures.ids (here.yes c.if-has_all.true) (there.yes h),
      λ e. true_unless c.has_all-then-has_all.result (λ f. there.no f (sym e)),
    )
