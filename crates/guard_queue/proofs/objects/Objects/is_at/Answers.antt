use Rattle.std.proofs.Common.{◌≡◌, ◌∙◌, Some, ap, sym}
use Rattle.guard_queue.proofs.Same.{kept_decides}
use Rattle.guard_queue.proofs.objects.Objects.is_at.Goals as goal

pub returns-in-Some-Some : goal.returns-in-Some-Some
returns-in-Some-Some c =
    let one = c.in-Some-Some.one.now in
    let two = c.in-Some-Some.two.now in
    let decides = kept_decides one two in (
      λ h. sym c.in-Some-Some.ensures ∙ ap Some (decides.0 (sym c.eq.ensures ∙ h)) ∙ c.in-Some-Some.ensures',
      λ e. let same : one ≡ two = cc (c.in-Some-Some.ensures, c.in-Some-Some.ensures', e) in c.eq.ensures ∙ decides.1 same,
    )
