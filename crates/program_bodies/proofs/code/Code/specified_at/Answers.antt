use Rattle.std.proofs.Common.{List, Option, ap, ◌∙◌}
use Rattle.std.specs.Prelude.{slice_get}
use Rattle.meaning_rules.specs.Programs.{specifications, specified}
use Rattle.program_bodies.specs.declared.objects.ObjectCode.{ObjectCode}
use Rattle.program_bodies.specs.Matching.{or_none}
use Rattle.program_bodies.specs.Objects.{IsObjectCode}
use Rattle.program_bodies.proofs.Matched.{got}
use Rattle.program_bodies.proofs.code.Code.specified_at.Goals as goal

pub returns : goal.returns
returns c = λ us is.
    got (IsObjectCode us) (specified us) c.args.self.now.objects.items (specifications us) c.args.place c.at_number.result is.objects
    (c.at_number.ensures ∙ ap (λ (l : List (Option ObjectCode)). or_none (slice_get l c.args.place)) c.deref.ensures.value)
