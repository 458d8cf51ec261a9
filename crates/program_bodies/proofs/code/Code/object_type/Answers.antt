use Rattle.std.proofs.Common.{◌≡◌, ℕ, suc, ◌-◌, List, Option, subst, ap, ◌∙◌, arith}
use Rattle.std.specs.Prelude.{slice_get}
use Rattle.meaning_rules.specs.Programs.{specifications, specified, type_at}
use Rattle.program_bodies.specs.declared.objects.ObjectCode.{ObjectCode}
use Rattle.program_bodies.specs.Matching.{Both, or_none}
use Rattle.program_bodies.specs.Objects.{IsObjectCode}
use Rattle.program_bodies.proofs.Matched.{got}
use Rattle.program_bodies.proofs.code.Code.object_type.Goals as goal

pub returns : goal.returns
returns c = λ us is.
    let i = c.args.kind.0 - 1 in
    let next : suc i ≡ c.args.kind.0 = omega (arith, c.if-kind-eq0.false) in
    let all = c.args.self.now.objects.items in
    subst (λ (k : ℕ). Both (λ x t. IsObjectCode us x.now t) c.at_number.result (type_at us k)) next
    (got (IsObjectCode us) (specified us) all (specifications us) i c.at_number.result is.objects
    (c.at_number.ensures
    ∙ ap (λ (l : List (Option ObjectCode)). or_none (slice_get l c.from.result)) c.deref.ensures.value
    ∙ ap (λ (k : ℕ). or_none (slice_get all k)) c.from.ensures))
