use Rattle.std.proofs.Common.{sym, ap, ◌∙◌}
use Rattle.access_estimates.specs.declared.uses.UseKind.{UseKind}
use Rattle.access_estimates.specs.Seen.{kind_seen}
use Rattle.access_estimates.specs.Resolved.{class_effect, effect_of, standing_effect}
use Rattle.access_estimates.proofs.resolving.Lookups.effect.Goals as goal

pub returns-in-Calls : goal.returns-in-Calls
returns-in-Calls c = λ us are.
    c.class_effect.ensures
    ∙ ap class_effect (c.class.ensures us are)
    ∙ sym (ap (λ (d : UseKind). effect_of us c.args.home.now c.args.object_type (kind_seen d)) c.in-Calls.is)

pub returns-in-Passes : goal.returns-in-Passes
returns-in-Passes c = λ us are.
    c.standing_effect.ensures
    ∙ ap (standing_effect c.in-Passes.position) (c.stands_for.ensures.stands us are.names)
    ∙ sym (ap (λ (d : UseKind). effect_of us c.args.home.now c.args.object_type (kind_seen d)) c.in-Passes.is)
