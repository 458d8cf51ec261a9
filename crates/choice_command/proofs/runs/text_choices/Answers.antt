use Rattle.std.proofs.Common.{◌≡◌, ◌++◌, ◌∷◌, [], List, Vec, Global, map, take, refl, sym, ap, ◌∙◌, arith}
use Rattle.std.proofs.lemmas.List.{append-nil, take_all}
use Rattle.orca_base.specs.declared.what.Choice.{Choice}
use Rattle.site_estimates.specs.declared.estimate.Estimate.{Estimate}
use Rattle.program_bodies.proofs.Matched.{seen_more}
use Rattle.estimate_rules.specs.Sites.{all_of, choices_of}
use Rattle.replica_choice.specs.Asking.{Rule, choices_by, questions}
use Rattle.replica_choice.proofs.Zipped.{on_err_any}
use Rattle.choice_command.proofs.Told.{asked_all}
use Rattle.choice_command.proofs.Texts.{choices_next, first_next, known_next, same_first}
use Rattle.choice_command.proofs.runs.text_choices.Goals as goal

abbrev items : Vec Estimate Global → List Estimate
items v = v.items

pub texts-init : goal.texts-init
texts-init g c = (omega arith, sym (append-nil _), c.new-choices.ensures.items, refl)

pub texts-preserved : goal.texts-preserved
texts-preserved g c =
    let inv = c.texts.invariant in
    let rule = g.P.Policy.rule c.args.policy.now in
    let first = g.P.Policy.told c.args.policy.now in
    let now = g.P.Policy.told c.texts.policy in
    let front = map items (take c.texts.sites-index c.args.texts.now) in
    let more = seen_more items c.args.texts.now c.texts.sites-index c.sites-item.result c.texts-test.true c.sites-item.is in
    let chosen : c.in-Ok.chosen.items ≡ choices_by rule c.args.nodes now c.sites-item.result.items =
    c.in-Ok.ensures.chosen
    ∙ ap (λ (r : Rule). choices_by r c.args.nodes now c.deref.result.now) inv.3
    ∙ ap (choices_by rule c.args.nodes now) c.deref.ensures.value
    in
    let asked =
    c.in-Ok.ensures.told ∙ ap (λ (l : List Estimate). now ++ questions c.args.nodes l c.in-Ok.chosen.items) c.deref.ensures.value
    in (
      omega (arith, c.texts-test.true),
      known_next rule c.args.nodes first now _ front _ c.sites-item.result.items c.in-Ok.chosen.items more inv.1 chosen asked,
      choices_next rule c.args.nodes first now front _ c.sites-item.result.items c.in-Ok.chosen.items c.texts.choices.items _ more inv.1 chosen inv.2
          ((c.in_ok-push-in-Ok.ensures {u = tt}).items ∙ ap (λ (l : List Choice). c.texts.choices.items ++ l ∷ []) c.new.ensures),
      c.in-Ok.ensures.same_rule ∙ inv.3,
    )

pub returns-clause-chosen : goal.returns-clause-chosen
returns-clause-chosen g c =
    let rule = g.P.Policy.rule c.args.policy.now in
    let first = g.P.Policy.told c.args.policy.now in
    c.new-2.ensures
    ∙ c.texts.invariant.2
    ∙ ap (λ (l : List (Vec Estimate Global)). choices_of (map items l) (choices_by rule c.args.nodes first (all_of (map items l))))
    (take_all c.texts.sites-index c.args.texts.now (omega (arith, c.texts-test.false)))

pub returns-clause-told : goal.returns-clause-told
returns-clause-told g c =
    let rule = g.P.Policy.rule c.args.policy.now in
    let first = g.P.Policy.told c.args.policy.now in
    c.texts.invariant.1
    ∙ ap (λ (l : List (Vec Estimate Global)). first ++ questions c.args.nodes (all_of (map items l)) (choices_by rule c.args.nodes first (all_of (map items l))))
    (take_all c.texts.sites-index c.args.texts.now (omega (arith, c.texts-test.false)))

pub returns-clause-same_rule : goal.returns-clause-same_rule
returns-clause-same_rule g c = c.texts.invariant.3

pub returns-in-Err-clause-first : goal.returns-in-Err-clause-first
returns-in-Err-clause-first g c =
    let inv = c.texts.invariant in
    let rule = g.P.Policy.rule c.args.policy.now in
    let first = same_first _ rule c.args.nodes _ c.sites-item.result.items _ _ inv.3 c.deref.ensures.value c.in-Err.ensures.first in
    first_next rule c.args.nodes items c.args.texts.now c.texts.sites-index c.sites-item.result (g.P.Policy.told c.args.policy.now) (g.P.Policy.told c.texts.policy) _
    c.texts-test.true c.sites-item.is inv.1 first

pub returns-in-Err-clause-same_rule : goal.returns-in-Err-clause-same_rule
returns-in-Err-clause-same_rule g c = c.in-Err.ensures.same_rule ∙ c.texts.invariant.3

pub returns-in_err-push-in-Ok-clause-first : goal.returns-in_err-push-in-Ok-clause-first
returns-in_err-push-in-Ok-clause-first g c =
    let inv = c.texts.invariant in
    let rule = g.P.Policy.rule c.args.policy.now in
    let now = g.P.Policy.told c.texts.policy in
    let es = c.sites-item.result.items in
    let chosen : c.in-Ok.chosen.items ≡ choices_by rule c.args.nodes now c.sites-item.result.items =
    c.in-Ok.ensures.chosen
    ∙ ap (λ (r : Rule). choices_by r c.args.nodes now c.deref.result.now) inv.3
    ∙ ap (choices_by rule c.args.nodes now) c.deref.ensures.value
    in
    let asked =
    c.in-Ok.ensures.told
    ∙ ap (λ (l : List Estimate). now ++ questions c.args.nodes l c.in-Ok.chosen.items) c.deref.ensures.value
    ∙ ap (λ (l : List Choice). now ++ questions c.args.nodes es l) chosen
    in
    on_err_any _
    (first_next rule c.args.nodes items c.args.texts.now c.texts.sites-index c.sites-item.result (g.P.Policy.told c.args.policy.now) now _
    c.texts-test.true c.sites-item.is inv.1 (asked_all rule c.args.nodes es now _ asked))

pub returns-in_err-push-in-Ok-clause-same_rule : goal.returns-in_err-push-in-Ok-clause-same_rule
returns-in_err-push-in-Ok-clause-same_rule g c = c.in-Ok.ensures.same_rule ∙ c.texts.invariant.3
