use Rattle.std.proofs.Common.{◌≡◌, List, Vec, Global, ◌++◌, map, subst, sym, ap, ◌∙◌}
use Rattle.std.specs.Prelude.{IfOk, OnErr}
use Rattle.site_estimates.specs.declared.estimate.Estimate.{Estimate}
use Rattle.meaning_rules.specs.Programs.{process_texts}
use Rattle.program_bodies.specs.Codes.{sources}
use Rattle.access_estimates.proofs.Listing.{listed}
use Rattle.estimate_rules.specs.Estimates.{estimates, process_estimates, summaries_of}
use Rattle.estimate_rules.specs.Sites.{all_of, choices_of, estimates_by_text}
use Rattle.replica_choice.specs.Asking.{AsksFirst, choices_by, questions}
use Rattle.replica_choice.proofs.Zipped.{on_err_any}
use Rattle.choice_command.proofs.Told.{asked_none}
use Rattle.choice_command.proofs.runs.run_choices.Goals as goal

pub returns-clause-chosen : goal.returns-clause-chosen
returns-clause-chosen g c =
    let us = sources c.args.checked.now in
    let rule = g.P.Policy.rule c.args.policy.now in
    let first = g.P.Policy.told c.args.policy.now in
    let texts : map (λ (v : Vec Estimate Global). v.items) c.deref.result.now ≡ estimates_by_text us =
    ap (map (λ (v : Vec Estimate Global). v.items)) c.deref.ensures.value ∙ c.in_ok-texts.ensures {u = tt}
    in
    subst
    (λ (es : List Estimate). IfOk c.text_choices.result (λ v. v ≡ choices_of (estimates_by_text us) (choices_by rule c.args.nodes first es)))
    (sym (listed (process_estimates (summaries_of us) us) (process_texts us)))
    (subst
    (λ (ess : List (List Estimate)). IfOk c.text_choices.result (λ v. v ≡ choices_of ess (choices_by rule c.args.nodes first (all_of ess))))
    texts c.text_choices.ensures.chosen)

pub returns-clause-told : goal.returns-clause-told
returns-clause-told g c =
    let us = sources c.args.checked.now in
    let rule = g.P.Policy.rule c.args.policy.now in
    let first = g.P.Policy.told c.args.policy.now in
    let sites : all_of (map (λ (v : Vec Estimate Global). v.items) c.deref.result.now) ≡ estimates us =
    ap (λ (l : List (Vec Estimate Global)). all_of (map (λ v. v.items) l)) c.deref.ensures.value
    ∙ ap (λ (l : List (List Estimate)). all_of l) (c.in_ok-texts.ensures {u = tt})
    ∙ sym (listed (process_estimates (summaries_of us) us) (process_texts us))
    in
    subst
    (λ (es : List Estimate). IfOk c.text_choices.result
    (λ v. g.P.Policy.told c.text_choices.new.policy ≡ first ++ questions c.args.nodes es (choices_by rule c.args.nodes first es)))
    sites c.text_choices.ensures.told

pub returns-clause-first : goal.returns-clause-first
returns-clause-first g c =
    let us = sources c.args.checked.now in
    let sites : all_of (map (λ (v : Vec Estimate Global). v.items) c.deref.result.now) ≡ estimates us =
    ap (λ (l : List (Vec Estimate Global)). all_of (map (λ v. v.items) l)) c.deref.ensures.value
    ∙ ap (λ (l : List (List Estimate)). all_of l) (c.in_ok-texts.ensures {u = tt})
    ∙ sym (listed (process_estimates (summaries_of us) us) (process_texts us))
    in
    subst
    (λ (es : List Estimate). OnErr c.text_choices.result
    (AsksFirst (g.P.Policy.rule c.args.policy.now) c.args.nodes es (g.P.Policy.told c.args.policy.now) (g.P.Policy.told c.text_choices.new.policy)))
    sites c.text_choices.ensures.first

pub returns-in_err-texts-clause-first : goal.returns-in_err-texts-clause-first
returns-in_err-texts-clause-first g c =
    let told = g.P.Policy.told c.args.policy.now in
    let none : AsksFirst (g.P.Policy.rule c.args.policy.now) c.args.nodes (estimates (sources c.args.checked.now)) told told =
    asked_none (g.P.Policy.rule c.args.policy.now) c.args.nodes (estimates (sources c.args.checked.now)) told
    in
    on_err_any _ none
