use Rattle.std.proofs.Common.{◌≡◌, ◌≤◌, ◌++◌, length, map, take}
use Rattle.estimate_rules.specs.Sites.{all_of, choices_of}
use Rattle.replica_choice.specs.Asking.{choices_by, questions}
use Rattle.choice_command.proofs.runs.text_choices.Given as goal

abbrev pub invariant-texts : goal.invariant-texts
invariant-texts g l =
    let front = all_of (map (λ v. v.items) (take l.sites-index l.texts)) in
    let chosen = choices_by (g.P.Policy.rule l.initial.policy) l.nodes (g.P.Policy.told l.initial.policy) front in
    (l.sites-index ≤ length l.texts)
    × (g.P.Policy.told l.policy ≡ g.P.Policy.told l.initial.policy ++ questions l.nodes front chosen)
    × (l.choices.items ≡ choices_of (map (λ v. v.items) (take l.sites-index l.texts)) chosen)
    × (g.P.Policy.rule l.policy ≡ g.P.Policy.rule l.initial.policy)
