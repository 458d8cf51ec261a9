use Rattle.std.proofs.Common.{List, ◌++◌, length, sym, ap, ◌∙◌}
use Rattle.std.specs.Prelude.{◌==◌, not}
use Rattle.std.proofs.lemmas.List.{append-nil}
use Rattle.orca_tree.specs.declared.tree.Selector.{Selector}
use Rattle.access_estimates.specs.Seen.{all_seen}
use Rattle.estimate_rules.specs.Uses.{Use}
use Rattle.access_estimates.proofs.Passed.{none_passed, one_passed}
use Rattle.access_estimates.proofs.Rest.{same}
use Rattle.access_estimates.proofs.expressions.add_passed.Goals as goal

pub returns-then-is_part : goal.returns-then-is_part
returns-then-is_part c =
    let old = all_seen c.args.out.now.items in
    sym (append-nil old)
    ∙ ap (λ (l : List Use). old ++ l)
    (sym
    (none_passed c.args.times c.args.to.now c.args.position c.args.from.now.name c.args.from.now.path.items c.is_part.result c.if-is_part.true
    (c.is_part.ensures ∙ ap (λ (l : List Selector). not (length l == 0)) c.deref.ensures.value)))

pub returns : goal.returns
returns c =
    same c.add_whole.result (all_seen c.args.out.now.items) _ _ _
    (one_passed c.args.times c.args.to.now c.args.position c.args.from.now.name c.args.from.now.path.items c.is_part.result c.if-is_part.false
    (c.is_part.ensures ∙ ap (λ (l : List Selector). not (length l == 0)) c.deref.ensures.value))
    c.add_whole.ensures
