use Rattle.std.proofs.Common.{◌≡◌, ℕ, ◌<◌, ◌+◌, List, Option, None, Some, Bool, ◌&&◌, cond, length, get_or, take, map, sym, ap, ◌∙◌}
use Rattle.std.specs.Prelude.{bytes_eq}
use Rattle.std.specs.List.{position_from}
use Rattle.link_rules.specs.declared.role.Role.{Role}
use Rattle.link_rules.specs.Rules.{is_role}
use Rattle.type_rules.specs.TopLevel.{is_as, or_else}
use Rattle.type_forms.specs.declared.tops.Top.{Top}
use Rattle.type_forms.specs.Seen.{top}
use Rattle.type_forms.proofs.Positions.{position_more}
use Rattle.type_forms.proofs.numbers.numbers_as.Goals as goal

-- a name more
step : (tops : List Top) (role : Role) (n : List ℕ) (k : ℕ) (item : Top) (passes : Bool) (was now : Option ℕ) → k < length tops → item ≡ get_or tops k item →
    passes ≡ is_role role item.role → was ≡ position_from (is_as role n) 0 (map top (take k tops)) →
    now ≡ or_else was (cond (passes && bytes_eq item.name.now n) (Some k) None) → now ≡ position_from (is_as role n) 0 (map top (take (k + 1) tops))
step tops role n k item passes was now lt is test before after =
    after
    ∙ ap (λ (o : Option ℕ). or_else o (cond (passes && bytes_eq item.name.now n) (Some k) None)) before
    ∙ ap (λ (b : Bool). or_else (position_from (is_as role n) 0 (map top (take k tops))) (cond (b && bytes_eq item.name.now n) (Some k) None)) test
    ∙ ap (λ (t : Top). or_else (position_from (is_as role n) 0 (map top (take k tops))) (cond (is_as role n (top t)) (Some k) None)) is
    ∙ sym (position_more top (is_as role n) tops k item lt)

pub tops-preserved : goal.tops-preserved
tops-preserved c = λ n.
    step c.args.tops.now c.args.role n c.tops.number c.index-tops-number.result _ _ _ c.tops-test.true c.index-tops-number.is
    c.is_declared-passes.ensures (c.tops.invariant n) ((c.in_ok-note.ensures {u = tt}) n)
