use Rattle.std.proofs.Common.{ℤ, List, [], ◌∷◌, ap, rules as basic, subst, sym, ◌∙◌}
use Rattle.std.proofs.lemmas.Int.{to_z-of_z}
use Rattle.std.specs.Int.{w128}
use mir.Val.{SFits}
use Rattle.std.specs.Prelude.{IfOk}
use Rattle.code_rules.specs.Instructions.{Mark}
use Rattle.code_rules.specs.Instructions as rules
use Rattle.code_steps.specs.Moves.{Moves}
use Rattle.code_steps.proofs.variables.assign.Goals as goal

pub returns-then-is_whole : goal.returns-then-is_whole
returns-then-is_whole c =
    subst (λ (ms : List Mark). IfOk c.assign_whole.result (λ a. Moves (rules.Put c.args.slot ms) c.args.stack.now c.args.run.now.frame a c.assign_whole.new.stack c.assign_whole.new.run.frame))
    (sym (c.is_whole.ensures c.if-is_whole.true)) c.assign_whole.ensures

pub returns-in-Some : goal.returns-in-Some
returns-in-Some c =
    let low = c.in-Some.low in
    let fits : SFits w128 low = search basic in
    let same = c.in-Some.ensures {u = tt} ∙ ap (λ (l : ℤ). rules.ByIndex l ∷ []) (sym (to_z-of_z w128 low fits)) in
    subst (λ (ms : List Mark). IfOk c.assign_element.result (λ a. Moves (rules.Put c.args.slot ms) c.args.stack.now c.args.run.now.frame a c.assign_element.new.stack c.assign_element.new.run.frame))
    (sym same) c.assign_element.ensures
