use Rattle.std.proofs.Common.{ℤ, List, [], ◌∷◌, ap, rules as basic, subst, sym, ◌∙◌}
use Rattle.std.proofs.lemmas.Int.{to_z-of_z}
use Rattle.std.specs.Int.{w128}
use mir.Val.{SFits}
use Rattle.std.specs.Prelude.{IfOk}
use Rattle.code_rules.specs.Instructions.{Mark}
use Rattle.code_rules.specs.Instructions as rules
use Rattle.code_steps.specs.Moves.{Moves}
use Rattle.code_steps.proofs.variables.get.Goals as goal

pub returns-then-is_whole : goal.returns-then-is_whole
returns-then-is_whole c =
    subst (λ (ms : List Mark). IfOk c.get_whole.result (λ a. Moves (rules.Get c.args.slot ms) c.args.stack.now c.args.run.now.frame a c.get_whole.new.stack c.args.run.now.frame))
    (sym (c.is_whole.ensures c.if-is_whole.true)) c.get_whole.ensures

pub returns-in-Some : goal.returns-in-Some
returns-in-Some c =
    let low = c.in-Some.low in
    let fits : SFits w128 low = search basic in
    let same = c.in-Some.ensures {u = tt} ∙ ap (λ (l : ℤ). rules.ByIndex l ∷ []) (sym (to_z-of_z w128 low fits)) in
    subst (λ (ms : List Mark). IfOk c.get_element.result (λ a. Moves (rules.Get c.args.slot ms) c.args.stack.now c.args.run.now.frame a c.get_element.new.stack c.args.run.now.frame))
    (sym same) c.get_element.ensures
