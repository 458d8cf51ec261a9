use Rattle.std.proofs.Common.{◌≡◌, ℤ, List, [], ◌∷◌, ◌++◌, ap, pos, rules, sym, w64, ◌∙◌}
use Rattle.std.proofs.lemmas.Int.{to_z-of_z}
use Rattle.std.specs.Int.{w128}
use mir.Val.{SFits, of_z, to_z}
use Rattle.std.proofs.lemmas.Result.{IfOk-weaker}
use Rattle.value_core.specs.Datum as datum
use Rattle.value_core.specs.View.{datum_of}
use Rattle.value_paths.specs.declared.step.Step.{Step as ValueStep}
use Rattle.value_paths.specs.declared.step.Step.TheVariants.{Index}
use Rattle.meaning_rules.specs.Operators.{integer_in}
use Rattle.meaning_rules.specs.Variables.{store}
use Rattle.code_rules.specs.Instructions as rules
use Rattle.code_rules.specs.Machine.{at_state, next, on_out, to}
use Rattle.frame_variables.specs.declared.steps.Step.{Step}
use Rattle.frame_variables.specs.declared.steps.Step.TheVariants as step
use Rattle.frame_variables.specs.Gives.{path_of, state_of}
use Rattle.code_steps.specs.Moves.{holding}
use Rattle.code_steps.proofs.Arriving.{changed}
use Rattle.code_steps.proofs.Setting.{assigns_element, assigns_no_element}
use Rattle.code_steps.proofs.Taken.{assigns_none}
use Rattle.code_steps.proofs.variables.assign_element.Goals as goal

pub returns-in_default : goal.returns-in_default
returns-in_default c = λ code home.
    let old = c.args.stack.now in
    assigns_none code home c.args.slot (rules.ByIndex c.args.low ∷ []) old old old c.args.run.now.frame [] (datum.int (pos 0)) (c.in_default.ensures {u = tt})

pub returns-in_default-pop : goal.returns-in_default-pop
returns-in_default-pop c = λ code home.
    assigns_no_element code home c.args.slot c.args.low c.args.stack.now c.pop.new.self c.args.run.now.frame (datum_of c.in-Some.value) (c.in-Some.ensures {u = tt})
    (c.in_default-pop.ensures {u = tt})

pub returns : goal.returns
returns c =
    let old = c.args.stack.now in
    let mid = c.pop.new.self in
    let st = c.pop-2.new.self in
    let locals = c.args.run.now.frame in
    let x = datum_of c.in-Some.value in
    let i = datum_of c.in-Some-pop.index in
    let bare : List Step = [] in
    let path = path_of c.push.new.self.items in
    let index = c.integer_in-index.result in
    let fits : SFits w64 index = search rules in
    let told : path ≡ Index (to_z w128 (of_z w128 c.args.low)) (to_z w64 (of_z w64 index)) ∷ []
    = ap path_of ((c.in_ok-push.ensures {u = tt}).items ∙ ap (λ (xs : List Step). xs ++ step.Index (to_z w128 (of_z w128 c.args.low)) (to_z w64 (of_z w64 index)) ∷ bare) c.new-path.ensures.items) in
    let same : path ≡ Index c.args.low (integer_in i) ∷ []
    = told ∙ ap (λ (l : ℤ). Index l (to_z w64 (of_z w64 index)) ∷ []) (to_z-of_z w128 c.args.low c.ranges.low)
    ∙ ap (λ (j : ℤ). Index c.args.low j ∷ []) (to_z-of_z w64 index fits ∙ c.integer_in-index.ensures) in
    IfOk-weaker c.changed.result _ _
    (λ a h code home. assigns_element code home c.args.slot c.args.low old mid st locals x i (c.in-Some.ensures {u = tt}) (c.in-Some-pop.ensures {u = tt})
    ∙ ap (λ (q : List ValueStep). on_out (store (to c.args.slot q) x (at_state locals)) (λ _ after. next (holding home old locals) st after)) (sym same)
    ∙ changed home old st st locals a (state_of c.clear_run.new.run) (state_of c.store.new.run) c.clear_run.ensures c.store.result (store (to c.args.slot path) x) c.store.ensures.gives h)
    c.changed.ensures
