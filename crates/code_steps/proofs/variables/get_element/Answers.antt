use Rattle.std.proofs.Common.{◌≡◌, ℤ, List, [], ◌∷◌, Ok, Err, ap, rules, subst, w64, ◌∙◌}
use Rattle.std.proofs.lemmas.Int.{to_z-of_z}
use Rattle.std.specs.Int.{w128}
use mir.Val.{SFits, of_z, to_z}
use Rattle.std.specs.Prelude.{MatchResult}
use Rattle.std.proofs.lemmas.Result.{IfOk-weaker}
use Rattle.value_core.specs.View.{datum_of}
use Rattle.value_paths.specs.declared.step.Step.{Step as ValueStep}
use Rattle.value_paths.specs.declared.step.Step.TheVariants.{Index}
use Rattle.meaning_rules.specs.Operators.{integer_in}
use Rattle.code_rules.specs.Machine.{read}
use Rattle.frame_variables.specs.Gives.{path_of}
use Rattle.code_steps.proofs.Arriving.{found}
use Rattle.code_steps.proofs.Setting.{gets_element, gets_no_element}
use Rattle.code_steps.proofs.variables.get_element.Goals as goal

pub returns-in_default : goal.returns-in_default
returns-in_default c = λ code home. gets_no_element code home c.args.slot c.args.low c.args.stack.now c.args.run.now.frame (c.in_default.ensures {u = tt})

pub returns : goal.returns
returns c =
    let old = c.args.stack.now in
    let st = c.pop.new.self in
    let locals = c.args.run.now.frame in
    let x = datum_of c.in-Some.index in
    let path : List ValueStep = Index c.args.low (integer_in x) ∷ [] in
    let index = c.integer_in-index.result in
    let fits : SFits w64 index = search rules in
    let told : path_of c.from_ref.result.now ≡ Index (to_z w128 (of_z w128 c.args.low)) (to_z w64 (of_z w64 index)) ∷ [] = ap path_of c.from_ref.ensures.value in
    let same : path_of c.from_ref.result.now ≡ path
    = told ∙ ap (λ (l : ℤ). Index l (to_z w64 (of_z w64 index)) ∷ []) (to_z-of_z w128 c.args.low c.ranges.low)
    ∙ ap (λ (i : ℤ). Index c.args.low i ∷ []) (to_z-of_z w64 index fits ∙ c.integer_in-index.ensures) in
    IfOk-weaker c.push_found.result _ _
    (λ a p code home. gets_element code home c.args.slot c.args.low old st locals x (c.in-Some.ensures {u = tt})
    ∙ found home old st c.push_found.new.stack locals a c.find.result (read c.args.slot path locals) p
    (subst (λ (q : List ValueStep). MatchResult c.find.result (λ v. read c.args.slot q locals ≡ Ok (datum_of v.now)) (λ f. read c.args.slot q locals ≡ Err f)) same c.find.ensures))
    c.push_found.ensures
