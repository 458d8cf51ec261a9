use Rattle.std.proofs.Common.{◌≡◌, ◌∙◌, Some, length, refl, subst}
use Rattle.std.specs.Prelude.{slice_get}
use Rattle.std.proofs.lemmas.Option.{slice_get_read}
use Rattle.frame_variables.proofs.Bounding.{got}
use Rattle.frame_variables.proofs.bounds.Bounds.get.Goals as goal

pub returns-in-Some : goal.returns-in-Some
returns-in-Some c values v h is =
    let found = (c.in-Some.ensures {u = tt}).lookup in
    let here : slice_get c.deref.result.now c.args.slot ≡ Some c.in-Some.bound.now =
    slice_get_read c.deref.result.now (length c.deref.result.now) c.args.slot c.in-Some.bound.now refl found.3.0 found.1 in
    got c.args.self.now values c.args.slot c.in-Some.bound.now v h
    (subst (λ ns. slice_get ns c.args.slot ≡ Some c.in-Some.bound.now) (c.deref.ensures.value ∙ c.self.view_is) here) is
