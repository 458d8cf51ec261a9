use Rattle.std.proofs.Common.{Ok, refl, subst, sym}
use Rattle.value_core.specs.Size.{size_of}
use Rattle.value_core.specs.View.{datum_of}
use Rattle.meaning_rules.specs.Variables as rules
use Rattle.frame_variables.specs.Gives.{Gives, state_of, target_of}
use Rattle.frame_variables.proofs.Changing.{checked_enlarges}
use Rattle.frame_variables.proofs.Growing.{put_within, stored}
use Rattle.frame_variables.proofs.variables.store.Goals as goal

pub check-requires : goal.check-requires
check-requires c =
    let old = datum_of c.in_ok-old.old in
    let new = datum_of c.args.value in
    put_within (target_of c.args.to.now) old new (state_of c.args.run.now) (state_of c.exchange.new.run) c.bound_at-bound.result c.size_beside-more.result c.size_beside.result c.grown.result
    (c.in_ok-old.ensures {u = tt}).put c.bound_at-bound.ensures
    (stored (size_of new) (size_of old) c.bound_at-bound.result c.size_beside-more.result c.size_beside.result c.size_beside-more.ensures.size c.size_beside.ensures.size) c.grown.ensures

pub returns-clause-gives : goal.returns-clause-gives
returns-clause-gives c =
    let to = target_of c.args.to.now in
    let new = datum_of c.args.value in
    let s = state_of c.args.run.now in
    subst (λ t. Gives (λ u. u) c.check.result t (rules.store to new s)) (sym c.check.ensures.same)
    (checked_enlarges to (λ old. Ok new) (datum_of c.in_ok-old.old) new s (state_of c.exchange.new.run) c.check.result (c.in_ok-old.ensures {u = tt}).put refl c.check.ensures.fits)
