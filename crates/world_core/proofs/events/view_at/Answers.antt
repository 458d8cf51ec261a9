use Rattle.std.proofs.Common.{◌≤◌, ◌∙◌, ap, sym, arith, length, take}
use Rattle.std.proofs.lemmas.List.{length-take-le}
use Rattle.object_manager.specs.declared.copies.Copies.{Copies}
use Rattle.node_core.specs.Stands.{fitness_of}
use Rattle.world_core.proofs.Running.{applied_low, may_view, viewed_again, viewed_now, viewing, where_ok}
use Rattle.world_core.proofs.events.view_at.Goals as goal

pub view_after-requires : goal.view_after-requires
view_after-requires g c =
    let m = c.args.machine.now in
    let w = c.requires.stands.world in
    let is = c.requires.stands.is in
    may_view g.P.OneRun.stood g.P.OneRun.left g.P.OneRun.run.frame (fitness_of (g.P.Performer.fits_state m) (g.P.Performer.fits_args m) (g.P.Performer.fits_text m) (g.P.Performer.fits_reply m)) c.args.parts.now w c.args.member c.args.place _ c.member_of-node.result.now c.requires.stands is c.requires.within (c.requires.low w is) (ap (take c.args.place) c.entries-entries.ensures) c.member_of-node.ensures
    (c.run_law.ensures.again g.P.OneRun.run.frame (sym (g.met.P.OneRun.performs_run m)) (sym (g.met.P.OneRun.computes_run m)) c.requires.stands.settings c.args.parts.now.ledger.steps w is.replays (c.requires.going w is) c.args.member c.requires.within)

pub slice_bounds-view_after-end : goal.slice_bounds-view_after-end
slice_bounds-view_after-end g c =
    let w = c.requires.stands.world in
    let is = c.requires.stands.is in
    let low = applied_low g.P.OneRun.stood g.P.OneRun.left g.P.OneRun.run.frame c.args.parts.now w c.requires.stands is c.args.member c.requires.within c.args.place (c.requires.low w is) in
    let many : c.args.place ≤ length c.entries-entries.result.now = omega (arith, low, ap length is.entries, ap length c.entries-entries.ensures) in
    omega (arith, many, length-take-le c.args.place c.entries-entries.result.now many)

pub returns-then-place-applied : goal.returns-then-place-applied
returns-then-place-applied g c =
    let now = c.if-place-applied.true ∙ c.applied.ensures ∙ ap (λ (k : Copies). k.applied) c.copies.ensures in
    where_ok c.view.result (λ view seen w is. viewed_now g.P.OneRun.stood g.P.OneRun.left g.P.OneRun.run.frame c.args.parts.now w c.args.member c.args.place c.member_of-node.result.now view c.requires.stands is c.member_of-node.ensures now
    (seen ∙ ap (λ (k : Copies). viewing k.objects k.applied) c.copies-then-place-applied.ensures)) c.view.ensures

pub returns-else-place-applied : goal.returns-else-place-applied
returns-else-place-applied g c =
    where_ok c.view_after.result (λ view seen w is. viewed_again g.P.OneRun.stood g.P.OneRun.left g.P.OneRun.run.frame c.args.parts.now w c.args.member c.args.place (take c.args.place c.entries-entries.result.now) c.member_of-node.result.now view
    c.requires.stands is c.requires.within (c.requires.low w is) (ap (take c.args.place) c.entries-entries.ensures) c.member_of-node.ensures seen) c.view_after.ensures
