use Rattle.std.proofs.Common.{◌<◌, ◌+◌, ◌^◌, ℕ, length, subst, sym}
use Rattle.node_core.specs.Stands.{fitness_of}
use Rattle.node_rules.specs.Starts.Start.{Ticks}
use Rattle.world_core.proofs.Parting.{MayJoin, copy_me, may_join, part_adds, part_may}
use Rattle.world_core.proofs.events.ticks_at.Goals as goal

pub tick-requires : goal.tick-requires
tick-requires g c =
    let m = c.args.machine.now in
    part_may g.P.OneRun.stood g.P.OneRun.left g.P.OneRun.run.frame (fitness_of (g.P.Performer.fits_state m) (g.P.Performer.fits_args m) (g.P.Performer.fits_text m) (g.P.Performer.fits_reply m)) c.args.parts.now c.args.before.now c.in_ok-copy.copy Ticks c.args.draft.now c.requires (c.in_ok-copy.ensures {u = tt}).alike

pub add_part-requires-clause-sound : goal.add_part-requires-clause-sound
add_part-requires-clause-sound g c =
    let m = c.args.machine.now in
    let joins : MayJoin c.args.parts.now c.args.before.now c.in_ok-after.moved c.args.draft.now =
    may_join g.P.OneRun.stood g.P.OneRun.left g.P.OneRun.run.frame (fitness_of (g.P.Performer.fits_state m) (g.P.Performer.fits_args m) (g.P.Performer.fits_text m) (g.P.Performer.fits_reply m)) c.args.parts.now c.args.before.now c.in_ok-copy.copy c.in_ok-after.after c.in_ok-after.moved Ticks c.args.draft.now c.requires (c.in_ok-copy.ensures {u = tt}).alike (c.in_ok-after.ensures {u = tt}).does in
    joins.sound

pub add_part-requires-clause-told : goal.add_part-requires-clause-told
add_part-requires-clause-told g c =
    let m = c.args.machine.now in
    let joins : MayJoin c.args.parts.now c.args.before.now c.in_ok-after.moved c.args.draft.now =
    may_join g.P.OneRun.stood g.P.OneRun.left g.P.OneRun.run.frame (fitness_of (g.P.Performer.fits_state m) (g.P.Performer.fits_args m) (g.P.Performer.fits_text m) (g.P.Performer.fits_reply m)) c.args.parts.now c.args.before.now c.in_ok-copy.copy c.in_ok-after.after c.in_ok-after.moved Ticks c.args.draft.now c.requires (c.in_ok-copy.ensures {u = tt}).alike (c.in_ok-after.ensures {u = tt}).does in
    joins.told

pub add_part-requires-clause-small : goal.add_part-requires-clause-small
add_part-requires-clause-small g c =
    let m = c.args.machine.now in
    let joins : MayJoin c.args.parts.now c.args.before.now c.in_ok-after.moved c.args.draft.now =
    may_join g.P.OneRun.stood g.P.OneRun.left g.P.OneRun.run.frame (fitness_of (g.P.Performer.fits_state m) (g.P.Performer.fits_args m) (g.P.Performer.fits_text m) (g.P.Performer.fits_reply m)) c.args.parts.now c.args.before.now c.in_ok-copy.copy c.in_ok-after.after c.in_ok-after.moved Ticks c.args.draft.now c.requires (c.in_ok-copy.ensures {u = tt}).alike (c.in_ok-after.ensures {u = tt}).does in
    joins.small

pub add_part-requires-clause-few : goal.add_part-requires-clause-few
add_part-requires-clause-few g c =
    let m = c.args.machine.now in
    let joins : MayJoin c.args.parts.now c.args.before.now c.in_ok-after.moved c.args.draft.now =
    may_join g.P.OneRun.stood g.P.OneRun.left g.P.OneRun.run.frame (fitness_of (g.P.Performer.fits_state m) (g.P.Performer.fits_args m) (g.P.Performer.fits_text m) (g.P.Performer.fits_reply m)) c.args.parts.now c.args.before.now c.in_ok-copy.copy c.in_ok-after.after c.in_ok-after.moved Ticks c.args.draft.now c.requires (c.in_ok-copy.ensures {u = tt}).alike (c.in_ok-after.ensures {u = tt}).does in
    subst (λ (n : ℕ). n + length c.args.draft.now.entries.items < 2 ^ 63) (sym c.listed-listed.ensures) joins.few

pub returns : goal.returns
returns g c =
    let m = c.args.machine.now in
    part_adds g.P.OneRun.stood g.P.OneRun.left g.P.OneRun.run.frame (fitness_of (g.P.Performer.fits_state m) (g.P.Performer.fits_args m) (g.P.Performer.fits_text m) (g.P.Performer.fits_reply m)) c.args.parts.now c.args.before.now c.in_ok-copy.copy c.in_ok-after.after c.in_ok-after.moved Ticks c.args.draft.now c.add_part.new.self c.listed-listed.result
    (copy_me g.P.OneRun.stood g.P.OneRun.left g.P.OneRun.run.frame (fitness_of (g.P.Performer.fits_state m) (g.P.Performer.fits_args m) (g.P.Performer.fits_text m) (g.P.Performer.fits_reply m)) c.args.parts.now c.args.before.now c.in_ok-copy.copy Ticks c.args.draft.now c.requires (c.in_ok-copy.ensures {u = tt}).alike)
    (c.in_ok-copy.ensures {u = tt}).alike (c.in_ok-copy.ensures {u = tt}).same (c.in_ok-after.ensures {u = tt}).does (c.in_ok-after.ensures {u = tt}).tasks c.listed-listed.ensures (c.in_ok-add_part.ensures {u = tt})
