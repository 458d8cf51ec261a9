use Rattle.std.proofs.Common.{◌==◌, ◌∙◌, ℕ, ap, arith, refl}
use Rattle.world_rules.specs.Processes.{home_in}
use Rattle.node_core.specs.declared.node.Node.{Node}
use Rattle.node_core.proofs.TakingEntry.{ok_three, took_applied, took_passed}
use Rattle.node_core.proofs.work.Work.take_into_copies.Goals as goal

pub pass_make-requires-clause-make : goal.pass_make-requires-clause-make
pass_make-requires-clause-make g c = c.is_passed.ensures.make c.if-is_passed.true

pub pass_make-requires-clause-fits : goal.pass_make-requires-clause-fits
pass_make-requires-clause-fits g c = c.requires.fits

pub pass_make-requires-clause-blocked : goal.pass_make-requires-clause-blocked
pass_make-requires-clause-blocked g c = c.requires.blocked

pub pass_make-requires-clause-applies : goal.pass_make-requires-clause-applies
pass_make-requires-clause-applies g c = c.requires.applies

pub pass_make-requires-clause-room : goal.pass_make-requires-clause-room
pass_make-requires-clause-room g c = (let room = c.requires.room in omega (arith, room))

pub apply-requires-clause-fits : goal.apply-requires-clause-fits
apply-requires-clause-fits g c = c.requires.fits

pub apply-requires-clause-blocked : goal.apply-requires-clause-blocked
apply-requires-clause-blocked g c = c.requires.blocked

pub apply-requires-clause-applies : goal.apply-requires-clause-applies
apply-requires-clause-applies g c = c.requires.applies

pub apply-requires-clause-room : goal.apply-requires-clause-room
apply-requires-clause-room g c = (let room = c.requires.room in omega (arith, room))

pub returns-then-is_passed-clause-took : goal.returns-then-is_passed-clause-took
returns-then-is_passed-clause-took g c =
    let old = c.args.self.now.node in
    let new : Node g.row.P.Denot g.row.P-State.Denot = record old { copies = c.pass_make.new.self } in
    ok_three c.pass_make.result _ _ _ _
    (λ lines told within after.
    took_passed (g.P.Performer.performs c.args.machine.now) old new c.args.message.now lines.items c.is_passed.result (c.home_of.result == c.me.result) c.if-is_passed.true c.is_passed.ensures.single
    (λ f processes knows.
    ap (λ (h : ℕ). h == c.me.result) (c.home_of.ensures processes knows.known)
    ∙ ap (λ (k : ℕ). home_in processes c.args.message.now.process.0 == k) c.me.ensures)
    within after told)
    c.pass_make.ensures.lines c.pass_make.ensures.within c.pass_make.ensures.after

pub returns-else-is_passed-clause-took : goal.returns-else-is_passed-clause-took
returns-else-is_passed-clause-took g c =
    let old = c.args.self.now.node in
    let new : Node g.row.P.Denot g.row.P-State.Denot = record old { copies = c.apply.new.self } in
    ok_three c.apply.result _ _ _ _
    (λ lines told within after.
    took_applied (g.P.Performer.performs c.args.machine.now) old new c.args.message.now lines.items c.is_passed.result c.if-is_passed.false c.is_passed.ensures.single within after told)
    c.apply.ensures.lines c.apply.ensures.within c.apply.ensures.after

pub returns-then-is_passed-clause-node : goal.returns-then-is_passed-clause-node
returns-then-is_passed-clause-node g c = refl

pub returns-then-is_passed-clause-moved : goal.returns-then-is_passed-clause-moved
returns-then-is_passed-clause-moved g c = refl

pub returns-then-is_passed-clause-limit : goal.returns-then-is_passed-clause-limit
returns-then-is_passed-clause-limit g c = c.pass_make.ensures.limit

pub returns-then-is_passed-clause-err : goal.returns-then-is_passed-clause-err
returns-then-is_passed-clause-err g c = c.pass_make.ensures.err

pub returns-else-is_passed-clause-node : goal.returns-else-is_passed-clause-node
returns-else-is_passed-clause-node g c = refl

pub returns-else-is_passed-clause-moved : goal.returns-else-is_passed-clause-moved
returns-else-is_passed-clause-moved g c = refl

pub returns-else-is_passed-clause-limit : goal.returns-else-is_passed-clause-limit
returns-else-is_passed-clause-limit g c = c.apply.ensures.limit

pub returns-else-is_passed-clause-err : goal.returns-else-is_passed-clause-err
returns-else-is_passed-clause-err g c = c.apply.ensures.err
