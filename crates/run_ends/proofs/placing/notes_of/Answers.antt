use Rattle.std.proofs.Common.{◌+◌, ◌∙◌, List, ap, sym, length, map, refl, arith, subst}
use Rattle.std.proofs.lemmas.List.{take_all}
use Rattle.std.proofs.lemmas.Option.{slice_get_read}
use Rattle.book_law.specs.declared.placing.Placed.{Placed}
use Rattle.value_core.specs.declared.message.Message.{Message}
use Rattle.world_places.specs.Told.{note_told}
use Rattle.run_ends.specs.Telling.{ListsCalls}
use Rattle.run_ends.proofs.Calls.{told_next}
use Rattle.run_ends.proofs.placing.notes_of.Goals as goal

pub performed-init : goal.performed-init
performed-init g c w is = c.new-notes.ensures.items

pub note_of-requires-clause-listed : goal.note_of-requires-clause-listed
note_of-requires-clause-listed g c = subst (λ (l : List Message). ListsCalls l c.in_ok-listed.listed) c.entries.ensures (c.in_ok-listed.ensures {u = tt})

pub performed-preserved : goal.performed-preserved
performed-preserved g c w is =
    let pushed = c.in_ok-push.ensures {u = tt} in
    told_next (note_told g.P.OneRun.run.frame w) c.args.performed.now c.performed.placed-index (c.performed.placed-index + 1) c.placed-item.result c.performed.notes.items c.push.new.self.items c.note_of.result (omega arith)
    (slice_get_read c.args.performed.now (length c.args.performed.now) c.performed.placed-index c.placed-item.result refl c.performed-test.true c.placed-item.is) pushed.items (c.note_of.ensures w is) (c.performed.invariant w is)

pub returns : goal.returns
returns g c w is =
    let f = g.P.OneRun.run.frame in
    let stands = c.requires.stands in
    let order = c.requires.order in
    c.performed.invariant w is ∙ ap (λ (l : List Placed). map (note_told f w) l) (take_all c.performed.placed-index c.args.performed.now (omega arith))
    ∙ stands.laws.told f refl refl stands.settings c.args.parts.now.ledger.steps w is.replays c.args.parts.now.ledger.performed c.args.performed.now is.performed order.same (order.lines w is)
