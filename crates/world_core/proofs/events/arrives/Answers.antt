use Rattle.std.proofs.Common.{◌∙◌, None, Some, ap, sym, arith, length}
use Rattle.node_core.specs.Stands.{fitness_of}
use Rattle.world_rules.specs.declared.event.Event.TheVariants as event
use Rattle.world_parts.specs.Recorded.{of_pieces}
use Rattle.world_core.proofs.Delivers.{Receives, come_draft, come_may, crashed_drafts, cut_drafts, few_bytes, incoming_of, receives_of}
use Rattle.world_core.proofs.Doing.{within_of}
use Rattle.world_core.proofs.events.arrives.Goals as goal

pub returns-then-not-lives : goal.returns-then-not-lives
returns-then-not-lives g c w is =
    let left = crashed_drafts g.P.OneRun.stood g.P.OneRun.left g.P.OneRun.run.frame c.args.parts.now w c.args.packet c.args.copy c.look-flight.result.now c.nothing-draft.result
    c.requires.stands is (c.requires.going w is) c.look-flight.ensures (sym (c.lives.ensures w is) ∙ c.if-not-lives.true)
    (record { parts = c.nothing-draft.ensures.parts; outgoing = c.nothing-draft.ensures.outgoing; entries = c.nothing-draft.ensures.entries; pieces = ap of_pieces c.nothing-draft.ensures.pieces; stirred = c.nothing-draft.ensures.stirred }) in
    (tt, left.0.possible, left.1)

pub read_letter-requires : goal.read_letter-requires
read_letter-requires g c =
    let few = few_bytes g.P.OneRun.stood g.P.OneRun.left g.P.OneRun.run.frame c.args.parts.now c.requires.stands.world c.args.packet c.args.copy c.look-flight.result.now c.requires.stands c.requires.stands.is c.look-flight.ensures c.spelling_law.ensures.told in
    omega (arith, few, ap length c.as_slice.ensures)

pub member_of-before-requires-clause-within : goal.member_of-before-requires-clause-within
member_of-before-requires-clause-within g c =
    let w = c.requires.stands.world in
    let is = c.requires.stands.is in
    within_of g.P.OneRun.run.frame w c.look-flight.result.now.to (sym (c.lives.ensures w is) ∙ c.if-not-lives.false)

pub comes_to-requires : goal.comes_to-requires
comes_to-requires g c =
    let m = c.args.machine.now in
    let w = c.requires.stands.world in
    let is = c.requires.stands.is in
    let receives : Receives g.P.OneRun.stood g.P.OneRun.left g.P.OneRun.run.frame (fitness_of (g.P.Performer.fits_state m) (g.P.Performer.fits_args m) (g.P.Performer.fits_text m) (g.P.Performer.fits_reply m)) c.args.parts.now w c.args.packet c.args.copy c.look-flight.result.now c.in-Some.one c.member_of-before.result.now =
    receives_of g.P.OneRun.stood g.P.OneRun.left g.P.OneRun.run.frame (fitness_of (g.P.Performer.fits_state m) (g.P.Performer.fits_args m) (g.P.Performer.fits_text m) (g.P.Performer.fits_reply m)) c.args.parts.now w c.args.packet c.args.copy c.look-flight.result.now c.in-Some.one c.member_of-before.result.now
    c.requires.stands is (c.requires.going w is) c.look-flight.ensures (sym (c.lives.ensures w is) ∙ c.if-not-lives.false)
    (incoming_of c.as_slice.result.now c.look-flight.result.now.packet c.in_ok-one.field-0 (Some c.in-Some.one) c.as_slice.ensures c.in-Some.is (c.in_ok-one.ensures {u = tt}))
    c.spelling_law.ensures.prefix c.spelling_law.ensures.told c.member_of-before.ensures c.walking_law.ensures.walks
    (λ may. c.parts_fit_apart.ensures g.P.OneRun.run.frame (sym (g.met.P.OneRun.performs_run m)) (sym (g.met.P.OneRun.computes_run m)) c.requires.stands.settings c.args.parts.now.ledger.steps w is.replays (c.requires.going w is) (event.Deliver c.args.packet c.args.copy) tt may) in
    come_may g.P.OneRun.stood g.P.OneRun.left g.P.OneRun.run.frame (fitness_of (g.P.Performer.fits_state m) (g.P.Performer.fits_args m) (g.P.Performer.fits_text m) (g.P.Performer.fits_reply m)) c.args.parts.now w c.args.packet c.args.copy c.look-flight.result.now c.in-Some.one c.member_of-before.result.now c.nothing-draft.result receives
    (record { parts = c.nothing-draft.ensures.parts; outgoing = c.nothing-draft.ensures.outgoing; entries = c.nothing-draft.ensures.entries; pieces = ap of_pieces c.nothing-draft.ensures.pieces; stirred = c.nothing-draft.ensures.stirred })

pub returns-in_ok-comes_to-in-Some : goal.returns-in_ok-comes_to-in-Some
returns-in_ok-comes_to-in-Some g c w is =
    let m = c.args.machine.now in
    let receives : Receives g.P.OneRun.stood g.P.OneRun.left g.P.OneRun.run.frame (fitness_of (g.P.Performer.fits_state m) (g.P.Performer.fits_args m) (g.P.Performer.fits_text m) (g.P.Performer.fits_reply m)) c.args.parts.now w c.args.packet c.args.copy c.look-flight.result.now c.in-Some.one c.member_of-before.result.now =
    receives_of g.P.OneRun.stood g.P.OneRun.left g.P.OneRun.run.frame (fitness_of (g.P.Performer.fits_state m) (g.P.Performer.fits_args m) (g.P.Performer.fits_text m) (g.P.Performer.fits_reply m)) c.args.parts.now w c.args.packet c.args.copy c.look-flight.result.now c.in-Some.one c.member_of-before.result.now
    c.requires.stands is (c.requires.going w is) c.look-flight.ensures (sym (c.lives.ensures w is) ∙ c.if-not-lives.false)
    (incoming_of c.as_slice.result.now c.look-flight.result.now.packet c.in_ok-one.field-0 (Some c.in-Some.one) c.as_slice.ensures c.in-Some.is (c.in_ok-one.ensures {u = tt}))
    c.spelling_law.ensures.prefix c.spelling_law.ensures.told c.member_of-before.ensures c.walking_law.ensures.walks
    (λ may. c.parts_fit_apart.ensures g.P.OneRun.run.frame (sym (g.met.P.OneRun.performs_run m)) (sym (g.met.P.OneRun.computes_run m)) c.requires.stands.settings c.args.parts.now.ledger.steps w is.replays (c.requires.going w is) (event.Deliver c.args.packet c.args.copy) tt may) in (
      tt,
      receives.here.possible,
      come_draft g.P.OneRun.stood g.P.OneRun.left g.P.OneRun.run.frame (fitness_of (g.P.Performer.fits_state m) (g.P.Performer.fits_args m) (g.P.Performer.fits_text m) (g.P.Performer.fits_reply m)) c.args.parts.now w c.args.packet c.args.copy c.look-flight.result.now c.in-Some.one c.member_of-before.result.now c.nothing-draft.result c.comes_to.new.draft receives
          (record { parts = c.nothing-draft.ensures.parts; outgoing = c.nothing-draft.ensures.outgoing; entries = c.nothing-draft.ensures.entries; pieces = ap of_pieces c.nothing-draft.ensures.pieces; stirred = c.nothing-draft.ensures.stirred }) (c.in_ok-comes_to-in-Some.ensures {u = tt}),
    )

pub returns-in-None : goal.returns-in-None
returns-in-None g c w is =
    let left = cut_drafts g.P.OneRun.stood g.P.OneRun.left g.P.OneRun.run.frame c.args.parts.now w c.args.packet c.args.copy c.look-flight.result.now c.nothing-draft.result
    c.requires.stands is (c.requires.going w is) c.look-flight.ensures
    (incoming_of c.as_slice.result.now c.look-flight.result.now.packet c.in_ok-one.field-0 None c.as_slice.ensures c.in-None.is (c.in_ok-one.ensures {u = tt})) c.spelling_law.ensures.told
    (record { parts = c.nothing-draft.ensures.parts; outgoing = c.nothing-draft.ensures.outgoing; entries = c.nothing-draft.ensures.entries; pieces = ap of_pieces c.nothing-draft.ensures.pieces; stirred = c.nothing-draft.ensures.stirred }) in
    (tt, left.0.possible, left.1)
