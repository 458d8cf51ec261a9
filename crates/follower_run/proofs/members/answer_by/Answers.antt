use Rattle.std.proofs.Common.{◌∙◌, Bool, None, ap, cond, subst, sym}
use Rattle.group_member.specs.StandsFor.{IsMember, StandsFor}
use Rattle.group_member.specs.declared.member.Member.{Member}
use Rattle.group_join.specs.Seeking.{answer_of}
use Rattle.object_manager.specs.After.{Copied}
use Rattle.value_core.specs.declared.action.Reply.{Reply}
use Rattle.value_core.specs.declared.message.Message.{Message}
use Rattle.world_rules.specs.Frame.{bytes_of, group, name_of}
use Rattle.follower_run.proofs.Loading.{answers_none}
use Rattle.follower_run.proofs.members.answer_by.Goals as goal

pub answer-requires-clause-member : goal.answer-requires-clause-member
answer-requires-clause-member g c =
    subst (λ (s : Member Message Reply). IsMember s) (sym c.member.ensures) (c.in-Some.ensures.stands c.is_replayed.ensures.0 c.is_replayed.ensures.1).member.member

pub answer-requires-clause-copies : goal.answer-requires-clause-copies
answer-requires-clause-copies g c =
    let m = c.args.machine.now in
    let w = c.is_replayed.ensures.0 in
    let led = c.is_replayed.ensures.1 in
    let stands = c.in-Some.ensures.stands w led in
    let law = c.members_answer.ensures g.P.OneRun.run.frame (sym (g.met.P.OneRun.performs_run m)) (sym (g.met.P.OneRun.computes_run m)) c.requires.settings c.requires.replicated c.args.world.now.steps w led c.args.member in
    ap (λ (x : Copied). x.applied) (c.copies.ensures ∙ stands.copies) ∙ law.level ∙ stands.member.applied ∙ sym (ap (λ (s : Member Message Reply). s.applied) c.member.ensures)

pub answer-requires-clause-plain : goal.answer-requires-clause-plain
answer-requires-clause-plain g c =
    let m = c.args.machine.now in
    let w = c.is_replayed.ensures.0 in
    let led = c.is_replayed.ensures.1 in
    let stands = c.in-Some.ensures.stands w led in
    let law = c.members_answer.ensures g.P.OneRun.run.frame (sym (g.met.P.OneRun.performs_run m)) (sym (g.met.P.OneRun.computes_run m)) c.requires.settings c.requires.replicated c.args.world.now.steps w led c.args.member in
    ap (λ (x : Copied). x.singles) (c.copies.ensures ∙ stands.copies) ∙ law.plain

pub returns-then-has_short_queue-clause-answer : goal.returns-then-has_short_queue-clause-answer
returns-then-has_short_queue-clause-answer g c = λ w led.
    let f = g.P.OneRun.run.frame in
    let stands = c.in-Some.ensures.stands w led in
    let v = w.nodes c.args.member in
    let told = c.in_ok-packet.ensures.answer name_of bytes_of f.settings.nodes f.settings.resilience c.args.member v.member
    (subst (λ (s : Member Message Reply). StandsFor (group f) c.args.member s v.member) (sym c.member.ensures) stands.member) in
    let can = sym (c.can_answer.ensures w led) ∙ c.if-not-can_answer.false in
    sym c.in-Some-2.is ∙ told ∙ ap (λ (x : Copied). answer_of v.member x c.args.applied) (c.copies.ensures ∙ stands.copies)
    ∙ sym (ap (λ (b : Bool). cond b (answer_of v.member v.copies c.args.applied) None) can)

pub returns-then-has_short_queue-clause-sound : goal.returns-then-has_short_queue-clause-sound
returns-then-has_short_queue-clause-sound g c =
    let f = g.P.OneRun.run.frame in
    let m = c.args.machine.now in
    let w = c.is_replayed.ensures.0 in
    let led = c.is_replayed.ensures.1 in
    let stands = c.in-Some.ensures.stands w led in
    let v = w.nodes c.args.member in
    let told = c.in_ok-packet.ensures.answer name_of bytes_of f.settings.nodes f.settings.resilience c.args.member v.member
    (subst (λ (s : Member Message Reply). StandsFor (group f) c.args.member s v.member) (sym c.member.ensures) stands.member) in
    let law = c.members_answer.ensures f (sym (g.met.P.OneRun.performs_run m)) (sym (g.met.P.OneRun.computes_run m)) c.requires.settings c.requires.replicated c.args.world.now.steps w led c.args.member in
    law.sound (c.requires.entries w led) c.args.applied c.in-Some-2.packet
    (sym (sym c.in-Some-2.is ∙ told ∙ ap (λ (x : Copied). answer_of v.member x c.args.applied) (c.copies.ensures ∙ stands.copies)))
    (c.has_short_queue.ensures c.if-has_short_queue.true)

pub returns-then-has_short_queue-clause-none : goal.returns-then-has_short_queue-clause-none
returns-then-has_short_queue-clause-none g c =
    let f = g.P.OneRun.run.frame in
    let w = c.is_replayed.ensures.0 in
    let led = c.is_replayed.ensures.1 in
    let stands = c.in-Some.ensures.stands w led in
    let v = w.nodes c.args.member in
    let told = c.in_ok-packet.ensures.answer name_of bytes_of f.settings.nodes f.settings.resilience c.args.member v.member
    (subst (λ (s : Member Message Reply). StandsFor (group f) c.args.member s v.member) (sym c.member.ensures) stands.member) in
    let can = sym (c.can_answer.ensures w led) ∙ c.if-not-can_answer.false in
    answers_none f w c.args.member c.args.applied c.in-Some-2.packet
    (ap (λ (b : Bool). cond b (answer_of v.member v.copies c.args.applied) None) can
    ∙ sym (sym c.in-Some-2.is ∙ told ∙ ap (λ (x : Copied). answer_of v.member x c.args.applied) (c.copies.ensures ∙ stands.copies)))
