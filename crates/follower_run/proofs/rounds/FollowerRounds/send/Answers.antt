use Rattle.std.proofs.Common.{◌≡◌, ◌+◌, ◌∙◌, ap, length, refl, rules}
use Rattle.follower_run.proofs.Posting.{has_sent, sent_half}
use Rattle.follower_run.proofs.Results.{ok_two, on_err}
use Rattle.follower_run.proofs.rounds.FollowerRounds.send.Goals as goal

pub returns-clause-sent : goal.returns-clause-sent
returns-clause-sent g c =
    let s = c.args.self.now in
    let next : c.in-Some.number ≡ s.questions + 1 = search rules in
    let long : c.in_ok-length.length ≡ length c.in_ok-bytes.bytes.items = c.in_ok-length.ensures.0 ∙ ap (λ l. length l) c.as_slice.ensures.value in
    ok_two c.post.result
    (λ held coming. has_sent s _ c.args.from c.args.to c.in-Some.number c.args.packet.now c.in_ok-bytes.bytes.items c.in_ok-length.length c.fate-fate.result (g.W.Wire.told c.args.wire.now) (g.W.Wire.told c.fate-fate.new.self)
    (record { next = next; join = c.in_ok-bytes.ensures.is; spelled = c.in_ok-bytes.ensures.spelled; long = long; short = c.in_ok-length.ensures.1; asked = search rules })
    (record { own = refl; follower = refl; states = refl; rounds = refl; questions = refl; held = search rules; coming = search rules }))
    c.post.ensures.held c.post.ensures.coming

pub returns-clause-left : goal.returns-clause-left
returns-clause-left g c =
    let s = c.args.self.now in
    let next : c.in-Some.number ≡ s.questions + 1 = search rules in
    let long : c.in_ok-length.length ≡ length c.in_ok-bytes.bytes.items = c.in_ok-length.ensures.0 ∙ ap (λ l. length l) c.as_slice.ensures.value in
    on_err c.post.result _
    (sent_half s _ c.args.from c.args.to c.in-Some.number c.args.packet.now c.in_ok-bytes.bytes.items c.in_ok-length.length c.fate-fate.result (g.W.Wire.told c.args.wire.now) (g.W.Wire.told c.fate-fate.new.self)
    (record { next = next; join = c.in_ok-bytes.ensures.is; spelled = c.in_ok-bytes.ensures.spelled; long = long; short = c.in_ok-length.ensures.1; asked = search rules }) refl refl)
