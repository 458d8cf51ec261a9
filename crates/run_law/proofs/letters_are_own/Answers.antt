use Rattle.run_law.proofs.Ticking.{each_part}
use Rattle.run_law.proofs.Senders.{rows_of, sends_own}
use Rattle.run_law.proofs.letters_are_own.Goals as goal

pub returns : goal.returns
returns g c = λ f same_p same_q settings steps w replays event given possible.
    let holds = c.legal_book.ensures.holds f same_p same_q settings steps w replays in
    each_part f w settings.resilience holds.grouped (c.legal_book.ensures.may f same_p same_q settings steps w replays) event given possible _
    (λ m start lives may stands.
    sends_own f w m start
    (rows_of (record { sends = c.agreement_law.ensures.sends; calls = c.agreement_law.ensures.calls; packets = c.wire_law.ensures.packets })
    f settings.resilience w m holds.grouped lives) may)
