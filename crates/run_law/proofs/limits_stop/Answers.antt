use Rattle.run_law.proofs.Limiting.{stops_before}
use Rattle.run_law.proofs.limits_stop.Goals as goal

pub returns : goal.returns
returns g c = λ f same_p same_q settings steps w replays m low lives.
    let holds = c.legal_book.ensures.holds f same_p same_q settings steps w replays in
    stops_before c.agreement_law.ensures.worlds f settings.resilience w m holds.grouped (holds.caught_up m low lives)
