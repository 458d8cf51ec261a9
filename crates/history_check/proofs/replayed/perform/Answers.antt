use Rattle.std.proofs.lemmas.Result.{on_ok_weaker}
use Rattle.history_check.proofs.replayed.perform.Goals as goal

pub returns-clause-players : goal.returns-clause-players
returns-clause-players g c = on_ok_weaker c.begin.result
    (λ begins. record {
      player = c.received-player.result;
      calls = c.received-player.ensures.calls;
      state_after = c.received-player.ensures.state;
      begins = begins;
    })
    c.begin.ensures
