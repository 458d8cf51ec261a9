-- Single steps of processes, computed.
use Rattle.std.proofs.Common.{refl, arith, [], ◌∷◌}
use Rattle.value_core.specs.Datum as datum
use Rattle.value_core.specs.declared.action.Action.TheVariants as action
use Rattle.value_core.specs.declared.action.Reply.TheVariants as answer
use Rattle.world_rules.proofs.Scenes.{checks_in, first, second}
use Rattle.world_rules.specs.LostEntry.{handed}
use Rattle.world_rules.specs.Played.Stage.{Computing}
use Rattle.world_rules.specs.ProcessSteps.{BlockedRead, Fork, Stands, six}
use Rattle.world_rules.specs.Programs.{assign, await, fork_on, make, runner}

pub blocked_read : BlockedRead
blocked_read = record {
  goes = (
    refl,
    checks_in six _ first 0 (runner 0 datum.none [] 0 Computing) make
        refl refl refl (omega arith) (omega arith) refl (omega arith) refl refl,
    refl,
    (
      refl,
      refl,
      refl,
      (
        refl,
        checks_in six _ first 1 (runner 0 datum.none (answer.Done ∷ []) 1 Computing) (fork_on 0)
            refl refl refl (omega arith) (omega arith) refl (omega arith) refl refl,
        refl,
        (
          refl,
          refl,
          refl,
          (
            refl,
            checks_in six _ first 2 (runner 0 datum.none (answer.Done ∷ answer.Done ∷ []) 2 Computing) await
                refl refl refl (omega arith) (omega arith) refl (omega arith) refl refl,
            refl,
            (refl, refl, refl, tt),
          ),
        ),
      ),
    ),
  );
  waits = refl;
  none = refl;
  going = refl;
  goes_on = (
    refl,
    checks_in six _ second 2 (runner 1 handed [] 2 Computing) (assign 6)
        refl refl refl (omega arith) (omega arith) refl (omega arith) refl refl,
    refl,
    (refl, refl, refl, tt),
  );
  replied = refl;
  aside = refl;
  ends = (
    refl,
    checks_in six _ first 3 (runner 0 datum.none (answer.Done ∷ answer.Done ∷ answer.Done ∷ []) 3 Computing) action.Ended
        refl refl refl (omega arith) (omega arith) refl (omega arith) refl refl,
    refl,
    (
      refl,
      checks_in six _ second 3 (runner 1 handed (answer.Done ∷ []) 3 Computing) action.Ended
          refl refl refl (omega arith) (omega arith) refl (omega arith) refl refl,
      refl,
      tt,
    ),
  );
  finished = refl;
  blocked = refl;
}

pub fork : Fork
fork = record {
  not_begun = refl;
  begun = refl;
  named = refl;
  below_zero = refl;
  parents = refl;
}

pub stands : Stands
stands = record {
  finished = refl;
  out_of_events = refl;
  one_more_event = refl;
  out_of_turns = refl;
  one_more_turn = refl;
  at_action = refl;
  turns_first = refl;
  no_group = refl;
  one_more_tick = refl;
  nobody_lives = refl;
  faulted = refl;
  limit = refl;
  stops = refl;
}
