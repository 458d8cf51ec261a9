-- Single steps of the network, computed.
use Rattle.std.proofs.Common.{refl, arith, []}
use Rattle.value_core.specs.Datum as datum
use Rattle.world_rules.proofs.Scenes.{checks_in, first}
use Rattle.world_rules.specs.NetworkSteps.{Crashed, CutShort, Exchanged, HeldAndRepeated, Suspected}
use Rattle.world_rules.specs.OneCell.{one_cell}
use Rattle.world_rules.specs.Played.Stage.{Computing}
use Rattle.world_rules.specs.Programs.{make, runner}

pub held_and_repeated : HeldAndRepeated
held_and_repeated = record {
  flights = refl;
  held = refl;
  first = refl;
  second = refl;
  once = refl;
  again = refl;
  quiet = refl;
  busy = refl;
  ticked = refl;
  goes = (
    refl,
    checks_in one_cell _ first 0 (runner 0 datum.none [] 0 Computing) make
        refl refl refl (omega arith) (omega arith) refl (omega arith) refl refl,
    refl,
    (
      refl,
      refl,
      refl,
      (
        refl,
        refl,
        refl,
        (
          refl,
          refl,
          refl,
          (
            refl,
            refl,
            refl,
            (
              refl,
              refl,
              refl,
              (refl, refl, refl, tt),
            ),
          ),
        ),
      ),
    ),
  );
  came = refl;
  answered = refl;
  at_once = refl;
}

pub cut_short : CutShort
cut_short = record {
  goes = (
    refl,
    checks_in one_cell _ first 0 (runner 0 datum.none [] 0 Computing) make
        refl refl refl (omega arith) (omega arith) refl (omega arith) refl refl,
    refl,
    (
      refl,
      refl,
      refl,
      (
        refl,
        refl,
        refl,
        (refl, refl, refl, tt),
      ),
    ),
  );
  lost = refl;
  whole = refl;
  none = refl;
}

pub exchanged : Exchanged
exchanged = record {
  goes = (
    refl,
    checks_in one_cell _ first 0 (runner 0 datum.none [] 0 Computing) make
        refl refl refl (omega arith) (omega arith) refl (omega arith) refl refl,
    refl,
    (
      refl,
      refl,
      refl,
      (
        refl,
        refl,
        refl,
        (refl, refl, refl, tt),
      ),
    ),
  );
  first_wire = refl;
  second_wire = refl;
  one = refl;
  no_other = refl;
}

pub crashed : Crashed
crashed = record {
  goes = (
    refl,
    checks_in one_cell _ first 0 (runner 0 datum.none [] 0 Computing) make
        refl refl refl (omega arith) (omega arith) refl (omega arith) refl refl,
    refl,
    (
      refl,
      refl,
      refl,
      (
        refl,
        refl,
        refl,
        (
          refl,
          refl,
          refl,
          (refl, refl, refl, tt),
        ),
      ),
    ),
  );
  before = refl;
  after = refl;
  stays = refl;
  gone = refl;
  other = refl;
  nobody = refl;
}

pub suspected : Suspected
suspected = record {
  goes = (
    refl,
    checks_in one_cell _ first 0 (runner 0 datum.none [] 0 Computing) make
        refl refl refl (omega arith) (omega arith) refl (omega arith) refl refl,
    refl,
    (
      refl,
      refl,
      refl,
      (refl, refl, refl, tt),
    ),
  );
  promised = refl;
  posts = refl;
  outside = refl;
}
