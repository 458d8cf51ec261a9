use Rattle.world_parts.proofs.Opening.{laws_of}
use Rattle.world_parts.proofs.parts.laws_of_runs.Goals as goal

pub returns : goal.returns
returns g c =
    laws_of _ _ _ _ (g.met.P.OneRun.performs_run c.args.machine.now) (g.met.P.OneRun.computes_run c.args.machine.now) (record {
      kept = c.legal_book.ensures.kept;
      hold = c.legal_book.ensures.holds;
      go = c.legal_book.ensures.goes;
      sound = c.legal_book.ensures.sound;
      stuck = c.legal_book.ensures.stuck;
      may = c.legal_book.ensures.may;
      one = c.legal_book.ensures.once;
      mean = c.ends_mean.ensures;
      stops = c.limits_stop.ensures;
      own = c.letters_are_own.ensures;
      apart = c.ticks_are_apart.ensures;
      grow = c.run_law.ensures.grow;
      replies = c.replies_stand.ensures.books;
      lists = c.group_steps.ensures.lists;
      numbers = c.packets_are_numbered.ensures;
      letters = c.letters_are_sound.ensures;
      home = c.processes_are_home.ensures;
      count = c.numbers_stay_small.ensures.steps;
      read = c.standings_mean.ensures;
      counted = c.worlds_count.ensures.counted;
      begin = c.processes_stand.ensures.begins;
      stand = c.processes_stand.ensures.stands;
      homes = c.processes_stand.ensures.homes;
      places = c.lines_have_places.ensures.lines;
      told = c.lines_have_places.ensures.told;
    })
