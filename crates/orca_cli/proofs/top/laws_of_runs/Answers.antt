use Rattle.orca_cli.proofs.top.laws_of_runs.Goals as goal

pub returns : goal.returns
returns c = record {
  placed = c.book_by_places.ensures.placed;
  ends = c.ends_stand.ensures.all;
  finished = c.ends_stand.ensures.finished;
  homes = c.processes_stand.ensures.homes;
  stand = c.processes_stand.ensures.stands;
  spent = c.run_law.ensures.spent;
  read = c.standings_mean.ensures;
  count = c.worlds_count.ensures.counted;
  sound = c.legal_book.ensures.sound;
  enough = c.events_are_enough.ensures;
  enough_with_singles = c.events_are_enough_with_singles.ensures;
  idle = c.stretches_are_short.ensures.short;
  ticks = c.idle_ticks_are_counted.ensures;
}
