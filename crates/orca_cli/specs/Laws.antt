-- What is so of each run of a program: what the top takes from the law of runs.
use Rattle.value_core.specs.Meaning.{Computes, Performs}
use Rattle.run_law.specs.Spent.{AllSpentBusy}
use Rattle.world_book.specs.Sounding.{RunsSound}
use Rattle.world_enough.specs.Bound.{EventsAreEnough, EventsAreEnoughWithSingles}
use Rattle.world_facts.specs.Counted.{AllCounted}
use Rattle.world_facts.specs.Ends.{AllEndsStand, FinishedRunsEnd}
use Rattle.world_facts.specs.Places.{AllPlaced}
use Rattle.world_facts.specs.Processes.{AllStand, HomesAreMembers}
use Rattle.world_facts.specs.Rows.{AllRead}
use Rattle.world_idle.specs.Counting.{IdleTicksAreCounted}
use Rattle.world_idle.specs.Stretches.{IdleStretchesAreShort}

-- a book stands by places; ends of members and processes stand, and those of a run that has finished; processes are on members, and at what
-- they do next; one that computes with all its turns is busy; standings are read off the table; worlds count their steps; lines of books are
-- sound; for a faultless run a number of events is enough; idle stretches are short; and idle ticks are counted
pub record RunLaws (p : Performs) (q : Computes) : Type 0 where
  pub placed : AllPlaced
  pub ends : AllEndsStand
  pub finished : FinishedRunsEnd
  pub homes : HomesAreMembers
  pub stand : AllStand
  pub spent : AllSpentBusy p q
  pub read : AllRead
  pub count : AllCounted
  pub sound : RunsSound p q
  pub enough : EventsAreEnough p q
  pub enough_with_singles : EventsAreEnoughWithSingles p q
  pub idle : IdleStretchesAreShort p q
  pub ticks : IdleTicksAreCounted
