-- What a run leaves.
use Rattle.std.specs.Prelude.{◌≡◌, List}
use Rattle.net_rules.specs.declared.asked.Asked.{Asked}
use Rattle.value_core.specs.Meaning.{Computes, Performs}
use Rattle.world_rules.specs.declared.settings.Settings.{Settings}
use Rattle.world_rules.specs.declared.standing.Standing.{Standing}
use Rattle.world_rules.specs.Frame.{Frame}
use Rattle.world_rules.specs.Standings as rules
use Rattle.world_rules.specs.Steps.{Replays}
use Rattle.world_rules.specs.Worlds.{Book, World, opening_world, places}
use Rattle.world_enough.specs.Faultless.{LeadsFirst}
use Rattle.world_book.specs.Promise.{AllStuck, IsKept}
use Rattle.world_places.specs.Explained.{AreItsPlaces}
use Rattle.run_ends.specs.Telling.{AreNodeEnds, AreProcessEnds, EndsMean}
use Rattle.run_ends.specs.declared.ends.RunEnd.{RunEnd}
use Rattle.world_facts.specs.Logs.{longest_log}
use Rattle.run_loop.specs.Asked.{AreInTime, NoneAskedBehind, WereUsedSo, asked_since}

-- the run of a program with these meanings, by these settings
abbrev pub run_of : Performs → Computes → Settings → Frame
run_of p q settings = record { performs = p; computes = q; settings = settings }

-- how a run stands, and what is kept, are those of the world to which its steps lead. What is so of each run: its book is a history, and
-- replies and copies are the book's; each line of its book was performed at its place; processes stand by what they do next; and who waits
-- is stuck: at a member that applied the whole list, on a single object, and where the run is over at each living member
pub record IsLeft (f : Frame) (w : World) (standing : Standing) (end : RunEnd) : Type 0 where
  pub replays : Replays f end.steps.items w
  pub stands : standing ≡ rules.standing f w
  pub book : end.book.items ≡ Book f w
  pub places : end.places.items ≡ places f w
  pub its : AreItsPlaces f w end.places.items
  pub longest : end.longest ≡ longest_log f w
  pub nodes : AreNodeEnds f w end.nodes.items
  pub processes : AreProcessEnds f w end.processes.items
  pub kept : IsKept f w
  pub stuck : AllStuck f w
  pub mean : EndsMean f w

-- and each packet that came was the first of those that were ready; the wires, which told `old` before it and tell `new` behind it, were
-- used in it; a wire that was never in use was asked nothing; and each question about an act was in time
pub record HasRun (f : Frame) (standing : Standing) (old new : List (List Asked)) (end : RunEnd) : Type 0 where
  pub world : World
  pub left : IsLeft f world standing end
  pub first : LeadsFirst f (opening_world f) end.steps.items world
  pub used : WereUsedSo standing f end.steps.items world (asked_since old new)
  pub unused : NoneAskedBehind world.swaps (asked_since old new)
  pub in_time : AreInTime f end.steps.items (asked_since old new)
