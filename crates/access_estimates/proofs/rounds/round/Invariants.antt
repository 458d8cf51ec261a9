use Rattle.std.proofs.Common.{map, take}
use Rattle.program_bodies.specs.Matching.{Match}
use Rattle.access_estimates.specs.Summaries.{IsNext, by_table}
use Rattle.access_estimates.proofs.rounds.round.Given as goal

abbrev pub invariant-routines : goal.invariant-routines
invariant-routines l = Match (λ v o. IsNext (by_table (map (λ v. v.items) l.table)) v.items o) l.all.items (take l.routine-index l.routines)
