use Rattle.std.proofs.Common.{ℕ, List, Option, map, subst, sym, ap}
use Rattle.std.specs.Borrow.{Bor}
use Rattle.estimate_rules.specs.Estimates.{sites_in}
use Rattle.estimate_rules.specs.Routines.{routine_of}
use Rattle.access_estimates.specs.declared.routines.Routine.{Routine}
use Rattle.access_estimates.specs.Resolved.{IsRoutine}
use Rattle.program_bodies.specs.Matching.{Both}
use Rattle.access_estimates.specs.Summaries.{by_table}
use Rattle.access_estimates.proofs.Listed.{none_known, one_known}
use Rattle.access_estimates.proofs.program.add_known.Goals as goal

pub returns-in-None : goal.returns-in-None
returns-in-None c = λ us t named both.
    none_known (sites_in (by_table (map (λ v. v.items) c.args.table.now)) t.defined.name.text) (routine_of us t) c.args.all.now.items (Bor Routine) (λ k w. IsRoutine us k.now w)
    (subst (λ (o : Option (Bor Routine)). Both (λ k w. IsRoutine us k.now w) o (routine_of us t)) c.in-None.is both)

pub returns-in-Some : goal.returns-in-Some
returns-in-Some c = λ us t named both.
    let numbers = by_table (map (λ v. v.items) c.args.table.now) in
    one_known (sites_in numbers t.defined.name.text) (sites_in numbers c.args.process.now) (routine_of us t) c.add_estimates.result c.args.all.now.items c.add_estimates.new.all.items
    (Bor Routine) c.in-Some.routine (λ k w. IsRoutine us k.now w)
    (λ w. ap (λ (n : List ℕ). sites_in numbers n w) (sym named))
    (subst (λ (o : Option (Bor Routine)). Both (λ k w. IsRoutine us k.now w) o (routine_of us t)) c.in-Some.is both)
    (λ w is. c.add_estimates.ensures us w is)
