use Rattle.std.proofs.Common.{drop, sym, ap, ◌∙◌}
use Rattle.meaning_rules.specs.Calls.{first_mode, modes_of}
use Rattle.program_bodies.specs.declared.callees.Callee.{Callee}
use Rattle.program_bodies.specs.Named.{callee_seen}
use Rattle.program_bodies.proofs.Passing.{mode_there, none_first, out_first, out_second}
use Rattle.program_bodies.proofs.callees.Callee.mode.Goals as goal

pub returns-in-AFunction : goal.returns-in-AFunction
returns-in-AFunction c =
    c.mode_at.ensures
    ∙ sym (mode_there c.in-AFunction.parameters.now c.args.place)
    ∙ sym (ap (λ (k : Callee). first_mode (drop c.args.place (modes_of (callee_seen k)))) c.in-AFunction.is)

pub returns-in-Adds : goal.returns-in-Adds
returns-in-Adds c = c.out_at.ensures ∙ out_first c.args.place ∙ sym (ap (λ (k : Callee). first_mode (drop c.args.place (modes_of (callee_seen k)))) c.in-Adds.is)

pub returns-in-Deletes : goal.returns-in-Deletes
returns-in-Deletes c = c.out_at-in-Deletes.ensures ∙ out_second c.args.place ∙ sym (ap (λ (k : Callee). first_mode (drop c.args.place (modes_of (callee_seen k)))) c.in-Deletes.is)

pub returns-in-NoFunction : goal.returns-in-NoFunction
returns-in-NoFunction c = none_first c.args.place ∙ sym (ap (λ (k : Callee). first_mode (drop c.args.place (modes_of (callee_seen k)))) c.in-NoFunction.is)
