use Rattle.std.proofs.Common.{map}
use Rattle.link_rules.specs.Units.{source}
use Rattle.orca_front.specs.Sources.{file_of}
use Rattle.orca_answers.proofs.AnswerLemmas.{ok_both}
use Rattle.orca_answers.proofs.check.judged_sources.Goals as goal

pub returns-in-Ok-clause-accepted : goal.returns-in-Ok-clause-accepted
returns-in-Ok-clause-accepted c =
    ok_both c.judged.result (λ accepted within. (map source c.in-Ok.program.units.items, accepted, within)) (c.judged.ensures.accepted (map file_of c.args.files.now) c.in-Ok.ensures.program) c.judged.ensures.within

pub returns-in-Ok-clause-refused : goal.returns-in-Ok-clause-refused
returns-in-Ok-clause-refused c = c.judged.ensures.refused (map file_of c.args.files.now) c.in-Ok.ensures.program
