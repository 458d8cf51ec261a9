use Rattle.std.proofs.Common.{map}
use Rattle.link_rules.specs.Units.{source}
use Rattle.orca_front.specs.Sources.{file_of}
use Rattle.orca_answers.proofs.AnswerLemmas.{if_three}
use Rattle.orca_answers.proofs.listing.program_listing.Goals as goal

pub returns-in-Ok-clause-listed : goal.returns-in-Ok-clause-listed
returns-in-Ok-clause-listed c =
    let heard = c.linked_listing.ensures in
    if_three c.linked_listing.result (λ text accepted within listing. (map source c.in-Ok.program.units.items, accepted, within, listing))
    (heard.accepted (map file_of c.args.files.now) c.in-Ok.ensures.program) heard.within heard.listed

pub returns-in-Ok-clause-refused : goal.returns-in-Ok-clause-refused
returns-in-Ok-clause-refused c = c.linked_listing.ensures.refused (map file_of c.args.files.now) c.in-Ok.ensures.program
