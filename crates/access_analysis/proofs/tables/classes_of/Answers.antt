use Rattle.meaning_rules.specs.Classes.{class_of}
use Rattle.program_bodies.specs.Codes.{sources}
use Rattle.access_analysis.proofs.Listed.{right_classes}
use Rattle.access_analysis.proofs.Specified.{class_known}
use Rattle.access_analysis.proofs.tables.classes_of.Goals as goal

pub returns : goal.returns
returns c = λ kind op.
    let us = sources c.args.checked.now in
    class_known _ (class_of us kind op) c.args.checked.now.tables (λ s. right_classes us _ ((c.in_ok-all.ensures {u = tt}) s.names) kind op)
