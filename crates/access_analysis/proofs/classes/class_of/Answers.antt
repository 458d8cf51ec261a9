use Rattle.std.proofs.Common.{sym, ◌∙◌}
use Rattle.meaning_rules.specs.Classes.{class_of}
use Rattle.meaning_rules.proofs.ReadsKeeping.{reads_keep}
use Rattle.program_bodies.specs.Codes.{sources}
use Rattle.access_analysis.proofs.Specified.{class_known}
use Rattle.access_analysis.proofs.classes.class_of.Goals as goal

pub returns-clause-class : goal.returns-clause-class
returns-clause-class c =
    let is = class_of (sources c.args.checked.now) c.args.kind c.args.op in
    class_known c.class_at.result is c.args.checked.now.tables (λ s. c.class_at.ensures s.names)

pub returns-clause-keeps : goal.returns-clause-keeps
returns-clause-keeps c = λ state args call reads.
    let us = sources c.args.checked.now in
    let is = class_of us c.args.kind c.args.op in
    let same = class_known c.class_at.result is c.args.checked.now.tables (λ s. c.class_at.ensures s.names) in
    reads_keep us c.args.kind c.args.op state args call (sym same ∙ reads)
