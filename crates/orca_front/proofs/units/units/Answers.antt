use Rattle.std.proofs.Common.{List, [], subst, sym, map}
use Rattle.orca_base.specs.Refusal.{because_weaker}
use Rattle.link_rules.specs.declared.named_unit.NamedUnit.{NamedUnit}
use Rattle.link_rules.specs.Units.{source}
use Rattle.orca_front.specs.Sources.{AreUnits, IsLinkFault, file_of}
use Rattle.orca_front.specs.Sources as sources
use Rattle.orca_front.proofs.SourceLemmas.{reaches_next, taken_more}
use Rattle.orca_front.proofs.units.units.Goals as goal

pub files-init : goal.files-init
files-init c = subst (λ (l : List NamedUnit). AreUnits [] (map source l)) (sym c.new-units.ensures.items) sources.none

pub files-preserved : goal.files-preserved
files-preserved c =
    taken_more c.args.files.now c.files.file-index c.file-item.result c.files.units.items c.push.new.self.items c.in-Ok.unit c.files-test.true c.file-item.is (c.in_ok-push-in-Ok.ensures {u = tt}).items c.files.invariant c.in-Ok.ensures.unit

pub returns-in-Err-clause-refused : goal.returns-in-Err-clause-refused
returns-in-Err-clause-refused c =
    because_weaker c.in-Err.refusal _ _ _ (IsLinkFault (map file_of c.args.files.now))
    (c.in-Err.ensures.refused (map file_of c.args.files.now) (reaches_next c.args.files.now c.files.file-index c.file-item.result c.files.units.items c.files-test.true c.file-item.is c.files.invariant))
    (λ cause is. is)
