use Rattle.std.proofs.Common.{ap, ◌∙◌}
use Rattle.orca_base.specs.declared.ids.KindNo.{KindNo}
use Rattle.orca_base.specs.declared.ids.OpNo.{OpNo}
use Rattle.meaning_rules.specs.Classes.{class_of}
use Rattle.meaning_rules.specs.Programs.{kind_of}
use Rattle.access_estimates.proofs.resolving.Lookups.class.Goals as goal

pub returns : goal.returns
returns c = λ us are.
    c.class_listed.ensures
    ∙ are.classes c.kind.result c.operation.result
    ∙ ap (λ (k : KindNo). class_of us k c.operation.result) (c.kind.ensures us are.tables)
    ∙ ap (λ (o : OpNo). class_of us (kind_of us c.args.object_type) o) (c.operation.ensures us are.tables)
