use Rattle.std.proofs.Common.{[], Option, ap, ◌∙◌}
use Rattle.std.specs.Option.{option_map_or}
use Rattle.type_rules.specs.declared.types.DataType.{DataType}
use Rattle.type_rules.specs.Types.{outside_of}
use Rattle.meaning_rules.specs.Statements.{names_at}
use Rattle.program_bodies.proofs.site.Site.names.Goals as goal

pub returns : goal.returns
returns c = λ w s.
    c.known_names.ensures w.program (c.rule_tables.ensures w.program s.code).typed.forms.names
    ∙ ap (λ (o : Option DataType). option_map_or (λ t. names_at w.program (outside_of t)) o []) ((c.in_ok-found.ensures {u = tt}) w (c.scope.ensures w s)).is
