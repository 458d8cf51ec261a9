use Rattle.std.proofs.Common.{[], Option, sym, ap, ◌∙◌}
use Rattle.std.specs.Option.{option_map_or}
use Rattle.type_forms.specs.Seen.{top}
use Rattle.meaning_rules.specs.Programs.{ObjectType, is_specification}
use Rattle.access_analysis.specs.Tables.{specified_classes, type_classes}
use Rattle.access_analysis.proofs.Listed.{adds_none, adds_one}
use Rattle.access_analysis.proofs.tables.add_classes.Goals as goal

pub returns : goal.returns
returns c = λ us names are.
    adds_one _ (specified_classes us) (top c.args.item.now) c.in_ok-own.own (is_specification (top c.args.item.now)) c.args.all.now.items _
    (sym c.is_specification.ensures ∙ c.if-not-is_specification.false) c.in_ok-push.ensures.items
    ((c.in_ok-own.ensures {u = tt}) us names ∙ ap (λ (o : Option ObjectType). option_map_or (type_classes us) o []) (are c.args.item.now.name.now))

pub returns-then-not-is_specification : goal.returns-then-not-is_specification
returns-then-not-is_specification c = λ us names are.
    adds_none (specified_classes us) (top c.args.item.now) (is_specification (top c.args.item.now)) _ (sym c.is_specification.ensures ∙ c.if-not-is_specification.true)
