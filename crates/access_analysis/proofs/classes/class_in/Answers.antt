use Rattle.std.proofs.Common.{Option, sym, ap, ◌∙◌}
use Rattle.std.specs.Prelude.{option_map, slice_get}
use Rattle.std.specs.Option.{option_map_or}
use Rattle.std.specs.Borrow.{Bor}
use Rattle.std.proofs.lemmas.Option.{slice_get-map}
use Rattle.orca_tree.specs.declared.tree.Operation as tree
use Rattle.orca_syntax.specs.Syntax.{Operation}
use Rattle.orca_syntax.specs.Shown.{operation}
use Rattle.value_core.specs.declared.action.Class.TheVariants.{Writes}
use Rattle.meaning_rules.specs.Classes.{operation_class}
use Rattle.program_bodies.specs.Objects.{object_type_seen}
use Rattle.access_analysis.proofs.classes.class_in.Goals as goal

pub returns-in-None : goal.returns-in-None
returns-in-None c = λ us names.
    let ops = c.args.of.operations.now in
    let found = ap (λ (o : Option (Bor tree.Operation)). option_map (λ x. x.now) o) (sym c.in-None.is) ∙ c.operation_at.ensures ∙ ap (slice_get ops) c.from.ensures in
    ap (λ (o : Option Operation). option_map_or (operation_class us (object_type_seen c.args.of)) o Writes)
    (ap (λ (o : Option tree.Operation). option_map operation o) found ∙ sym (slice_get-map operation ops c.args.op.0))

pub returns-in-Some : goal.returns-in-Some
returns-in-Some c = λ us names.
    let ops = c.args.of.operations.now in
    let found = ap (λ (o : Option (Bor tree.Operation)). option_map (λ x. x.now) o) (sym c.in-Some.is) ∙ c.operation_at.ensures ∙ ap (slice_get ops) c.from.ensures in
    c.operation_class.ensures us names
    ∙ ap (λ (o : Option Operation). option_map_or (operation_class us (object_type_seen c.args.of)) o Writes)
    (ap (λ (o : Option tree.Operation). option_map operation o) found ∙ sym (slice_get-map operation ops c.args.op.0))
