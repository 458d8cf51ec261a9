use Rattle.std.proofs.Common.{List, map}
use Rattle.link_rules.specs.Units.{Source, source}
use Rattle.history_text.specs.declared.names.Names.{Names}
use Rattle.program_names.proofs.Checked.{are_names, are_texts}
use Rattle.program_names.proofs.tables.names.Goals as goal

pub returns-clause-are : goal.returns-clause-are
returns-clause-are c =
    let names : Names = record { kinds = c.in_ok-kinds_of.field-0; operations = c.in_ok-operations_of.field-0; texts = c.in_ok-texts_of.field-0 } in
    are_names (map source c.args.checked.now.program.now.units.items) c.args.checked.now.symbols c.tops-tops.result.now names c.args.checked.now.tables c.tops-tops.ensures
    (record { kinds = c.in_ok-kinds_of.ensures; operations = c.in_ok-operations_of.ensures; texts = c.in_ok-texts_of.ensures })

pub returns-clause-tables : goal.returns-clause-tables
returns-clause-tables c = λ limits.
    let names : Names = record { kinds = c.in_ok-kinds_of.field-0; operations = c.in_ok-operations_of.field-0; texts = c.in_ok-texts_of.field-0 } in
    let us : List Source = map source c.args.checked.now.program.now.units.items in
    c.names_law.ensures.tables us names c.args.checked.now.program.now.links c.args.checked.now.well_typed
    (are_texts c.linking_law.ensures.units c.args.checked.now.program.now.units.items) limits (returns-clause-are c)

pub returns-clause-histories : goal.returns-clause-histories
returns-clause-histories c = λ limits.
    let names : Names = record { kinds = c.in_ok-kinds_of.field-0; operations = c.in_ok-operations_of.field-0; texts = c.in_ok-texts_of.field-0 } in
    let us : List Source = map source c.args.checked.now.program.now.units.items in
    c.names_law.ensures.histories us names c.args.checked.now.program.now.links c.args.checked.now.well_typed
    (are_texts c.linking_law.ensures.units c.args.checked.now.program.now.units.items) limits (returns-clause-are c)

pub returns-clause-calls : goal.returns-clause-calls
returns-clause-calls c = λ limits.
    let names : Names = record { kinds = c.in_ok-kinds_of.field-0; operations = c.in_ok-operations_of.field-0; texts = c.in_ok-texts_of.field-0 } in
    let us : List Source = map source c.args.checked.now.program.now.units.items in
    c.names_law.ensures.calls us names c.args.checked.now.program.now.links c.args.checked.now.well_typed
    (are_texts c.linking_law.ensures.units c.args.checked.now.program.now.units.items) limits (returns-clause-are c)
