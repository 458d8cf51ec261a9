use Rattle.std.proofs.Common.{[], map}
use Rattle.value_core.specs.Datum.{list_of}
use Rattle.value_core.specs.View.{datum_of}
use Rattle.emitted_code.specs.Views.{marks_of}
use Rattle.frame_variables.specs.Gives.{path_of}
use Rattle.code_steps.proofs.Popping.{has_values, no_values, path_lacks, path_taken}
use Rattle.code_steps.proofs.Walking.{path_made}
use Rattle.code_steps.proofs.paths.pop_path.Goals as goal

pub returns-in_ok-add_steps-in-Some : goal.returns-in_ok-add_steps-in-Some
returns-in_ok-add_steps-in-Some c =
    let marks = marks_of c.args.marks.now in
    let values = list_of c.in-Some.indices in
    let path = path_of c.add_steps.new.path.items in
    path_taken marks c.index_count-count.result c.args.stack.now c.pop_many.new.self values path c.index_count-count.ensures (has_values c.in_ok-indices.field-0 c.index_count-count.result c.args.stack.now c.pop_many.new.self (c.in_ok-indices.ensures {u = tt}) c.in-Some.indices c.in-Some.is)
    (path_made c.new-path.result.items path marks (map datum_of c.as_slice.result.now) values c.new-path.ensures.items (c.in_ok-add_steps-in-Some.ensures {u = tt}) c.as_slice.ensures)

pub returns-in-None : goal.returns-in-None
returns-in-None c =
    path_lacks (marks_of c.args.marks.now) c.index_count-count.result c.args.stack.now c.pop_many.new.self [] c.index_count-count.ensures (no_values c.in_ok-indices.field-0 c.index_count-count.result c.args.stack.now c.pop_many.new.self (c.in_ok-indices.ensures {u = tt}) c.in-None.is)
