use Rattle.machine_laws.specs.ValueLaws.{ValueLaws}
use Rattle.machine_laws.specs.MachineLaws.{accepted_program, preserved, sound}
use Rattle.machine_laws.proofs.law.machine_laws.Goals as goal

pub returns : goal.returns
returns c =
    let elements = c.elements_law.ensures in
    let graphs = c.graphs_law.ensures in
    let values : ValueLaws = record {
      inserted_in_order = elements.inserted_in_order;
      deleted_in_order = elements.deleted_in_order;
      rest_in_order = elements.rest_in_order;
      added_graph = graphs.added;
      deleted_graph = graphs.deleted;
      assigned_graph = graphs.assigned;
      sound_graph = graphs.sound;
      deleted_size = graphs.size_deleted;
      part_size = c.paths_law.ensures.sizes;
      told_codes = c.texts_law.ensures.told_codes;
    } in
    record { values = values; accepted = accepted_program; preserved = preserved values; sound = sound values }
