use Rattle.meaning_rules.proofs.ElementsFit.{elements_fit}
use Rattle.meaning_rules.proofs.PartsFit.{parts_fit}
use Rattle.meaning_rules.proofs.PathsFit.{paths_fit, graphs_fit}
use Rattle.meaning_rules.proofs.Changing.{deleted_small_graph}
use Rattle.meaning_rules.proofs.Premises.{Laws}
use Rattle.meaning_rules.proofs.Preserved.{phrases_preserve, preservation}
use Rattle.meaning_rules.proofs.AcceptedExample.{accepted}
use Rattle.meaning_rules.proofs.Orderly.{gives_order}
use Rattle.meaning_rules.proofs.Soundly.{fits_sound}
use Rattle.meaning_rules.proofs.law.typed_law.Goals as goal
use Rattle.link_rules.specs.Units.{Source}
use Rattle.std.specs.Prelude.{List}

pub returns : goal.returns
returns c =
    let laws : (us : List Source) → Laws us = λ us. record {
      same = record { same = λ t u. (c.typing_law.ensures.same t u).0 };
      parts = parts_fit c.graphs_law.ensures.assigned us;
      paths = paths_fit us (parts_fit c.graphs_law.ensures.assigned us);
      elements = elements_fit (record {
        inserted_in_order = c.elements_law.ensures.inserted_in_order;
        deleted_in_order = c.elements_law.ensures.deleted_in_order;
        rest_in_order = c.elements_law.ensures.rest_in_order;
      }) us;
      graphs = graphs_fit (record { added_graph = c.graphs_law.ensures.added; deleted_graph = c.graphs_law.ensures.deleted }) us;
      sizes = record { sizes = c.paths_law.ensures.sizes; deleted_node = deleted_small_graph c.graphs_law.ensures.size_deleted };
      told = c.texts_law.ensures.told_codes;
    } in
    record { phrases = λ v facts plain. phrases_preserve v facts (laws v.program) plain; programs = λ us facts. preservation us facts (laws us); sound = λ us facts. fits_sound us facts (record { sound = c.graphs_law.ensures.sound }); orderly = gives_order; example = accepted }
