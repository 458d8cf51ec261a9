use Rattle.meaning_rules.proofs.ElementsFit.{elements_fit}
use Rattle.meaning_rules.proofs.PartsFit.{parts_fit}
use Rattle.meaning_rules.proofs.PathsFit.{paths_fit, graphs_fit}
use Rattle.meaning_rules.proofs.StaysFit.{state_more, args_more, text_more}
use Rattle.meaning_rules.proofs.law.fitting_law.Goals as goal

pub returns : goal.returns
returns c = record {
  elements = elements_fit (record {
    inserted_in_order = c.elements_law.ensures.inserted_in_order;
    deleted_in_order = c.elements_law.ensures.deleted_in_order;
    rest_in_order = c.elements_law.ensures.rest_in_order;
  });
  parts = parts_fit c.graphs_law.ensures.assigned;
  paths = λ us. paths_fit us (parts_fit c.graphs_law.ensures.assigned us);
  graphs = graphs_fit (record { added_graph = c.graphs_law.ensures.added; deleted_graph = c.graphs_law.ensures.deleted });
  states = λ us kinds more kind state extends h. state_more us kinds more extends kind state h;
  arguments = λ us kinds more kind op args extends h. args_more us kinds more extends kind op args h;
  texts = λ us kinds more text args extends h. text_more us kinds more extends text args h;
}
