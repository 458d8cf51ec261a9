use Rattle.std.proofs.Common.{sym, ◌∙◌}
use Rattle.program_names.proofs.Lawful.{lawful}
use Rattle.program_names.proofs.Lines.{calls_named, histories_named}
use Rattle.program_names.proofs.AreTables.{are_tables}
use Rattle.program_names.proofs.law.names_law.Goals as goal

pub returns : goal.returns
returns c = record {
  tables = λ us names links typed texts limits. are_tables us names links typed texts (c.accepted_law.ensures.numbers us limits);
  histories = λ us names links typed texts limits are.
      histories_named us names are (c.accepted_law.ensures.makes us typed texts) (c.accepted_law.ensures.calls us links typed texts limits)
      (lawful us (c.typed_law.ensures.programs us (c.accepted_law.ensures.accepted us links typed texts limits)) (c.meaning_law.ensures.reads us) (c.fitting_law.ensures.states us)
      (c.fitting_law.ensures.texts us));
  calls = λ us names links typed texts limits are.
      calls_named us names are (c.accepted_law.ensures.makes us typed texts) (c.accepted_law.ensures.calls us links typed texts limits)
      (lawful us (c.typed_law.ensures.programs us (c.accepted_law.ensures.accepted us links typed texts limits)) (c.meaning_law.ensures.reads us) (c.fitting_law.ensures.states us)
      (c.fitting_law.ensures.texts us));
  once = λ us one two is are. (is.kinds ∙ sym are.kinds, is.operations ∙ sym are.operations, is.texts ∙ sym are.texts);
}
