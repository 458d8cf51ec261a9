use Rattle.std.proofs.Common.{refl}
use Rattle.orca_grammar.proofs.Decided.{firsts_are, never_empty, nexts_in, rules_decided, unit_decided}
use Rattle.orca_grammar.proofs.Opened.{every_form}
use Rattle.orca_grammar.proofs.Starting.{begins_in, empty_in}
use Rattle.orca_grammar.proofs.law.decision_law.Goals as goal

pub returns : goal.returns
unfolding every_form
returns c = record { nested = rules_decided; whole = unit_decided; firsts = firsts_are; nexts = nexts_in; some = never_empty; begins = begins_in; empty = empty_in; call = refl; statements = refl }
