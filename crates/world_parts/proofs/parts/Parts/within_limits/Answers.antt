use Rattle.std.proofs.Common.{◌∙◌, sym}
use Rattle.world_parts.proofs.Ruling.{rules_events, rules_going, rules_group, rules_over, rules_turns}
use Rattle.world_parts.proofs.parts.Parts.within_limits.Goals as goal

pub returns-then-is_out_of_turns : goal.returns-then-is_out_of_turns
returns-then-is_out_of_turns g c w is = rules_turns g.P.OneRun.run.frame w (sym c.if-is_out_of_turns.true ∙ c.is_out_of_turns.ensures w is)

pub returns-then-is_out_of_events : goal.returns-then-is_out_of_events
returns-then-is_out_of_events g c w is = rules_events g.P.OneRun.run.frame w (sym c.if-is_out_of_turns.false ∙ c.is_out_of_turns.ensures w is) (sym c.if-is_out_of_events.true ∙ c.is_out_of_events.ensures w is)

pub returns-then-is_no_group : goal.returns-then-is_no_group
returns-then-is_no_group g c w is = rules_group g.P.OneRun.run.frame w (sym c.if-is_out_of_turns.false ∙ c.is_out_of_turns.ensures w is) (sym c.if-is_out_of_events.false ∙ c.is_out_of_events.ensures w is) (sym c.if-is_no_group.true ∙ c.is_no_group.ensures w is)

pub returns-then-is_over : goal.returns-then-is_over
returns-then-is_over g c w is = rules_over g.P.OneRun.run.frame w _ (sym c.if-is_out_of_turns.false ∙ c.is_out_of_turns.ensures w is) (sym c.if-is_out_of_events.false ∙ c.is_out_of_events.ensures w is) (sym c.if-is_no_group.false ∙ c.is_no_group.ensures w is) (sym c.if-is_over.true ∙ c.is_over.ensures w is) (c.how_ended.ensures w is)

pub returns-else-is_over : goal.returns-else-is_over
returns-else-is_over g c w is = rules_going g.P.OneRun.run.frame w (sym c.if-is_out_of_turns.false ∙ c.is_out_of_turns.ensures w is) (sym c.if-is_out_of_events.false ∙ c.is_out_of_events.ensures w is) (sym c.if-is_no_group.false ∙ c.is_no_group.ensures w is) (sym c.if-is_over.false ∙ c.is_over.ensures w is)
