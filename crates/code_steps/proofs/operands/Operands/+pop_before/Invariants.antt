use Rattle.code_steps.proofs.operands.Operands.+pop_before.Given as goal

abbrev pub decreases-pop_before : goal.decreases-pop_before
decreases-pop_before l = l.count
