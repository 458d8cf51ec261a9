use Rattle.orca_tree.proofs.Spelled.{put_as}
use Rattle.orca_tree.proofs.SpelledRows.{if_spelled, while_spelled, for_spelled, repeat_spelled, when_spelled, otherwise_spelled}
use Rattle.orca_tree.proofs.spelling.Speller.+spell_statements.Goals as goal

pub statement-returns-in-If : goal.statement-returns-in-If
statement-returns-in-If t c = put_as _ _ _ _ _ (if_spelled _ _ _ _ c.in-If.is c.deref.ensures.value) c.choice.ensures

pub statement-returns-in-While : goal.statement-returns-in-While
statement-returns-in-While t c = put_as _ _ _ _ _ (while_spelled _ _ _ _ _ c.in-While.is c.deref-in-While.ensures.value) c.while_loop.ensures

pub statement-returns-in-For : goal.statement-returns-in-For
statement-returns-in-For t c = put_as _ _ _ _ _ (for_spelled _ _ _ _ _ _ c.in-For.is c.deref-in-For.ensures.value) c.for_loop.ensures

pub statement-returns-in-Repeat : goal.statement-returns-in-Repeat
statement-returns-in-Repeat t c = put_as _ _ _ _ _ (repeat_spelled _ _ _ _ _ c.in-Repeat.is c.deref-in-Repeat.ensures.value) c.repeat_loop.ensures

pub arm-returns-in-When : goal.arm-returns-in-When
arm-returns-in-When t c = put_as _ _ _ _ _ (when_spelled _ _ _ _ c.in-When.is c.deref.ensures.value) c.when.ensures

pub arm-returns-in-Otherwise : goal.arm-returns-in-Otherwise
arm-returns-in-Otherwise t c = put_as _ _ _ _ _ (otherwise_spelled _ _ _ c.in-Otherwise.is c.deref-in-Otherwise.ensures.value) c.statements.ensures
