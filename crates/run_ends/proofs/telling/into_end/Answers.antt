use Rattle.std.proofs.Common.{List, ◌∙◌, sym, subst}
use Rattle.book_law.specs.declared.placing.Placed.{Placed}
use Rattle.run_ends.specs.Telling.{IsInOrder}
use Rattle.run_ends.proofs.telling.into_end.Goals as goal

pub notes_of-requires-clause-order : goal.notes_of-requires-clause-order
notes_of-requires-clause-order g c =
    subst (λ (l : List Placed). IsInOrder g.P.OneRun.stood g.P.OneRun.left g.P.OneRun.run.frame c.args.parts l) (sym c.as_slice-order.ensures.value) (c.in_ok-performed.ensures {u = tt})

pub ends_by-requires-clause-book : goal.ends_by-requires-clause-book
ends_by-requires-clause-book g c w is =
    let order = c.in_ok-performed.ensures {u = tt} in
    c.as_slice.ensures.value ∙ c.in_ok-lines.ensures {u = tt} ∙ order.lines w is

pub returns-clause-book : goal.returns-clause-book
returns-clause-book g c w is =
    let order = c.in_ok-performed.ensures {u = tt} in
    c.in_ok-lines.ensures {u = tt} ∙ order.lines w is

pub returns-clause-places : goal.returns-clause-places
returns-clause-places g c w is = (c.in_ok-notes.ensures {u = tt}) w is

pub returns-clause-nodes : goal.returns-clause-nodes
returns-clause-nodes g c w is = (c.in_ok-nodes.ensures {u = tt}) w is

pub returns-clause-processes : goal.returns-clause-processes
returns-clause-processes g c w is = (c.in_ok-processes.ensures {u = tt}) w is

pub returns-clause-longest : goal.returns-clause-longest
returns-clause-longest g c w is = c.longest_log-longest.ensures w is
