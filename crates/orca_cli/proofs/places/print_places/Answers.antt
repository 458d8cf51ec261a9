use Rattle.orca_cli.proofs.PlaceLemmas.{placed_all, placed_none}
use Rattle.orca_cli.proofs.places.print_places.Goals as goal

pub returns-then-asked-clause-wrote : goal.returns-then-asked-clause-wrote
returns-then-asked-clause-wrote g c = placed_all _ _ c.args.asked c.args.book.now c.args.notes.now _ c.if-asked.true c.print_all.ensures.wrote

pub returns-clause-wrote : goal.returns-clause-wrote
returns-clause-wrote g c = placed_none _ c.args.asked c.args.book.now c.args.notes.now c.if-asked.false
