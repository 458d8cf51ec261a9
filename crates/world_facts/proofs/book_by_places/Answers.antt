use Rattle.world_facts.proofs.Places.{fronts, placed, worked_places}
use Rattle.world_facts.proofs.book_by_places.Goals as goal

pub returns : goal.returns
returns c = record { fronts = fronts; placed = placed; worked = worked_places }
