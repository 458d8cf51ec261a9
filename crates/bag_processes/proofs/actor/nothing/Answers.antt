use Rattle.bag_processes.proofs.Playing.{none_of}
use Rattle.bag_processes.proofs.actor.nothing.Goals as goal

pub returns : goal.returns
returns c = none_of _ c.new.ensures
