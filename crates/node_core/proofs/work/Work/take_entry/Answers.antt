use Rattle.node_core.proofs.TakingEntry.{refused_by}
use Rattle.node_core.proofs.work.Work.take_entry.Goals as goal

pub take_into_copies-requires : goal.take_into_copies-requires
take_into_copies-requires g c = c.requires

pub returns-in-Ok-clause-node : goal.returns-in-Ok-clause-node
returns-in-Ok-clause-node g c = c.take_into_copies.ensures.node

pub returns-in-Ok-clause-moved : goal.returns-in-Ok-clause-moved
returns-in-Ok-clause-moved g c = c.take_into_copies.ensures.moved

pub returns-in-Ok-clause-taken : goal.returns-in-Ok-clause-taken
returns-in-Ok-clause-taken g c = c.in-Ok.ensures.took

pub returns-in-Err-Limit-clause-taken : goal.returns-in-Err-Limit-clause-taken
returns-in-Err-Limit-clause-taken g c =
    refused_by (g.P.Performer.performs c.args.machine.now) c.args.self.now.node c.take_into_copies.new.self.node c.args.message.now c.in-Err-Limit.field-0 _ _
    c.in-Err-Limit.field-0-is c.in-Err-Limit.ensures.limit c.in-Err-Limit.ensures.err

pub returns-in-Err-Limit-clause-node : goal.returns-in-Err-Limit-clause-node
returns-in-Err-Limit-clause-node g c = c.take_into_copies.ensures.node

pub returns-in-Err-Limit-clause-moved : goal.returns-in-Err-Limit-clause-moved
returns-in-Err-Limit-clause-moved g c = c.take_into_copies.ensures.moved

pub returns-in-Err-NoMemory-clause-node : goal.returns-in-Err-NoMemory-clause-node
returns-in-Err-NoMemory-clause-node g c = c.take_into_copies.ensures.node

pub returns-in-Err-NoMemory-clause-moved : goal.returns-in-Err-NoMemory-clause-moved
returns-in-Err-NoMemory-clause-moved g c = c.take_into_copies.ensures.moved
