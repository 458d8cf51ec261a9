use Rattle.std.proofs.Common.{map}
use Rattle.orca_front.specs.Sources.{file_of}
use Rattle.orca_io.specs.Reading.{had}
use Rattle.command_files.specs.Stopped.{StoppedAt}
use Rattle.command_files.proofs.ReadFiles.{stopped_since, history_since, only_left, quiet_on, quiet_since, read_since}
use Rattle.command_files.proofs.AskedFiles.{asked_behind, asked_more}
use Rattle.command_files.proofs.replay_reading.replay_files.Goals as goal

pub returns-clause-read : goal.returns-clause-read
returns-clause-read g c = (c.in-Ok.ensures.read, read_since _ _ _ _ c.sources.ensures.same c.in-Ok-history_in.ensures.read)

pub returns-clause-quiet : goal.returns-clause-quiet
returns-clause-quiet g c = quiet_since _ _ _ _ (only_left c.in-Ok.ensures.quiet) c.in-Ok-history_in.ensures.quiet

pub returns-in-Err-clause-refused : goal.returns-in-Err-clause-refused
returns-in-Err-clause-refused g c =
    let before = g.F.Shelf.faults c.args.shelf.now in
    let mid = g.F.Shelf.faults c.sources.new.shelf in
    let now = g.F.Shelf.faults c.history_in.new.shelf in
    let old = g.F.Shelf.reads c.args.shelf.now in
    let between = g.F.Shelf.reads c.sources.new.shelf in
    let new = g.F.Shelf.reads c.history_in.new.shelf in
    history_since _ _ _ _ (StoppedAt mid now between new) (StoppedAt before now old new) c.args.history.now _ c.in-Err.refusal c.sources.ensures.same
    (stopped_since before mid now old between new (map had (map file_of c.in-Ok.sources.items)) c.args.history.now (only_left c.in-Ok.ensures.quiet) c.in-Ok.ensures.had) (map file_of c.in-Ok.sources.items, c.in-Ok.ensures.read) c.in-Err.ensures.refused

pub returns-in-Err-clause-quiet : goal.returns-in-Err-clause-quiet
returns-in-Err-clause-quiet g c = quiet_on _ _ _ _ _ c.in-Err.refusal (only_left c.in-Ok.ensures.quiet) c.in-Err.ensures.quiet

pub returns-in-Err-Because-clause-asked : goal.returns-in-Err-Because-clause-asked
returns-in-Err-Because-clause-asked g c = asked_more _ _ _ _ _ c.sources.ensures.asked

pub returns-in-Err-NoMemory-clause-asked : goal.returns-in-Err-NoMemory-clause-asked
returns-in-Err-NoMemory-clause-asked g c = asked_more _ _ _ _ _ c.sources.ensures.asked

pub returns-in-Err-clause-asked : goal.returns-in-Err-clause-asked
returns-in-Err-clause-asked g c = asked_behind _ _ _ _ _ (map file_of c.in-Ok.sources.items) _ _ _ c.sources.ensures.may c.in-Ok.ensures.read c.in-Ok.ensures.had c.history_in.ensures.asked

pub returns-clause-asked : goal.returns-clause-asked
returns-clause-asked g c = asked_behind _ _ _ _ _ (map file_of c.in-Ok.sources.items) _ _ _ c.sources.ensures.may c.in-Ok.ensures.read c.in-Ok.ensures.had c.history_in.ensures.asked
