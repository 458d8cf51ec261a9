use Rattle.std.proofs.Common.{ap, map, subst, sym}
use Rattle.accepted_law.specs.Limits.{IsWithinLimits}
use Rattle.orca_front.specs.Sources.{IsAccepted, file_of}
use Rattle.program_bodies.specs.Codes.{sources}
use Rattle.meaning_rules.specs.Meanings.{computes_of, performs_of}
use Rattle.orca_answers.proofs.replay.replayed.Goals as goal

pub returns-in-Err-Because-clause-said : goal.returns-in-Err-Because-clause-said
returns-in-Err-Because-clause-said g c = c.say_unread.ensures.said _ _ _ _ _ _ _ (rw c.in-Err-Because.field-0-is at c.in-Err-Because.ensures.refused)

pub returns-in-Err-Because-linked_program-clause-said : goal.returns-in-Err-Because-linked_program-clause-said
returns-in-Err-Because-linked_program-clause-said g c =
    c.say_unfit.ensures.said _ _ _ _ _ _ _ (map file_of c.in-Ok.read.sources.items) c.in-Ok.read.history.items c.in-Ok.ensures.read
    (rw (c.deref.ensures.value, c.in-Err-Because-linked_program.field-0-is) at c.in-Err-Because-linked_program.ensures.refused)

pub returns-in-Err-Because-machine_of-clause-said : goal.returns-in-Err-Because-machine_of-clause-said
returns-in-Err-Because-machine_of-clause-said g c =
    c.say_unfit-in-Err-Because-machine_of.ensures.said _ _ _ _ _ _ _ (map file_of c.in-Ok.read.sources.items) c.in-Ok.read.history.items c.in-Ok.ensures.read
    (rw c.in-Err-Because-machine_of.field-0-is at c.in-Err-Because-machine_of.ensures.refused (map file_of c.in-Ok.read.sources.items) (rw c.deref.ensures.value at c.in-Ok-linked_program.ensures.program))

pub judge-requires-clause-performs : goal.judge-requires-clause-performs
judge-requires-clause-performs g c = ap performs_of (ap sources (sym c.checked.ensures))

pub judge-requires-clause-computes : goal.judge-requires-clause-computes
judge-requires-clause-computes g c = ap computes_of (ap sources (sym c.checked.ensures))

pub judge-requires-clause-within : goal.judge-requires-clause-within
judge-requires-clause-within g c = subst IsWithinLimits (ap sources (sym c.checked.ensures)) c.in-Ok-machine_of.machine.within

pub judge-requires-clause-fits : goal.judge-requires-clause-fits
judge-requires-clause-fits g c = rw c.deref-2.ensures.value c.in-Ok.ensures.read.1.bytes

pub returns-clause-said : goal.returns-clause-said
returns-clause-said g c =
    let lent = ap sources (sym c.checked.ensures) in
    let files = map file_of c.in-Ok.read.sources.items in
    let are = rw c.deref.ensures.value at c.in-Ok-linked_program.ensures.program in
    let accepted = subst (IsAccepted files) (sym c.in-Ok-machine_of.ensures.of) (c.in-Ok-machine_of.ensures.accepted files are) in
    c.judge.ensures.said _ _ _ _ _ _ _ files (rw c.deref-2.ensures.value c.in-Ok.ensures.read) (subst (IsAccepted files) lent accepted)
