use Rattle.std.proofs.Common.{sym, subst}
use Rattle.value_core.specs.declared.action.Reply.{Reply}
use Rattle.value_core.specs.declared.message.Message.{Message}
use Rattle.group_member.specs.Laws.{EntryLaw, LengthLaw}
use Rattle.group_member.proofs.Installing.{entry_law}
use Rattle.group_member.proofs.Working.{whole_length}
use Rattle.node_rules.specs.Entries.{MayTakeEntry}
use Rattle.node_core.specs.Entries.{Begins, MayBegin, listed}
use Rattle.node_core.specs.Stands.{fitness_of}
use Rattle.node_core.proofs.NextEntry.{applied_next, begun_somewhere, is_next, may_answer_next, may_begin_next, may_take_next, some_nodes}
use Rattle.node_core.proofs.TakingEntry.{none_of, refused_in, taken_in}
use Rattle.node_core.proofs.Keeping.{keeps_known, keeps_next, keeps_on, keeps_refused, keeps_taken}
use Rattle.node_core.proofs.work.Work.apply_next.Goals as goal

long : LengthLaw Message Reply
long h which s k stands = whole_length stands

law : EntryLaw Message Reply
law = entry_law Message Reply

pub next_entry-requires : goal.next_entry-requires
next_entry-requires g c =
    let m = c.args.machine.now in
    is_next g.P.OneRun.stood g.P.OneRun.left g.P.OneRun.run.frame (fitness_of (g.P.Performer.fits_state m) (g.P.Performer.fits_args m) (g.P.Performer.fits_text m) (g.P.Performer.fits_reply m))
    c.args.self.now long law c.requires.somewhere c.requires.due

pub born_of-born-requires : goal.born_of-born-requires
born_of-born-requires g c =
    let m = c.args.machine.now in
    some_nodes g.P.OneRun.stood g.P.OneRun.left g.P.OneRun.run.frame (fitness_of (g.P.Performer.fits_state m) (g.P.Performer.fits_args m) (g.P.Performer.fits_text m) (g.P.Performer.fits_reply m))
    c.args.self.now c.requires.somewhere

pub take_entry-requires : goal.take_entry-requires
take_entry-requires g c =
    let m = c.args.machine.now in
    subst (λ (x : Message). MayTakeEntry (g.P.Performer.performs m) (g.P.Performer.fits_state m) (g.P.Performer.fits_args m) c.args.self.now.node.copies x.action) (sym c.message-3.ensures)
    (may_take_next g.P.OneRun.stood g.P.OneRun.left g.P.OneRun.run.frame (fitness_of (g.P.Performer.fits_state m) (g.P.Performer.fits_args m) (g.P.Performer.fits_text m) (g.P.Performer.fits_reply m))
    c.args.self.now c.in_ok-message.message (g.P.Performer.performs m) long law (g.met.P.OneRun.performs_run m) c.requires.somewhere c.requires.due (c.in_ok-message.ensures {u = tt}))

pub answer-requires : goal.answer-requires
answer-requires g c =
    let m = c.args.machine.now in
    may_answer_next g.P.OneRun.stood g.P.OneRun.left g.P.OneRun.run.frame (fitness_of (g.P.Performer.fits_state m) (g.P.Performer.fits_args m) (g.P.Performer.fits_text m) (g.P.Performer.fits_reply m))
    (g.P.Performer.performs m) c.args.self.now c.take_entry.new.self c.learn.new.self c.in_ok-message.message c.in-Some.lines.items (listed c.born_of-born.result) long law c.requires.somewhere c.requires.due
    (c.in_ok-message.ensures {u = tt}) (taken_in g.P.OneRun.run.frame (g.P.Performer.performs m) c.args.self.now c.take_entry.new.self c.learn.new.self c.in_ok-message.message c.message-2.result.now c.message-3.result.now
    _ c.in-Some.lines c.born_of-born.result (g.met.P.OneRun.performs_run m) c.message-2.ensures c.message-3.ensures c.born_of-born.ensures (c.in_ok-lines.ensures {u = tt}).taken c.in-Some.is
    c.take_entry.ensures.node c.take_entry.ensures.moved c.learn.ensures.node (c.in_ok-learn.ensures {u = tt}).known c.learn.ensures.moved)

pub begin-requires : goal.begin-requires
begin-requires g c =
    let m = c.args.machine.now in
    subst (λ (x : Message). MayBegin (g.P.Performer.fits_text m) c.answer.new.self.node.member.me x.action (listed c.born_of-born.result)) (sym c.message-4.ensures)
    (may_begin_next g.P.OneRun.stood g.P.OneRun.left g.P.OneRun.run.frame (fitness_of (g.P.Performer.fits_state m) (g.P.Performer.fits_args m) (g.P.Performer.fits_text m) (g.P.Performer.fits_reply m))
    (g.P.Performer.performs m) c.args.self.now c.take_entry.new.self c.learn.new.self c.answer.new.self c.in_ok-message.message c.in-Some.lines.items (listed c.born_of-born.result) long law c.requires.somewhere c.requires.due
    (c.in_ok-message.ensures {u = tt}) (taken_in g.P.OneRun.run.frame (g.P.Performer.performs m) c.args.self.now c.take_entry.new.self c.learn.new.self c.in_ok-message.message c.message-2.result.now c.message-3.result.now
    _ c.in-Some.lines c.born_of-born.result (g.met.P.OneRun.performs_run m) c.message-2.ensures c.message-3.ensures c.born_of-born.ensures (c.in_ok-lines.ensures {u = tt}).taken c.in-Some.is
    c.take_entry.ensures.node c.take_entry.ensures.moved c.learn.ensures.node (c.in_ok-learn.ensures {u = tt}).known c.learn.ensures.moved)
    (c.in_ok-answer.ensures {u = tt}).does)

pub try_reads-requires : goal.try_reads-requires
try_reads-requires g c =
    let m = c.args.machine.now in
    begun_somewhere g.P.OneRun.stood g.P.OneRun.left g.P.OneRun.run.frame (fitness_of (g.P.Performer.fits_state m) (g.P.Performer.fits_args m) (g.P.Performer.fits_text m) (g.P.Performer.fits_reply m))
    c.processes-number.result (g.P.Performer.performs m) c.args.self.now c.take_entry.new.self c.learn.new.self c.answer.new.self c.begin.new.self c.in_ok-message.message c.in-Some.lines.items
    (listed c.born_of-born.result) long law c.requires.somewhere c.requires.due (c.in_ok-message.ensures {u = tt})
    (taken_in g.P.OneRun.run.frame (g.P.Performer.performs m) c.args.self.now c.take_entry.new.self c.learn.new.self c.in_ok-message.message c.message-2.result.now c.message-3.result.now
    _ c.in-Some.lines c.born_of-born.result (g.met.P.OneRun.performs_run m) c.message-2.ensures c.message-3.ensures c.born_of-born.ensures (c.in_ok-lines.ensures {u = tt}).taken c.in-Some.is
    c.take_entry.ensures.node c.take_entry.ensures.moved c.learn.ensures.node (c.in_ok-learn.ensures {u = tt}).known c.learn.ensures.moved)
    (c.in_ok-answer.ensures {u = tt}).does c.processes-number.ensures.processes
    (subst (λ (x : Message). Begins g.P.OneRun.stood g.P.OneRun.left g.P.OneRun.run.frame c.processes-number.result (listed c.born_of-born.result) x.action c.answer.new.self c.begin.new.self) c.message-4.ensures (c.in_ok-begin.ensures {u = tt}).does)

pub returns-in_default-clause-does : goal.returns-in_default-clause-does
returns-in_default-clause-does g c =
    let m = c.args.machine.now in
    refused_in g.P.OneRun.stood g.P.OneRun.left g.P.OneRun.run.frame (fitness_of (g.P.Performer.fits_state m) (g.P.Performer.fits_args m) (g.P.Performer.fits_text m) (g.P.Performer.fits_reply m))
    (g.P.Performer.performs m) c.args.self.now c.take_entry.new.self c.in_ok-message.message c.message-3.result.now _ law (c.in_ok-message.ensures {u = tt}) c.message-3.ensures
    (g.met.P.OneRun.performs_run m) (c.in_ok-lines.ensures {u = tt}).taken (none_of _ c.in_default.not-Some) c.take_entry.ensures.node c.take_entry.ensures.moved

pub returns-clause-does : goal.returns-clause-does
returns-clause-does g c =
    let m = c.args.machine.now in
    applied_next g.P.OneRun.stood g.P.OneRun.left g.P.OneRun.run.frame (fitness_of (g.P.Performer.fits_state m) (g.P.Performer.fits_args m) (g.P.Performer.fits_text m) (g.P.Performer.fits_reply m))
    c.processes-number.result (g.P.Performer.performs m) c.args.self.now c.take_entry.new.self c.learn.new.self c.answer.new.self c.begin.new.self c.try_reads.new.self c.in_ok-message.message c.in-Some.lines.items
    (listed c.born_of-born.result) law (c.in_ok-message.ensures {u = tt})
    (taken_in g.P.OneRun.run.frame (g.P.Performer.performs m) c.args.self.now c.take_entry.new.self c.learn.new.self c.in_ok-message.message c.message-2.result.now c.message-3.result.now
    _ c.in-Some.lines c.born_of-born.result (g.met.P.OneRun.performs_run m) c.message-2.ensures c.message-3.ensures c.born_of-born.ensures (c.in_ok-lines.ensures {u = tt}).taken c.in-Some.is
    c.take_entry.ensures.node c.take_entry.ensures.moved c.learn.ensures.node (c.in_ok-learn.ensures {u = tt}).known c.learn.ensures.moved)
    (c.in_ok-answer.ensures {u = tt}).does c.processes-number.ensures.processes
    (subst (λ (x : Message). Begins g.P.OneRun.stood g.P.OneRun.left g.P.OneRun.run.frame c.processes-number.result (listed c.born_of-born.result) x.action c.answer.new.self c.begin.new.self) c.message-4.ensures (c.in_ok-begin.ensures {u = tt}).does)
    (c.in_ok-try_reads.ensures {u = tt}).does

pub returns-in_default-clause-tasks : goal.returns-in_default-clause-tasks
returns-in_default-clause-tasks g c =
    keeps_refused _ _ _ _ _ (c.in_ok-lines.ensures {u = tt}).taken (none_of _ c.in_default.not-Some) c.take_entry.ensures.node

pub returns-clause-tasks : goal.returns-clause-tasks
returns-clause-tasks g c =
    let m = c.args.machine.now in
    let taken =
    keeps_taken g.P.OneRun.stood g.P.OneRun.left g.P.OneRun.run.frame (fitness_of (g.P.Performer.fits_state m) (g.P.Performer.fits_args m) (g.P.Performer.fits_text m) (g.P.Performer.fits_reply m))
    (g.P.Performer.performs m) c.args.self.now c.take_entry.new.self c.learn.new.self c.in_ok-message.message c.in-Some.lines.items (listed c.born_of-born.result) c.requires.somewhere
    (taken_in g.P.OneRun.run.frame (g.P.Performer.performs m) c.args.self.now c.take_entry.new.self c.learn.new.self c.in_ok-message.message c.message-2.result.now c.message-3.result.now
    _ c.in-Some.lines c.born_of-born.result (g.met.P.OneRun.performs_run m) c.message-2.ensures c.message-3.ensures c.born_of-born.ensures (c.in_ok-lines.ensures {u = tt}).taken c.in-Some.is
    c.take_entry.ensures.node c.take_entry.ensures.moved c.learn.ensures.node (c.in_ok-learn.ensures {u = tt}).known c.learn.ensures.moved) in
    keeps_next c.processes-number.result c.args.self.now.node c.answer.new.self.node c.begin.new.self.node c.try_reads.new.self.node c.processes-number.ensures.processes
    (keeps_on c.args.self.now.node c.take_entry.new.self.node c.answer.new.self.node taken
    (keeps_on c.take_entry.new.self.node c.learn.new.self.node c.answer.new.self.node (keeps_known _ _ c.learn.ensures.node) (c.in_ok-answer.ensures {u = tt}).tasks))
    (c.in_ok-begin.ensures {u = tt}).tasks (c.in_ok-try_reads.ensures {u = tt}).tasks
