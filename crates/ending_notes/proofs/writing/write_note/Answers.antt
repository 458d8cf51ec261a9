use Rattle.std.proofs.Common.{[], map}
use Rattle.std.specs.Prelude.{string_bytes}
use Rattle.refusal_notes.specs.declared.cause.UsageRule.TheVariants.{NotUtf8}
use Rattle.kept_files.specs.Kept.{kept_of}
use Rattle.ending_notes.specs.Endings as ends
use Rattle.ending_notes.proofs.Written.{noted, put_written}
use Rattle.ending_notes.proofs.writing.write_note.Goals as goal

pub returns-then-not-are_text-clause-written : goal.returns-then-not-are_text-clause-written
returns-then-not-are_text-clause-written g c =
    put_written c.args.status (map string_bytes c.args.words.now) (map kept_of c.args.files.now) c.put.result (g.K.Sink.told c.args.errors.now)
    (g.K.Sink.told c.put.new.self) c.in_ok-not_text_note.field-0.items
    (ends.usage c.if-status-eq-USAGE.true NotUtf8 [] c.in_ok-not_text_note.ensures) (rw c.deref.ensures.value at c.put.ensures.puts)

pub returns-then-not-are_text-clause-noted : goal.returns-then-not-are_text-clause-noted
returns-then-not-are_text-clause-noted g c =
    noted c.args.status (map string_bytes c.args.words.now) (map kept_of c.args.files.now) c.put.result (g.K.Sink.told c.args.errors.now)
    (g.K.Sink.told c.put.new.self)
    (put_written c.args.status (map string_bytes c.args.words.now) (map kept_of c.args.files.now) c.put.result (g.K.Sink.told c.args.errors.now)
    (g.K.Sink.told c.put.new.self) c.in_ok-not_text_note.field-0.items
    (ends.usage c.if-status-eq-USAGE.true NotUtf8 [] c.in_ok-not_text_note.ensures) (rw c.deref.ensures.value at c.put.ensures.puts))

pub returns-in-Some-clause-written : goal.returns-in-Some-clause-written
returns-in-Some-clause-written g c =
    put_written c.args.status (map string_bytes c.args.words.now) (map kept_of c.args.files.now) c.put-in-Some.result
    (g.K.Sink.told c.args.errors.now) (g.K.Sink.told c.put-in-Some.new.self) c.in-Some.note.items (rw c.in-Some.is at c.in_ok-note.ensures.told)
    (rw c.deref-in-Some.ensures.value at c.put-in-Some.ensures.puts)

pub returns-in-Some-clause-noted : goal.returns-in-Some-clause-noted
returns-in-Some-clause-noted g c =
    noted c.args.status (map string_bytes c.args.words.now) (map kept_of c.args.files.now) c.put-in-Some.result
    (g.K.Sink.told c.args.errors.now) (g.K.Sink.told c.put-in-Some.new.self)
    (put_written c.args.status (map string_bytes c.args.words.now) (map kept_of c.args.files.now) c.put-in-Some.result
    (g.K.Sink.told c.args.errors.now) (g.K.Sink.told c.put-in-Some.new.self) c.in-Some.note.items (rw c.in-Some.is at c.in_ok-note.ensures.told)
    (rw c.deref-in-Some.ensures.value at c.put-in-Some.ensures.puts))
