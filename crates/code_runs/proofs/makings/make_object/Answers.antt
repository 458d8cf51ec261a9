use Rattle.std.proofs.Common.{Some, sym, ap, ◌∙◌}
use Rattle.std.proofs.lemmas.Result.{IfOk-weaker}
use Rattle.value_core.specs.Datum.{data_of, data_of-list_of}
use Rattle.value_core.specs.declared.meaning.Making.TheVariants as making
use Rattle.emitted_code.specs.Views.{body_seen, program_seen}
use Rattle.code_runs.proofs.Trying.{makes_of, nothing_made}
use Rattle.code_runs.proofs.makings.make_object.Goals as goal

pub returns-in-Some : goal.returns-in-Some
returns-in-Some c = λ room.
    IfOk-weaker c.make_by.result _ _
    (λ m g. makes_of (program_seen c.args.code.now) c.args.kind c.from-number.result (Some (body_seen c.in-Some.part.now)) m c.from-number.ensures (c.in-Some.ensures {u = tt}) g)
    (c.make_by.ensures room)

pub returns-in-None : goal.returns-in-None
returns-in-None c = λ room.
    nothing_made (program_seen c.args.code.now) c.args.kind c.from-number.result (making.Made c.new.result) c.from-number.ensures (c.in-None.ensures {u = tt})
    (ap making.Made (sym (data_of-list_of c.new.result) ∙ ap data_of c.new.ensures))
