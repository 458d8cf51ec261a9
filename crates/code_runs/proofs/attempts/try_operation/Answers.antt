use Rattle.std.proofs.Common.{◌≡◌, ℕ, Some, ap}
use Rattle.std.proofs.lemmas.Result.{IfOk-weaker}
use Rattle.value_core.specs.Datum.{Data}
use Rattle.value_core.specs.declared.action.Reply.TheVariants as reply
use Rattle.value_core.specs.declared.meaning.Tried.TheVariants as tried
use Rattle.code_rules.specs.Machine.{OfOperation}
use Rattle.code_rules.specs.Performing.{operation_tried, tries}
use Rattle.emitted_code.specs.Views.{operation_seen, program_seen}
use Rattle.code_runs.proofs.Coming.{gives_as, small_as}
use Rattle.code_runs.proofs.Trying.{none_tried, output_tried, tries_of}
use Rattle.code_runs.proofs.attempts.try_operation.Goals as goal

pub returns-then-kind-eq0 : goal.returns-then-kind-eq0
returns-then-kind-eq0 c = λ room guards.
    let state = c.in_ok-copy.field-0 in
    output_tried (program_seen c.args.code.now) c.args.kind c.args.op c.args.state.now c.args.args.now (tried.Did 0 state reply.Done) c.if-kind-eq0.true
    (ap (λ (d : Data). tried.Did 0 d reply.Done) (c.in_ok-copy.ensures {u = tt}))

pub returns-in-Some : goal.returns-in-Some
returns-in-Some c = λ room guards.
    let code = program_seen c.args.code.now in
    let o = operation_seen c.in-Some.operation.now in
    let all = tries code c.args.kind c.args.op c.args.state.now c.args.args.now in
    let own = operation_tried code (OfOperation c.from-kind.result c.from-number.result) c.args.state.now c.args.args.now (Some o) in
    let same : (k : ℕ) → all k ≡ own k
    = tries_of code c.args.kind c.args.op c.args.state.now c.args.args.now c.from-kind.result c.from-number.result (Some o) c.if-kind-eq0.false c.from-kind.ensures c.from-number.ensures (c.in-Some.ensures {u = tt}) in
    IfOk-weaker c.run.result _ _ (λ t g. gives_as all own t same g) (c.run.ensures room (small_as all own same guards))

pub returns-in-None : goal.returns-in-None
returns-in-None c = λ room guards.
    none_tried (program_seen c.args.code.now) c.args.kind c.args.op c.args.state.now c.args.args.now c.from-kind.result c.from-number.result c.if-kind-eq0.false c.from-kind.ensures c.from-number.ensures (c.in-None.ensures {u = tt})
