use Rattle.std.proofs.Common.{◌≡◌, ◌+◌, ◌++◌, ℕ, List, length, map, pos, replicate, ap, ◌∙◌, arith}
use Rattle.std.proofs.lemmas.List.{length-map}
use Rattle.std.proofs.lemmas.Result.{IfOk-weaker}
use Rattle.value_core.specs.Datum as datum
use Rattle.value_core.specs.Datum.{Datum}
use Rattle.value_core.specs.View.{datum_of}
use Rattle.value_core.specs.declared.value.Value.{Value}
use Rattle.code_rules.specs.Machine.{OfMaking}
use Rattle.code_rules.specs.Performing.{begun, nobody}
use Rattle.emitted_code.specs.Views.{body_seen, program_seen}
use Rattle.code_steps.specs.Bodies.{config_of, effect_in}
use Rattle.code_runs.proofs.Trying.{made_so}
use Rattle.code_runs.proofs.makings.make_by.Goals as goal

pub returns : goal.returns
returns c = λ room.
    let part = c.args.part.now in
    let zeros = replicate part.spare (datum.int (pos 0)) in
    let opened = c.in_ok-add_copies.ensures {u = tt} ∙ ap (λ (l : List Datum). l ++ map datum_of c.deref.result.now) c.new-slots.ensures ∙ ap (λ (l : List Value). map datum_of l) c.deref.ensures.value in
    let slots = c.in_ok-add_spare.ensures {u = tt} ∙ ap (λ (l : List Datum). l ++ zeros) opened in
    let many = length-map part.opens.items datum_of in
    let fields : c.len-fields.result ≡ length (map datum_of part.opens.items) = omega (arith, c.len-fields.ensures, part.opens.ok.0, many) in
    IfOk-weaker c.made.result _ _
    (λ m came. made_so (program_seen c.args.code.now) (OfMaking c.args.kind) (body_seen part) c.len-fields.result (c.from.result + 1) c.run.new.left (config_of c.in_ok-config.config) (effect_in c.in_ok-effect.effect (config_of c.run.new.config)) m
    fields (ap (λ (n : ℕ). n + 1) c.from.ensures)
    (c.in_ok-config.ensures {u = tt} ∙ ap (begun nobody (OfMaking c.args.kind) 0) slots)
    (c.in_ok-effect.ensures room) came)
    c.made.ensures
