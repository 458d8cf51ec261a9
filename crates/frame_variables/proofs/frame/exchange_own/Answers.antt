use Rattle.std.proofs.Common.{◌≤◌, ap, arith, length, sym, ◌∙◌}
use Rattle.std.proofs.lemmas.List.{set_past}
use Rattle.std.specs.Prelude.{slice_get, slice_set}
use Rattle.value_core.specs.Datum.{data_of, list_of, list_of-data_of}
use Rattle.value_core.specs.View.{datum_of}
use Rattle.frame_variables.specs.Gives.{path_of, target_of}
use Rattle.frame_variables.proofs.Changing.{exchanges}
use Rattle.frame_variables.proofs.Fronts.{nothing_held}
use Rattle.frame_variables.proofs.Keeping.{got}
use Rattle.frame_variables.proofs.frame.exchange_own.Goals as goal

pub exchange_part-requires : goal.exchange_part-requires
exchange_part-requires c t = got (list_of c.args.own.now) c.args.to.now.slot (datum_of c.part_mut.result.now) (c.requires t) c.part_mut.ensures.value

pub returns-then-to-len-clause-others : goal.returns-then-to-len-clause-others
returns-then-to-len-clause-others c =
    let past : length (list_of c.args.own.now) ≤ c.args.to.now.slot = omega (arith, c.if-to-len.true, c.len.ensures.len) in
    (datum_of c.args.value, sym (set_past (list_of c.args.own.now) c.args.to.now.slot (datum_of c.args.value) past))

pub returns-then-to-len-clause-exchanged : goal.returns-then-to-len-clause-exchanged
returns-then-to-len-clause-exchanged c s is =
    let past : length (list_of c.args.own.now) ≤ c.args.to.now.slot = omega (arith, c.if-to-len.true, c.len.ensures.len) in
    nothing_held (target_of c.args.to.now) (list_of c.args.own.now) s is past

pub returns-clause-others : goal.returns-clause-others
returns-clause-others c =
    let new = datum_of c.exchange_part.new.value in
    (new, list_of-data_of (slice_set (list_of c.args.own.now) c.args.to.now.slot new))

pub returns-clause-exchanged : goal.returns-clause-exchanged
returns-clause-exchanged c s is =
    let slot = c.args.to.now.slot in
    let new = datum_of c.exchange_part.new.value in
    let frame = slice_set (list_of c.args.own.now) slot new in
    exchanges (target_of c.args.to.now) (record { slot = slot; path = path_of c.deref.result.now }) (datum_of c.args.value) s (list_of (data_of frame)) (datum_of c.part_mut.result.now) new
    c.exchange_part.result (ap (λ p. record { slot = slot; path = path_of p }) c.deref.ensures.value) (ap (λ xs. slice_get xs slot) is ∙ c.part_mut.ensures.value) c.exchange_part.ensures
    (list_of-data_of frame ∙ ap (λ xs. slice_set xs slot new) (sym is))
