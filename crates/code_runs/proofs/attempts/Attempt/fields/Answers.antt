use Rattle.std.proofs.Common.{◌≡◌, ◌+◌, ◌++◌, List, map, take, drop, sym, ap, ◌∙◌, arith}
use Rattle.std.proofs.lemmas.List.{length-map}
use Rattle.value_core.specs.Datum.{Datum, data_of, data_of-list_of, list_of}
use Rattle.value_core.specs.View.{datum_of}
use Rattle.value_core.specs.declared.value.Value.{Value}
use Rattle.code_runs.specs.Attempts.{attempt_seen}
use Rattle.code_runs.proofs.Filling.{fields_left, names_many}
use Rattle.code_runs.proofs.attempts.Attempt.fields.Goals as goal

pub returns : goal.returns
returns c =
    let me = c.args.self in
    let a = attempt_seen me in
    let opens = me.part.now.opens.items in
    let args = list_of me.args.now in
    let state = list_of me.state.now in
    let count = c.len-3.result in
    let own = c.len.result + c.len-2.result in
    let values = c.into_vec-values.result.items in
    let opened = length-map opens datum_of in
    let same : own ≡ a.own = omega (arith, c.len.ensures.len, c.len-2.ensures, opened) in
    let many : a.names ≡ a.own + count = names_many args (map datum_of opens) state count c.len-3.ensures.len in
    let front = c.values_in_front.ensures ∙ ap (take count) (c.values_behind-behind.ensures ∙ ap (λ (l : List Value). drop own l) c.deref.ensures.value) in
    let copied = c.in_ok-add_copies.ensures {u = tt} ∙ ap (λ (l : List Datum). l ++ map datum_of c.values_in_front.result.now) c.new-fields.ensures ∙ ap (map datum_of) front in
    sym (data_of-list_of c.add_copies.new.all)
    ∙ ap data_of (fields_left own a.own count a.names values c.args.frame (list_of c.add_copies.new.all) same many (c.into_vec-values.ensures ∙ c.in_ok-into_values.ensures {u = tt}) copied)
