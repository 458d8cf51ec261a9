use Rattle.std.proofs.Common.{◌≡◌, ap, ◌∙◌, sym}
use Rattle.std.specs.Prelude.{insert}
use Rattle.std.proofs.lemmas.Result.{on_ok_weaker}
use Rattle.value_core.specs.Datum.{data_of, list_of, data_of-list_of}
use Rattle.value_core.specs.View.{datum_of}
use Rattle.value_ops.specs.Elements.{put_in}
use Rattle.value_ops.proofs.Soundness.{put_sorted}
use Rattle.value_ops.proofs.elements.insert_again.Goals as goal

pub returns-clause-ok : goal.returns-clause-ok
returns-clause-ok c =
    let e = datum_of c.args.element in
    let i = c.spot_of-spot.result.place in
    let put : put_in e (list_of c.args.all.now) ≡ insert (list_of c.args.all.now) i e =
    ap (put_in e) (sym c.as_slice.ensures) ∙ c.spot_of-spot.ensures.put ∙ ap (λ xs. insert xs i e) c.as_slice.ensures in
    on_ok_weaker c.insert.result (λ is. sym (data_of-list_of c.insert.new.self) ∙ ap data_of (is ∙ sym put)) c.insert.ensures.ok

pub returns-clause-sorted : goal.returns-clause-sorted
returns-clause-sorted c =
    let e = datum_of c.args.element in
    let i = c.spot_of-spot.result.place in
    let put : put_in e (list_of c.args.all.now) ≡ insert (list_of c.args.all.now) i e =
    ap (put_in e) (sym c.as_slice.ensures) ∙ c.spot_of-spot.ensures.put ∙ ap (λ xs. insert xs i e) c.as_slice.ensures in
    put_sorted c.insert.result c.args.all.now c.insert.new.self e
    (on_ok_weaker c.insert.result (λ is. sym (data_of-list_of c.insert.new.self) ∙ ap data_of (is ∙ sym put)) c.insert.ensures.ok) c.insert.ensures.err c.requires
