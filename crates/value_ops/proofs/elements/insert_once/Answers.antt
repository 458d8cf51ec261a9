use Rattle.std.proofs.Common.{◌≡◌, false, cond, ap, ◌∙◌, sym}
use Rattle.std.specs.Prelude.{insert}
use Rattle.std.proofs.lemmas.Result.{on_ok_weaker}
use Rattle.value_core.specs.Datum.{data_of, list_of, data_of-list_of}
use Rattle.value_core.specs.View.{datum_of}
use Rattle.value_ops.specs.Elements.{has, put_in}
use Rattle.value_ops.proofs.Soundness.{put_rising}
use Rattle.value_ops.proofs.elements.insert_once.Goals as goal

pub returns-clause-ok : goal.returns-clause-ok
returns-clause-ok c =
    let e = datum_of c.args.element in
    let xs = list_of c.args.all.now in
    let i = c.spot_of-spot.result.place in
    let gone : has e xs ≡ false = ap (has e) (sym c.as_slice.ensures) ∙ sym c.spot_of-spot.ensures.there ∙ c.if-spot.false in
    let put : put_in e xs ≡ insert xs i e = ap (put_in e) (sym c.as_slice.ensures) ∙ c.spot_of-spot.ensures.put ∙ ap (λ ys. insert ys i e) c.as_slice.ensures in
    on_ok_weaker c.insert.result
    (λ is. sym (data_of-list_of c.insert.new.self) ∙ ap data_of (is ∙ sym put) ∙ sym (ap (λ b. cond b c.args.all.now (data_of (put_in e xs))) gone))
    c.insert.ensures.ok

pub returns-clause-rises : goal.returns-clause-rises
returns-clause-rises c rises =
    let e = datum_of c.args.element in
    let xs = list_of c.args.all.now in
    let i = c.spot_of-spot.result.place in
    let gone : has e xs ≡ false = ap (has e) (sym c.as_slice.ensures) ∙ sym c.spot_of-spot.ensures.there ∙ c.if-spot.false in
    let put : put_in e xs ≡ insert xs i e = ap (put_in e) (sym c.as_slice.ensures) ∙ c.spot_of-spot.ensures.put ∙ ap (λ ys. insert ys i e) c.as_slice.ensures in
    put_rising c.insert.result c.args.all.now c.insert.new.self e gone
    (on_ok_weaker c.insert.result (λ is. sym (data_of-list_of c.insert.new.self) ∙ ap data_of (is ∙ sym put)) c.insert.ensures.ok) c.insert.ensures.err rises
