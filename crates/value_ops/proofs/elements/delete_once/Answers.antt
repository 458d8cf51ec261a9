use Rattle.std.proofs.Common.{◌≡◌, false, ap, ◌∙◌, sym, subst}
use Rattle.std.specs.Prelude.{remove}
use Rattle.std.specs.List.Sorted.{IsSorted, IsStrictlySortedBy}
use Rattle.value_core.specs.Datum.{data_of, list_of, data_of-list_of}
use Rattle.value_core.specs.Order.{datum_cmp}
use Rattle.value_core.specs.View.{datum_of}
use Rattle.value_ops.specs.Elements.{has, without}
use Rattle.value_ops.proofs.Members.{without_none}
use Rattle.value_ops.proofs.Soundness.{bag_without, set_without}
use Rattle.value_ops.proofs.elements.delete_once.Goals as goal

pub returns-then-spot : goal.returns-then-spot
returns-then-spot c =
    let e = datum_of c.args.element.now in
    let i = c.spot_of-spot.result.place in
    let taken : without e (list_of c.args.all.now) ≡ remove (list_of c.args.all.now) i =
    ap (without e) (sym c.as_slice.ensures) ∙ c.spot_of-spot.ensures.taken c.if-spot.true ∙ ap (λ xs. remove xs i) c.as_slice.ensures in
    let left = sym (data_of-list_of c.remove.new.self) ∙ ap data_of (c.remove.ensures.new ∙ sym taken) in
    record {
      left = left;
      sorted = subst (λ w. IsSorted datum_cmp (list_of w)) (sym left) (bag_without e c.args.all.now c.requires);
      rises = λ rises. subst (λ w. IsStrictlySortedBy datum_cmp (list_of w)) (sym left) (set_without e c.args.all.now rises);
    }

pub returns-else-spot : goal.returns-else-spot
returns-else-spot c =
    let e = datum_of c.args.element.now in
    let gone : has e (list_of c.args.all.now) ≡ false = ap (has e) (sym c.as_slice.ensures) ∙ sym c.spot_of-spot.ensures.there ∙ c.if-spot.false in
    record {
      left = sym (data_of-list_of c.args.all.now) ∙ ap data_of (sym (without_none e (list_of c.args.all.now) gone));
      sorted = c.requires;
      rises = λ rises. rises;
    }
