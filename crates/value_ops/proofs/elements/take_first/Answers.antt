use Rattle.std.proofs.Common.{ap, ◌∙◌, sym, subst}
use Rattle.std.specs.List.Sorted.{IsSorted, IsStrictlySortedBy}
use Rattle.value_core.specs.Datum.{data_of, list_of, data_of-list_of}
use Rattle.value_core.specs.Order.{datum_cmp}
use Rattle.value_ops.proofs.Members.{rest_removed}
use Rattle.value_ops.proofs.Soundness.{rest_rises, rest_sorted}
use Rattle.value_ops.proofs.elements.take_first.Goals as goal

pub returns-clause-rest : goal.returns-clause-rest
returns-clause-rest c = sym (data_of-list_of c.remove.new.self) ∙ ap data_of c.remove.ensures.new ∙ rest_removed c.args.all.now

pub returns-clause-sorted : goal.returns-clause-sorted
returns-clause-sorted c sorted =
    let left = sym (data_of-list_of c.remove.new.self) ∙ ap data_of c.remove.ensures.new ∙ rest_removed c.args.all.now in
    subst (λ w. IsSorted datum_cmp (list_of w)) (sym left) (rest_sorted c.args.all.now sorted)

pub returns-clause-rises : goal.returns-clause-rises
returns-clause-rises c rises =
    let left = sym (data_of-list_of c.remove.new.self) ∙ ap data_of c.remove.ensures.new ∙ rest_removed c.args.all.now in
    subst (λ w. IsStrictlySortedBy datum_cmp (list_of w)) (sym left) (rest_rises c.args.all.now rises)
