use Rattle.std.proofs.Common.{ℕ, ◌+◌, List, length, filter, map, take, sym, ap, ◌∙◌, arith}
use Rattle.std.proofs.lemmas.List.{take_all}
use Rattle.type_forms.specs.declared.tops.Top.{Top}
use Rattle.type_forms.specs.Seen.{top}
use Rattle.estimate_rules.specs.Routines.{is_routine}
use Rattle.access_estimates.proofs.Listing.{counted_more}
use Rattle.access_estimates.proofs.program.count_routines.Goals as goal

pub tops-preserved : goal.tops-preserved
tops-preserved c =
    let inv = c.tops.invariant in
    let i = c.tops.item-index in (
      ap (λ (k : ℕ). k + c.one_if_routine-count.result) inv.0
          ∙ ap (λ (k : ℕ). length (filter is_routine (map top (take i c.args.tops.now))) + k) c.one_if_routine-count.ensures.is
          ∙ sym (counted_more top is_routine c.args.tops.now i c.item-item.result c.tops-test.true c.item-item.is),
      omega (arith, inv.1, c.one_if_routine-count.ensures.small),
    )

pub returns : goal.returns
returns c =
    c.tops.invariant.0
    ∙ ap (λ (l : List Top). length (filter is_routine (map top l))) (take_all c.tops.item-index c.args.tops.now (omega (arith, c.tops-test.false)))
