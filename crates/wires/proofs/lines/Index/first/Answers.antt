use Rattle.std.proofs.Common.{◌+◌, Some, None, ap, ap₂, sym, subst, ◌∙◌}
use Rattle.std.specs.Prelude.{slice_index}
use Rattle.net_rules.specs.declared.line.Kinds.TheVariants.{Any, Only}
use Rattle.net_rules.specs.Asked.{count, kind_number}
use Rattle.net_rules.specs.Script.{decides}
use Rattle.wires.specs.declared.lines.KindLines.{KindLines}
use Rattle.wires.specs.Index.{IsKindLines, first_from, lesser, says_fate}
use Rattle.wires.proofs.Deciding.{decides_split, next_number}
use Rattle.wires.proofs.Firsts.{first_or, first_same}
use Rattle.wires.proofs.lines.Index.first.Goals as goal

pub returns : goal.returns
returns c lines asked few index are =
    let kind = c.args.kind in
    let n = c.number_of_kind-number.result in
    let is = c.number_of_kind-number.ensures.is in
    let kept = index.kinds n c.index.result.now c.number_of_kind-number.ensures.within in
    let P : KindLines → Type 0 = λ k. IsKindLines (Some n) 0 lines k in
    let of_kind = c.first-of_kind.ensures (Some n) lines (subst P (sym c.index.ensures) kept) in
    let of_any = c.first-of_any.ensures None lines index.any in
    let next = next_number (Only kind) asked (slice_index c.args.counts.now.kinds n) c.saturating_add.result few (ap (λ k. slice_index c.args.counts.now.kinds k) is ∙ are.kinds kind) c.saturating_add.ensures in
    let next_any = next_number Any asked c.args.counts.now.all c.saturating_add-2.result few are.all c.saturating_add-2.ensures in
    c.earlier.ensures
    ∙ ap₂ lesser (of_kind ∙ ap₂ (λ k m. first_from (says_fate (Some k) m) 0 lines) is next) (of_any ∙ ap (λ m. first_from (says_fate None m) 0 lines) next_any)
    ∙ sym (first_or (says_fate (Some (kind_number kind)) (count (Only kind) asked + 1)) (says_fate None (count Any asked + 1)) 0 lines)
    ∙ sym (first_same (decides asked kind) _ 0 lines (decides_split asked kind))
