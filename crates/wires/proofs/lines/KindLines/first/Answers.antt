use Rattle.std.proofs.Common.{ap₂, sym, ◌∙◌}
use Rattle.wires.specs.Index.{lesser, says_fate, says_of_all, says_of_one}
use Rattle.wires.proofs.Deciding.{says_split}
use Rattle.wires.proofs.Firsts.{first_or, first_same}
use Rattle.wires.proofs.lines.KindLines.first.Goals as goal

pub returns : goal.returns
returns c wanted lines is =
    let n = c.args.number in
    c.earlier.ensures ∙ ap₂ lesser is.all (c.copied.ensures ∙ c.get.ensures.value ∙ is.numbered n)
    ∙ sym (first_or (says_of_all wanted) (says_of_one wanted n) 0 lines) ∙ sym (first_same (says_fate wanted n) _ 0 lines (says_split wanted n))
