use Rattle.std.proofs.Common.{List, map, filter, sym, ap, subst, ◌∙◌, arith}
use Rattle.std.proofs.lemmas.List.{length-map, take_all}
use Rattle.type_rules.specs.TopLevel.{TopName}
use Rattle.meaning_rules.specs.Programs.{is_process}
use Rattle.type_forms.specs.Seen.{top}
use Rattle.program_tables.specs.Listed.{Lists}
use Rattle.program_tables.proofs.Listing.{passed_more}
use Rattle.program_tables.proofs.texts.texts_of.Goals as goal

pub tops-preserved : goal.tops-preserved
tops-preserved c =
    subst (λ (ts : List TopName). Lists ts c.add.new.texts)
    (sym (passed_more top (λ t. is_process t.what) c.tops-tops.result.now c.tops.item-index c.item-item.result c.tops-test.true c.item-item.is))
    ((c.in_ok-add.ensures {u = tt}) _ c.tops.invariant)

pub returns : goal.returns
returns c = λ us t.
    subst (λ (ts : List TopName). Lists ts c.tops.texts)
    (let long = length-map c.tops-tops.result.now top in
    ap (filter (λ t. is_process t.what)) (take_all c.tops.item-index (map top c.tops-tops.result.now) (omega (arith, long, c.tops-test.false)) ∙ c.tops-tops.ensures us t))
    c.tops.invariant
