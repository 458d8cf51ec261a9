use Rattle.std.proofs.Common.{List, map, subst, ap, ◌∙◌, arith}
use Rattle.std.proofs.lemmas.List.{take_all}
use Rattle.type_rules.specs.TopLevel.{TopName}
use Rattle.type_forms.specs.Seen.{top}
use Rattle.program_bodies.specs.Blocks.{IsBlockCode, function_of}
use Rattle.program_bodies.specs.Matching.{Both, Match}
use Rattle.program_bodies.proofs.Matched.{match_more}
use Rattle.program_bodies.proofs.blocks.functions_of.Goals as goal

pub tops-preserved : goal.tops-preserved
tops-preserved c = λ us t.
    match_more (λ f u. Both IsBlockCode f (function_of us u)) top c.tops-tops.result.now c.tops.item-index c.item-item.result c.tops.all.items _ c.in_ok-own.own
    c.tops-test.true c.item-item.is c.in_ok-push.ensures.items (c.tops.invariant us t) ((c.in_ok-own.ensures {u = tt}) us t)

pub returns : goal.returns
returns c = λ us t.
    subst (λ (l : List TopName). Match (λ f u. Both IsBlockCode f (function_of us u)) c.tops.all.items l)
    (ap (map top) (take_all c.tops.item-index c.tops-tops.result.now (omega (arith, c.tops-test.false))) ∙ c.tops-tops.ensures us t.forms.names)
    (c.tops.invariant us t)
