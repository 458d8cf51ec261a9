use Rattle.std.proofs.Common.{◌≡◌, ℕ, List, ◌∷◌, [], ◌++◌, take, map, sym, ap, ◌∙◌}
use Rattle.std.proofs.lemmas.List.{map-append, take_all}
use Rattle.type_rules.specs.TopLevel.{TopName}
use Rattle.type_forms.specs.Seen.{top}
use Rattle.type_forms.specs.Parts.{parts_at}
use Rattle.type_forms.proofs.Loops.{mapped_more}
use Rattle.type_forms.proofs.parts.parts_of.Goals as goal

pub items-preserved : goal.items-preserved
items-preserved c = λ us x.
    let tops = c.tops-tops.result.now in
    let front = map top (take c.items.item-index tops) in
    (c.in_ok-push.ensures {u = tt}).items
    ∙ ap (λ (l : List (List ℕ)). l ++ c.new.result ∷ []) (c.items.invariant us x)
    ∙ ap (λ (v : List ℕ). map (parts_at us) front ++ v ∷ []) (c.new.ensures ∙ c.in_ok-own.ensures {u = tt} us x)
    ∙ sym (ap (map (parts_at us)) (mapped_more top tops c.items.item-index c.item-item.result c.items-test.true c.item-item.is)
    ∙ map-append (parts_at us) front (top c.item-item.result ∷ []))

pub returns : goal.returns
returns c = λ us x.
    c.items.invariant us x
    ∙ ap (λ l. map (parts_at us) (map top l)) (take_all c.items.item-index c.tops-tops.result.now c.items-test.false)
    ∙ ap (map (parts_at us)) (c.tops-tops.ensures us x)
