use Rattle.std.proofs.Common.{List, Option, sym, ap, ◌∙◌, arith}
use Rattle.type_rules.specs.declared.names.Chain.{Chain}
use Rattle.type_forms.specs.Chains.{known, known_of}
use Rattle.type_forms.proofs.Settling.{none_is, one_fewer, right_more}
use Rattle.type_forms.proofs.chains.settle_one.Goals as goal

pub returns-in-Some-clause-right : goal.returns-in-Some-clause-right
returns-in-Some-clause-right c = λ us x right.
    right_more us c.args.memo.now.items c.args.number c.link_at-link.result c.in-Some.chain right (c.link_at-link.ensures us x)
    (ap (λ (m : List (Option Chain)). known m c.args.number) (sym c.deref.ensures.value) ∙ sym c.known.ensures ∙ none_is c.known.result (sym c.is_some.ensures ∙ c.if-is_some.false))
    (omega (arith, c.if-number-len.false, c.len.ensures))
    (ap (λ (m : List (Option Chain)). known_of m c.link_at-link.result) (sym c.deref-2.ensures.value) ∙ sym c.known_of.ensures ∙ c.in-Some.is)

pub returns-in-Some-clause-fewer : goal.returns-in-Some-clause-fewer
returns-in-Some-clause-fewer c = λ _.
    let fewer = one_fewer c.args.memo.now.items c.args.number c.in-Some.chain (omega (arith, c.if-number-len.false, c.len.ensures))
    (ap (λ (m : List (Option Chain)). known m c.args.number) (sym c.deref.ensures.value) ∙ sym c.known.ensures ∙ none_is c.known.result (sym c.is_some.ensures ∙ c.if-is_some.false))
    in omega (arith, fewer)
