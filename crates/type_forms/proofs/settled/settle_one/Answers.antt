use Rattle.std.proofs.Common.{Bool, List, Option, sym, ap, ◌∙◌, arith}
use Rattle.std.specs.Prelude.{slice_get}
use Rattle.std.specs.List.{list_all}
use Rattle.type_rules.specs.declared.types.Measured.{Measured}
use Rattle.type_rules.specs.TopLevel.{top_names}
use Rattle.type_rules.specs.TypePhrases.{declared_top, parts_of}
use Rattle.type_forms.specs.Measures.{declared_in}
use Rattle.type_forms.specs.Settled.{is_settled}
use Rattle.type_forms.proofs.SettledTypes.{one_fewer, parts_are, settled_more}
use Rattle.type_forms.proofs.settled.settle_one.Goals as goal

pub returns-clause-right : goal.returns-clause-right
returns-clause-right c = λ us k s.
    let next = c.if-not-is_next.false in
    settled_more us c.args.types.now.items c.args.settled.now.items c.args.number c.in_ok-kind.kind s
    (omega (arith, c.if-number-len.false, c.len.ensures))
    (ap (λ (l : List Bool). is_settled l c.args.number) (sym c.deref.ensures.value) ∙ c.is_next.ensures.next next)
    (ap (λ (l : List Bool). list_all (is_settled l) (parts_of us c.args.number)) (sym c.deref.ensures.value)
    ∙ ap (list_all (is_settled c.deref.result.now)) (sym (parts_are us c.args.known.parts.now c.args.number k.parts))
    ∙ c.is_next.ensures.parts next)
    ((c.in_ok-kind.ensures {u = tt}) us k
    ∙ ap (λ (l : List (Option Measured)). declared_top (declared_in l) us c.args.number (slice_get (top_names us) c.args.number)) c.deref-2.ensures.value)

pub returns-clause-fewer : goal.returns-clause-fewer
returns-clause-fewer c = λ _.
    let fewer = one_fewer c.args.settled.now.items c.args.number (omega (arith, c.if-number-len.false, c.len.ensures))
    (ap (λ (l : List Bool). is_settled l c.args.number) (sym c.deref.ensures.value) ∙ c.is_next.ensures.next c.if-not-is_next.false)
    in omega (arith, fewer)
