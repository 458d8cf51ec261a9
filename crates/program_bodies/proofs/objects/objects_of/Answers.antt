use Rattle.std.proofs.Common.{List, Option, map, subst, ap, arith}
use Rattle.std.proofs.lemmas.List.{take_all}
use Rattle.type_rules.specs.TopLevel.{TopName}
use Rattle.type_forms.specs.Seen.{top}
use Rattle.meaning_rules.specs.Programs.{ObjectType, specified}
use Rattle.program_bodies.specs.Matching.{Both, Match}
use Rattle.program_bodies.specs.Objects.{IsObjectCode}
use Rattle.program_bodies.proofs.Matched.{match_more}
use Rattle.program_bodies.proofs.objects.objects_of.Goals as goal

pub specifications-preserved : goal.specifications-preserved
specifications-preserved c = λ us t are.
    let x = c.item-item.result in
    match_more (λ o u. Both (IsObjectCode us) o (specified us u)) top c.args.specifications.now c.specifications.item-index x c.specifications.all.items _
    c.in_ok-own.own c.specifications-test.true c.item-item.is c.in_ok-push.ensures.items (c.specifications.invariant us t are)
    (subst (λ (o : Option ObjectType). Both (IsObjectCode us) c.in_ok-own.own o) (are x.name.now) ((c.in_ok-own.ensures {u = tt}) us t))

pub returns : goal.returns
returns c = λ us t are.
    subst (λ (l : List TopName). Match (λ o u. Both (IsObjectCode us) o (specified us u)) c.specifications.all.items l)
    (ap (map top) (take_all c.specifications.item-index c.args.specifications.now (omega (arith, c.specifications-test.false))))
    (c.specifications.invariant us t are)
