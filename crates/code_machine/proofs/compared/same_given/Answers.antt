use Rattle.std.proofs.Common.{◌≡◌, ◌<◌, length, map, sym, ◌∙◌, arith}
use Rattle.frame_variables.specs.Gives.{passed_of}
use Rattle.code_rules.specs.Machine.{lent}
use Rattle.code_machine.proofs.Alike.{map_twice, never, there_alike}
use Rattle.code_machine.proofs.compared.same_given.Goals as goal

pub returns-then-not-same_passed : goal.returns-then-not-same_passed
returns-then-not-same_passed c =
    let one = c.args.one.now in
    let other = c.args.other.now in
    let i = c.passed.place in
    let low : i < length one = c.passed-test.true in
    let size = c.if-one-other.false in
    let low' : i < length other = omega (arith, low, size) in
    never (map lent (map passed_of one) ≡ map lent (map passed_of other)) c.same_passed.result c.if-not-same_passed.true (λ same.
    c.same_passed.ensures.1 (there_alike (λ p. lent (passed_of p)) one other i c.index-one-place.result c.index-other-place.result low low' c.index-one-place.is c.index-other-place.is
    (sym (map_twice passed_of lent one) ∙ same ∙ map_twice passed_of lent other)))
