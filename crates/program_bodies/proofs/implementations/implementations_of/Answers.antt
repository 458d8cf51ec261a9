use Rattle.std.proofs.Common.{List, Option, None, map, take, sym, ap, ◌∙◌, arith}
use Rattle.std.specs.Prelude.{flat_map}
use Rattle.std.proofs.lemmas.List.{take_all}
use Rattle.link_rules.specs.declared.named_unit.NamedUnit.{NamedUnit}
use Rattle.link_rules.specs.Declarations.{Declared, declarations_of}
use Rattle.link_rules.specs.Units.{source}
use Rattle.meaning_rules.specs.Programs.{ObjectType, implements}
use Rattle.program_bodies.proofs.FirstGiven.{first_given, given_further}
use Rattle.program_bodies.proofs.OneMore.{group_more}
use Rattle.program_bodies.proofs.implementations.implementations_of.Goals as goal

pub units-preserved : goal.units-preserved
units-preserved c = λ n.
    let f : Declared → Option ObjectType = λ y. implements n y.by y.decl in
    let i = c.units.unit-index in
    let x = c.unit-item.result in
    given_further f (flat_map declarations_of (map source (take i c.args.units.now))) (declarations_of (source x)) None _ _ (c.units.invariant n) ((c.in_ok-note_unit.ensures {u = tt}) n)
    ∙ ap (first_given f) (sym (group_more source declarations_of c.args.units.now i x c.units-test.true c.unit-item.is))

pub returns : goal.returns
returns c = λ n.
    c.units.invariant n
    ∙ ap (λ (l : List NamedUnit). first_given (λ (y : Declared). implements n y.by y.decl) (flat_map declarations_of (map source l)))
    (take_all c.units.unit-index c.args.units.now (omega (arith, c.units-test.false)))
