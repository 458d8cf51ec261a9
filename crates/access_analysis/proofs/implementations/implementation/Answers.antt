use Rattle.std.proofs.Common.{◌+◌, List, drop, map, Option, sym, ap, ◌∙◌}
use Rattle.std.specs.Prelude.{flat_map}
use Rattle.std.proofs.Math.ListN.{drop_of_length-le}
use Rattle.link_rules.specs.declared.named_unit.NamedUnit.{NamedUnit}
use Rattle.link_rules.specs.Declarations.{Declared, declarations_of}
use Rattle.link_rules.specs.Units.{source}
use Rattle.type_forms.proofs.Loops.{rest_is}
use Rattle.meaning_rules.specs.Programs.{ObjectType, implements}
use Rattle.program_bodies.specs.Objects.{object_type_seen}
use Rattle.program_bodies.proofs.FirstGiven.{first_given}
use Rattle.access_analysis.proofs.FirstHere.{give_none, give_one}
use Rattle.access_analysis.proofs.implementations.implementation.Goals as goal

pub units-preserved : goal.units-preserved
units-preserved c =
    let f : Declared → Option ObjectType = λ y. implements c.args.sought.now y.by y.decl in
    let us = c.args.units.now in
    let i = c.units.unit-index in
    let x = c.unit-item.result in
    give_none object_type_seen f (declarations_of (source x)) (flat_map declarations_of (map source (drop (i + 1) us))) c.in_unit-own.result
    (first_given f (flat_map declarations_of (map source us))) (sym c.is_some.ensures ∙ c.if-is_some.false) c.in_unit-own.ensures
    (ap (λ (l : List NamedUnit). first_given f (flat_map declarations_of (map source l))) (sym (rest_is us i x c.units-test.true c.unit-item.is)) ∙ c.units.invariant)

pub returns-then-is_some : goal.returns-then-is_some
returns-then-is_some c =
    let f : Declared → Option ObjectType = λ y. implements c.args.sought.now y.by y.decl in
    let us = c.args.units.now in
    let i = c.units.unit-index in
    let x = c.unit-item.result in
    give_one object_type_seen f (declarations_of (source x)) (flat_map declarations_of (map source (drop (i + 1) us))) c.in_unit-own.result
    (first_given f (flat_map declarations_of (map source us))) (sym c.is_some.ensures ∙ c.if-is_some.true) c.in_unit-own.ensures
    (ap (λ (l : List NamedUnit). first_given f (flat_map declarations_of (map source l))) (sym (rest_is us i x c.units-test.true c.unit-item.is)) ∙ c.units.invariant)

pub returns : goal.returns
returns c =
    let f : Declared → Option ObjectType = λ y. implements c.args.sought.now y.by y.decl in
    ap (λ (l : List NamedUnit). first_given f (flat_map declarations_of (map source l))) (sym (drop_of_length-le c.args.units.now c.units-test.false))
    ∙ c.units.invariant
