use Rattle.std.proofs.Common.{◌≡◌, ℕ, ◌<◌, ◌+◌, List, ◌++◌, length, get_or, drop, map, sym, ap, ◌∙◌, append_assoc}
use Rattle.std.proofs.lemmas.List.{drop_more}
use Rattle.link_rules.specs.declared.named_unit.NamedUnit.{NamedUnit}
use Rattle.link_rules.specs.Units.{Defined, definitions, definitions_of, source}
use Rattle.orca_modules.specs.Seen.{definition}
use Rattle.orca_modules.proofs.sites.definitions.Goals as goal

next : (us : List NamedUnit) (i : ℕ) (d : NamedUnit) → i < length us → d ≡ get_or us i d →
    definitions (map source (drop i us)) ≡ definitions_of (source d) ++ definitions (map source (drop (i + 1) us))
next us i d lt is =
    ap (λ (l : List NamedUnit). definitions (map source l)) (drop_more us i d lt)
    ∙ ap (λ (v : NamedUnit). definitions_of (source v) ++ definitions (map source (drop (i + 1) us))) (sym is)

pub units-preserved : goal.units-preserved
units-preserved c =
    let rest = definitions (map source (drop (c.units.unit-index + 1) c.args.units.now)) in
    let front = map definition c.units.all.items in
    ap (λ (l : List Defined). l ++ rest) c.in_ok-unit_definitions.ensures
    ∙ append_assoc front (definitions_of (source c.unit-item.result)) rest
    ∙ ap (λ (l : List Defined). front ++ l) (sym (next c.args.units.now c.units.unit-index c.unit-item.result c.units-test.true c.unit-item.is))
    ∙ c.units.invariant
