use Rattle.std.proofs.Common.{◌+◌, List, ◌++◌, drop, map, sym, ap, ◌∙◌}
use Rattle.std.specs.Prelude.{flat_map}
use Rattle.std.proofs.lemmas.List.{append-nil, drop_all}
use Rattle.orca_base.specs.declared.place.Place.{Place}
use Rattle.orca_tree.specs.declared.tree.Name.{Name}
use Rattle.orca_tree.specs.declared.tree.Variables.{Variables}
use Rattle.type_forms.proofs.Loops.{appended, rest_is}
use Rattle.code_units.proofs.processes.declared_at.Goals as goal

abbrev at_all : List Name → List Place
at_all names = map (λ (n : Name). n.at) names

abbrev at_each : List Variables → List Place
at_each groups = flat_map (λ (own : Variables). at_all own.names.items) groups

pub groups-preserved : goal.groups-preserved
groups-preserved c =
    let places = c.groups.places.items in
    let own = c.own-item.result in
    appended places _ (at_all own.names.items) (at_each (drop (c.groups.own-index + 1) c.args.variables.now)) _ _
    (c.in_ok-add_places.ensures ∙ ap (λ (names : List Name). places ++ at_all names) c.deref.ensures.value)
    (ap at_each (rest_is c.args.variables.now c.groups.own-index own c.groups-test.true c.own-item.is))
    c.groups.invariant

pub returns : goal.returns
returns c =
    let places = c.groups.places.items in
    sym (append-nil places)
    ∙ ap (λ (l : List Variables). places ++ at_each l) (sym (drop_all c.groups.own-index c.args.variables.now c.groups-test.false))
    ∙ c.groups.invariant
