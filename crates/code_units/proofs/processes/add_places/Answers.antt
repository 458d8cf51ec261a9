use Rattle.std.proofs.Common.{◌+◌, List, [], ◌∷◌, ◌++◌, drop, map, sym, ap, ◌∙◌}
use Rattle.std.proofs.lemmas.List.{append-nil, drop_all}
use Rattle.orca_base.specs.declared.place.Place.{Place}
use Rattle.orca_tree.specs.declared.tree.Name.{Name}
use Rattle.type_forms.proofs.Loops.{appended, rest_is}
use Rattle.code_units.proofs.processes.add_places.Goals as goal

abbrev at_all : List Name → List Place
at_all names = map (λ (n : Name). n.at) names

pub names-preserved : goal.names-preserved
names-preserved c =
    appended c.names.places.items _ (c.name-item.result.at ∷ []) (at_all (drop (c.names.name-index + 1) c.args.names.now)) _ _
    c.in_ok-push.ensures.items
    (ap at_all (rest_is c.args.names.now c.names.name-index c.name-item.result c.names-test.true c.name-item.is))
    c.names.invariant

pub returns : goal.returns
returns c =
    let places = c.names.places.items in
    sym (append-nil places)
    ∙ ap (λ (l : List Name). places ++ at_all l) (sym (drop_all c.names.name-index c.args.names.now c.names-test.false))
    ∙ c.names.invariant
