use Rattle.std.proofs.Common.{◌≡◌, Some, ◌∙◌, subst}
use Rattle.orca_tree.specs.declared.tree.Expression.{Expression}
use Rattle.orca_tree.specs.Marks.{expression}
use Rattle.orca_tree.specs.Places.{first_place}
use Rattle.orca_tree.proofs.FirstPlaces.{chain_place}
use Rattle.orca_tree.proofs.tree.Expression.+place.Goals as goal

pub returns-in-Chain : goal.returns-in-Chain
returns-in-Chain t c =
    chain_place c.args.self.now c.in-Chain.first c.in-Chain.links _ c.in-Chain.is
    ∙ subst (λ (e : Expression). first_place (expression e) ≡ Some c.place.result) c.deref.ensures c.place.ensures
