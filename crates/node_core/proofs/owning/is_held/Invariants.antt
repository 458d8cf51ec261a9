use Rattle.std.proofs.Common.{◌≡◌, drop, map}
use Rattle.world_rules.specs.Owners.{is_held}
use Rattle.node_parts.specs.Shown.{on_errand}
use Rattle.node_core.proofs.owning.is_held.Given as goal

-- what is asked of all is asked of those that are left
abbrev pub invariant-errands : goal.invariant-errands
invariant-errands l = is_held (on_errand l.errand) (map on_errand (drop l.other-index l.held)) ≡ is_held (on_errand l.errand) (map on_errand l.held)
