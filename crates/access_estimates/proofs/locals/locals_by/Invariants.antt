use Rattle.std.proofs.Common.{◌≡◌, List, map, take}
use Rattle.type_rules.specs.Scopes.{Local}
use Rattle.type_forms.specs.Seen.{lent}
use Rattle.type_decls.specs.Bodies.{AreLocals}
use Rattle.access_estimates.specs.Locals.{locals_seen}
use Rattle.access_estimates.specs.Collected.{named_in}
use Rattle.access_estimates.proofs.locals.locals_by.Given as goal

abbrev pub invariant-names : goal.invariant-names
invariant-names l = (ls : List Local) → AreLocals l.locals ls → locals_seen l.all.items ≡ map (named_in ls) (lent (take l.name-index l.names))
