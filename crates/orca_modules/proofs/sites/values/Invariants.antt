use Rattle.std.proofs.Common.{◌≡◌, ◌++◌, drop, map}
use Rattle.link_rules.specs.declared.role.Role.TheVariants.{Other}
use Rattle.link_rules.specs.Units.{defined}
use Rattle.orca_modules.specs.Seen.{definition}
use Rattle.orca_modules.proofs.sites.values.Given as goal

abbrev pub invariant-values : goal.invariant-values
invariant-values l =
    map definition l.all.items ++ map (defined l.by l.file Other) (drop l.name-index l.names)
    ≡ map definition l.initial.all.items ++ map (defined l.by l.file Other) l.names
