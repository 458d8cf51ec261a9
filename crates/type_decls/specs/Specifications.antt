-- The specification of an object type, by reference.
use Rattle.std.specs.Prelude.{map}
use Rattle.orca_syntax.specs.Shown.{head}
use Rattle.type_rules.specs.Scopes.{Heads}
use Rattle.type_decls.specs.declared.heads.Specified.{Specified}

abbrev pub heads_as : Specified → Heads
heads_as s = record { home = s.home.now; heads = map head s.heads.now }
