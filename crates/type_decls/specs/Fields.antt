-- The fields of an implementation, as its operations see them.
use Rattle.std.specs.Prelude.{List, ℕ}
use Rattle.orca_syntax.specs.Syntax.{Variables}
use Rattle.link_rules.specs.Units.{Source}
use Rattle.type_rules.specs.Scopes.{texts}
use Rattle.type_rules.specs.Declarations.{field_locals, field_names}
use Rattle.type_decls.specs.declared.fields.Fields.{Fields}
use Rattle.type_decls.specs.Bodies.{AreLocals, AreNames}

-- these are the fields of an implementation in this module
pub record AreFields (us : List Source) (m : List ℕ) (fs : List Variables) (f : Fields) : Type 0 where
  pub names : AreNames f.names (texts (field_names fs))
  pub locals : AreLocals f.locals (field_locals us m fs)
