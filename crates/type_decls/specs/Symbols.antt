-- The tables of a program's declarations.
use Rattle.std.specs.Prelude.{◌≡◌, List}
use Rattle.link_rules.specs.Units.{Source}
use Rattle.type_rules.specs.declared.names.Predeclared.TheVariants as predeclared
use Rattle.type_rules.specs.Expressions.{AGraphFunction, predeclared_function}
use Rattle.type_forms.specs.Indexed.{Indexes}
use Rattle.type_forms.specs.Chains.{AreChains}
use Rattle.type_forms.specs.Settled.{AreTypes}
use Rattle.type_tables.specs.Tables.{AreFields, AreOperations, AreSignatures}
use Rattle.type_decls.specs.declared.symbols.Symbols.{Symbols}

-- each table is what the definitions say of these sources
pub record AreSymbols (us : List Source) (s : Symbols) : Type 0 where
  pub names : Indexes s.index us
  pub constants : AreChains us s.chains.items
  pub types : AreTypes us s.types.items
  pub signatures : AreSignatures us s.signatures.items
  pub fields : AreFields us s.fields.items
  pub operations : AreOperations us s.operations.items
  pub add_node : AGraphFunction s.add_node ≡ predeclared_function predeclared.AddNode
  pub delete_node : AGraphFunction s.delete_node ≡ predeclared_function predeclared.DeleteNode
