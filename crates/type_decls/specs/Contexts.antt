-- What declarations are judged with.
use Rattle.std.specs.Prelude.{◌≡◌, ℕ, List, false, Some}
use Rattle.link_rules.specs.Units.{Source}
use Rattle.type_rules.specs.declared.types.Base.TheVariants.{Integer}
use Rattle.type_rules.specs.Types.{plain}
use Rattle.type_rules.specs.declared.names.LocalRole.TheVariants.{LoopVariable}
use Rattle.type_forms.specs.Seen.{has}
use Rattle.type_cycles.specs.Leading.{AreRound}
use Rattle.type_tables.specs.Tables.{AreTables}
use Rattle.type_exprs.specs.Scoped.{local_as}
use Rattle.type_decls.specs.declared.context.Context.{Context}

-- the tables are those of these sources, and so are the types that hold themselves
pub record IsContext (us : List Source) (c : Context) : Type 0 where
  pub tables : AreTables us c.tables
  pub rounds : AreRound us c.rounds.now
  pub none : (n : List ℕ) → has c.none.now n ≡ false
  pub counter : (n : List ℕ) → local_as n c.counter.now ≡ record { name = n; role = LoopVariable; type = Some (plain Integer) }
