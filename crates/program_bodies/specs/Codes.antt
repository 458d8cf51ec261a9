-- What code has of a program: each table by the meaning's own definition.
use Rattle.std.specs.Prelude.{◌≡◌, ◌<◌, ◌^◌, ℕ, List, map, slice_get, Some}
use Rattle.link_rules.specs.Units.{Source, source}
use Rattle.type_rules.specs.declared.types.Base.TheVariants.{Integer}
use Rattle.type_rules.specs.declared.names.LocalRole.TheVariants.{LoopVariable}
use Rattle.type_rules.specs.Types.{plain}
use Rattle.type_rules.specs.TopLevel as top
use Rattle.type_rules.specs.TopLevel.{TopName, top_names}
use Rattle.type_rules.specs.Scopes.{Local}
use Rattle.type_exprs.specs.Scoped.{local_as}
use Rattle.type_decls.specs.declared.checked.Checked.{Checked}
use Rattle.type_decls.specs.Symbols.{AreSymbols}
use Rattle.meaning_rules.specs.Programs.{process_texts, specifications, specified}
use Rattle.program_tables.specs.Tables.{IsTables}
use Rattle.program_bodies.specs.declared.code.Code.{Code}
use Rattle.program_bodies.specs.Blocks.{IsBlockCode, function_of, process_of}
use Rattle.program_bodies.specs.Matching.{Both, Match}
use Rattle.program_bodies.specs.Objects.{IsObjectCode}

-- the sources of a program
abbrev pub sources : Checked → List Source
sources c = map source c.program.now.units.items

-- numbers of an enumeration's values have 16 bits
abbrev pub AreFew : List Source → Type 0
AreFew us = (i : ℕ) (t : TopName) (of : List ℕ) (number : ℕ) → slice_get (top_names us) i ≡ Some t → t.what ≡ top.Value of number →
    number < 2 ^ 16

-- the variable of a loop
abbrev pub loop_local : List ℕ → Local
loop_local n = record { name = n; role = LoopVariable; type = Some (plain Integer) }

-- this is the code of these sources
pub record IsCode (us : List Source) (c : Code) : Type 0 where
  pub symbols : AreSymbols us c.checked.symbols
  pub tables : IsTables us c.tables
  pub few : AreFew us
  pub counter : (n : List ℕ) → local_as n c.counter ≡ loop_local n
  pub functions : Match (λ f t. Both IsBlockCode f (function_of us t)) c.functions.items (top_names us)
  pub processes : Match (λ p t. Both IsBlockCode p (process_of us t)) c.processes.items (process_texts us)
  pub objects : Match (λ o t. Both (IsObjectCode us) o (specified us t)) c.objects.items (specifications us)
