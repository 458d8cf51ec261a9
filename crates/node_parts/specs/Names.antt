-- A run by its name, which has the run's machine, its settings, and what its wires had told.
use Rattle.std.specs.Prelude.{List, [], Option, None, Some}
use Rattle.value_core.specs.Datum as datum
use Rattle.value_core.specs.Meaning.{Computes, Performs}
use Rattle.value_core.specs.declared.action.Class.TheVariants.{Writes}
use Rattle.value_core.specs.declared.meaning.Doing.TheVariants.{Busy}
use Rattle.value_core.specs.declared.meaning.Making.TheVariants as making
use Rattle.value_core.specs.declared.meaning.Tried.TheVariants as tried
use Rattle.net_rules.specs.declared.asked.Asked.{Asked}
use Rattle.net_rules.specs.declared.line.ScriptLine.{ScriptLine}
use Rattle.world_rules.specs.declared.settings.Settings.{Settings}
use Rattle.node_parts.specs.Runs.{Run}

-- P of the machine, where one is named
abbrev pub IfNamed : {M : Type 0} → Option M → (M → Type 0) → Type 0
IfNamed None P = ⊥
IfNamed (Some m) P = P m

-- what the machine means; where none is named, nothing happens
abbrev pub named_performs : {M : Type 0} → (M → Performs) → Option M → Performs
named_performs performs None =
    record { class_of = λ kind op. Writes; made = λ kind. making.Made datum.none; tries = λ kind op state args. tried.Blocked }
named_performs performs (Some m) = performs m

abbrev pub named_computes : {M : Type 0} → (M → Computes) → Option M → Computes
named_computes computes None = record { main = record { 0 = 0 }; doing = λ text number args replies turns. Busy }
named_computes computes (Some m) = computes m

-- the run of that machine
abbrev pub named_run : {M : Type 0} → (M → Performs) → (M → Computes) → Option M → Settings → List (List Asked) → List (List ScriptLine) →
    Run
named_run performs computes named settings told scripts = record {
  frame = record { performs = named_performs performs named; computes = named_computes computes named; settings = settings };
  told = told;
  scripts = scripts;
}

-- before a call picks them
abbrev pub some_settings : Settings
some_settings = record { nodes = 1; resilience = 0; turns = 1; events = 1; wires = 1; choices = [] }
