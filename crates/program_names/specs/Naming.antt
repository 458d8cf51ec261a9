-- The names of a program, by the numbers by which its histories go: of object types with the output object's first, of the operations of
-- each, and of the texts of processes (docs/FORMATS.md, Histories).
use Rattle.std.specs.Prelude.{◌≡◌, ℕ, List, [], ◌∷◌, map, codes, slice_get, Some}
use Rattle.std.specs.List.{All}
use Rattle.orca_base.specs.declared.ids.KindNo.{KindNo}
use Rattle.orca_base.specs.declared.ids.ObjectId.{ObjectId}
use Rattle.orca_base.specs.declared.ids.OpNo.{OpNo}
use Rattle.orca_base.specs.declared.ids.ProcessNo.{ProcessNo}
use Rattle.link_rules.specs.Units.{Source}
use Rattle.type_rules.specs.TopLevel as top
use Rattle.type_rules.specs.TopLevel.{What, TopName}
use Rattle.value_core.specs.Datum.{Data}
use Rattle.value_core.specs.History.{Legal, Process, processes_of}
use Rattle.value_core.specs.Lawful.{next_of}
use Rattle.value_core.specs.declared.action.Action.TheVariants as action
use Rattle.value_core.specs.declared.action.Line.{Line}
use Rattle.value_core.specs.declared.meaning.Doing.TheVariants as doing
use Rattle.meaning_rules.specs.Meanings.{computes_of, performs_of}
use Rattle.meaning_rules.specs.Programs.{process_texts, specifications}
use Rattle.history_text.specs.Sound.{HasNames}
use Rattle.history_text.specs.declared.names.Names.{Names}

abbrev pub name_text : TopName → List ℕ
name_text t = t.defined.name.text

-- the operations of a specification, in the order of its heads
abbrev pub head_names : What → List (List ℕ)
head_names (top.Specified heads) = map (λ h. h.name.text) heads
head_names _ = []

abbrev pub operation_texts : TopName → List (List ℕ)
operation_texts t = head_names t.what

-- these are the names of the program with these sources
pub record AreNamesOf (us : List Source) (names : Names) : Type 0 where
  pub kinds : names.kinds.items ≡ codes "Output" ∷ map name_text (specifications us)
  pub operations : map (λ o. o.names.items) names.operations.items ≡ (codes "WriteLine" ∷ []) ∷ map operation_texts (specifications us)
  pub texts : names.texts.items ≡ map name_text (process_texts us)

-- each line of each history has its names there
abbrev pub HistoriesNamed : List Source → Names → Type 0
HistoriesNamed us names = (lines : List Line) → Legal (performs_of us) (computes_of us) lines → All (λ l. HasNames names l.action) lines

-- and so has each call that is a process's next action after a history, also one that can't be performed yet
abbrev pub CallsNamed : List Source → Names → Type 0
CallsNamed us names =
    (lines : List Line) → Legal (performs_of us) (computes_of us) lines →
    (number : ProcessNo) (x : Process) (kind : KindNo) (op : OpNo) (object : ObjectId) (args : Data) →
    slice_get (processes_of (performs_of us) (computes_of us) lines) number.0 ≡ Some x →
    next_of (computes_of us) x.text number x.args x.replies ≡ doing.At (action.Call kind op object args) →
    HasNames names (action.Call kind op object args)
