-- Where single copies come from: each is made by the entry at its place, of a process at its owner; and each entry whose making gives a
-- single object has its copy.
use Rattle.std.specs.Prelude.{◌≡◌, ℕ, suc, true, List, Option, Some, slice_get}
use Rattle.orca_base.specs.declared.ids.KindNo.{KindNo}
use Rattle.orca_base.specs.declared.ids.ObjectId.{ObjectId}
use Rattle.value_core.specs.Datum.{Data}
use Rattle.value_core.specs.declared.action.Action.TheVariants as action
use Rattle.value_core.specs.declared.meaning.Making.TheVariants as making
use Rattle.value_core.specs.declared.message.Message.{Message}
use Rattle.value_core.specs.Meaning.{Performs, Computes}
use Rattle.book_law.specs.Passes.{Test}
use Rattle.book_law.specs.Singles.{Single}
use Rattle.book_law.specs.Course.{Came, Course}
use Rattle.book_law.specs.Events.{Runner}

-- the entry at the copy's place makes its object, and is of a process at its owner
pub record IsMadeBy (list : List Message) (runners : ℕ → Option Runner) (x : Single) : Type 0 where
  pub before : ℕ
  pub entry : Message
  pub runner : Runner
  pub place : x.place ≡ suc before
  pub there : slice_get list before ≡ Some entry
  pub makes : entry.action ≡ action.Make x.kept.kind x.object
  pub process : runners entry.process.0 ≡ Some runner
  pub owner : runner.member ≡ x.owner

abbrev pub CopiesMade : Type 0
CopiesMade =
    (single : Test) (p : Performs) (q : Computes) (w : Course) → Came single p q w →
    (i : ℕ) (x : Single) → slice_get w.owned i ≡ Some x → IsMadeBy w.list w.runners x

-- the copy of an object of this type that entry n + 1 made
pub record HasCopy (owned : List Single) (n : ℕ) (of_kind : KindNo) (id : ObjectId) : Type 0 where
  pub at : ℕ
  pub copy : Single
  pub there : slice_get owned at ≡ Some copy
  pub object : copy.object ≡ id
  pub kind : copy.kept.kind ≡ of_kind
  pub place : copy.place ≡ suc n

abbrev pub MakesHaveCopies : Type 0
MakesHaveCopies =
    (single : Test) (p : Performs) (q : Computes) (w : Course) → Came single p q w →
    (n : ℕ) (y : Message) (kind : KindNo) (object : ObjectId) (state : Data) → slice_get w.list n ≡ Some y →
    y.action ≡ action.Make kind object → single object ≡ true → p.made kind ≡ making.Made state → HasCopy w.owned n kind object
