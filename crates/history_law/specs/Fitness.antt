-- What fits after a history of a lawful program, and so what a checker of histories may ask a machine and a performer.
use Rattle.std.specs.Prelude.{◌≡◌, List, Some, slice_get}
use Rattle.orca_base.specs.declared.ids.KindNo.{KindNo}
use Rattle.orca_base.specs.declared.ids.OpNo.{OpNo}
use Rattle.orca_base.specs.declared.ids.ProcessNo.{ProcessNo}
use Rattle.orca_base.specs.declared.ids.ObjectId.{ObjectId}
use Rattle.value_core.specs.Datum.{Data}
use Rattle.value_core.specs.declared.action.Line.{Line}
use Rattle.value_core.specs.declared.action.Action.TheVariants as action
use Rattle.value_core.specs.declared.meaning.Doing.TheVariants as doing
use Rattle.value_core.specs.Lawful.{FitsAction, RepliesFit, next_of}
use Rattle.value_core.specs.Meaning.{Performs, Computes}
use Rattle.value_core.specs.History.{IsStep, Legal, Process, after_lines, objects_of, opening, processes_of}
use Rattle.guard_queue.specs.Fitting.{kinds_of}
use Rattle.object_manager.specs.Viewed.{ReadFits}
use Rattle.book_law.specs.Fitness.{ArgsFit, ReplyFits, StateFits, TextFits}

-- `texts` and `replies`, the arguments of each process fit its text, over the types of the objects that exist, and each reply that it
-- received is one that its action can get; `calls`, a call that is a process's next action may be tried: its object exists by its type,
-- its state and the arguments fit; `answers`, so is the reply of each line that may come next one that its action can get
pub record FitsAfter (p : Performs) (q : Computes) (fits_state : StateFits) (fits_args : ArgsFit) (fits_text : TextFits)
    (fits_reply : ReplyFits) (lines : List Line) : Type 0 where
  pub texts :
      (number : ProcessNo) (x : Process) → slice_get (processes_of p q lines) number.0 ≡ Some x →
      fits_text (kinds_of (objects_of p q lines)) x.text x.args
  pub replies :
      (number : ProcessNo) (x : Process) → slice_get (processes_of p q lines) number.0 ≡ Some x →
      RepliesFit q fits_reply x.text number x.args x.replies
  pub calls :
      (number : ProcessNo) (x : Process) (kind : KindNo) (op : OpNo) (object : ObjectId) (args : Data) →
      slice_get (processes_of p q lines) number.0 ≡ Some x →
      next_of q x.text number x.args x.replies ≡ doing.At (action.Call kind op object args) →
      ReadFits fits_state fits_args (objects_of p q lines) kind op object args
  pub answers : (line : Line) → IsStep p q (after_lines p (opening q) lines) line → FitsAction fits_reply (doing.At line.action) line.reply

-- so it is after every history
abbrev pub HistoriesFit : Performs → Computes → StateFits → ArgsFit → TextFits → ReplyFits → Type 0
HistoriesFit p q fits_state fits_args fits_text fits_reply =
    (lines : List Line) → Legal p q lines → FitsAfter p q fits_state fits_args fits_text fits_reply lines
