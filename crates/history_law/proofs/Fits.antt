-- What fits after a history of a lawful program.
use Rattle.std.proofs.Common.{◌≡◌, Some, List, subst}
use Rattle.std.specs.Prelude.{slice_get}
use Rattle.orca_base.specs.declared.ids.KindNo.{KindNo}
use Rattle.orca_base.specs.declared.ids.OpNo.{OpNo}
use Rattle.orca_base.specs.declared.ids.ProcessNo.{ProcessNo}
use Rattle.orca_base.specs.declared.ids.ObjectId.{ObjectId}
use Rattle.value_core.specs.Datum.{Data}
use Rattle.value_core.specs.Lawful.{IsLawfulDoing, next_of}
use Rattle.value_core.specs.declared.action.Line.{Line}
use Rattle.value_core.specs.declared.action.Action.{Action}
use Rattle.value_core.specs.declared.action.Action.TheVariants as action
use Rattle.value_core.specs.declared.meaning.Doing.{Doing}
use Rattle.value_core.specs.declared.meaning.Doing.TheVariants as doing
use Rattle.value_core.specs.Meaning.{Performs, Computes}
use Rattle.value_core.specs.History.{Configuration, Legal, Process, after_lines, object_at, opening}
use Rattle.guard_queue.specs.Fitting.{kinds_of}
use Rattle.object_manager.specs.Viewed.{ReadFits}
use Rattle.book_law.specs.Fitness.{ArgsFit, ReplyFits, StateFits, TextFits}
use Rattle.book_law.proofs.Fits.{Fit, Laws}
use Rattle.book_law.proofs.Fitting.{acts, has_kind, history_fits, known, knows, opening_fits}
use Rattle.history_law.specs.Fitness.{FitsAfter}

module _ (p : Performs) (q : Computes) (fits_state : StateFits) (fits_args : ArgsFit) (fits_text : TextFits) (fits_reply : ReplyFits) (laws : Laws p q fits_state fits_args fits_text fits_reply) (c : Configuration) (f : Fit q fits_state fits_text fits_reply c) where
  -- a process's next action is lawful
  is_lawful : (number : ProcessNo) (x : Process) (a : Action) → slice_get c.processes number.0 ≡ Some x → next_of q x.text number x.args x.replies ≡ doing.At a → IsLawfulDoing q fits_args fits_text (kinds_of c.objects) x.text number x.args x.replies (doing.At a)
  is_lawful number x a here next =
      let fits = f.processes number x here in
      subst (λ (d : Doing). IsLawfulDoing q fits_args fits_text (kinds_of c.objects) x.text number x.args x.replies d) next (laws.lawful (kinds_of c.objects) x.text number x.args x.replies fits.text fits.replies)

  pub may_call : (number : ProcessNo) (x : Process) (kind : KindNo) (op : OpNo) (object : ObjectId) (args : Data) → slice_get c.processes number.0 ≡ Some x → next_of q x.text number x.args x.replies ≡ doing.At (action.Call kind op object args) → ReadFits fits_state fits_args c.objects kind op object args
  may_call number x kind op object args here next =
      let lawful = is_lawful number x (action.Call kind op object args) here next in
      let fits = f.processes number x here in
      let k = has_kind (object_at c.objects object) kind (known q fits_state fits_text fits_reply c number x object kind f fits lawful.0) in
      (kinds_of c.objects, f.states, record { kept = k.0; exists = k.1; kind = k.2; args = lawful.1 (kinds_of c.objects) (knows q fits_text fits_reply c.objects number x fits) })

pub fits_after : (p : Performs) (q : Computes) (fits_state : StateFits) (fits_args : ArgsFit) (fits_text : TextFits) (fits_reply : ReplyFits) → Laws p q fits_state fits_args fits_text fits_reply → (lines : List Line) → Legal p q lines → FitsAfter p q fits_state fits_args fits_text fits_reply lines
fits_after p q fits_state fits_args fits_text fits_reply laws lines legal =
    let c = after_lines p (opening q) lines in
    let f = history_fits p q fits_state fits_args fits_text fits_reply (opening q) lines laws legal (opening_fits p q fits_state fits_args fits_text fits_reply laws) in
    record {
      texts = λ number x here. let fits = f.processes number x here in fits.text;
      replies = λ number x here. let fits = f.processes number x here in fits.replies;
      calls = may_call p q fits_state fits_args fits_text fits_reply laws c f;
      answers = λ line s.
          let a = acts p q fits_state fits_args fits_text fits_reply c line.process s.process line.action line.guard line.reply laws f s.exists (is_lawful p q fits_state fits_args fits_text fits_reply laws c f line.process s.process line.action s.exists s.next) s.performed in
          a.replied;
    }
