-- A history is carried from one meaning to another that is the same on what fits.
use Rattle.std.proofs.Common.{◌≡◌, Some, List, [], ◌∷◌, refl, sym, ap, ◌∙◌, subst}
use Rattle.orca_base.specs.declared.ids.TextNo.{TextNo}
use Rattle.value_core.specs.Datum as datum
use Rattle.value_core.specs.declared.action.Action.{Action}
use Rattle.value_core.specs.declared.action.Action.TheVariants as action
use Rattle.value_core.specs.declared.action.Instance.{Instance}
use Rattle.value_core.specs.declared.action.Line.{Line}
use Rattle.value_core.specs.declared.meaning.Doing.TheVariants as doing
use Rattle.value_core.specs.declared.meaning.Making.{Making}
use Rattle.value_core.specs.declared.meaning.Tried.{Tried}
use Rattle.value_core.specs.Meaning.{Performs, Computes}
use Rattle.value_core.specs.History.{Answers, Configuration, IsStep, LegalFrom, MakingAnswers, Performed, after_call, after_line, after_lines, after_making, after_try, most_turns, objects_after, opening, output_kind, output_object}
use Rattle.guard_queue.specs.Fitting.{kinds_of}
use Rattle.book_law.specs.Fitness.{ArgsFit, ReplyFits, StateFits, TextFits}
use Rattle.book_law.proofs.Fits.{Fit, Laws}
use Rattle.book_law.proofs.Fitting.{opening_fits, step_fits}
use Rattle.history_law.specs.Alike.{HistoriesCarry, MeanAlike}
use Rattle.history_law.proofs.Fits.{may_call}

module _ (p r : Performs) (q s : Computes) (fits_state : StateFits) (fits_args : ArgsFit) (fits_text : TextFits) (fits_reply : ReplyFits) (laws : Laws p q fits_state fits_args fits_text fits_reply) (alike : MeanAlike fits_state fits_args fits_text fits_reply p r q s) where
  -- the try of a call that is a step is the same
  same_try : (c : Configuration) (l : Line) (a : Action) → Fit q fits_state fits_text fits_reply c → (i : IsStep p q c l) → l.action ≡ a → Performed p c.objects a l.guard l.reply → Performed r c.objects a l.guard l.reply × (objects_after r c.objects a ≡ objects_after p c.objects a)
  same_try c l (action.Make kind object) f i is done =
      ((done.0, subst (λ (m : Making). MakingAnswers m l.reply) (sym (alike.made kind)) done.1), ap (after_making c.objects kind object) (alike.made kind))
  same_try c l (action.Call kind op object args) f i is done =
      let may = may_call p q fits_state fits_args fits_text fits_reply laws c f l.process i.process kind op object args i.exists (i.next ∙ ap (λ (b : Action). doing.At b) is) in
      let fits = may.2 in
      let e : Some fits.kept ≡ Some done.0 = sym fits.exists ∙ done.1 in
      let same : fits.kept ≡ done.0 = cc in
      let state : fits_state may.0 kind done.0.state = subst (λ (k : Instance). fits_state may.0 kind k.state) same (subst (λ k. fits_state may.0 k fits.kept.state) fits.kind (may.1 object fits.kept fits.exists)) in
      let tries = alike.tries may.0 kind op done.0.state args state fits.args in (
        (done.0, done.1, subst (λ (t : Tried). Answers t l.guard l.reply) (sym tries) done.2),
        ap (after_call r c.objects kind op object args) done.1 ∙ ap (after_try c.objects object done.0) tries ∙ sym (ap (after_call p c.objects kind op object args) done.1),
      )
  same_try c l (action.Fork text args place_on) f i is done = (done, refl)
  same_try c l action.Ended f i is done = absurd done
  same_try c l (action.Faulted fault) f i is done = absurd done

  same_step : (c : Configuration) (l : Line) → Fit q fits_state fits_text fits_reply c → IsStep p q c l → IsStep r s c l × (after_line r c l ≡ after_line p c l)
  same_step c l f i =
      let fits = f.processes l.process i.process i.exists in
      let same = same_try c l l.action f i refl i.performed in (
        record { process = i.process; exists = i.exists; call = i.call; next = alike.doing (kinds_of c.objects) i.process.text l.process i.process.args i.process.replies most_turns fits.text fits.replies ∙ i.next; performed = same.0 },
        (λ j. record { objects = same.1 j; processes = (after_line p c l).processes }),
      )

  carries : (c : Configuration) (lines : List Line) → Fit q fits_state fits_text fits_reply c → LegalFrom p q c lines → LegalFrom r s c lines × (after_lines r c lines ≡ after_lines p c lines)
  carries c [] f legal = (tt, refl)
  carries c (l ∷ lines) f legal =
      let one = same_step c l f legal.0 in
      let rest = carries (after_line p c l) lines (step_fits p q fits_state fits_args fits_text fits_reply c l laws f legal.0) legal.1 in
      ((one.0, subst (λ (d : Configuration). LegalFrom r s d lines) (sym one.1) rest.0), ap (λ (d : Configuration). after_lines r d lines) one.1 ∙ rest.1)

  -- both begin alike
  begins : opening s ≡ opening q
  begins = ap (λ (t : TextNo). record { objects = (output_object, record { kind = output_kind; state = datum.none }) ∷ []; processes = record { text = t; args = datum.none; replies = [] } ∷ [] }) alike.main

  pub carried : (lines : List Line) → LegalFrom p q (opening q) lines → LegalFrom r s (opening s) lines × (after_lines r (opening s) lines ≡ after_lines p (opening q) lines)
  carried lines legal =
      let all = carries (opening q) lines (opening_fits p q fits_state fits_args fits_text fits_reply laws) legal in
      (subst (λ (c : Configuration). LegalFrom r s c lines) (sym begins) all.0, ap (λ (c : Configuration). after_lines r c lines) begins ∙ all.1)

pub histories_carry : (p : Performs) (q : Computes) (fits_state : StateFits) (fits_args : ArgsFit) (fits_text : TextFits) (fits_reply : ReplyFits) → Laws p q fits_state fits_args fits_text fits_reply → HistoriesCarry p q fits_state fits_args fits_text fits_reply
histories_carry p q fits_state fits_args fits_text fits_reply laws r s alike lines legal = carried p r q s fits_state fits_args fits_text fits_reply laws alike lines legal
