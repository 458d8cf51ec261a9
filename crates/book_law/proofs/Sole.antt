-- A process's one line among legal ones is of its message.
use Rattle.std.proofs.Common.{◌≡◌, ℕ, ◌==◌, ◌∙◌, Bool, true, false, Some, List, [], ◌∷◌, ◌++◌, length, refl, sym, ap, if◌then◌else◌}
use Rattle.std.specs.Prelude.{slice_get}
use Rattle.std.proofs.lemmas.Bool.{eqb-true}
use Rattle.std.proofs.lemmas.List.{append_cancel_right}
use Rattle.orca_base.specs.declared.ids.ProcessNo.{ProcessNo}
use Rattle.value_core.specs.declared.action.Line.{Line}
use Rattle.value_core.specs.declared.action.Reply.{Reply}
use Rattle.value_core.specs.declared.action.Action.{Action}
use Rattle.value_core.specs.declared.message.Message.{Message}
use Rattle.value_core.specs.declared.meaning.Doing.{Doing}
use Rattle.value_core.specs.declared.meaning.Doing.TheVariants as doing
use Rattle.value_core.specs.Meaning.{Performs, Computes}
use Rattle.value_core.specs.History.{Configuration, LegalFrom, Process, after_line, after_lines, most_turns}
use Rattle.book_law.specs.Events.{Asks, Runner, lines_by, replies_to}
use Rattle.book_law.proofs.Processes.{replies_after}

-- the line is what the process does next after these replies
pub record IsAction (q : Computes) (j : ℕ) (x : Process) (rs : List Reply) (l : Line) : Type 0 where
  pub by : l.process.0 ≡ j
  pub call : l.call.0 ≡ length rs
  pub next : q.doing x.text l.process x.args rs most_turns ≡ doing.At l.action

pub sole : (p : Performs) (q : Computes) (c : Configuration) (lines : List Line) (j : ℕ) (l : Line) (x : Process) (rs : List Reply) → LegalFrom p q c lines → lines_by j lines ≡ l ∷ [] → slice_get (after_lines p c lines).processes j ≡ Some x → x.replies ≡ rs ++ l.reply ∷ []
    → IsAction q j x rs l
sole p q c [] j l x rs legal e here replies = absurd (cc e)
sole p q c (k ∷ ks) j l x rs legal e here replies = go (k.process.0 == j) refl e (λ rest. sole p q (after_line p c k) ks j l x rs legal.1 rest here replies)
  where
    go : (b : Bool) → (k.process.0 == j) ≡ b → (if b then k ∷ lines_by j ks else lines_by j ks) ≡ l ∷ [] → (lines_by j ks ≡ l ∷ [] → IsAction q j x rs l) → IsAction q j x rs l
    go false is one ih = ih one
    go true is one ih =
        let s = legal.0 in
        let f : k.process.0 ≡ j = eqb-true k.process.0 j is in
        let same : k ≡ l = cc one in
        let own : slice_get c.processes j ≡ Some s.process = ap (slice_get c.processes) (sym f) ∙ s.exists in
        let after = replies_after p c (k ∷ ks) j s.process own in
        let process : Process = record { text = s.process.text; args = s.process.args; replies = s.process.replies ++ replies_to (lines_by j (k ∷ ks)) } in
        let opt : Some process ≡ Some x = sym after ∙ here in
        let is_x : process ≡ x = cc opt in
        let longer : s.process.replies ++ l.reply ∷ [] ≡ rs ++ l.reply ∷ [] = ap (λ (ls : List Line). s.process.replies ++ replies_to ls) (sym e) ∙ ap (λ (y : Process). y.replies) is_x ∙ replies in
        let before : s.process.replies ≡ rs = append_cancel_right s.process.replies rs (l.reply ∷ []) longer in
        record {
          by = ap (λ (y : Line). y.process.0) (sym same) ∙ f;
          call = ap (λ (y : Line). y.call.0) (sym same) ∙ s.call ∙ ap (λ (r : List Reply). length r) before;
          next = sym (ap (λ (y : Process). q.doing y.text l.process y.args rs most_turns) is_x)
              ∙ sym (ap (λ (r : List Reply). q.doing s.process.text l.process s.process.args r most_turns) before)
              ∙ sym (ap (λ (y : Line). q.doing s.process.text y.process s.process.args s.process.replies most_turns) same)
              ∙ s.next ∙ ap (λ (y : Line). doing.At y.action) same;
        }

-- so it is of the message that the process has out
pub record IsOf (m : Message) (l : Line) : Type 0 where
  pub process : l.process ≡ m.process
  pub call : l.call ≡ m.call
  pub action : l.action ≡ m.action

abbrev act_of : Action → Doing → Action
act_of none (doing.At a) = a
act_of none doing.Busy = none

pub is_of : (q : Computes) (j : ℕ) (x : Runner) (m : Message) (l : Line) → Asks q j x m → IsAction q j (record { text = x.text; args = x.args; replies = x.replies ++ l.reply ∷ [] }) x.replies l → IsOf m l
is_of q j x m l asks acts =
    let process : l.process ≡ m.process = ap (λ (n : ℕ). record { 0 = n }) (acts.by ∙ sym asks.process) in
    let e : doing.At l.action ≡ doing.At m.action = sym acts.next ∙ ap (λ (n : ProcessNo). q.doing x.text n x.args x.replies most_turns) process ∙ asks.next in
    record {
      process = process;
      call = ap (λ (n : ℕ). record { 0 = n }) (acts.call ∙ sym asks.call);
      action = ap (act_of l.action) e;
    }
