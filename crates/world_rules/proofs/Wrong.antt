-- Each wrong rule is told apart by the line at which its book stops being a history, or by what it asks.
use Rattle.std.proofs.Common.{◌≡◌, ◌≤◌, ℕ, Some, None, List, [], ◌∷◌, ◌++◌, length, refl, sym, ap, ◌∙◌, arith, subst}
use Rattle.std.specs.Prelude.{slice_get}
use Rattle.value_core.specs.Datum as datum
use Rattle.value_core.specs.declared.action.Line.{Line}
use Rattle.value_core.specs.declared.action.Reply.TheVariants as answer
use Rattle.value_core.specs.Meaning.{Computes, Performs}
use Rattle.value_core.specs.History.{Configuration, IsStep, LegalFrom, Process, after_line, after_lines, opening}
use Rattle.orca_base.specs.declared.ids.ProcessNo.{ProcessNo}
use Rattle.world_rules.specs.LostEntry.{early_read, lost_entry}
use Rattle.world_rules.specs.LostEntry as lost
use Rattle.world_rules.specs.Frame.{Frame}
use Rattle.world_rules.specs.OneCell.{actions, read_six}
use Rattle.world_rules.specs.Played.{Played}
use Rattle.world_rules.specs.Programs.{assign, fork_on, gives, line, make, performs, runner, two_texts, write}
use Rattle.world_rules.specs.Steps.{Burst, IsBurst}
use Rattle.world_rules.specs.Worlds.{World, played_in}
use Rattle.world_rules.specs.Wrong.{NoHistories, WrongRules, begun, old_read, written}
use Rattle.world_rules.specs.Played.Stage.{Computing}
use Rattle.value_core.specs.declared.action.Reply.{Reply}
use Rattle.world_rules.specs.declared.standing.Standing.TheVariants.{Finished, Going}

-- a line among legal ones is a step behind those before it
step_at : (p : Performs) (q : Computes) (c : Configuration) (xs : List Line) (l : Line) (ys : List Line) →
    LegalFrom p q c (xs ++ l ∷ ys) → IsStep p q (after_lines p c xs) l
step_at p q c [] l ys legal = legal.0
step_at p q c (x ∷ xs) l ys legal = step_at p q (after_line p c x) xs l ys legal.1

-- a line of a process that there isn't
nobody : (p : Performs) (q : Computes) (c : Configuration) (l : Line) → slice_get c.processes l.process.0 ≡ None → IsStep p q c l → ⊥
nobody p q c l none s =
    let e : None ≡ Some s.process = sym none ∙ s.exists in
    cc e

-- a line with another call number than its process's next
no_number : (p : Performs) (q : Computes) (c : Configuration) (l : Line) (process : Process) →
    slice_get c.processes l.process.0 ≡ Some process →
    (l.call.0 ≡ length process.replies → ⊥) → IsStep p q c l → ⊥
no_number p q c l process is apart s =
    let e : Some process ≡ Some s.process = sym is ∙ s.exists in
    let f : s.process ≡ process = cc in
    apart (s.call ∙ ap (λ (z : Process). length z.replies) f)

-- a burst at a place below its process's
no_burst : (f : Frame) (w : World) (i : ProcessNo) (place turns : ℕ) (burst : Burst) (r : Played) → played_in f w i.0 ≡ Some r →
    (r.place ≤ place → ⊥) → IsBurst f w i place turns burst → ⊥
no_burst f w i place turns burst r is below b =
    let e : Some r ≡ Some b.start = sym is ∙ b.here in
    let same : b.start ≡ r = cc in
    below (subst (λ (z : Played). z.place ≤ place) same b.after)

abbrev two : Computes
two = two_texts lost.first_text lost.second_text

abbrev made : Line
made = line 0 0 make 0 answer.Done

abbrev first_after : List Reply → Process
first_after replies = record { text = record { 0 = 0 }; args = datum.none; replies = replies }

abbrev second_after : List Reply → Process
second_after replies = record { text = record { 0 = 1 }; args = lost.handed; replies = replies }

breaks : NoHistories
breaks = record {
  reads_first = λ legal. no_number performs (two_texts actions []) _ read_six (first_after (answer.Done ∷ [])) refl (λ e. cc e)
      (step_at performs (two_texts actions []) (opening (two_texts actions [])) (made ∷ []) read_six
      (line 0 1 (assign 6) 0 answer.Done ∷ line 0 3 (write 54) 0 answer.Done ∷ []) legal);
  below_place = λ legal. nobody performs two _ early_read refl
      (step_at performs two (opening two) (made ∷ []) early_read (line 0 1 (fork_on 1) 0 answer.Done ∷ []) legal);
  old_view = λ legal. no_number performs two _ old_read (second_after (gives 0 ∷ [])) refl (λ e. cc e)
      (step_at performs two (opening two) (made ∷ line 0 1 (fork_on 1) 0 answer.Done ∷ early_read ∷ []) old_read
      (line 0 2 (assign 6) 0 answer.Done ∷ line 1 1 (write 48) 0 answer.Done ∷ []) legal);
  told_twice = λ legal. no_number performs (two_texts actions []) _ made (first_after (answer.Done ∷ [])) refl (λ e. cc e)
      (step_at performs (two_texts actions []) (opening (two_texts actions [])) (made ∷ []) made [] legal);
}

not_going : Finished ≡ Going → ⊥
not_going e = cc e

pub wrong_rules : WrongRules
wrong_rules = record {
  breaks = breaks;
  reads_first = refl;
  below_place = refl;
  no_burst_below = λ turns burst b. no_burst lost_entry begun (record { 0 = 1 }) 1 turns burst
      (runner 1 lost.handed [] 2 Computing) refl (λ h. omega (arith, h)) b;
  old_view = refl;
  no_old_burst = λ turns burst b. no_burst lost_entry written (record { 0 = 1 }) 2 turns burst
      (runner 1 lost.handed (gives 0 ∷ answer.Done ∷ []) 4 Computing) refl (λ h. omega (arith, h)) b;
  applied_once = refl;
  replies = refl;
  replies_twice = refl;
  told_once = refl;
  told_twice = refl;
  quiet = refl;
  no_step = λ step v next. not_going next.going;
}
