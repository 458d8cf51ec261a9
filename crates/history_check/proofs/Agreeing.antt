-- Of any lines one verdict is true.
use Rattle.std.proofs.Common.{◌≡◌, ℕ, zero, suc, ◌<◌, ◌≤◌, ⊎_elim, Some, List, [], ◌∷◌, length, take, refl, sym, ap, ◌∙◌, arith, subst}
use Rattle.std.specs.Prelude.{slice_get}
use Rattle.std.proofs.lemmas.Bool.{cases_lt}
use Rattle.std.proofs.lemmas.List.{take_all}
use Rattle.std.proofs.lemmas.Option.{slice_get_within}
use Rattle.value_core.specs.declared.action.Line.{Line}
use Rattle.value_core.specs.Meaning.{Performs, Computes}
use Rattle.value_core.specs.History.{Configuration, IsStep, LegalFrom, after_line, after_lines, opening}
use Rattle.history_law.proofs.Entries.{performable}
use Rattle.history_check.specs.Verdicts.{Agrees, Breaks, IsBreach, OneVerdict, StepsAgree}
use Rattle.history_check.specs.declared.verdict.BreachRule.{BreachRule}
use Rattle.history_check.specs.declared.verdict.BreachRule.TheVariants as part
use Rattle.history_check.specs.declared.verdict.Verdict.TheVariants as verdict

-- ---- one line

pub step_agrees : (p : Performs) (q : Computes) (c : Configuration) (line : Line) → IsStep p q c line → Agrees p q c line part.Reply
step_agrees p q c line s =
    (s.process, record { its = record { exists = s.exists; call = s.call }; next = s.next; performable = performable p c.objects line.action line.guard line.reply s.performed }, s.performed)

pub agrees_step : (p : Performs) (q : Computes) (c : Configuration) (line : Line) → Agrees p q c line part.Reply → IsStep p q c line
agrees_step p q c line h = let a = h.1 in let l = a.its in record { process = h.0; exists = l.exists; call = l.call; next = a.next; performed = h.2 }

pub steps_agree : StepsAgree
steps_agree p q c line = (agrees_step p q c line, step_agrees p q c line)

-- who agrees up to a part agrees up to each before it
reply_guard : (p : Performs) (q : Computes) (c : Configuration) (line : Line) → Agrees p q c line part.Reply → Agrees p q c line part.Guard
reply_guard p q c line h = (h.0, h.1, (line.reply, h.2))

guard_action : (p : Performs) (q : Computes) (c : Configuration) (line : Line) → Agrees p q c line part.Guard → Agrees p q c line part.Action
guard_action p q c line h = (h.0, h.1)

action_line : (p : Performs) (q : Computes) (c : Configuration) (line : Line) → Agrees p q c line part.Action → Agrees p q c line part.Call
action_line p q c line h = let a = h.1 in (h.0, a.its)

line_process : (p : Performs) (q : Computes) (c : Configuration) (line : Line) → Agrees p q c line part.Call → Agrees p q c line part.Process
line_process p q c line h = let l = h.1 in (h.0, l.exists)

one_part : (p : Performs) (q : Computes) (c : Configuration) (line : Line) (r s : BreachRule) → Breaks p q c line r → Breaks p q c line s → r ≡ s
one_part p q c line part.Process part.Process b d = refl
one_part p q c line part.Process part.Call b d = absurd (b (d.0))
one_part p q c line part.Process part.Action b d = absurd (b (line_process p q c line d.0))
one_part p q c line part.Process part.Guard b d = absurd (b (line_process p q c line (action_line p q c line d.0)))
one_part p q c line part.Process part.Reply b d = absurd (b (line_process p q c line (action_line p q c line (guard_action p q c line d.0))))
one_part p q c line part.Call part.Process b d = absurd (d (b.0))
one_part p q c line part.Call part.Call b d = refl
one_part p q c line part.Call part.Action b d = absurd (b.1 (d.0))
one_part p q c line part.Call part.Guard b d = absurd (b.1 (action_line p q c line d.0))
one_part p q c line part.Call part.Reply b d = absurd (b.1 (action_line p q c line (guard_action p q c line d.0)))
one_part p q c line part.Action part.Process b d = absurd (d (line_process p q c line b.0))
one_part p q c line part.Action part.Call b d = absurd (d.1 (b.0))
one_part p q c line part.Action part.Action b d = refl
one_part p q c line part.Action part.Guard b d = absurd (b.1 (d.0))
one_part p q c line part.Action part.Reply b d = absurd (b.1 (guard_action p q c line d.0))
one_part p q c line part.Guard part.Process b d = absurd (d (line_process p q c line (action_line p q c line b.0)))
one_part p q c line part.Guard part.Call b d = absurd (d.1 (action_line p q c line b.0))
one_part p q c line part.Guard part.Action b d = absurd (d.1 (b.0))
one_part p q c line part.Guard part.Guard b d = refl
one_part p q c line part.Guard part.Reply b d = absurd (b.1 (d.0))
one_part p q c line part.Reply part.Process b d = absurd (d (line_process p q c line (action_line p q c line (guard_action p q c line b.0))))
one_part p q c line part.Reply part.Call b d = absurd (d.1 (action_line p q c line (guard_action p q c line b.0)))
one_part p q c line part.Reply part.Action b d = absurd (d.1 (guard_action p q c line b.0))
one_part p q c line part.Reply part.Guard b d = absurd (d.1 (b.0))
one_part p q c line part.Reply part.Reply b d = refl

-- a line that differs may not come next
broken : (p : Performs) (q : Computes) (c : Configuration) (line : Line) (rule : BreachRule) → Breaks p q c line rule → IsStep p q c line → ⊥
broken p q c line part.Process b s = b (line_process p q c line (action_line p q c line (guard_action p q c line (reply_guard p q c line (step_agrees p q c line s)))))
broken p q c line part.Call b s = b.1 (action_line p q c line (guard_action p q c line (reply_guard p q c line (step_agrees p q c line s))))
broken p q c line part.Action b s = b.1 (guard_action p q c line (reply_guard p q c line (step_agrees p q c line s)))
broken p q c line part.Guard b s = b.1 (reply_guard p q c line (step_agrees p q c line s))
broken p q c line part.Reply b s = b.1 (step_agrees p q c line s)

-- ---- lines

-- a line among lines that are a history may come next behind those before it
step_at : (p : Performs) (q : Computes) (c : Configuration) (lines : List Line) (n m : ℕ) (line : Line) → n < m → LegalFrom p q c (take m lines) → slice_get lines n ≡ Some line → IsStep p q (after_lines p c (take n lines)) line
step_at p q c lines n zero line lt legal is = absurd (omega arith)
step_at p q c [] n (suc m) line lt legal is = absurd (cc is)
step_at p q c (l ∷ lines) zero (suc m) line lt legal is = let e : l ≡ line = cc in subst (λ (k : Line). IsStep p q c k) e legal.0
step_at p q c (l ∷ lines) (suc n) (suc m) line lt legal is = step_at p q (after_line p c l) lines n m line (omega arith) legal.1 is

not_legal : (p : Performs) (q : Computes) (lines : List Line) (number : ℕ) (rule : BreachRule) → LegalFrom p q (opening q) lines → IsBreach p q lines number rule → ⊥
not_legal p q lines number rule legal b =
    broken p q (after_lines p (opening q) (take b.before lines)) b.line rule b.breaks
    (step_at p q (opening q) lines b.before (length lines) b.line (slice_get_within lines b.before b.line b.there)
    (subst (λ (ls : List Line). LegalFrom p q (opening q) ls) (sym (take_all (length lines) lines (omega arith))) legal) b.there)

not_earlier : (p : Performs) (q : Computes) (lines : List Line) (n m : ℕ) (r s : BreachRule) (b : IsBreach p q lines n r) (d : IsBreach p q lines m s) → b.before < d.before → ⊥
not_earlier p q lines n m r s b d lt =
    broken p q (after_lines p (opening q) (take b.before lines)) b.line r b.breaks (step_at p q (opening q) lines b.before d.before b.line lt d.legal b.there)

same_part : (p : Performs) (q : Computes) (lines : List Line) (n m : ℕ) (r s : BreachRule) (b : IsBreach p q lines n r) (d : IsBreach p q lines m s) → b.before ≡ d.before → r ≡ s
same_part p q lines n m r s b d at =
    let e : Some d.line ≡ Some b.line = sym d.there ∙ ap (slice_get lines) (sym at) ∙ b.there in
    let same : d.line ≡ b.line = cc in
    let there : Breaks p q (after_lines p (opening q) (take b.before lines)) d.line s = subst (λ (k : ℕ). Breaks p q (after_lines p (opening q) (take k lines)) d.line s) (sym at) d.breaks in
    one_part p q (after_lines p (opening q) (take b.before lines)) b.line r s b.breaks (subst (λ (l : Line). Breaks p q (after_lines p (opening q) (take b.before lines)) l s) same there)

one_breach : (p : Performs) (q : Computes) (lines : List Line) (n m : ℕ) (r s : BreachRule) → IsBreach p q lines n r → IsBreach p q lines m s → verdict.Breach n r ≡ verdict.Breach m s
one_breach p q lines n m r s b d = ⊎_elim
    (λ (lt : b.before < d.before). absurd (not_earlier p q lines n m r s b d lt))
    (λ (le : d.before ≤ b.before). ⊎_elim
    (λ (lt : d.before < b.before). absurd (not_earlier p q lines m n s r d b lt))
    (λ (ge : b.before ≤ d.before).
    let at : b.before ≡ d.before = omega (arith, le, ge) in
    let number : n ≡ m = b.numbered ∙ ap suc at ∙ sym d.numbered in
    let rule : r ≡ s = same_part p q lines n m r s b d at in
    (λ i. verdict.Breach (number i) (rule i)))
    (cases_lt d.before b.before))
    (cases_lt b.before d.before)

pub one_verdict : OneVerdict
one_verdict p q lines verdict.Legal verdict.Legal b d = refl
one_verdict p q lines verdict.Legal (verdict.Breach m s) b d = absurd (not_legal p q lines m s b d)
one_verdict p q lines (verdict.Breach n r) verdict.Legal b d = absurd (not_legal p q lines n r d b)
one_verdict p q lines (verdict.Breach n r) (verdict.Breach m s) b d = one_breach p q lines n m r s b d
