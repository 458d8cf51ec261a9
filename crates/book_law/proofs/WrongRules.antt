-- Each wrong rule is told apart by the line at which its book stops being a history.
use Rattle.std.proofs.Common.{◌≡◌, None, Some, List, [], ◌∷◌, length, refl, sym, ap, ◌∙◌, arith}
use Rattle.std.specs.Prelude.{slice_get}
use Rattle.value_core.specs.Datum as datum
use Rattle.value_core.specs.declared.action.Instance.{Instance}
use Rattle.value_core.specs.declared.action.Line.{Line}
use Rattle.value_core.specs.declared.action.Reply.TheVariants as answer
use Rattle.value_core.specs.History.{Configuration, IsStep, LegalFrom, Process, after_line, opening}
use Rattle.book_law.specs.Cell.{computes, call, fork, kind, line, make, performs}
use Rattle.book_law.specs.Wrong.{WrongRules}

-- a line of a process that isn't there, or with another call number than the next
no_process : (c : Configuration) (l : Line) → slice_get c.processes l.process.0 ≡ None → IsStep performs computes c l → ⊥
no_process c l is s = let e : None ≡ Some s.process = sym is ∙ s.exists in absurd (cc e)

no_number : (c : Configuration) (l : Line) (process : Process) → slice_get c.processes l.process.0 ≡ Some process → (l.call.0 ≡ length process.replies → ⊥) → IsStep performs computes c l → ⊥
no_number c l process is apart s =
    let e : Some process ≡ Some s.process = sym is ∙ s.exists in
    let f : s.process ≡ process = cc in
    apart (s.call ∙ ap (λ (z : Process). length z.replies) f)

second : (c : Configuration) (l m : Line) (lines : List Line) → LegalFrom performs computes c (l ∷ m ∷ lines) → IsStep performs computes (after_line performs c l) m
second c l m lines h = let rest : LegalFrom performs computes (after_line performs c l) (m ∷ lines) = h.1 in rest.0

rest_of : (c : Configuration) (l : Line) (lines : List Line) → LegalFrom performs computes c (l ∷ lines) → LegalFrom performs computes (after_line performs c l) lines
rest_of c l lines h = h.1

abbrev made : Configuration
made = after_line performs (opening computes) (line 0 0 make 0)

abbrev forked : Configuration
forked = after_line performs made (line 0 1 fork 0)

abbrev marked_once : Configuration
marked_once = after_line performs forked (line 1 0 (call 0) 0)

abbrev main : Process
main = record { text = record { 0 = 0 }; args = datum.none; replies = answer.Done ∷ [] }

-- the state with the mark, and as it was made
abbrev with_mark : Instance
with_mark = record { kind = kind; state = datum.more (datum.char 1) datum.none }

abbrev as_made : Instance
as_made = record { kind = kind; state = datum.none }

marked : Some with_mark ≡ Some as_made → ⊥
marked e =
    let same : with_mark ≡ as_made = cc in
    let state : datum.more (datum.char 1) datum.none ≡ datum.none = ap (λ (i : Instance). i.state) same in
    absurd (cc state)

pub wrong_rules : WrongRules
wrong_rules = record {
  right = (
    record { process = record { text = record { 0 = 0 }; args = datum.none; replies = [] }; exists = refl; call = refl; next = refl; performed = (refl, refl) },
    (
      record { process = main; exists = refl; call = refl; next = refl; performed = (refl, refl) },
      (
        record { process = record { text = record { 0 = 1 }; args = datum.none; replies = [] }; exists = refl; call = refl; next = refl; performed = (record { kind = kind; state = datum.none }, refl, (refl, refl)) },
        (
          record { process = record { text = record { 0 = 0 }; args = datum.none; replies = answer.Done ∷ answer.Done ∷ [] }; exists = refl; call = refl; next = refl; performed = (record { kind = kind; state = datum.more (datum.char 1) datum.none }, refl, (refl, refl)) },
          tt,
        ),
      ),
    ),
  );
  kept = refl;
  aside_first = λ h. no_process made (line 1 0 (call 0) 0) refl (second (opening computes) (line 0 0 make 0) (line 1 0 (call 0) 0) (line 0 2 (call 1) 1 ∷ line 0 1 fork 0 ∷ []) h);
  at_makes_place = λ h. no_process made (line 1 0 (call 0) 0) refl (second (opening computes) (line 0 0 make 0) (line 1 0 (call 0) 0) (line 0 2 (call 1) 1 ∷ line 0 1 fork 0 ∷ []) h);
  twice = λ h. no_number made (line 0 0 make 0) main refl (λ e. omega (arith, e)) (second (opening computes) (line 0 0 make 0) (line 0 0 make 0) [] h);
  out_of_order = λ h. no_number (opening computes) (line 0 1 fork 0) (record { text = record { 0 = 0 }; args = datum.none; replies = [] }) refl (λ e. omega (arith, e)) h.0;
  below_place = λ h. no_number made (line 0 2 (call 2) 0) main refl (λ e. omega (arith, e)) (second (opening computes) (line 0 0 make 0) (line 0 2 (call 2) 0) (line 0 1 fork 0 ∷ []) h);
  taken_twice = λ h. no_number marked_once (line 1 0 (call 0) 0) (record { text = record { 0 = 1 }; args = datum.none; replies = answer.Done ∷ [] }) refl (λ e. omega (arith, e))
      (second forked (line 1 0 (call 0) 0) (line 1 0 (call 0) 0) []
      (rest_of made (line 0 1 fork 0) (line 1 0 (call 0) 0 ∷ line 1 0 (call 0) 0 ∷ [])
      (rest_of (opening computes) (line 0 0 make 0) (line 0 1 fork 0 ∷ line 1 0 (call 0) 0 ∷ line 1 0 (call 0) 0 ∷ []) h)));
  keeps_old_state = marked;
}
