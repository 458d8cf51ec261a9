-- That phrases, functions and processes count turns, and after how many what a process does next is reached.
use Rattle.std.proofs.Common.{refl, ap, ◌∙◌, arith, ◌⊎◌, inl, inr}
use Rattle.std.specs.Prelude.{◌≡◌, ◌≤◌, ℕ, zero, suc, List, [], Option, slice_get}
use Rattle.link_rules.specs.Units.{Source}
use Rattle.value_core.specs.Datum.{Datum}
use Rattle.value_core.specs.Goes.{Reaches}
use Rattle.value_core.specs.declared.meaning.Doing.{Doing}
use Rattle.value_core.specs.declared.meaning.Doing.TheVariants as doing
use Rattle.meaning_rules.specs.Programs.{process_texts}
use Rattle.meaning_rules.specs.States.{State, Out, Goes, Stops, Needs, Faults, Busy}
use Rattle.meaning_rules.specs.Calls.{Calls, Passed}
use Rattle.meaning_rules.specs.Loops.{Flow}
use Rattle.meaning_rules.specs.Functions.{calls}
use Rattle.meaning_rules.specs.Processes.{doing_of, text_run}
use Rattle.meaning_rules.specs.Turns.{with_left, Counts, CountedTo, Counted, CountsTurns, TakesTurns}
use Rattle.meaning_rules.proofs.Everywhere as everywhere
use Rattle.meaning_rules.proofs.Counting.{all_counted, busy_counted, make_counted}

module _ (us : List Source) (levels : ℕ) where
  abbrev call : Calls
  call = calls us levels

  call_counted : (i : ℕ) (given : List Passed) → Counted (Option Datum) (call i given)
  call_counted = everywhere.calls_holds Counted all_counted us levels

pub counts_turns : (us : List Source) → CountsTurns us
counts_turns us = record {
  values = λ levels. everywhere.eval_holds Counted all_counted (call us levels) (call_counted us levels);
  links = λ levels. everywhere.links_holds Counted all_counted (call us levels) (call_counted us levels);
  paths = λ levels. everywhere.path_holds Counted all_counted (call us levels) (call_counted us levels);
  rows = λ levels. everywhere.all_holds Counted all_counted (call us levels) (call_counted us levels);
  passed = λ levels. everywhere.arguments_holds Counted all_counted (call us levels) (call_counted us levels);
  targets = λ levels. everywhere.target_holds Counted all_counted (call us levels) (call_counted us levels);
  statement = λ levels. everywhere.run_holds Counted all_counted (call us levels) (call_counted us levels);
  statements = λ levels. everywhere.run_all_holds Counted all_counted (call us levels) (call_counted us levels);
  arms = λ levels. everywhere.arms_holds Counted all_counted (call us levels) (call_counted us levels);
  whiles = everywhere.while_holds Counted all_counted;
  untils = everywhere.repeat_holds Counted all_counted;
  counted = everywhere.count_holds Counted all_counted;
  functions = call_counted us;
  makes = everywhere.variables_holds Counted all_counted make_counted us;
  texts = λ number. everywhere.text_holds Counted all_counted make_counted us number busy_counted;
}

-- ---- processes

module _ (f : State → Out Flow) (s : State) where
  abbrev does : ℕ → Doing
  does n = doing_of (f (with_left n s))

  none_or_busy : (used : ℕ) → (1 ≤ used → does used ≡ doing.Busy) → (used ≡ 0) ⊎ (does used ≡ doing.Busy)
  none_or_busy zero busy = inl refl
  none_or_busy (suc used) busy = inr (busy (omega arith))

  counts_reached : (out : ℕ → Out Flow) (left : ℕ) (d : Doing) → Counts f s out left → ((n : ℕ) → doing_of (out n) ≡ d) →
      (used : ℕ) × (used ≤ s.left) × Reaches does used d
  counts_reached out left d h same = (
    h.used,
    omega (arith, h.all),
    (ap doing_of (h.enough 1 (λ some. omega arith)) ∙ same 1, none_or_busy h.used (λ some. ap doing_of (h.short h.used some (omega arith)))),
  )

  reached : (o : Out Flow) → CountedTo f s o → (doing_of o ≡ doing.Busy → ⊥) → (used : ℕ) × (used ≤ s.left) × Reaches does used (doing_of o)
  reached (Goes flow s1) h calm = counts_reached (λ n. Goes flow (with_left n s1)) s1.left (doing_of (Goes flow s1)) h (λ n. refl)
  reached (Stops (Needs action)) h calm = counts_reached (λ n. Stops (Needs action)) h.0 (doing_of (Stops (Needs action))) h.1 (λ n. refl)
  reached (Stops (Faults fault)) h calm = counts_reached (λ n. Stops (Faults fault)) h.0 (doing_of (Stops (Faults fault))) h.1 (λ n. refl)
  reached (Stops Busy) h calm = absurd (calm refl)

pub takes_turns : (us : List Source) → TakesTurns us
takes_turns us text number args replies n calm =
    let f : State → Out Flow = text_run us number args (slice_get (process_texts us) text.0) in
    let s : State = record { frame = []; replies = replies; left = n } in
    reached f s (f s) (((counts_turns us).texts number args (slice_get (process_texts us) text.0)).counted s) calm
