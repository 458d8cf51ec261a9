-- The line of a standing is that of the lowest process of which there is something to say.
use Rattle.std.proofs.Common.{◌≡◌, ◌∙◌, ◌<◌, ◌+◌, ℕ, zero, suc, List, [], ◌∷◌, Option, Some, None, ap, sym, subst, refl, arith}
use Rattle.std.specs.Prelude.{slice_get}
use Rattle.std.proofs.lemmas.Bool.{eq-eqb}
use Rattle.value_core.specs.declared.action.Action.{Action}
use Rattle.world_rules.specs.declared.standing.Standing.{Standing}
use Rattle.world_rules.specs.declared.standing.Standing.TheVariants.{Limit, OutOfTurns, OutOfEvents, NoGroup, Faulted, Blocked, Finished, Going}
use Rattle.world_rules.specs.Frame.{Frame}
use Rattle.world_rules.specs.Worlds.{World}
use Rattle.run_ends.specs.declared.ends.ProcessEnd.{ProcessEnd}
use Rattle.orca_cli.specs.declared.kept.Kept.{Kept}
use Rattle.orca_cli.specs.Lines.{blocked_line, faulted_line, turns_line}
use Rattle.orca_cli.specs.Rows.{KeptRow}
use Rattle.orca_cli.specs.Said.{ending_line, fault_said, first_faulted, first_of, first_spent, first_waiting, or_later, spent_said, wait_said}
use Rattle.orca_cli.specs.Standings.{IsEndingLine, IsLowest, IsOfLowest, awaited_of, fault_of, spent_of}
use Rattle.orca_cli.proofs.ReportLemmas.{spent_is}

-- of no process there is anything to say
abbrev NoneSays : {A : Type 0} → (ProcessEnd → Option A) → List ProcessEnd → Type 0
NoneSays says ends = (i : ℕ) (end : ProcessEnd) → slice_get ends i ≡ Some end → says end ≡ None

-- what was found is the lowest, where the processes are numbered from here on, or there is none
abbrev IsFound : {A : Type 0} → (ProcessEnd → Option A) → ℕ → List ProcessEnd → Option (ℕ × A) → Type 0
IsFound says start ends None = NoneSays says ends
IsFound says start ends (Some one) = (k : ℕ) × (one.0 ≡ start + k) × IsLowest says ends k one.1

module _ {A : Type 0} (says : ProcessEnd → Option A) where
  none_behind : (e : ProcessEnd) (ends : List ProcessEnd) (i : ℕ) (end : ProcessEnd) → says e ≡ None → NoneSays says ends → slice_get (e ∷ ends) i ≡ Some end → says end ≡ None
  none_behind e ends zero end none rest there = let same : e ≡ end = cc there in ap says (sym same) ∙ none
  none_behind e ends (suc i) end none rest there = rest i end there

  none_below : (e : ProcessEnd) (ends : List ProcessEnd) (k i : ℕ) (end : ProcessEnd) → says e ≡ None → ((i : ℕ) (lower : ProcessEnd) → i < k → slice_get ends i ≡ Some lower → says lower ≡ None) → i < suc k
      → slice_get (e ∷ ends) i ≡ Some end → says end ≡ None
  none_below e ends k zero end none rest lt there = let same : e ≡ end = cc there in ap says (sym same) ∙ none
  none_below e ends k (suc i) end none rest lt there = rest i end (omega (arith, lt)) there

  one_more : (start : ℕ) (e : ProcessEnd) (ends : List ProcessEnd) (o : Option A) (later : Option (ℕ × A)) → says e ≡ o → IsFound says (suc start) ends later → IsFound says start (e ∷ ends) (or_later start o later)
  one_more start e ends (Some x) later is h = (0, omega arith, (e, refl, is, λ i lower lt there. absurd (omega (arith, lt))))
  one_more start e ends None None is h = λ i end there. none_behind e ends i end is h there
  one_more start e ends None (Some one) is h =
      let number = h.1 in (suc h.0, omega (arith, number), (h.2.0, h.2.1, h.2.2, λ i lower lt there. none_below e ends h.0 i lower is h.2.3 lt there))

  pub found_from : (ends : List ProcessEnd) (start : ℕ) → IsFound says start ends (first_of says start ends)
  found_from [] start = λ i end there. absurd (cc there)
  found_from (e ∷ ends) start = one_more start e ends (says e) (first_of says (suc start) ends) refl (found_from ends (suc start))

  -- so where there is something to say of some process, the line is that of the lowest
  pub of_lowest : (told : ℕ → A → List ℕ) (said : Option (ℕ × A) → List ℕ) → ((one : ℕ × A) → said (Some one) ≡ told one.0 one.1) → (ends : List ProcessEnd) (found : Option (ℕ × A)) → IsFound says 0 ends found → (NoneSays says ends → ⊥)
      → IsOfLowest says told ends (said found)
  of_lowest told said so ends None h some = absurd (some h)
  of_lowest told said so ends (Some one) h some =
      let number : h.0 ≡ one.0 = let place = h.1 in omega (arith, place) in
      (one.0, one.1, subst (λ (n : ℕ). IsLowest says ends n one.1) number h.2, so one)

apart : {A : Type 0} (x : A) (o : Option A) → o ≡ Some x → o ≡ None → ⊥
apart x o some none = let e : Some x ≡ None = sym some ∙ none in cc e

-- by the row of the standing there is
pub ending_is : (f : Frame) (w : World) (k : Kept) (name : Action → List ℕ) (s : Standing) → KeptRow f w k s → IsEndingLine name f.settings.turns s k.processes.items (ending_line name f.settings.turns s k.processes.items)
ending_is f w k name Faulted row =
    of_lowest (λ (end : ProcessEnd). fault_of end.standing) faulted_line fault_said (λ one. refl) k.processes.items (first_faulted k.processes.items)
    (found_from (λ (end : ProcessEnd). fault_of end.standing) k.processes.items 0)
    (λ none. apart row.1 (fault_of row.2.0.standing) (ap fault_of row.2.2) (none row.0 row.2.0 row.2.1))
ending_is f w k name Blocked row =
    let one = row.1 in
    of_lowest (λ (end : ProcessEnd). awaited_of end.standing) (λ n act. blocked_line n (name act)) (wait_said name) (λ one. refl) k.processes.items (first_waiting k.processes.items)
    (found_from (λ (end : ProcessEnd). awaited_of end.standing) k.processes.items 0)
    (λ none. apart one.act (awaited_of one.waits.0.standing) (ap awaited_of one.waits.2) (none one.number one.waits.0 one.waits.1))
ending_is f w k name OutOfTurns row =
    of_lowest (spent_of f.settings.turns) (λ n spent. turns_line n) spent_said (λ one. refl) k.processes.items (first_spent f.settings.turns k.processes.items)
    (found_from (spent_of f.settings.turns) k.processes.items 0)
    (λ none. apart tt (spent_of f.settings.turns row.some.end) (spent_is f.settings.turns row.some.end (eq-eqb row.some.end.turns f.settings.turns row.some.turns)) (none row.number row.some.end row.some.kept))
ending_is f w k name (Limit what number) row = refl
ending_is f w k name OutOfEvents row = refl
ending_is f w k name NoGroup row = refl
ending_is f w k name Finished row = refl
ending_is f w k name Going row = refl
