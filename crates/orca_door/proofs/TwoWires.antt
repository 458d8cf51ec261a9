-- What two wires that answer by their scripts answered in a call of the top.
use Rattle.std.proofs.Common.{◌≡◌, ◌∙◌, inl, inr, ◌≤◌, ℕ, List, [], ◌∷◌, length, map, Option, Some, None, ap, arith, refl, subst, sym, reverse}
use Rattle.std.specs.Prelude.{IfNone, IfSome, option_and_then, slice_get}
use Rattle.std.specs.List.{find}
use Rattle.std.proofs.lemmas.List.{length-map}
use Rattle.net_rules.specs.Answered.{Answered, AnsweredBehind, Answers}
use Rattle.net_rules.specs.Script.{act_of, is_due, left, without_first}
use Rattle.net_rules.specs.declared.asked.Asked.{Asked}
use Rattle.net_rules.specs.declared.asked.Asked.TheVariants.{Act, Packet}
use Rattle.net_rules.specs.declared.line.ScriptLine.{ScriptLine}
use Rattle.orca_io.specs.Files.{File}
use Rattle.orca_io.specs.declared.shelf.ShelfFault.{ShelfFault}
use Rattle.orca_io.specs.Reading.{FileRead}
use Rattle.command_files.specs.Sources.{Word}
use Rattle.command_output.specs.declared.statuses.TheConstants.{NO_MEMORY}
use Rattle.replica_choice.specs.declared.policy.Asked.{Asked as Question}
use Rattle.orca_cli.specs.declared.kept.Kept.{Kept}
use Rattle.orca_answers.specs.Choosing.{Chooser}
use Rattle.orca_answers.specs.Endings.{IsAnswer}
use Rattle.orca_cli.specs.Headline.{AreLoaded, AreUntouched, IsRunOf, Wires}
use Rattle.wires.specs.Wired.{Rule, Wired, by_script, plain, scripted}
use Rattle.orca_door.specs.Obeying.{AreTwo}
use Rattle.orca_door.specs.Served.{HaveAnswered, IsServed, fresh, wired}
use Rattle.orca_door.specs.Served as serves

-- ---- answers

-- behind none is all
answered_all : (answers : Answers) (asked : List Asked) → AnsweredBehind 0 answers asked → Answered answers asked
answered_all answers [] h = tt
answered_all answers (one ∷ before) h = (h.0 (omega arith), answered_all answers before h.1)

left_none : (asked : List Asked) → left [] asked ≡ []
left_none [] = refl
left_none (Packet question fate ∷ asked) = left_none asked
left_none (Act event_number act ∷ asked) = ap (without_first (is_due asked)) (left_none asked)

-- by the empty script all passes, and no act comes
passes : (asked : List Asked) → Answered (by_script []) asked → Answered plain asked
passes [] h = tt
passes (Packet question fate ∷ before) h = (h.0, passes before h.1)
passes (Act event_number act ∷ before) h =
    (h.0 ∙ ap (λ (l : List ScriptLine). option_and_then act_of (find (is_due before) l)) (left_none before), passes before h.1)

-- ---- the two wires

same_some : {X : Type 0} (x y : X) → Some x ≡ Some y → x ≡ y
same_some x y e = cc

-- both were loaded before they were asked anything, or never were, and the second has no script
record AreStill (after : Wires) : Type 0 where
  first : slice_get after.loaded 0 ≡ Some 0
  second : slice_get after.loaded 1 ≡ Some 0
  script : slice_get after.rules 1 ≡ Some (scripted [])

still_loaded : (lines : List ScriptLine) (after : Wires) → AreLoaded lines fresh after → AreStill after
still_loaded lines after h = record { first = h.since; second = h.others.loaded 0; script = h.others.rules 0 }

still_untouched : (policy : Chooser) (words : List Word) (files : Option (List File)) (earlier later : List FileRead) (status : ℕ) (after : Wires) (told : List Question) → AreUntouched policy words files earlier later status fresh after told → AreStill after
still_untouched policy words files earlier later status after told (inl same) = subst AreStill (sym same) (record { first = refl; second = refl; script = refl })
still_untouched policy words files earlier later status after told (inr lacked) = still_loaded lacked.lines after lacked.begun.loaded

have_answered : (wires : List Wired) → AreTwo wires → AreStill (wired wires) → HaveAnswered (wired wires)
have_answered wires both = subst (λ (l : List Wired). AreStill (wired l) → HaveAnswered (wired l)) (sym both.are) of_two
  where
    of_two : AreStill (wired (both.one ∷ both.two ∷ [])) → HaveAnswered (wired (both.one ∷ both.two ∷ []))
    of_two still =
        let none : both.two.script ≡ [] = ap (λ (r : Rule). r.script) (same_some (scripted both.two.script) (scripted []) still.script) in
        let first : both.one.loaded ≡ 0 = same_some both.one.loaded 0 still.first in
        let second : both.two.loaded ≡ 0 = same_some both.two.loaded 0 still.second in
        record {
          first = both.one.told;
          second = both.two.told;
          lines = both.one.script;
          told = refl;
          rules = ap (λ (s : List ScriptLine). scripted both.one.script ∷ scripted s ∷ []) none;
          answered = answered_all (by_script both.one.script) (reverse both.one.told)
              (subst (λ (n : ℕ). AnsweredBehind n (by_script both.one.script) (reverse both.one.told)) first both.first);
          passed = passes (reverse both.two.told) (subst (λ (s : List ScriptLine). Answered (by_script s) (reverse both.two.told)) none
              (answered_all (by_script both.two.script) (reverse both.two.told)
              (subst (λ (n : ℕ). AnsweredBehind n (by_script both.two.script) (reverse both.two.told)) second both.second)));
        }

-- ---- the call

-- there are two at first
pub two_made : (wires : List Wired) → wired wires ≡ fresh → (1 ≤ length wires) × (length wires ≤ 1000)
two_made wires is =
    let two : length wires ≡ 2 = sym (length-map wires (λ (w : Wired). w.told)) ∙ ap (λ (w : Wires). length w.told) is in
    (omega (arith, two), omega (arith, two))

-- there are still two wires
pub two_left : (policy : Chooser) (words : List Word) (files : Option (List File)) (earlier later : List FileRead) (status : ℕ) (old new : Option (List ℕ)) (told : List Question) (kept : Option Kept) (before : Wires) (wires : List Wired) → before ≡ fresh →
    IfNone kept (AreUntouched policy words files earlier later status before (wired wires) told) → IfSome kept (λ k. IsRunOf policy words files earlier later k status old new before (wired wires) told) → length wires ≡ 2
two_left policy words files earlier later status old new told kept before wires is untouched ran = sym (length-map wires (λ (w : Wired). w.told)) ∙ by kept untouched ran ∙ ap (λ (w : Wires). length w.told) is
  where
    by : (kept : Option Kept) → IfNone kept (AreUntouched policy words files earlier later status before (wired wires) told) → IfSome kept (λ k. IsRunOf policy words files earlier later k status old new before (wired wires) told) →
        length (map (λ (w : Wired). w.told) wires) ≡ length before.told
    by None (inl same) none = ap (λ (w : Wires). length w.told) same
    by None (inr lacked) none = lacked.begun.told.count
    by (Some k) none run = run.run.run.told.count

pub is_served : (policy : Chooser) (words : List Word) (files : Option (List File)) (earlier later : List FileRead) (stopped : ShelfFault → Word → Type 0) (old new : Option (List ℕ)) (status : ℕ) (told : List Question) (kept : Option Kept) (before : Wires) (wires : List Wired) → before ≡ fresh → AreTwo wires →
    IfNone kept (IsAnswer policy words files earlier later stopped old new status told) → IfNone kept (AreUntouched policy words files earlier later status before (wired wires) told) → IfSome kept (λ k. IsRunOf policy words files earlier later k status old new before (wired wires) told) →
    IsServed policy words files earlier later stopped old new status told
is_served policy words files earlier later stopped old new status told kept before wires is both answer untouched ran = by kept answer untouched ran
  where
    by : (kept : Option Kept) → IfNone kept (IsAnswer policy words files earlier later stopped old new status told) → IfNone kept (AreUntouched policy words files earlier later status before (wired wires) told) →
        IfSome kept (λ k. IsRunOf policy words files earlier later k status old new before (wired wires) told) → IsServed policy words files earlier later stopped old new status told
    by None answer untouched none =
        let same = subst (λ (b : Wires). AreUntouched policy words files earlier later status b (wired wires) told) is untouched in
        serves.ended (wired wires) (have_answered wires both (still_untouched policy words files earlier later status (wired wires) told same)) answer same
    by (Some k) none nothing run =
        let same = subst (λ (b : Wires). IsRunOf policy words files earlier later k status old new b (wired wires) told) is run in
        serves.ran k (wired wires) (have_answered wires both (still_loaded same.lines (wired wires) same.loaded)) same

-- where there was no memory for the wires
pub none_made : (policy : Chooser) (words : List Word) (files : Option (List File)) (reads : List FileRead) (stopped : ShelfFault → Word → Type 0) (old : Option (List ℕ)) (status : ℕ) → status ≡ NO_MEMORY → IsServed policy words files reads reads stopped old old status policy.told
none_made policy words files reads stopped old status lacked =
    serves.ended fresh (record { first = []; second = []; lines = []; told = refl; rules = refl; answered = tt; passed = tt }) (inr (lacked, refl, inl refl)) (inl refl)
