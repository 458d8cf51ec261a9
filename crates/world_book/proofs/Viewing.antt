-- What a burst sees at a place stays what it is in each step.
use Rattle.std.proofs.Common.{◌≡◌, ◌≤◌, ℕ, suc, ⊎_elim, List, length, refl, sym, ap, ◌∙◌, arith, subst}
use Rattle.std.proofs.lemmas.Bool.{cases_eq}
use Rattle.std.proofs.lemmas.List.{take-append-le}
use Rattle.value_core.specs.declared.message.Message.{Message}
use Rattle.value_core.specs.Meaning.{Computes, Performs}
use Rattle.object_manager.specs.After.{opening_copies}
use Rattle.book_law.specs.Book.{copies_at}
use Rattle.book_law.specs.Course.{Course, Next as Happens, with_at}
use Rattle.book_law.specs.Course.Next.{Submits, Orders, Forks, Applies, Reads_at, Takes_call, Hears_answer}
use Rattle.book_law.specs.Passes.{Test, after_all}
use Rattle.book_law.proofs.Courses.{at_other, at_own, came_sound}
use Rattle.world_rules.specs.declared.event.Step.{Step}
use Rattle.world_rules.specs.Frame.{Frame}
use Rattle.world_rules.specs.Steps.{Next, objects_after}
use Rattle.world_rules.specs.Worlds.{World, agreed, singles_in}
use Rattle.world_course.specs.Chain.{Leads}
use Rattle.world_course.specs.Chain.Leads.{By, Stays}
use Rattle.world_book.specs.Following.{HasCourse}
use Rattle.world_book.proofs.Kept.{Kept, Laws, Lifted, lifts, number_kept, stands_for, step_kept}
use Rattle.world_book.proofs.Told.{viewed}

-- no member's number falls
next_applied : (single : Test) (p : Performs) (q : Computes) (w v : Course) → Happens single p q w v → (m : ℕ) → w.applied m ≤ v.applied m
next_applied single p q w v (Submits j x y here free asks e) m = subst (λ (u : Course). w.applied m ≤ u.applied m) (sym e) (omega arith)
next_applied single p q w v (Orders x r here was new may plain e) m = subst (λ (u : Course). w.applied m ≤ u.applied m) (sym e) (omega arith)
next_applied single p q w v (Forks x born member was new forks e) m = subst (λ (u : Course). w.applied m ≤ u.applied m) (sym e) (omega arith)
next_applied single p q w v (Applies n y is e) m = subst (λ (u : Course). w.applied m ≤ u.applied m) (sym e) (⊎_elim
    (λ (same : m ≡ n).
    let g : with_at w.applied n (suc (w.applied n)) m ≡ suc (w.applied n) = ap (with_at w.applied n (suc (w.applied n))) same ∙ at_own w.applied n (suc (w.applied n)) in
    let one = ap w.applied same in
    omega (arith, g, one))
    (λ apart. let g = at_other w.applied n (suc (w.applied n)) m apart in omega (arith, g))
    (cases_eq m n))
next_applied single p q w v (Reads_at j x n line here reads e) m = subst (λ (u : Course). w.applied m ≤ u.applied m) (sym e) (omega arith)
next_applied single p q w v (Takes_call i x r call takes e) m = subst (λ (u : Course). w.applied m ≤ u.applied m) (sym e) (omega arith)
next_applied single p q w v (Hears_answer j x r here has reached e) m = subst (λ (u : Course). w.applied m ≤ u.applied m) (sym e) (omega arith)

leads_applied : (single : Test) (p : Performs) (q : Computes) (c d : Course) → Leads single p q c d → (m : ℕ) → c.applied m ≤ d.applied m
leads_applied single p q c d (Stays e) m = omega arith
leads_applied single p q c d (By e u t next rest) m =
    let one = next_applied single p q c u next m in
    let two = leads_applied single p q u d rest m in
    omega (arith, one, two)

-- at a place that the member applied
pub views_stay : (f : Frame) (w v : World) (step : Step) → Laws f → Next f w step v → (k : Kept f w) (m n : ℕ) → n ≤ (w.nodes m).member.applied →
    objects_after f (v.nodes m) n ≡ objects_after f (w.nodes m) n
views_stay f w v step laws next k m n le =
    viewed f single v laws after lifted.after m n reached
    ∙ ap (λ (l : List Message). (copies_at single f.performs l n).objects) lifted.grows
    ∙ ap (λ (l : List Message). (after_all single f.performs opening_copies l).objects) (take-append-le n (agreed f w) lifted.more short)
    ∙ sym (viewed f single w laws k lifted.before m n le)
  where
    single : Test
    single = singles_in f v

    after : Kept f v
    after = step_kept f w v step laws next k

    lifted : Lifted f single w v
    lifted = lifts f w v step laws next k after.holds single (λ o lt. refl)

    before : HasCourse f single w
    before = lifted.before

    later : HasCourse f single v
    later = lifted.after

    reached : n ≤ (v.nodes m).member.applied
    reached =
        let one = number_kept f single w k before m in
        let two = number_kept f single v after later m in
        let grows = leads_applied single f.performs f.computes before.course later.course lifted.leads m in
        omega (arith, le, one, two, grows)

    short : n ≤ length (agreed f w)
    short =
        let st = stands_for f single w before in
        let sound = came_sound single f.performs f.computes before.course st.came in
        let kept = sound.kept in
        let one = number_kept f single w k before m in
        let within = kept.within m in
        let same = ap (λ (l : List Message). length l) before.list in
        omega (arith, le, one, within, same)
