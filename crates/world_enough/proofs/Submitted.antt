-- What was submitted is of few processes: of one, and of one more for each entry, at most.
use Rattle.std.proofs.Common.{◌≡◌, ◌≤◌, ◌<◌, ◌*◌, ◌+◌, ⊎_elim, ℕ, zero, suc, List, [], ◌∷◌, length, Some, sym, ap, ◌∙◌, arith, subst, length-append, length-take}
use Rattle.std.specs.Prelude.{slice_get}
use Rattle.value_core.specs.declared.action.Action.{Action}
use Rattle.value_core.specs.declared.action.Action.TheVariants as action
use Rattle.value_core.specs.declared.action.Line.{Line}
use Rattle.value_core.specs.declared.message.Message.{Message}
use Rattle.value_core.specs.History as history
use Rattle.book_law.specs.Book.{book}
use Rattle.book_law.specs.Course.{Course}
use Rattle.book_law.specs.Events.{In as Among}
use Rattle.book_law.specs.Events.{Runner}
use Rattle.book_law.specs.Passes.{Test}
use Rattle.book_law.proofs.Courses.{Sound, came_sound}
use Rattle.group_law.specs.Messages.{Messages, MessagesLaw}
use Rattle.group_rules.specs.Sets.{In}
use Rattle.group_rules.specs.World.{GroupWorld}
use Rattle.world_rules.specs.Frame.{Frame, group}
use Rattle.world_rules.specs.Processes.{Begun, begun_by, first_process, home_in, processes_from, processes_in, with_entry}
use Rattle.world_rules.specs.Standings.{process_count}
use Rattle.world_rules.specs.Worlds.{Book, World, agreed, group_world, singles_in}
use Rattle.world_course.specs.Corresponds.{Stands as WorldStands}
use Rattle.world_book.specs.Following.{HasCourse}
use Rattle.world_book.specs.Promise.{IsKept}
use Rattle.world_facts.specs.Processes.{AllBegin}
use Rattle.world_law.specs.Grouped.{Grouped}
use Rattle.world_law.specs.Lists.{OneList}

messages_of : (f : Frame) (w : World) → MessagesLaw Message → 2 * f.settings.resilience < f.settings.nodes → Grouped f w → Messages (group f) (group_world w)
messages_of f w law small grouped = subst (λ (z : GroupWorld Message). Messages (group f) z) (sym grouped.run) (law (group f) small grouped.events)

begun_few : (nodes parent place : ℕ) (act : Action) → length (begun_by nodes parent place act) ≤ 1
begun_few nodes parent place (action.Fork text args place_on) = omega arith
begun_few nodes parent place (action.Make kind object) = omega arith
begun_few nodes parent place (action.Call kind op object args) = omega arith
begun_few nodes parent place action.Ended = omega arith
begun_few nodes parent place (action.Faulted fault) = omega arith

from_few : (f : Frame) (ps : List Begun) (n : ℕ) (xs : List Message) → length (processes_from f ps n xs) ≤ length ps + length xs
from_few f ps n [] = omega arith
from_few f ps n (x ∷ xs) =
    let r = from_few f (with_entry f ps (suc n) x) (suc n) xs in
    let a = length-append ps (begun_by f.settings.nodes (home_in ps x.process.0) (suc n) x.action) in
    let b = begun_few f.settings.nodes (home_in ps x.process.0) (suc n) x.action in
    omega (arith, r, a, b)

low_in : {A : Type 0} (xs : List A) (i : ℕ) (x : A) → slice_get xs i ≡ Some x → i < length xs
low_in [] i x is = absurd (cc is)
low_in (y ∷ xs) zero x is = omega arith
low_in (y ∷ xs) (suc i) x is = let lt = low_in xs i x is in omega (arith, lt)

submitted_low : (f : Frame) (w : World) → AllBegin → HasCourse f (singles_in f w) w → IsKept f w → (x : Message) → In x (w.past.submitted x.process.0) → x.process.0 < process_count f w
submitted_low f w begins h kept x there = ⊎_elim
    (λ (o : Among x c.entered).
    let a = sound.kept.listed x o in
    let b = (begins f c.list).counted single in
    let e = ap (λ (l : List Message). length (processes_in f l)) h.list in
    omega (arith, a, b, e))
    (λ (o : (r : Runner) × (c.runners x.process.0 ≡ Some r) × (r.message ≡ Some x)).
    let a = low_in _ x.process.0 _ (sound.kept.stands x.process.0 o.0 o.1).process in
    let e = ap (λ (l : List Line). length (history.processes_of f.performs f.computes l)) same in
    let n = kept.processes.count in
    omega (arith, a, e, n))
    (sound.accounted x (st.asked x there).among)
  where
    single : Test
    single = singles_in f w

    c : Course
    c = h.course

    st : WorldStands f single w c
    st = h.follows.corresponds.stands

    sound : Sound single f.performs f.computes c
    sound = came_sound single f.performs f.computes c st.came

    same : book single f.performs c.list c.aside ≡ Book f w
    same = ap (λ (l : List Message). book single f.performs l c.aside) h.list ∙ ap (λ a. book single f.performs (agreed f w) a) st.beside

pub submitted_few : (f : Frame) (w : World) → MessagesLaw Message → 2 * f.settings.resilience < f.settings.nodes → AllBegin → Grouped f w → OneList f w → HasCourse f (singles_in f w) w → IsKept f w →
    (top : ℕ) → ((m : ℕ) → m < f.settings.nodes → length (w.nodes m).member.log ≤ top) → (i : ℕ) (x : Message) → In x (w.past.submitted i) → (group f).process x < top + 1
submitted_few f w law small begins grouped one h kept top short i x there =
    let e : x.process.0 ≡ i = (messages_of f w law small grouped).own i x there in
    let a = submitted_low f w begins h kept x (subst (λ (j : ℕ). In x (w.past.submitted j)) (sym e) there) in
    let b : process_count f w ≤ 1 + length (agreed f w) = from_few f (first_process f ∷ []) 0 (agreed f w) in
    let k = one.some in
    let l = ap length k.2 in
    let n = length-take (w.nodes k.0).member.applied (w.nodes k.0).member.log in
    let t = short k.0 k.1 in
    omega (arith, a, b, l, n, t)
