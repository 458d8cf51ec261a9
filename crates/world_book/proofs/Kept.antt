-- Every replayed world follows a course that came, beside a run of the group: step by step.
use Rattle.std.proofs.Common.{◌++◌, ◌≡◌, ◌<◌, ◌*◌, ℕ, List, [], ◌∷◌, refl, sym, ap, ◌∙◌, subst}
use Rattle.value_core.specs.declared.message.Message.{Message}
use Rattle.book_law.specs.Book.{book, up_to}
use Rattle.book_law.specs.declared.placing.Placed.{Placed}
use Rattle.book_law.specs.Course.{Course, opening_course}
use Rattle.book_law.specs.Passes.{Test}
use Rattle.group_law.specs.Messages.{MessagesLaw}
use Rattle.world_rules.specs.declared.event.Event as world
use Rattle.world_rules.specs.declared.event.Event.TheVariants as event
use Rattle.world_rules.specs.declared.event.Step.{Step}
use Rattle.world_rules.specs.Frame.{Frame, group}
use Rattle.world_rules.specs.Steps.{Leads, Next, Replays}
use Rattle.world_rules.specs.Worlds.{Book, World, agreed, opening_world, singles_in}
use Rattle.world_law.specs.Gives.{AllGive}
use Rattle.world_law.specs.Grouped.{Grouped, MaySubmit, Submits}
use Rattle.world_law.specs.Holds.{AllHold, Holds, StepsHold}
use Rattle.world_law.specs.Lists.{AllGrow, ListsGrow, OneList}
use Rattle.world_law.proofs.Ages.{Fresh, opening_fresh, step_later}
use Rattle.world_course.specs.Chain.{Leads as Chain}
use Rattle.world_course.specs.Corresponds.{Agrees, Stands}
use Rattle.world_course.specs.Errands.{Follows}
use Rattle.world_course.specs.Law.{AreCourses}
use Rattle.world_course.proofs.Entry.{agrees_take}
use Rattle.world_book.specs.Promise.{applied_book}
use Rattle.world_book.proofs.Agreeing.{agrees_all, agrees_before}
use Rattle.world_book.proofs.Giving.{given}
use Rattle.world_book.proofs.Homes.{AtHome, homes_stay}
use Rattle.world_book.proofs.Listing.{list_is}
use Rattle.world_book.proofs.Rests.{AllRead, opening_read, read_step}
use Rattle.world_book.proofs.Submitting.{may}
use Rattle.book_law.specs.Fitness.{ArgsFit, ReplyFits, TextFits}
use Rattle.book_law.specs.Machines.{RunsFit}
use Rattle.world_book.specs.Following.{HasCourse}

-- the laws that this stands on
pub record Laws (f : Frame) : Type 1 where
  pub small : 2 * (group f).resilience < (group f).nodes
  pub messages : MessagesLaw Message
  pub holds : AllHold
  pub gives : AllGive
  pub lists : AllGrow
  pub courses : AreCourses f
  pub fits_args : ArgsFit
  pub fits_text : TextFits
  pub fits_reply : ReplyFits
  pub fit : RunsFit f.performs f.computes fits_args fits_text fits_reply

-- what is carried from step to step: for each test that agrees with the choices of the list a course, and the rest, which knows no test
pub record Kept (f : Frame) (w : World) : Type 0 where
  pub courses : (single : Test) → Agrees f single (agreed f w) → HasCourse f single w
  pub holds : Holds f w
  pub homes : AtHome w
  pub fresh : (m : ℕ) → Fresh (w.nodes m)
  pub reads : AllRead f w

pub grouped_of : (f : Frame) (w : World) → Kept f w → Grouped f w
grouped_of f w k = let h = k.holds in h.grouped

-- by the run's own test
pub course_of : (f : Frame) (w : World) → Kept f w → HasCourse f (singles_in f w) w
course_of f w k = k.courses (singles_in f w) (λ o lt. refl)

-- ---- steps

-- whose list is the world's
abbrev has_course : (f : Frame) (single : Test) (w : World) (c : Course) → Follows f single w c → Grouped f w → OneList f w → HasCourse f single w
has_course f single w c follows grouped one = record {
  course = c;
  follows = follows;
  list = sym (list_is f single w c follows.corresponds grouped one);
}

pub opening_kept : (f : Frame) → Laws f → Kept f (opening_world f)
opening_kept f laws =
    let steps : StepsHold f = laws.holds f laws.small in
    let lists : ListsGrow f = laws.lists f laws.small in
    let courses = laws.courses in
    record {
      courses = λ single agrees.
          let follows = courses.opening single (agrees_take f single (agreed f (opening_world f)) 0 agrees) in
          let here = steps.opening in
          has_course f single (opening_world f) (opening_course f.computes 0) follows here.grouped (lists.one (opening_world f) here.grouped);
      holds = steps.opening;
      homes = λ i m is. absurd (cc is);
      fresh = λ m. opening_fresh f m;
      reads = opening_read f;
    }

pub stands_for : (f : Frame) (single : Test) (w : World) (h : HasCourse f single w) → Stands f single w h.course
stands_for f single w h = let g = h.follows in let is = g.corresponds in is.stands

pub kept_may : (f : Frame) (w : World) → Laws f → Kept f w → (i : ℕ) → MaySubmit f w i
kept_may f w laws k i =
    let h = course_of f w k in
    may laws.messages f (singles_in f w) laws.small w h.course (stands_for f (singles_in f w) w h) (grouped_of f w k) k.homes i

pub submits : (f : Frame) (w : World) (e : world.Event) → ((i : ℕ) → MaySubmit f w i) → Submits f w e
submits f w (event.Act process) may = may process.0
submits f w (event.Burst process place turns) may = tt
submits f w (event.Deliver packet copy) may = tt
submits f w event.Tick may = tt
submits f w (event.Crash node) may = tt
submits f w (event.Suspect node) may = tt
submits f w event.Swap may = tt

-- what a step makes of a course
pub record Lifted (f : Frame) (single : Test) (w v : World) : Type 0 where
  pub more : List Message
  pub grows : agreed f v ≡ agreed f w ++ more
  pub before : HasCourse f single w
  pub after : HasCourse f single v
  pub leads : Chain single f.performs f.computes before.course after.course

pub lifts : (f : Frame) (w v : World) (step : Step) → Laws f → Next f w step v → Kept f w → Holds f v → (single : Test) → Agrees f single (agreed f v) → Lifted f single w v
lifts f w v step laws next k goes single agrees =
    let may : Submits f w step.event = submits f w step.event (kept_may f w laws k) in
    let lists : ListsGrow f = laws.lists f laws.small in
    let grown = lists.grows w v step next may (grouped_of f w k) in
    let courses = laws.courses in
    let gives = laws.gives f laws.small w step.event next.given (grouped_of f w k) next.possible may in
    let before = k.courses single (agrees_before f single (agreed f w) grown.0 (agreed f v) grown.1 agrees) in
    let on = courses.steps single w v before.course step before.follows next (given f w step.event gives)
    (agrees_all f single v goes.grouped (lists.one v goes.grouped) agrees) in
    record {
      more = grown.0;
      grows = grown.1;
      before = before;
      after = has_course f single v on.0 on.2 goes.grouped (lists.one v goes.grouped);
      leads = on.1;
    }

pub step_kept : (f : Frame) (w v : World) (step : Step) → Laws f → Next f w step v → Kept f w → Kept f v
step_kept f w v step laws next k =
    let may : Submits f w step.event = submits f w step.event (kept_may f w laws k) in
    let steps : StepsHold f = laws.holds f laws.small in
    let goes : Holds f v = steps.step w v step next may k.holds in
    let gone = step_later f w v step next k.fresh in
    record {
      courses = λ single agrees. let lifted = lifts f w v step laws next k goes single agrees in lifted.after;
      holds = goes;
      homes = homes_stay f w v step next gone.later k.homes;
      fresh = gone.fresh;
      reads = read_step f w v step next k.fresh k.reads;
    }

all_kept : (f : Frame) (w : World) (steps : List Step) (v : World) → Laws f → Leads f w steps v → Kept f w → Kept f v
all_kept f w [] v laws leads k = subst (Kept f) (sym leads) k
all_kept f w (step ∷ steps) v laws (u, next, leads) k = all_kept f u steps v laws leads (step_kept f w u step laws next k)

pub replayed : (f : Frame) (steps : List Step) (w : World) → Laws f → Replays f steps w → Kept f w
replayed f steps w laws replays = all_kept f (opening_world f) steps w laws replays (opening_kept f laws)

-- ---- what is told of a world

-- the book of the world is the course's, by the run's own test
pub book_kept : (f : Frame) (w : World) (h : HasCourse f (singles_in f w) w) → Book f w ≡ book (singles_in f w) f.performs h.course.list h.course.aside
book_kept f w h =
    let st = stands_for f (singles_in f w) w h in
    ap (λ (l : List Message). book (singles_in f w) f.performs l w.aside) (sym h.list)
    ∙ ap (λ (a : List Placed). book (singles_in f w) f.performs h.course.list a) (sym st.beside)

-- what a member applied, by number
pub number_kept : (f : Frame) (single : Test) (w : World) → (k : Kept f w) → (h : HasCourse f single w) → (m : ℕ) → (w.nodes m).member.applied ≡ h.course.applied m
number_kept f single w k h m =
    let st = stands_for f single w h in
    let mem = st.members m in
    let grouped = grouped_of f w k in
    grouped.level m ∙ sym mem.applied

-- the book up to what a member applied
pub up_kept : (f : Frame) (w : World) (k : Kept f w) → (h : HasCourse f (singles_in f w) w) → (m : ℕ) → applied_book f w m ≡ up_to (singles_in f w) f.performs h.course.list h.course.aside (h.course.applied m)
up_kept f w k h m =
    let st = stands_for f (singles_in f w) w h in
    ap (λ (l : List Message). up_to (singles_in f w) f.performs l w.aside (w.nodes m).member.applied) (sym h.list)
    ∙ ap (λ (a : List Placed). up_to (singles_in f w) f.performs h.course.list a (w.nodes m).member.applied) (sym st.beside)
    ∙ ap (λ (n : ℕ). up_to (singles_in f w) f.performs h.course.list h.course.aside n) (number_kept f (singles_in f w) w k h m)
