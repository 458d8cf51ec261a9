-- Messages and replies of a run are those of its course, which are sound; so what travels is.
use Rattle.std.proofs.Common.{◌≡◌, ◌≤◌, ◌*◌, inl, inr, ⊎_elim, ℕ, true, List, [], ◌∷◌, ◌++◌, length, refl, sym, ap, ◌∙◌, arith, subst}
use Rattle.std.proofs.Math.Bool.{Bool-set}
use Rattle.std.specs.Prelude.{IsTrue}
use Rattle.orca_base.specs.declared.ids.CallNo.{CallNo}
use Rattle.orca_base.specs.declared.ids.ProcessNo.{ProcessNo}
use Rattle.orca_base.specs.declared.limits.TheConstants.{EVENTS, NODES}
use Rattle.value_core.specs.Fits.{AreNumbered}
use Rattle.value_core.specs.History.{most_turns}
use Rattle.value_core.specs.Performable.{is_performable}
use Rattle.value_core.specs.Sound.{IsSoundMessage}
use Rattle.value_core.specs.declared.action.Action.{Action}
use Rattle.value_core.specs.declared.meaning.Doing.TheVariants as doing
use Rattle.value_core.specs.declared.action.Line.{Line}
use Rattle.value_core.specs.declared.message.Message.{Message}
use Rattle.group_rules.specs.Sets.{In as IsIn}
use Rattle.group_rules.specs.World.{GroupWorld}
use Rattle.group_law.specs.Messages.{Messages}
use Rattle.group_law.specs.Numbers.{Numbers, NumbersLaw, coordinations, submissions}
use Rattle.object_manager.specs.After.{Copied}
use Rattle.object_manager.specs.Singles.{kinds_at}
use Rattle.book_law.specs.Book.{copies_at}
use Rattle.book_law.specs.Course.{Came, Course, submitted}
use Rattle.book_law.specs.Course.Next.{Submits}
use Rattle.book_law.specs.Course.Came.{Then}
use Rattle.book_law.specs.Events.{In}
use Rattle.book_law.specs.Machines.{AllFit, AllSound, IsNumbered, RunsSound as CoursesSound}
use Rattle.book_law.specs.Promise.{IsInBook, WereAsked}
use Rattle.book_law.specs.declared.placing.Placed.{Placed}
use Rattle.book_law.proofs.Asked.{entered_asked}
use Rattle.book_law.proofs.Books.{copies_more}
use Rattle.book_law.proofs.InBook.{all_in_book}
use Rattle.book_law.proofs.Running.{processes_run}
use Rattle.world_rules.specs.declared.event.Step.{Step}
use Rattle.world_rules.specs.Frame.{Frame, group}
use Rattle.world_rules.specs.Played.Stage.{Acting, Asking}
use Rattle.world_rules.specs.Steps.{Leads, Next, Replays}
use Rattle.world_rules.specs.Worlds.{World, agreed, group_world, opening_world, singles_in}
use Rattle.world_facts.specs.Processes.{AllStand, ProcessesStand}
use Rattle.world_law.specs.Counts.{AllCount, Counted, StepsCount}
use Rattle.world_law.specs.Grouped.{Grouped}
use Rattle.world_law.specs.Holds.{Holds}
use Rattle.world_law.specs.SoundPackets.{AllLettersSound, FlySound, LettersSound, NextSound, SaidSound}
use Rattle.world_course.specs.Corresponds.{Stands}
use Rattle.world_course.specs.Processes.{IsFreeAt, IsOut, IsRunner, StageStands}
use Rattle.world_book.specs.Following.{HasCourse}
use Rattle.world_book.specs.Sounding.{IsSound}
use Rattle.world_book.proofs.Kept.{Kept, Laws, book_kept, course_of, grouped_of, kept_may, opening_kept, stands_for, step_kept, submits}
use Rattle.world_book.proofs.Submitting.{IsRun, run_of}
use Rattle.world_book.proofs.Told.{shared_kept}

-- what this stands on, beside the other laws
pub record SoundLaws (f : Frame) : Type 0 where
  pub few : f.settings.nodes ≤ NODES
  pub events : f.settings.events ≤ EVENTS
  pub courses : CoursesSound f.performs f.computes
  pub letters : AllLettersSound
  pub numbers : NumbersLaw Message
  pub counts : AllCount
  pub processes : AllStand

-- the world is one of a run, after as many steps as there may be
record IsReached (f : Frame) (w : World) : Type 0 where
  done : List Step
  replays : Replays f done w
  short : w.steps ≤ f.settings.events

leads_on : (f : Frame) (w u v : World) (steps : List Step) (step : Step) → Leads f w steps u → Next f u step v → Leads f w (steps ++ step ∷ []) v
leads_on f w u v [] step leads next = (v, subst (λ (z : World). Next f z step v) leads next, refl)
leads_on f w u v (one ∷ steps) step (t, first, rest) next = (t, first, leads_on f t u v steps step rest next)

next_reached : (f : Frame) (w v : World) (step : Step) → Laws f → SoundLaws f → Next f w step v → IsReached f w → IsReached f v
next_reached f w v step laws more next r =
    let counts : StepsCount f = more.counts f laws.small in
    let within = counts.within w v step next in
    let one = within.0 in
    let less = within.1 in
    record {
      done = r.done ++ step ∷ [];
      replays = leads_on f (opening_world f) w v r.done step r.replays next;
      short = omega (arith, one, less);
    }

-- ---- messages

abbrev made : ProcessNo → CallNo → (a : Action) → IsTrue (is_performable a) → Message
made i n a ok = record { process = i; call = n; action = a; performable = ok }

-- a message is its process, its number and its action
one_message : (x y : Message) → x.process ≡ y.process → x.call ≡ y.call → x.action ≡ y.action → x ≡ y
one_message x y process number act =
    ap (λ (i : ProcessNo). made i x.call x.action x.performable) process ∙ ap (λ (n : CallNo). made y.process n x.action x.performable) number
    ∙ subst (λ (z : Action). (p : IsTrue (is_performable z)) → made y.process y.call z p ≡ y) (sym act)
    (λ p. ap (λ (k : IsTrue (is_performable y.action)). made y.process y.call y.action k) (Bool-set (is_performable y.action) true p y.performable)) x.performable

in_book : {A : Type 0} (x : A) (xs : List A) → IsIn x xs → In x xs
in_book x [] h = absurd h
in_book x (y ∷ xs) (inl e) = inl e
in_book x (y ∷ xs) (inr h) = inr (in_book x xs h)

-- ---- numbers

-- a member applied no more entries than the run had steps
applied_few : (f : Frame) (w : World) (m : ℕ) → Laws f → SoundLaws f → Kept f w → (w.nodes m).member.applied ≤ w.steps
applied_few f w m laws more k =
    let counted : Counted f (group_world w) w.steps (f.settings.nodes * w.steps) = let h = k.holds in h.counted in
    let numbers : Numbers (group_world w) (submissions counted.events) (2 * (group f).nodes * coordinations counted.events) =
    subst (λ (z : GroupWorld Message). Numbers z (submissions counted.events) (2 * (group f).nodes * coordinations counted.events)) (sym counted.run) (more.numbers (group f) laws.small counted.events) in
    let within = numbers.members m in
    let applied = within.applied in
    let few = counted.few in
    omega (arith, applied, few)

-- some member applied the whole list, so the ids of the objects that its entries made have numbers that fit
course_numbered : (f : Frame) (w : World) → Laws f → SoundLaws f → IsReached f w → (k : Kept f w) → (n : ℕ) → n ≤ length (course_of f w k).course.list
    → AreNumbered (kinds_at (copies_at (singles_in f w) f.performs (course_of f w k).course.list n))
course_numbered f w laws more r k n le entry inside =
    let short = r.short in
    let most = more.events in
    let level = grouped.level m in
    let applied = applied_few f w m laws more k in
    let reached = whole.1 in
    let process = id.process in
    let number = id.number in
    let list = ap (λ (l : List Message). (copies_at (singles_in f w) f.performs l (length l)).processes) h.list in
    let long = ap (λ (l : List Message). length l) h.list in
    let grows = copies_more (singles_in f w) f.performs (agreed f w) (length (agreed f w)) (w.nodes m).member.applied (omega (arith, reached, level, long)) in
    let copies = ap (λ (z : Copied). z.processes) (shared_kept f w k m) in
    let few = stand.few m in
    (omega (arith, process, list, grows, copies, few), omega (arith, number, reached, level, applied, short, most))
  where
    h : HasCourse f (singles_in f w) w
    h = course_of f w k

    st : Stands f (singles_in f w) w h.course
    st = stands_for f (singles_in f w) w h

    fit : AllFit (singles_in f w) f.performs f.computes laws.fits_args laws.fits_text laws.fits_reply h.course
    fit = laws.fit (singles_in f w) h.course st.came

    id : IsNumbered (singles_in f w) f.performs h.course entry.0
    id = fit.objects n entry le inside

    whole : (m : ℕ) × (length h.course.list ≤ (w.nodes m).copies.applied)
    whole = let g = h.follows in let is = g.corresponds in is.reached

    m : ℕ
    m = whole.0

    grouped : Grouped f w
    grouped = grouped_of f w k

    stand : ProcessesStand f w
    stand = more.processes f r.done w r.replays

course_sound : (f : Frame) (w : World) → Laws f → SoundLaws f → IsReached f w → (k : Kept f w) → AllSound (singles_in f w) f.performs (course_of f w k).course
course_sound f w laws more r k =
    let h = course_of f w k in
    let st = stands_for f (singles_in f w) w h in
    more.courses (singles_in f w) h.course st.came (course_numbered f w laws more r k)

-- ---- what was said

said_sound : (f : Frame) (w : World) → Laws f → SoundLaws f → IsReached f w → Kept f w → SaidSound w
said_sound f w laws more r k = record {
  submitted = λ i x is.
      let own : x.process.0 ≡ i = messages.own i x is in
      let asked = st.asked x (subst (λ (j : ℕ). IsIn x (w.past.submitted j)) (sym own) is) in
      all.messages x asked.among;
  performed = λ one is.
      let line = all.lines one.line (inside.beside one (subst (λ (a : List Placed). In one a) (sym st.beside) (in_book one w.aside is))) in
      line.reply;
}
  where
    c : Course
    c = (course_of f w k).course

    st : Stands f (singles_in f w) w c
    st = stands_for f (singles_in f w) w (course_of f w k)

    all : AllSound (singles_in f w) f.performs c
    all = course_sound f w laws more r k

    inside : IsInBook (singles_in f w) f.performs c
    inside = all_in_book (singles_in f w) f.performs f.computes c st.came

    messages : Messages (group f) (group_world w)
    messages = let g = grouped_of f w k in subst (Messages (group f)) (sym g.run) (laws.messages (group f) laws.small g.events)

-- ---- what is next

next_sound : (f : Frame) (w : World) → Laws f → SoundLaws f → IsReached f w → Kept f w → NextSound w
next_sound f w laws more reached k m i r act here out x of number is = ⊎_elim acting asking out
  where
    c : Course
    c = (course_of f w k).course

    st : Stands f (singles_in f w) w c
    st = stands_for f (singles_in f w) w (course_of f w k)

    one : IsRun f c m i r
    one = run_of f (singles_in f w) w c m i r st here

    runs : IsRunner f.computes i r one.runner
    runs = one.is

    process : x.process ≡ record { 0 = i }
    process = ap (λ (n : ℕ). record { 0 = n }) of

    call : x.call.0 ≡ length one.runner.replies
    call = number ∙ ap length (sym runs.replies)

    -- it may submit it, and then it was submitted
    acting : r.stage ≡ Acting act → IsSoundMessage x
    acting stage =
        let free : IsFreeAt f.computes i one.runner act = subst (StageStands f.computes i one.runner) stage runs.stage in
        let d : Course = submitted c i one.runner x in
        let came : Came (singles_in f w) f.performs f.computes d = Then c d st.came (Submits i one.runner x one.runs free.0 (record {
          process = of;
          call = call;
          next = ap (λ (n : ProcessNo). f.computes.doing one.runner.text n one.runner.args one.runner.replies most_turns) process ∙ free.1 ∙ ap doing.At (sym is);
        }) refl) in
        let all = more.courses (singles_in f w) d came (course_numbered f w laws more reached k) in
        all.messages x (inl refl)

    -- it has it out
    asking : r.stage ≡ Asking act → IsSoundMessage x
    asking stage =
        let has : IsOut one.runner act = subst (StageStands f.computes i one.runner) stage runs.stage in
        let run = processes_run (singles_in f w) f.performs f.computes c st.came in
        let p = run.each i one.runner one.runs in
        let asks = p.asks has.0 has.1 in
        let were : WereAsked c = entered_asked (singles_in f w) f.performs f.computes c st.came in
        let all = course_sound f w laws more reached k in
        let same : has.0 ≡ x = one_message has.0 x (ap (λ (n : ℕ). record { 0 = n }) (asks.process ∙ sym of)) (ap (λ (n : ℕ). record { 0 = n }) (asks.call ∙ sym call)) (has.2 ∙ sym is) in
        subst IsSoundMessage same (all.messages has.0 (were.out i one.runner has.0 one.runs has.1))

-- ---- what travels

step_flies : (f : Frame) (w v : World) (step : Step) → Laws f → SoundLaws f → Next f w step v → IsReached f w → Kept f w → Kept f v → FlySound f w → FlySound f v
step_flies f w v step laws more next r k after fly =
    let letters : LettersSound f = more.letters f laws.small more.few in
    let h : Holds f w = k.holds in
    letters.step w v step next (submits f w step.event (kept_may f w laws k)) h.grouped h.places h.numbered h.answers (next_sound f w laws more r k)
    (said_sound f v laws more (next_reached f w v step laws more next r) after) fly

all_fly : (f : Frame) (w : World) (steps : List Step) (v : World) → Laws f → SoundLaws f → Leads f w steps v → IsReached f w → Kept f w → FlySound f w → IsReached f v × Kept f v × FlySound f v
all_fly f w [] v laws more leads r k fly = (subst (IsReached f) (sym leads) r, subst (Kept f) (sym leads) k, subst (FlySound f) (sym leads) fly)
all_fly f w (step ∷ steps) v laws more (u, next, leads) r k fly =
    let after = step_kept f w u step laws next k in
    all_fly f u steps v laws more leads (next_reached f w u step laws more next r) after (step_flies f w u step laws more next r k after fly)

pub is_sound : (f : Frame) (steps : List Step) (w : World) → Laws f → SoundLaws f → Replays f steps w → IsSound f w
is_sound f steps w laws more replays =
    let first : IsReached f (opening_world f) = record { done = []; replays = refl; short = omega arith } in
    let all = all_fly f (opening_world f) steps w laws more replays first (opening_kept f laws) tt in
    record {
      said = said_sound f w laws more all.0 all.1;
      next = next_sound f w laws more all.0 all.1;
      lines = λ line is.
          let sound = course_sound f w laws more all.0 all.1 in
          sound.lines line (subst (λ (lines : List Line). In line lines) (book_kept f w (course_of f w all.1)) is);
      flies = all.2;
    }
