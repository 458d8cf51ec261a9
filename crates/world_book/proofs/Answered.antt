-- An answer on its way is to a call on a single object, and its process asks the object's owner.
use Rattle.std.proofs.Common.{◌≡◌, ◌==◌, inl, inr, ⊎_elim, ℕ, suc, Bool, true, false, if◌then◌else◌, List, [], ◌∷◌, Option, Some, None, refl, sym, ap, ◌∙◌, subst, length}
use Rattle.std.proofs.lemmas.Bool.{cases_eq}
use Rattle.orca_base.specs.declared.ids.ObjectId.{ObjectId}
use Rattle.value_core.specs.Datum as datum
use Rattle.value_core.specs.Meaning.{Performs, Computes}
use Rattle.value_core.specs.declared.action.Action.{Action}
use Rattle.value_core.specs.declared.action.Line.{Line}
use Rattle.value_core.specs.declared.message.Message.{Message}
use Rattle.object_manager.specs.After.{opening_copies}
use Rattle.book_law.specs.Book.{copies_at}
use Rattle.book_law.specs.Course.{Came, Course, Next, with_at}
use Rattle.book_law.specs.Course.Next.{Submits, Orders, Forks, Applies, Reads_at, Takes_call, Hears_answer}
use Rattle.book_law.specs.Course.Came.{Opens, Then}
use Rattle.book_law.specs.Events.{Calls, In, Runner, answering, asking, handed, lines_by, newborn, told, took}
use Rattle.book_law.specs.Passes.{Test, after_all, lines_after}
use Rattle.book_law.specs.Singles.{lines_on}
use Rattle.book_law.specs.declared.placing.Placed.{Placed}
use Rattle.book_law.proofs.Courses.{at_other, at_own, came_sound}
use Rattle.book_law.proofs.Hearing.{mapped}
use Rattle.book_law.proofs.Replying.{answers_stand}
use Rattle.world_rules.specs.Frame.{Frame}
use Rattle.world_rules.specs.Played.{Stage}
use Rattle.world_rules.specs.Played.Stage.{Computing, Acting, Submitted, Reading, Asking, Over}
use Rattle.world_course.specs.Errands.{AsksFor, WaitsOn}
use Rattle.world_course.specs.Processes.{IsOut, StageStands}
use Rattle.world_course.proofs.Calling.{lines_call}

-- the answer that is on its way to this process is to a call on a single object
abbrev pub OfSingle : Test → Option Placed → Type 0
OfSingle single answer = (r : Placed) → answer ≡ Some r → (o : ObjectId) × Calls r.line.action o × (single o ≡ true)

abbrev AllOfSingle : Test → (ℕ → Option Runner) → Type 0
AllOfSingle single runners = (j : ℕ) (x : Runner) → runners j ≡ Some x → OfSingle single x.answer

no_answer : (single : Test) (answer : Option Placed) → answer ≡ None → OfSingle single answer
no_answer single answer none r is = let e : None ≡ Some r = sym none ∙ is in absurd (cc e)

set_answers : (single : Test) (f : ℕ → Option Runner) (k : ℕ) (v : Runner) → OfSingle single v.answer → AllOfSingle single f → AllOfSingle single (with_at f k (Some v))
set_answers single f k v own all j x here = ⊎_elim
    (λ (e : j ≡ k).
    let g : Some v ≡ Some x = sym (at_own f k (Some v)) ∙ ap (with_at f k (Some v)) (sym e) ∙ here in
    let h : v ≡ x = cc in
    subst (λ (z : Runner). OfSingle single z.answer) h own)
    (λ apart. all j x (sym (at_other f k (Some v) j apart) ∙ here))
    (cases_eq j k)

took_answers : (single : Test) (place : ℕ) (lines : List Line) (x : Runner) → OfSingle single x.answer → OfSingle single (took place lines x).answer
took_answers single place [] x own = own
took_answers single place (l ∷ lines) x own = no_answer single None refl

handed_answers : (single : Test) (n place : ℕ) (lines : List Line) (j : ℕ) (x : Runner) → OfSingle single x.answer → OfSingle single (handed n place lines j x).answer
handed_answers single n place lines j x own = go (x.member == n)
  where
    go : (b : Bool) → OfSingle single (if b then took place (lines_by j lines) x else x).answer
    go true = took_answers single place (lines_by j lines) x own
    go false = own

in_by : (j : ℕ) (l : Line) (ls lines : List Line) → lines_by j lines ≡ l ∷ ls → In l lines
in_by j l ls [] is = absurd (cc is)
in_by j l ls (k ∷ lines) is = go (k.process.0 == j) is (in_by j l ls lines)
  where
    go : (b : Bool) → (if b then k ∷ lines_by j lines else lines_by j lines) ≡ l ∷ ls → (lines_by j lines ≡ l ∷ ls → In l lines) → In l (k ∷ lines)
    go true e more = let h : k ≡ l = cc in inl (sym h)
    go false e more = inr (more e)

answering_single : (single : Test) (place : ℕ) (lines : List Line) (x : Runner) → ((l : Line) (ls : List Line) → lines ≡ l ∷ ls → (o : ObjectId) × Calls l.action o × (single o ≡ true)) → OfSingle single x.answer
    → OfSingle single (answering place lines x).answer
answering_single single place [] x all own r is = own r is
answering_single single place (l ∷ ls) x all own r is =
    let e : record { place = place; line = l } ≡ r = cc in
    subst (λ (z : Placed). (o : ObjectId) × Calls z.line.action o × (single o ≡ true)) e (all l ls refl)

pub answers_single : (single : Test) (p : Performs) (q : Computes) (c : Course) → Came single p q c → AllOfSingle single c.runners
answers_single single p q c (Opens member shared) = set_answers single (λ j. None) 0 (newborn member q.main datum.none 0) (no_answer single None refl) (λ j x here. absurd (cc here))
answers_single single p q c (Then w v came next) = go next (answers_single single p q w came)
  where
    go : Next single p q w c → AllOfSingle single w.runners → AllOfSingle single c.runners
    go (Submits j x m here free asks e) all = subst (λ (u : Course). AllOfSingle single u.runners) (sym e) (set_answers single w.runners j (asking m x) (all j x here) all)
    go (Orders x r here was new may plain e) all = subst (λ (u : Course). AllOfSingle single u.runners) (sym e) all
    go (Forks x born member was new forks e) all = subst (λ (u : Course). AllOfSingle single u.runners) (sym e)
        (set_answers single w.runners (after_all single p opening_copies w.list).processes (newborn member born.text born.args (suc (length w.list))) (no_answer single None refl) all)
    go (Applies m y is e) all = subst (λ (u : Course). AllOfSingle single u.runners) (sym e)
        (λ j x here.
        let lines : List Line = lines_after single p (copies_at single p w.list (w.applied m)) y in
        let u = mapped (handed m (suc (w.applied m)) lines j) (w.runners j) x here in
        subst (λ (z : Runner). OfSingle single z.answer) (sym u.2) (handed_answers single m (suc (w.applied m)) lines j u.0 (all j u.0 u.1)))
    go (Reads_at j x n line here h e) all = subst (λ (u : Course). AllOfSingle single u.runners) (sym e) (set_answers single w.runners j (told n line x) (no_answer single None refl) all)
    go (Takes_call i x r call t e) all = subst (λ (u : Course). AllOfSingle single u.runners) (sym e)
        (λ j z here.
        let sound = came_sound single p q w came in
        let k = sound.kept in
        let o = k.owns i x t.copy in
        let lines : List Line = lines_on p x call in
        let u = mapped (answering (w.applied x.owner) (lines_by j lines)) (w.runners j) z here in
        subst (λ (y : Runner). OfSingle single y.answer) (sym u.2)
        (answering_single single (w.applied x.owner) (lines_by j lines) u.0
        (λ l ls some. (x.object, lines_call p x call t.object o.its l (in_by j l ls lines some), o.is)) (all j u.0 u.1)))
    go (Hears_answer j x r here has le e) all = subst (λ (u : Course). AllOfSingle single u.runners) (sym e) (set_answers single w.runners j (told r.place r.line x) (no_answer single None refl) all)

-- ---- who has an answer on its way asks

free_none : (x : Runner) (m : Message) → x.message ≡ None → x.message ≡ Some m → ⊥
free_none x m free out = let e : None ≡ Some m = sym free ∙ out in absurd (cc e)

same_action : (x : Runner) (act : Action) (m : Message) → IsOut x act → x.message ≡ Some m → m.action ≡ act
same_action x act m (n, out, is) has = let e : Some n ≡ Some m = sym out ∙ has in let g : n ≡ m = cc in ap (λ (z : Message). z.action) (sym g) ∙ is

asks_by : (q : Computes) (j : ℕ) (x : Runner) (stage : Stage) (m : Message) (o : ObjectId) → StageStands q j x stage → x.message ≡ Some m → Calls m.action o → (WaitsOn stage o → ⊥) → AsksFor stage o
asks_by q j x Computing m o free out calls shared = absurd (free_none x m free out)
asks_by q j x (Acting act) m o (free, at) out calls shared = absurd (free_none x m free out)
asks_by q j x (Submitted act) m o is out calls shared = absurd (shared (subst (λ (a : Action). Calls a o) (same_action x act m is out) calls))
asks_by q j x (Reading act) m o (free, at) out calls shared = absurd (free_none x m free out)
asks_by q j x (Asking act) m o is out calls shared = subst (λ (a : Action). Calls a o) (same_action x act m is out) calls
asks_by q j x (Over act) m o (free, at) out calls shared = absurd (free_none x m free out)

pub answered_asks : (f : Frame) (single : Test) (c : Course) → Came single f.performs f.computes c → (j : ℕ) (x : Runner) (stage : Stage) (r : Placed) → c.runners j ≡ Some x → x.answer ≡ Some r → StageStands f.computes j x stage
    → ((o : ObjectId) → WaitsOn stage o → single o ≡ false) → (o : ObjectId) × AsksFor stage o × (single o ≡ true)
answered_asks f single c came j x stage r runs answer stands shared =
    let u = answers_single single f.performs f.computes c came j x runs r answer in
    let s = answers_stand single f.performs f.computes c came j x runs in
    let a = s.is r answer in (
      u.0,
      asks_by f.computes j x stage a.message u.0 stands a.out (subst (λ (z : Action). Calls z u.0) a.action u.1)
          (λ waits. let e : false ≡ true = sym (shared u.0 waits) ∙ u.2 in absurd (cc e)),
      u.2,
    )
