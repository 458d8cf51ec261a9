-- A read beside the list is of no message that the list has or that an owner took.
use Rattle.std.proofs.Common.{◌≡◌, ◌<◌, ◌+◌, ⊎_elim, true, false, Some, length, sym, ◌∙◌, arith, subst}
use Rattle.orca_base.specs.declared.ids.ObjectId.{ObjectId}
use Rattle.value_core.specs.declared.action.Line.{Line}
use Rattle.value_core.specs.declared.message.Message.{Message}
use Rattle.value_core.specs.Meaning.{Computes, Performs}
use Rattle.object_manager.specs.After.{opening_copies}
use Rattle.object_manager.specs.State.{message_of}
use Rattle.book_law.specs.Course.{Came, Course, Next}
use Rattle.book_law.specs.Course.Next.{Submits, Orders, Forks, Applies, Reads_at, Takes_call, Hears_answer}
use Rattle.book_law.specs.Course.Came.{Opens, Then}
use Rattle.book_law.specs.Events.{Asks, Calls, In, Runner}
use Rattle.book_law.specs.Passes.{Test, after_all}
use Rattle.book_law.specs.Performed.{placed}
use Rattle.book_law.specs.Replies.{AnswerOf}
use Rattle.book_law.specs.Singles.{lines_on, waiting, waits}
use Rattle.book_law.specs.declared.placing.Placed.{Placed}
use Rattle.book_law.proofs.Courses.{came_sound, fresh_of, has_out, pending}
use Rattle.book_law.proofs.Entries.{fork_may}
use Rattle.book_law.proofs.Kept.{Owns, Stands}
use Rattle.book_law.proofs.Lists.{in_push}
use Rattle.book_law.proofs.Objects.{in_append}
use Rattle.book_law.proofs.Replying.{answers_stand, in_placed}
use Rattle.book_law.proofs.Stages.{not_both, some_same, stage_told}
use Rattle.world_places.proofs.Beside.{lines_call}

-- the message has the number of this line of its process
pub record IsNumberOf (y : Message) (l : Line) : Type 0 where
  pub process : y.process.0 ≡ l.process.0
  pub call : y.call.0 ≡ l.call.0

-- the operation is on no single object
abbrev pub Shares : Test → Placed → Type 0
Shares single r = (o : ObjectId) → Calls r.line.action o → single o ≡ false

abbrev pub ReadsApart : Test → Course → Type 0
ReadsApart single w = (r : Placed) → In r w.aside → Shares single r → (y : Message) → In y w.entered → IsNumberOf y r.line → ⊥

-- a message that a process has out, and that hasn't entered, has no line beside the list
new_apart : (single : Test) (p : Performs) (q : Computes) (w : Course) → Came single p q w → (x : Message) (r : Runner) → w.runners x.process.0 ≡ Some r → r.message ≡ Some x → (In x w.entered → ⊥)
    → (s : Placed) → In s w.aside → IsNumberOf x s.line → ⊥
new_apart single p q w came x r here out new s inside is =
    let sound = came_sound single p q w came in
    let k = sound.kept in
    let st : Stands single p q w.list w.aside w.owned w.entered (w.applied r.member) x.process.0 r = k.stands x.process.0 r here in
    let asks : Asks q x.process.0 r x = st.asks x out in
    let a : AnswerOf w.aside x.process.0 r = answers_stand single p q w came x.process.0 r here in
    let number = asks.call in
    let same = is.call in
    let answer : r.answer ≡ Some s = a.only s inside (sym is.process) (omega (arith, number, same)) in
    let t = stage_told w.entered r.message r.answer (waiting x.process.0 (after_all single p opening_copies w.list).queue + waits x.process.0 w.owned) st.awaited s answer st.stage in
    new (subst (λ (m : Message). In m w.entered) (some_same r.message t.2.0 x t.2.1 out) t.2.2)

next_apart : (single : Test) (p : Performs) (q : Computes) (w v : Course) → Came single p q w → Next single p q w v → ReadsApart single w → ReadsApart single v
next_apart single p q w v came (Submits j x m here free asks e) all = subst (ReadsApart single) (sym e) all
next_apart single p q w v came (Orders x r here was new may plain e) all =
    let sound = came_sound single p q w came in
    let fresh = fresh_of single p q w x sound may new in
    subst (ReadsApart single) (sym e) (λ s inside shared y h is. ⊎_elim
    (λ u. all s inside shared y u is)
    (λ (u : y ≡ x). new_apart single p q w came x r here (has_out single p q w x r sound here was fresh) fresh s inside (subst (λ (m : Message). IsNumberOf m s.line) u is))
    (in_push y x w.entered h))
next_apart single p q w v came (Forks x born member was new forks e) all =
    let sound = came_sound single p q w came in
    let fresh = fresh_of single p q w x sound (fork_may single w.owned x.action born forks) new in
    let h = pending w.entered w.runners w.asked x sound.accounted was fresh in
    subst (ReadsApart single) (sym e) (λ s inside shared y g is. ⊎_elim
    (λ u. all s inside shared y u is)
    (λ (u : y ≡ x). new_apart single p q w came x h.0 h.1 h.2 fresh s inside (subst (λ (m : Message). IsNumberOf m s.line) u is))
    (in_push y x w.entered g))
next_apart single p q w v came (Applies m y is e) all = subst (ReadsApart single) (sym e) all
next_apart single p q w v came (Reads_at j x n line here h e) all = subst (ReadsApart single) (sym e) (λ s inside shared y g is. ⊎_elim
    (λ u. all s u shared y g is)
    (λ (u : s ≡ record { place = n; line = line }).
    let now : IsNumberOf y line = subst (λ (z : Placed). IsNumberOf y z.line) u is in
    let sound = came_sound single p q w came in
    let k = sound.kept in
    let st : Stands single p q w.list w.aside w.owned w.entered (w.applied x.member) j x = k.stands j x here in
    ⊎_elim
    (λ (lt : y.call.0 < length x.replies). let number = h.call in let same = now.call in absurd (omega (arith, lt, number, same)))
    (λ out. not_both x.message y h.free out)
    (st.earlier y g (now.process ∙ h.process)))
    (in_push s (record { place = n; line = line }) w.aside inside))
next_apart single p q w v came (Takes_call i x r call t e) all = subst (ReadsApart single) (sym e) (λ s inside shared y g is. ⊎_elim
    (λ old. ⊎_elim
    (λ u. all s old shared y u is)
    (λ (u : y ≡ message_of call). new_apart single p q w came (message_of call) r t.runner t.out t.new s old (subst (λ (m : Message). IsNumberOf m s.line) u is))
    (in_push y (message_of call) w.entered g))
    (λ u.
    let a = in_placed (w.applied x.owner) s (lines_on p x call) u in
    let sound = came_sound single p q w came in
    let k = sound.kept in
    let owns : Owns single p q w.list w.aside w.runners (w.applied x.owner) x = k.owns i x t.copy in
    let f : false ≡ true = sym (shared x.object (lines_call p x call s.line t.object owns.its a.1)) ∙ owns.is in
    absurd (cc f))
    (in_append s w.aside (placed (w.applied x.owner) (lines_on p x call)) inside))
next_apart single p q w v came (Hears_answer j x r here has le e) all = subst (ReadsApart single) (sym e) all

pub all_apart : (single : Test) (p : Performs) (q : Computes) (w : Course) → Came single p q w → ReadsApart single w
all_apart single p q w (Opens member shared) = λ r h. absurd h
all_apart single p q w (Then u v came next) = next_apart single p q u v came next (all_apart single p q u came)
