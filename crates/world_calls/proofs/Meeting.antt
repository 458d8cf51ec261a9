-- The conditions of the calls hold at each moment at which the world stands for a course, where its numbers are small.
use Rattle.std.proofs.Common.{◌≡◌, ◌≤◌, ℕ, List, length, Some, inl, refl, sym, ap, ◌∙◌, subst, arith}
use Rattle.orca_base.specs.declared.ids.CallNo.{CallNo}
use Rattle.orca_base.specs.declared.ids.ProcessNo.{ProcessNo}
use Rattle.value_core.specs.Lawful.{FitsAction}
use Rattle.value_core.specs.declared.action.Action.{Action}
use Rattle.value_core.specs.declared.action.Reply.{Reply}
use Rattle.value_core.specs.declared.meaning.Doing.TheVariants as doing
use Rattle.value_core.specs.declared.message.Message.{Message}
use Rattle.book_law.specs.Conditions.{MemberMeets}
use Rattle.book_law.specs.Course.{Course}
use Rattle.book_law.specs.Events.{In, Runner}
use Rattle.book_law.specs.Machines.{AllFit}
use Rattle.book_law.specs.Passes.{Test}
use Rattle.book_law.specs.Promise.{IsInBook}
use Rattle.book_law.specs.Replies.{AnswerOf, IsAnswerTo}
use Rattle.book_law.proofs.InBook.{all_in_book}
use Rattle.book_law.proofs.Replying.{answers_stand}
use Rattle.world_rules.specs.Frame.{Frame}
use Rattle.world_rules.specs.Mail.{Errand, place_of}
use Rattle.world_rules.specs.Mail.Errand.{Ask, Answer}
use Rattle.world_rules.specs.Nodes.{NodeWork}
use Rattle.world_rules.specs.Played.{Stage}
use Rattle.world_rules.specs.Played.Stage.{Asking}
use Rattle.world_rules.specs.Worlds.{World}
use Rattle.world_law.specs.Moments.{IsMoment}
use Rattle.world_course.specs.Corresponds.{Stands}
use Rattle.world_course.specs.Errands.{ErrandStands, IsAnswer}
use Rattle.world_course.specs.Processes.{StageStands}
use Rattle.world_course.specs.Works.{at_work}
use Rattle.world_course.proofs.Carrying.{Carries}
use Rattle.world_course.proofs.Lifting.{Starts}
use Rattle.world_course.proofs.Program.{Program, fitting}
use Rattle.node_rules.specs.Conditions.{AreSmall, Conditions, Fitness, MayTake}
use Rattle.node_rules.specs.Handing.{MayHear}
use Rattle.node_rules.specs.Moments.{Moment}
use Rattle.world_calls.proofs.Fitting.{entry_fits, meets, starts_at, waiting_fits}
use Rattle.world_calls.proofs.Calling.{ask_fits}
use Rattle.world_calls.proofs.Each.{AtEach, notes_keep, own, self, with_next}
use Rattle.world_calls.proofs.Going.{At, Known}

-- ---- an Answer

-- what a process that asks has out is what its line is of
asked_action : (f : Frame) (i : ℕ) (x : Runner) (stage : Stage) (act : Action) (y : Message) → stage ≡ Asking act → StageStands f.computes i x stage → x.message ≡ Some y → y.action ≡ act
asked_action f i x stage act y asks stands out =
    let o = subst (StageStands f.computes i x) asks stands in
    let e : Some o.0 ≡ Some y = sym o.1 ∙ out in
    let same : o.0 ≡ y = cc in
    ap (λ (z : Message). z.action) (sym same) ∙ o.2

answer_fits : (f : Frame) (fitness : Fitness) (single : Test) (w : World) (c : Course) (m place : ℕ) (i : ProcessNo) (call : CallNo) (reply : Reply) (v : NodeWork) → Program f fitness.state fitness.args fitness.text fitness.reply
    → Stands f single (at_work f m w v) c → IsAnswer c place i call reply → MayHear fitness.reply v.node i call reply
answer_fits f fitness single w c m place i call reply v program h a r act here asks number =
    subst (λ (z : Action). FitsAction fitness.reply (doing.At z) reply) (that.action ∙ asked_action f i.0 x r.stage act that.message asks s.is.stage that.out)
    (subst (λ (z : Reply). FitsAction fitness.reply (doing.At a.line.line.action) z) a.reply (let one = fit.performed a.line.line (inside.beside a.line a.there) in one.3))
  where
    s : Starts f single (at_work f m w v) c i.0 m r
    s = starts_at f single w c m i.0 r v h here

    x : Runner
    x = s.process.runner

    of : AnswerOf c.aside i.0 x
    of = answers_stand single f.performs f.computes c h.came i.0 x s.process.runs

    low : length x.replies ≤ a.line.line.call.0
    low = let e : length x.replies ≡ length r.replies = ap (λ (l : List Reply). length l) s.is.replies in
        let k : a.line.line.call.0 ≡ call.0 = ap (λ (z : CallNo). z.0) a.call in omega (arith, e, k, number)

    that : IsAnswerTo c.aside i.0 x a.line
    that = of.is a.line (of.only a.line a.there (ap (λ (z : ProcessNo). z.0) a.process) low)

    inside : IsInBook single f.performs c
    inside = all_in_book single f.performs f.computes c h.came

    fit : AllFit single f.performs f.computes fitness.args fitness.text fitness.reply c
    fit = fitting f fitness.state fitness.args fitness.text fitness.reply program single c h.came

-- ---- at a moment

errand_fits : (f : Frame) (fitness : Fitness) (single : Test) (w : World) (c : Course) (m : ℕ) (errand : Errand) (v : NodeWork) → Program f fitness.state fitness.args fitness.text fitness.reply
    → Carries f single w c m v → ErrandStands f single c m errand → place_of errand ≤ v.node.copies.applied → MayTake f fitness v.node errand
errand_fits f fitness single w c m (Ask place x) v program k stands reached = λ later. ask_fits f fitness single w c m place x v program k stands reached later
errand_fits f fitness single w c m (Answer place i call reply) v program k stands reached =
    let g = k.corresponds in answer_fits f fitness single w c m place i call reply v program g.stands stands

pub conditions : (f : Frame) (fitness : Fitness) (w : World) (m : ℕ) (u : Moment) → Known f fitness w m → AtEach f w m u → AreSmall u.work.node → Conditions f fitness m u
conditions f fitness w m u known e small =
    let single : Test = own f e.list in
    let one = self f w m u e in
    let a : At f single w m u = one.at in
    let k = a.carries in
    let g = k.corresponds in
    let p = known.group in
    let moment : IsMoment f w m u.work = a.moment in
    let meet : MemberMeets f.performs fitness.state fitness.args a.course m u.work.node.copies = meets f fitness single w a.course m u.work known.program g.stands in
    record {
      fits = meet.fits;
      blocked = meet.blocked;
      noted = moment.noted;
      within = moment.below;
      small = small;
      kept = notes_keep f w m u.work (p.notes w m u.work known.lives moment);
      due = λ x due.
          let t = with_next f fitness w m u x known e due in
          let b = e.each t.single t.so_far in
          let at : At f t.single w m u = b.at in
          let carries = at.carries in
          entry_fits f fitness t.single w at.course m x u.work known carries.corresponds at.moment due t.next;
      reads = λ i r kind op object given here reads. waiting_fits f fitness single w a.course m i r kind op object given u.work known.program k here reads;
      takes = λ errand errands hand reached.
          errand_fits f fitness single w a.course m errand u.work known.program k (a.hand errand (subst (In errand) (sym hand) (inl refl))) reached;
    }
