-- A call on a single object at its owner: it may be performed, whether an Ask brings it or a process of the owner's own calls it.
use Rattle.std.proofs.Common.{◌≡◌, ◌≤◌, ◌<◌, ◌==◌, inl, inr, ℕ, zero, suc, Bool, true, false, List, [], ◌∷◌, length, Option, None, Some, refl, sym, ap, ◌∙◌, subst, arith, if◌then◌else◌}
use Rattle.std.specs.Prelude.{slice_get, slice_index_or}
use Rattle.std.proofs.lemmas.Bool.{eq-eqb, ltb-true}
use Rattle.orca_base.specs.declared.ids.ObjectId.{ObjectId}
use Rattle.orca_base.specs.declared.ids.ProcessNo.{ProcessNo}
use Rattle.value_core.specs.History.{object_at}
use Rattle.value_core.specs.declared.action.Instance.{Instance}
use Rattle.value_core.specs.declared.action.Line.{Line}
use Rattle.value_core.specs.declared.message.Message.{Message}
use Rattle.guard_queue.specs.Apart.{calls_on}
use Rattle.guard_queue.specs.Waits.{IsWaiting}
use Rattle.guard_queue.specs.declared.queue.Suspended.{Suspended}
use Rattle.object_manager.specs.After.{Copied}
use Rattle.object_manager.specs.Singles.{lines_single}
use Rattle.object_manager.specs.State.{message_of}
use Rattle.book_law.specs.declared.placing.Placed.{Placed}
use Rattle.book_law.specs.Conditions.{MemberMeets}
use Rattle.book_law.specs.Course.{Came, Course, taking}
use Rattle.book_law.specs.Course.Came.{Then}
use Rattle.book_law.specs.Course.Next.{Takes_call}
use Rattle.book_law.specs.Events.{In, lines_by}
use Rattle.book_law.specs.Machines.{AllFit}
use Rattle.book_law.specs.Members.{Holds}
use Rattle.book_law.specs.Passes.{Test}
use Rattle.book_law.specs.Performed.{placed}
use Rattle.book_law.specs.Promise.{IsInBook}
use Rattle.book_law.specs.Replies.{IsReplyTo}
use Rattle.book_law.specs.Singles.{Single, lines_on, waiting, waits}
use Rattle.book_law.proofs.Courses.{came_sound}
use Rattle.book_law.proofs.InBook.{all_in_book}
use Rattle.book_law.proofs.Kept.Stage.{Free, Sent, Waits, Ran, Told}
use Rattle.book_law.proofs.Kept.{Kept}
use Rattle.book_law.proofs.Kept.{Stage as Standing, Stands as IsStanding}
use Rattle.book_law.proofs.Members.{members_hold}
use Rattle.book_law.proofs.Objects.{in_second}
use Rattle.world_rules.specs.Frame.{Frame}
use Rattle.world_rules.specs.Nodes.{Given, NodeWork}
use Rattle.world_rules.specs.Nodes.{known as known_by}
use Rattle.world_rules.specs.Owners.{waits_here}
use Rattle.world_rules.specs.Played.{Played}
use Rattle.world_rules.specs.Played.Stage.{Acting, Asking}
use Rattle.world_rules.specs.Processes.{owner_in, singles_of}
use Rattle.world_rules.specs.Worlds.{World}
use Rattle.world_course.specs.Corresponds.{Corresponds, IsMember, IsOf, Stands}
use Rattle.world_course.specs.Errands.{IsAlone, IsAsk, MayTake}
use Rattle.world_course.specs.Works.{at_work}
use Rattle.world_course.proofs.Acting.{IsActing, moving}
use Rattle.world_course.proofs.Asked.{ask_taken, member_here, owner_of}
use Rattle.world_course.proofs.Asking.{HasAsked, asks_out, own_may}
use Rattle.world_course.proofs.Carrying.{Carries}
use Rattle.world_course.proofs.Doing.{alone_known}
use Rattle.world_course.proofs.Owning.{OwnLines, TakesHere, own_lines, takes_here}
use Rattle.world_course.proofs.Program.{Program, fitting}
use Rattle.world_book.proofs.Stuck.{on_its_object}
use Rattle.node_rules.specs.Conditions.{Fitness, MayPerform, MayTakeCall, is_later}
use Rattle.world_calls.proofs.Fitting.{may_hand, meets}

-- ---- a call that is taken

line_placed : (n : ℕ) (l : Line) (lines : List Line) → In l lines → In (record { place = n; line = l }) (placed n lines)
line_placed n l [] h = h
line_placed n l (a ∷ lines) (inl e) = inl (ap (λ (z : Line). record { place = n; line = z }) e)
line_placed n l (a ∷ lines) (inr h) = inr (line_placed n l lines h)

call_fits : (f : Frame) (fitness : Fitness) (single : Test) (w : World) (c : Course) (m : ℕ) (call : Suspended) (v : NodeWork) → Program f fitness.state fitness.args fitness.text fitness.reply → (h : Stands f single (at_work f m w v) c)
    → MayTake f single c m call v → MayPerform f fitness v.node (message_of call)
call_fits f fitness single w c m call v program h z = record {
  call = meet.takes t.at t.copy t.runner call t.takes t.owner;
  lines = may_hand f fitness single w c m v (lines_single f.performs v.node.copies (message_of call)) h
      (λ i y runs member. subst (λ (ls : List Line). IsReplyTo y (lines_by i ls)) (sym t.lines) (own.reply i y runs))
      (λ l is.
      let r : Placed = record { place = n; line = l } in
      let among : In r d.aside = in_second r c.aside (placed n lines) (line_placed n l lines (subst (λ (ls : List Line). In l ls) t.lines is)) in
      let one = fit.performed l (inside.beside r among) in
      one.3);
}
  where
    mine : IsMember f single c h.came m v.node
    mine = member_here f single w c m v h

    t : TakesHere f single c m call v
    t = takes_here f single fitness.state fitness.args fitness.text fitness.reply w c m call v program h mine z

    meet : MemberMeets f.performs fitness.state fitness.args c m v.node.copies
    meet = meets f fitness single w c m v program h

    lines : List Line
    lines = lines_on f.performs t.copy call

    own : OwnLines f c (known_by f v.node) lines
    own = own_lines f single w c m call v h mine t

    n : ℕ
    n = c.applied t.copy.owner

    d : Course
    d = taking f.performs c t.at t.copy call

    later : Came single f.performs f.computes d
    later = Then c d h.came (Takes_call t.at t.copy t.runner call t.takes refl)

    inside : IsInBook single f.performs d
    inside = all_in_book single f.performs f.computes d later

    fit : AllFit single f.performs f.computes fitness.args fitness.text fitness.reply d
    fit = fitting f fitness.state fitness.args fitness.text fitness.reply program single d later

-- ---- who waits here

record Found (process : ProcessNo) (queue : List Suspended) : Type 0 where
  call : Suspended
  among : In call queue
  its : call.process ≡ process

among_at : (queue : List Suspended) (k : ℕ) (x : Suspended) → k < length queue → slice_index_or queue k x ≡ x → In x queue
among_at [] k x lt is = absurd (omega (arith, lt))
among_at (y ∷ queue) zero x lt is = inl (sym is)
among_at (y ∷ queue) (suc k) x lt is = inr (among_at queue k x (omega (arith, lt)) is)

found : (process : ProcessNo) (queue : List Suspended) → IsWaiting queue process → Found process queue
found process queue h = record { call = h.1; among = among_at queue h.0 h.1 h.2 h.3; its = h.4 }

some_waits : (j : ℕ) (call : Suspended) (queue : List Suspended) → In call queue → call.process.0 ≡ j → 0 < waiting j queue
some_waits j call [] h its = absurd h
some_waits j call (x ∷ queue) (inl e) its = subst (λ (b : Bool). 0 < (if b then suc (waiting j queue) else waiting j queue)) (sym (eq-eqb x.process.0 j (ap (λ (z : Suspended). z.process.0) (sym e) ∙ its))) (omega arith)
some_waits j call (x ∷ queue) (inr h) its = go (x.process.0 == j) (some_waits j call queue h its)
  where
    go : (b : Bool) → 0 < waiting j queue → 0 < (if b then suc (waiting j queue) else waiting j queue)
    go true lt = omega (arith, lt)
    go false lt = lt

some_owned : (j i : ℕ) (s : Single) (owned : List Single) → slice_get owned i ≡ Some s → 0 < waiting j s.queue → 0 < waits j owned
some_owned j i s [] there lt = absurd (cc there)
some_owned j zero s (x ∷ owned) there lt =
    let e : x ≡ s = cc in
    let same : waiting j x.queue ≡ waiting j s.queue = ap (λ (z : Single). waiting j z.queue) e in
    omega (arith, lt, same)
some_owned j (suc i) s (x ∷ owned) there lt = let more = some_owned j i s owned there lt in omega (arith, more)

-- whose call waits on a single copy has a message out that entered
waits_entered : (entered : List Message) (message : Option Message) (answer : Option Placed) (n : ℕ) (awaited : List Line) (x : Message) → 0 < n → message ≡ Some x → Standing entered message answer n awaited → In x entered
waits_entered entered message answer n awaited x lt out (Free e a w0 a0) = absurd (omega (arith, lt, w0))
waits_entered entered message answer n awaited x lt out (Sent m e a fresh w0 a0) = absurd (omega (arith, lt, w0))
waits_entered entered message answer n awaited x lt out (Ran m line e a there w0 a1) = absurd (omega (arith, lt, w0))
waits_entered entered message answer n awaited x lt out (Told m r e a there w0 a0) = absurd (omega (arith, lt, w0))
waits_entered entered message answer n awaited x lt out (Waits m e a there w1 a0) =
    let g : Some m ≡ Some x = sym e ∙ out in
    let same : m ≡ x = cc in
    subst (λ (z : Message). In z entered) same there

-- so a call that may be taken finds none of its process here
none_waits : (f : Frame) (single : Test) (w : World) (c : Course) (m : ℕ) (call : Suspended) (v : NodeWork) → (h : Stands f single (at_work f m w v) c) → MayTake f single c m call v → IsWaiting v.node.copies.waits call.process → ⊥
none_waits f single w c m call v h z waiting_here = go (object_at v.node.copies.own u.call.object) refl
  where
    u : Found call.process v.node.copies.waits
    u = found call.process v.node.copies.waits waiting_here

    mine : IsMember f single c h.came m v.node
    mine = member_here f single w c m v h

    holds : Holds single f.performs c.list c.owned m (c.applied m) v.node.copies
    holds = subst (λ (k : Copied). Holds single f.performs c.list c.owned m (c.applied m) k) (sym mine.copies) (members_hold single f.performs f.computes c h.came m)

    on : In u.call (calls_on u.call.object v.node.copies.waits)
    on = on_its_object u.call v.node.copies.waits u.among

    kept : Kept single f.performs f.computes c.list c.aside c.owned c.entered c.applied c.runners
    kept = let sound = came_sound single f.performs f.computes c h.came in sound.kept

    stands : IsStanding single f.performs f.computes c.list c.aside c.owned c.entered (c.applied z.runner.member) call.process.0 z.runner
    stands = kept.stands call.process.0 z.runner z.runs

    go : (o : Option Instance) → object_at v.node.copies.own u.call.object ≡ o → ⊥
    go None is = let none : In u.call [] = subst (λ (q : List Suspended). In u.call q) (holds.idle u.call.object is) on in none
    go (Some one) is =
        let s = holds.only u.call.object one is in
        let keeps = holds.keeps s.0 s.1 s.2 s.4 in
        let among : In u.call s.1.queue = subst (λ (q : List Suspended). In u.call q) keeps.queue (subst (λ (o : ObjectId). In u.call (calls_on o v.node.copies.waits)) (sym s.3) on) in
        let lt = some_owned call.process.0 s.0 s.1 c.owned s.2 (some_waits call.process.0 u.call s.1.queue among (ap (λ (p : ProcessNo). p.0) u.its)) in
        z.new (waits_entered c.entered z.runner.message z.runner.answer _ stands.awaited (message_of call) (omega (arith, lt)) z.out stands.stage)

-- ---- an Ask that comes

pub ask_fits : (f : Frame) (fitness : Fitness) (single : Test) (w : World) (c : Course) (m place : ℕ) (x : Message) (v : NodeWork) → Program f fitness.state fitness.args fitness.text fitness.reply → Carries f single w c m v
    → IsAsk f single c m place x → place ≤ v.node.copies.applied → is_later x (v.node.given x.process.0) ≡ true → MayTakeCall f fitness v.node x
ask_fits f fitness single w c m place x v program k a reached later = record {
  one = λ waiting_here. by waiting_here (waits_here x v.node.copies.waits) refl;
  call = λ idle. subst (λ (y : Message). MayPerform f fitness v.node y) (sym a.is) (call_fits f fitness single w c m a.call v program st (may idle));
}
  where
    st : Stands f single (at_work f m w v) c
    st = let g = k.corresponds in g.stands

    lower : (g : Given) → v.node.given x.process.0 ≡ Some g → g.call.0 < x.call.0
    lower g there = ltb-true g.call.0 x.call.0 (ap (is_later x) (sym there) ∙ later)

    may : waits_here x v.node.copies.waits ≡ false → MayTake f single c m a.call v
    may idle = ask_taken f single fitness.state fitness.args fitness.text fitness.reply w c m place x v program k a reached idle lower

    by : IsWaiting v.node.copies.waits x.process → (b : Bool) → waits_here x v.node.copies.waits ≡ b → waits_here x v.node.copies.waits ≡ true
    by waiting_here true is = is
    by waiting_here false is = absurd (none_waits f single w c m a.call v st (may is) (subst (λ (p : ProcessNo). IsWaiting v.node.copies.waits p) (ap (λ (y : Message). y.process) a.is) waiting_here))

-- ---- a process of the owner's own

-- the course in which it asks, where its member may take the call as the object's owner
pub record MayOwn (f : Frame) (single : Test) (w : World) (c : Course) (m i : ℕ) (r : Played) (call : Suspended) (v : NodeWork) : Type 0 where
  pub course : Course
  pub stands : Stands f single (at_work f m w (moving i (Asking (message_of call).action) r v)) course
  pub may : owner_in (known_by f v.node) call.object ≡ m → MayTake f single course m call (moving i (Asking (message_of call).action) r v)

pub own_takes : (f : Frame) (single : Test) (w : World) (c : Course) (m i : ℕ) (r : Played) (call : Suspended) (v : NodeWork) → Corresponds f single (at_work f m w v) c
    → v.node.played i ≡ Some r → r.stage ≡ Acting (message_of call).action → call.process ≡ record { 0 = i } → call.call ≡ record { 0 = length r.replies } → singles_of f (known_by f v.node) call.object ≡ true → MayOwn f single w c m i r call v
own_takes f single w c m i r call v g here acts process number is = record {
  course = o.course;
  stands = let k = o.corresponds in k.stands;
  may = λ owner. own_may f single w c m i r call v a alone.alone (subst (λ (k : ℕ). IsOf f c k call.object.process) owner of) o;
}
  where
    a : IsActing f single w c m i r (message_of call).action v
    a = record { corresponds = g; here = here; acts = acts }

    o : HasAsked f single w c m i r call v
    o = asks_out f single w c m i r call v a (record { process = process; number = number })

    alone : IsAlone single v.node call.object
    alone = alone_known f single w c m v call.object g.stands is

    of : IsOf f c (owner_in (known_by f v.node) call.object) call.object.process
    of = let st = g.stands in owner_of f single c st.came m v.node (member_here f single w c m v st) call.object alone.maker

pub own_fits : (f : Frame) (fitness : Fitness) (single : Test) (w : World) (c : Course) (m i : ℕ) (r : Played) (call : Suspended) (v : NodeWork) → Program f fitness.state fitness.args fitness.text fitness.reply → Corresponds f single (at_work f m w v) c
    → v.node.played i ≡ Some r → r.stage ≡ Acting (message_of call).action → call.process ≡ record { 0 = i } → call.call ≡ record { 0 = length r.replies } → singles_of f (known_by f v.node) call.object ≡ true → owner_in (known_by f v.node) call.object ≡ m
    → MayPerform f fitness (moving i (Asking (message_of call).action) r v).node (message_of call)
own_fits f fitness single w c m i r call v program g here acts process number is owner =
    let t = own_takes f single w c m i r call v g here acts process number is in
    call_fits f fitness single w t.course m call (moving i (Asking (message_of call).action) r v) program t.stands (t.may owner)
