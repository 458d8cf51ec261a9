-- Where the group is done and nothing flies, a world in which nobody asks an owner in vain is over.
use Rattle.std.proofs.Common.{◌≡◌, ◌≤◌, ◌<◌, ◌*◌, ◌+◌, ◌-◌, ◌%◌, ◌==◌, min, inl, inr, ⊎_elim, ℕ, zero, suc, Bool, true, false, is_some, List, [], ◌∷◌, ◌++◌, length, take, take_all, Option, Some, None, refl, sym, ap, ◌∙◌, arith, subst, length-drop, length-take, if◌then◌else◌, append-nil}
use Rattle.std.specs.Prelude.{slice_get}
use Rattle.std.proofs.Math.Bool.{Bool-set}
use Rattle.std.proofs.lemmas.List.{drop_all}
use Rattle.std.proofs.lemmas.Bool.{and_parts, eqb-true, lt-ltb}
use Rattle.orca_base.specs.declared.ids.CallNo.{CallNo}
use Rattle.orca_base.specs.declared.ids.ObjectId.{ObjectId}
use Rattle.orca_base.specs.declared.ids.ProcessNo.{ProcessNo}
use Rattle.value_core.specs.declared.action.Action.{Action}
use Rattle.value_core.specs.declared.action.Action.TheVariants as action
use Rattle.value_core.specs.declared.action.Line.{Line}
use Rattle.value_core.specs.declared.action.Reply.{Reply}
use Rattle.value_core.specs.declared.meaning.Doing.TheVariants as doing
use Rattle.value_core.specs.declared.message.Message.{Message}
use Rattle.value_core.specs.History.{Process, after_lines, most_turns, opening, processes_of as processes_of_book}
use Rattle.value_core.specs.Performable.{is_performable}
use Rattle.guard_queue.specs.declared.queue.Suspended.{Suspended}
use Rattle.object_manager.specs.After.{Copied, opening_copies}
use Rattle.book_law.specs.Book.{book, book_from, copies_at}
use Rattle.book_law.specs.Course.{Came, Course}
use Rattle.book_law.specs.Events.{Asks, Calls, Runner, lines_by}
use Rattle.book_law.specs.Events.{In as Among}
use Rattle.book_law.specs.Passes.{Test, after_all}
use Rattle.book_law.specs.Promise.{EnteredAsked}
use Rattle.book_law.specs.Singles.{Single, waiting, waits}
use Rattle.book_law.specs.declared.placing.Placed.{Placed}
use Rattle.book_law.proofs.Kept.{IsNext, Kept, Owns, Stage, Stands, as_process}
use Rattle.book_law.proofs.Kept.Stage.{Free, Sent, Waits, Ran, Told}
use Rattle.group_law.specs.Agreed.{applied_entries, performed}
use Rattle.group_law.proofs.Lists.{same_whole}
use Rattle.group_law.specs.Agreed as law
use Rattle.group_law.specs.Messages.{Messages, MessagesLaw}
use Rattle.group_rules.specs.Member.{Member, is_active, leads}
use Rattle.group_rules.specs.Sets.{In}
use Rattle.group_rules.specs.World.{GroupWorld}
use Rattle.group_idle.specs.Idle.{Done, Settled}
use Rattle.world_rules.specs.Applying.{due_entries}
use Rattle.world_rules.specs.Frame.{Frame, group}
use Rattle.world_rules.specs.Nodes.{Node, idle, known}
use Rattle.world_rules.specs.Played.{Played, Stage as PlayedStage}
use Rattle.world_rules.specs.Played.{is_ready as ready_stage}
use Rattle.world_rules.specs.Played.Stage.{Computing, Acting, Submitted, Reading, Asking, Over}
use Rattle.world_rules.specs.Processes.{Begun, home_or_first, processes_in}
use Rattle.world_rules.specs.Standings.{limit_at, limit_before, process_count}
use Rattle.world_rules.specs.Worlds.{World, agreed, applied_at, group_world, home_of, longer_of, longest, played_in, processes_of, singles_in}
use Rattle.world_course.specs.Corresponds.{IsOf}
use Rattle.world_course.specs.Corresponds.{Stands as WorldStands}
use Rattle.world_course.specs.Errands.{AsksFor, WaitsOn}
use Rattle.world_course.specs.Processes.{IsProcess, IsRunner, StageStands, StandsHere}
use Rattle.world_book.specs.Following.{HasCourse}
use Rattle.world_book.specs.Promise.{IsKept}
use Rattle.world_facts.specs.Rows.{AllRest, IsBegun, Rests}
use Rattle.world_facts.specs.Rows.{IsDone as MemberDone}
use Rattle.world_facts.specs.Rows.{IsQuiet as MomentQuiet}
use Rattle.world_law.specs.CaughtUp.{RoundsEnd, StopsAt}
use Rattle.world_law.specs.Grouped.{Grouped}
use Rattle.world_law.specs.Holds.{Holds}
use Rattle.world_law.specs.Lists.{ListsGrow, OneList}
use Rattle.world_law.specs.Moments.{MomentsHold}
use Rattle.world_law.proofs.AtWork.{both_true}
use Rattle.world_idle.proofs.Sent.{AllSent, WasSent}

-- what other laws give
pub record Lore (f : Frame) : Type 0 where
  pub ends : RoundsEnd f
  pub moments : MomentsHold f
  pub lists : ListsGrow f
  pub messages : MessagesLaw Message
  pub small : 2 * f.settings.resilience < f.settings.nodes
  pub homes : (w : World) (i : ℕ) → home_of f w i < f.settings.nodes
  pub entered : EnteredAsked
  pub kept : (single : Test) (c : Course) → Came single f.performs f.computes c → Kept single f.performs f.computes c.list c.aside c.owned c.entered c.applied c.runners
  -- who has an answer on its way asks
  pub answered :
      (single : Test) (c : Course) → Came single f.performs f.computes c → (j : ℕ) (x : Runner) (stage : PlayedStage) (r : Placed) → c.runners j ≡ Some x → x.answer ≡ Some r →
      StageStands f.computes j x stage → ((o : ObjectId) → WaitsOn stage o → single o ≡ false) → (o : ObjectId) × AsksFor stage o × (single o ≡ true)

-- what is known of each world of a run
pub record Facts (f : Frame) (w : World) : Type 0 where
  pub holds : Holds f w
  pub kept : IsKept f w
  pub course : HasCourse f (singles_in f w) w
  pub sent : AllSent w

-- ---- each member has noted all that it knows to be accepted

none_due : (f : Frame) (node : Node) (xs : List Message) → StopsAt f node.copies xs → limit_before f node xs ≡ None → xs ≡ []
none_due f node [] stops none = refl
none_due f node (x ∷ xs) stops none = let e : false ≡ true = sym (ap is_some none) ∙ stops in absurd (cc e)

due_length : (node : Node) → length (due_entries node) ≡ min node.member.accepted (length node.member.log) - node.copies.applied
due_length node = length-drop node.copies.applied (take node.member.accepted node.member.log)
    ∙ ap (λ z. z - node.copies.applied) (length-take node.member.accepted node.member.log)

pub all_noted : (f : Frame) (w : World) (m : ℕ) → Lore f → Holds f w → m < f.settings.nodes → w.lives m ≡ true → limit_at f (w.nodes m) ≡ None →
    (w.nodes m).member.applied ≡ (w.nodes m).member.accepted
all_noted f w m lore holds low lives none =
    let may = lore.ends.moments w m (idle (w.nodes m)) (lore.moments.start w m holds.grouped) in
    let due = none_due f (w.nodes m) (due_entries (w.nodes m)) (holds.caught_up m low lives) none in
    omega (arith, may.noted, may.below, may.logged, holds.grouped.level m, due_length (w.nodes m), ap length due)

-- ---- the list

longest_same : (w : World) (n : ℕ) → longest n w ≡ law.longest n (λ m. applied_entries ((group_world w).members m))
longest_same w zero = refl
longest_same w (suc m) = ap (λ z. longer_of z (applied_at w m)) (longest_same w m)

pub member_done : (f : Frame) (w : World) (m : ℕ) → Done (group f) (group_world w) → m < f.settings.nodes → w.lives m ≡ true → MemberDone f w m (w.nodes m)
member_done f w m d low lives = record {
  whole = s.applied ∙ sym (ap length s.log);
  most = s.applied ∙ d.performed ∙ ap length (sym (longest_same w f.settings.nodes));
  pending = s.pending;
  waiting = λ e. subst (λ (k : ℕ). (w.nodes k).member.waiting ≡ []) (sym (leader_is e)) d.waiting;
}
  where
    s : Settled ((group_world w).members d.leader) ((group_world w).members m)
    s = d.each m (both_true _ _ (lt-ltb m f.settings.nodes low) lives)

    here : (k : ℕ) (t : Member Message) → leads (group f) k t ≡ true → t.installed % f.settings.nodes ≡ k
    here k t e = eqb-true (t.installed % f.settings.nodes) k (and_parts (is_active t) (t.installed % f.settings.nodes == k) e).1

    leader_is : leads (group f) m (w.nodes m).member ≡ true → m ≡ d.leader
    leader_is e = sym (here m (w.nodes m).member e) ∙ ap (λ (i : ℕ). i % f.settings.nodes) s.installed ∙ here d.leader ((group_world w).members d.leader) d.leads

pub applied_whole : (f : Frame) (w : World) (m : ℕ) → Lore f → Holds f w → m < f.settings.nodes → MemberDone f w m (w.nodes m) → applied_at w m ≡ agreed f w
applied_whole f w m lore holds low done =
    let one : OneList f w = lore.lists.one w holds.grouped in
    let n = length-take (w.nodes m).member.applied (w.nodes m).member.log in
    same_whole (applied_at w m) (agreed f w) (omega (arith, n, done.whole, done.most)) (one.begin m low)

-- ---- processes

pub got : {A : Type 0} (xs : List A) (i : ℕ) → i < length xs → (x : A) × (slice_get xs i ≡ Some x)
got [] i low = absurd (omega (arith, low))
got (x ∷ xs) zero low = (x, refl)
got (x ∷ xs) (suc i) low = got xs i (omega (arith, low))

begun_at : (f : Frame) (w : World) (i : ℕ) → Lore f → Facts f w → MemberDone f w (home_of f w i) (w.nodes (home_of f w i)) → i < process_count f w → (r : Played) × (played_in f w i ≡ Some r)
begun_at f w i lore facts done low =
    let b = got (processes_of f w) i low in
    let m : ℕ = home_of f w i in
    let home : b.0.home ≡ m = sym (ap home_or_first b.1) in
    let there : m < f.settings.nodes = lore.homes w i in
    let one : OneList f w = lore.lists.one w facts.holds.grouped in
    let knows : known f (w.nodes m) ≡ processes_of f w = ap (processes_in f) (one.copies m there ∙ applied_whole f w m lore facts.holds there done) in
    facts.kept.processes.begun m i b.0 (ap (λ (ps : List Begun). slice_get ps i) knows ∙ b.1) home

-- ---- whose message was submitted

abbrev message_made : ProcessNo → CallNo → (act : Action) → is_performable act ≡ true → Message
message_made process call act p = record { process = process; call = call; action = act; performable = p }

parts_same : (process : ProcessNo) (call : CallNo) (act made : Action) → act ≡ made → (p : is_performable act ≡ true) (q : is_performable made ≡ true) → message_made process call act p ≡ message_made process call made q
parts_same process call act made e = subst (λ (a : Action). (p : is_performable act ≡ true) (q : is_performable a ≡ true) → message_made process call act p ≡ message_made process call a q) e
    (λ p q. ap (λ (z : is_performable act ≡ true). message_made process call act z) (Bool-set (is_performable act) true p q))

pub message_same : (x y : Message) → x.process ≡ y.process → x.call ≡ y.call → x.action ≡ y.action → x ≡ y
message_same x y e c a =
    parts_same x.process x.call x.action y.action a x.performable y.performable
    ∙ (ap (λ (z : ProcessNo). message_made z x.call y.action y.performable) e ∙ ap (λ (z : CallNo). message_made y.process z y.action y.performable) c)

held : (entered : List Message) (x : Runner) (m : Message) (a b : ℕ) (awaited : List Line) → x.message ≡ Some m → Among m entered → x.answer ≡ None → awaited ≡ [] → b ≡ 0 → Stage entered x.message x.answer (a + b) awaited → 1 ≤ a
held entered x m a b awaited is there none empty zeroth (Free e d w0 a0) = let c : None ≡ Some m = sym e ∙ is in absurd (cc c)
held entered x m a b awaited is there none empty zeroth (Sent o e d out w0 a0) =
    let c : Some m ≡ Some o = sym is ∙ e in let f : m ≡ o = cc in absurd (out (subst (λ (y : Message). Among y entered) f there))
held entered x m a b awaited is there none empty zeroth (Waits o e d t w1 a0) = omega (arith, w1, zeroth)
held entered x m a b awaited is there none empty zeroth (Ran o line e d t w0 a1) = let c : [] ≡ line ∷ [] = sym empty ∙ a1 in absurd (cc c)
held entered x m a b awaited is there none empty zeroth (Told o r e d t w0 a0) = let c : None ≡ Some r = sym none ∙ d in absurd (cc c)

pub among : {A : Type 0} (x : A) (l : List A) → In x l → Among x l
among x [] h = absurd h
among x (y ∷ l) (inl e) = inl e
among x (y ∷ l) (inr h) = inr (among x l h)

messages_of : (f : Frame) (w : World) → MessagesLaw Message → 2 * f.settings.resilience < f.settings.nodes → Grouped f w → Messages (group f) (group_world w)
messages_of f w law small grouped = subst (λ (z : GroupWorld Message). Messages (group f) z) (sym grouped.run) (law (group f) small grouped.events)

no_pending : (x : Message) (l : List Message) → l ≡ [] → In x l → ⊥
no_pending x l e h = subst (λ (z : List Message). In x z) e h

-- a call of the process is among these
call_of : (j : ℕ) (queue : List Suspended) → 1 ≤ waiting j queue → (call : Suspended) × Among call queue × (call.process.0 ≡ j)
call_of j [] h = absurd (omega (arith, h))
call_of j (call ∷ calls) h = go (call.process.0 == j) refl (λ l. call_of j calls l) h
  where
    go : (b : Bool) → (call.process.0 == j) ≡ b → (1 ≤ waiting j calls → (c : Suspended) × Among c calls × (c.process.0 ≡ j)) → 1 ≤ (if b then suc (waiting j calls) else waiting j calls) → (c : Suspended) × Among c (call ∷ calls) × (c.process.0 ≡ j)
    go true e more l = (call, inl refl, eqb-true call.process.0 j e)
    go false e more l = let r = more l in (r.0, inr r.1, r.2)

-- or among those of one of these objects
single_of : (j : ℕ) (owned : List Single) → 1 ≤ waits j owned → (k : ℕ) × (y : Single) × (slice_get owned k ≡ Some y) × (1 ≤ waiting j y.queue)
single_of j [] h = absurd (omega (arith, h))
single_of j (y ∷ ys) h = go (waiting j y.queue) refl (λ l. single_of j ys l)
  where
    go : (n : ℕ) → waiting j y.queue ≡ n → (1 ≤ waits j ys → (k : ℕ) × (z : Single) × (slice_get ys k ≡ Some z) × (1 ≤ waiting j z.queue)) → (k : ℕ) × (z : Single) × (slice_get (y ∷ ys) k ≡ Some z) × (1 ≤ waiting j z.queue)
    go zero e more = let r = more (omega (arith, h, e)) in (suc r.0, r.1, r.2, r.3)
    go (suc n) e more = (0, y, refl, omega (arith, e))

not_some : {A : Type 0} (o : Option A) → ((x : A) → o ≡ Some x → ⊥) → o ≡ None
not_some None h = refl
not_some (Some x) h = absurd (h x refl)

not_one : (n : ℕ) → (1 ≤ n → ⊥) → n ≡ 0
not_one zero h = refl
not_one (suc n) h = absurd (h (omega arith))

said_at : (a b : Action) → doing.At a ≡ doing.At b → a ≡ b
said_at a b e = cc

-- process i of member m, which applied the whole list and has nothing pending, submitted this: its call waits there
pub waits_here : (f : Frame) (w : World) → Lore f → Facts f w → (m i : ℕ) (r : Played) (act : Action) → m < f.settings.nodes → (w.nodes m).played i ≡ Some r → r.stage ≡ Submitted act →
    MemberDone f w m (w.nodes m) → 1 ≤ waiting i (w.nodes m).copies.queue
waits_here f w lore facts m i r act low here stage done =
    let e : waiting i (after_all single f.performs opening_copies c.list).queue ≡ waiting i (w.nodes m).copies.queue = ap (waiting i) (sym queue) in
    let l = held c.entered x out.0 (waiting i (after_all single f.performs opening_copies c.list).queue) (waits i c.owned) s.awaited out.1 entered no_answer awaits none_owned s.stage in
    omega (arith, e, l)
  where
    single : Test
    single = singles_in f w

    h : HasCourse f single w
    h = facts.course

    c : Course
    c = h.course

    st : WorldStands f single w c
    st = h.follows.corresponds.stands

    one : OneList f w
    one = lore.lists.one w facts.holds.grouped

    k : Kept single f.performs f.computes c.list c.aside c.owned c.entered c.applied c.runners
    k = lore.kept single c st.came

    of : IsOf f c m i
    of = st.played m i r here

    process : IsProcess f.computes i of.begun (c.runners i) (w.nodes of.begun.home)
    process = st.processes i of.begun of.there

    x : Runner
    x = process.runner

    runs : c.runners i ≡ Some x
    runs = process.runs

    home : (w.nodes of.begun.home).played i ≡ Some r
    home = ap (λ (j : ℕ). (w.nodes j).played i) of.home ∙ here

    runner : IsRunner f.computes i r x
    runner = (subst (λ (o : Option Played). StandsHere f.computes i of.begun x (w.nodes of.begun.home).copies.applied o) home process.stands).2

    stands : StageStands f.computes i x (Submitted act)
    stands = subst (λ z. StageStands f.computes i x z) stage runner.stage

    out : (y : Message) × (x.message ≡ Some y) × (y.action ≡ act)
    out = stands

    s : Stands single f.performs f.computes c.list c.aside c.owned c.entered (c.applied x.member) i x
    s = k.stands i x runs

    shares : (o : ObjectId) → WaitsOn (Submitted act) o → single o ≡ false
    shares o on = (h.follows.errands.nodes m).shares i r o here (subst (λ z. WaitsOn z o) (sym stage) on)

    sent : WasSent w.past m i r act
    sent = facts.sent.sent m i r act here stage

    same : sent.message ≡ out.0
    same =
        let a = s.asks out.0 out.1 in
        message_same sent.message out.0
        (sent.process ∙ sym (ap (λ (n : ℕ). record { 0 = n }) a.process))
        (sent.call ∙ sym (ap (λ (n : ℕ). record { 0 = n }) (a.call ∙ ap length runner.replies)))
        (sent.action ∙ sym out.2)

    listed : In sent.message (applied_at w m)
    listed = ⊎_elim (λ (o : In sent.message (w.nodes m).member.pending). absurd (no_pending sent.message (w.nodes m).member.pending done.pending o)) (λ (o : In sent.message (applied_at w m)). o)
        ((messages_of f w lore.messages lore.small facts.holds.grouped).past i m sent.message sent.home sent.there)

    entered : Among out.0 c.entered
    entered = (lore.entered single f.performs f.computes c st.came).listed out.0
        (subst (λ (l : List Message). Among out.0 l) (sym h.list) (among out.0 (agreed f w) (subst (λ (y : Message). In y (agreed f w)) same (subst (λ (l : List Message). In sent.message l) (applied_whole f w m lore facts.holds low done) listed))))

    no_answer : x.answer ≡ None
    no_answer = not_some x.answer (λ r told.
        let a = lore.answered single c st.came i x (Submitted act) r runs told stands shares in a.1)

    applied : length c.list ≤ c.applied x.member
    applied =
        let a : c.applied x.member ≡ c.applied m = ap c.applied (process.member ∙ of.home) in
        let b = (st.members m).applied in let d = facts.holds.grouped.level m in let l = ap length h.list in
        omega (arith, a, b, d, l, done.most)

    awaits : s.awaited ≡ []
    awaits = sym s.unseen ∙ ap (lines_by i) (ap (λ (l : List Message). book_from single f.performs (copies_at single f.performs c.list (c.applied x.member)) l []) (drop_all (c.applied x.member) c.list applied))

    replies : x.replies ≡ (as_process x s.awaited).replies
    replies = sym (append-nil x.replies) ∙ sym (append-nil (x.replies ++ [])) ∙ sym (ap (λ (o : Option Placed). (as_process (record x { answer = o }) []).replies) no_answer)
        ∙ sym (ap (λ (l : List Line). (as_process x l).replies) awaits)

    none_owned : waits i c.owned ≡ 0
    none_owned = not_one (waits i c.owned) (λ some.
        let one_of = single_of i c.owned some in
        let y : Single = one_of.1 in
        let o : Owns single f.performs f.computes c.list c.aside c.runners (c.applied y.owner) y = k.owns one_of.0 y one_of.2 in
        let call = call_of i y.queue one_of.3 in
        let next : IsNext f.computes (after_lines f.performs (opening f.computes) (book single f.performs c.list c.aside)) call.0 = o.next call.0 call.1 in
        clash y o call.0 call.2 next (o.its call.0 call.1))
      where
        clash : (y : Single) → Owns single f.performs f.computes c.list c.aside c.runners (c.applied y.owner) y → (call : Suspended) → call.process.0 ≡ i →
            IsNext f.computes (after_lines f.performs (opening f.computes) (book single f.performs c.list c.aside)) call → call.object ≡ y.object → ⊥
        clash y o call its next at =
            let a : Asks f.computes i x out.0 = s.asks out.0 out.1 in
            let there : Some next.process ≡ Some (as_process x s.awaited) =
            sym next.exists ∙ ap (λ (j : ℕ). slice_get (processes_of_book f.performs f.computes (book single f.performs c.list c.aside)) j) its ∙ s.process in
            let p : next.process ≡ as_process x s.awaited = cc in
            let caller : call.process ≡ out.0.process = ap (λ (n : ℕ). record { 0 = n }) (its ∙ sym a.process) in
            let does : f.computes.doing next.process.text call.process next.process.args next.process.replies most_turns ≡ f.computes.doing x.text out.0.process x.args x.replies most_turns =
            ap (λ (q : Process). f.computes.doing q.text call.process q.args q.replies most_turns) p
            ∙ ap (λ (rs : List Reply). f.computes.doing x.text call.process x.args rs most_turns) (sym replies)
            ∙ ap (λ (z : ProcessNo). f.computes.doing x.text z x.args x.replies most_turns) caller in
            let made : action.Call call.kind call.op call.object call.args ≡ act =
            said_at (action.Call call.kind call.op call.object call.args) out.0.action (sym next.next ∙ does ∙ a.next) ∙ out.2 in
            let calls : Calls act call.object = subst (λ (z : Action). Calls z call.object) made refl in
            let e : false ≡ true = sym (shares call.object calls) ∙ ap single at ∙ o.is in
            cc e

    queue : (w.nodes m).copies.queue ≡ (after_all single f.performs opening_copies c.list).queue
    queue = ap (λ (z : Copied). z.queue) (facts.kept.shared m)
        ∙ ap (λ (l : List Message). (after_all single f.performs opening_copies l).queue) (take_all (w.nodes m).member.applied (agreed f w) (omega (arith, done.most)) ∙ sym h.list)

-- ---- the run is over

-- each process of a living member that asks an owner has its call waiting there
abbrev pub NoneInVain : Frame → World → Type 0
NoneInVain f w = (i : ℕ) (r : Played) (act : Action) → i < process_count f w → w.lives (home_of f w i) ≡ true → played_in f w i ≡ Some r → r.stage ≡ Asking act → Rests f w i (Asking act)

pub rests_as : (f : Frame) (w : World) (i : ℕ) (r : Played) (stage : PlayedStage) → r.stage ≡ stage → ready_stage stage ≡ false →
    ((act : Action) → stage ≡ Submitted act → Rests f w i (Submitted act)) → ((act : Action) → stage ≡ Asking act → Rests f w i (Asking act)) → Rests f w i stage
rests_as f w i r (Over act) e ready one two = tt
rests_as f w i r (Reading act) e ready one two = tt
rests_as f w i r (Submitted act) e ready one two = one act refl
rests_as f w i r (Asking act) e ready one two = two act refl
rests_as f w i r Computing e ready one two = absurd (cc ready)
rests_as f w i r (Acting act) e ready one two = absurd (cc ready)

pub all_rest : (f : Frame) (w : World) → Lore f → Facts f w → Done (group f) (group_world w) → w.flights ≡ [] → MomentQuiet f w → NoneInVain f w → AllRest f w
all_rest f w lore facts done empty quiet vain = record {
  quiet = quiet;
  flights = empty;
  members = λ m low lives. member_done f w m done low lives;
  processes = λ i low lives.
      let m : ℕ = home_of f w i in
      let there : m < f.settings.nodes = lore.homes w i in
      let d : MemberDone f w m (w.nodes m) = member_done f w m done there lives in
      let b = begun_at f w i lore facts d low in
      let begun : IsBegun f w i b.0 = record { exists = low; here = b.1 } in (
        b.0,
        begun,
        rests_as f w i b.0 b.0.stage refl (quiet.processes i b.0 begun lives)
            (λ act e. waits_here f w lore facts m i b.0 act there b.1 e d)
            (λ act e. vain i b.0 act low lives b.1 e),
      );
}
