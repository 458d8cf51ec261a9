-- Who waits where a member applied the whole list is stuck.
use Rattle.std.proofs.Common.{◌≡◌, Bool, true, false, cond, inl, inr, ℕ, Option, None, Some, List, [], ◌∷◌, length, refl, sym, ap, ◌∙◌, subst}
use Rattle.std.specs.BTreeMap.{is_at}
use Rattle.std.specs.Cmp.{tied_itself}
use Rattle.std.specs.Ordering.{is_eq}
use Rattle.orca_base.specs.declared.ids.ObjectId.{ObjectId}
use Rattle.orca_base.specs.declared.ids.ProcessNo.{ProcessNo}
use Rattle.value_core.specs.declared.action.Action.TheVariants as action
use Rattle.value_core.specs.declared.action.Line.{Line}
use Rattle.value_core.specs.declared.message.Message.{Message}
use Rattle.value_core.specs.History.{IsStuck, Objects, object_at, object_cmp}
use Rattle.value_core.specs.declared.action.Instance.{Instance}
use Rattle.guard_queue.specs.Apart.{calls_on}
use Rattle.guard_queue.proofs.Lookups.{object_total}
use Rattle.value_core.specs.declared.action.Action.{Action}
use Rattle.value_core.specs.declared.action.Class.{Class}
use Rattle.value_core.specs.declared.action.Class.TheVariants.{Reads, Writes}
use Rattle.value_core.specs.declared.meaning.Tried.{Tried}
use Rattle.value_core.specs.declared.meaning.Tried.TheVariants as tried
use Rattle.guard_queue.specs.Settles.{is_blocked, tried_on}
use Rattle.world_rules.specs.Bursts.{if_reads, read_on}
use Rattle.world_book.proofs.Reading.{IsReads}
use Rattle.guard_queue.specs.declared.queue.Suspended.{Suspended}
use Rattle.object_manager.specs.After.{Copied}
use Rattle.book_law.specs.Book.{book, copies_at}
use Rattle.book_law.specs.Course.{Course}
use Rattle.book_law.specs.Events.{Calls, In, Runner}
use Rattle.book_law.specs.Fitness.{EndsStuck, StuckAtEnd}
use Rattle.book_law.specs.Members.{Holds, copies_of}
use Rattle.book_law.proofs.Members.{members_hold}
use Rattle.world_rules.specs.Frame.{Frame}
use Rattle.world_rules.specs.Played.{Stage}
use Rattle.world_rules.specs.Played.Stage.{Reading}
use Rattle.world_rules.specs.Worlds.{Book, World, agreed, singles_in}
use Rattle.world_course.specs.Corresponds.{Stands}
use Rattle.world_course.specs.Errands.{NodeStands, WaitsOn}
use Rattle.world_course.specs.Processes.{IsFreeAt, StageStands}
use Rattle.world_book.specs.Promise.{IsStuckAt, OwnersWaitersAreStuck}
use Rattle.world_book.specs.Following.{HasCourse}
use Rattle.world_book.proofs.Kept.{Kept, book_kept, course_of, number_kept, stands_for}
use Rattle.world_book.proofs.Submitting.{IsRun, run_of}

-- a read that is blocked did nothing
none_did : (class : Class) (t : Tried) → class ≡ Reads → is_blocked (if_reads class t) ≡ true → t ≡ tried.Blocked
none_did Reads tried.Blocked is e = refl
none_did Reads (tried.Did guard state reply) is e = absurd (cc e)
none_did Reads (tried.Broke guard fault) is e = absurd (cc e)
none_did Writes t is e = absurd (cc is)

-- what is stuck in the course's book is so in the world's
in_book : (f : Frame) (w : World) (k : Kept f w) → (i : ProcessNo) → IsStuck f.performs f.computes (book (singles_in f w) f.performs (course_of f w k).course.list (course_of f w k).course.aside) i
    → IsStuck f.performs f.computes (Book f w) i
in_book f w k i h = subst (λ (lines : List Line). IsStuck f.performs f.computes lines i) (sym (book_kept f w (course_of f w k))) h

pub stuck_at : (f : Frame) (w : World) → EndsStuck f.performs f.computes → Kept f w → (m : ℕ) →
    (w.nodes m).member.applied ≡ length (agreed f w) → IsStuckAt f w m
stuck_at f w ends k m all = record {
  suspended = λ call h. in_book f w k call.process (stuck.shared call (subst (λ (queue : List Suspended). In call queue) queues h));
  reads = λ i r act here reading.
      let one : IsRun f c m i.0 r = run_of f (singles_in f w) w c m i.0 r st here in
      let is = one.is in
      let free : StageStands f.computes i.0 one.runner (Reading act) = subst (λ (s : Stage). StageStands f.computes i.0 one.runner s) reading is.stage in
      let blocked = k.reads m i.0 r here act reading in
      in_book f w k i (by i one.runner act one.runs free blocked (λ o calls. node.shares i.0 r o here (subst (λ (s : Stage). WaitsOn s o) (sym reading) calls)));
}
  where
    h : HasCourse f (singles_in f w) w
    h = course_of f w k

    c : Course
    c = h.course

    st : Stands f (singles_in f w) w c
    st = stands_for f (singles_in f w) w h

    node : NodeStands f (singles_in f w) c m (w.nodes m)
    node = let g = h.follows in let e = g.errands in e.nodes m

    stuck : StuckAtEnd (singles_in f w) f.performs f.computes c
    stuck = ends (singles_in f w) c st.came

    -- it applied the course's whole list
    number : c.applied m ≡ length c.list
    number = sym (number_kept f (singles_in f w) w k h m) ∙ all ∙ ap (λ (l : List Message). length l) (sym h.list)

    queues : (w.nodes m).copies.queue ≡ (copies_at (singles_in f w) f.performs c.list (length c.list)).queue
    queues =
        let mem = st.members m in
        let holds = members_hold (singles_in f w) f.performs f.computes c st.came m in
        ap (λ (z : Copied). z.queue) mem.copies ∙ ap (λ (z : Copied). z.queue) holds.shared
        ∙ ap (λ (n : ℕ). (copies_at (singles_in f w) f.performs c.list n).queue) number

    kept_objects : (w.nodes m).copies.objects ≡ (copies_at (singles_in f w) f.performs c.list (length c.list)).objects
    kept_objects =
        let mem = st.members m in
        let holds = members_hold (singles_in f w) f.performs f.computes c st.came m in
        ap (λ (z : Copied). z.objects) mem.copies ∙ ap (λ (z : Copied). z.objects) holds.shared
        ∙ ap (λ (n : ℕ). (copies_at (singles_in f w) f.performs c.list n).objects) number

    by : (i : ProcessNo) (x : Runner) (act : Action) → c.runners i.0 ≡ Some x → IsFreeAt f.computes i.0 x act →
        IsReads f act × (is_blocked (read_on f.performs (w.nodes m).copies.objects act) ≡ true) → ((o : ObjectId) → Calls act o → singles_in f w o ≡ false) →
        IsStuck f.performs f.computes (book (singles_in f w) f.performs c.list c.aside) i
    by i x (action.Call kind op object args) runs free blocked shared =
        stuck.reads i x kind op object args runs free.0 (shared object refl) free.1
        (ap (λ (objects : Objects). tried_on f.performs objects kind op object args) (sym kept_objects)
        ∙ none_did (f.performs.class_of kind op) _ blocked.0 blocked.1)
    by i x (action.Make kind object) runs free blocked shared = absurd blocked.0
    by i x (action.Fork text args place_on) runs free blocked shared = absurd blocked.0
    by i x action.Ended runs free blocked shared = absurd blocked.0
    by i x (action.Faulted fault) runs free blocked shared = absurd blocked.0

-- ---- single objects

-- a call is among those on its object
pub on_its_object : (call : Suspended) (queue : List Suspended) → In call queue → In call (calls_on call.object queue)
on_its_object call [] h = h
on_its_object call (x ∷ queue) (inl e) = subst (λ (b : Bool). In call (cond b (x ∷ calls_on call.object queue) (calls_on call.object queue))) (sym here) (inl e)
  where
    here : is_at (object_cmp call.object) x.object ≡ true
    here = ap (λ (z : Suspended). is_at (object_cmp call.object) z.object) (sym e) ∙ ap is_eq (tied_itself object_total call.object)
on_its_object call (x ∷ queue) (inr h) = go (is_at (object_cmp call.object) x.object) (on_its_object call queue h)
  where
    go : (b : Bool) → In call (calls_on call.object queue) → In call (cond b (x ∷ calls_on call.object queue) (calls_on call.object queue))
    go true among = inr among
    go false among = among

-- whose call is suspended on a single object is stuck
pub single_stuck : (f : Frame) (w : World) → EndsStuck f.performs f.computes → Kept f w → OwnersWaitersAreStuck f w
single_stuck f w ends k m call h = go (object_at copies.own call.object) refl
  where
    course : HasCourse f (singles_in f w) w
    course = course_of f w k

    c : Course
    c = course.course

    st : Stands f (singles_in f w) w c
    st = stands_for f (singles_in f w) w course

    copies : Copied
    copies = copies_of (singles_in f w) f.performs f.computes c st.came m

    holds : Holds (singles_in f w) f.performs c.list c.owned m (c.applied m) copies
    holds = members_hold (singles_in f w) f.performs f.computes c st.came m

    stuck : StuckAtEnd (singles_in f w) f.performs f.computes c
    stuck = ends (singles_in f w) c st.came

    among : In call (calls_on call.object copies.waits)
    among = on_its_object call copies.waits (let mem = st.members m in subst (λ (z : Copied). In call z.waits) mem.copies h)

    go : (o : Option Instance) → object_at copies.own call.object ≡ o → IsStuck f.performs f.computes (Book f w) call.process
    go None none = let nobody : In call [] = subst (λ (q : List Suspended). In call q) (holds.idle call.object none) among in absurd nobody
    go (Some kept) some =
        let x = holds.only call.object kept some in
        let keeps = holds.keeps x.0 x.1 x.2 x.4 in
        in_book f w k call.process (stuck.singles x.0 x.1 call x.2
        (subst (λ (q : List Suspended). In call q) (ap (λ (o : ObjectId). calls_on o copies.waits) (sym x.3) ∙ keeps.queue) among))
