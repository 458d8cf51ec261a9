-- Asks that processes send stand, and an owner that an Ask comes to takes its call, or has answered it.
use Rattle.std.proofs.Common.{◌≡◌, ◌≤◌, ◌<◌, ◌==◌, ◌||◌, ◌&&◌, ℕ, ◌⊎◌, inl, inr, ⊎_elim, Bool, true, false, cond, List, [], ◌∷◌, Some, refl, sym, ap, ◌∙◌, subst, arith, length, take}
use Rattle.std.proofs.Math.Bool.{Bool-set}
use Rattle.std.proofs.lemmas.Bool.{cases_lt, eq-eqb}
use Rattle.std.specs.List.{filter}
use Rattle.std.specs.Prelude.{IsTrue, slice_get}
use Rattle.orca_base.specs.declared.ids.CallNo.{CallNo}
use Rattle.orca_base.specs.declared.ids.KindNo.{KindNo}
use Rattle.orca_base.specs.declared.ids.ObjectId.{ObjectId}
use Rattle.orca_base.specs.declared.ids.OpNo.{OpNo}
use Rattle.orca_base.specs.declared.ids.ProcessNo.{ProcessNo}
use Rattle.value_core.specs.Datum.{Data}
use Rattle.value_core.specs.Performable.{is_performable}
use Rattle.value_core.specs.declared.action.Action.{Action}
use Rattle.value_core.specs.declared.action.Action.TheVariants as action
use Rattle.value_core.specs.declared.message.Message.{Message}
use Rattle.guard_queue.specs.Apart.{calls_on}
use Rattle.guard_queue.specs.declared.queue.Suspended.{Suspended}
use Rattle.object_manager.specs.After.{Copied}
use Rattle.object_manager.specs.State.{message_of}
use Rattle.book_law.specs.Passes.{Test}
use Rattle.book_law.specs.Course.{Came, Course}
use Rattle.book_law.specs.Events.{Asks, Calls, In, Runner}
use Rattle.book_law.specs.Fitness.{ArgsFit, StateFits}
use Rattle.book_law.specs.Members.{Holds}
use Rattle.book_law.specs.Promise.{IsTaken, WereAsked}
use Rattle.book_law.specs.Singles.{Single}
use Rattle.book_law.proofs.Asked.{entered_asked}
use Rattle.book_law.proofs.Courses.{came_sound, one_of}
use Rattle.book_law.proofs.Fits.{ReplyFits, TextFits}
use Rattle.book_law.proofs.Kept.{Owns}
use Rattle.book_law.proofs.Members.{members_hold}
use Rattle.book_law.proofs.Processes.{get_some}
use Rattle.book_law.proofs.Running.{processes_run, untaken_out}
use Rattle.world_rules.specs.Frame.{Frame}
use Rattle.world_rules.specs.Nodes.{Given, Node, NodeWork, known}
use Rattle.world_rules.specs.Owners.{is_this_call, waits_here}
use Rattle.world_rules.specs.Played.{Played, next_call}
use Rattle.world_rules.specs.Played.Stage.{Asking}
use Rattle.world_rules.specs.Processes.{Begun, home_or_first, owner_in, processes_in}
use Rattle.world_rules.specs.Worlds.{World}
use Rattle.world_course.specs.Corresponds.{Corresponds, IsMember, IsOf, Stands}
use Rattle.world_course.specs.Errands.{IsAlone, IsAsk, IsGiven, MayTake}
use Rattle.world_course.specs.Processes.{IsOut, StageStands}
use Rattle.world_course.specs.Works.{at_work}
use Rattle.world_course.proofs.Begun.{whole_same}
use Rattle.world_course.proofs.Carrying.{Carries}
use Rattle.world_course.proofs.Changing.{one_begun}
use Rattle.world_course.proofs.Lifting.{Starts, starts}
use Rattle.world_course.proofs.Program.{Program, fitting}
use Rattle.world_course.proofs.Tries.{node_at}
use Rattle.world_course.proofs.Working.{known_count}

-- ---- messages

abbrev made : ProcessNo → CallNo → (a : Action) → IsTrue (is_performable a) → Message
made i n a ok = record { process = i; call = n; action = a; performable = ok }

-- a message of a call's process, number and action is the call's
call_message : (call : Suspended) (a : Action) (ok : IsTrue (is_performable a)) → a ≡ action.Call call.kind call.op call.object call.args → made call.process call.call a ok ≡ message_of call
call_message call a ok is = subst (λ (z : Action). (p : IsTrue (is_performable z)) → made call.process call.call z p ≡ message_of call) (sym is)
    (λ p. ap (λ (k : true ≡ true). made call.process call.call (action.Call call.kind call.op call.object call.args) k) (Bool-set true true p refl)) ok

same_message : (m : Message) (call : Suspended) → m.process ≡ call.process → m.call ≡ call.call → m.action ≡ action.Call call.kind call.op call.object call.args → m ≡ message_of call
same_message m call process number is =
    ap (λ (i : ProcessNo). made i m.call m.action m.performable) process ∙ ap (λ (n : CallNo). made call.process n m.action m.performable) number
    ∙ call_message call m.action m.performable is

-- ---- homes

pub one_home : (f : Frame) (c : Course) (m k j : ℕ) → IsOf f c m j → IsOf f c k j → m ≡ k
one_home f c m k j one two = sym one.home ∙ ap (λ (b : Begun). b.home) (one_begun (slice_get (processes_in f c.list) j) one.begun two.begun one.there two.there) ∙ two.home

pub member_here : (f : Frame) (single : Test) (w : World) (c : Course) (m : ℕ) (v : NodeWork) (h : Stands f single (at_work f m w v) c) → IsMember f single c h.came m v.node
member_here f single w c m v h = subst (λ (k : Node). IsMember f single c h.came m k) (node_at f m w v) (h.members m)

-- a process that a member knows began where the member says
pub owner_of : (f : Frame) (single : Test) (c : Course) (came : Came single f.performs f.computes c) (m : ℕ) (node : Node) → IsMember f single c came m node → (object : ObjectId) → object.process < node.copies.processes
    → IsOf f c (owner_in (known f node) object) object.process
owner_of f single c came m node mine object low = record { begun = b.0; there = whole_same f c.list node.copies.applied object.process lt ∙ b.1; home = sym (ap (λ (ps : List Begun). owner_in ps object) same ∙ ap home_or_first b.1) }
  where
    same : known f node ≡ processes_in f (take node.copies.applied c.list)
    same = ap (processes_in f) mine.entries

    lt : object.process < length (processes_in f (take node.copies.applied c.list))
    lt = let e = known_count f single c came m node mine in let g : length (known f node) ≡ length (processes_in f (take node.copies.applied c.list)) = ap (λ (ps : List Begun). length ps) same in omega (arith, low, e, g)

    b : (x : Begun) × (slice_get (processes_in f (take node.copies.applied c.list)) object.process ≡ Some x)
    b = get_some (processes_in f (take node.copies.applied c.list)) object.process lt

-- ---- an Ask that is sent

-- the next call of process i
abbrev pub call_of : ℕ → Played → KindNo → OpNo → ObjectId → Data → Suspended
call_of i r kind op object args = record { process = record { 0 = i }; call = next_call r; kind = kind; op = op; object = object; args = args }

pub ask_stands : (f : Frame) (single : Test) (w : World) (c : Course) (m i : ℕ) (r : Played) (kind : KindNo) (op : OpNo) (object : ObjectId) (args : Data) (v : NodeWork) → Corresponds f single (at_work f m w v) c
    → v.node.played i ≡ Some r → r.stage ≡ Asking (action.Call kind op object args) → IsAlone single v.node object → (owner_in (known f v.node) object ≡ m → ⊥)
    → IsAsk f single c (owner_in (known f v.node) object) r.place (message_of (call_of i r kind op object args))
ask_stands f single w c m i r kind op object args v corresponds here asks alone apart = record {
  call = call;
  is = refl;
  among = all.out i x (message_of call) s.process.runs out;
  alone = alone.alone;
  owner = owner_of f single c h.came m v.node (member_here f single w c m v h) object alone.maker;
  elsewhere = record { home = m; of = s.of; other = λ e. apart (sym e) };
  covers = λ y runs has. let e : y ≡ x = one_of (c.runners i) y x runs s.process.runs in let p : x.place ≡ r.place = s.is.place in let q : y.place ≡ x.place = ap (λ (z : Runner). z.place) e in omega (arith, p, q);
}
  where
    h : Stands f single (at_work f m w v) c
    h = corresponds.stands

    s : Starts f single (at_work f m w v) c i m r
    s = starts f single (at_work f m w v) c i m r h (ap (λ (k : Node). k.played i) (node_at f m w v) ∙ here)

    x : Runner
    x = s.process.runner

    call : Suspended
    call = call_of i r kind op object args

    all : WereAsked c
    all = entered_asked single f.performs f.computes c h.came

    is_out : IsOut x (action.Call kind op object args)
    is_out = subst (StageStands f.computes i x) asks s.is.stage

    next : Asks f.computes i x is_out.0
    next = let run = processes_run single f.performs f.computes c h.came in let p = run.each i x s.process.runs in p.asks is_out.0 is_out.1

    out : x.message ≡ Some (message_of call)
    out = is_out.1 ∙ ap (λ (m : Message). Some m) (same_message is_out.0 call (ap (λ (n : ℕ). record { 0 = n }) next.process)
        (ap (λ (n : ℕ). record { 0 = n }) (next.call ∙ ap length s.is.replies)) is_out.2)

-- ---- an Ask that comes

in_filter : {A : Type 0} (t : A → Bool) (x : A) (xs : List A) → In x (filter t xs) → In x xs
in_filter t x [] h = h
in_filter t x (y ∷ xs) h = go (t y) h (in_filter t x xs)
  where
    go : (b : Bool) → In x (cond b (y ∷ filter t xs) (filter t xs)) → (In x (filter t xs) → In x xs) → In x (y ∷ xs)
    go true (inl e) more = inl e
    go true (inr among) more = inr (more among)
    go false among more = inr (more among)

found_here : (call : Suspended) (queue : List Suspended) → In call queue → waits_here (message_of call) queue ≡ true
found_here call [] h = absurd h
found_here call (x ∷ queue) (inl e) =
    subst (λ (z : Suspended). (is_this_call (message_of call) z || waits_here (message_of call) queue) ≡ true) e (itself (waits_here (message_of call) queue))
  where
    itself : (b : Bool) → (is_this_call (message_of call) call || b) ≡ true
    itself b = ap (λ (z : Bool). (z && (call.call.0 == call.call.0)) || b) (eq-eqb call.process.0 call.process.0 refl) ∙ ap (λ (z : Bool). z || b) (eq-eqb call.call.0 call.call.0 refl)
found_here call (x ∷ queue) (inr h) = go (is_this_call (message_of call) x) (found_here call queue h)
  where
    go : (b : Bool) → waits_here (message_of call) queue ≡ true → (b || waits_here (message_of call) queue) ≡ true
    go true e = refl
    go false e = e

-- a copy of an object whose maker is this member's is this member's
pub owned_here : (f : Frame) (single : Test) (fits_state : StateFits) (fits_args : ArgsFit) (fits_text : TextFits) (fits_reply : ReplyFits) (w : World) (c : Course) (m : ℕ) (object : ObjectId) (i : ℕ) (s : Single)
    → Program f fits_state fits_args fits_text fits_reply → Stands f single w c → IsOf f c m object.process → slice_get c.owned i ≡ Some s → s.object ≡ object → s.owner ≡ m
owned_here f single fits_state fits_args fits_text fits_reply w c m object i s program h of there is =
    let fit = fitting f fits_state fits_args fits_text fits_reply program single c h.came in
    let o = fit.owners i s there in
    let p = h.processes object.process of.begun of.there in
    sym o.2 ∙ ap (λ (y : Runner). y.member) (one_of (c.runners object.process) o.0 p.runner (ap (λ (id : ObjectId). c.runners id.process) (sym is) ∙ o.1) p.runs) ∙ p.member ∙ of.home

-- a call that waits on its copy is found among those that wait here
waits_found : (f : Frame) (single : Test) (fits_state : StateFits) (fits_args : ArgsFit) (fits_text : TextFits) (fits_reply : ReplyFits) (w : World) (c : Course) (m : ℕ) (v : NodeWork) (call : Suspended) (i : ℕ) (s : Single)
    → Program f fits_state fits_args fits_text fits_reply → Stands f single (at_work f m w v) c → IsOf f c m call.object.process → slice_get c.owned i ≡ Some s → s.object ≡ call.object → In call s.queue
    → waits_here (message_of call) v.node.copies.waits ≡ true
waits_found f single fits_state fits_args fits_text fits_reply w c m v call i s program h of there is among = go (cases_lt (c.applied s.owner) s.place)
  where
    mine : IsMember f single c h.came m v.node
    mine = member_here f single w c m v h

    owner : s.owner ≡ m
    owner = owned_here f single fits_state fits_args fits_text fits_reply (at_work f m w v) c m call.object i s program h of there is

    owns : Owns single f.performs f.computes c.list c.aside c.runners (c.applied s.owner) s
    owns = let sound = came_sound single f.performs f.computes c h.came in let kept = sound.kept in kept.owns i s there

    holds : Holds single f.performs c.list c.owned m (c.applied m) v.node.copies
    holds = subst (λ (k : Copied). Holds single f.performs c.list c.owned m (c.applied m) k) (sym mine.copies) (members_hold single f.performs f.computes c h.came m)

    go : (c.applied s.owner < s.place) ⊎ (s.place ≤ c.applied s.owner) → waits_here (message_of call) v.node.copies.waits ≡ true
    go (inl lt) = let u = owns.unused lt in let none : In call [] = subst (λ (q : List Suspended). In call q) u.0 among in absurd none
    go (inr le) =
        let keeps = holds.keeps i s there (owner, subst (λ (k : ℕ). s.place ≤ c.applied k) owner le) in
        let on : In call (calls_on s.object v.node.copies.waits) = subst (λ (q : List Suspended). In call q) (sym keeps.queue) among in
        found_here call v.node.copies.waits (in_filter _ call v.node.copies.waits on)

-- nor does it wait here, nor was it answered: then nobody took it
not_taken : (f : Frame) (single : Test) (fits_state : StateFits) (fits_args : ArgsFit) (fits_text : TextFits) (fits_reply : ReplyFits) (w : World) (c : Course) (m place : ℕ) (v : NodeWork) (call : Suspended)
    → Program f fits_state fits_args fits_text fits_reply → Carries f single w c m v → IsOf f c m call.object.process → single call.object ≡ true → (IsOf f c m call.process.0 → ⊥)
    → waits_here (message_of call) v.node.copies.waits ≡ false → ((g : Given) → v.node.given call.process.0 ≡ Some g → g.call.0 < call.call.0) → IsTaken c.owned c.aside call → ⊥
not_taken f single fits_state fits_args fits_text fits_reply w c m place v call program h of alone apart idle lower (inl (i, s, there, is, among)) =
    let k = h.corresponds in
    let e : false ≡ true = sym idle ∙ waits_found f single fits_state fits_args fits_text fits_reply w c m v call i s program k.stands of there is among in
    absurd (cc e)
not_taken f single fits_state fits_args fits_text fits_reply w c m place v call program h of alone apart idle lower (inr (r, among, process, number, acts)) =
    let e = h.errands in
    let p = e.performed r call.object among (subst (λ (a : Action). Calls a call.object) (sym acts) refl) alone in
    let owner : p.owner ≡ m = one_home f c p.owner m call.object.process p.of of in
    let at : r.line.process.0 ≡ call.process.0 = ap (λ (k : ProcessNo). k.0) process in
    let same : r.line.call.0 ≡ call.call.0 = ap (λ (k : CallNo). k.0) number in
    ⊎_elim
    (λ own. apart (subst (λ (k : ℕ). IsOf f c m k) at (subst (λ (k : ℕ). IsOf f c k r.line.process.0) owner own)))
    (λ given.
    let g : IsGiven v.node r.line = subst (λ (n : Node). IsGiven n r.line) (node_at f m w v) (subst (λ (k : ℕ). IsGiven ((at_work f m w v).nodes k) r.line) owner given) in
    let lt = lower g.given (ap v.node.given (sym at) ∙ g.there) in
    let le = g.call in
    absurd (omega (arith, lt, le, same)))
    p.told

-- so the owner may take it
pub ask_taken : (f : Frame) (single : Test) (fits_state : StateFits) (fits_args : ArgsFit) (fits_text : TextFits) (fits_reply : ReplyFits) (w : World) (c : Course) (m place : ℕ) (x : Message) (v : NodeWork)
    → Program f fits_state fits_args fits_text fits_reply → Carries f single w c m v → (a : IsAsk f single c m place x) → place ≤ v.node.copies.applied
    → waits_here x v.node.copies.waits ≡ false → ((g : Given) → v.node.given x.process.0 ≡ Some g → g.call.0 < x.call.0) → MayTake f single c m a.call v
ask_taken f single fits_state fits_args fits_text fits_reply w c m place x v program h a reached idle lower =
    let k = h.corresponds in
    let st = k.stands in
    let call : Suspended = a.call in
    let away = a.elsewhere in
    let process : x.process.0 ≡ call.process.0 = ap (λ (m : Message). m.process.0) a.is in
    let number : x.call.0 ≡ call.call.0 = ap (λ (m : Message). m.call.0) a.is in
    let none = not_taken f single fits_state fits_args fits_text fits_reply w c m place v call program h a.owner a.alone
    (λ own. away.other (one_home f c away.home m x.process.0 away.of (subst (λ (j : ℕ). IsOf f c m j) (sym process) own)))
    (ap (λ (y : Message). waits_here y v.node.copies.waits) (sym a.is) ∙ idle)
    (λ g there. let lt = lower g (ap v.node.given process ∙ there) in omega (arith, lt, number)) in
    let u = untaken_out single f.performs f.computes c st.came call (subst (λ (y : Message). In y c.asked) a.is a.among) a.alone none in
    record {
      runner = u.1;
      runs = u.2;
      out = u.3;
      new = u.0;
      alone = a.alone;
      owner = a.owner;
      reached = let le = a.covers u.1 (ap c.runners process ∙ u.2) (u.3 ∙ ap (λ (y : Message). Some y) (sym a.is)) in omega (arith, le, reached);
    }
