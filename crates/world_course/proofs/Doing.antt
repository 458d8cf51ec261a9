-- A process's action is carried out: its message is submitted, its read is tried, or it asks an owner; and Asks and Answers stand.
use Rattle.std.proofs.Common.{◌≡◌, ◌<◌, ◌==◌, ℕ, ◌⊎◌, inl, inr, ⊎_elim, Bool, true, false, List, Option, Some, None, refl, sym, ap, ◌∙◌, subst, arith, length, take, if◌then◌else◌}
use Rattle.std.proofs.lemmas.Bool.{cases_eq, eqb-false, eqb-true}
use Rattle.std.specs.Prelude.{slice_get}
use Rattle.orca_base.specs.declared.ids.KindNo.{KindNo}
use Rattle.orca_base.specs.declared.ids.ObjectId.{ObjectId}
use Rattle.orca_base.specs.declared.ids.OpNo.{OpNo}
use Rattle.value_core.specs.Datum.{Data}
use Rattle.value_core.specs.declared.action.Action.{Action}
use Rattle.value_core.specs.declared.action.Action.TheVariants as action
use Rattle.value_core.specs.declared.action.Class.{Class}
use Rattle.value_core.specs.declared.action.Class.TheVariants.{Reads as IsReads, Writes}
use Rattle.value_core.specs.declared.message.Message.{Message}
use Rattle.guard_queue.specs.declared.queue.Suspended.{Suspended}
use Rattle.object_manager.specs.State.{message_of}
use Rattle.group_rules.specs.Sets.{with_at}
use Rattle.group_rules.specs.Steps.{submit}
use Rattle.book_law.specs.Passes.{Test}
use Rattle.book_law.specs.Course.{Course}
use Rattle.book_law.specs.Fitness.{ArgsFit, StateFits}
use Rattle.book_law.proofs.Courses.{at_other, at_own}
use Rattle.book_law.proofs.Fits.{ReplyFits, TextFits}
use Rattle.world_rules.specs.Frame.{Frame, group}
use Rattle.world_rules.specs.Mail.{Mail}
use Rattle.world_rules.specs.Mail.Errand.{Ask}
use Rattle.world_rules.specs.Nodes.{NodeWork, known}
use Rattle.world_rules.specs.Owners.{performs_call, sends}
use Rattle.world_rules.specs.Parts.{acts_at, acts_by, acts_of, asks, calls_as, reads, submits}
use Rattle.world_rules.specs.Played.{Played, Stage, moves_to, next_call}
use Rattle.world_rules.specs.Played.Stage.{Computing, Acting, Submitted, Reading, Asking, Over}
use Rattle.world_rules.specs.Processes.{Begun, owner_in, processes_in, single_by, singles_of}
use Rattle.world_rules.specs.Worlds.{World}
use Rattle.world_course.specs.Corresponds.{Corresponds, IsMember, IsOf, Lifts, Stands}
use Rattle.world_course.specs.Errands.{AsksFor, IsAlone, NodeStands, WaitsOn}
use Rattle.world_course.specs.Group.{KeepsEntries}
use Rattle.world_course.specs.Works.{at_work}
use Rattle.world_course.proofs.Acting.{IsActing, IsMessage, moving, reading_lifts, shared_if_known, submitting, submitting_lifts}
use Rattle.world_course.proofs.Asked.{ask_stands, call_of, member_here, owner_of}
use Rattle.world_course.proofs.Asking.{HasAsked, asks_out, own_may}
use Rattle.world_course.proofs.Begun.{known_agrees}
use Rattle.world_course.proofs.Calling.{call_carries}
use Rattle.world_course.proofs.Carrying.{Carries, CarriesOn, carries_on, carries_stay, carry, joins_carries, node_later, own_node, sends_carries, silent_lifts}
use Rattle.world_course.proofs.Later.{Later, later_self, leads_later}
use Rattle.world_course.proofs.Listing.{got_less}
use Rattle.world_course.proofs.Program.{Program}
use Rattle.world_course.proofs.Silent.{silent_read}
use Rattle.world_course.proofs.Tries.{read_lifts}
use Rattle.world_course.proofs.Working.{known_count}

-- ---- one process stands elsewhere

-- a process is the one that was set, or it was there
pub set_or_old : (i : ℕ) (t : Played) (played : ℕ → Option Played) (j : ℕ) (s : Played) → with_at played i (Some t) j ≡ Some s → (t ≡ s) ⊎ (played j ≡ Some s)
set_or_old i t played j s is = ⊎_elim
    (λ (e : j ≡ i). let g : Some t ≡ Some s = sym (ap (with_at played i (Some t)) e ∙ at_own played i (Some t)) ∙ is in inl cc)
    (λ apart. inr (sym (at_other played i (Some t) j apart) ∙ is))
    (cases_eq j i)

-- it asks for a single object, whose maker its member knows, and waits for a replicated one
moved_node : (f : Frame) (single : Test) (c : Course) (m i : ℕ) (stage : Stage) (r : Played) (v : NodeWork) → NodeStands f single c m v.node → ((o : ObjectId) → AsksFor stage o → IsAlone single v.node o)
    → ((o : ObjectId) → WaitsOn stage o → single o ≡ false) → NodeStands f single c m (moving i stage r v).node
moved_node f single c m i stage r v n asks shares = record {
  held = n.held;
  given = n.given;
  asks = λ j s o is at. ⊎_elim
      (λ e. let a = asks o (subst (λ (z : Played). AsksFor z.stage o) (sym e) at) in record { alone = a.alone; maker = a.maker })
      (λ old. let a = n.asks j s o old at in record { alone = a.alone; maker = a.maker })
      (set_or_old i (moves_to stage r) v.node.played j s is);
  shares = λ j s o is at. ⊎_elim
      (λ e. shares o (subst (λ (z : Played). WaitsOn z.stage o) (sym e) at))
      (λ old. n.shares j s o old at)
      (set_or_old i (moves_to stage r) v.node.played j s is);
}

same_alone : (single : Test) (v : NodeWork) (object o : ObjectId) → IsAlone single v.node object → o ≡ object → IsAlone single v.node o
same_alone single v object o alone is = record { alone = ap single is ∙ alone.alone; maker = let lt = alone.maker in let k : o.process ≡ object.process = ap (λ (z : ObjectId). z.process) is in omega (arith, lt, k) }

-- only it changes
moving_carries : (f : Frame) (single : Test) (w : World) (c d : Course) (m i : ℕ) (stage : Stage) (r : Played) (v : NodeWork) → Carries f single w c m v → Corresponds f single (at_work f m w (moving i stage r v)) d → Later f c d
    → NodeStands f single d m (moving i stage r v).node → Carries f single w d m (moving i stage r v)
moving_carries f single w c d m i stage r v h corresponds later node = carry f single w c d m v (moving i stage r v) h (record {
  corresponds = corresponds;
  later = later;
  node = node;
  mails = λ mail is. inl is;
  beside = λ s o is calls alone. inl is;
  given = λ s is g. record { given = g.given; there = g.there; call = g.call };
})

-- ---- it asks an owner

-- what a member finds single is so
pub alone_known : (f : Frame) (single : Test) (w : World) (c : Course) (m : ℕ) (v : NodeWork) (object : ObjectId) → Stands f single (at_work f m w v) c → singles_of f (known f v.node) object ≡ true → IsAlone single v.node object
alone_known f single w c m v object h is = record {
  alone = sym (known_agrees f single c.list v.node.copies.applied h.test object (let e : length (known f v.node) ≡ length (processes_in f (take v.node.copies.applied c.list)) = ap (λ (ps : List Begun). length ps) same in omega (arith, low, e)))
      ∙ ap (λ (ps : List Begun). singles_of f ps object) (sym same) ∙ is;
  maker = let e = known_count f single c h.came m v.node mine in omega (arith, low, e);
}
  where
    mine : IsMember f single c h.came m v.node
    mine = member_here f single w c m v h

    same : known f v.node ≡ processes_in f (take v.node.copies.applied c.list)
    same = ap (processes_in f) mine.entries

    low : object.process < length (known f v.node)
    low = go (slice_get (known f v.node) object.process) refl
      where
        go : (o : Option Begun) → slice_get (known f v.node) object.process ≡ o → object.process < length (known f v.node)
        go None none = let e : false ≡ true = ap (λ (b : Option Begun). single_by f b object.number) (sym none) ∙ is in absurd (cc e)
        go (Some b) some = got_less (known f v.node) object.process b some

asks_carries : (f : Frame) (single : Test) (fits_state : StateFits) (fits_args : ArgsFit) (fits_text : TextFits) (fits_reply : ReplyFits) (w : World) (c : Course) (m i : ℕ) (r : Played) (kind : KindNo) (op : OpNo) (object : ObjectId) (args : Data) (v : NodeWork)
    → Program f fits_state fits_args fits_text fits_reply → Carries f single w c m v → v.node.played i ≡ Some r → r.stage ≡ Acting (action.Call kind op object args) → singles_of f (known f v.node) object ≡ true
    → CarriesOn f single w c m (asks f m i r (call_of i r kind op object args) v)
asks_carries f single fits_state fits_args fits_text fits_reply w c m i r kind op object args v program h here acts is =
    carries_on f single w c o.course m (asks f m i r call v) o.leads (go (owner_in (known f v.node) object == m) refl)
  where
    call : Suspended
    call = call_of i r kind op object args

    corresponds : Corresponds f single (at_work f m w v) c
    corresponds = h.corresponds

    st : Stands f single (at_work f m w v) c
    st = corresponds.stands

    a : IsActing f single w c m i r (action.Call kind op object args) v
    a = record { corresponds = corresponds; here = here; acts = acts }

    o : HasAsked f single w c m i r call v
    o = asks_out f single w c m i r call v a (record { process = refl; number = refl })

    later : Later f c o.course
    later = leads_later f single c o.course st.came o.leads

    u : NodeWork
    u = moving i (Asking (action.Call kind op object args)) r v

    alone : IsAlone single v.node object
    alone = alone_known f single w c m v object st is

    k : Carries f single w o.course m u
    k = moving_carries f single w c o.course m i (Asking (action.Call kind op object args)) r v h o.corresponds later
        (moved_node f single o.course m i (Asking (action.Call kind op object args)) r v (node_later f single c o.course m v.node later (own_node f single w c m v h))
        (λ z at. same_alone single v object z alone at) (λ z at. absurd at))

    go : (b : Bool) → (owner_in (known f v.node) object == m) ≡ b
        → CarriesOn f single w o.course m (if b then performs_call f m (message_of call) u else sends m (owner_in (known f v.node) object) (Ask r.place (message_of call)) u)
    go true e =
        let own : IsOf f c m object.process = subst (λ (n : ℕ). IsOf f c n object.process) (eqb-true (owner_in (known f v.node) object) m e)
        (owner_of f single c st.came m v.node (member_here f single w c m v st) object alone.maker) in
        call_carries f single fits_state fits_args fits_text fits_reply w o.course m call u program k (own_may f single w c m i r call v a alone.alone own o)
    go false e = carries_stay f single w o.course m (sends m (owner_in (known f v.node) object) (Ask r.place (message_of call)) u)
        (sends_carries f single w o.course m (Mail.Sends u.node.member.installed m (owner_in (known f v.node) object) (Ask r.place (message_of call))) u k
        (ask_stands f single w o.course m i (moves_to (Asking (action.Call kind op object args)) r) kind op object args u o.corresponds (at_own v.node.played i (Some (moves_to (Asking (action.Call kind op object args)) r))) refl
        (record { alone = alone.alone; maker = alone.maker }) (eqb-false (owner_in (known f v.node) object) m e)))

-- ---- it reads, or submits

reads_carries : (f : Frame) (single : Test) (fits_state : StateFits) (fits_args : ArgsFit) (fits_text : TextFits) (fits_reply : ReplyFits) (w : World) (c : Course) (m i : ℕ) (r : Played) (kind : KindNo) (op : OpNo) (object : ObjectId) (args : Data) (v : NodeWork)
    → Program f fits_state fits_args fits_text fits_reply → Carries f single w c m v → IsActing f single w c m i r (action.Call kind op object args) v → single object ≡ false
    → CarriesOn f single w c m (reads f i r (action.Call kind op object args) v)
reads_carries f single fits_state fits_args fits_text fits_reply w c m i r kind op object args v program h a shared =
    let u : NodeWork = moving i (Reading (action.Call kind op object args)) r v in
    let now = reading_lifts f single w c m i r (action.Call kind op object args) v a in
    let k : Carries f single w c m u = moving_carries f single w c c m i (Reading (action.Call kind op object args)) r v h now (later_self f c)
    (moved_node f single c m i (Reading (action.Call kind op object args)) r v (own_node f single w c m v h) (λ z at. absurd at) (λ z at. ap single at ∙ shared)) in
    silent_lifts f single w c m u (reads f i r (action.Call kind op object args) v) k (silent_read f i u) (read_lifts f single fits_state fits_args fits_text fits_reply w c m i u program now)

-- the message is submitted, and the group takes it
submits_carries : (f : Frame) (single : Test) (w : World) (c : Course) (m i : ℕ) (r : Played) (act : Action) (x : Message) (v : NodeWork) → Carries f single w c m v → IsActing f single w c m i r act v → IsMessage single i r act x
    → KeepsEntries v.node (submits f m i r act x v).node → CarriesOn f single w c m (submits f m i r act x v)
submits_carries f single w c m i r act x v h a is entries = (l.0, l.1, joins_carries f single w l.0 m (submit (group f) m x u.node.member) u entries k)
  where
    u : NodeWork
    u = submitting i r act x v

    l : Lifts f single c (at_work f m w u)
    l = submitting_lifts f single w c m i r act x v a is

    later : Later f c l.0
    later = let z = h.corresponds in let st = z.stands in leads_later f single c l.0 st.came l.1

    n : NodeStands f single l.0 m (moving i (Submitted act) r v).node
    n = moved_node f single l.0 m i (Submitted act) r v (node_later f single c l.0 m v.node later (own_node f single w c m v h)) (λ o at. absurd at) (λ o at. is.shared o at)

    k : Carries f single w l.0 m u
    k = carry f single w c l.0 m v u h (record {
      corresponds = l.2;
      later = later;
      node = record {
        held = n.held;
        given = n.given;
        asks = λ j s o here at. let a = n.asks j s o here at in record { alone = a.alone; maker = a.maker };
        shares = n.shares;
      };
      mails = λ mail at. inl at;
      beside = λ s o at calls alone. inl at;
      given = λ s at g. record { given = g.given; there = g.there; call = g.call };
    })

-- ---- an action is carried out

by_carries : (f : Frame) (single : Test) (fits_state : StateFits) (fits_args : ArgsFit) (fits_text : TextFits) (fits_reply : ReplyFits) (w : World) (c : Course) (m i : ℕ) (r : Played) (act : Action) (v : NodeWork)
    → Program f fits_state fits_args fits_text fits_reply → Carries f single w c m v → IsActing f single w c m i r act v → KeepsEntries v.node (acts_by f m i r act v).node → CarriesOn f single w c m (acts_by f m i r act v)
by_carries f single fits_state fits_args fits_text fits_reply w c m i r (action.Make kind object) v program h a keep =
    let x : Message = record { process = record { 0 = i }; call = next_call r; action = action.Make kind object; performable = refl } in
    submits_carries f single w c m i r (action.Make kind object) x v h a (record { process = refl; call = refl; action = refl; shared = λ o calls. absurd calls }) keep
by_carries f single fits_state fits_args fits_text fits_reply w c m i r (action.Fork text args place_on) v program h a keep =
    let x : Message = record { process = record { 0 = i }; call = next_call r; action = action.Fork text args place_on; performable = refl } in
    submits_carries f single w c m i r (action.Fork text args place_on) x v h a (record { process = refl; call = refl; action = refl; shared = λ o calls. absurd calls }) keep
by_carries f single fits_state fits_args fits_text fits_reply w c m i r action.Ended v program h a keep = carries_stay f single w c m v h
by_carries f single fits_state fits_args fits_text fits_reply w c m i r (action.Faulted fault) v program h a keep = carries_stay f single w c m v h
by_carries f single fits_state fits_args fits_text fits_reply w c m i r (action.Call kind op object args) v program h a keep = go (singles_of f (known f v.node) object) refl keep
  where
    call : Suspended
    call = call_of i r kind op object args

    shared : singles_of f (known f v.node) object ≡ false → single object ≡ false
    shared none = shared_if_known f single fits_state fits_args fits_text fits_reply w c m i r kind op object args v program a none

    by_class : singles_of f (known f v.node) object ≡ false → (z : Class) → KeepsEntries v.node (calls_as f m i r call z v).node → CarriesOn f single w c m (calls_as f m i r call z v)
    by_class none IsReads entries = reads_carries f single fits_state fits_args fits_text fits_reply w c m i r kind op object args v program h a (shared none)
    by_class none Writes entries =
        submits_carries f single w c m i r (action.Call kind op object args) (message_of call) v h a (record { process = refl; call = refl; action = refl; shared = λ o is. ap single is ∙ shared none }) entries

    go : (b : Bool) → singles_of f (known f v.node) object ≡ b → KeepsEntries v.node (if b then asks f m i r call v else calls_as f m i r call (f.performs.class_of kind op) v).node
        → CarriesOn f single w c m (if b then asks f m i r call v else calls_as f m i r call (f.performs.class_of kind op) v)
    go true is entries = asks_carries f single fits_state fits_args fits_text fits_reply w c m i r kind op object args v program h a.here a.acts is
    go false is entries = by_class is (f.performs.class_of kind op) entries

at_carries : (f : Frame) (single : Test) (fits_state : StateFits) (fits_args : ArgsFit) (fits_text : TextFits) (fits_reply : ReplyFits) (w : World) (c : Course) (m i : ℕ) (r : Played) (stage : Stage) (v : NodeWork)
    → Program f fits_state fits_args fits_text fits_reply → Carries f single w c m v → v.node.played i ≡ Some r → r.stage ≡ stage → KeepsEntries v.node (acts_at f m i r stage v).node → CarriesOn f single w c m (acts_at f m i r stage v)
at_carries f single fits_state fits_args fits_text fits_reply w c m i r (Acting act) v program h here is keep =
    by_carries f single fits_state fits_args fits_text fits_reply w c m i r act v program h (record { corresponds = h.corresponds; here = here; acts = is }) keep
at_carries f single fits_state fits_args fits_text fits_reply w c m i r Computing v program h here is keep = carries_stay f single w c m v h
at_carries f single fits_state fits_args fits_text fits_reply w c m i r (Submitted act) v program h here is keep = carries_stay f single w c m v h
at_carries f single fits_state fits_args fits_text fits_reply w c m i r (Reading act) v program h here is keep = carries_stay f single w c m v h
at_carries f single fits_state fits_args fits_text fits_reply w c m i r (Asking act) v program h here is keep = carries_stay f single w c m v h
at_carries f single fits_state fits_args fits_text fits_reply w c m i r (Over act) v program h here is keep = carries_stay f single w c m v h

pub acts_carry : (f : Frame) (single : Test) (fits_state : StateFits) (fits_args : ArgsFit) (fits_text : TextFits) (fits_reply : ReplyFits) (w : World) (c : Course) (m i : ℕ) (o : Option Played) (v : NodeWork)
    → Program f fits_state fits_args fits_text fits_reply → Carries f single w c m v → v.node.played i ≡ o → KeepsEntries v.node (acts_of f m i o v).node → CarriesOn f single w c m (acts_of f m i o v)
acts_carry f single fits_state fits_args fits_text fits_reply w c m i None v program h here keep = carries_stay f single w c m v h
acts_carry f single fits_state fits_args fits_text fits_reply w c m i (Some r) v program h here keep =
    at_carries f single fits_state fits_args fits_text fits_reply w c m i r r.stage v program h here refl keep
