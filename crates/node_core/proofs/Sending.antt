-- Asks that go to an owner, and the call or the read that a process begins with.
use Rattle.std.proofs.Common.{◌≡◌, ◌++◌, ◌∷◌, ◌==◌, ℕ, suc, Bool, true, false, List, [], length, map, Option, Some, None, refl, sym, ap, ◌∙◌, subst, if◌then◌else◌}
use Rattle.std.proofs.Math.Bool.{Bool-set}
use Rattle.std.proofs.lemmas.Bool.{eq-eqb, ne_eqb}
use Rattle.orca_base.specs.declared.ids.CallNo.{CallNo}
use Rattle.orca_base.specs.declared.ids.KindNo.{KindNo}
use Rattle.orca_base.specs.declared.ids.ObjectId.{ObjectId}
use Rattle.orca_base.specs.declared.ids.OpNo.{OpNo}
use Rattle.orca_base.specs.declared.ids.ProcessNo.{ProcessNo}
use Rattle.value_core.specs.Datum.{Data}
use Rattle.value_core.specs.declared.action.Action.{Action}
use Rattle.value_core.specs.declared.action.Action.TheVariants as action
use Rattle.value_core.specs.declared.action.Reply.{Reply}
use Rattle.value_core.specs.declared.message.Message.{Message}
use Rattle.guard_queue.specs.declared.queue.Suspended.{Suspended}
use Rattle.group_packets.specs.declared.packet.Packet.{Packet}
use Rattle.object_manager.specs.After.{Copied}
use Rattle.object_manager.specs.State.{message_of}
use Rattle.world_rules.specs.Applying.{tries_read}
use Rattle.world_rules.specs.Frame.{Frame}
use Rattle.world_rules.specs.Mail.{errand_packet}
use Rattle.world_rules.specs.Mail.Errand.{Ask}
use Rattle.world_rules.specs.Nodes.{NodeWork, known, plays}
use Rattle.world_rules.specs.Owners.{performs_call, sends}
use Rattle.world_rules.specs.Parts.{asks_again, asks_again_at, asks_again_by, asks_again_of, asks_below}
use Rattle.world_rules.specs.Played.{Played, Stage as RulesStage, moves_to, next_call}
use Rattle.world_rules.specs.Processes.{Begun, home_in, owner_in}
use Rattle.node_rules.specs.Conditions.{Fitness}
use Rattle.node_core.specs.Calls.{Asks, HasMoved, IsCallOf, MayAsk, MayPerformCall, MayReadFirst, ReadsFirst, asked_as, asked_at, asked_by}
use Rattle.node_core.specs.Pieces.{Becomes, BecomesIn, MayCallHere, MayTryRead, resident_at}
use Rattle.node_parts.specs.Shown.{IsPlayed, IsPlayedIf, Left, LeftAt, Stood, on_stage}
use Rattle.node_core.specs.Stands.{IsMoved, IsWork, on_known}
use Rattle.node_parts.specs.declared.moved.Moved.{Moved}
use Rattle.node_parts.specs.declared.resident.Resident.{Resident}
use Rattle.node_parts.specs.declared.resident.Stage.{Stage}
use Rattle.node_parts.specs.declared.resident.Stage.TheVariants as at_stage
use Rattle.node_core.specs.declared.work.Work.{Work}
use Rattle.node_core.proofs.Calling.{mailed}
use Rattle.node_core.proofs.Working.{none_here, stands_put}

-- ---- what a process asks, as the world has it

abbrev pub asks_one : Frame → ℕ → ℕ → ObjectId → Message → NodeWork → NodeWork
asks_one f m place object x v =
    let owner = owner_in (known f v.node) object in
    if owner == m then v else sends m owner (Ask place x) v

abbrev pub asks_if : Frame → ℕ → Option (ℕ × ObjectId × Message) → NodeWork → NodeWork
asks_if f m None v = v
asks_if f m (Some asked) v = asks_one f m asked.0 asked.1 asked.2 v

asks_by : (f : Frame) (m i place calls : ℕ) (r : Played) (act : Action) (v : NodeWork) → place ≡ r.place → calls ≡ length r.replies
    → asks_again_by f m i r act v ≡ asks_if f m (asked_by place i calls act) v
asks_by f m i place calls r (action.Call kind op object args) v at many =
    ap (λ (n : ℕ). asks_if f m (asked_by n i (length r.replies) (action.Call kind op object args)) v) (sym at)
    ∙ ap (λ (n : ℕ). asks_if f m (asked_by place i n (action.Call kind op object args)) v) (sym many)
asks_by f m i place calls r (action.Make kind object) v at many = refl
asks_by f m i place calls r (action.Fork text args place_on) v at many = refl
asks_by f m i place calls r action.Ended v at many = refl
asks_by f m i place calls r (action.Faulted fault) v at many = refl

asks_stage : (f : Frame) (m i place calls : ℕ) (r : Played) (at : Stage) (v : NodeWork) → place ≡ r.place → calls ≡ length r.replies
    → asks_again_at f m i r (on_stage at) v ≡ asks_if f m (asked_as place i calls at) v
asks_stage f m i place calls r (at_stage.Asking act) v here many = asks_by f m i place calls r act v here many
asks_stage f m i place calls r at_stage.Computing v here many = refl
asks_stage f m i place calls r (at_stage.Acting act) v here many = refl
asks_stage f m i place calls r (at_stage.Submitted act) v here many = refl
asks_stage f m i place calls r (at_stage.Reading act) v here many = refl
asks_stage f m i place calls r (at_stage.Over act) v here many = refl

asks_same : {S : Type 0} (stood : Stood S) (left : Left S) (f : Frame) (m i : ℕ) (o : Option (Resident S)) (p : Option Played) (v : NodeWork)
    → IsPlayedIf stood left i o p → asks_again_of f m i p v ≡ asks_if f m (asked_at i o) v
asks_same stood left f m i None None v is = refl
asks_same stood left f m i None (Some r) v is = absurd is
asks_same stood left f m i (Some s) None v is = absurd is
asks_same stood left f m i (Some s) (Some r) v is =
    ap (λ (at : RulesStage). asks_again_at f m i r at v) (sym is.stage) ∙ asks_stage f m i s.place s.calls r s.stage v is.place is.calls

-- of a resident at this stage it is this
pub asked_so : {S : Type 0} (process : ProcessNo) (o : Option (Resident S)) (s : Resident S) (act : Action) (kind : KindNo) (op : OpNo) (object : ObjectId) (args copied : Data) (place : ℕ) (number : CallNo)
    (p : true ≡ true) → o ≡ Some s → s.stage ≡ at_stage.Asking act → act ≡ action.Call kind op object args → place ≡ s.place → number ≡ record { 0 = s.calls } → copied ≡ args
    → Some (place, object, record { process = process; call = number; action = action.Call kind op object copied; performable = p }) ≡ asked_at process.0 o
asked_so process o s act kind op object args copied place number p is stage acts here many same =
    ap (λ (q : true ≡ true). Some (place, object, record { process = process; call = number; action = action.Call kind op object copied; performable = q })) (Bool-set true true p refl)
    ∙ ap (λ (k : ℕ). Some (k, object, message_of (record { process = process; call = number; kind = kind; op = op; object = object; args = copied }))) here
    ∙ ap (λ (n : CallNo). Some (s.place, object, message_of (record { process = process; call = n; kind = kind; op = op; object = object; args = copied }))) many
    ∙ ap (λ (d : Data). Some (s.place, object, message_of (record { process = process; call = record { 0 = s.calls }; kind = kind; op = op; object = object; args = d }))) same
    ∙ sym (ap (λ (r : Option (Resident _)). asked_at process.0 r) is ∙ ap (λ (st : Stage). asked_as s.place process.0 s.calls st) stage
    ∙ ap (λ (a : Action). asked_by s.place process.0 s.calls a) acts)

-- nothing, where it asks nothing
pub ask_none : {P S : Type 0} (stood : Stood S) (left : Left S) (i : ℕ) (s : Work P S) → None ≡ asked_at i (resident_at s.node i)
    → Becomes stood left s s (λ f m v. asks_again_of f m i (v.node.played i) v)
ask_none stood left i s none f m v work =
    subst (λ (w : NodeWork). IsWork stood left f m s w)
    (sym (asks_same stood left f m i (resident_at s.node i) (v.node.played i) v (work.node.residents i) ∙ ap (λ (o : Option (ℕ × ObjectId × Message)). asks_if f m o v) (sym none))) work

-- nothing, where the owner is this member
pub ask_own : {P S : Type 0} (stood : Stood S) (left : Left S) (i home me place : ℕ) (object : ObjectId) (x : Message) (s : Work P S)
    → Some (place, object, x) ≡ asked_at i (resident_at s.node i) → ((processes : List Begun) → s.node.known.items ≡ map on_known processes → home ≡ home_in processes object.process)
    → me ≡ s.node.member.me → home ≡ me → Becomes stood left s s (λ f m v. asks_again_of f m i (v.node.played i) v)
ask_own stood left i home me place object x s some lives mine here f m v work =
    subst (λ (w : NodeWork). IsWork stood left f m s w)
    (sym (asks_same stood left f m i (resident_at s.node i) (v.node.played i) v (work.node.residents i) ∙ ap (λ (o : Option (ℕ × ObjectId × Message)). asks_if f m o v) (sym some)
    ∙ ap (λ (b : Bool). if b then v else sends m (owner_in (known f v.node) object) (Ask place x) v)
    (eq-eqb (owner_in (known f v.node) object) m (sym (lives (known f v.node) work.node.known) ∙ here ∙ mine ∙ work.node.member.me)))) work

-- else an Ask goes to it
pub ask_sent : {P S : Type 0} (stood : Stood S) (left : Left S) (i home me place : ℕ) (object : ObjectId) (x : Message) (packet : Packet Message Reply) (old new : Work P S)
    → Some (place, object, x) ≡ asked_at i (resident_at old.node i) → ((processes : List Begun) → old.node.known.items ≡ map on_known processes → home ≡ home_in processes object.process)
    → me ≡ old.node.member.me → (home ≡ me → ⊥) → packet ≡ errand_packet old.node.member.installed (Ask place x) → new.node ≡ old.node
    → new.moved.sends.items ≡ old.moved.sends.items ++ record { to = home; packet = packet } ∷ [] → new.moved ≡ record old.moved { sends = new.moved.sends }
    → Becomes stood left old new (λ f m v. asks_again_of f m i (v.node.played i) v)
ask_sent stood left i home me place object x packet old new some lives mine apart is same posts others f m v work =
    subst (λ (w : NodeWork). IsWork stood left f m new w)
    (sym (asks_same stood left f m i (resident_at old.node i) (v.node.played i) v (work.node.residents i) ∙ ap (λ (o : Option (ℕ × ObjectId × Message)). asks_if f m o v) (sym some)
    ∙ ap (λ (b : Bool). if b then v else sends m (owner_in (known f v.node) object) (Ask place x) v)
    (ne_eqb (owner_in (known f v.node) object) m (λ e. apart (owner ∙ e ∙ sym work.node.member.me ∙ sym mine)))))
    (subst (λ (to : ℕ). IsWork stood left f m new (sends m to (Ask place x) v)) owner
    (mailed stood left f m home (Ask place x) packet old new v is same posts others work))
  where
    owner : home ≡ owner_in (known f v.node) object
    owner = lives (known f v.node) work.node.known

-- ---- of all processes

pub asks_more : {P S : Type 0} (stood : Stood S) (left : Left S) (i next : ℕ) (start old new : Work P S) → suc i ≡ next
    → Becomes stood left start old (λ f m. asks_below f m i) → Becomes stood left old new (λ f m v. asks_again_of f m i (v.node.played i) v)
    → Becomes stood left start new (λ f m. asks_below f m next)
asks_more stood left i next start old new is before becomes f m v work =
    subst (λ (n : ℕ). IsWork stood left f m new (asks_below f m n v)) is (becomes f m (asks_below f m i v) (before f m v work))

pub asks_all : {P S : Type 0} (stood : Stood S) (left : Left S) (n : ℕ) (outside : Bool) (start new : Work P S) → n ≡ start.node.copies.processes → outside ≡ start.node.member.outside
    → outside ≡ false → Becomes stood left start new (λ f m. asks_below f m n) → Becomes stood left start new (λ f m. asks_again f m)
asks_all stood left n outside start new is tells inside goes f m v work =
    subst (λ (w : NodeWork). IsWork stood left f m new w)
    (ap (λ (k : ℕ). asks_below f m k v) (is ∙ ap (λ (c : Copied). c.processes) work.node.copies)
    ∙ ap (λ (b : Bool). if b then v else asks_below f m v.node.copies.processes v) (sym (work.node.member.outside ∙ sym tells ∙ inside)))
    (goes f m v work)

pub asks_outside : {P S : Type 0} (stood : Stood S) (left : Left S) (outside : Bool) (s : Work P S) → outside ≡ s.node.member.outside → outside ≡ true
    → Becomes stood left s s (λ f m. asks_again f m)
asks_outside stood left outside s tells out f m v work =
    subst (λ (w : NodeWork). IsWork stood left f m s w)
    (ap (λ (b : Bool). if b then v else asks_below f m v.node.copies.processes v) (sym (work.node.member.outside ∙ sym tells ∙ out))) work

-- ---- a process begins to wait

-- who was at an action waits with it, at another stage
pub waits_first : {P S : Type 0} (stood : Stood S) (left : Left S) (f : Frame) (m i : ℕ) (to : Stage) (act : Action) (old new : Work P S) (v : NodeWork) (r : Played)
    → ((state : S) → left state act → LeftAt left state (on_stage to)) → HasMoved i to (resident_at old.node i) old.node new.node → new.moved ≡ old.moved
    → IsWork stood left f m old v → v.node.played i ≡ Some r → r.stage ≡ RulesStage.Acting act → IsWork stood left f m new (plays i (moves_to (on_stage to) r) v)
waits_first {P} {S} stood left f m i to act old new v r halts has moved h there acts =
    go (resident_at old.node i) has (h.node.residents i)
  where
    go : (o : Option (Resident S)) → HasMoved i to o old.node new.node → IsPlayedIf stood left i o (v.node.played i) → IsWork stood left f m new (plays i (moves_to (on_stage to) r) v)
    go None has is = let e : None ≡ Some r = sym (none_here stood left i None (v.node.played i) refl is) ∙ there in absurd (cc e)
    go (Some a) put is =
        let here : IsPlayed stood left i a r = subst (λ (p : Option Played). IsPlayedIf stood left i (Some a) p) there is in
        let halted : left a.state act = subst (λ (at : RulesStage). LeftAt left a.state at) acts here.halts in
        let alike : IsPlayed stood left i (record a { stage = to; out = None }) (moves_to (on_stage to) r) = record {
          state = here.state;
          halts = halts a.state halted;
          turns = here.turns;
          place = here.place;
          calls = here.calls;
          stage = refl;
        } in
        record {
          node = stands_put stood left f m i (record a { stage = to; out = None }) (moves_to (on_stage to) r) old.node new.node v.node put alike h.node;
          moved = subst (λ (d : Moved). IsMoved f.settings.nodes d v.deeds) (sym moved) h.moved;
        }

-- ---- a read

pub read_may : {P S : Type 0} (stood : Stood S) (left : Left S) (f : Frame) (fitness : Fitness) (i : ℕ) (act : Action) (old mid : Work P S)
    → HasMoved i (at_stage.Reading act) (resident_at old.node i) old.node mid.node → mid.moved ≡ old.moved → MayReadFirst stood left f fitness i act old
    → MayTryRead stood left f fitness i mid
read_may stood left f fitness i act old mid has moved may = (
  may.member,
  plays i (moves_to (RulesStage.Reading act) may.played) may.work,
  waits_first stood left f may.member i (at_stage.Reading act) act old mid may.work may.played (λ state halted. halted) has moved may.is may.here may.stage,
  may.may,
)

pub read_first : {P S : Type 0} (stood : Stood S) (left : Left S) (f : Frame) (i : ℕ) (act : Action) (old mid new : Work P S)
    → HasMoved i (at_stage.Reading act) (resident_at old.node i) old.node mid.node → mid.moved ≡ old.moved
    → BecomesIn stood left f mid new (λ m. tries_read f i) → ReadsFirst stood left f i act old new
read_first stood left f i act old mid new has moved becomes m v r work there acts =
    becomes m (plays i (moves_to (RulesStage.Reading act) r) v)
    (waits_first stood left f m i (at_stage.Reading act) act old mid v r (λ state halted. halted) has moved work there acts)

-- ---- a call on a single object

-- it is the process's next one
abbrev pub named_by : ℕ → Played → Suspended → Suspended
named_by i r call = record call { process = record { 0 = i }; call = next_call r }

pub named_so : (i : ℕ) (r : Played) (object : ObjectId) (x : Message) (call : Suspended) → IsCallOf i r object x call → named_by i r call ≡ call
named_so i r object x call is =
    ap (λ (p : ProcessNo). record call { process = p; call = next_call r }) (sym is.process) ∙ ap (λ (n : CallNo). record call { call = n }) (sym is.number)

-- the process asks
asking : {P S : Type 0} (stood : Stood S) (left : Left S) (f : Frame) (m i : ℕ) (object : ObjectId) (x : Message) (act : Action) (old mid : Work P S) (v : NodeWork) (r : Played) (call : Suspended)
    → act ≡ x.action → HasMoved i (at_stage.Asking act) (resident_at old.node i) old.node mid.node → mid.moved ≡ old.moved
    → IsWork stood left f m old v → v.node.played i ≡ Some r → IsCallOf i r object x call
    → IsWork stood left f m mid (plays i (moves_to (RulesStage.Asking (message_of call).action) r) v)
asking stood left f m i object x act old mid v r call is has moved work there calls =
    subst (λ (a : Action). IsWork stood left f m mid (plays i (moves_to (RulesStage.Asking a) r) v)) same
    (waits_first stood left f m i (at_stage.Asking act) act old mid v r (λ state halted. halted) has moved work there (calls.stage ∙ ap (λ (a : Action). RulesStage.Acting a) (sym same)))
  where
    same : act ≡ (message_of call).action
    same = is ∙ ap (λ (y : Message). y.action) calls.message

pub ask_may : {P S : Type 0} (stood : Stood S) (left : Left S) (f : Frame) (fitness : Fitness) (i home me : ℕ) (object : ObjectId) (x : Message) (act : Action) (old mid : Work P S)
    → act ≡ x.action → HasMoved i (at_stage.Asking act) (resident_at old.node i) old.node mid.node → mid.moved ≡ old.moved
    → ((processes : List Begun) → mid.node.known.items ≡ map on_known processes → home ≡ home_in processes object.process) → me ≡ mid.node.member.me → home ≡ me
    → MayAsk stood left f fitness i object x old → MayPerformCall stood left f fitness x mid
ask_may {P} {S} stood left f fitness i home me object x act old mid is has moved lives mine here may = (
  may.member,
  asks_now,
  work,
  subst (λ (y : Message). MayCallHere f fitness asks_now.node y) (sym may.calls.message)
      (may.owned (ap (λ (o : ObjectId). owner_in (known f may.work.node) o) may.calls.on ∙ sym (lives (known f may.work.node) work.node.known) ∙ here ∙ mine ∙ work.node.member.me)),
)
  where
    asks_now : NodeWork
    asks_now = plays i (moves_to (RulesStage.Asking (message_of may.call).action) may.played) may.work

    work : IsWork stood left f may.member mid asks_now
    work = asking stood left f may.member i object x act old mid may.work may.played may.call is has moved may.is may.here may.calls

-- the object is this member's
pub ask_here : {P S : Type 0} (stood : Stood S) (left : Left S) (f : Frame) (i home me : ℕ) (object : ObjectId) (x : Message) (act : Action) (old mid new : Work P S)
    → act ≡ x.action → HasMoved i (at_stage.Asking act) (resident_at old.node i) old.node mid.node → mid.moved ≡ old.moved
    → ((processes : List Begun) → mid.node.known.items ≡ map on_known processes → home ≡ home_in processes object.process) → me ≡ mid.node.member.me → home ≡ me
    → BecomesIn stood left f mid new (λ m. performs_call f m x) → Asks stood left f i object x old new
ask_here {P} {S} stood left f i home me object x act old mid new is has moved lives mine here becomes m v r call work there calls =
    subst (λ (b : Bool). IsWork stood left f m new (if b then performs_call f m (message_of call) asks_now else sends m (owner_in (known f v.node) call.object) (Ask r.place (message_of call)) asks_now))
    (sym owns)
    (subst (λ (y : Message). IsWork stood left f m new (performs_call f m y asks_now)) calls.message (becomes m asks_now now))
  where
    asks_now : NodeWork
    asks_now = plays i (moves_to (RulesStage.Asking (message_of call).action) r) v

    now : IsWork stood left f m mid asks_now
    now = asking stood left f m i object x act old mid v r call is has moved work there calls

    owns : (owner_in (known f v.node) call.object == m) ≡ true
    owns = eq-eqb (owner_in (known f v.node) call.object) m
        (ap (λ (o : ObjectId). owner_in (known f v.node) o) calls.on ∙ sym (lives (known f v.node) now.node.known) ∙ here ∙ mine ∙ now.node.member.me)

-- it is another member's
pub ask_there : {P S : Type 0} (stood : Stood S) (left : Left S) (f : Frame) (i home me : ℕ) (object : ObjectId) (x : Message) (act : Action) (old mid new : Work P S)
    → act ≡ x.action → HasMoved i (at_stage.Asking act) (resident_at old.node i) old.node mid.node → mid.moved ≡ old.moved
    → ((processes : List Begun) → mid.node.known.items ≡ map on_known processes → home ≡ home_in processes object.process) → me ≡ mid.node.member.me → (home ≡ me → ⊥)
    → Becomes stood left mid new (λ g n w. asks_again_of g n i (w.node.played i) w) → Asks stood left f i object x old new
ask_there {P} {S} stood left f i home me object x act old mid new is has moved lives mine apart becomes m v r call work there calls =
    subst (λ (b : Bool). IsWork stood left f m new (if b then performs_call f m (message_of call) asks_now else away call)) (sym other)
    (subst (λ (b : Bool). IsWork stood left f m new (if b then asks_now else away call)) other
    (subst (λ (c : Suspended). IsWork stood left f m new (if owner_in (known f v.node) c.object == m then asks_now else away c)) (named_so i r object x call calls)
    (subst (λ (o : Option Played). IsWork stood left f m new (asks_again_of f m i o asks_now)) own (becomes f m asks_now now))))
  where
    asks_now : NodeWork
    asks_now = plays i (moves_to (RulesStage.Asking (message_of call).action) r) v

    away : Suspended → NodeWork
    away c = sends m (owner_in (known f v.node) c.object) (Ask r.place (message_of c)) asks_now

    now : IsWork stood left f m mid asks_now
    now = asking stood left f m i object x act old mid v r call is has moved work there calls

    own : asks_now.node.played i ≡ Some (moves_to (RulesStage.Asking (message_of call).action) r)
    own = ap (λ (b : Bool). if b then Some (moves_to (RulesStage.Asking (message_of call).action) r) else v.node.played i) (eq-eqb i i refl)

    other : (owner_in (known f v.node) call.object == m) ≡ false
    other = ne_eqb (owner_in (known f v.node) call.object) m
        (λ e. apart (lives (known f v.node) now.node.known ∙ ap (λ (o : ObjectId). owner_in (known f v.node) o) (sym calls.on) ∙ e ∙ sym now.node.member.me ∙ sym mine))
