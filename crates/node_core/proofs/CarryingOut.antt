-- An action that wasn't carried out is: which piece of the rules it is.
use Rattle.std.proofs.Common.{◌≡◌, ◌<◌, ◌^◌, ◌==◌, ℕ, Bool, true, false, List, length, Option, Some, None, refl, sym, ap, ◌∙◌, subst, if◌then◌else◌}
use Rattle.std.proofs.lemmas.Bool.{eq-eqb}
use Rattle.std.proofs.Math.Bool.{Bool-set}
use Rattle.orca_base.specs.declared.ids.CallNo.{CallNo}
use Rattle.orca_base.specs.declared.ids.KindNo.{KindNo}
use Rattle.orca_base.specs.declared.ids.ObjectId.{ObjectId}
use Rattle.orca_base.specs.declared.ids.OpNo.{OpNo}
use Rattle.orca_base.specs.declared.ids.ProcessNo.{ProcessNo}
use Rattle.value_core.specs.Datum.{Data}
use Rattle.value_core.specs.Meaning.{Performs}
use Rattle.value_core.specs.Performable.{is_performable}
use Rattle.value_core.specs.declared.action.Action.{Action}
use Rattle.value_core.specs.declared.action.Action.TheVariants as action
use Rattle.value_core.specs.declared.action.Class.{Class}
use Rattle.value_core.specs.declared.action.Class.TheVariants.{Reads, Writes}
use Rattle.value_core.specs.declared.message.Message.{Message}
use Rattle.guard_queue.specs.declared.queue.Suspended.{Suspended}
use Rattle.object_manager.specs.State.{message_of}
use Rattle.object_manager.specs.Viewed.{ReadFits}
use Rattle.world_rules.specs.Frame.{Frame}
use Rattle.world_rules.specs.Nodes as nodes
use Rattle.world_rules.specs.Nodes.{NodeWork, entries_of, idle, known, plays}
use Rattle.world_rules.specs.Parts.{acts_at, acts_by, acts_of, asks, calls, calls_as, reads, submits}
use Rattle.world_rules.specs.Played.{Played, Stage as RulesStage, moves_to, next_call}
use Rattle.world_rules.specs.Played.{Stage as stage}
use Rattle.world_rules.specs.Processes.{Begun, singles_of}
use Rattle.node_rules.specs.Conditions.{AreSmall, Fitness}
use Rattle.node_rules.specs.Starts.{EventFits, MayAct, MayCall, begun}
use Rattle.node_rules.specs.Starts.Start.{Acts}
use Rattle.node_core.specs.Calls.{Asks, IsCallOf, MayAsk, MayReadFirst, ReadsFirst}
use Rattle.node_core.specs.Entries.{KnowsAs}
use Rattle.node_core.specs.Events.{HasStarted, HasSubmitted, MayStart, acting_as, acting_at, called_single, is_read_by, message_by, reads_nothing}
use Rattle.node_core.specs.Pieces.{resident_at}
use Rattle.node_parts.specs.Shown.{IsPlayedIf, Left, Stood, on_stage}
use Rattle.node_core.specs.Stands.{IsWork}
use Rattle.node_parts.specs.declared.resident.Resident.{Resident}
use Rattle.node_parts.specs.declared.resident.Stage.{Stage}
use Rattle.node_parts.specs.declared.resident.Stage.TheVariants as at_stage
use Rattle.node_core.specs.declared.work.Work.{Work}
use Rattle.node_core.proofs.NextEntry.{knows}

-- ---- the message of the action

message_is : (process : ProcessNo) (call : CallNo) (act : Action) (p : is_performable act ≡ true) → Some (record { process = process; call = call; action = act; performable = p }) ≡ message_by process.0 call.0 act
message_is process call (action.Make kind object) p =
    ap (λ (q : true ≡ true). Some (record { process = process; call = call; action = action.Make kind object; performable = q })) (Bool-set true true p refl)
message_is process call (action.Call kind op object args) p =
    ap (λ (q : true ≡ true). Some (record { process = process; call = call; action = action.Call kind op object args; performable = q })) (Bool-set true true p refl)
message_is process call (action.Fork text args place_on) p =
    ap (λ (q : true ≡ true). Some (record { process = process; call = call; action = action.Fork text args place_on; performable = q })) (Bool-set true true p refl)
message_is process call action.Ended p = absurd (cc p)
message_is process call (action.Faulted fault) p = absurd (cc p)

-- it is that, whatever shows that the action can be performed
pub message_so : (process : ProcessNo) (call : CallNo) (act made : Action) (p : is_performable made ≡ true) → act ≡ made
    → Some (record { process = process; call = call; action = made; performable = p }) ≡ message_by process.0 call.0 act
message_so process call act made p is = message_is process call made p ∙ ap (λ (a : Action). message_by process.0 call.0 a) (sym is)

same_message : (x y : Message) → Some x ≡ Some y → x ≡ y
same_message x y is = cc is

message_action : (i calls : ℕ) (act : Action) (x : Message) → message_by i calls act ≡ Some x → act ≡ x.action
message_action i calls (action.Make kind object) x is = ap (λ (y : Message). y.action) (same_message _ x is)
message_action i calls (action.Call kind op object args) x is = ap (λ (y : Message). y.action) (same_message _ x is)
message_action i calls (action.Fork text args place_on) x is = ap (λ (y : Message). y.action) (same_message _ x is)
message_action i calls action.Ended x is = absurd (cc is)
message_action i calls (action.Faulted fault) x is = absurd (cc is)

none_by : (f : Frame) (m i calls : ℕ) (r : Played) (act : Action) (v : NodeWork) → message_by i calls act ≡ None → acts_by f m i r act v ≡ v
none_by f m i calls r (action.Make kind object) v is = absurd (cc is)
none_by f m i calls r (action.Call kind op object args) v is = absurd (cc is)
none_by f m i calls r (action.Fork text args place_on) v is = absurd (cc is)
none_by f m i calls r action.Ended v is = refl
none_by f m i calls r (action.Faulted fault) v is = refl

none_as : (f : Frame) (m i calls : ℕ) (r : Played) (at : Stage) (v : NodeWork) → acting_as i calls at ≡ None → acts_at f m i r (on_stage at) v ≡ v
none_as f m i calls r at_stage.Computing v is = refl
none_as f m i calls r (at_stage.Acting act) v is = none_by f m i calls r act v is
none_as f m i calls r (at_stage.Submitted act) v is = refl
none_as f m i calls r (at_stage.Reading act) v is = refl
none_as f m i calls r (at_stage.Asking act) v is = refl
none_as f m i calls r (at_stage.Over act) v is = refl

none_acts : {S : Type 0} (stood : Stood S) (left : Left S) (f : Frame) (m i : ℕ) (o : Option (Resident S)) (p : Option Played) (v : NodeWork) → IsPlayedIf stood left i o p → acting_at i o ≡ None
    → acts_of f m i p v ≡ v
none_acts stood left f m i None None v is none = refl
none_acts stood left f m i None (Some r) v is none = absurd is
none_acts stood left f m i (Some s) None v is none = absurd is
none_acts stood left f m i (Some s) (Some r) v is none = ap (λ (at : RulesStage). acts_at f m i r at v) (sym is.stage) ∙ none_as f m i s.calls r s.stage v none

-- where there is none, nothing is done
pub nothing_acts : {P S : Type 0} (stood : Stood S) (left : Left S) (f : Frame) (fitness : Fitness) (i : ℕ) (s : Work P S) → None ≡ acting_at i (resident_at s.node i)
    → HasStarted stood left f fitness (Acts i) s s
nothing_acts stood left f fitness i s none m v work fits =
    subst (λ (w : NodeWork). IsWork stood left f m s w) (sym (none_acts stood left f m i (resident_at s.node i) (v.played i) (idle v) (work.node.residents i) (sym none))) work

-- process i, which is r, is at the message's action, and that is its next one
pub record IsActing (i : ℕ) (p : Option Played) (x : Message) : Type 0 where
  pub played : Played
  pub here : p ≡ Some played
  pub acts : played.stage ≡ stage.Acting x.action
  pub message : message_by i (length played.replies) x.action ≡ Some x

acting_stage : (i calls : ℕ) (at : Stage) (x : Message) → acting_as i calls at ≡ Some x → (on_stage at ≡ stage.Acting x.action) × (message_by i calls x.action ≡ Some x)
acting_stage i calls at_stage.Computing x is = absurd (cc is)
acting_stage i calls (at_stage.Acting act) x is =
    (let same = message_action i calls act x is in
    (ap (λ (a : Action). stage.Acting a) same, subst (λ (a : Action). message_by i calls a ≡ Some x) same is))
acting_stage i calls (at_stage.Submitted act) x is = absurd (cc is)
acting_stage i calls (at_stage.Reading act) x is = absurd (cc is)
acting_stage i calls (at_stage.Asking act) x is = absurd (cc is)
acting_stage i calls (at_stage.Over act) x is = absurd (cc is)

acting_is : {S : Type 0} (stood : Stood S) (left : Left S) (i : ℕ) (o : Option (Resident S)) (p : Option Played) (x : Message) → IsPlayedIf stood left i o p → acting_at i o ≡ Some x → IsActing i p x
acting_is stood left i None p x is some = absurd (cc some)
acting_is stood left i (Some s) None x is some = absurd is
acting_is stood left i (Some s) (Some r) x is some =
    let at = acting_stage i s.calls s.stage x some in
    record { played = r; here = refl; acts = sym is.stage ∙ at.0; message = subst (λ (n : ℕ). message_by i n x.action ≡ Some x) is.calls at.1 }

pub acting_at_work : {P S : Type 0} (stood : Stood S) (left : Left S) (f : Frame) (m i : ℕ) (x : Message) (s : Work P S) (v : nodes.Node) → Some x ≡ acting_at i (resident_at s.node i)
    → IsWork stood left f m s (idle v) → IsActing i (v.played i) x
acting_at_work stood left f m i x s v is work = acting_is stood left i (resident_at s.node i) (v.played i) x (work.node.residents i) (sym is)

-- so it is by the action
acts_so : (f : Frame) (m i : ℕ) (x : Message) (v : nodes.Node) (is : IsActing i (v.played i) x) → begun f m (Acts i) v ≡ acts_by f m i is.played x.action (idle v)
acts_so f m i x v is = ap (λ (p : Option Played). acts_of f m i p (idle v)) is.here ∙ ap (λ (at : RulesStage). acts_at f m i is.played at (idle v)) is.acts

-- ---- the numbers are small as before

small_moved : (i : ℕ) (to : RulesStage) (r : Played) (v : nodes.Node) → AreSmall v → v.played i ≡ Some r → AreSmall (plays i (moves_to to r) (idle v)).node
small_moved i to r v small here = record {
  accepted = small.accepted;
  promised = small.promised;
  calls = λ j s there. go j s (j == i) refl there;
}
  where
    same : (a b : Played) → Some a ≡ Some b → a ≡ b
    same a b is = cc is

    go : (j : ℕ) (s : Played) (b : Bool) → (j == i) ≡ b → (plays i (moves_to to r) (idle v)).node.played j ≡ Some s → length s.replies < 2 ^ 62
    go j s true e there =
        let moved : moves_to to r ≡ s = same (moves_to to r) s (sym (ap (λ (b : Bool). if b then Some (moves_to to r) else v.played j) e) ∙ there) in
        subst (λ (p : Played). length p.replies < 2 ^ 62) moved (small.calls i r here)
    go j s false e there = small.calls j s (sym (ap (λ (b : Bool). if b then Some (moves_to to r) else v.played j) e) ∙ there)

-- ---- a call on a single object

pub record IsSingleCall (f : Frame) (fitness : Fitness) (m i : ℕ) (object : ObjectId) (r : Played) (x : Message) (v : nodes.Node) : Type 0 where
  pub call : Suspended
  pub is_call : IsCallOf i r object x call
  pub single : singles_of f (known f v) call.object ≡ true
  pub may : MayCall f fitness m i r v call
  pub acts : acts_by f m i r x.action (idle v) ≡ calls f m i r call (idle v)

-- the object that is single
single_found : (b : Bool) (o object : ObjectId) → (if b then Some o else None) ≡ Some object → (b ≡ true) × (o ≡ object)
single_found true o object is = (refl, cc is)
single_found false o object is = absurd (cc is)

single_call : (f : Frame) (fitness : Fitness) (m i : ℕ) (object : ObjectId) (r : Played) (x : Message) (v : nodes.Node) (act : Action) → act ≡ x.action → message_by i (length r.replies) act ≡ Some x
    → r.stage ≡ stage.Acting act → MayAct f fitness m i r v act → called_single (singles_of f (known f v)) act ≡ Some object → IsSingleCall f fitness m i object r x v
single_call f fitness m i object r x v (action.Call kind op o args) is message at may found =
    let one = single_found (singles_of f (known f v) o) o object found in
    let call : Suspended = record { process = record { 0 = i }; call = next_call r; kind = kind; op = op; object = o; args = args } in
    record {
      call = call;
      is_call = record { process = refl; number = refl; on = one.1; message = sym (same_message (message_of call) x message); stage = at };
      single = one.0;
      may = may;
      acts = ap (λ (a : Action). acts_by f m i r a (idle v)) (sym is);
    }
single_call f fitness m i object r x v (action.Make kind o) is message at may found = absurd (cc found)
single_call f fitness m i object r x v (action.Fork text args place_on) is message at may found = absurd (cc found)
single_call f fitness m i object r x v action.Ended is message at may found = absurd (cc found)
single_call f fitness m i object r x v (action.Faulted fault) is message at may found = absurd (cc found)

is_single_call : {P S : Type 0} (stood : Stood S) (left : Left S) (f : Frame) (fitness : Fitness) (m i : ℕ) (object : ObjectId) (x : Message) (s : Work P S) (v : nodes.Node) (is : IsActing i (v.played i) x)
    → ((g : Frame) (processes : List Begun) → KnowsAs g processes s.node → Some object ≡ called_single (singles_of g processes) x.action)
    → IsWork stood left f m s (idle v) → EventFits f fitness m (Acts i) v → IsSingleCall f fitness m i object is.played x v
is_single_call stood left f fitness m i object x s v is found work fits =
    single_call f fitness m i object is.played x v x.action refl is.message is.acts (fits.first is.played x.action is.here is.acts)
    (sym (found f (known f v) (knows stood left f m s.node v work.node)))

pub may_ask : {P S : Type 0} (stood : Stood S) (left : Left S) (f : Frame) (fitness : Fitness) (i : ℕ) (object : ObjectId) (x : Message) (s : Work P S) → Some x ≡ acting_at i (resident_at s.node i)
    → ((g : Frame) (processes : List Begun) → KnowsAs g processes s.node → Some object ≡ called_single (singles_of g processes) x.action)
    → MayStart stood left f fitness (Acts i) s → MayAsk stood left f fitness i object x s
may_ask stood left f fitness i object x s acting found (m, v, work, fits) =
    let is = acting_at_work stood left f m i x s v acting work in
    let one = is_single_call stood left f fitness m i object x s v is found work fits in
    record {
      member = m;
      work = idle v;
      played = is.played;
      call = one.call;
      is = work;
      here = is.here;
      calls = one.is_call;
      owned = λ own. record {
        fits = fits.before.fits;
        blocked = fits.before.blocked;
        small = small_moved i (stage.Asking (message_of one.call).action) is.played v fits.before.small is.here;
        may = one.may.owned one.single own;
      };
    }

pub ask_acts : {P S : Type 0} (stood : Stood S) (left : Left S) (f : Frame) (fitness : Fitness) (i : ℕ) (object : ObjectId) (x : Message) (s new : Work P S) → Some x ≡ acting_at i (resident_at s.node i)
    → ((g : Frame) (processes : List Begun) → KnowsAs g processes s.node → Some object ≡ called_single (singles_of g processes) x.action)
    → Asks stood left f i object x s new → HasStarted stood left f fitness (Acts i) s new
ask_acts stood left f fitness i object x s new acting found asked m v work fits =
    let is = acting_at_work stood left f m i x s v acting work in
    let one = is_single_call stood left f fitness m i object x s v is found work fits in
    subst (λ (w : NodeWork). IsWork stood left f m new w)
    (sym (acts_so f m i x v is ∙ one.acts
    ∙ ap (λ (b : Bool). if b then asks f m i is.played one.call (idle v) else calls_as f m i is.played one.call (f.performs.class_of one.call.kind one.call.op) (idle v)) one.single))
    (asked m (idle v) is.played one.call work is.here one.is_call)

-- ---- a read of a replicated object

not_single : (b : Bool) (o : ObjectId) → None ≡ (if b then Some o else None) → b ≡ false
not_single true o is = absurd (cc is)
not_single false o is = refl

reads_class : (c : Class) → reads_nothing c ≡ true → c ≡ Reads
reads_class Reads is = refl
reads_class Writes is = absurd (cc is)

writes_class : (c : Class) → reads_nothing c ≡ false → c ≡ Writes
writes_class Reads is = absurd (cc is)
writes_class Writes is = refl

-- where the action is one, it may be tried
abbrev pub ReadMay : Fitness → nodes.Node → Action → Type 0
ReadMay fitness v act =
    (kind : KindNo) (op : OpNo) (object : ObjectId) (given : Data) → act ≡ action.Call kind op object given → ReadFits fitness.state fitness.args v.copies.objects kind op object given

pub record IsReadOf (f : Frame) (fitness : Fitness) (m i : ℕ) (r : Played) (act : Action) (v : nodes.Node) : Type 0 where
  pub may : ReadMay fitness v act
  pub acts : acts_by f m i r act (idle v) ≡ reads f i r act (idle v)

abbrev pub ReadAt : Fitness → nodes.Node → Action → Type 0
ReadAt fitness v (action.Call k o b given) = ReadFits fitness.state fitness.args v.copies.objects k o b given
ReadAt fitness v (action.Make k b) = Unit {0}
ReadAt fitness v (action.Fork text given place_on) = Unit {0}
ReadAt fitness v action.Ended = Unit {0}
ReadAt fitness v (action.Faulted fault) = Unit {0}

read_of_call : (f : Frame) (fitness : Fitness) (m i : ℕ) (r : Played) (v : nodes.Node) (act : Action) → MayAct f fitness m i r v act → None ≡ called_single (singles_of f (known f v)) act
    → is_read_by f.performs act ≡ true → IsReadOf f fitness m i r act v
read_of_call f fitness m i r v (action.Call kind op object args) may none read =
    let alone = not_single (singles_of f (known f v) object) object none in
    let class = reads_class (f.performs.class_of kind op) read in
    let call : Suspended = record { process = record { 0 = i }; call = next_call r; kind = kind; op = op; object = object; args = args } in
    record {
      may = λ k o b given is. subst (ReadAt fitness v) is (may.read alone class);
      acts = ap (λ (b : Bool). if b then asks f m i r call (idle v) else calls_as f m i r call (f.performs.class_of kind op) (idle v)) alone
          ∙ ap (λ (c : Class). calls_as f m i r call c (idle v)) class;
    }
read_of_call f fitness m i r v (action.Make kind object) may none read = absurd (cc read)
read_of_call f fitness m i r v (action.Fork text args place_on) may none read = absurd (cc read)
read_of_call f fitness m i r v action.Ended may none read = absurd (cc read)
read_of_call f fitness m i r v (action.Faulted fault) may none read = absurd (cc read)

is_read_of : {P S : Type 0} (stood : Stood S) (left : Left S) (f : Frame) (fitness : Fitness) (m i : ℕ) (p : Performs) (x : Message) (s : Work P S) (v : nodes.Node) (is : IsActing i (v.played i) x) → p ≡ f.performs
    → ((g : Frame) (processes : List Begun) → KnowsAs g processes s.node → None ≡ called_single (singles_of g processes) x.action) → is_read_by p x.action ≡ true
    → IsWork stood left f m s (idle v) → EventFits f fitness m (Acts i) v → IsReadOf f fitness m i is.played x.action v
is_read_of stood left f fitness m i p x s v is same none read work fits =
    read_of_call f fitness m i is.played v x.action (fits.first is.played x.action is.here is.acts) (none f (known f v) (knows stood left f m s.node v work.node))
    (ap (λ (q : Performs). is_read_by q x.action) (sym same) ∙ read)

-- the process that reads is the one at this action
reading_same : (i : ℕ) (act a : Action) (r q : Played) (v : nodes.Node) → (plays i (moves_to (stage.Reading act) r) (idle v)).node.played i ≡ Some q → q.stage ≡ stage.Reading a → act ≡ a
reading_same i act a r q v here at =
    same act a (ap (λ (p : Played). p.stage) (one (moves_to (stage.Reading act) r) q (sym (ap (λ (b : Bool). if b then Some (moves_to (stage.Reading act) r) else v.played i) (eq-eqb i i refl)) ∙ here)) ∙ at)
  where
    one : (a b : Played) → Some a ≡ Some b → a ≡ b
    one a b is = cc is

    same : (a b : Action) → stage.Reading a ≡ stage.Reading b → a ≡ b
    same a b is = cc is

pub may_read_first : {P S : Type 0} (stood : Stood S) (left : Left S) (f : Frame) (fitness : Fitness) (i : ℕ) (p : Performs) (x : Message) (s : Work P S) → p ≡ f.performs → Some x ≡ acting_at i (resident_at s.node i)
    → ((g : Frame) (processes : List Begun) → KnowsAs g processes s.node → None ≡ called_single (singles_of g processes) x.action) → is_read_by p x.action ≡ true
    → MayStart stood left f fitness (Acts i) s → MayReadFirst stood left f fitness i x.action s
may_read_first stood left f fitness i p x s same acting none read (m, v, work, fits) =
    let is = acting_at_work stood left f m i x s v acting work in
    let one = is_read_of stood left f fitness m i p x s v is same none read work fits in
    record {
      member = m;
      work = idle v;
      played = is.played;
      is = work;
      here = is.here;
      stage = is.acts;
      may = record {
        reads = λ q kind op object given here at. one.may kind op object given (reading_same i x.action (action.Call kind op object given) is.played q v here at);
        small = small_moved i (stage.Reading x.action) is.played v fits.before.small is.here;
      };
    }

pub read_acts : {P S : Type 0} (stood : Stood S) (left : Left S) (f : Frame) (fitness : Fitness) (i : ℕ) (p : Performs) (x : Message) (s new : Work P S) → p ≡ f.performs → Some x ≡ acting_at i (resident_at s.node i)
    → ((g : Frame) (processes : List Begun) → KnowsAs g processes s.node → None ≡ called_single (singles_of g processes) x.action) → is_read_by p x.action ≡ true
    → ReadsFirst stood left f i x.action s new → HasStarted stood left f fitness (Acts i) s new
read_acts stood left f fitness i p x s new same acting none read reads_so m v work fits =
    let is = acting_at_work stood left f m i x s v acting work in
    let one = is_read_of stood left f fitness m i p x s v is same none read work fits in
    subst (λ (w : NodeWork). IsWork stood left f m new w) (sym (acts_so f m i x v is ∙ one.acts)) (reads_so m (idle v) is.played work is.here is.acts)

-- ---- what is submitted

submits_by : (f : Frame) (m i : ℕ) (r : Played) (x : Message) (v : nodes.Node) (act : Action) → message_by i (length r.replies) act ≡ Some x → None ≡ called_single (singles_of f (known f v)) act
    → is_read_by f.performs act ≡ false → acts_by f m i r act (idle v) ≡ submits f m i r act x (idle v)
submits_by f m i r x v (action.Make kind object) is none read = ap (λ (y : Message). submits f m i r (action.Make kind object) y (idle v)) (same_message _ x is)
submits_by f m i r x v (action.Fork text args place_on) is none read = ap (λ (y : Message). submits f m i r (action.Fork text args place_on) y (idle v)) (same_message _ x is)
submits_by f m i r x v (action.Call kind op object args) is none read =
    let alone = not_single (singles_of f (known f v) object) object none in
    let class = writes_class (f.performs.class_of kind op) read in
    let call : Suspended = record { process = record { 0 = i }; call = next_call r; kind = kind; op = op; object = object; args = args } in
    ap (λ (b : Bool). if b then asks f m i r call (idle v) else calls_as f m i r call (f.performs.class_of kind op) (idle v)) alone
    ∙ ap (λ (c : Class). calls_as f m i r call c (idle v)) class
    ∙ ap (λ (y : Message). submits f m i r (action.Call kind op object args) y (idle v)) (same_message (message_of call) x is)
submits_by f m i r x v action.Ended is none read = absurd (cc is)
submits_by f m i r x v (action.Faulted fault) is none read = absurd (cc is)

pub submit_acts : {P S : Type 0} (stood : Stood S) (left : Left S) (f : Frame) (fitness : Fitness) (i : ℕ) (p : Performs) (x : Message) (s new : Work P S) → p ≡ f.performs → Some x ≡ acting_at i (resident_at s.node i)
    → ((g : Frame) (processes : List Begun) → KnowsAs g processes s.node → None ≡ called_single (singles_of g processes) x.action) → is_read_by p x.action ≡ false
    → HasSubmitted stood left f i x s new → HasStarted stood left f fitness (Acts i) s new
submit_acts stood left f fitness i p x s new same acting none read submitted m v work fits =
    let is = acting_at_work stood left f m i x s v acting work in
    let so : begun f m (Acts i) v ≡ submits f m i is.played x.action x (idle v) =
    acts_so f m i x v is
    ∙ submits_by f m i is.played x v x.action is.message (none f (known f v) (knows stood left f m s.node v work.node)) (ap (λ (q : Performs). is_read_by q x.action) (sym same) ∙ read) in
    subst (λ (w : NodeWork). IsWork stood left f m new w) (sym so)
    (submitted m (idle v) is.played work is.here is.acts (ap (λ (w : NodeWork). entries_of w.node) (sym so) ∙ fits.kept))
