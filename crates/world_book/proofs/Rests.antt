-- In every run who waits with a read is blocked: event by event.
use Rattle.std.proofs.Common.{◌≡◌, ◌==◌, ℕ, zero, suc, Option, None, Some, List, [], ◌∷◌, refl, sym, ap, ◌∙◌, subst}
use Rattle.std.proofs.lemmas.Bool.{cond_both}
use Rattle.orca_base.specs.declared.ids.ProcessNo.{ProcessNo}
use Rattle.value_core.specs.declared.action.Action.{Action}
use Rattle.value_core.specs.declared.action.Action.TheVariants as action
use Rattle.value_core.specs.declared.action.Class.{Class}
use Rattle.value_core.specs.declared.action.Class.TheVariants.{Reads, Writes}
use Rattle.value_core.specs.declared.action.Line.{Line}
use Rattle.value_core.specs.declared.message.Message.{Message}
use Rattle.value_core.specs.declared.processor.Halt.{Halt}
use Rattle.value_core.specs.declared.processor.Halt.TheVariants as halt
use Rattle.value_core.specs.History.{Objects}
use Rattle.guard_queue.specs.declared.queue.Suspended.{Suspended}
use Rattle.object_manager.specs.After.{opening_copies}
use Rattle.object_manager.specs.State.{message_of}
use Rattle.group_rules.specs.Member.{nobody}
use Rattle.net_rules.specs.declared.flight.Flight.{Flight}
use Rattle.net_rules.specs.Flights.{ready_copy, ticked, without}
use Rattle.group_rules.specs.Reset.{coordinate}
use Rattle.group_rules.specs.Steps.{timer}
use Rattle.world_rules.specs.declared.event.Event as world
use Rattle.world_rules.specs.declared.event.Event.TheVariants as event
use Rattle.world_rules.specs.declared.event.Step.{Step}
use Rattle.world_rules.specs.Bursts.{Ran, reads_on}
use Rattle.world_rules.specs.Frame.{Frame, group}
use Rattle.world_rules.specs.Mail.{Carried, Mail, is_whole, receiver_of}
use Rattle.world_rules.specs.Owners.{arrives}
use Rattle.world_rules.specs.Nodes.{Node, NodeWork, idle, joins, known}
use Rattle.world_rules.specs.Parts.{acts_at, acts_by, acts_of, asks, asks_again, asks_again_at, asks_again_by, asks_again_of, asks_below, asks_owner, calls, calls_as, catches_up, computes, performs_all, reads, receives_mail, submits, ticks}
use Rattle.world_rules.specs.Played.{Played, Stage, at_action, moves_to, newborn, next_call, stage_at}
use Rattle.world_rules.specs.Played.Stage.{Computing, Acting, Submitted, Reading, Asking, Over}
use Rattle.world_rules.specs.Processes.{first_process, owner_in, singles_of}
use Rattle.world_rules.specs.Steps.{AtWork, Known, Next, Possible, after_part, comes, comes_whole, happens, lives_in, ticks_below, untouched}
use Rattle.world_rules.specs.Worlds.{World, home_of, opening_world}
use Rattle.world_law.proofs.Ages.{Fresh, Going, ages_by, below_later, goes_acts, goes_joins, goes_mail, same_world}
use Rattle.world_law.proofs.Going.{Goes, goes_again, goes_on}
use Rattle.world_law.proofs.Maps.{at_both}
use Rattle.world_course.proofs.Events.{posts_keep}
use Rattle.world_book.proofs.Reading.{AllBlocked, WaitsBlocked, blocked_plays, tries_moved}
use Rattle.world_book.proofs.Staying.{blocked_caught, blocked_stays, stays_arrives, stays_asks}

abbrev pub AllRead : Frame → World → Type 0
AllRead f w = (m : ℕ) → AllBlocked f (w.nodes m)

never : (f : Frame) (objects : Objects) (r : Played) (stage : Stage) → r.stage ≡ stage → ((act : Action) → stage ≡ Reading act → ⊥) → WaitsBlocked f objects r
never f objects r stage is apart act stands = absurd (apart act (sym is ∙ stands))

-- ---- a member's part

read_submits : (f : Frame) (m i : ℕ) (r : Played) (act : Action) (x : Message) (node : Node) → AllBlocked f node → AllBlocked f (submits f m i r act x (idle node)).node
read_submits f m i r act x node all =
    blocked_plays f i (moves_to (Submitted act) r) (idle node) (never f node.copies.objects (moves_to (Submitted act) r) (Submitted act) refl (λ other e. cc e)) all

read_calls_as : (f : Frame) (m i : ℕ) (r : Played) (call : Suspended) (class : Class) (node : Node) → f.performs.class_of call.kind call.op ≡ class → AllBlocked f node →
    AllBlocked f (calls_as f m i r call class (idle node)).node
read_calls_as f m i r call Reads node is all = tries_moved f i r (message_of call).action (idle node) is all
read_calls_as f m i r call Writes node is all = read_submits f m i r (message_of call).action (message_of call) node all

read_calls : (f : Frame) (m i : ℕ) (r : Played) (call : Suspended) (node : Node) → AllBlocked f node → AllBlocked f (calls f m i r call (idle node)).node
read_calls f m i r call node all = cond_both (singles_of f (known f node) call.object) (asks f m i r call (idle node))
    (calls_as f m i r call (f.performs.class_of call.kind call.op) (idle node)) (λ (u : NodeWork). AllBlocked f u.node)
    (λ e. blocked_stays f (idle node) (asks f m i r call (idle node)) (stays_asks f m i r call (idle node)) all)
    (λ e. read_calls_as f m i r call (f.performs.class_of call.kind call.op) node refl all)

read_by : (f : Frame) (m i : ℕ) (r : Played) (act : Action) (node : Node) → AllBlocked f node → AllBlocked f (acts_by f m i r act (idle node)).node
read_by f m i r (action.Make kind object) node all = read_submits f m i r (action.Make kind object)
    (record { process = record { 0 = i }; call = next_call r; action = action.Make kind object; performable = refl }) node all
read_by f m i r (action.Call kind op object args) node all =
    read_calls f m i r (record { process = record { 0 = i }; call = next_call r; kind = kind; op = op; object = object; args = args }) node all
read_by f m i r (action.Fork text args place_on) node all = read_submits f m i r (action.Fork text args place_on)
    (record { process = record { 0 = i }; call = next_call r; action = action.Fork text args place_on; performable = refl }) node all
read_by f m i r action.Ended node all = all
read_by f m i r (action.Faulted fault) node all = all

read_at : (f : Frame) (m i : ℕ) (r : Played) (stage : Stage) (node : Node) → AllBlocked f node → AllBlocked f (acts_at f m i r stage (idle node)).node
read_at f m i r (Acting act) node all = read_by f m i r act node all
read_at f m i r Computing node all = all
read_at f m i r (Submitted act) node all = all
read_at f m i r (Reading act) node all = all
read_at f m i r (Asking act) node all = all
read_at f m i r (Over act) node all = all

read_acts : (f : Frame) (m i : ℕ) (o : Option Played) (node : Node) → AllBlocked f node → AllBlocked f (acts_of f m i o (idle node)).node
read_acts f m i None node all = all
read_acts f m i (Some r) node all = read_at f m i r r.stage node all

read_mail : (f : Frame) (m : ℕ) (mail : Mail) (node : Node) → AllBlocked f node → AllBlocked f (receives_mail f m mail (idle node)).node
read_mail f m (Mail.Grouped letter) node all = all
read_mail f m (Mail.Sends incarnation from to errand) node all = blocked_stays f (idle node) (arrives errand (idle node)) (stays_arrives errand (idle node)) all

read_owner : (f : Frame) (m : ℕ) (r : Played) (call : Suspended) (v : NodeWork) → AllBlocked f v.node → AllBlocked f (asks_owner f m r call v).node
read_owner f m r call v all = cond_both (owner_in (known f v.node) call.object == m) _ _ (λ (u : NodeWork). AllBlocked f u.node) (λ e. all) (λ e. all)

read_again_by : (f : Frame) (m i : ℕ) (r : Played) (act : Action) (v : NodeWork) → AllBlocked f v.node → AllBlocked f (asks_again_by f m i r act v).node
read_again_by f m i r (action.Call kind op object args) v all =
    read_owner f m r (record { process = record { 0 = i }; call = next_call r; kind = kind; op = op; object = object; args = args }) v all
read_again_by f m i r (action.Make kind object) v all = all
read_again_by f m i r (action.Fork text args place_on) v all = all
read_again_by f m i r action.Ended v all = all
read_again_by f m i r (action.Faulted fault) v all = all

read_again_at : (f : Frame) (m i : ℕ) (r : Played) (stage : Stage) (v : NodeWork) → AllBlocked f v.node → AllBlocked f (asks_again_at f m i r stage v).node
read_again_at f m i r (Asking act) v all = read_again_by f m i r act v all
read_again_at f m i r Computing v all = all
read_again_at f m i r (Acting act) v all = all
read_again_at f m i r (Submitted act) v all = all
read_again_at f m i r (Reading act) v all = all
read_again_at f m i r (Over act) v all = all

read_again_of : (f : Frame) (m i : ℕ) (o : Option Played) (v : NodeWork) → AllBlocked f v.node → AllBlocked f (asks_again_of f m i o v).node
read_again_of f m i None v all = all
read_again_of f m i (Some r) v all = read_again_at f m i r r.stage v all

read_below : (f : Frame) (m n : ℕ) (v : NodeWork) → AllBlocked f v.node → AllBlocked f (asks_below f m n v).node
read_below f m zero v all = all
read_below f m (suc i) v all = read_again_of f m i ((asks_below f m i v).node.played i) (asks_below f m i v) (read_below f m i v all)

read_again : (f : Frame) (m : ℕ) (v : NodeWork) → AllBlocked f v.node → AllBlocked f (asks_again f m v).node
read_again f m v all = cond_both v.node.member.outside v (asks_below f m v.node.copies.processes v) (λ (u : NodeWork). AllBlocked f u.node) (λ e. all) (λ e. read_below f m v.node.copies.processes v all)

-- ---- a burst

never_at : (act : Action) (other : Action) → at_action act ≡ Reading other → ⊥
never_at (action.Make kind object) other e = cc e
never_at (action.Call kind op object args) other e = cc e
never_at (action.Fork text args place_on) other e = cc e
never_at action.Ended other e = cc e
never_at (action.Faulted fault) other e = cc e

never_halted : (h : Halt) (other : Action) → stage_at h ≡ Reading other → ⊥
never_halted (halt.At act) other e = never_at act other e
never_halted halt.Paused other e = cc e

never_ran : (f : Frame) (objects : Objects) (place : ℕ) (i : ProcessNo) (last : ℕ) (r : Played) (lines : List Line) (end : Played) → Ran f objects place i last r lines end →
    (other : Action) → end.stage ≡ Reading other → ⊥
never_ran f objects place i last r [] end (h, used, halts, ends, e) other reads = never_halted h other (ap (λ (z : Played). z.stage) (sym e) ∙ reads)
never_ran f objects place i last r (line ∷ lines) end (act, used, halts, answered, is, ran) other reads =
    never_ran f objects place i last (reads_on place used line r) lines end ran other reads

same_node : (place : ℕ) (lines : List Line) (v : NodeWork) → (performs_all place lines v).node ≡ v.node
same_node place [] v = refl
same_node place (l ∷ ls) v = same_node place ls _

-- ---- events

read_part : (f : Frame) (m : ℕ) (v : NodeWork) (u : AtWork) → AllBlocked f v.node → AllRead f u.world → AllRead f (after_part f m v u).world
read_part f m v u own all k = at_both u.world.nodes m v.node k (λ (n : Node). AllBlocked f n) (λ e. own) (λ no. all k)

read_comes : (f : Frame) (w : World) (mail : Mail) → ((m : ℕ) → Fresh (w.nodes m)) → AllRead f w → AllRead f (comes f w mail).world
read_comes f w mail fresh all =
    let m : ℕ = receiver_of mail in
    let v : NodeWork = receives_mail f m mail (idle (w.nodes m)) in
    let a = ages_by (idle (w.nodes m)) v (goes_mail f m mail (idle (w.nodes m))) (fresh m) in
    cond_both (lives_in f w m) _ _ (λ (u : AtWork). AllRead f u.world)
    (λ e. read_part f m (catches_up f m v) (untouched w) (blocked_caught f m v a.fresh (read_mail f m mail (w.nodes m) (all m))) all)
    (λ e. all)

read_whole : (f : Frame) (w : World) (o : Option (Flight Carried)) → ((m : ℕ) → Fresh (w.nodes m)) → AllRead f w → AllRead f (comes_whole f w o).world
read_whole f w None fresh all = all
read_whole f w (Some flight) fresh all = cond_both (is_whole f.settings.nodes flight.packet) _ _ (λ (u : AtWork). AllRead f u.world)
    (λ e. read_comes f w flight.packet.mail fresh all) (λ e. all)

read_ticks : (f : Frame) (n : ℕ) (w : World) → ((m : ℕ) → Fresh (w.nodes m)) → AllRead f w → AllRead f (ticks_below f n (untouched w)).world
read_ticks f zero w fresh all = all
read_ticks f (suc m) w fresh all =
    let t : AtWork = ticks_below f m (untouched w) in
    let before : AllRead f t.world = read_ticks f m w fresh all in
    let g : Going w t = below_later f w m (untouched w) (record { later = same_world w w refl; fresh = fresh }) in
    let timed : NodeWork = joins (timer (group f) m (t.world.nodes m).member) (idle (t.world.nodes m)) in
    let v : NodeWork = asks_again f m timed in
    let goes : Goes (idle (t.world.nodes m)) v = goes_on (goes_joins (timer (group f) m (t.world.nodes m).member) (idle (t.world.nodes m))) (goes_again f m timed) in
    let a = ages_by (idle (t.world.nodes m)) v goes (g.fresh m) in
    cond_both (t.world.lives m) _ _ (λ (u : AtWork). AllRead f u.world)
    (λ e. read_part f m (ticks f m (t.world.nodes m)) t (blocked_caught f m v a.fresh (read_again f m timed (before m))) before)
    (λ e. before)

read_happens : (f : Frame) (w : World) (e : world.Event) (given : Known e) → Possible f w e given → ((m : ℕ) → Fresh (w.nodes m)) → AllRead f w → AllRead f (happens f w e given).world
read_happens f w (event.Burst process place turns) burst possible fresh all =
    let m : ℕ = home_of f w process.0 in
    let v : NodeWork = performs_all place burst.reads (idle (w.nodes m)) in
    let ran = possible.ran in
    read_part f m (computes process.0 place burst.reads burst.end (w.nodes m)) (untouched w)
    (blocked_plays f process.0 burst.end v (λ act reads. absurd (never_ran f _ place process _ possible.start burst.reads burst.end ran act reads))
    (subst (λ (n : Node). AllBlocked f n) (sym (same_node place burst.reads (idle (w.nodes m)))) (all m))) all
read_happens f w (event.Act process) given possible fresh all =
    let m : ℕ = home_of f w process.0 in
    let v : NodeWork = acts_of f m process.0 ((w.nodes m).played process.0) (idle (w.nodes m)) in
    let a = ages_by (idle (w.nodes m)) v (goes_acts f m process.0 ((w.nodes m).played process.0) (idle (w.nodes m)) refl) (fresh m) in
    read_part f m (catches_up f m v) (untouched w)
    (blocked_caught f m v a.fresh (read_acts f m process.0 ((w.nodes m).played process.0) (w.nodes m) (all m))) all
read_happens f w (event.Deliver packet copy) given possible fresh all =
    read_whole f (record w { flights = without packet copy w.flights }) (ready_copy packet copy w.flights) fresh all
read_happens f w event.Tick given possible fresh all =
    read_ticks f f.settings.nodes (record w { flights = ticked w.flights }) fresh all
read_happens f w (event.Crash node) given possible fresh all = all
read_happens f w (event.Suspect node) given possible fresh all =
    let work = coordinate (group f) node (w.nodes node).member in
    let v : NodeWork = joins work (idle (w.nodes node)) in
    let a = ages_by (idle (w.nodes node)) v (goes_joins work (idle (w.nodes node))) (fresh node) in
    read_part f node (catches_up f node v) (untouched w) (blocked_caught f node v a.fresh (all node)) all
read_happens f w event.Swap given possible fresh all = all

pub read_step : (f : Frame) (w v : World) (step : Step) → Next f w step v → ((m : ℕ) → Fresh (w.nodes m)) → AllRead f w → AllRead f v
read_step f w v step next fresh all =
    let u : AtWork = happens f w step.event next.given in
    let kept = posts_keep f u.world u.mails step.fates in
    subst (AllRead f) (sym next.after) (λ m. subst (λ (nodes : ℕ → Node). AllBlocked f (nodes m)) (sym kept.0)
    (read_happens f w step.event next.given next.possible fresh all m))

-- ---- the opening

pub opening_read : (f : Frame) → AllRead f (opening_world f)
opening_read f zero i r = at_both nobody 0 (Some (newborn (first_process f))) i (λ z. z ≡ Some r → WaitsBlocked f opening_copies.objects r)
    (λ e is. let same : newborn (first_process f) ≡ r = cc in
    subst (WaitsBlocked f opening_copies.objects) same (never f opening_copies.objects (newborn (first_process f)) Computing refl (λ act e. cc e)))
    (λ apart is. absurd (cc is))
opening_read f (suc m) i r = λ is. absurd (cc is)
