-- An event that isn't a fault: what is owed, and what members hold.
use Rattle.std.proofs.Common.{◌≡◌, ◌<◌, ℕ, true, false, Option, Some, None, List, refl, sym, ap, ◌∙◌, subst}
use Rattle.std.specs.Prelude.{IsTrue, is_some}
use Rattle.std.specs.List.{find}
use Rattle.std.proofs.lemmas.Bool.{cond_both}
use Rattle.orca_base.specs.declared.ids.ObjectId.{ObjectId}
use Rattle.value_core.specs.declared.action.Action.{Action}
use Rattle.group_rules.specs.Sets.{with_at}
use Rattle.group_rules.specs.Steps.{timer}
use Rattle.net_rules.specs.declared.flight.Flight.{Flight}
use Rattle.net_rules.specs.Flights.{is_ready_copy, ticked, without}
use Rattle.world_rules.specs.declared.event.Event as world
use Rattle.world_rules.specs.declared.event.Event.TheVariants as event
use Rattle.world_rules.specs.Frame.{Frame, group}
use Rattle.world_rules.specs.Mail.{Carried, Mail, is_whole, receiver_of}
use Rattle.world_rules.specs.Nodes.{Node, NodeWork, idle, joins, known}
use Rattle.world_rules.specs.Parts.{acts_of, asks_again, catches_up, computes, performs_all, receives_mail}
use Rattle.world_rules.specs.Played.{Played}
use Rattle.world_rules.specs.Processes.{Begun, home_in}
use Rattle.world_rules.specs.Steps.{AtWork, Known, Possible, after_part, comes, comes_whole, happens, lives_in, passes_tick, untouched}
use Rattle.world_rules.specs.Worlds.{World, home_of}
use Rattle.world_idle.specs.Faults.{is_from_wire, tick_by}
use Rattle.world_law.proofs.Maps.{at_both}
use Rattle.world_idle.proofs.Owed.{part_late}
use Rattle.world_idle.proofs.Owes.{Owed}
use Rattle.world_idle.proofs.Sent.{never_ran, same_node}
use Rattle.world_idle.proofs.SingleEvents.{GoesOn, deliver_owed}
use Rattle.world_idle.proofs.Singles.{act_owed, burst_owed}
use Rattle.world_idle.proofs.Taking.{AllLate}
use Rattle.world_idle.proofs.Ticking.{timed}

-- ---- an event that isn't a fault

deliver_by : (f : Frame) (w : World) (packet copy : ℕ) (ps : List Begun) (i c h k : ℕ) (r : Played) (act : Action) (o : ObjectId) (found : Option (Flight Carried)) → find (is_ready_copy packet copy) w.flights ≡ found → IsTrue (is_some found) →
    GoesOn f w ps i c h k r act o (comes_whole f (record w { flights = without packet copy w.flights }) found)
deliver_by f w packet copy ps i c h k r act o None e some = absurd (cc some)
deliver_by f w packet copy ps i c h k r act o (Some flight) e some = deliver_owed f w (is_ready_copy packet copy) flight ps i c h k r act o e

pub event_owed : (f : Frame) (w : World) (e : world.Event) (given : Known e) → Possible f w e given → is_from_wire e ≡ false → (ps : List Begun) (i c h k : ℕ) (r : Played) (act : Action) (o : ObjectId) →
    (tick_by e ≡ 1 → Owed f.settings.nodes (happens f w e given).world.nodes (happens f w e given).world.flights (happens f w e given).mails i c h k) → GoesOn f w ps i c h k r act o (happens f w e given)
event_owed f w (event.Burst process place turns) burst possible plain ps i c h k r act o tick g a =
    burst_owed f w process.0 place turns burst.reads burst.end (home_of f w process.0) ps i c h k r act o (λ d. never_ran f _ place process _ possible.start burst.reads burst.end possible.ran d) g a
event_owed f w (event.Act process) given possible plain ps i c h k r act o tick g a = act_owed f w process.0 ps i c h k r act o g a
event_owed f w (event.Deliver packet copy) given possible plain ps i c h k r act o tick g a = deliver_by f w packet copy ps i c h k r act o (find (is_ready_copy packet copy) w.flights) refl possible g a
event_owed f w event.Tick given possible plain ps i c h k r act o tick g a = tick refl
event_owed f w (event.Crash node) given possible plain ps i c h k r act o tick g a = absurd (cc plain)
event_owed f w (event.Suspect node) given possible plain ps i c h k r act o tick g a = absurd (cc plain)
event_owed f w event.Swap given possible plain ps i c h k r act o tick g a = absurd (cc plain)

-- ---- what a member holds is for a later place

AllLates : Frame → (ℕ → Node) → Type 0
AllLates f nodes = (m : ℕ) → m < f.settings.nodes → AllLate (nodes m).held (nodes m).copies.applied

Insides : Frame → (ℕ → Node) → Type 0
Insides f nodes = (m : ℕ) → m < f.settings.nodes → (nodes m).member.outside ≡ false

late_part : (f : Frame) (m : ℕ) (first : NodeWork) → (catches_up f m first).node.member.outside ≡ false → AllLate (catches_up f m first).node.held (catches_up f m first).node.copies.applied
late_part f m first inside = part_late f m 0 0 (home_in (known f (catches_up f m first).node) 0) first (record { inside = inside; home = refl })

late_with : (f : Frame) (w : World) (m : ℕ) (first : NodeWork) → ((x : ℕ) → x < f.settings.nodes → AllLate (w.nodes x).held (w.nodes x).copies.applied) →
    ((x : ℕ) → x < f.settings.nodes → (with_at w.nodes m (catches_up f m first).node x).member.outside ≡ false) → (x : ℕ) → x < f.settings.nodes →
    AllLate (with_at w.nodes m (catches_up f m first).node x).held (with_at w.nodes m (catches_up f m first).node x).copies.applied
late_with f w m first late inside x low = at_both w.nodes m (catches_up f m first).node x (λ (n : Node). n.member.outside ≡ false → AllLate n.held n.copies.applied)
    (λ e here. late_part f m first here) (λ no here. late x low) (inside x low)

abbrev pub Lates : Frame → World → AtWork → Type 0
Lates f w u = ((x : ℕ) → x < f.settings.nodes → (u.world.nodes x).member.outside ≡ false) → (x : ℕ) → x < f.settings.nodes → AllLate (u.world.nodes x).held (u.world.nodes x).copies.applied

late_comes : (f : Frame) (w : World) (mail : Mail) → ((x : ℕ) → x < f.settings.nodes → AllLate (w.nodes x).held (w.nodes x).copies.applied) → Lates f w (comes f w mail)
late_comes f w mail late = cond_both (lives_in f w (receiver_of mail)) (after_part f (receiver_of mail) (catches_up f (receiver_of mail) (receives_mail f (receiver_of mail) mail (idle (w.nodes (receiver_of mail))))) (untouched w)) (untouched w) (Lates f w)
    (λ e inside. late_with f w (receiver_of mail) (receives_mail f (receiver_of mail) mail (idle (w.nodes (receiver_of mail)))) late inside) (λ e inside. late)

late_whole : (f : Frame) (w : World) (found : Option (Flight Carried)) → ((x : ℕ) → x < f.settings.nodes → AllLate (w.nodes x).held (w.nodes x).copies.applied) → Lates f w (comes_whole f w found)
late_whole f w None late = λ inside. late
late_whole f w (Some flight) late = cond_both (is_whole f.settings.nodes flight.packet) (comes f w flight.packet.mail) (untouched w) (Lates f w) (λ e inside. late_comes f w flight.packet.mail late inside) (λ e inside. late)

pub late_ticks : (f : Frame) (w : World) → ((x : ℕ) → x < f.settings.nodes → w.lives x ≡ true) → Lates f w (passes_tick f w)
late_ticks f w live inside x low =
    let t = (timed f (record w { flights = ticked w.flights }) f.settings.nodes).ran x low (live x low) in
    subst (λ (n : Node). AllLate n.held n.copies.applied) (sym t)
    (late_part f x (asks_again f x (joins (timer (group f) x (w.nodes x).member) (idle (w.nodes x)))) (ap (λ (n : Node). n.member.outside) (sym t) ∙ inside x low))

pub late_event : (f : Frame) (w : World) (e : world.Event) (given : Known e) → is_from_wire e ≡ false → ((x : ℕ) → x < f.settings.nodes → w.lives x ≡ true) → ((i : ℕ) → home_of f w i < f.settings.nodes) →
    ((x : ℕ) → x < f.settings.nodes → AllLate (w.nodes x).held (w.nodes x).copies.applied) → Lates f w (happens f w e given)
late_event f w (event.Burst process place turns) burst plain live homes late inside x low =
    let m : ℕ = home_of f w process.0 in
    let p : NodeWork = performs_all place burst.reads (idle (w.nodes m)) in
    at_both w.nodes m (computes process.0 place burst.reads burst.end (w.nodes m)).node x (λ (n : Node). AllLate n.held n.copies.applied)
    (λ e. subst (λ (n : Node). AllLate n.held n.copies.applied) (sym (same_node place burst.reads (idle (w.nodes (home_of f w process.0))))) (late m (homes process.0))) (λ no. late x low)
late_event f w (event.Act process) given plain live homes late inside x low =
    late_with f w (home_of f w process.0) (acts_of f (home_of f w process.0) process.0 ((w.nodes (home_of f w process.0)).played process.0) (idle (w.nodes (home_of f w process.0)))) late inside x low
late_event f w (event.Deliver packet copy) given plain live homes late inside x low = late_whole f (record w { flights = without packet copy w.flights }) (find (is_ready_copy packet copy) w.flights) late inside x low
late_event f w event.Tick given plain live homes late inside x low = late_ticks f w live inside x low
late_event f w (event.Crash node) given plain live homes late inside x low = absurd (cc plain)
late_event f w (event.Suspect node) given plain live homes late inside x low = absurd (cc plain)
late_event f w event.Swap given plain live homes late inside x low = absurd (cc plain)
