-- A step that is no fault, in which no member applies more, leaves the group's net as it is, or is one of its moves.
use Rattle.std.proofs.Common.{◌≡◌, ◌<◌, ◌*◌, ◌-◌, ◌&&◌, ◌==◌, ◌⊎◌, inl, inr, ⊎_elim, not, ℕ, Bool, true, false, cond, is_some, List, [], append-nil, length, Option, Some, None, refl, sym, ap, ◌∙◌, arith, subst, nat_lt}
use Rattle.std.specs.Prelude.{IsTrue, slice_get}
use Rattle.std.proofs.lemmas.Bool.{and_parts, cond_both, lt-ltb, ltb-true}
use Rattle.value_core.specs.declared.action.Action.{Action}
use Rattle.value_core.specs.declared.action.Action.TheVariants as action
use Rattle.value_core.specs.declared.action.Class.{Class}
use Rattle.value_core.specs.declared.action.Class.TheVariants.{Reads, Writes}
use Rattle.value_core.specs.declared.message.Message.{Message}
use Rattle.guard_queue.specs.declared.queue.Suspended.{Suspended}
use Rattle.object_manager.specs.State.{message_of}
use Rattle.group_rules.specs.Member.{Letter, Member}
use Rattle.group_rules.specs.Messages.{Group}
use Rattle.group_rules.specs.Steps.{deliver, submit, timer}
use Rattle.group_rules.specs.Work.{Work}
use Rattle.group_rules.specs.World.{GroupWorld, acts_on, may_submit, submitted_past}
use Rattle.group_law.specs.Agreed.{StepsLaw}
use Rattle.group_idle.specs.Net.{Move, Net, comes, moves, part, without_at}
use Rattle.net_rules.specs.declared.flight.Flight.{Flight}
use Rattle.net_rules.specs.Flights.{is_ready_copy, ready_copy, ticked, without}
use Rattle.world_rules.specs.declared.event.Event as world
use Rattle.world_rules.specs.declared.event.Event.TheVariants as event
use Rattle.world_rules.specs.declared.event.Step.{Step}
use Rattle.world_rules.specs.Frame.{Frame, group}
use Rattle.world_rules.specs.Mail.{Carried, Errand, Mail, is_whole}
use Rattle.world_rules.specs.Nodes.{Node, NodeWork, does, idle, joins, known, plays}
use Rattle.world_rules.specs.Nodes.Deed.{Submits as SubmitsDeed}
use Rattle.world_rules.specs.Owners.{arrives}
use Rattle.world_rules.specs.Parts.{acts_at, acts_by, acts_of, calls, calls_as, catches_up, computes, submits, ticks}
use Rattle.world_rules.specs.Played.{Played, Stage, moves_to, next_call}
use Rattle.world_rules.specs.Played.Stage.{Computing, Acting, Submitted, Reading, Asking, Over}
use Rattle.world_rules.specs.Processes.{singles_of}
use Rattle.world_rules.specs.Steps.{AtWork, Known, Next, Possible, after_part, closes, comes_whole, delivers, happens, lives_in, may_act, posts_all, ticks_below, untouched}
use Rattle.world_rules.specs.Steps as steps
use Rattle.world_rules.specs.Worlds.{World, group_world, home_of}
use Rattle.world_law.specs.Grouped.{Come, Comes, Grouped, MaySubmit}
use Rattle.world_law.specs.Grouped.{Submits as MayAll}
use Rattle.world_idle.specs.Faults.{is_from_wire, tick_by}
use Rattle.world_idle.proofs.Letters.{AllHeld, flying, net_of, of_mail}
use Rattle.world_law.proofs.AtWork.{both_true, if_true, world_of}
use Rattle.world_facts.specs.Passing.{AllPass}
use Rattle.world_idle.proofs.Catching.{Same, by_still, catches_same, same_on}
use Rattle.world_idle.proofs.Flying.{Posts, Taken, come_found, free_without, posts_each, skipped, taken, ticked_less, ticked_letters}
use Rattle.world_law.proofs.Maps.{at_here}
use Rattle.world_idle.proofs.Rows.{DoesRow, deliver_applied, goes_there, joins_row, net_at, rest_net, row_net, row_on, submit_applied, timer_applied}
use Rattle.world_law.proofs.Still.{still_arrives, still_asks, still_performed, still_reading}
use Rattle.world_idle.proofs.Ticking.{Timed, ticks_net, timed}

pub record Laws (f : Frame) : Type 0 where
  pub steps : StepsLaw Message
  pub small : 2 * f.settings.resilience < f.settings.nodes
  pub homes : (w : World) (i : ℕ) → home_of f w i < f.settings.nodes

-- no tick: it stays, or a message is submitted, or a letter comes
pub data Moved (f : Frame) (w v : World) : Type 0 where
  Rests : net_of f v ≡ net_of f w → Moved f w v
  Submits : (m : ℕ) (x : Message) → net_of f v ≡ moves (group f) (net_of f w) (Move.Submits m x) → Moved f w v
  Delivers : (place : ℕ) → net_of f v ≡ moves (group f) (net_of f w) (Move.Delivers place) → Moved f w v

abbrev pub AppliesNoMore : Frame → World → World → Type 0
AppliesNoMore f w v = (m : ℕ) → m < f.settings.nodes → (v.nodes m).member.applied ≡ (w.nodes m).member.applied

-- ---- the letters of an event are posted

pub record Closes (f : Frame) (k : ℕ) (u : AtWork) (v : World) : Type 0 where
  pub net : net_of f v ≡ net_at (flying f.settings.nodes u.world.flights) u
  pub held : AllHeld v.sent k v.flights
  pub nodes : v.nodes ≡ u.world.nodes
  pub lives : v.lives ≡ u.world.lives

abbrev net_made : GroupWorld Message → List (Letter Message) → Net Message
net_made z l = record { world = z; flights = l }

group_same : (u v : World) → v.nodes ≡ u.nodes → v.lives ≡ u.lives → v.past ≡ u.past → group_world v ≡ group_world u
group_same u v nodes lives past =
    ap (λ (n : ℕ → Node). world_of (λ m. (n m).member) v.lives v.past) nodes
    ∙ ap (λ l. world_of (λ m. (u.nodes m).member) l v.past) lives
    ∙ ap (λ p. world_of (λ m. (u.nodes m).member) u.lives p) past

pub closed : (f : Frame) (k : ℕ) (w : World) (step : Step) (u : AtWork) → AllPass step.fates → length step.fates ≡ length u.mails → AllHeld u.world.sent k u.world.flights →
    Closes f k u (closes f w step u)
closed f k w step u pass few held =
    let t : World = posts_all f u.world u.mails step.fates in
    let p : Posts f k u.world t u.mails = posts_each f k u.world u.mails step.fates pass few held in
    record {
      net = ap (λ z. net_made z (flying f.settings.nodes t.flights)) (group_same u.world t p.nodes p.lives p.past)
          ∙ ap (λ z. net_made (group_world u.world) z) p.letters;
      held = p.free;
      nodes = p.nodes;
      lives = p.lives;
    }

nothing_sent : (f : Frame) (flights : List (Letter Message)) (w : World) → net_at flights (untouched w) ≡ net_made (group_world w) flights
nothing_sent f flights w = ap (λ z. net_made (group_world w) z) (append-nil flights)

-- ---- an action

-- it did nothing in the group, or submitted one message
abbrev DidAct : Frame → World → ℕ → NodeWork → Type 0
DidAct f w m v = Same (group f) m (idle (w.nodes m)) v
    ⊎ ((x : Message) × (may_submit (group f) (group_world w) m x ≡ true)
    × DoesRow (group f) m w.past (submitted_past (group f) m x w.past) (submit (group f) m x (w.nodes m).member) v)

abbrev May : Frame → World → ℕ → ℕ → Played → Type 0
May f w m i r = (x : Message) → x.process.0 ≡ i → x.call.0 ≡ length r.replies → may_submit (group f) (group_world w) m x ≡ true

none_yet : (f : Frame) (w : World) (m : ℕ) → DidAct f w m (idle (w.nodes m))
none_yet f w m = inl (record { member = refl; past = λ p. refl; letters = refl })

did_submits : (f : Frame) (w : World) (m i : ℕ) (r : Played) (act : Action) (x : Message) → may_submit (group f) (group_world w) m x ≡ true →
    DidAct f w m (submits f m i r act x (idle (w.nodes m)))
did_submits f w m i r act x may =
    let u : NodeWork = does (SubmitsDeed x) (plays i (moves_to (Submitted act) r) (idle (w.nodes m))) in
    inr (x, may, joins_row (group f) m w.past (submit (group f) m x u.node.member) u refl)

did_calls_as : (f : Frame) (w : World) (m i : ℕ) (r : Played) (call : Suspended) (class : Class) → may_submit (group f) (group_world w) m (message_of call) ≡ true →
    DidAct f w m (calls_as f m i r call class (idle (w.nodes m)))
did_calls_as f w m i r call Reads may = inl (by_still (still_reading f (group f) m i r (message_of call).action (idle (w.nodes m))))
did_calls_as f w m i r call Writes may = did_submits f w m i r (message_of call).action (message_of call) may

did_calls : (f : Frame) (w : World) (m i : ℕ) (r : Played) (call : Suspended) → may_submit (group f) (group_world w) m (message_of call) ≡ true →
    DidAct f w m (calls f m i r call (idle (w.nodes m)))
did_calls f w m i r call may = cond_both (singles_of f (known f (w.nodes m)) call.object) _ _ (λ u. DidAct f w m u)
    (λ e. inl (by_still (still_asks f (group f) m m i r call (idle (w.nodes m)))))
    (λ e. did_calls_as f w m i r call (f.performs.class_of call.kind call.op) may)

did_by : (f : Frame) (w : World) (m i : ℕ) (r : Played) (act : Action) → May f w m i r → DidAct f w m (acts_by f m i r act (idle (w.nodes m)))
did_by f w m i r (action.Make kind object) may =
    let x : Message = record { process = record { 0 = i }; call = next_call r; action = action.Make kind object; performable = refl } in
    did_submits f w m i r (action.Make kind object) x (may x refl refl)
did_by f w m i r (action.Call kind op object args) may =
    let call : Suspended = record { process = record { 0 = i }; call = next_call r; kind = kind; op = op; object = object; args = args } in
    did_calls f w m i r call (may (message_of call) refl refl)
did_by f w m i r (action.Fork text args place_on) may =
    let x : Message = record { process = record { 0 = i }; call = next_call r; action = action.Fork text args place_on; performable = refl } in
    did_submits f w m i r (action.Fork text args place_on) x (may x refl refl)
did_by f w m i r action.Ended may = none_yet f w m
did_by f w m i r (action.Faulted fault) may = none_yet f w m

did_at : (f : Frame) (w : World) (m i : ℕ) (r : Played) (stage : Stage) → ((act : Action) → stage ≡ Acting act → May f w m i r) →
    DidAct f w m (acts_at f m i r stage (idle (w.nodes m)))
did_at f w m i r (Acting act) may = did_by f w m i r act (may act refl)
did_at f w m i r Computing may = none_yet f w m
did_at f w m i r (Submitted act) may = none_yet f w m
did_at f w m i r (Reading act) may = none_yet f w m
did_at f w m i r (Asking act) may = none_yet f w m
did_at f w m i r (Over act) may = none_yet f w m

did_acts : (f : Frame) (w : World) (m i : ℕ) (here : Option Played) → ((r : Played) (act : Action) → here ≡ Some r → r.stage ≡ Acting act → May f w m i r) →
    DidAct f w m (acts_of f m i here (idle (w.nodes m)))
did_acts f w m i None may = none_yet f w m
did_acts f w m i (Some r) may = did_at f w m i r r.stage (λ act e. may r act refl e)

if_yes : (b : Bool) → IsTrue b → b ≡ true
if_yes true h = refl
if_yes false h = absurd (cc h)

-- member m's part is the whole event
part_end : (f : Frame) (k m : ℕ) (w start v : World) (work : NodeWork) → start.nodes ≡ w.nodes → m < f.settings.nodes → Closes f k (after_part f m work (untouched start)) v → AppliesNoMore f w v →
    work.node.member.applied ≡ (w.nodes m).member.applied
part_end f k m w start v work nodes low c still =
    sym (ap (λ (n : ℕ → Node). (n m).member.applied) c.nodes ∙ ap (λ (n : Node). n.member.applied) (at_here start.nodes m work.node)) ∙ still m low

acting : (f : Frame) (k : ℕ) (w : World) (step : Step) (i : ℕ) → Laws f → Grouped f w → (may_act f w (record { 0 = i })) ≡ true → MaySubmit f w i → AllPass step.fates →
    length step.fates ≡ length (steps.carries_out f w (record { 0 = i })).mails → AllHeld w.sent k w.flights →
    AppliesNoMore f w (closes f w step (steps.carries_out f w (record { 0 = i }))) → Moved f w (closes f w step (steps.carries_out f w (record { 0 = i })))
acting f k w step i laws grouped may allowed_by pass few held still = ⊎_elim rests submits_one did
  where
    g : Group Message
    g = group f

    m : ℕ
    m = home_of f w i

    low : m < f.settings.nodes
    low = laws.homes w i

    node : Node
    node = w.nodes m

    first : NodeWork
    first = acts_of f m i (node.played i) (idle node)

    whole : NodeWork
    whole = catches_up f m first

    u : AtWork
    u = after_part f m whole (untouched w)

    c : Closes f k u (closes f w step u)
    c = closed f k w step u pass few held

    end : whole.node.member.applied ≡ node.member.applied
    end = part_end f k m w w (closes f w step u) whole refl low c still

    did : DidAct f w m first
    did = did_acts f w m i (node.played i) (λ r act here stands x n e. allowed_by r act here stands x n e)

    on : acts_on g (group_world w) m ≡ true
    on = both_true _ _ (lt-ltb m f.settings.nodes low) (and_parts (w.lives m) _ may).0

    flights : List (Letter Message)
    flights = flying f.settings.nodes w.flights

    rests : Same g m (idle node) first → Moved f w (closes f w step u)
    rests s =
        let all = same_on s (catches_same f m first (end ∙ sym (ap (λ (t : Member Message). t.applied) s.member))) in
        Rests (c.net ∙ rest_net f m whole flights (untouched w) all ∙ nothing_sent f flights w)

    submits_one : (x : Message) × (may_submit g (group_world w) m x ≡ true) × DoesRow g m w.past (submitted_past g m x w.past) (submit g m x node.member) first → Moved f w (closes f w step u)
    submits_one (x, allowed, row) =
        let work : Work Message = submit g m x node.member in
        let kept = submit_applied f w m x laws.steps laws.small grouped on allowed in
        let all = row_on row (catches_same f m first (end ∙ sym kept ∙ sym (ap (λ (t : Member Message). t.applied) row.member))) in
        Submits m x (c.net
        ∙ row_net g f m (submitted_past g m x w.past) work whole flights (untouched w) refl all
        ∙ ap (λ z. part z m (submitted_past g m x w.past) work) (nothing_sent f flights w)
        ∙ sym (if_true (acts_on g (group_world w) m && may_submit g (group_world w) m x) (part (net_of f w) m (submitted_past g m x w.past) work) (net_of f w) (both_true _ _ on allowed)))

-- ---- a packet comes

abbrev start_of : World → ℕ → ℕ → World
start_of w number copy = record w { flights = without number copy w.flights }

-- it did nothing, and its packet carried no letter of the group
gone : (f : Frame) (k : ℕ) (w start : World) (step : Step) → start.nodes ≡ w.nodes → start.lives ≡ w.lives → start.past ≡ w.past → flying f.settings.nodes start.flights ≡ flying f.settings.nodes w.flights →
    AllPass step.fates → length step.fates ≡ 0 → AllHeld start.sent k start.flights → Moved f w (closes f w step (untouched start))
gone f k w start step nodes lives past letters pass few held =
    let c = closed f k w step (untouched start) pass few held in
    Rests (c.net ∙ nothing_sent f (flying f.settings.nodes start.flights) start
    ∙ ap (λ z. net_made z (flying f.settings.nodes start.flights)) (group_same w start nodes lives past) ∙ ap (λ z. net_made (group_world w) z) letters)

-- an Ask or an Answer comes
errand_comes : (f : Frame) (k : ℕ) (w start : World) (step : Step) (incarnation from to : ℕ) (errand : Errand) → start.nodes ≡ w.nodes → start.lives ≡ w.lives → start.past ≡ w.past →
    flying f.settings.nodes start.flights ≡ flying f.settings.nodes w.flights → AllPass step.fates → length step.fates ≡ length (steps.comes f start (Mail.Sends incarnation from to errand)).mails →
    AllHeld start.sent k start.flights → AppliesNoMore f w (closes f w step (steps.comes f start (Mail.Sends incarnation from to errand))) →
    Moved f w (closes f w step (steps.comes f start (Mail.Sends incarnation from to errand)))
errand_comes f k w start step incarnation from to errand nodes lives past letters pass few held =
    cond_both (lives_in f start to) there (untouched start) (λ (u : AtWork). length step.fates ≡ length u.mails → AppliesNoMore f w (closes f w step u) → Moved f w (closes f w step u))
    on (λ e small still. gone f k w start step nodes lives past letters pass small held) few
  where
    first : NodeWork
    first = arrives errand (idle (start.nodes to))

    whole : NodeWork
    whole = catches_up f to first

    there : AtWork
    there = after_part f to whole (untouched start)

    on : lives_in f start to ≡ true → length step.fates ≡ length there.mails → AppliesNoMore f w (closes f w step there) → Moved f w (closes f w step there)
    on e small still =
        let c = closed f k w step there pass small held in
        let low = low_of (and_parts (nat_lt to f.settings.nodes) (start.lives to) e).0 in
        let s = by_still (still_arrives (group f) to errand (idle (start.nodes to))) in
        let end = part_end f k to w start (closes f w step there) whole nodes low c still in
        let all = same_on s (catches_same f to first (end ∙ sym (ap (λ (n : ℕ → Node). (n to).member.applied) nodes) ∙ sym (ap (λ (t : Member Message). t.applied) s.member))) in
        Rests (c.net ∙ rest_net f to whole (flying f.settings.nodes start.flights) (untouched start) all ∙ nothing_sent f (flying f.settings.nodes start.flights) start
        ∙ ap (λ z. net_made z (flying f.settings.nodes start.flights)) (group_same w start nodes lives past) ∙ ap (λ z. net_made (group_world w) z) letters)
      where
        low_of : nat_lt to f.settings.nodes ≡ true → to < f.settings.nodes
        low_of q = ltb-true to f.settings.nodes q

-- a letter of the group comes
letter_comes : (f : Frame) (k : ℕ) (w start : World) (step : Step) (letter : Letter Message) (place : ℕ) → Laws f → Grouped f w → Comes w.past.letters letter → start.nodes ≡ w.nodes → start.lives ≡ w.lives → start.past ≡ w.past →
    slice_get (flying f.settings.nodes w.flights) place ≡ Some letter → without_at place (flying f.settings.nodes w.flights) ≡ flying f.settings.nodes start.flights →
    AllPass step.fates → length step.fates ≡ length (steps.comes f start (Mail.Grouped letter)).mails → AllHeld start.sent k start.flights →
    AppliesNoMore f w (closes f w step (steps.comes f start (Mail.Grouped letter))) → Moved f w (closes f w step (steps.comes f start (Mail.Grouped letter)))
letter_comes f k w start step letter place laws grouped sent nodes lives past is left pass few held =
    cond_both (lives_in f start m) there (untouched start) (λ (u : AtWork). length step.fates ≡ length u.mails → AppliesNoMore f w (closes f w step u) → Moved f w (closes f w step u)) on off few
  where
    g : Group Message
    g = group f

    m : ℕ
    m = letter.to

    work : Work Message
    work = deliver g m letter.packet (start.nodes m).member

    first : NodeWork
    first = joins work (idle (start.nodes m))

    whole : NodeWork
    whole = catches_up f m first

    there : AtWork
    there = after_part f m whole (untouched start)

    flights : List (Letter Message)
    flights = flying f.settings.nodes start.flights

    n : Net Message
    n = net_made (group_world w) flights

    same : group_world start ≡ group_world w
    same = group_same w start nodes lives past

    moved : moves g (net_of f w) (Move.Delivers place) ≡ comes g n (Some letter)
    moved = ap (λ (o : Option (Letter Message)). comes g (net_made (group_world w) (without_at place (flying f.settings.nodes w.flights))) o) is
        ∙ ap (λ z. comes g (net_made (group_world w) z) (Some letter)) left

    acts_same : acts_on g (group_world w) m ≡ lives_in f start m
    acts_same = ap (λ (l : ℕ → Bool). nat_lt m f.settings.nodes && l m) (sym lives)

    on : lives_in f start m ≡ true → length step.fates ≡ length there.mails → AppliesNoMore f w (closes f w step there) → Moved f w (closes f w step there)
    on e small still =
        let acts : acts_on g (group_world w) m ≡ true = acts_same ∙ e in
        let c = closed f k w step there pass small held in
        let low = ltb-true m f.settings.nodes (and_parts (nat_lt m f.settings.nodes) (start.lives m) e).0 in
        let end = part_end f k m w start (closes f w step there) whole nodes low c still in
        let kept : work.state.applied ≡ (w.nodes m).member.applied =
        ap (λ (z : ℕ → Node). (deliver g m letter.packet (z m).member).state.applied) nodes ∙ deliver_applied f w letter laws.steps laws.small grouped acts sent in
        let row = row_on (joins_row g m start.past work (idle (start.nodes m)) refl) (catches_same f m first (end ∙ sym kept)) in
        Delivers place (c.net
        ∙ row_net g f m start.past work whole flights (untouched start) refl row
        ∙ ap (λ z. part z m start.past work) (nothing_sent f flights start)
        ∙ ap (λ (z : GroupWorld Message). part (net_made z flights) m z.past (deliver g m letter.packet (z.members m))) same
        ∙ sym (if_true (acts_on g (group_world w) m && not (m == letter.packet.from)) (part n m w.past (deliver g m letter.packet (w.nodes m).member)) n (goes_there f w letter acts sent.other))
        ∙ sym moved)

    off : lives_in f start m ≡ false → length step.fates ≡ 0 → AppliesNoMore f w (closes f w step (untouched start)) → Moved f w (closes f w step (untouched start))
    off e small still =
        let c = closed f k w step (untouched start) pass small held in
        Delivers place (c.net ∙ nothing_sent f flights start ∙ ap (λ z. net_made z flights) same
        ∙ sym (if_not (acts_on g (group_world w) m) (not (m == letter.packet.from)) (part n m w.past (deliver g m letter.packet (w.nodes m).member)) n (acts_same ∙ e))
        ∙ sym moved)
      where
        if_not : {A : Type 0} (a b : Bool) (x y : A) → a ≡ false → (cond (a && b) x y) ≡ y
        if_not a b x y d = ap (λ z. cond (z && b) x y) d

coming : (f : Frame) (k : ℕ) (w : World) (step : Step) (number copy : ℕ) (flight : Flight Carried) → Laws f → Grouped f w → ready_copy number copy w.flights ≡ Some flight →
    AllPass step.fates → length step.fates ≡ length (comes_whole f (start_of w number copy) (Some flight)).mails → AllHeld w.sent k w.flights →
    AppliesNoMore f w (closes f w step (comes_whole f (start_of w number copy) (Some flight))) → Moved f w (closes f w step (comes_whole f (start_of w number copy) (Some flight)))
coming f k w step number copy flight laws grouped found pass few held =
    cond_both (is_whole f.settings.nodes flight.packet) (steps.comes f start flight.packet.mail) (untouched start)
    (λ (u : AtWork). length step.fates ≡ length u.mails → AppliesNoMore f w (closes f w step u) → Moved f w (closes f w step u))
    (λ e. by flight.packet.mail refl e)
    (λ e small still. gone f k w start step refl refl refl (skipped f.settings.nodes P w.flights flight found (ap (λ b. cond b (of_mail flight.packet.mail) []) e)) pass small kept)
    few
  where
    start : World
    start = start_of w number copy

    P : Flight Carried → Bool
    P = is_ready_copy number copy

    kept : AllHeld w.sent k start.flights
    kept = free_without w.sent k P w.flights held

    by : (mail : Mail) → flight.packet.mail ≡ mail → is_whole f.settings.nodes flight.packet ≡ true → length step.fates ≡ length (steps.comes f start flight.packet.mail).mails →
        AppliesNoMore f w (closes f w step (steps.comes f start flight.packet.mail)) → Moved f w (closes f w step (steps.comes f start flight.packet.mail))
    by (Mail.Grouped letter) is e = subst
        (λ (z : Mail). length step.fates ≡ length (steps.comes f start z).mails → AppliesNoMore f w (closes f w step (steps.comes f start z)) → Moved f w (closes f w step (steps.comes f start z))) (sym is)
        (λ small still. letter_comes f k w start step letter t.place laws grouped (subst (Come w.past.letters) is (come_found w.past.letters P w.flights flight grouped.travels found)) refl refl refl t.is t.left pass small kept still)
      where
        t : Taken f.settings.nodes w.flights start.flights letter
        t = taken f.settings.nodes P w.flights flight letter found (ap (λ b. cond b (of_mail flight.packet.mail) []) e ∙ ap of_mail is)
    by (Mail.Sends incarnation from to errand) is e = subst
        (λ (z : Mail). length step.fates ≡ length (steps.comes f start z).mails → AppliesNoMore f w (closes f w step (steps.comes f start z)) → Moved f w (closes f w step (steps.comes f start z))) (sym is)
        (λ small still. errand_comes f k w start step incarnation from to errand refl refl refl
        (skipped f.settings.nodes P w.flights flight found (ap (λ b. cond b (of_mail flight.packet.mail) []) e ∙ ap of_mail is)) pass small kept still)

pub some_is : {A : Type 0} (o : Option A) → IsTrue (is_some o) → (x : A) × (o ≡ Some x)
some_is None h = absurd (cc h)
some_is (Some x) h = (x, refl)

delivering : (f : Frame) (k : ℕ) (w : World) (step : Step) (number copy : ℕ) → Laws f → Grouped f w → IsTrue (steps.may_deliver w number copy) →
    AllPass step.fates → length step.fates ≡ length (delivers f w number copy).mails → AllHeld w.sent k w.flights →
    AppliesNoMore f w (closes f w step (delivers f w number copy)) → Moved f w (closes f w step (delivers f w number copy))
delivering f k w step number copy laws grouped may pass few held still =
    let found = some_is (ready_copy number copy w.flights) may in
    subst (λ (o : Option (Flight Carried)). length step.fates ≡ length (comes_whole f (start_of w number copy) o).mails → AppliesNoMore f w (closes f w step (comes_whole f (start_of w number copy) o)) →
    Moved f w (closes f w step (comes_whole f (start_of w number copy) o))) (sym found.1)
    (λ small quiet. coming f k w step number copy found.0 laws grouped found.1 pass small held quiet) few still

-- ---- steps

pub moved_by : (f : Frame) (k : ℕ) (w : World) (step : Step) (e : world.Event) (given : Known e) → Laws f → Grouped f w → Possible f w e given → MayAll f w e → is_from_wire e ≡ false → tick_by e ≡ 0 → AllPass step.fates →
    length step.fates ≡ length (happens f w e given).mails → AllHeld w.sent k w.flights → AppliesNoMore f w (closes f w step (happens f w e given)) → Moved f w (closes f w step (happens f w e given))
moved_by f k w step (event.Burst process place turns) given laws grouped may allowed plain zeroth pass few held still =
    let m : ℕ = home_of f w process.0 in
    let v : NodeWork = computes process.0 place given.reads given.end (w.nodes m) in
    let c = closed f k w step (after_part f m v (untouched w)) pass few held in
    let first = by_still (still_performed (group f) m place given.reads (idle (w.nodes m))) in
    let s : Same (group f) m (idle (w.nodes m)) v = same_on first (record { member = refl; past = λ p. refl; letters = refl }) in
    Rests (c.net ∙ rest_net f m v (flying f.settings.nodes w.flights) (untouched w) s ∙ nothing_sent f (flying f.settings.nodes w.flights) w)
moved_by f k w step (event.Act process) given laws grouped may allowed plain zeroth pass few held still =
    acting f k w step process.0 laws grouped (if_yes (may_act f w process) may) allowed pass few held still
moved_by f k w step (event.Deliver packet copy) given laws grouped may allowed plain zeroth pass few held still = delivering f k w step packet copy laws grouped may pass few held still
moved_by f k w step event.Tick given laws grouped may allowed plain zeroth pass few held still = absurd (omega (arith, zeroth))
moved_by f k w step (event.Crash node) given laws grouped may allowed plain zeroth pass few held still = absurd (cc plain)
moved_by f k w step (event.Suspect node) given laws grouped may allowed plain zeroth pass few held still = absurd (cc plain)
moved_by f k w step event.Swap given laws grouped may allowed plain zeroth pass few held still = absurd (cc plain)

pub ticked_by : (f : Frame) (k : ℕ) (w : World) (step : Step) → Laws f → Grouped f w → AllPass step.fates → length step.fates ≡ length (steps.passes_tick f w).mails → AllHeld w.sent k w.flights →
    AppliesNoMore f w (closes f w step (steps.passes_tick f w)) → net_of f (closes f w step (steps.passes_tick f w)) ≡ moves (group f) (net_of f w) Move.Ticks
ticked_by f k w step laws grouped pass few held still =
    c.net
    ∙ ap (λ z. net_at z u) (ap (flying f.settings.nodes) t.flights ∙ ticked_letters f.settings.nodes w.flights)
    ∙ ticks_net f start flights f.settings.nodes (omega arith) quiet
    ∙ ap (net_ticks) (nothing_sent f flights start)
  where
    start : World
    start = record w { flights = ticked w.flights }

    flights : List (Letter Message)
    flights = flying f.settings.nodes w.flights

    u : AtWork
    u = ticks_below f f.settings.nodes (untouched start)

    t : Timed f start f.settings.nodes u
    t = timed f start f.settings.nodes

    held_on : AllHeld u.world.sent (k - 1) u.world.flights
    held_on = subst (λ (n : ℕ). AllHeld n (k - 1) u.world.flights) (sym t.sent) (subst (AllHeld w.sent (k - 1)) (sym t.flights) (ticked_less w.sent k w.flights held))

    c : Closes f (k - 1) u (closes f w step u)
    c = closed f (k - 1) w step u pass few held_on

    net_ticks : Net Message → Net Message
    net_ticks n = moves (group f) n Move.Ticks

    quiet : (x : ℕ) → x < f.settings.nodes → w.lives x ≡ true → (ticks f x (w.nodes x)).node.member.applied ≡ (timer (group f) x (w.nodes x).member).state.applied
    quiet x low lives =
        sym (ap (λ (n : ℕ → Node). (n x).member.applied) c.nodes ∙ ap (λ (n : Node). n.member.applied) (t.ran x low lives)) ∙ still x low
        ∙ sym (timer_applied f w x laws.steps laws.small grouped (both_true _ _ (lt-ltb x f.settings.nodes low) lives))
