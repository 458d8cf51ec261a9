-- After each step every living member has caught up.
use Rattle.std.proofs.Common.{◌≡◌, ◌==◌, ◌≤◌, ◌<◌, ◌*◌, if◌then◌else◌, ℕ, true, false, is_some, List, [], ◌∷◌, ◌++◌, length, take, drop, Option, None, Some, refl, sym, ap, ◌∙◌, subst, nat_lt, nat_le}
use Rattle.std.proofs.lemmas.Bool.{cond_both, false≢true}
use Rattle.orca_base.specs.declared.ids.CallNo.{CallNo}
use Rattle.value_core.specs.Meaning.{Performs}
use Rattle.value_core.specs.declared.action.Action.{Action}
use Rattle.value_core.specs.declared.action.Action.TheVariants as action
use Rattle.value_core.specs.declared.action.Line.{Line}
use Rattle.value_core.specs.declared.action.Reply.{Reply}
use Rattle.value_core.specs.declared.meaning.Making.{Making}
use Rattle.value_core.specs.declared.meaning.Making.TheVariants as making
use Rattle.value_core.specs.declared.message.Message.{Message}
use Rattle.object_manager.specs.After.{Copied}
use Rattle.object_manager.specs.Limits.{objects_limit, too_many}
use Rattle.object_manager.specs.Singles.{after_single, lines_single}
use Rattle.group_rules.specs.Agree.{Agree}
use Rattle.group_rules.specs.Member.{Member}
use Rattle.group_rules.specs.World.{Event, GroupWorld}
use Rattle.world_rules.specs.declared.event.Step.{Step}
use Rattle.world_rules.specs.Applying.{applies_all, due_entries}
use Rattle.world_rules.specs.Frame.{Frame, group}
use Rattle.world_rules.specs.Mail.{Errand, place_of}
use Rattle.world_rules.specs.Mail.Errand.{Ask, Answer}
use Rattle.world_rules.specs.Nodes.{Given, NodeWork, becomes, does, if_played, known}
use Rattle.world_rules.specs.Nodes.Deed.{Performs as Performing}
use Rattle.world_rules.specs.Owners.{hands, hands_all, hands_to, hears_as, hears_of, holds, performs_call, takes, takes_asked, takes_call, takes_each, takes_reached, waits_here}
use Rattle.world_rules.specs.Parts.{catches_up, computes}
use Rattle.world_rules.specs.Played.{Played, Stage, receives}
use Rattle.world_rules.specs.Played.Stage.{Computing, Acting, Submitted, Reading, Asking, Over}
use Rattle.world_rules.specs.Processes.{home_in}
use Rattle.world_rules.specs.Steps.{AtWork, Next, closes, happens, untouched}
use Rattle.world_rules.specs.Worlds.{World, home_of}
use Rattle.world_law.specs.CaughtUp.{AllCaughtUp, HasCaughtUp, MayCatchUp, RoundsEnd, StepsCatchUp, StopsAt}
use Rattle.world_law.specs.Grouped.{Grouped}
use Rattle.world_law.specs.Grouped.{Submits as MayAll}
use Rattle.world_law.proofs.Ages.{posted_nodes}
use Rattle.world_law.proofs.AtWork.{at_work}
use Rattle.world_law.proofs.Counting.{group_posts}
use Rattle.world_law.proofs.Events.{world_is}
use Rattle.world_law.proofs.Grouping.{Good, Laws, members_at}
use Rattle.world_law.proofs.Maps.{at_both}
use Rattle.world_law.proofs.Settling.{may_round, settles, settles_once}
use Rattle.world_law.proofs.Still.{Still, still_reached}
use Rattle.world_law.proofs.Walking.{Walks, begun, good_begun, performed_node, walk_event}

-- ---- calls on single objects leave what a limit looks at

-- the copies but for what is kept here
abbrev seen : Copied → Copied
seen c = record c { own = []; waits = [] }

seen_limit : (p : Performs) (c : Copied) (act : Action) → too_many p (seen c) act ≡ too_many p c act
seen_limit p c (action.Make kind object) = by (p.made kind)
  where
    by : (made : Making) → objects_limit (seen c) made ≡ objects_limit c made
    by (making.Made state) = refl
    by (making.Broke fault) = refl
seen_limit p c (action.Call kind op object args) = refl
seen_limit p c (action.Fork text args place_on) = refl
seen_limit p c action.Ended = refl
seen_limit p c (action.Faulted fault) = refl

stops_seen : (f : Frame) (c d : Copied) (xs : List Message) → seen d ≡ seen c → StopsAt f c xs → StopsAt f d xs
stops_seen f c d [] same h = tt
stops_seen f c d (x ∷ xs) same h =
    ap is_some (sym (seen_limit f.performs d x.action) ∙ ap (λ (z : Copied). too_many f.performs z x.action) same ∙ seen_limit f.performs c x.action) ∙ h

abbrev Same : NodeWork → NodeWork → Type 0
Same v u = seen u.node.copies ≡ seen v.node.copies

same_if : (change : Played → Played) (i : ℕ) (r : Option Played) (v : NodeWork) → Same v (if_played change i r v)
same_if change i None v = refl
same_if change i (Some r) v = refl

same_hands_to : (m home place : ℕ) (l : Line) (v : NodeWork) → Same v (hands_to m home place l v)
same_hands_to m home place l v = cond_both (home == m) _ _ (Same v)
    (λ e. same_if (receives place l.reply) l.process.0 (v.node.played l.process.0) v) (λ e. refl)

same_hands_all : (f : Frame) (m : ℕ) (ls : List Line) (v : NodeWork) → Same v (hands_all f m ls v)
same_hands_all f m [] v = refl
same_hands_all f m (l ∷ ls) v =
    same_hands_all f m ls (hands f m l v)
    ∙ same_hands_to m (home_in (known f v.node) l.process.0) v.node.copies.applied l (does (Performing (record { place = v.node.copies.applied; line = l })) v)

same_call : (f : Frame) (m : ℕ) (x : Message) (v : NodeWork) → Same v (performs_call f m x v)
same_call f m x v = same_hands_all f m (lines_single f.performs v.node.copies x)
    (becomes (record v.node { copies = after_single f.performs v.node.copies x }) v)

same_takes_call : (f : Frame) (m : ℕ) (x : Message) (v : NodeWork) → Same v (takes_call f m x v)
same_takes_call f m x v = cond_both (waits_here x v.node.copies.waits) _ _ (Same v) (λ e. refl) (λ e. same_call f m x v)

same_asked : (f : Frame) (m : ℕ) (x : Message) (o : Option Given) (v : NodeWork) → Same v (takes_asked f m x o v)
same_asked f m x None v = same_takes_call f m x v
same_asked f m x (Some given) v = cond_both (nat_lt given.call.0 x.call.0) _ _ (Same v) (λ e. same_takes_call f m x v)
    (λ e. cond_both (given.call.0 == x.call.0) _ _ (Same v) (λ d. refl) (λ d. refl))

same_hears_as : (place i : ℕ) (call : CallNo) (reply : Reply) (r : Played) (stage : Stage) (v : NodeWork) → Same v (hears_as place i call reply r stage v)
same_hears_as place i call reply r (Asking act) v = cond_both (call.0 == length r.replies) _ _ (Same v) (λ e. refl) (λ e. refl)
same_hears_as place i call reply r Computing v = refl
same_hears_as place i call reply r (Acting act) v = refl
same_hears_as place i call reply r (Submitted act) v = refl
same_hears_as place i call reply r (Reading act) v = refl
same_hears_as place i call reply r (Over act) v = refl

same_hears : (place i : ℕ) (call : CallNo) (reply : Reply) (o : Option Played) (v : NodeWork) → Same v (hears_of place i call reply o v)
same_hears place i call reply None v = refl
same_hears place i call reply (Some r) v = same_hears_as place i call reply r r.stage v

same_takes : (f : Frame) (m : ℕ) (errand : Errand) (v : NodeWork) → Same v (takes f m errand v)
same_takes f m (Ask place x) v = same_asked f m x (v.node.given x.process.0) v
same_takes f m (Answer place i call reply) v = same_hears place i.0 call reply (v.node.played i.0) v

same_each : (f : Frame) (m : ℕ) (errands : List Errand) (v : NodeWork) → Same v (takes_each f m errands v)
same_each f m [] v = refl
same_each f m (errand ∷ errands) v =
    same_each f m errands (if nat_le (place_of errand) v.node.copies.applied then takes f m errand v else holds errand v)
    ∙ cond_both (nat_le (place_of errand) v.node.copies.applied) (takes f m errand v) (holds errand v) (Same v) (λ e. same_takes f m errand v) (λ e. refl)

same_reached : (f : Frame) (m : ℕ) (v : NodeWork) → Same v (takes_reached f m v)
same_reached f m v = cond_both v.node.member.outside _ _ (Same v) (λ e. refl)
    (λ e. same_each f m v.node.held (becomes (record v.node { held = [] }) v))

-- ---- a part of a member

may_good : {b : List (Event Message)} (laws : Laws) (f : Frame) → 2 * (group f).resilience < (group f).nodes → (w : World) (m : ℕ) (v : NodeWork) →
    Good (group f) b w m v → MayCatchUp v
may_good {b} laws f small w m v h =
    let agree : Agree (group f) (at_work (group f) w m v) =
    subst (Agree (group f)) (sym h.reached.run) (laws.worlds (group f) small (b ++ h.reached.more)) in
    record {
      noted = h.noted;
      below = h.below;
      logged = subst (λ (s : Member Message). s.accepted ≤ length s.log) (members_at (group f) w m v) (agree.holds m).accepted;
    }

up_part : (f : Frame) (m : ℕ) (v : NodeWork) → MayCatchUp v → HasCaughtUp f (catches_up f m v).node
up_part f m v may =
    let u : NodeWork = applies_all f m v in
    let t : NodeWork = takes_reached f m u in
    let s : Still (group f) m u t = still_reached f (group f) m m u in
    let due : due_entries t.node ≡ due_entries u.node =
    ap (λ (z : Member Message). drop t.node.copies.applied (take z.accepted z.log)) s.member
    ∙ ap (λ n. drop n (take u.node.member.accepted u.node.member.log)) s.applied in
    subst (StopsAt f t.node.copies) (sym due)
    (stops_seen f u.node.copies t.node.copies (due_entries u.node) (same_reached f m u) (settles f m v may).up)

up_walks : (laws : Laws) (f : Frame) → 2 * (group f).resilience < (group f).nodes →
    Walks f (λ s c u. AllCaughtUp f u.world) (λ s c u. AllCaughtUp f u.world)
up_walks laws f small = record {
  weaken = λ s t c d u more rest h. h;
  ends = λ s c u h. h;
  burst = λ w i place turns burst s c grouped is h m low lives.
      let k : ℕ = home_of f w i.0 in
      at_both w.nodes k (computes i.0 place burst.reads burst.end (w.nodes k)).node m (HasCaughtUp f)
      (λ e. subst (HasCaughtUp f) (sym (performed_node place burst.reads (record { node = w.nodes k; deeds = [] })))
      (subst (λ j. HasCaughtUp f (w.nodes j)) e (h m low lives)))
      (λ no. h m low lives);
  taken = λ w number copy s c h. h;
  waited = λ w s c h. h;
  crashed = λ w k s c h m low.
      at_both w.lives k false m (λ b. b ≡ true → HasCaughtUp f (w.nodes m)) (λ e lives. absurd (false≢true lives)) (λ no lives. h m low lives);
  swapped = λ w s c h. h;
  part = λ start u k s c grouped on may h m low lives.
      at_both u.world.nodes k (catches_up f k (begun f u.world k start)).node m (HasCaughtUp f)
      (λ e. up_part f k (begun f u.world k start)
      (may_good laws f small u.world k (begun f u.world k start) (good_begun laws f u.world k start small on grouped may)))
      (λ no. h m low lives);
}

step_up : (laws : Laws) (f : Frame) → 2 * (group f).resilience < (group f).nodes → (w v : World) (step : Step) → Next f w step v →
    MayAll f w step.event → Grouped f w → AllCaughtUp f w → AllCaughtUp f v
step_up laws f small w v step next submit grouped h =
    let u : AtWork = happens f w step.event next.given in
    let p = group_posts f u.mails step.fates u.world in
    let up : AllCaughtUp f u.world =
    walk_event laws f (λ s c z. AllCaughtUp f z.world) (λ s c z. AllCaughtUp f z.world) small (up_walks laws f small) w step.event next.given 0 0 grouped
    next.possible submit h in
    let nodes : (closes f w step u).nodes ≡ u.world.nodes = posted_nodes f u.mails step.fates u.world in
    let lives : (closes f w step u).lives ≡ u.world.lives = ap (λ (z : GroupWorld Message). z.lives) p in
    subst (AllCaughtUp f) (sym next.after)
    (λ m low alive. subst (λ n. HasCaughtUp f (n m)) (sym nodes) (up m low (ap (λ l. l m) (sym lives) ∙ alive)))

pub steps_catch_up : (laws : Laws) (f : Frame) → 2 * (group f).resilience < (group f).nodes → StepsCatchUp f
steps_catch_up laws f small = record { opening = λ m low lives. tt; step = step_up laws f small }

pub rounds_end : (laws : Laws) (f : Frame) → 2 * (group f).resilience < (group f).nodes → RoundsEnd f
rounds_end laws f small = record {
  moments = λ w m v h.
      let good : Good (group f) [] w m v = record {
        reached = record { more = h.events; run = sym (world_is f m v (untouched w)) ∙ h.run };
        noted = h.noted;
        below = h.below;
        others = h.others;
      } in
      may_good laws f small w m v good;
  stays = may_round f;
  settles = settles f;
  once = settles_once f;
}
