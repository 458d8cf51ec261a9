-- In every run, whose message was submitted has it among what its process submitted, with its member as home.
use Rattle.std.proofs.Common.{◌≡◌, ◌==◌, ◌⊎◌, inl, inr, ⊎_elim, ℕ, zero, suc, true, List, [], ◌∷◌, ◌++◌, map, length, Option, Some, None, refl, sym, ap, ◌∙◌, subst, nat_lt}
use Rattle.std.proofs.lemmas.Bool.{and_parts, cond_both, eqb-true}
use Rattle.orca_base.specs.declared.ids.ProcessNo.{ProcessNo}
use Rattle.value_core.specs.declared.action.Action.{Action}
use Rattle.value_core.specs.declared.action.Action.TheVariants as action
use Rattle.value_core.specs.declared.action.Class.{Class}
use Rattle.value_core.specs.declared.action.Class.TheVariants.{Reads, Writes}
use Rattle.value_core.specs.declared.action.Line.{Line}
use Rattle.value_core.specs.declared.message.Message.{Message}
use Rattle.value_core.specs.declared.processor.Halt.{Halt}
use Rattle.value_core.specs.declared.processor.Halt.TheVariants as halt
use Rattle.value_core.specs.History.{Objects}
use Rattle.guard_queue.specs.declared.queue.Suspended.{Suspended}
use Rattle.object_manager.specs.State.{IsCall, message_of}
use Rattle.group_rules.specs.Member.{Waiting, nobody}
use Rattle.group_rules.specs.Messages.{Group}
use Rattle.group_rules.specs.Reset.{coordinate}
use Rattle.group_rules.specs.Sets.{In}
use Rattle.group_rules.specs.Steps.{deliver, note, submit, timer}
use Rattle.group_rules.specs.Work.{Act, Work}
use Rattle.group_rules.specs.World.{Past, is_at_home, may_submit, remembers}
use Rattle.net_rules.specs.declared.fate.Fate.{Fate}
use Rattle.net_rules.specs.declared.flight.Flight.{Flight}
use Rattle.net_rules.specs.Flights.{ready_copy, ticked, without}
use Rattle.world_rules.specs.declared.event.Event as world
use Rattle.world_rules.specs.declared.event.Event.TheVariants as event
use Rattle.world_rules.specs.declared.event.Step.{Step}
use Rattle.world_rules.specs.Applying.{applies, applies_all, due_entries, round, rounds}
use Rattle.world_rules.specs.Bursts.{Ran, reads_on}
use Rattle.world_rules.specs.Frame.{Frame, group}
use Rattle.world_rules.specs.Mail.{Carried, Mail, is_whole, receiver_of}
use Rattle.world_rules.specs.Mail.Errand.{Ask}
use Rattle.world_rules.specs.Nodes.{Deed, Node, NodeWork, does, idle, joins, known, past_after, plays}
use Rattle.world_rules.specs.Nodes.Deed.{Acts, Submits}
use Rattle.world_rules.specs.Owners.{arrives, performs_call, sends, takes_reached}
use Rattle.world_rules.specs.Parts.{acts_at, acts_by, acts_of, asks, asks_again, calls, calls_as, catches_up, performs_all, receives_mail, submits}
use Rattle.world_rules.specs.Played.{Played, Stage, at_action, moves_to, newborn, next_call, stage_at}
use Rattle.world_rules.specs.Played.Stage.{Computing, Acting, Submitted, Reading, Asking, Over}
use Rattle.world_rules.specs.Processes.{first_process, owner_in, singles_of}
use Rattle.world_rules.specs.Steps.{AtWork, Known, Next, Possible, after_part, comes, comes_whole, happens, lives_in, posts, posts_all, ticks_below, untouched}
use Rattle.world_rules.specs.Worlds.{World, group_world, home_of, opening_world}
use Rattle.world_law.specs.Grouped.{Submits as MayAll}
use Rattle.world_law.proofs.Applied.{applied_each}
use Rattle.world_law.proofs.Maps.{at_both, at_here}
use Rattle.world_law.proofs.Onwards.{AreOnward, Onward, on_again, on_arrives, on_call, on_catches, on_read, stay}
use Rattle.world_law.proofs.Still.{Still, still_again, still_arrives, still_call, still_performed, still_reached, still_read}

-- process i's message is among what it submitted, and this member is its home
pub record WasSent (p : Past Message) (m i : ℕ) (r : Played) (act : Action) : Type 0 where
  pub message : Message
  pub there : In message (p.submitted i)
  pub home : p.homes i ≡ Some m
  pub process : message.process ≡ record { 0 = i }
  pub call : message.call ≡ next_call r
  pub action : message.action ≡ act

-- so it is, and who asks an owner is at a call
pub record AllSent (w : World) : Type 0 where
  pub sent : (m i : ℕ) (r : Played) (act : Action) → (w.nodes m).played i ≡ Some r → r.stage ≡ Submitted act → WasSent w.past m i r act
  pub calls : (m i : ℕ) (r : Played) (act : Action) → (w.nodes m).played i ≡ Some r → r.stage ≡ Asking act → IsCall act

-- ---- work that leaves what was submitted, and homes

record Keeps (g : Group Message) (m : ℕ) (v u : NodeWork) : Type 0 where
  submitted : (p : Past Message) → (past_after g m u.deeds p).submitted ≡ (past_after g m v.deeds p).submitted
  homes : (p : Past Message) → (past_after g m u.deeds p).homes ≡ (past_after g m v.deeds p).homes

keeps_on : {g : Group Message} {m : ℕ} {v u t : NodeWork} → Keeps g m v u → Keeps g m u t → Keeps g m v t
keeps_on one two = record { submitted = λ p. two.submitted p ∙ one.submitted p; homes = λ p. two.homes p ∙ one.homes p }

keeps_past : (g : Group Message) (m : ℕ) (v u : NodeWork) → ((p : Past Message) → past_after g m u.deeds p ≡ past_after g m v.deeds p) → Keeps g m v u
keeps_past g m v u e = record { submitted = λ p. ap (λ (z : Past Message). z.submitted) (e p); homes = λ p. ap (λ (z : Past Message). z.homes) (e p) }

by_still : (g : Group Message) (m : ℕ) (v u : NodeWork) → Still g m v u → Keeps g m v u
by_still g m v u s = keeps_past g m v u (λ p. s.past p)

act_past : (act : Act Message) (p : Past Message) → ((remembers act p).submitted ≡ p.submitted) × ((remembers act p).homes ≡ p.homes)
act_past (Act.Sends letter) p = (refl, refl)
act_past (Act.Keeps packet) p = (refl, refl)
act_past (Act.Orders k x) p = (refl, refl)
act_past (Act.Begins k log answers) p = (refl, refl)

acts_past : (g : Group Message) (m : ℕ) (acts : List (Act Message)) (deeds : List Deed) (p : Past Message) →
    ((past_after g m (map Acts acts ++ deeds) p).submitted ≡ (past_after g m deeds p).submitted) × ((past_after g m (map Acts acts ++ deeds) p).homes ≡ (past_after g m deeds p).homes)
acts_past g m [] deeds p = (refl, refl)
acts_past g m (act ∷ acts) deeds p =
    let a = act_past act (past_after g m (map Acts acts ++ deeds) p) in
    let r = acts_past g m acts deeds p in
    (a.0 ∙ r.0, a.1 ∙ r.1)

keeps_joins : (g : Group Message) (m : ℕ) (work : Work Message) (v : NodeWork) → Keeps g m v (joins work v)
keeps_joins g m work v = record { submitted = λ p. (acts_past g m work.acts v.deeds p).0; homes = λ p. (acts_past g m work.acts v.deeds p).1 }

keeps_round : (f : Frame) (m : ℕ) (v : NodeWork) → Keeps (group f) m v (round f m v)
keeps_round f m v =
    let u : NodeWork = applies f m v in
    let a = applied_each f (group f) m m (due_entries v.node) v in
    cond_both (nat_lt u.node.member.applied u.node.copies.applied) _ _ (λ t. Keeps (group f) m v t)
    (λ e. keeps_on (keeps_past (group f) m v u (λ p. a.past p)) (keeps_joins (group f) m (note (group f) m u.node.copies.applied u.node.member) u))
    (λ e. keeps_past (group f) m v u (λ p. a.past p))

keeps_rounds : (f : Frame) (m : ℕ) (ws : List (Waiting Message)) (v : NodeWork) → Keeps (group f) m v (rounds f m ws v)
keeps_rounds f m [] v = keeps_round f m v
keeps_rounds f m (one ∷ more) v = keeps_on (keeps_round f m v) (keeps_rounds f m more (round f m v))

keeps_caught : (f : Frame) (m : ℕ) (v : NodeWork) → Keeps (group f) m v (catches_up f m v)
keeps_caught f m v = keeps_on (keeps_rounds f m v.node.member.waiting v)
    (by_still (group f) m (applies_all f m v) (takes_reached f m (applies_all f m v)) (still_reached f (group f) m m (applies_all f m v)))

-- ---- a member at work

abbrev past_at : Frame → World → ℕ → NodeWork → Past Message
past_at f w m u = past_after (group f) m u.deeds w.past

pub record Came (f : Frame) (w : World) (m : ℕ) (u : NodeWork) : Type 0 where
  pub more : (i : ℕ) (x : Message) → In x (w.past.submitted i) → In x ((past_at f w m u).submitted i)
  pub homes : (i k : ℕ) → w.past.homes i ≡ Some k → (past_at f w m u).homes i ≡ Some k
  pub sent :
      (i : ℕ) (r : Played) (act : Action) → u.node.played i ≡ Some r → r.stage ≡ Submitted act →
      ((w.nodes m).played i ≡ Some r) ⊎ WasSent (past_at f w m u) m i r act
  pub calls : (i : ℕ) (r : Played) (act : Action) → u.node.played i ≡ Some r → r.stage ≡ Asking act → ((w.nodes m).played i ≡ Some r) ⊎ IsCall act

some_is : (o : Option Played) (r s : Played) → o ≡ Some r → o ≡ Some s → r ≡ s
some_is o r s e d = let c : Some r ≡ Some s = sym e ∙ d in cc

-- who doesn't compute stayed
pub stayed : (free i : ℕ) (o p : Option Played) (r : Played) → Onward free i o p → p ≡ Some r → (r.stage ≡ Computing → ⊥) → o ≡ Some r
stayed free i o p r (inl e) is never = sym e ∙ is
stayed free i o p r (inr (inl g)) is never = absurd (never (ap (λ (s : Played). s.stage) (some_is p r g.after is g.is) ∙ g.computes))
stayed free i o p r (inr (inr b)) is never = absurd (never (ap (λ (s : Played). s.stage) (some_is p r b.after is b.is) ∙ b.computes))

not_submitted : (s : Stage) (act : Action) → s ≡ Submitted act → s ≡ Computing → ⊥
not_submitted s act e d = let c : Submitted act ≡ Computing = sym e ∙ d in absurd (cc c)

not_asking : (s : Stage) (act : Action) → s ≡ Asking act → s ≡ Computing → ⊥
not_asking s act e d = let c : Asking act ≡ Computing = sym e ∙ d in absurd (cc c)

sent_on : (p q : Past Message) (m i : ℕ) (r : Played) (act : Action) → ((x : Message) → In x (p.submitted i) → In x (q.submitted i)) → ((k : ℕ) → p.homes i ≡ Some k → q.homes i ≡ Some k) →
    WasSent p m i r act → WasSent q m i r act
sent_on p q m i r act more homes s = record { message = s.message; there = more s.message s.there; home = homes m s.home; process = s.process; call = s.call; action = s.action }

came_on : (f : Frame) (w : World) (m : ℕ) (v u : NodeWork) → Keeps (group f) m v u → AreOnward v u → Came f w m v → Came f w m u
came_on f w m v u b on h =
    let same = b.submitted w.past in
    let home = b.homes w.past in
    record {
      more = λ i x k. subst (λ (s : ℕ → List Message). In x (s i)) (sym same) (h.more i x k);
      homes = λ i k e. ap (λ (s : ℕ → Option ℕ). s i) home ∙ h.homes i k e;
      sent = λ i r act here is. ⊎_elim
          (λ (o : (w.nodes m).played i ≡ Some r). inl o)
          (λ (o : WasSent (past_at f w m v) m i r act). inr (sent_on (past_at f w m v) (past_at f w m u) m i r act (λ x k. subst (λ (s : ℕ → List Message). In x (s i)) (sym same) k) (λ k e. ap (λ (s : ℕ → Option ℕ). s i) home ∙ e) o))
          (h.sent i r act (stayed v.node.copies.processes i (v.node.played i) (u.node.played i) r (on.each i) here (not_submitted r.stage act is)) is);
      calls = λ i r act here is. h.calls i r act (stayed v.node.copies.processes i (v.node.played i) (u.node.played i) r (on.each i) here (not_asking r.stage act is)) is;
    }

came_idle : (f : Frame) (w : World) (m : ℕ) → Came f w m (idle (w.nodes m))
came_idle f w m = record { more = λ i x k. k; homes = λ i k e. e; sent = λ i r act here is. inl here; calls = λ i r act here is. inl here }

came_up : (f : Frame) (w : World) (m : ℕ) (v : NodeWork) → Came f w m v → Came f w m (catches_up f m v)
came_up f w m v h = came_on f w m v (catches_up f m v) (keeps_caught f m v) (on_catches f m v) h

-- one process plays on, and its message isn't out
came_plays : (f : Frame) (w : World) (m i : ℕ) (r : Played) (v : NodeWork) → ((act : Action) → r.stage ≡ Submitted act → ⊥) → ((act : Action) → r.stage ≡ Asking act → IsCall act) → Came f w m v → Came f w m (plays i r v)
came_plays f w m i r v never asks h = record {
  more = h.more;
  homes = h.homes;
  sent = λ k s act here is. at_both v.node.played i (Some r) k (λ (o : Option Played). o ≡ Some s → ((w.nodes m).played k ≡ Some s) ⊎ WasSent (past_at f w m v) m k s act)
      (λ e d. let same : r ≡ s = cc in absurd (never act (ap (λ (z : Played). z.stage) same ∙ is))) (λ no d. h.sent k s act d is) here;
  calls = λ k s act here is. at_both v.node.played i (Some r) k (λ (o : Option Played). o ≡ Some s → ((w.nodes m).played k ≡ Some s) ⊎ IsCall act)
      (λ e d. let same : r ≡ s = cc in inr (asks act (ap (λ (z : Played). z.stage) same ∙ is))) (λ no d. h.calls k s act d is) here;
}

-- ---- an action

home_is : (m k : ℕ) (o : Option ℕ) → is_at_home m o ≡ true → o ≡ Some k → m ≡ k
home_is m k None e d = absurd (let c : None ≡ Some k = d in cc c)
home_is m k (Some h) e d = let a = eqb-true h m e in let c : h ≡ k = cc in sym a ∙ c

came_submits : (f : Frame) (w : World) (m i : ℕ) (r : Played) (act : Action) (x : Message) → x.process ≡ record { 0 = i } → x.call ≡ next_call r → x.action ≡ act →
    may_submit (group f) (group_world w) m x ≡ true → Came f w m (submits f m i r act x (idle (w.nodes m)))
came_submits f w m i r act x process call act_is may =
    came_on f w m u (joins (submit (group f) m x u.node.member) u) (keeps_joins (group f) m _ u) (stay u _ refl refl) (record {
      more = λ k y h. at_both w.past.submitted x.process.0 (x ∷ w.past.submitted x.process.0) k (λ (l : List Message). In y l)
          (λ e. inr (subst (λ (j : ℕ). In y (w.past.submitted j)) e h)) (λ never. h);
      homes = λ k j e. at_both w.past.homes x.process.0 (Some m) k (λ (o : Option ℕ). o ≡ Some j)
          (λ d. ap Some (home_is m j (w.past.homes x.process.0) here (sym (ap w.past.homes d) ∙ e))) (λ never. e);
      sent = λ k s a here is. at_both (w.nodes m).played i (Some t) k (λ (o : Option Played). o ≡ Some s → ((w.nodes m).played k ≡ Some s) ⊎ WasSent (past_at f w m u) m k s a)
          (λ e d. inr (mine k s a e d is)) (λ never d. inl d) here;
      calls = λ k s a here is. at_both (w.nodes m).played i (Some t) k (λ (o : Option Played). o ≡ Some s → ((w.nodes m).played k ≡ Some s) ⊎ IsCall a)
          (λ e d. let same : t ≡ s = cc in let c : Submitted act ≡ Asking a = ap (λ (z : Played). z.stage) same ∙ is in absurd (cc c)) (λ never d. inl d) here;
    })
  where
    t : Played
    t = moves_to (Submitted act) r

    u : NodeWork
    u = does (Submits x) (plays i t (idle (w.nodes m)))

    n : x.process.0 ≡ i
    n = ap (λ (p : ProcessNo). p.0) process

    here : is_at_home m (w.past.homes x.process.0) ≡ true
    here = (and_parts (is_at_home m (w.past.homes x.process.0)) _ may).0

    mine : (k : ℕ) (s : Played) (a : Action) → k ≡ i → Some t ≡ Some s → s.stage ≡ Submitted a → WasSent (past_at f w m u) m k s a
    mine k s a e d is =
        let same : t ≡ s = cc in
        let c : Submitted act ≡ Submitted a = ap (λ (z : Played). z.stage) same ∙ is in
        let acts : act ≡ a = cc in
        let at : x.process.0 ≡ k = n ∙ sym e in
        record {
          message = x;
          there = subst (λ (j : ℕ). In x ((past_at f w m u).submitted j)) at (subst (λ (l : List Message). In x l) (sym (at_here w.past.submitted x.process.0 (x ∷ w.past.submitted x.process.0))) (inl refl));
          home = ap (past_at f w m u).homes (sym at) ∙ at_here w.past.homes x.process.0 (Some m);
          process = process ∙ ap (λ (j : ℕ). record { 0 = j }) (sym e);
          call = call ∙ ap (λ (z : Played). next_call z) same;
          action = act_is ∙ acts;
        }

came_as : (f : Frame) (w : World) (m i : ℕ) (r : Played) (call : Suspended) (class : Class) → call.process ≡ record { 0 = i } → call.call ≡ next_call r →
    may_submit (group f) (group_world w) m (message_of call) ≡ true → Came f w m (calls_as f m i r call class (idle (w.nodes m)))
came_as f w m i r call Reads process number may =
    let t : Played = moves_to (Reading (message_of call).action) r in
    let v : NodeWork = plays i t (idle (w.nodes m)) in
    came_on f w m v _ (by_still (group f) m v _ (still_read f (group f) m i v)) (on_read f i v) (came_plays f w m i t (idle (w.nodes m)) (λ act e. cc e) (λ act e. cc e) (came_idle f w m))
came_as f w m i r call Writes process number may = came_submits f w m i r (message_of call).action (message_of call) process number refl may

came_asks : (f : Frame) (w : World) (m i : ℕ) (r : Played) (call : Suspended) → Came f w m (asks f m i r call (idle (w.nodes m)))
came_asks f w m i r call =
    let v : NodeWork = idle (w.nodes m) in
    let t : Played = moves_to (Asking (message_of call).action) r in
    let u : NodeWork = plays i t v in
    let h : Came f w m u = came_plays f w m i t v (λ act e. cc e) (λ act e. let c : (message_of call).action ≡ act = cc in subst IsCall c tt) (came_idle f w m) in
    cond_both (owner_in (known f v.node) call.object == m) (performs_call f m (message_of call) u) (sends m (owner_in (known f v.node) call.object) (Ask r.place (message_of call)) u) (λ z. Came f w m z)
    (λ e. came_on f w m u _ (by_still (group f) m u _ (still_call f (group f) m m (message_of call) u)) (on_call f m (message_of call) u) h)
    (λ e. came_on f w m u _ (record { submitted = λ p. refl; homes = λ p. refl }) (stay u _ refl refl) h)

came_calls : (f : Frame) (w : World) (m i : ℕ) (r : Played) (call : Suspended) → call.process ≡ record { 0 = i } → call.call ≡ next_call r →
    may_submit (group f) (group_world w) m (message_of call) ≡ true → Came f w m (calls f m i r call (idle (w.nodes m)))
came_calls f w m i r call process number may = cond_both (singles_of f (known f (w.nodes m)) call.object) _ _ (λ u. Came f w m u)
    (λ e. came_asks f w m i r call)
    (λ e. came_as f w m i r call (f.performs.class_of call.kind call.op) process number may)

abbrev May : Frame → World → ℕ → ℕ → Played → Type 0
May f w m i r = (x : Message) → x.process.0 ≡ i → x.call.0 ≡ length r.replies → may_submit (group f) (group_world w) m x ≡ true

came_by : (f : Frame) (w : World) (m i : ℕ) (r : Played) (act : Action) → May f w m i r → Came f w m (acts_by f m i r act (idle (w.nodes m)))
came_by f w m i r (action.Make kind object) may =
    let x : Message = record { process = record { 0 = i }; call = next_call r; action = action.Make kind object; performable = refl } in
    came_submits f w m i r (action.Make kind object) x refl refl refl (may x refl refl)
came_by f w m i r (action.Call kind op object args) may =
    let call : Suspended = record { process = record { 0 = i }; call = next_call r; kind = kind; op = op; object = object; args = args } in
    came_calls f w m i r call refl refl (may (message_of call) refl refl)
came_by f w m i r (action.Fork text args place_on) may =
    let x : Message = record { process = record { 0 = i }; call = next_call r; action = action.Fork text args place_on; performable = refl } in
    came_submits f w m i r (action.Fork text args place_on) x refl refl refl (may x refl refl)
came_by f w m i r action.Ended may = came_idle f w m
came_by f w m i r (action.Faulted fault) may = came_idle f w m

came_at : (f : Frame) (w : World) (m i : ℕ) (r : Played) (stage : Stage) → ((act : Action) → stage ≡ Acting act → May f w m i r) →
    Came f w m (acts_at f m i r stage (idle (w.nodes m)))
came_at f w m i r (Acting act) may = came_by f w m i r act (may act refl)
came_at f w m i r Computing may = came_idle f w m
came_at f w m i r (Submitted act) may = came_idle f w m
came_at f w m i r (Reading act) may = came_idle f w m
came_at f w m i r (Asking act) may = came_idle f w m
came_at f w m i r (Over act) may = came_idle f w m

came_acts : (f : Frame) (w : World) (m i : ℕ) (here : Option Played) → ((r : Played) (act : Action) → here ≡ Some r → r.stage ≡ Acting act → May f w m i r) →
    Came f w m (acts_of f m i here (idle (w.nodes m)))
came_acts f w m i None may = came_idle f w m
came_acts f w m i (Some r) may = came_at f w m i r r.stage (λ act e. may r act refl e)

-- ---- a burst ends with nothing out

abbrev pub IsOutAt : Stage → Type 0
IsOutAt Computing = ⊥
IsOutAt (Acting act) = ⊥
IsOutAt (Submitted act) = Unit {0}
IsOutAt (Reading act) = ⊥
IsOutAt (Asking act) = Unit {0}
IsOutAt (Over act) = ⊥

never_at : (act : Action) → IsOutAt (at_action act) → ⊥
never_at (action.Make kind object) h = h
never_at (action.Call kind op object args) h = h
never_at (action.Fork text args place_on) h = h
never_at action.Ended h = h
never_at (action.Faulted fault) h = h

never_halted : (h : Halt) → IsOutAt (stage_at h) → ⊥
never_halted (halt.At act) h = never_at act h
never_halted halt.Paused h = h

pub never_ran : (f : Frame) (objects : Objects) (place : ℕ) (i : ProcessNo) (last : ℕ) (r : Played) (lines : List Line) (end : Played) → Ran f objects place i last r lines end → IsOutAt end.stage → ⊥
never_ran f objects place i last r [] end (h, used, halts, ends, e) is = never_halted h (subst (λ (z : Played). IsOutAt z.stage) e is)
never_ran f objects place i last r (line ∷ lines) end (act, used, halts, answered, same, ran) is =
    never_ran f objects place i last (reads_on place used line r) lines end ran is

pub same_node : (place : ℕ) (lines : List Line) (v : NodeWork) → (performs_all place lines v).node ≡ v.node
same_node place [] v = refl
same_node place (l ∷ ls) v = same_node place ls _

-- ---- events

sent_part : (f : Frame) (m : ℕ) (v : NodeWork) (u : AtWork) → AllSent u.world → Came f u.world m v → AllSent (after_part f m v u).world
sent_part f m v u all h = record {
  sent = λ k i r act here is. at_both u.world.nodes m v.node k (λ (n : Node). n.played i ≡ Some r → WasSent (past_at f u.world m v) k i r act)
      (λ e d. subst (λ (j : ℕ). WasSent (past_at f u.world m v) j i r act) (sym e) (⊎_elim (λ old. later m i r act (all.sent m i r act old is)) (λ new. new) (h.sent i r act d is)))
      (λ no d. later k i r act (all.sent k i r act d is)) here;
  calls = λ k i r act here is. at_both u.world.nodes m v.node k (λ (n : Node). n.played i ≡ Some r → IsCall act)
      (λ e d. ⊎_elim (λ old. all.calls m i r act old is) (λ new. new) (h.calls i r act d is)) (λ no d. all.calls k i r act d is) here;
}
  where
    later : (j i : ℕ) (r : Played) (act : Action) → WasSent u.world.past j i r act → WasSent (past_at f u.world m v) j i r act
    later j i r act s = sent_on u.world.past (past_at f u.world m v) j i r act (h.more i) (h.homes i) s

came_mail : (f : Frame) (w : World) (m : ℕ) (mail : Mail) → Came f w m (receives_mail f m mail (idle (w.nodes m)))
came_mail f w m (Mail.Grouped letter) =
    let work : Work Message = deliver (group f) m letter.packet (w.nodes m).member in
    came_on f w m (idle (w.nodes m)) (joins work (idle (w.nodes m))) (keeps_joins (group f) m work (idle (w.nodes m))) (stay (idle (w.nodes m)) _ refl refl) (came_idle f w m)
came_mail f w m (Mail.Sends incarnation from to errand) =
    came_on f w m (idle (w.nodes m)) (arrives errand (idle (w.nodes m))) (by_still (group f) m _ _ (still_arrives (group f) m errand (idle (w.nodes m)))) (on_arrives errand (idle (w.nodes m))) (came_idle f w m)

came_row : (f : Frame) (w : World) (m : ℕ) (work : Work Message) → Came f w m (joins work (idle (w.nodes m)))
came_row f w m work = came_on f w m (idle (w.nodes m)) (joins work (idle (w.nodes m))) (keeps_joins (group f) m work (idle (w.nodes m))) (stay (idle (w.nodes m)) _ refl refl) (came_idle f w m)

sent_comes : (f : Frame) (w : World) (mail : Mail) → AllSent w → AllSent (comes f w mail).world
sent_comes f w mail all =
    let m : ℕ = receiver_of mail in
    let v : NodeWork = receives_mail f m mail (idle (w.nodes m)) in
    cond_both (lives_in f w m) (after_part f m (catches_up f m v) (untouched w)) (untouched w) (λ (u : AtWork). AllSent u.world)
    (λ e. sent_part f m (catches_up f m v) (untouched w) all (came_up f w m v (came_mail f w m mail))) (λ e. all)

sent_whole : (f : Frame) (w : World) (o : Option (Flight Carried)) → AllSent w → AllSent (comes_whole f w o).world
sent_whole f w None all = all
sent_whole f w (Some flight) all = cond_both (is_whole f.settings.nodes flight.packet) (comes f w flight.packet.mail) (untouched w) (λ (u : AtWork). AllSent u.world)
    (λ e. sent_comes f w flight.packet.mail all) (λ e. all)

sent_ticks : (f : Frame) (n : ℕ) (w : World) → AllSent w → AllSent (ticks_below f n (untouched w)).world
sent_ticks f zero w all = all
sent_ticks f (suc m) w all =
    let t : AtWork = ticks_below f m (untouched w) in
    let before : AllSent t.world = sent_ticks f m w all in
    let u : NodeWork = joins (timer (group f) m (t.world.nodes m).member) (idle (t.world.nodes m)) in
    let v : NodeWork = asks_again f m u in
    let came : Came f t.world m v = came_on f t.world m u v (by_still (group f) m u v (still_again f (group f) m m u)) (on_again f m u) (came_row f t.world m (timer (group f) m (t.world.nodes m).member)) in
    cond_both (t.world.lives m) (after_part f m (catches_up f m v) t) t (λ (z : AtWork). AllSent z.world)
    (λ e. sent_part f m (catches_up f m v) t before (came_up f t.world m v came)) (λ e. before)

sent_happens : (f : Frame) (w : World) (e : world.Event) (given : Known e) → Possible f w e given → MayAll f w e → AllSent w → AllSent (happens f w e given).world
sent_happens f w (event.Burst process place turns) burst possible submit all =
    let m : ℕ = home_of f w process.0 in
    let v : NodeWork = performs_all place burst.reads (idle (w.nodes m)) in
    let came : Came f w m v = came_on f w m (idle (w.nodes m)) v (by_still (group f) m _ _ (still_performed (group f) m place burst.reads (idle (w.nodes m))))
    (stay (idle (w.nodes m)) v (ap (λ (n : Node). n.copies.processes) (same_node place burst.reads (idle (w.nodes m)))) (ap (λ (n : Node). n.played) (same_node place burst.reads (idle (w.nodes m))))) (came_idle f w m) in
    sent_part f m (plays process.0 burst.end v) (untouched w) all
    (came_plays f w m process.0 burst.end v (λ act e. never_ran f _ place process _ possible.start burst.reads burst.end possible.ran (subst IsOutAt (sym e) tt))
    (λ act e. absurd (never_ran f _ place process _ possible.start burst.reads burst.end possible.ran (subst IsOutAt (sym e) tt))) came)
sent_happens f w (event.Act process) given possible submit all =
    let m : ℕ = home_of f w process.0 in
    let v : NodeWork = acts_of f m process.0 ((w.nodes m).played process.0) (idle (w.nodes m)) in
    sent_part f m (catches_up f m v) (untouched w) all
    (came_up f w m v (came_acts f w m process.0 ((w.nodes m).played process.0) (λ r act here stands x i n. submit r act here stands x i n)))
sent_happens f w (event.Deliver packet copy) given possible submit all = sent_whole f (record w { flights = without packet copy w.flights }) (ready_copy packet copy w.flights) (record { sent = all.sent; calls = all.calls })
sent_happens f w event.Tick given possible submit all = sent_ticks f f.settings.nodes (record w { flights = ticked w.flights }) (record { sent = all.sent; calls = all.calls })
sent_happens f w (event.Crash node) given possible submit all = record { sent = all.sent; calls = all.calls }
sent_happens f w (event.Suspect node) given possible submit all =
    let work : Work Message = coordinate (group f) node (w.nodes node).member in
    sent_part f node (catches_up f node (joins work (idle (w.nodes node)))) (untouched w) all (came_up f w node (joins work (idle (w.nodes node))) (came_row f w node work))
sent_happens f w event.Swap given possible submit all = record { sent = all.sent; calls = all.calls }

pub posts_keep : (f : Frame) (w : World) (mails : List Mail) (fates : List Fate) → ((posts_all f w mails fates).nodes ≡ w.nodes) × ((posts_all f w mails fates).past ≡ w.past)
posts_keep f w [] fates = (refl, refl)
posts_keep f w (mail ∷ mails) [] = (refl, refl)
posts_keep f w (mail ∷ mails) (fate ∷ fates) = let r = posts_keep f (posts f w mail fate) mails fates in (r.0, r.1)

pub sent_step : (f : Frame) (w v : World) (step : Step) → Next f w step v → MayAll f w step.event → AllSent w → AllSent v
sent_step f w v step next submit all =
    let u : AtWork = happens f w step.event next.given in
    let kept = posts_keep f u.world u.mails step.fates in
    let after : AllSent u.world = sent_happens f w step.event next.given next.possible submit all in
    subst (λ (z : World). AllSent z) (sym next.after) (record {
      sent = λ m i r act here is. subst (λ (p : Past Message). WasSent p m i r act) (sym kept.1) (after.sent m i r act (sym (ap (λ (n : ℕ → Node). (n m).played i) kept.0) ∙ here) is);
      calls = λ m i r act here is. after.calls m i r act (sym (ap (λ (n : ℕ → Node). (n m).played i) kept.0) ∙ here) is;
    })

pub opening_computes : (f : Frame) (m i : ℕ) (r : Played) → ((opening_world f).nodes m).played i ≡ Some r → r.stage ≡ Computing
opening_computes f zero i r e = at_both nobody 0 (Some (newborn (first_process f))) i (λ (o : Option Played). o ≡ Some r → r.stage ≡ Computing)
    (λ z d. let same : newborn (first_process f) ≡ r = cc in sym (ap (λ (s : Played). s.stage) same)) (λ never d. let c : None ≡ Some r = d in absurd (cc c)) e
opening_computes f (suc m) i r e = let c : None ≡ Some r = e in absurd (cc c)

pub opening_sent : (f : Frame) → AllSent (opening_world f)
opening_sent f = record {
  sent = λ m i r act here is. absurd (not_submitted r.stage act is (opening_computes f m i r here));
  calls = λ m i r act here is. absurd (not_asking r.stage act is (opening_computes f m i r here));
}
