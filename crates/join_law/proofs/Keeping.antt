-- A follower's copies stay those after a beginning of the list, and its packets go on telling that.
use Rattle.std.proofs.Common.{◌≡◌, ◌≤◌, ◌<◌, ℕ, List, [], ◌∷◌, ◌++◌, refl, sym, subst, arith, inl, inr}
use Rattle.value_core.specs.declared.message.Message.{Message}
use Rattle.object_manager.specs.After.{Copied}
use Rattle.book_law.specs.Events.{In}
use Rattle.group_join.specs.declared.packet.JoinPacket.{JoinPacket}
use Rattle.group_join.specs.declared.packet.JoinPacket.TheVariants.{Seek}
use Rattle.group_join.specs.Following.{AreAfter, TellsList}
use Rattle.group_join.specs.Laws.{Applied}
use Rattle.group_join.proofs.Telling.{after_on, answers_tell, followers, opens_after, tells_on}
use Rattle.world_rules.specs.declared.event.Step.{Step}
use Rattle.world_rules.specs.Frame.{Frame}
use Rattle.world_rules.specs.Steps.{Leads, Next, Replays}
use Rattle.world_rules.specs.Worlds.{World, agreed, opening_world}
use Rattle.join_law.specs.Followed.{Followed, Joining, Move, Moves, opening_joining, receives, sends}
use Rattle.join_law.specs.Followed.Move.{Happens, Seeks, Responds, Comes}

-- what runs give: each member applied a beginning of the list, and the list grows at its end alone
pub record Knows (f : Frame) : Type 0 where
  pub members :
      (steps : List Step) (w : World) → Replays f steps w → (m : ℕ) → m < f.settings.nodes →
      Applied f.performs (agreed f w) (w.nodes m).member (w.nodes m).copies
  pub grows :
      (steps : List Step) (w v : World) (step : Step) → Replays f steps w → Next f w step v →
      (more : List Message) × (agreed f v ≡ agreed f w ++ more)

-- one more step
pub leads_on : (f : Frame) (w u v : World) (steps : List Step) (step : Step) → Leads f w steps u → Next f u step v → Leads f w (steps ++ step ∷ []) v
leads_on f w u v [] step leads next = (v, subst (λ (x : World). Next f x step v) leads next, refl)
leads_on f w u v (s ∷ steps) step leads next = (leads.0, leads.1, leads_on f leads.0 u v steps step leads.2 next)

-- the list, in a world that a step leads to
pub after_step : (f : Frame) (w v : World) (more : List Message) (c : Copied) → agreed f v ≡ agreed f w ++ more → AreAfter f.performs (agreed f w) c → AreAfter f.performs (agreed f v) c
after_step f w v more c grew are = subst (λ (list : List Message). AreAfter f.performs list c) (sym grew) (after_on f.performs (agreed f w) more c are)

pub tells_step : (f : Frame) (w v : World) (more : List Message) (packet : JoinPacket) → agreed f v ≡ agreed f w ++ more → TellsList f.performs (agreed f w) packet → TellsList f.performs (agreed f v) packet
tells_step f w v more packet grew tells = subst (λ (list : List Message). TellsList f.performs list packet) (sym grew) (tells_on f.performs (agreed f w) more packet tells)

-- ---- moves

pub record Told (f : Frame) (u : Joining) : Type 0 where
  pub steps : List Step
  pub replays : Replays f steps u.world
  pub after : AreAfter f.performs (agreed f u.world) u.copies
  pub tells : (packet : JoinPacket) → In packet u.sent → TellsList f.performs (agreed f u.world) packet

pub opening_told : (f : Frame) → Told f (opening_joining f)
opening_told f = record {
  steps = [];
  replays = refl;
  after = opens_after f.performs (agreed f (opening_world f));
  tells = λ packet none. absurd none;
}

-- so it stays, and the applied number doesn't fall
pub record Stays (f : Frame) (u v : Joining) : Type 0 where
  pub told : Told f v
  pub rises : u.copies.applied ≤ v.copies.applied

one_more : (f : Frame) (w : World) (packet other : JoinPacket) (sent : List JoinPacket) → TellsList f.performs (agreed f w) packet →
    ((p : JoinPacket) → In p sent → TellsList f.performs (agreed f w) p) → In other (packet ∷ sent) → TellsList f.performs (agreed f w) other
one_more f w packet other sent tells all (inl is) = subst (TellsList f.performs (agreed f w)) (sym is) tells
one_more f w packet other sent tells all (inr among) = all other among

sent_stays : (f : Frame) (u : Joining) (packet : JoinPacket) → TellsList f.performs (agreed f u.world) packet → Told f u → Stays f u (sends packet u)
sent_stays f u packet tells told = record {
  told = record {
    steps = told.steps;
    replays = told.replays;
    after = told.after;
    tells = λ other among. one_more f u.world packet other u.sent tells told.tells among;
  };
  rises = omega arith;
}

happened : (f : Frame) → Knows f → (u : Joining) (step : Step) (w : World) → Next f u.world step w → Told f u → Stays f u (record { world = w; copies = u.copies; sent = u.sent })
happened f knows u step w next told =
    let grew = knows.grows told.steps u.world w step told.replays next in
    record {
      told = record {
        steps = told.steps ++ step ∷ [];
        replays = leads_on f (opening_world f) u.world w told.steps step told.replays next;
        after = after_step f u.world w grew.0 u.copies grew.1 told.after;
        tells = λ packet among. tells_step f u.world w grew.0 packet grew.1 (told.tells packet among);
      };
      rises = omega arith;
    }

received : (f : Frame) (u : Joining) (packet : JoinPacket) → In packet u.sent → Told f u → Stays f u (receives f packet u)
received f u packet among told =
    let on = followers f.performs (agreed f u.world) u.copies packet told.after (told.tells packet among) in
    record {
      told = record { steps = told.steps; replays = told.replays; after = on.after; tells = told.tells };
      rises = on.rises;
    }

move_stays : (f : Frame) → Knows f → (u : Joining) (move : Move) (v : Joining) → Moves f u move v → Told f u → Stays f u v
move_stays f knows u (Happens step) v moves told = subst (Stays f u) (sym moves.2) (happened f knows u step moves.0 moves.1 told)
move_stays f knows u (Seeks applied) v moves told = subst (Stays f u) (sym moves) (sent_stays f u (Seek applied) tt told)
move_stays f knows u (Responds m applied packet) v moves told =
    let applied_so = knows.members told.steps u.world told.replays m moves.0 in
    let tells = answers_tell f.performs (agreed f u.world) (u.world.nodes m).member (u.world.nodes m).copies applied packet applied_so moves.2 in
    subst (Stays f u) (sym moves.3) (sent_stays f u packet tells told)
move_stays f knows u (Comes packet) v moves told = subst (Stays f u) (sym moves.1) (received f u packet moves.0 told)

pub all_stay : (f : Frame) → Knows f → (u : Joining) (moves : List Move) (v : Joining) → Followed f u moves v → Told f u → Stays f u v
all_stay f knows u [] v followed told = subst (Stays f u) (sym followed) (record { told = told; rises = omega arith })
all_stay f knows u (move ∷ moves) v followed told =
    let one = move_stays f knows u move followed.0 followed.1 told in
    let more = all_stay f knows followed.0 moves v followed.2 one.told in
    record { told = more.told; rises = omega (arith, one.rises, more.rises) }
