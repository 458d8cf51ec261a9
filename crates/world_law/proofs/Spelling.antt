-- What travels is sound, where messages and replies are.
use Rattle.std.proofs.Common.{◌≡◌, ◌≤◌, ◌<◌, ◌*◌, ℕ, List, [], ◌∷◌, Some, refl, sym, ap, ◌∙◌, subst, inl, inr}
use Rattle.std.specs.List.{AllByRecursion as Each}
use Rattle.orca_base.specs.declared.limits.TheConstants.{NODES}
use Rattle.value_core.specs.Sound.{IsSoundMessage, IsSoundReply}
use Rattle.value_core.specs.declared.action.Action.{Action}
use Rattle.value_core.specs.declared.action.Reply.{Reply}
use Rattle.value_core.specs.declared.message.Message.{Message}
use Rattle.group_law.proofs.Travelling.{sound_weaker}
use Rattle.group_law.specs.SoundPackets.{IsReply, IsSubmitted, SoundLaw}
use Rattle.group_packets.specs.Sound.{IsSoundPacket}
use Rattle.group_rules.specs.Member.{Letter, Packet}
use Rattle.group_rules.specs.OnWire.{on_wire}
use Rattle.group_rules.specs.Sets.{In}
use Rattle.group_rules.specs.World.{GroupWorld, Past, Sent}
use Rattle.net_rules.specs.declared.fate.Fate.{Fate}
use Rattle.net_rules.specs.declared.flight.Flight.{Flight}
use Rattle.world_rules.specs.declared.event.Event as world
use Rattle.world_rules.specs.declared.event.Step.{Step}
use Rattle.world_rules.specs.Frame.{Frame, group}
use Rattle.world_rules.specs.Mail.{Carried, Mail}
use Rattle.world_rules.specs.Mail.Errand.{Ask, Answer}
use Rattle.world_rules.specs.Nodes.{Node}
use Rattle.world_rules.specs.Played.{Played, Stage}
use Rattle.world_rules.specs.Played.Stage.{Computing, Acting, Submitted, Reading, Asking, Over}
use Rattle.world_rules.specs.Steps.{AtWork, Known, Next, Possible, closes, happens, posts, posts_all, untouched}
use Rattle.world_rules.specs.Worlds.{World, group_world}
use Rattle.world_law.specs.Answers.{AnswersTrue, MailIsTrue}
use Rattle.world_law.specs.Grouped.{Come, Grouped}
use Rattle.world_law.specs.Grouped.{Submits as MayAll}
use Rattle.world_law.specs.Packets.{AreNumbered, IsSent, PlacesWithin}
use Rattle.world_law.specs.SoundPackets.{FlySound, IsOut, IsSoundMail, LettersSound, NextSound, SaidSound}
use Rattle.world_law.proofs.Answering.{MailsTrue}
use Rattle.world_law.proofs.Counting.{group_posts}
use Rattle.world_law.proofs.Events.{Going, going_happens}
use Rattle.world_law.proofs.Flying.{each_first, each_posted, each_ticked}
use Rattle.world_law.proofs.Grouping.{Laws}
use Rattle.world_law.proofs.Numbering.{Left_so, Placed_so, Sent_by, left_happens}
use Rattle.world_law.proofs.Sending.{out_of}
use Rattle.world_law.proofs.Travels.{AllCome}
use Rattle.world_law.proofs.TrueAnswers.{happens_true}
use Rattle.world_law.proofs.Walking.{Walks, walk_event}

-- ---- one letter

-- a letter of the group
sound_letter : (law : SoundLaw Message Reply) (laws : Laws) (f : Frame) → 2 * (group f).resilience < (group f).nodes → (group f).nodes ≤ NODES →
    (w : World) → Grouped f w → SaidSound w → (letter : Letter Message) → Come w.past.letters (Mail.Grouped letter) → IsSoundMail f (Mail.Grouped letter)
sound_letter law laws f small few w grouped said letter come =
    let sent : Sent w.past.letters letter.packet = laws.packets w.past.letters letter come.sent in
    let Is : GroupWorld Message → Type 0 = λ z. (q : Packet Message) → Sent z.past.letters q →
    IsSoundPacket {R = Reply} (IsSubmitted (group f) z) IsReply (on_wire (group f).nodes q.inc q.kind) in
    let sound : Is (group_world w) = subst Is (sym grouped.run) (law (group f) small few grouped.events) in
    sound_weaker (IsSubmitted (group f) (group_world w)) IsSoundMessage IsReply IsSoundReply
    (λ x submitted. said.submitted x.process.0 x submitted) (λ reply none. absurd none)
    (on_wire (group f).nodes letter.packet.inc letter.packet.kind) (sound letter.packet sent)

sound_mail : (law : SoundLaw Message Reply) (laws : Laws) (f : Frame) → 2 * (group f).resilience < (group f).nodes → (group f).nodes ≤ NODES →
    (w : World) → Grouped f w → SaidSound w → (nodes : ℕ → Node) (mail : Mail) → Come w.past.letters mail → MailIsTrue w.aside mail →
    Sent_by IsSoundMessage f nodes mail → IsSoundMail f mail
sound_mail law laws f small few w grouped said nodes (Mail.Grouped letter) come true_so sent =
    sound_letter law laws f small few w grouped said letter come
sound_mail law laws f small few w grouped said nodes (Mail.Sends incarnation from to (Ask place x)) come true_so sent = sent.1
sound_mail law laws f small few w grouped said nodes (Mail.Sends incarnation from to (Answer place i n reply)) come true_so sent =
    subst IsSoundReply true_so.reply (said.performed true_so.performed true_so.among)

sound_mails : (law : SoundLaw Message Reply) (laws : Laws) (f : Frame) → 2 * (group f).resilience < (group f).nodes → (group f).nodes ≤ NODES →
    (w : World) → Grouped f w → SaidSound w → (nodes : ℕ → Node) (mails : List Mail) → AllCome w.past.letters mails → MailsTrue w.aside mails →
    Each (Sent_by IsSoundMessage f nodes) mails → Each (IsSoundMail f) mails
sound_mails law laws f small few w grouped said nodes [] come true_so sent = tt
sound_mails law laws f small few w grouped said nodes (mail ∷ mails) come true_so sent = (
  sound_mail law laws f small few w grouped said nodes mail come.0 true_so.0 sent.0,
  sound_mails law laws f small few w grouped said nodes mails come.1 true_so.1 sent.1,
)

-- ---- where it begins

-- what the process has out
is_out : (r : Played) (act : Action) → out_of r.stage ≡ Some act → IsOut r act
is_out r act out = by r.stage refl out
  where
    by : (stage : Stage) → r.stage ≡ stage → out_of stage ≡ Some act → IsOut r act
    by (Acting other) is e = let same : other ≡ act = cc e in inl (is ∙ ap Acting same)
    by (Asking other) is e = let same : other ≡ act = cc e in inr (is ∙ ap Asking same)
    by Computing is e = cc e
    by (Submitted other) is e = cc e
    by (Reading other) is e = cc e
    by (Over other) is e = cc e

sent_sound : (f : Frame) (nodes : ℕ → Node) (mail : Mail) → IsSent f nodes mail → IsSoundMail f mail → Sent_by IsSoundMessage f nodes mail
sent_sound f nodes (Mail.Grouped letter) h k = tt
sent_sound f nodes (Mail.Sends incarnation from to (Ask place x)) h k = (h, k)
sent_sound f nodes (Mail.Sends incarnation from to (Answer place i n reply)) h k = (h, tt)

flights_sound : (f : Frame) (nodes : ℕ → Node) (flights : List (Flight Carried)) → Each (λ (flight : Flight Carried). IsSent f nodes flight.packet.mail) flights →
    Each (λ (flight : Flight Carried). IsSoundMail f flight.packet.mail) flights →
    Each (λ (flight : Flight Carried). Sent_by IsSoundMessage f nodes flight.packet.mail) flights
flights_sound f nodes [] h k = tt
flights_sound f nodes (flight ∷ flights) h k = (sent_sound f nodes flight.packet.mail h.0 k.0, flights_sound f nodes flights h.1 k.1)

begins_sound : (f : Frame) (w : World) → PlacesWithin w → AreNumbered f w → NextSound w → FlySound f w → Placed_so IsSoundMessage f (untouched w)
begins_sound f w places numbered next flies = record {
  here = λ m i r found. record {
    place = places.processes m i r found;
    holds = λ act out x process call same. next m i r act found (is_out r act out) x process call same;
  };
  given = places.given;
  flights = flights_sound f w.nodes w.flights numbered.mails flies;
  mails = tt;
}

-- ---- an event

letters_sound : (law : SoundLaw Message Reply) (laws : Laws) (f : Frame) → 2 * (group f).resilience < (group f).nodes → (group f).nodes ≤ NODES →
    (w : World) (event : world.Event) (given : Known event) → Possible f w event given → MayAll f w event → Grouped f w → PlacesWithin w →
    AreNumbered f w → AnswersTrue w → NextSound w → SaidSound (happens f w event given).world → FlySound f w →
    Each (IsSoundMail f) (happens f w event given).mails
letters_sound law laws f small few w event given may submit grouped places numbered answers next said flies =
    let u : AtWork = happens f w event given in
    let going : Going f grouped.events u = going_happens laws f w event given small may submit grouped in
    let left : Left_so IsSoundMessage f u =
    left_happens IsSoundMessage laws f small w event given grouped may submit (begins_sound f w places numbered next flies) in
    sound_mails law laws f small few u.world going.grouped said u.world.nodes u.mails going.mails (happens_true f w event given answers).mails left.mails

-- what was in flight is so still
flying_walks : (f : Frame) (R : Mail → Type 0) → Walks f (λ s c u. Each (λ (flight : Flight Carried). R flight.packet.mail) u.world.flights)
    (λ s c u. Each (λ (flight : Flight Carried). R flight.packet.mail) u.world.flights)
flying_walks f R = record {
  weaken = λ s t c d u more rest h. h;
  ends = λ s c u h. h;
  burst = λ w i place turns burst s c grouped is h. h;
  taken = λ w number copy s c h. each_first (λ (flight : Flight Carried). R flight.packet.mail) _ w.flights h;
  waited = λ w s c h. each_ticked (λ (flight : Flight Carried). R flight.packet.mail) (λ flight k. k) w.flights h;
  crashed = λ w m s c h. h;
  swapped = λ w s c h. h;
  part = λ start u m s c grouped on may h. h;
}

-- posting leaves what was performed
posts_aside : (f : Frame) (mails : List Mail) (fates : List Fate) (w : World) → (posts_all f w mails fates).aside ≡ w.aside
posts_aside f [] fates w = refl
posts_aside f (mail ∷ mails) [] w = refl
posts_aside f (mail ∷ mails) (one ∷ fates) w = posts_aside f mails fates (posts f w mail one)

step_sound : (law : SoundLaw Message Reply) (laws : Laws) (f : Frame) → 2 * (group f).resilience < (group f).nodes → (group f).nodes ≤ NODES →
    (w v : World) (step : Step) → Next f w step v → MayAll f w step.event → Grouped f w → PlacesWithin w → AreNumbered f w → AnswersTrue w →
    NextSound w → SaidSound v → FlySound f w → FlySound f v
step_sound law laws f small few w v step next submit grouped places numbered answers out said flies =
    let u : AtWork = happens f w step.event next.given in
    let c : World = closes f w step u in
    let past : c.past ≡ u.world.past = ap (λ (z : GroupWorld Message). z.past) (group_posts f u.mails step.fates u.world) in
    let aside : c.aside ≡ u.world.aside = posts_aside f u.mails step.fates u.world in
    let here : SaidSound c = subst SaidSound next.after said in
    let there : SaidSound u.world = record {
      submitted = λ i x. subst (λ (p : Past Message). In x (p.submitted i) → IsSoundMessage x) past (here.submitted i x);
      performed = λ one. subst (λ xs. In one xs → IsSoundReply one.line.reply) aside (here.performed one);
    } in
    let letters : Each (IsSoundMail f) u.mails =
    letters_sound law laws f small few w step.event next.given next.possible submit grouped places numbered answers out there flies in
    let old : Each (λ (flight : Flight Carried). IsSoundMail f flight.packet.mail) u.world.flights =
    walk_event laws f (λ s k z. Each (λ (flight : Flight Carried). IsSoundMail f flight.packet.mail) z.world.flights)
    (λ s k z. Each (λ (flight : Flight Carried). IsSoundMail f flight.packet.mail) z.world.flights) small (flying_walks f (IsSoundMail f))
    w step.event next.given 0 0 grouped next.possible submit flies in
    subst (FlySound f) (sym next.after) (each_posted f (IsSoundMail f) u.mails step.fates u.world letters old)

pub all_sound : (law : SoundLaw Message Reply) (laws : Laws) (f : Frame) → 2 * (group f).resilience < (group f).nodes → (group f).nodes ≤ NODES → LettersSound f
all_sound law laws f small few = record { letters = letters_sound law laws f small few; step = step_sound law laws f small few }
