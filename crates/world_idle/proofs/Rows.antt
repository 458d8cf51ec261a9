-- One member's part of an event, where it did one row in the group: the group's net goes on by it.
use Rattle.std.proofs.Common.{◌≡◌, ◌*◌, ◌<◌, ◌&&◌, ◌==◌, not, ℕ, true, List, [], ◌∷◌, ◌++◌, map, append_assoc, append-nil, Option, refl, sym, ap, ◌∙◌, subst}
use Rattle.std.proofs.lemmas.Bool.{ne_eqb}
use Rattle.value_core.specs.declared.message.Message.{Message}
use Rattle.group_rules.specs.Member.{Letter, Member}
use Rattle.group_rules.specs.Messages.{Group}
use Rattle.group_rules.specs.Sets.{with_at}
use Rattle.group_rules.specs.Steps.{deliver, submit, timer}
use Rattle.group_rules.specs.Work.{Act, Work, letters_of}
use Rattle.group_rules.specs.World.{Event, GroupWorld, Past, acts_on, after, arrive, gnext, may_submit, put, remembers, submitted_past}
use Rattle.group_rules.proofs.Travelling.{numbered_law}
use Rattle.group_law.specs.Agreed.{StepsLaw}
use Rattle.group_idle.specs.Net.{Net, part}
use Rattle.world_rules.specs.Frame.{Frame, group}
use Rattle.world_rules.specs.Nodes.{Deed, Node, NodeWork, idle, joins, mails_of, past_after}
use Rattle.world_rules.specs.Nodes.Deed.{Acts}
use Rattle.world_rules.specs.Steps.{AtWork, after_part}
use Rattle.world_rules.specs.Worlds.{World, group_world}
use Rattle.world_law.specs.Grouped.{Comes, Grouped}
use Rattle.world_law.specs.Moments.{sent_letters}
use Rattle.world_idle.proofs.Letters.{of_mails}
use Rattle.world_law.proofs.AtWork.{both_true, if_true, world_of}
use Rattle.world_idle.proofs.Catching.{Same}
use Rattle.world_idle.proofs.Flying.{mails_append, sent_is}
use Rattle.world_law.proofs.Maps.{at_here, at_image, at_self}

-- the member came to the state of this work, with its acts alone: the group's past before it is q, and p where a message was submitted
pub record DoesRow (g : Group Message) (m : ℕ) (q p : Past Message) (work : Work Message) (v : NodeWork) : Type 0 where
  pub member : v.node.member ≡ work.state
  pub past : past_after g m v.deeds q ≡ after work.acts p
  pub letters : sent_letters v.deeds ≡ letters_of work.acts

acts_after : (g : Group Message) (m : ℕ) (acts : List (Act Message)) (deeds : List Deed) (p : Past Message) →
    past_after g m (map Acts acts ++ deeds) p ≡ after acts (past_after g m deeds p)
acts_after g m [] deeds p = refl
acts_after g m (act ∷ acts) deeds p = ap (remembers act) (acts_after g m acts deeds p)

acts_sent : (acts : List (Act Message)) (deeds : List Deed) → sent_letters deeds ≡ [] → sent_letters (map Acts acts ++ deeds) ≡ letters_of acts
acts_sent [] deeds e = e
acts_sent (Act.Sends letter ∷ acts) deeds e = ap (λ z. z ++ letter ∷ []) (acts_sent acts deeds e)
acts_sent (Act.Keeps packet ∷ acts) deeds e = acts_sent acts deeds e
acts_sent (Act.Orders k x ∷ acts) deeds e = acts_sent acts deeds e
acts_sent (Act.Begins k log answers ∷ acts) deeds e = acts_sent acts deeds e

pub joins_row : (g : Group Message) (m : ℕ) (q : Past Message) (work : Work Message) (v : NodeWork) → sent_letters v.deeds ≡ [] →
    DoesRow g m q (past_after g m v.deeds q) work (joins work v)
joins_row g m q work v e = record { member = refl; past = acts_after g m work.acts v.deeds q; letters = acts_sent work.acts v.deeds e }

pub row_on : {g : Group Message} {m : ℕ} {q p : Past Message} {work : Work Message} {v u : NodeWork} → DoesRow g m q p work v → Same g m v u → DoesRow g m q p work u
row_on {g} {m} {q} {p} {work} {v} {u} r s = record { member = s.member ∙ r.member; past = s.past q ∙ r.past; letters = s.letters ∙ r.letters }

-- ---- the world after it

-- what is on the way in the middle of an event
abbrev pub net_at : List (Letter Message) → AtWork → Net Message
net_at flights u = record { world = group_world u.world; flights = flights ++ of_mails u.mails }

abbrev net_made : GroupWorld Message → List (Letter Message) → Net Message
net_made z l = record { world = z; flights = l }

pub row_net : (g : Group Message) (f : Frame) (m : ℕ) (p : Past Message) (work : Work Message) (v : NodeWork) (flights : List (Letter Message)) (u : AtWork) → g ≡ group f →
    DoesRow g m u.world.past p work v → net_at flights (after_part f m v u) ≡ part (net_at flights u) m p work
row_net g f m p work v flights u is r =
    ap (λ z. net_made (group_world (after_part f m v u).world) z) letters
    ∙ ap (λ z. net_made z ((flights ++ of_mails u.mails) ++ letters_of work.acts)) world
  where
    letters : flights ++ of_mails (u.mails ++ mails_of v.deeds) ≡ (flights ++ of_mails u.mails) ++ letters_of work.acts
    letters = ap (λ z. flights ++ z) (mails_append u.mails (mails_of v.deeds) ∙ ap (λ z. of_mails u.mails ++ z) (sent_is v.deeds ∙ r.letters))
        ∙ sym (append_assoc flights (of_mails u.mails) (letters_of work.acts))

    past : past_after (group f) m v.deeds u.world.past ≡ after work.acts p
    past = ap (λ (h : Group Message). past_after h m v.deeds u.world.past) (sym is) ∙ r.past

    world : group_world (after_part f m v u).world ≡ put (group_world u.world) m p work
    world = ap (λ members. world_of members u.world.lives (past_after (group f) m v.deeds u.world.past))
        (at_image (λ (n : Node). n.member) u.world.nodes m v.node ∙ ap (λ s. with_at (λ x. (u.world.nodes x).member) m s) r.member)
        ∙ ap (λ z. world_of (with_at (λ x. (u.world.nodes x).member) m work.state) u.world.lives z) past

-- where it did nothing in the group
pub rest_net : (f : Frame) (m : ℕ) (v : NodeWork) (flights : List (Letter Message)) (u : AtWork) → Same (group f) m (idle (u.world.nodes m)) v →
    net_at flights (after_part f m v u) ≡ net_at flights u
rest_net f m v flights u s =
    ap (λ z. net_made (group_world (after_part f m v u).world) z) letters
    ∙ ap (λ z. net_made z (flights ++ of_mails u.mails)) world
  where
    letters : flights ++ of_mails (u.mails ++ mails_of v.deeds) ≡ flights ++ of_mails u.mails
    letters = ap (λ z. flights ++ z) (mails_append u.mails (mails_of v.deeds) ∙ ap (λ z. of_mails u.mails ++ z) (sent_is v.deeds ∙ s.letters) ∙ append-nil (of_mails u.mails))

    world : group_world (after_part f m v u).world ≡ group_world u.world
    world = ap (λ members. world_of members u.world.lives (past_after (group f) m v.deeds u.world.past))
        (at_image (λ (n : Node). n.member) u.world.nodes m v.node ∙ ap (λ s. with_at (λ x. (u.world.nodes x).member) m s) s.member ∙ at_self (λ x. (u.world.nodes x).member) m)
        ∙ ap (λ z. world_of (λ x. (u.world.nodes x).member) u.world.lives z) (s.past u.world.past)

-- ---- no row changes what a member applied

put_here : (w : GroupWorld Message) (m : ℕ) (p : Past Message) (work : Work Message) → (put w m p work).members m ≡ work.state
put_here w m p work = at_here w.members m work.state

applied_by : (f : Frame) (w : World) (m : ℕ) (event : Event Message) → StepsLaw Message → 2 * f.settings.resilience < f.settings.nodes → Grouped f w →
    ((n : ℕ) → event ≡ Event.Note m n → ⊥) → ((gnext (group f) (group_world w) event).members m).applied ≡ (w.nodes m).member.applied
applied_by f w m event law small grouped other =
    subst (λ (z : GroupWorld Message). ((gnext (group f) z event).members m).applied ≡ (z.members m).applied) (sym grouped.run)
    ((law (group f) small grouped.events event).applied m other)

pub submit_applied : (f : Frame) (w : World) (m : ℕ) (x : Message) → StepsLaw Message → 2 * f.settings.resilience < f.settings.nodes → Grouped f w →
    acts_on (group f) (group_world w) m ≡ true → may_submit (group f) (group_world w) m x ≡ true →
    (submit (group f) m x (w.nodes m).member).state.applied ≡ (w.nodes m).member.applied
submit_applied f w m x law small grouped acts may =
    let is = if_true (acts_on (group f) (group_world w) m && may_submit (group f) (group_world w) m x)
    (put (group_world w) m (submitted_past (group f) m x w.past) (submit (group f) m x (w.nodes m).member)) (group_world w) (both_true _ _ acts may) in
    sym (ap (λ (z : GroupWorld Message). (z.members m).applied) is ∙ ap (λ (s : Member Message). s.applied) (put_here (group_world w) m (submitted_past (group f) m x w.past) (submit (group f) m x (w.nodes m).member)))
    ∙ applied_by f w m (Event.Submit m x) law small grouped (λ n e. cc e)

pub timer_applied : (f : Frame) (w : World) (m : ℕ) → StepsLaw Message → 2 * f.settings.resilience < f.settings.nodes → Grouped f w →
    acts_on (group f) (group_world w) m ≡ true → (timer (group f) m (w.nodes m).member).state.applied ≡ (w.nodes m).member.applied
timer_applied f w m law small grouped acts =
    let is = if_true (acts_on (group f) (group_world w) m) (put (group_world w) m w.past (timer (group f) m (w.nodes m).member)) (group_world w) acts in
    sym (ap (λ (z : GroupWorld Message). (z.members m).applied) is ∙ ap (λ (s : Member Message). s.applied) (put_here (group_world w) m w.past (timer (group f) m (w.nodes m).member)))
    ∙ applied_by f w m (Event.Tick m) law small grouped (λ n e. cc e)

pub goes_there : (f : Frame) (w : World) (letter : Letter Message) → acts_on (group f) (group_world w) letter.to ≡ true → (letter.to ≡ letter.packet.from → ⊥) →
    (acts_on (group f) (group_world w) letter.to && not (letter.to == letter.packet.from)) ≡ true
goes_there f w letter acts other = both_true _ _ acts (ap not (ne_eqb letter.to letter.packet.from other))

pub deliver_applied : (f : Frame) (w : World) (letter : Letter Message) → StepsLaw Message → 2 * f.settings.resilience < f.settings.nodes → Grouped f w →
    acts_on (group f) (group_world w) letter.to ≡ true → Comes w.past.letters letter →
    (deliver (group f) letter.to letter.packet (w.nodes letter.to).member).state.applied ≡ (w.nodes letter.to).member.applied
deliver_applied f w letter law small grouped acts comes =
    let number = (numbered_law Message w.past.letters).number letter comes.sent in
    let m : ℕ = letter.to in
    let work : Work Message = deliver (group f) m letter.packet (w.nodes m).member in
    let is : gnext (group f) (group_world w) (Event.Deliver number.0) ≡ put (group_world w) m w.past work =
    ap (λ (o : Option (Letter Message)). arrive (group f) (group_world w) o) number.2
    ∙ if_true (acts_on (group f) (group_world w) m && not (m == letter.packet.from)) (put (group_world w) m w.past work) (group_world w) (goes_there f w letter acts comes.other) in
    sym (ap (λ (z : GroupWorld Message). (z.members m).applied) is ∙ ap (λ (s : Member Message). s.applied) (put_here (group_world w) m w.past work))
    ∙ applied_by f w m (Event.Deliver number.0) law small grouped (λ n e. cc e)
