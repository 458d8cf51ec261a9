-- A member's part in an event: it acts, and catches up; the world follows the course, and so does each Ask and Answer.
use Rattle.std.proofs.Common.{◌≡◌, ℕ, ◌⊎◌, inl, inr, ⊎_elim, refl, sym, ap, ◌∙◌, subst, take}
use Rattle.std.proofs.lemmas.Bool.{cases_eq}
use Rattle.value_core.specs.declared.message.Message.{Message}
use Rattle.net_rules.specs.declared.flight.Flight.{Flight}
use Rattle.group_rules.specs.Member.{Member}
use Rattle.group_rules.specs.Reset.{coordinate}
use Rattle.group_rules.specs.Steps.{deliver, timer}
use Rattle.group_rules.specs.Work.{Work}
use Rattle.book_law.specs.Passes.{Test}
use Rattle.book_law.specs.Course.{Course}
use Rattle.book_law.specs.Events.{In}
use Rattle.book_law.specs.Fitness.{ArgsFit, StateFits}
use Rattle.book_law.proofs.Courses.{at_other}
use Rattle.book_law.proofs.Fits.{ReplyFits, TextFits}
use Rattle.book_law.proofs.Objects.{in_append}
use Rattle.world_rules.specs.Applying.{applies_all}
use Rattle.world_rules.specs.Frame.{Frame, group}
use Rattle.world_rules.specs.Mail.{Carried, Mail, receiver_of}
use Rattle.world_rules.specs.Nodes.{Node, NodeWork, entries_of, idle, joins, mails_of}
use Rattle.world_rules.specs.Parts.{acts, acts_of, asks_again, catches_up, receives, suspects, ticks}
use Rattle.world_rules.specs.Steps.{AtWork, does_part}
use Rattle.world_rules.specs.Worlds.{World}
use Rattle.world_course.specs.Chain.{Leads}
use Rattle.world_course.specs.Chain.Leads.{Stays}
use Rattle.world_course.specs.Corresponds.{Agrees}
use Rattle.world_course.specs.Errands.{AllStand, Follows, IsGiven, MailStands, NodeStands}
use Rattle.world_course.specs.Gives.{GivesTick, acted, came}
use Rattle.world_course.specs.Group.{AreNotes, Gives, IsAgreed, KeepsEntries}
use Rattle.world_course.specs.Works.{at_work}
use Rattle.world_course.proofs.Carrying.{Carries, CarriesOn, carries_on, joins_carries, mail_later, silent_lifts}
use Rattle.world_course.proofs.Catching.{all_lifts}
use Rattle.world_course.proofs.Doing.{acts_carry}
use Rattle.world_course.proofs.Entry.{Stills}
use Rattle.world_course.proofs.Events.{idle_on}
use Rattle.world_course.proofs.Later.{Later, leads_later}
use Rattle.world_course.proofs.Program.{Program}
use Rattle.world_course.proofs.Reaching.{again_carries, arrives_carries, reached_carries, reached_still}
use Rattle.world_course.proofs.Silent.{silent_all}
use Rattle.world_course.proofs.Tries.{node_at}

-- ---- worlds and works

-- a world with the same members, in whose flights all stand
pub stand_on : (f : Frame) (single : Test) (w v : World) (c : Course) → ((k : ℕ) → v.nodes k ≡ w.nodes k) → AllStand f single w c → ((flight : Flight Carried) → In flight v.flights → MailStands f single c flight.packet.mail) → AllStand f single v c
stand_on f single w v c same stood fly = record {
  nodes = λ k. subst (λ (n : Node). NodeStands f single c k n) (sym (same k)) (stood.nodes k);
  travels = fly;
  performed = λ r o is calls alone.
      let p = stood.performed r o is calls alone in
      record { owner = p.owner; of = p.of; told = ⊎_elim (λ own. inl own) (λ g. inr (subst (λ (n : Node). IsGiven n r.line) (sym (same p.owner)) g)) p.told };
}

-- a member begins its part
pub idle_carries : (f : Frame) (single : Test) (w : World) (c : Course) (m : ℕ) → Follows f single w c → Carries f single w c m (idle (w.nodes m))
idle_carries f single w c m h = record {
  corresponds = idle_on f single m w c h.corresponds;
  errands = let e = h.errands in stand_on f single w (at_work f m w (idle (w.nodes m))) c (λ k. same k (cases_eq k m)) e e.travels;
  mails = λ mail is. absurd is;
}
  where
    same : (k : ℕ) → (k ≡ m) ⊎ (k ≡ m → ⊥) → (at_work f m w (idle (w.nodes m))).nodes k ≡ w.nodes k
    same k (inl e) = ap (at_work f m w (idle (w.nodes m))).nodes e ∙ node_at f m w (idle (w.nodes m)) ∙ ap w.nodes (sym e)
    same k (inr apart) = at_other w.nodes m (w.nodes m) k apart

-- the world of an event so far follows the course, and what it sent stands
pub record FollowsAt (f : Frame) (single : Test) (u : AtWork) (c : Course) : Type 0 where
  pub follows : Follows f single u.world c
  pub mails : (mail : Mail) → In mail u.mails → MailStands f single c mail

abbrev pub GoesAt : Frame → Test → Course → AtWork → Type 0
GoesAt f single c u = (d : Course) × Leads single f.performs f.computes c d × FollowsAt f single u d

pub goes_stay : (f : Frame) (single : Test) (c : Course) (u : AtWork) → FollowsAt f single u c → GoesAt f single c u
goes_stay f single c u h = (c, Stays c, h)

-- a member did its part
pub part_follows : (f : Frame) (single : Test) (m : ℕ) (part : Node → NodeWork) (u : AtWork) (c : Course) → FollowsAt f single u c → CarriesOn f single u.world c m (part (u.world.nodes m)) → GoesAt f single c (does_part f m part u)
part_follows f single m part u c h (d, leads, k) = (
  d,
  leads,
  record {
    follows = record { corresponds = k.corresponds; errands = k.errands };
    mails = λ mail is. ⊎_elim (λ old. mail_later f single c d mail later (h.mails mail old)) (λ new. k.mails mail new) (in_append mail u.mails (mails_of (part (u.world.nodes m)).deeds) is);
  },
)
  where
    later : Later f c d
    later = let g = h.follows in let z = g.corresponds in let st = z.stands in leads_later f single c d st.came leads

-- ---- parts

-- a member catches up
pub up_carries : (f : Frame) (single : Test) (fits_state : StateFits) (fits_args : ArgsFit) (fits_text : TextFits) (fits_reply : ReplyFits) (w : World) (c : Course) (m : ℕ) (v : NodeWork)
    → Program f fits_state fits_args fits_text fits_reply → Carries f single w c m v → IsAgreed (at_work f m w v) → AreNotes f m w v.node.member.waiting v
    → Agrees f single (entries_of (catches_up f m v).node) → CarriesOn f single w c m (catches_up f m v)
up_carries f single fits_state fits_args fits_text fits_reply w c m v program h agreed notes agrees =
    carries_on f single w c k.0 m (catches_up f m v) k.1 (reached_carries f single fits_state fits_args fits_text fits_reply w k.0 m (applies_all f m v) program k.2)
  where
    still : Stills (group f) m (applies_all f m v) (catches_up f m v)
    still = reached_still f m (applies_all f m v)

    same : entries_of (catches_up f m v).node ≡ entries_of (applies_all f m v).node
    same = ap (λ (n : ℕ). take n (catches_up f m v).node.member.log) still.applied ∙ ap (λ (s : Member Message). take (applies_all f m v).node.copies.applied s.log) still.member

    k : CarriesOn f single w c m (applies_all f m v)
    k = silent_lifts f single w c m v (applies_all f m v) h (silent_all f m v)
        (all_lifts f single fits_state fits_args fits_text fits_reply w c m v program h.corresponds agreed notes (subst (Agrees f single) same agrees))

pub acts_part : (f : Frame) (single : Test) (fits_state : StateFits) (fits_args : ArgsFit) (fits_text : TextFits) (fits_reply : ReplyFits) (w : World) (c : Course) (m i : ℕ)
    → Program f fits_state fits_args fits_text fits_reply → Follows f single w c → Gives f m w (acted f m i w) → Agrees f single (entries_of (acts f m i (w.nodes m)).node) → CarriesOn f single w c m (acts f m i (w.nodes m))
acts_part f single fits_state fits_args fits_text fits_reply w c m i program h gives agrees =
    let v : NodeWork = acts_of f m i ((w.nodes m).played i) (idle (w.nodes m)) in
    let l = acts_carry f single fits_state fits_args fits_text fits_reply w c m i ((w.nodes m).played i) (idle (w.nodes m)) program (idle_carries f single w c m h) refl gives.entries in
    carries_on f single w c l.0 m (acts f m i (w.nodes m)) l.1
    (up_carries f single fits_state fits_args fits_text fits_reply w l.0 m v program l.2 gives.agreed gives.notes agrees)

mail_carries : (f : Frame) (single : Test) (w : World) (c : Course) (mail : Mail) → Follows f single w c → MailStands f single c mail → KeepsEntries (w.nodes (receiver_of mail)) (came f (receiver_of mail) mail w).node
    → Carries f single w c (receiver_of mail) (came f (receiver_of mail) mail w)
mail_carries f single w c (Mail.Grouped letter) h stands entries =
    joins_carries f single w c letter.to (deliver (group f) letter.to letter.packet (w.nodes letter.to).member) (idle (w.nodes letter.to)) entries (idle_carries f single w c letter.to h)
mail_carries f single w c (Mail.Sends incarnation from to errand) h stands entries = arrives_carries f single w c to errand (idle (w.nodes to)) (idle_carries f single w c to h) stands

pub receives_part : (f : Frame) (single : Test) (fits_state : StateFits) (fits_args : ArgsFit) (fits_text : TextFits) (fits_reply : ReplyFits) (w : World) (c : Course) (mail : Mail)
    → Program f fits_state fits_args fits_text fits_reply → Follows f single w c → MailStands f single c mail → Gives f (receiver_of mail) w (came f (receiver_of mail) mail w)
    → Agrees f single (entries_of (receives f (receiver_of mail) mail (w.nodes (receiver_of mail))).node) → CarriesOn f single w c (receiver_of mail) (receives f (receiver_of mail) mail (w.nodes (receiver_of mail)))
receives_part f single fits_state fits_args fits_text fits_reply w c mail program h stands gives agrees =
    up_carries f single fits_state fits_args fits_text fits_reply w c (receiver_of mail) (came f (receiver_of mail) mail w) program (mail_carries f single w c mail h stands gives.entries) gives.agreed gives.notes agrees

pub suspects_part : (f : Frame) (single : Test) (fits_state : StateFits) (fits_args : ArgsFit) (fits_text : TextFits) (fits_reply : ReplyFits) (w : World) (c : Course) (m : ℕ)
    → Program f fits_state fits_args fits_text fits_reply → Follows f single w c → Gives f m w (joins (coordinate (group f) m (w.nodes m).member) (idle (w.nodes m)))
    → Agrees f single (entries_of (suspects f m (w.nodes m)).node) → CarriesOn f single w c m (suspects f m (w.nodes m))
suspects_part f single fits_state fits_args fits_text fits_reply w c m program h gives agrees =
    let work : Work Message = coordinate (group f) m (w.nodes m).member in
    up_carries f single fits_state fits_args fits_text fits_reply w c m (joins work (idle (w.nodes m))) program
    (joins_carries f single w c m work (idle (w.nodes m)) gives.entries (idle_carries f single w c m h)) gives.agreed gives.notes agrees

pub ticks_part : (f : Frame) (single : Test) (fits_state : StateFits) (fits_args : ArgsFit) (fits_text : TextFits) (fits_reply : ReplyFits) (w : World) (c : Course) (m : ℕ)
    → Program f fits_state fits_args fits_text fits_reply → Follows f single w c → GivesTick f m w → Agrees f single (entries_of (ticks f m (w.nodes m)).node) → CarriesOn f single w c m (ticks f m (w.nodes m))
ticks_part f single fits_state fits_args fits_text fits_reply w c m program h gives agrees =
    let v : NodeWork = joins (timer (group f) m (w.nodes m).member) (idle (w.nodes m)) in
    let g = gives.group in
    up_carries f single fits_state fits_args fits_text fits_reply w c m (asks_again f m v) program
    (again_carries f single w c m v (joins_carries f single w c m (timer (group f) m (w.nodes m).member) (idle (w.nodes m)) gives.entries (idle_carries f single w c m h)))
    g.agreed g.notes agrees
