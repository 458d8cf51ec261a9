-- So it is in every run.
use Rattle.std.proofs.Common.{◌≡◌, ℕ, zero, suc, Bool, true, false, cond, List, [], ◌∷◌, ◌++◌, Option, Some, None, append-nil, refl, sym, subst, inl, inr, nat_lt}
use Rattle.std.proofs.lemmas.Bool.{cond_both}
use Rattle.std.specs.List.{find}
use Rattle.book_law.specs.declared.placing.Placed.{Placed}
use Rattle.group_rules.specs.Sets.{In}
use Rattle.net_rules.specs.Flights.{copies, joined, ready_copy, ticked, without}
use Rattle.net_rules.specs.Script.{without_first}
use Rattle.net_rules.specs.declared.fate.Fate.{Fate}
use Rattle.net_rules.specs.declared.fate.Fate.TheVariants as fate
use Rattle.net_rules.specs.declared.flight.Flight.{Flight}
use Rattle.world_rules.specs.declared.event.Event as world
use Rattle.world_rules.specs.declared.event.Event.TheVariants as event
use Rattle.world_rules.specs.declared.event.Step.{Step}
use Rattle.world_rules.specs.Frame.{Frame}
use Rattle.world_rules.specs.Mail.{Carried, Mail, carried, cut_to, is_whole, receiver_of}
use Rattle.world_rules.specs.Nodes.{Node, NodeWork, aside_of, idle, mails_of}
use Rattle.world_rules.specs.Parts.{acts, computes, receives, suspects, ticks}
use Rattle.world_rules.specs.Steps.{AtWork, Known, Leads, Next, after_part, closes, comes, comes_whole, happens, lives_in, posts, posts_all, ticks_below, untouched}
use Rattle.world_rules.specs.Worlds.{World, home_of, opening_world}
use Rattle.world_law.specs.Answers.{AnswersTrue, AreTrue, FliesTrue, GivenTrue, MailIsTrue}
use Rattle.world_law.proofs.Answering.{MailsTrue, Tells, TellsOf, are_more, given_more, mail_more, mails_append, mails_more, none_left, tells_act, tells_computes, tells_receives, tells_suspects, tells_ticks}
use Rattle.world_law.proofs.Maps.{at_both}

abbrev Within : List Placed → List Placed → Type 0
Within xs ys = (r : Placed) → In r xs → In r ys

flies_more : (xs ys : List Placed) → Within xs ys → (flights : List (Flight Carried)) → FliesTrue xs flights → FliesTrue ys flights
flies_more xs ys more [] h = tt
flies_more xs ys more (flight ∷ flights) h = (mail_more xs ys more flight.packet.mail h.0, flies_more xs ys more flights h.1)

-- ---- flights

flies_first : (aside : List Placed) (test : Flight Carried → Bool) (flights : List (Flight Carried)) → FliesTrue aside flights →
    FliesTrue aside (without_first test flights)
flies_first aside test [] h = tt
flies_first aside test (flight ∷ flights) h = cond_both (test flight) flights (flight ∷ without_first test flights) (FliesTrue aside)
    (λ e. h.1) (λ e. (h.0, flies_first aside test flights h.1))

pub flies_without : (aside : List Placed) (number copy : ℕ) (flights : List (Flight Carried)) → FliesTrue aside flights →
    FliesTrue aside (without number copy flights)
flies_without aside number copy flights h = flies_first aside _ flights h

flies_by : (aside : List Placed) (b : Bool) (one flight : Flight Carried) (rest : Option (Flight Carried)) →
    cond b (Some one) rest ≡ Some flight → MailIsTrue aside one.packet.mail → (rest ≡ Some flight → MailIsTrue aside flight.packet.mail) →
    MailIsTrue aside flight.packet.mail
flies_by aside true one flight rest e h later =
    let same : one ≡ flight = cc in
    subst (λ (z : Flight Carried). MailIsTrue aside z.packet.mail) same h
flies_by aside false one flight rest e h later = later e

pub flies_found : (aside : List Placed) (test : Flight Carried → Bool) (flights : List (Flight Carried)) (flight : Flight Carried) →
    find test flights ≡ Some flight → FliesTrue aside flights → MailIsTrue aside flight.packet.mail
flies_found aside test [] flight e h = cc e
flies_found aside test (one ∷ flights) flight e h = flies_by aside (test one) one flight (find test flights) e h.0
    (λ later. flies_found aside test flights flight later h.1)

pub flies_ticked : (aside : List Placed) (flights : List (Flight Carried)) → FliesTrue aside flights → FliesTrue aside (ticked flights)
flies_ticked aside [] h = tt
flies_ticked aside (flight ∷ flights) h = (h.0, flies_ticked aside flights h.1)

flies_append : (aside : List Placed) (one two : List (Flight Carried)) → FliesTrue aside one → FliesTrue aside two → FliesTrue aside (one ++ two)
flies_append aside [] two h k = k
flies_append aside (flight ∷ one) two h k = (h.0, flies_append aside one two h.1 k)

flies_joined : (aside : List Placed) (number : ℕ) (new flights : List (Flight Carried)) → FliesTrue aside new → FliesTrue aside flights →
    FliesTrue aside (joined number new flights)
flies_joined aside number new [] h k = h
flies_joined aside number new (flight ∷ flights) h k = cond_both (nat_lt flight.number number) (flight ∷ joined number new flights) (new ++ flight ∷ flights)
    (FliesTrue aside) (λ e. (k.0, flies_joined aside number new flights h k.1)) (λ e. flies_append aside new (flight ∷ flights) h k)

flies_copies : (aside : List Placed) (number from to : ℕ) (mail : Mail) (one : Fate) → MailIsTrue aside mail →
    FliesTrue aside (copies cut_to number from to (carried mail) one)
flies_copies aside number from to mail fate.Pass h = (h, tt)
flies_copies aside number from to mail fate.Drop h = tt
flies_copies aside number from to mail fate.Twice h = (h, (h, tt))
flies_copies aside number from to mail (fate.Hold ticks) h = (h, tt)
flies_copies aside number from to mail (fate.Cut length) h = (h, tt)

-- ---- what is posted

-- the members and the performed operations stay, and what flies is true
pub record PostedTrue (aside : List Placed) (w v : World) : Type 0 where
  pub nodes : v.nodes ≡ w.nodes
  pub aside_stays : v.aside ≡ w.aside
  pub flies : FliesTrue aside v.flights

pub posted_true : (f : Frame) (aside : List Placed) (mails : List Mail) (fates : List Fate) (w : World) → MailsTrue aside mails →
    FliesTrue aside w.flights → PostedTrue aside w (posts_all f w mails fates)
posted_true f aside [] fates w h k = record { nodes = refl; aside_stays = refl; flies = k }
posted_true f aside (mail ∷ mails) [] w h k = record { nodes = refl; aside_stays = refl; flies = k }
posted_true f aside (mail ∷ mails) (one ∷ fates) w h k =
    let rest = posted_true f aside mails fates (posts f w mail one) h.1
    (flies_joined aside (suc w.sent) _ w.flights (flies_copies aside _ _ _ mail one h.0) k) in
    record { nodes = rest.nodes; aside_stays = rest.aside_stays; flies = rest.flies }

-- ---- a member's part

pub record Going (u : AtWork) : Type 0 where
  pub answers : AnswersTrue u.world
  pub mails : MailsTrue u.world.aside u.mails

start : (w : World) (m : ℕ) → AnswersTrue w → Tells (none_left w.aside) (idle (w.nodes m))
start w m h = subst (λ xs. TellsOf xs [] (w.nodes m).held (w.nodes m).given []) (sym (append-nil w.aside))
    (record { rest_true = tt; held_true = h.held m; given_true = h.given m; mails_true = tt })

in_more : (xs ys : List Placed) → Within xs (xs ++ ys)
in_more [] ys r h = absurd h
in_more (x ∷ xs) ys r (inl e) = inl e
in_more (x ∷ xs) ys r (inr h) = inr (in_more xs ys r h)

part : (f : Frame) (m : ℕ) (v : NodeWork) (u : AtWork) → Going u → Tells (none_left u.world.aside) v → Going (after_part f m v u)
part f m v u h t =
    let xs : List Placed = u.world.aside in
    let ys : List Placed = u.world.aside ++ aside_of v.deeds in
    let more : Within xs ys = in_more xs (aside_of v.deeds) in
    record {
      answers = record {
        flights = flies_more xs ys more u.world.flights h.answers.flights;
        held = λ x. at_both u.world.nodes m v.node x (λ (n : Node). AreTrue ys n.held) (λ e. t.held_true)
            (λ no. are_more xs ys more (u.world.nodes x).held (h.answers.held x));
        given = λ x. at_both u.world.nodes m v.node x (λ (n : Node). GivenTrue ys n.given) (λ e. t.given_true)
            (λ no. given_more xs ys more (u.world.nodes x).given (h.answers.given x));
      };
      mails = mails_append ys u.mails (mails_of v.deeds) (mails_more xs ys more u.mails h.mails) t.mails_true;
    }

going : (w : World) → AnswersTrue w → Going (untouched w)
going w h = record { answers = h; mails = tt }

-- ---- events

comes_true : (f : Frame) (w : World) (mail : Mail) → MailIsTrue w.aside mail → AnswersTrue w → Going (comes f w mail)
comes_true f w mail is h = cond_both (lives_in f w (receiver_of mail)) _ _ Going
    (λ e. part f (receiver_of mail) (receives f (receiver_of mail) mail (w.nodes (receiver_of mail))) (untouched w) (going w h)
    (tells_receives w.aside f (receiver_of mail) mail (w.nodes (receiver_of mail))
    (subst (λ xs. MailIsTrue xs mail) (sym (append-nil w.aside)) is) (start w (receiver_of mail) h)))
    (λ e. going w h)

whole_true : (f : Frame) (w : World) (o : Option (Flight Carried)) →
    ((flight : Flight Carried) → o ≡ Some flight → MailIsTrue w.aside flight.packet.mail) → AnswersTrue w → Going (comes_whole f w o)
whole_true f w None is h = going w h
whole_true f w (Some flight) is h = cond_both (is_whole f.settings.nodes flight.packet) _ _ Going
    (λ e. comes_true f w flight.packet.mail (is flight refl) h) (λ e. going w h)

below_true : (f : Frame) (n : ℕ) (u : AtWork) → Going u → Going (ticks_below f n u)
below_true f zero u h = h
below_true f (suc m) u h =
    let k = below_true f m u h in
    let v : AtWork = ticks_below f m u in
    cond_both (v.world.lives m) _ _ Going
    (λ e. part f m (ticks f m (v.world.nodes m)) v k (tells_ticks v.world.aside f m (v.world.nodes m) (start v.world m k.answers))) (λ e. k)

pub happens_true : (f : Frame) (w : World) (event : world.Event) (given : Known event) → AnswersTrue w → Going (happens f w event given)
happens_true f w (event.Burst process place turns) burst h =
    let m : ℕ = home_of f w process.0 in
    part f m (computes process.0 place burst.reads burst.end (w.nodes m)) (untouched w) (going w h)
    (tells_computes w.aside process.0 place burst.reads burst.end (w.nodes m) (start w m h))
happens_true f w (event.Act process) given h =
    let m : ℕ = home_of f w process.0 in
    part f m (acts f m process.0 (w.nodes m)) (untouched w) (going w h) (tells_act w.aside f m process.0 (w.nodes m) (start w m h))
happens_true f w (event.Deliver packet copy) given h =
    whole_true f (record w { flights = without packet copy w.flights }) (ready_copy packet copy w.flights)
    (λ flight e. flies_found w.aside _ w.flights flight e h.flights)
    (record { flights = flies_without w.aside packet copy w.flights h.flights; held = h.held; given = h.given })
happens_true f w event.Tick given h =
    below_true f f.settings.nodes (untouched (record w { flights = ticked w.flights }))
    (going (record w { flights = ticked w.flights }) (record { flights = flies_ticked w.aside w.flights h.flights; held = h.held; given = h.given }))
happens_true f w (event.Crash node) given h = record { answers = record { flights = h.flights; held = h.held; given = h.given }; mails = tt }
happens_true f w (event.Suspect node) given h =
    part f node (suspects f node (w.nodes node)) (untouched w) (going w h) (tells_suspects w.aside f node (w.nodes node) (start w node h))
happens_true f w event.Swap given h = record { answers = record { flights = h.flights; held = h.held; given = h.given }; mails = tt }

closes_true : (f : Frame) (w : World) (step : Step) (u : AtWork) → Going u → AnswersTrue (closes f w step u)
closes_true f w step u h =
    let p = posted_true f u.world.aside u.mails step.fates u.world h.mails h.answers.flights in
    let v : World = posts_all f u.world u.mails step.fates in
    record {
      flights = subst (λ xs. FliesTrue xs v.flights) (sym p.aside_stays) p.flies;
      held = λ m. subst (λ xs. AreTrue xs (v.nodes m).held) (sym p.aside_stays)
          (subst (λ nodes. AreTrue u.world.aside (nodes m).held) (sym p.nodes) (h.answers.held m));
      given = λ m. subst (λ xs. GivenTrue xs (v.nodes m).given) (sym p.aside_stays)
          (subst (λ nodes. GivenTrue u.world.aside (nodes m).given) (sym p.nodes) (h.answers.given m));
    }

pub step_true : (f : Frame) (w v : World) (step : Step) → Next f w step v → AnswersTrue w → AnswersTrue v
step_true f w v step next h = subst AnswersTrue (sym next.after)
    (closes_true f w step (happens f w step.event next.given) (happens_true f w step.event next.given h))

leads_true : (f : Frame) (w : World) (steps : List Step) (v : World) → Leads f w steps v → AnswersTrue w → AnswersTrue v
leads_true f w [] v leads h = subst AnswersTrue (sym leads) h
leads_true f w (step ∷ steps) v leads h = leads_true f leads.0 steps v leads.2 (step_true f w leads.0 step leads.1 h)

pub all_answers : (f : Frame) (steps : List Step) (w : World) → Leads f (opening_world f) steps w → AnswersTrue w
all_answers f steps w leads = leads_true f (opening_world f) steps w leads
    (record { flights = tt; held = λ m. tt; given = λ m i one e. cc e })
