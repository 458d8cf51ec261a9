-- What is sent stays sent, and what is in flight was sent.
use Rattle.std.proofs.Common.{◌≡◌, ℕ, suc, Bool, true, false, cond, List, [], ◌∷◌, ◌++◌, Option, Some, refl, inl, inr, subst, nat_lt}
use Rattle.std.proofs.lemmas.Bool.{cond_both}
use Rattle.std.specs.List.{find}
use Rattle.value_core.specs.declared.message.Message.{Message}
use Rattle.group_rules.specs.Member.{Letter}
use Rattle.group_rules.specs.Messages.{Group}
use Rattle.group_rules.specs.Sets.{In}
use Rattle.group_rules.specs.Work.{Act}
use Rattle.group_rules.specs.World.{Past}
use Rattle.net_rules.specs.Flights.{copies, joined, ticked, without}
use Rattle.net_rules.specs.Script.{without_first}
use Rattle.net_rules.specs.declared.fate.Fate.{Fate}
use Rattle.net_rules.specs.declared.fate.Fate.TheVariants as fate
use Rattle.net_rules.specs.declared.flight.Flight.{Flight}
use Rattle.world_rules.specs.Frame.{Frame}
use Rattle.world_rules.specs.Mail.{Carried, Mail, carried, cut_to}
use Rattle.world_rules.specs.Nodes.{Deed, mails_of, past_after}
use Rattle.world_rules.specs.Nodes.Deed.{Submits, Acts, Mails, Applies, Performs}
use Rattle.world_rules.specs.Steps.{posts, posts_all}
use Rattle.world_rules.specs.Worlds.{World}
use Rattle.world_law.specs.Grouped.{AllFly, Come}
use Rattle.world_law.proofs.Still.{IsErrand, Others}

-- so does each of these
abbrev pub AllCome : List (Letter Message) → List Mail → Type 0
AllCome letters [] = Unit {0}
AllCome letters (mail ∷ mails) = Come letters mail × AllCome letters mails

abbrev pub Within : List (Letter Message) → List (Letter Message) → Type 0
Within xs ys = (letter : Letter Message) → In letter xs → In letter ys

-- ---- with more letters

come_more : (xs ys : List (Letter Message)) → Within xs ys → (mail : Mail) → Come xs mail → Come ys mail
come_more xs ys more (Mail.Grouped letter) h = record { sent = more letter h.sent; other = h.other }
come_more xs ys more (Mail.Sends incarnation from to errand) h = tt

pub all_more : (xs ys : List (Letter Message)) → Within xs ys → (mails : List Mail) → AllCome xs mails → AllCome ys mails
all_more xs ys more [] h = tt
all_more xs ys more (mail ∷ mails) h = (come_more xs ys more mail h.0, all_more xs ys more mails h.1)

pub fly_more : (xs ys : List (Letter Message)) → Within xs ys → (flights : List (Flight Carried)) → AllFly xs flights → AllFly ys flights
fly_more xs ys more [] h = tt
fly_more xs ys more (flight ∷ flights) h = (come_more xs ys more flight.packet.mail h.0, fly_more xs ys more flights h.1)

pub letters_grow : (g : Group Message) (m : ℕ) (deeds : List Deed) (p : Past Message) → Within p.letters (past_after g m deeds p).letters
letters_grow g m [] p letter h = h
letters_grow g m (Submits x ∷ deeds) p letter h = letters_grow g m deeds p letter h
letters_grow g m (Acts (Act.Sends sent) ∷ deeds) p letter h = inr (letters_grow g m deeds p letter h)
letters_grow g m (Acts (Act.Keeps packet) ∷ deeds) p letter h = inr (letters_grow g m deeds p letter h)
letters_grow g m (Acts (Act.Orders k x) ∷ deeds) p letter h = letters_grow g m deeds p letter h
letters_grow g m (Acts (Act.Begins k log answers) ∷ deeds) p letter h = letters_grow g m deeds p letter h
letters_grow g m (Mails mail ∷ deeds) p letter h = letters_grow g m deeds p letter h
letters_grow g m (Applies lines ∷ deeds) p letter h = letters_grow g m deeds p letter h
letters_grow g m (Performs performed ∷ deeds) p letter h = letters_grow g m deeds p letter h

-- ---- what a node sends

pub all_append : (letters : List (Letter Message)) (one two : List Mail) → AllCome letters one → AllCome letters two → AllCome letters (one ++ two)
all_append letters [] two h k = k
all_append letters (mail ∷ one) two h k = (h.0, all_append letters one two h.1 k)

errand_comes : (letters : List (Letter Message)) (mail : Mail) → IsErrand mail → Come letters mail
errand_comes letters (Mail.Grouped letter) h = absurd h
errand_comes letters (Mail.Sends incarnation from to errand) h = tt

pub mails_come : (g : Group Message) (m : ℕ) (deeds : List Deed) (p : Past Message) → Others deeds →
    AllCome (past_after g m deeds p).letters (mails_of deeds)
mails_come g m [] p h = tt
mails_come g m (Submits x ∷ deeds) p h = mails_come g m deeds p h
mails_come g m (Acts (Act.Sends letter) ∷ deeds) p h =
    all_append (past_after g m (Acts (Act.Sends letter) ∷ deeds) p).letters (mails_of deeds) (Mail.Grouped letter ∷ [])
    (all_more (past_after g m deeds p).letters (past_after g m (Acts (Act.Sends letter) ∷ deeds) p).letters (λ sent e. inr e) (mails_of deeds)
    (mails_come g m deeds p h.1))
    (record { sent = inl refl; other = h.0 }, tt)
mails_come g m (Acts (Act.Keeps packet) ∷ deeds) p h =
    all_more (past_after g m deeds p).letters (past_after g m (Acts (Act.Keeps packet) ∷ deeds) p).letters (λ sent e. inr e) (mails_of deeds)
    (mails_come g m deeds p h)
mails_come g m (Acts (Act.Orders k x) ∷ deeds) p h = mails_come g m deeds p h
mails_come g m (Acts (Act.Begins k log answers) ∷ deeds) p h = mails_come g m deeds p h
mails_come g m (Mails mail ∷ deeds) p h =
    all_append (past_after g m deeds p).letters (mails_of deeds) (mail ∷ []) (mails_come g m deeds p h.1)
    (errand_comes (past_after g m deeds p).letters mail h.0, tt)
mails_come g m (Applies lines ∷ deeds) p h = mails_come g m deeds p h
mails_come g m (Performs performed ∷ deeds) p h = mails_come g m deeds p h

-- ---- flights

fly_first : (letters : List (Letter Message)) (test : Flight Carried → Bool) (flights : List (Flight Carried)) → AllFly letters flights →
    AllFly letters (without_first test flights)
fly_first letters test [] h = tt
fly_first letters test (flight ∷ flights) h = cond_both (test flight) flights (flight ∷ without_first test flights) (AllFly letters)
    (λ e. h.1) (λ e. (h.0, fly_first letters test flights h.1))

pub fly_without : (letters : List (Letter Message)) (number copy : ℕ) (flights : List (Flight Carried)) → AllFly letters flights →
    AllFly letters (without number copy flights)
fly_without letters number copy flights h = fly_first letters _ flights h

found_by : (letters : List (Letter Message)) (b : Bool) (one flight : Flight Carried) (rest : Option (Flight Carried)) →
    cond b (Some one) rest ≡ Some flight → Come letters one.packet.mail → (rest ≡ Some flight → Come letters flight.packet.mail) →
    Come letters flight.packet.mail
found_by letters true one flight rest e h later =
    let same : one ≡ flight = cc in
    subst (λ (z : Flight Carried). Come letters z.packet.mail) same h
found_by letters false one flight rest e h later = later e

pub fly_found : (letters : List (Letter Message)) (test : Flight Carried → Bool) (flights : List (Flight Carried)) (flight : Flight Carried) →
    find test flights ≡ Some flight → AllFly letters flights → Come letters flight.packet.mail
fly_found letters test [] flight e h = cc e
fly_found letters test (one ∷ flights) flight e h = found_by letters (test one) one flight (find test flights) e h.0
    (λ later. fly_found letters test flights flight later h.1)

pub fly_ticked : (letters : List (Letter Message)) (flights : List (Flight Carried)) → AllFly letters flights → AllFly letters (ticked flights)
fly_ticked letters [] h = tt
fly_ticked letters (flight ∷ flights) h = (h.0, fly_ticked letters flights h.1)

fly_append : (letters : List (Letter Message)) (one two : List (Flight Carried)) → AllFly letters one → AllFly letters two → AllFly letters (one ++ two)
fly_append letters [] two h k = k
fly_append letters (flight ∷ one) two h k = (h.0, fly_append letters one two h.1 k)

fly_joined : (letters : List (Letter Message)) (number : ℕ) (new flights : List (Flight Carried)) → AllFly letters new → AllFly letters flights →
    AllFly letters (joined number new flights)
fly_joined letters number new [] h k = h
fly_joined letters number new (flight ∷ flights) h k = cond_both (nat_lt flight.number number) (flight ∷ joined number new flights) (new ++ flight ∷ flights)
    (AllFly letters) (λ e. (k.0, fly_joined letters number new flights h k.1)) (λ e. fly_append letters new (flight ∷ flights) h k)

fly_copies : (letters : List (Letter Message)) (number from to : ℕ) (mail : Mail) (one : Fate) → Come letters mail →
    AllFly letters (copies cut_to number from to (carried mail) one)
fly_copies letters number from to mail fate.Pass h = (h, tt)
fly_copies letters number from to mail fate.Drop h = tt
fly_copies letters number from to mail fate.Twice h = (h, (h, tt))
fly_copies letters number from to mail (fate.Hold ticks) h = (h, tt)
fly_copies letters number from to mail (fate.Cut length) h = (h, tt)

-- ---- what is posted

-- the members, which of them live and the group's past stay, and what flies was sent
pub record Posted (letters : List (Letter Message)) (w v : World) : Type 0 where
  pub nodes : v.nodes ≡ w.nodes
  pub lives : v.lives ≡ w.lives
  pub past : v.past ≡ w.past
  pub fly : AllFly letters v.flights

pub posted_all : (f : Frame) (letters : List (Letter Message)) (mails : List Mail) (fates : List Fate) (w : World) → AllCome letters mails →
    AllFly letters w.flights → Posted letters w (posts_all f w mails fates)
posted_all f letters [] fates w h k = record { nodes = refl; lives = refl; past = refl; fly = k }
posted_all f letters (mail ∷ mails) [] w h k = record { nodes = refl; lives = refl; past = refl; fly = k }
posted_all f letters (mail ∷ mails) (one ∷ fates) w h k =
    let rest = posted_all f letters mails fates (posts f w mail one) h.1
    (fly_joined letters (suc w.sent) _ w.flights (fly_copies letters _ _ _ mail one h.0) k) in
    record { nodes = rest.nodes; lives = rest.lives; past = rest.past; fly = rest.fly }
