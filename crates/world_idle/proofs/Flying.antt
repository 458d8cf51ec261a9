-- Packets on their way: what is posted where each fate is Pass, what one more delivery takes out, and what a tick makes of them.
use Rattle.std.proofs.Common.{◌≡◌, ◌≤◌, ◌-◌, ◌==◌, max, ℕ, suc, Bool, true, false, cond, List, [], ◌∷◌, ◌++◌, append_assoc, append-nil, length, Option, Some, None, refl, sym, ap, ◌∙◌, arith, subst}
use Rattle.std.specs.Prelude.{slice_get, option_map}
use Rattle.std.specs.List.{find}
use Rattle.std.specs.List.{AllByRecursion as Each}
use Rattle.std.proofs.lemmas.Bool.{lt-ltb}
use Rattle.value_core.specs.declared.message.Message.{Message}
use Rattle.group_rules.specs.Member.{Letter}
use Rattle.group_rules.specs.Work.{Act}
use Rattle.group_idle.specs.Net.{without_at}
use Rattle.net_rules.specs.declared.fate.Fate.{Fate}
use Rattle.net_rules.specs.declared.flight.Flight.{Flight}
use Rattle.net_rules.specs.Flights.{first_ready, is_ready, joined, ticked}
use Rattle.net_rules.specs.Script.{without_first}
use Rattle.world_rules.specs.Frame.{Frame}
use Rattle.world_rules.specs.Mail.{Carried, Mail, carried, posted}
use Rattle.world_rules.specs.Nodes.{Deed, mails_of}
use Rattle.world_rules.specs.Nodes.Deed.{Submits, Acts, Mails, Applies, Performs}
use Rattle.world_rules.specs.Steps.{posts, posts_all}
use Rattle.world_rules.specs.Worlds.{World}
use Rattle.world_law.specs.Grouped.{AllFly, Come}
use Rattle.world_law.specs.Packets.{IsNumbered}
use Rattle.world_idle.specs.Faults.{most_held}
use Rattle.world_law.specs.Moments.{sent_letters}
use Rattle.world_idle.proofs.Letters.{AllHeld, IsHeld, flying, of_mail, of_mails, of_packet}
use Rattle.world_law.proofs.AtWork.{if_true}
use Rattle.world_facts.specs.Passing.{AllPass, always_passes}
use Rattle.world_facts.proofs.Passing.{flies_as_passed}

-- ---- letters of lists

pub flying_push : (n : ℕ) (flights : List (Flight Carried)) (flight : Flight Carried) →
    flying n (flights ++ flight ∷ []) ≡ flying n flights ++ of_packet n flight.packet
flying_push n [] flight = append-nil (of_packet n flight.packet)
flying_push n (one ∷ flights) flight = ap (λ z. of_packet n one.packet ++ z) (flying_push n flights flight)
    ∙ sym (append_assoc (of_packet n one.packet) (flying n flights) (of_packet n flight.packet))

pub in_push : (mails : List Mail) (mail : Mail) → of_mails (mails ++ mail ∷ []) ≡ of_mails mails ++ of_mail mail
in_push [] mail = append-nil (of_mail mail)
in_push (one ∷ mails) mail = ap (λ z. of_mail one ++ z) (in_push mails mail) ∙ sym (append_assoc (of_mail one) (of_mails mails) (of_mail mail))

pub mails_append : (xs ys : List Mail) → of_mails (xs ++ ys) ≡ of_mails xs ++ of_mails ys
mails_append [] ys = refl
mails_append (x ∷ xs) ys = ap (λ z. of_mail x ++ z) (mails_append xs ys) ∙ sym (append_assoc (of_mail x) (of_mails xs) (of_mails ys))

pub sent_is : (deeds : List Deed) → of_mails (mails_of deeds) ≡ sent_letters deeds
sent_is [] = refl
sent_is (Submits x ∷ deeds) = sent_is deeds
sent_is (Acts (Act.Sends letter) ∷ deeds) = in_push (mails_of deeds) (Mail.Grouped letter) ∙ ap (λ z. z ++ letter ∷ []) (sent_is deeds)
sent_is (Acts (Act.Keeps packet) ∷ deeds) = sent_is deeds
sent_is (Acts (Act.Orders k x) ∷ deeds) = sent_is deeds
sent_is (Acts (Act.Begins k log answers) ∷ deeds) = sent_is deeds
sent_is (Mails (Mail.Grouped letter) ∷ deeds) = in_push (mails_of deeds) (Mail.Grouped letter) ∙ ap (λ z. z ++ letter ∷ []) (sent_is deeds)
sent_is (Mails (Mail.Sends incarnation from to errand) ∷ deeds) = in_push (mails_of deeds) (Mail.Sends incarnation from to errand)
    ∙ append-nil (of_mails (mails_of deeds)) ∙ sent_is deeds
sent_is (Applies lines ∷ deeds) = sent_is deeds
sent_is (Performs performed ∷ deeds) = sent_is deeds

-- ---- free packets

free_more : (n k : ℕ) (flights : List (Flight Carried)) → AllHeld n k flights → AllHeld (suc n) k flights
free_more n k [] h = tt
free_more n k (one ∷ flights) h = (record { within = h.0.within; known = omega (arith, h.0.known) }, free_more n k flights h.1)

free_push : (n k : ℕ) (flights : List (Flight Carried)) (flight : Flight Carried) → AllHeld n k flights → IsHeld n k flight → AllHeld n k (flights ++ flight ∷ [])
free_push n k [] flight h j = (j, tt)
free_push n k (one ∷ flights) flight h j = (h.0, free_push n k flights flight h.1 j)

joined_last : (n k : ℕ) (new flights : List (Flight Carried)) → AllHeld n k flights → joined (suc n) new flights ≡ flights ++ new
joined_last n k new [] h = refl
joined_last n k new (one ∷ flights) h =
    if_true _ _ _ (lt-ltb one.number (suc n) (omega (arith, h.0.known))) ∙ ap (λ z. one ∷ z) (joined_last n k new flights h.1)

-- ---- posting

pub record Posts (f : Frame) (k : ℕ) (w v : World) (mails : List Mail) : Type 0 where
  pub nodes : v.nodes ≡ w.nodes
  pub lives : v.lives ≡ w.lives
  pub past : v.past ≡ w.past
  pub aside : v.aside ≡ w.aside
  pub letters : flying f.settings.nodes v.flights ≡ flying f.settings.nodes w.flights ++ of_mails mails
  pub free : AllHeld v.sent k v.flights

pub record PostsOne (f : Frame) (k : ℕ) (w v : World) (mail : Mail) : Type 0 where
  pub nodes : v.nodes ≡ w.nodes
  pub lives : v.lives ≡ w.lives
  pub past : v.past ≡ w.past
  pub aside : v.aside ≡ w.aside
  pub letters : flying f.settings.nodes v.flights ≡ flying f.settings.nodes w.flights ++ of_mail mail
  pub free : AllHeld v.sent k v.flights

abbrev pub new_flight : Frame → World → Mail → Flight Carried
new_flight f w mail = record { number = suc w.sent; copy = 0; from = (posted f.settings.nodes mail).from; to = (posted f.settings.nodes mail).to; ticks = 0; packet = carried mail }

pub posted_last : (f : Frame) (k : ℕ) (w : World) (mail : Mail) (one : Fate) → always_passes one ≡ true → AllHeld w.sent k w.flights →
    (posts f w mail one).flights ≡ w.flights ++ new_flight f w mail ∷ []
posted_last f k w mail one e free = flies_as_passed f w mail one e ∙ joined_last w.sent k (new_flight f w mail ∷ []) w.flights free

pub posts_one : (f : Frame) (k : ℕ) (w : World) (mail : Mail) (one : Fate) → always_passes one ≡ true → AllHeld w.sent k w.flights →
    PostsOne f k w (posts f w mail one) mail
posts_one f k w mail one e free = record {
  nodes = refl;
  lives = refl;
  past = refl;
  aside = refl;
  letters = ap (flying f.settings.nodes) (posted_last f k w mail one e free) ∙ flying_push f.settings.nodes w.flights (new_flight f w mail);
  free = subst (λ z. AllHeld (suc w.sent) k z) (sym (posted_last f k w mail one e free))
      (free_push (suc w.sent) k w.flights (new_flight f w mail) (free_more w.sent k w.flights free) (record { within = omega arith; known = omega arith }));
}

pub posts_each : (f : Frame) (k : ℕ) (w : World) (mails : List Mail) (fates : List Fate) → AllPass fates → length fates ≡ length mails → AllHeld w.sent k w.flights →
    Posts f k w (posts_all f w mails fates) mails
posts_each f k w [] fates pass few free = record {
  nodes = refl;
  lives = refl;
  past = refl;
  aside = refl;
  letters = sym (append-nil (flying f.settings.nodes w.flights));
  free = free;
}
posts_each f k w (mail ∷ mails) [] pass few free = absurd (omega (arith, few))
posts_each f k w (mail ∷ mails) (one ∷ fates) pass few free =
    let p = posts_one f k w mail one pass.0 free in
    let r = posts_each f k (posts f w mail one) mails fates pass.1 (omega (arith, few)) p.free in
    record {
      nodes = r.nodes ∙ p.nodes;
      lives = r.lives ∙ p.lives;
      past = r.past ∙ p.past;
      aside = r.aside ∙ p.aside;
      letters = r.letters ∙ ap (λ z. z ++ of_mails mails) p.letters ∙ append_assoc (flying f.settings.nodes w.flights) (of_mail mail) (of_mails mails);
      free = r.free;
    }

-- ---- a packet is taken out

abbrev past_all : {A : Type 0} → List A → ℕ → ℕ
past_all [] p = p
past_all (x ∷ xs) p = suc (past_all xs p)

get_past : {A : Type 0} (xs ys : List A) (p : ℕ) → slice_get (xs ++ ys) (past_all xs p) ≡ slice_get ys p
get_past [] ys p = refl
get_past (x ∷ xs) ys p = get_past xs ys p

without_past : {A : Type 0} (xs ys : List A) (p : ℕ) → without_at (past_all xs p) (xs ++ ys) ≡ xs ++ without_at p ys
without_past [] ys p = refl
without_past (x ∷ xs) ys p = ap (λ z. x ∷ z) (without_past xs ys p)

-- the letter that it carries stands at a place, and goes from there
pub record Taken (n : ℕ) (flights others : List (Flight Carried)) (letter : Letter Message) : Type 0 where
  pub place : ℕ
  pub is : slice_get (flying n flights) place ≡ Some letter
  pub left : without_at place (flying n flights) ≡ flying n others

packet_is : (n : ℕ) (one flight : Flight Carried) → Some one ≡ Some flight → of_packet n one.packet ≡ of_packet n flight.packet
packet_is n one flight e = let c : one ≡ flight = cc in ap (λ (z : Flight Carried). of_packet n z.packet) c

pub taken : (n : ℕ) (P : Flight Carried → Bool) (flights : List (Flight Carried)) (flight : Flight Carried) (letter : Letter Message) →
    find P flights ≡ Some flight → of_packet n flight.packet ≡ letter ∷ [] → Taken n flights (without_first P flights) letter
taken n P [] flight letter e h = absurd (let c : None ≡ Some flight = e in cc c)
taken n P (one ∷ more) flight letter e h = go (P one) (λ d. taken n P more flight letter d h) e
  where
    go : (b : Bool) → (find P more ≡ Some flight → Taken n more (without_first P more) letter) → cond b (Some one) (find P more) ≡ Some flight →
        Taken n (one ∷ more) (cond b more (one ∷ without_first P more)) letter
    go true rec d = let s = packet_is n one flight d ∙ h in record {
      place = 0;
      is = ap (λ z. slice_get (z ++ flying n more) 0) s;
      left = ap (λ z. without_at 0 (z ++ flying n more)) s;
    }
    go false rec d = let r = rec d in record {
      place = past_all (of_packet n one.packet) r.place;
      is = get_past (of_packet n one.packet) (flying n more) r.place ∙ r.is;
      left = without_past (of_packet n one.packet) (flying n more) r.place ∙ ap (λ z. of_packet n one.packet ++ z) r.left;
    }

-- where it carries none, letters stay
pub skipped : (n : ℕ) (P : Flight Carried → Bool) (flights : List (Flight Carried)) (flight : Flight Carried) →
    find P flights ≡ Some flight → of_packet n flight.packet ≡ [] → flying n (without_first P flights) ≡ flying n flights
skipped n P [] flight e h = refl
skipped n P (one ∷ more) flight e h = go (P one) (λ d. skipped n P more flight d h) e
  where
    go : (b : Bool) → (find P more ≡ Some flight → flying n (without_first P more) ≡ flying n more) → cond b (Some one) (find P more) ≡ Some flight →
        flying n (cond b more (one ∷ without_first P more)) ≡ flying n (one ∷ more)
    go true rec d = sym (ap (λ z. z ++ flying n more) (packet_is n one flight d ∙ h))
    go false rec d = ap (λ z. of_packet n one.packet ++ z) (rec d)

pub free_without : (n k : ℕ) (P : Flight Carried → Bool) (flights : List (Flight Carried)) → AllHeld n k flights → AllHeld n k (without_first P flights)
free_without n k P [] h = tt
free_without n k P (one ∷ more) h = go (P one) (free_without n k P more h.1)
  where
    go : (b : Bool) → AllHeld n k (without_first P more) → AllHeld n k (cond b more (one ∷ without_first P more))
    go true r = h.1
    go false r = (h.0, r)

-- what is found came as it was sent
pub come_found : (letters : List (Letter Message)) (P : Flight Carried → Bool) (flights : List (Flight Carried)) (flight : Flight Carried) → AllFly letters flights →
    find P flights ≡ Some flight → Come letters flight.packet.mail
come_found letters P [] flight h e = absurd (let c : None ≡ Some flight = e in cc c)
come_found letters P (one ∷ more) flight h e = go (P one) (λ d. come_found letters P more flight h.1 d) e
  where
    go : (b : Bool) → (find P more ≡ Some flight → Come letters flight.packet.mail) → cond b (Some one) (find P more) ≡ Some flight → Come letters flight.packet.mail
    go true r d = let c : one ≡ flight = cc in subst (λ (z : Flight Carried). Come letters z.packet.mail) c h.0
    go false r d = r d

-- ---- quiet moments and ticks

zero_ticks : {n : ℕ} → n ≤ 0 → n ≡ 0
zero_ticks {n} h = omega (arith, h)

pub none_flies : (n : ℕ) (flights : List (Flight Carried)) → AllHeld n 0 flights → first_ready flights ≡ None → flights ≡ []
none_flies n [] free e = refl
none_flies n (one ∷ flights) free e =
    let here : find is_ready (one ∷ flights) ≡ Some one =
    if_true (one.ticks == 0) (Some one) (find is_ready flights) (ap (λ z. z == 0) (zero_ticks free.0.within)) in
    let some : Some (one.number, one.copy) ≡ None = sym (ap (λ (z : Option (Flight Carried)). option_map (λ (g : Flight Carried). (g.number, g.copy)) z) here) ∙ e in
    absurd (cc some)

-- a tick later they are held for one tick less
pub ticked_less : (n k : ℕ) (flights : List (Flight Carried)) → AllHeld n k flights → AllHeld n (k - 1) (ticked flights)
ticked_less n k [] h = tt
ticked_less n k (one ∷ flights) h = (record { within = omega (arith, h.0.within); known = h.0.known }, ticked_less n k flights h.1)

held_more : (n a b : ℕ) (flights : List (Flight Carried)) → a ≤ b → AllHeld n a flights → AllHeld n b flights
held_more n a b [] le h = tt
held_more n a b (one ∷ flights) le h = (record { within = omega (arith, le, h.0.within); known = h.0.known }, held_more n a b flights le h.1)

pub held_most : (f : Frame) (n : ℕ) (flights : List (Flight Carried)) → Each (IsNumbered f n) flights → AllHeld n (most_held flights) flights
held_most f n [] h = tt
held_most f n (one ∷ flights) h =
    (record { within = omega arith; known = h.0.known }, held_more n (most_held flights) (max one.ticks (most_held flights)) flights (omega arith) (held_most f n flights h.1))

pub ticked_letters : (n : ℕ) (flights : List (Flight Carried)) → flying n (ticked flights) ≡ flying n flights
ticked_letters n [] = refl
ticked_letters n (one ∷ flights) = ap (λ z. of_packet n one.packet ++ z) (ticked_letters n flights)
