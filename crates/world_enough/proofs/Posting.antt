-- A faultless event posts each of its letters once, at the end of what is in flight.
use Rattle.std.proofs.Common.{◌≡◌, ◌+◌, ◌&&◌, ◌==◌, ℕ, suc, true, List, [], ◌∷◌, ◌++◌, append_assoc, append-nil, length, Option, Some, None, refl, sym, ap, ◌∙◌, arith, subst}
use Rattle.std.proofs.lemmas.Bool.{lt-ltb}
use Rattle.std.specs.Prelude.{option_map}
use Rattle.std.specs.List.{find}
use Rattle.value_core.specs.declared.message.Message.{Message}
use Rattle.group_rules.specs.Member.{Letter}
use Rattle.group_rules.specs.Work.{Act}
use Rattle.net_rules.specs.declared.fate.Fate.{Fate}
use Rattle.net_rules.specs.declared.flight.Flight.{Flight}
use Rattle.net_rules.specs.Flights.{first_ready, is_ready, is_ready_copy, joined, ready_copy, without}
use Rattle.world_rules.specs.Frame.{Frame}
use Rattle.world_rules.specs.Mail.{Carried, Mail, carried, posted}
use Rattle.world_rules.specs.Nodes.{Deed, mails_of}
use Rattle.world_rules.specs.Nodes.Deed.{Submits, Acts, Mails, Applies, Performs}
use Rattle.world_rules.specs.Steps.{posts, posts_all}
use Rattle.world_rules.specs.Worlds.{World}
use Rattle.world_enough.proofs.Costs.{flights_cost, flights_push, mail_cost, mails_cost}
use Rattle.world_enough.proofs.Letters.{letters_in}
use Rattle.world_facts.proofs.Passing.{flies_as_passed}
use Rattle.world_facts.specs.Passing.{AllPass, always_passes}
use Rattle.world_enough.specs.Tie.{AreCalm, IsCalm, letters_of, with_letter}
use Rattle.world_law.specs.Moments.{sent_letters}
use Rattle.world_law.proofs.AtWork.{if_true}

-- ---- letters of lists

with_push : (mail : Mail) (q r : List (Letter Message)) → with_letter mail (q ++ r) ≡ with_letter mail q ++ r
with_push (Mail.Grouped letter) q r = refl
with_push (Mail.Sends incarnation from to errand) q r = refl

pub in_push : (mails : List Mail) (mail : Mail) → letters_in (mails ++ mail ∷ []) ≡ letters_in mails ++ with_letter mail []
in_push [] mail = refl
in_push (one ∷ mails) mail = ap (with_letter one) (in_push mails mail) ∙ with_push one (letters_in mails) (with_letter mail [])

of_push : (flights : List (Flight Carried)) (flight : Flight Carried) →
    letters_of (flights ++ flight ∷ []) ≡ letters_of flights ++ with_letter flight.packet.mail []
of_push [] flight = refl
of_push (one ∷ flights) flight = ap (with_letter one.packet.mail) (of_push flights flight)
    ∙ with_push one.packet.mail (letters_of flights) (with_letter flight.packet.mail [])

pub sent_is : (deeds : List Deed) → letters_in (mails_of deeds) ≡ sent_letters deeds
sent_is [] = refl
sent_is (Submits x ∷ deeds) = sent_is deeds
sent_is (Acts (Act.Sends letter) ∷ deeds) = in_push (mails_of deeds) (Mail.Grouped letter) ∙ ap (λ z. z ++ letter ∷ []) (sent_is deeds)
sent_is (Acts (Act.Keeps packet) ∷ deeds) = sent_is deeds
sent_is (Acts (Act.Orders k x) ∷ deeds) = sent_is deeds
sent_is (Acts (Act.Begins k log answers) ∷ deeds) = sent_is deeds
sent_is (Mails (Mail.Grouped letter) ∷ deeds) = in_push (mails_of deeds) (Mail.Grouped letter) ∙ ap (λ z. z ++ letter ∷ []) (sent_is deeds)
sent_is (Mails (Mail.Sends incarnation from to errand) ∷ deeds) = in_push (mails_of deeds) (Mail.Sends incarnation from to errand)
    ∙ append-nil (letters_in (mails_of deeds)) ∙ sent_is deeds
sent_is (Applies lines ∷ deeds) = sent_is deeds
sent_is (Performs performed ∷ deeds) = sent_is deeds

-- ---- calm flights

calm_more : (n : ℕ) (flights : List (Flight Carried)) → AreCalm n flights → AreCalm (suc n) flights
calm_more n [] h = tt
calm_more n (one ∷ flights) h = (record { ready = h.0.ready; whole = h.0.whole; known = omega (arith, h.0.known) }, calm_more n flights h.1)

calm_push : (n : ℕ) (flights : List (Flight Carried)) (flight : Flight Carried) → AreCalm n flights → IsCalm n flight → AreCalm n (flights ++ flight ∷ [])
calm_push n [] flight h k = (k, tt)
calm_push n (one ∷ flights) flight h k = (h.0, calm_push n flights flight h.1 k)

joined_last : (n : ℕ) (new flights : List (Flight Carried)) → AreCalm n flights → joined (suc n) new flights ≡ flights ++ new
joined_last n new [] h = refl
joined_last n new (one ∷ flights) h =
    if_true _ _ _ (lt-ltb one.number (suc n) (omega (arith, h.0.known))) ∙ ap (λ z. one ∷ z) (joined_last n new flights h.1)

-- ---- posting

pub record Posts (f : Frame) (w v : World) (mails : List Mail) : Type 0 where
  pub nodes : v.nodes ≡ w.nodes
  pub lives : v.lives ≡ w.lives
  pub past : v.past ≡ w.past
  pub letters : letters_of v.flights ≡ letters_of w.flights ++ letters_in mails
  pub calm : AreCalm v.sent v.flights
  pub cost : flights_cost v.flights ≡ flights_cost w.flights + mails_cost mails

posts_one : (f : Frame) (w : World) (mail : Mail) (one : Fate) → always_passes one ≡ true → AreCalm w.sent w.flights → Posts f w (posts f w mail one) (mail ∷ [])
posts_one f w mail one e calm = passed
  where
    new : Flight Carried
    new = record { number = suc w.sent; copy = 0; from = (posted f.settings.nodes mail).from; to = (posted f.settings.nodes mail).to; ticks = 0; packet = carried mail }

    is : (posts f w mail one).flights ≡ w.flights ++ new ∷ []
    is = flies_as_passed f w mail one e ∙ joined_last w.sent (new ∷ []) w.flights calm

    passed : Posts f w (posts f w mail one) (mail ∷ [])
    passed = record {
      nodes = refl;
      lives = refl;
      past = refl;
      letters = ap letters_of is ∙ of_push w.flights new;
      calm = subst (λ z. AreCalm (suc w.sent) z) (sym is) (calm_push (suc w.sent) w.flights new (calm_more w.sent w.flights calm)
          (record { ready = refl; whole = refl; known = omega arith }));
      cost = let e = ap flights_cost is in let p : flights_cost (w.flights ++ new ∷ []) ≡ flights_cost w.flights + mail_cost mail = flights_push w.flights new in omega (arith, e, p);
    }

with_in : (mail : Mail) (mails : List Mail) (q : List (Letter Message)) → (q ++ with_letter mail []) ++ letters_in mails ≡ q ++ with_letter mail (letters_in mails)
with_in (Mail.Grouped letter) mails q = append_assoc q (letter ∷ []) (letters_in mails)
with_in (Mail.Sends incarnation from to errand) mails q = ap (λ z. z ++ letters_in mails) (append-nil q)

pub posts_each : (f : Frame) (w : World) (mails : List Mail) (fates : List Fate) → AllPass fates → length fates ≡ length mails → AreCalm w.sent w.flights →
    Posts f w (posts_all f w mails fates) mails
posts_each f w [] fates pass few calm = record {
  nodes = refl;
  lives = refl;
  past = refl;
  letters = sym (append-nil (letters_of w.flights));
  calm = calm;
  cost = omega arith;
}
posts_each f w (mail ∷ mails) [] pass few calm = absurd (omega (arith, few))
posts_each f w (mail ∷ mails) (one ∷ fates) pass few calm =
    let p = posts_one f w mail one pass.0 calm in
    let r = posts_each f (posts f w mail one) mails fates pass.1 (omega (arith, few)) p.calm in
    record {
      nodes = r.nodes ∙ p.nodes;
      lives = r.lives ∙ p.lives;
      past = r.past ∙ p.past;
      letters = r.letters ∙ ap (λ z. z ++ letters_in mails) p.letters ∙ with_in mail mails (letters_of w.flights);
      calm = r.calm;
      cost = omega (arith, r.cost, p.cost);
    }

-- ---- the first is ready, and its delivery takes it out

both_same : (a b : ℕ) → (a == a && (b == b && true)) ≡ true
both_same a b = grind arith

same_is : (a : ℕ) → (a == a) ≡ true
same_is a = grind arith

-- where some packet is ready, and it is the first, it is the first in flight
pub record Head (flights : List (Flight Carried)) (number copy : ℕ) : Type 0 where
  pub flight : Flight Carried
  pub others : List (Flight Carried)
  pub is : flights ≡ flight ∷ others
  pub found : ready_copy number copy flights ≡ Some flight
  pub left : without number copy flights ≡ others

abbrev number_in : Option (ℕ × ℕ) → ℕ
number_in None = 0
number_in (Some p) = p.0

abbrev copy_in : Option (ℕ × ℕ) → ℕ
copy_in None = 0
copy_in (Some p) = p.1

pub first_is : (n : ℕ) (flights : List (Flight Carried)) (number copy : ℕ) → AreCalm n flights → first_ready flights ≡ Some (number, copy) → Head flights number copy
first_is n [] number copy calm e = absurd (cc e)
first_is n (one ∷ flights) number copy calm e =
    let zero_ticks : (one.ticks == 0) ≡ true = ap (λ z. z == 0) calm.0.ready in
    let here : find is_ready (one ∷ flights) ≡ Some one = if_true (one.ticks == 0) (Some one) (find is_ready flights) zero_ticks in
    let pair : Some (one.number, one.copy) ≡ Some (number, copy) = sym (ap (λ (z : Option (Flight Carried)). option_map (λ (g : Flight Carried). (g.number, g.copy)) z) here) ∙ e in
    let a : one.number ≡ number = ap number_in pair in
    let b : one.copy ≡ copy = ap copy_in pair in
    let test : is_ready_copy number copy one ≡ true =
    subst (λ z. is_ready_copy z copy one ≡ true) a (subst (λ z. is_ready_copy one.number z one ≡ true) b (tests one zero_ticks)) in
    record {
      flight = one;
      others = flights;
      is = refl;
      found = if_true (is_ready_copy number copy one) (Some one) (find (is_ready_copy number copy) flights) test;
      left = if_true (is_ready_copy number copy one) flights (one ∷ without number copy flights) test;
    }
  where
    tests : (g : Flight Carried) → (g.ticks == 0) ≡ true → is_ready_copy g.number g.copy g ≡ true
    tests g e = rw (same_is g.number, same_is g.copy, e) refl
