-- Flights: what holds of each of them, their order, and what is told of them, as letters are posted.
use Rattle.std.proofs.Common.{◌≡◌, ◌==◌, ◌||◌, ◌+◌, ◌<◌, if◌then◌else◌, ℕ, suc, Bool, true, false, cond, Option, Some, List, [], ◌∷◌, ◌++◌, append_assoc, append-nil, length, length-append, map, refl, sym, ap, ◌∙◌, arith, subst, inl, inr, ltb}
use Rattle.std.proofs.lemmas.Bool.{cond_both, eqb-true, ltb-false, ne_eqb}
use Rattle.std.specs.List.{AllByRecursion as Each, find}
use Rattle.net_rules.specs.Flights.{ComesBefore, InOrder, copies, joined, nearer, ticked, travels}
use Rattle.net_rules.specs.Script.{without_first}
use Rattle.net_rules.specs.declared.asked.Asked.{Asked}
use Rattle.net_rules.specs.declared.asked.Asked.TheVariants as asked
use Rattle.net_rules.specs.declared.fate.Fate.{Fate}
use Rattle.net_rules.specs.declared.fate.Fate.TheVariants as fate
use Rattle.net_rules.specs.declared.flight.Flight.{Flight}
use Rattle.world_rules.specs.Frame.{Frame}
use Rattle.world_rules.specs.Mail.{Carried, Mail, carried, cut_to, posted}
use Rattle.world_rules.specs.Steps.{asked_of, posts, posts_all, told_of}
use Rattle.world_rules.specs.Worlds.{Told, World}
use Rattle.world_law.specs.Packets.{AreAsked, IsNumbered}

-- ---- what holds of each

pub each_more : {A : Type 0} (P Q : A → Type 0) → ((x : A) → P x → Q x) → (xs : List A) → Each P xs → Each Q xs
each_more P Q more [] h = tt
each_more P Q more (x ∷ xs) h = (more x h.0, each_more P Q more xs h.1)

pub each_append : {A : Type 0} (P : A → Type 0) (xs ys : List A) → Each P xs → Each P ys → Each P (xs ++ ys)
each_append P [] ys h k = k
each_append P (x ∷ xs) ys h k = (h.0, each_append P xs ys h.1 k)

pub each_first : (P : Flight Carried → Type 0) (test : Flight Carried → Bool) (flights : List (Flight Carried)) → Each P flights → Each P (without_first test flights)
each_first P test [] h = tt
each_first P test (flight ∷ flights) h = cond_both (test flight) flights (flight ∷ without_first test flights) (Each P) (λ e. h.1)
    (λ e. (h.0, each_first P test flights h.1))

each_by : (P : Flight Carried → Type 0) (b : Bool) (one flight : Flight Carried) (rest : Option (Flight Carried)) → cond b (Some one) rest ≡ Some flight →
    P one → (rest ≡ Some flight → P flight) → P flight
each_by P true one flight rest e h later = let same : one ≡ flight = cc e in subst P same h
each_by P false one flight rest e h later = later e

pub each_found : (P : Flight Carried → Type 0) (test : Flight Carried → Bool) (flights : List (Flight Carried)) (flight : Flight Carried) →
    find test flights ≡ Some flight → Each P flights → P flight
each_found P test [] flight e h = absurd (cc e)
each_found P test (one ∷ flights) flight e h = each_by P (test one) one flight (find test flights) e h.0 (λ later. each_found P test flights flight later h.1)

pub each_ticked : (P : Flight Carried → Type 0) → ((flight : Flight Carried) → P flight → P (nearer flight)) → (flights : List (Flight Carried)) →
    Each P flights → Each P (ticked flights)
each_ticked P more [] h = tt
each_ticked P more (flight ∷ flights) h = (more flight h.0, each_ticked P more flights h.1)

pub each_joined : (P : Flight Carried → Type 0) (number : ℕ) (new flights : List (Flight Carried)) → Each P new → Each P flights → Each P (joined number new flights)
each_joined P number new [] h k = h
each_joined P number new (flight ∷ flights) h k = cond_both (ltb flight.number number) (flight ∷ joined number new flights) (new ++ flight ∷ flights) (Each P)
    (λ e. (k.0, each_joined P number new flights h k.1)) (λ e. each_append P new (flight ∷ flights) h k)

-- what is so of a copy whatever holds it back, and whatever is left of it
pub each_copy : (P : Flight Carried → Type 0) (number from to : ℕ) (mail : Mail) (one : Fate) →
    ((copy ticks : ℕ) (left : Carried) → left.mail ≡ mail → P (record { number = number; copy = copy; from = from; to = to; ticks = ticks; packet = left })) →
    Each P (copies cut_to number from to (carried mail) one)
each_copy P number from to mail fate.Pass h = (h 0 0 (carried mail) refl, tt)
each_copy P number from to mail fate.Drop h = tt
each_copy P number from to mail fate.Twice h = (h 0 0 (carried mail) refl, (h 1 0 (carried mail) refl, tt))
each_copy P number from to mail (fate.Hold ticks) h = (h 0 ticks (carried mail) refl, tt)
each_copy P number from to mail (fate.Cut length) h = (h 0 0 (cut_to length (carried mail)) refl, tt)

-- of its letter
pub each_posted : (f : Frame) (R : Mail → Type 0) (mails : List Mail) (fates : List Fate) (w : World) → Each R mails →
    Each (λ (flight : Flight Carried). R flight.packet.mail) w.flights → Each (λ (flight : Flight Carried). R flight.packet.mail) (posts_all f w mails fates).flights
each_posted f R [] fates w h k = k
each_posted f R (mail ∷ mails) [] w h k = k
each_posted f R (mail ∷ mails) (one ∷ fates) w h k =
    each_posted f R mails fates (posts f w mail one) h.1
    (each_joined (λ (flight : Flight Carried). R flight.packet.mail) (suc w.sent) _ w.flights
    (each_copy (λ (flight : Flight Carried). R flight.packet.mail) (suc w.sent) (posted f.settings.nodes mail).from (posted f.settings.nodes mail).to mail one
    (λ copy ticks left is. subst R (sym is) h.0)) k)

-- ---- the order

before_append : (n c : ℕ) (new flights : List (Flight Carried)) → ComesBefore n c new → ComesBefore n c flights → ComesBefore n c (new ++ flights)
before_append n c [] flights h k = k
before_append n c (flight ∷ new) flights h k = (h.0, before_append n c new flights h.1 k)

before_joined : (n c number : ℕ) (new flights : List (Flight Carried)) → ComesBefore n c new → ComesBefore n c flights → ComesBefore n c (joined number new flights)
before_joined n c number new [] h k = h
before_joined n c number new (flight ∷ flights) h k = cond_both (ltb flight.number number) (flight ∷ joined number new flights) (new ++ flight ∷ flights) (ComesBefore n c)
    (λ e. (k.0, before_joined n c number new flights h k.1)) (λ e. before_append n c new (flight ∷ flights) h k)

-- copies of a later packet come behind all others
order_joined : (number : ℕ) (new flights : List (Flight Carried)) → InOrder new → ((n c : ℕ) → n < number → ComesBefore n c new) →
    Each (λ (flight : Flight Carried). flight.number < number) flights → InOrder flights → InOrder (joined number new flights)
order_joined number new [] order behind low h = order
order_joined number new (flight ∷ flights) order behind low h =
    cond_both (ltb flight.number number) (flight ∷ joined number new flights) (new ++ flight ∷ flights) InOrder
    (λ e. (
      before_joined flight.number flight.copy number new flights (behind flight.number flight.copy low.0) h.0,
      order_joined number new flights order behind low.1 h.1,
    ))
    (λ e. let not_low = ltb-false flight.number number e in let less = low.0 in absurd (omega (arith, not_low, less)))

copies_order : (number from to : ℕ) (one : Carried) (what : Fate) → InOrder (copies cut_to number from to one what)
copies_order number from to one fate.Pass = (tt, tt)
copies_order number from to one fate.Drop = tt
copies_order number from to one fate.Twice = ((inr (refl, omega arith), tt), (tt, tt))
copies_order number from to one (fate.Hold ticks) = (tt, tt)
copies_order number from to one (fate.Cut length) = (tt, tt)

copies_behind : (number from to : ℕ) (one : Carried) (what : Fate) (n c : ℕ) → n < number → ComesBefore n c (copies cut_to number from to one what)
copies_behind number from to one fate.Pass n c less = (inl less, tt)
copies_behind number from to one fate.Drop n c less = tt
copies_behind number from to one fate.Twice n c less = (inl less, (inl less, tt))
copies_behind number from to one (fate.Hold ticks) n c less = (inl less, tt)
copies_behind number from to one (fate.Cut length) n c less = (inl less, tt)

before_first : (n c : ℕ) (test : Flight Carried → Bool) (flights : List (Flight Carried)) → ComesBefore n c flights → ComesBefore n c (without_first test flights)
before_first n c test [] h = tt
before_first n c test (flight ∷ flights) h = cond_both (test flight) flights (flight ∷ without_first test flights) (ComesBefore n c) (λ e. h.1)
    (λ e. (h.0, before_first n c test flights h.1))

pub order_first : (test : Flight Carried → Bool) (flights : List (Flight Carried)) → InOrder flights → InOrder (without_first test flights)
order_first test [] h = tt
order_first test (flight ∷ flights) h = cond_both (test flight) flights (flight ∷ without_first test flights) InOrder (λ e. h.1)
    (λ e. (before_first flight.number flight.copy test flights h.0, order_first test flights h.1))

before_ticked : (n c : ℕ) (flights : List (Flight Carried)) → ComesBefore n c flights → ComesBefore n c (ticked flights)
before_ticked n c [] h = tt
before_ticked n c (flight ∷ flights) h = (h.0, before_ticked n c flights h.1)

pub order_ticked : (flights : List (Flight Carried)) → InOrder flights → InOrder (ticked flights)
order_ticked [] h = tt
order_ticked (flight ∷ flights) h = (before_ticked flight.number flight.copy flights h.0, order_ticked flights h.1)

-- ---- what was asked

asked_append : (n : ℕ) (ones : List Told) (one : Told) → AreAsked n ones → one.question.packet ≡ suc (n + length ones) → AreAsked n (ones ++ one ∷ [])
asked_append n [] one h is = (is ∙ omega arith, tt)
asked_append n (two ∷ ones) one h is = (h.0, asked_append (suc n) ones one h.1 (is ∙ omega arith))

asked_if : (b : Bool) (one : Asked) (xs ys zs : List Asked) → xs ≡ ys ++ zs → (if b then one ∷ xs else xs) ≡ (if b then one ∷ ys else ys) ++ zs
asked_if true one xs ys zs e = ap (λ rest. one ∷ rest) e
asked_if false one xs ys zs e = e

asked_both : (wire : ℕ) (xs ys : List Told) → asked_of wire (xs ++ ys) ≡ asked_of wire xs ++ asked_of wire ys
asked_both wire [] ys = refl
asked_both wire (one ∷ xs) ys = asked_if (one.wire == wire) (asked.Packet one.question one.fate) (asked_of wire (xs ++ ys)) (asked_of wire xs) (asked_of wire ys)
    (asked_both wire xs ys)

asked_none : (wire other : ℕ) (ones : List Told) → (wire ≡ other → ⊥) → Each (λ (one : Told). one.wire ≡ other) ones → asked_of wire ones ≡ []
asked_none wire other [] apart h = refl
asked_none wire other (one ∷ ones) apart h = cond_both (one.wire == wire) _ _ (λ (zs : List Asked). zs ≡ [])
    (λ e. absurd (apart (sym (eqb-true one.wire wire e) ∙ h.0))) (λ e. asked_none wire other ones apart h.1)

-- ---- what is posted is told

pub record Posts (w v : World) (fates : List Fate) : Type 0 where
  pub more : List Told
  pub told : v.told ≡ w.told ++ more
  pub of_fates : map (λ (one : Told). one.fate) more ≡ fates
  pub wire : Each (λ (one : Told). one.wire ≡ w.swaps) more
  pub sent : v.sent ≡ w.sent + length fates
  pub swaps : v.swaps ≡ w.swaps

pub posts_tell : (f : Frame) (mails : List Mail) (fates : List Fate) (w : World) → length fates ≡ length mails → Posts w (posts_all f w mails fates) fates
posts_tell f [] [] w same = record { more = []; told = sym (append-nil w.told); of_fates = refl; wire = tt; sent = omega arith; swaps = refl }
posts_tell f [] (one ∷ fates) w same = absurd (omega (arith, same))
posts_tell f (mail ∷ mails) [] w same = absurd (omega (arith, same))
posts_tell f (mail ∷ mails) (one ∷ fates) w same =
    let u : World = posts f w mail one in
    let it : Told = told_of w (posted f.settings.nodes mail) one in
    let rest = posts_tell f mails fates u (omega (arith, same)) in
    let sent = rest.sent in
    record {
      more = it ∷ rest.more;
      told = rest.told ∙ append_assoc w.told (it ∷ []) rest.more;
      of_fates = ap (λ xs. one ∷ xs) rest.of_fates;
      wire = (refl, rest.wire);
      sent = omega (arith, sent);
      swaps = rest.swaps;
    }

-- so no other wire is asked anything
pub asked_others : (w v : World) (fates : List Fate) → Posts w v fates → (wire : ℕ) → (wire ≡ w.swaps → ⊥) → asked_of wire v.told ≡ asked_of wire w.told
asked_others w v fates h wire apart =
    ap (asked_of wire) h.told ∙ asked_both wire w.told h.more ∙ ap (λ xs. asked_of wire w.told ++ xs) (asked_none wire w.swaps h.more apart h.wire)
    ∙ append-nil (asked_of wire w.told)

-- ---- and numbered

pub record CountsOf (f : Frame) (flights : List (Flight Carried)) (sent : ℕ) (told : List Told) : Type 0 where
  pub order : InOrder flights
  pub each : Each (IsNumbered f sent) flights
  pub asked_so : AreAsked 0 told
  pub as_many : length told ≡ sent

abbrev pub Counts : Frame → World → Type 0
Counts f w = CountsOf f w.flights w.sent w.told

pub counts_post : (f : Frame) (w : World) (mail : Mail) (one : Fate) → Counts f w → Counts f (posts f w mail one)
counts_post f w mail one h =
    let n : ℕ = suc w.sent in
    let from : ℕ = (posted f.settings.nodes mail).from in
    let to : ℕ = (posted f.settings.nodes mail).to in
    let new : List (Flight Carried) = copies cut_to n from to (carried mail) one in
    let it : Told = told_of w (posted f.settings.nodes mail) one in
    let told = h.as_many in
    let longer = length-append w.told (it ∷ []) in
    record {
      order = order_joined n new w.flights (copies_order n from to (carried mail) one) (copies_behind n from to (carried mail) one)
          (each_more (IsNumbered f w.sent) (λ (flight : Flight Carried). flight.number < n) (λ flight is. let known = is.known in omega (arith, known)) w.flights h.each)
          h.order;
      each = each_joined (IsNumbered f n) n new w.flights
          (each_copy (IsNumbered f n) n from to mail one
          (λ copy ticks left is. record {
            some = omega arith;
            known = omega arith;
            from = ap (λ (z : Mail). (posted f.settings.nodes z).from) (sym is);
            to = ap (λ (z : Mail). (posted f.settings.nodes z).to) (sym is);
          }))
          (each_more (IsNumbered f w.sent) (IsNumbered f n)
          (λ flight is. let known = is.known in record { some = is.some; known = omega (arith, known); from = is.from; to = is.to }) w.flights h.each);
      asked_so = asked_append 0 w.told it h.asked_so (omega (arith, told));
      as_many = omega (arith, told, longer);
    }

-- the next number is in flight nowhere
pub none_travels : (f : Frame) (sent : ℕ) (flights : List (Flight Carried)) → Each (IsNumbered f sent) flights → travels (suc sent) flights ≡ false
none_travels f sent [] h = refl
none_travels f sent (flight ∷ flights) h =
    let known = h.0.known in
    let apart : (flight.number == suc sent) ≡ false = ne_eqb flight.number (suc sent) (λ e. absurd (omega (arith, known, e))) in
    ap (λ b. b || travels (suc sent) flights) apart ∙ none_travels f sent flights h.1
