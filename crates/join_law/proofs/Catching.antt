-- Where each packet passes, the rounds behind the run bring the follower as far as the member that is ahead.
use Rattle.std.proofs.Common.{◌≡◌, ◌≤◌, ◌<◌, ◌+◌, ◌⊎◌, ℕ, zero, suc, Bool, true, false, cond, leb, ltb, eqb, List, [], ◌∷◌, ◌++◌, length, not, Option, None, Some, slice_get, refl, sym, ap, ◌∙◌, subst, arith, inl, inr}
use Rattle.std.specs.List.{AllByRecursion, filter}
use Rattle.std.specs.Prelude.{◌%◌}
use Rattle.std.proofs.lemmas.Bool.{ltb-true, ltb-false, leb-true, leb-false, lt-ltb, cases_lt, eq-eqb}
use Rattle.value_core.specs.Meaning.{Performs}
use Rattle.value_core.specs.declared.message.Message.{Message}
use Rattle.object_manager.specs.After.{Copied, after}
use Rattle.object_manager.specs.State.{Stated, state_of}
use Rattle.net_rules.specs.Asked.{packet_asked}
use Rattle.net_rules.specs.Flights.{copies, flight, is_ready, joined, ticked}
use Rattle.net_rules.specs.Passing.{passes}
use Rattle.net_rules.specs.declared.asked.Asked.{Asked}
use Rattle.net_rules.specs.declared.fate.Fate.{Fate}
use Rattle.net_rules.specs.declared.fate.Fate.TheVariants.{Pass, Drop, Twice, Hold, Cut}
use Rattle.net_rules.specs.declared.flight.Flight.{Flight}
use Rattle.group_rules.specs.Member.{Member}
use Rattle.group_join.specs.declared.packet.JoinPacket.{JoinPacket}
use Rattle.group_join.specs.declared.packet.JoinPacket.TheVariants.{Seek, State, Next as Gives}
use Rattle.group_join.specs.Seeking.{answer_of}
use Rattle.group_join.specs.Following.{copies_in, follows}
use Rattle.group_join.specs.Laws.{Applied}
use Rattle.group_join.proofs.Afterward.{applied_after, there_same}
use Rattle.world_rules.specs.declared.event.Step.{Step}
use Rattle.world_rules.specs.Frame.{Frame}
use Rattle.world_rules.specs.Worlds.{World, agreed, opening_world}
use Rattle.join_law.specs.Rounds.{Alongside, Carried, Rounding, Rounds, ahead, arrives, asks, bytes_in, can_answer, carried, catches_up, come_to, comes, cut_to, ends_with, fate_in, flights_of, further, has_passed, is_held, is_sought, is_whole, kind_of, most_rounds, opening_rounding, posts, posts_answer, releases, round, seeks, turns}
use Rattle.join_law.proofs.Behind.{not_below}
use Rattle.join_law.proofs.Growing.{Extends, along_grows, caught_grows, end_grows, extends_all, seeks_grow}
use Rattle.join_law.proofs.Keeping.{Knows}
use Rattle.join_law.proofs.Rounding.{Members, is_member, rounds_end}

-- each packet that was asked about passes
abbrev HasPassed : Asked → Type 0
HasPassed one = has_passed one ≡ true

abbrev Passed : Rounding → Type 0
Passed u = AllByRecursion HasPassed u.asked

passed_before : (u v : Rounding) → Extends u.asked v.asked → Passed v → Passed u
passed_before u v e all = extends_all HasPassed u.asked v.asked e all

last_passed : (xs : List Asked) (x : Asked) → AllByRecursion HasPassed (xs ++ x ∷ []) → HasPassed x
last_passed [] x all = all.0
last_passed (y ∷ ys) x all = last_passed ys x all.1

-- its fate
asked_passed : (from to : ℕ) (packet : JoinPacket) (fate : Fate) (u : Rounding) → Passed (asks from to packet fate u) → passes (bytes_in packet) fate ≡ true
asked_passed from to packet fate u all = last_passed u.asked (packet_asked (suc (length u.asked)) (kind_of packet) from to (bytes_in packet) fate) all

-- ---- so a packet comes once, and nothing is held back

comes_once : (number from to : ℕ) (packet : JoinPacket) (fate : Fate) (reach : ℕ → JoinPacket → Rounding → Rounding) (u : Rounding) → passes (bytes_in packet) fate ≡ true →
    come_to reach (filter is_ready (copies cut_to number from to (carried packet) fate)) u ≡ reach to packet u
comes_once number from to packet Pass reach u is = refl
comes_once number from to packet Drop reach u is = absurd (cc is)
comes_once number from to packet Twice reach u is = absurd (cc is)
comes_once number from to packet (Hold ticks) reach u is =
    ap (λ (b : Bool). come_to reach (cond b (flight number 0 from to ticks (carried packet) ∷ []) []) u) is
comes_once number from to packet (Cut length) reach u is = ap (λ (b : Bool). cond b (reach to packet u) u) is

none_held : (number from to : ℕ) (packet : JoinPacket) (fate : Fate) → passes (bytes_in packet) fate ≡ true → filter is_held (copies cut_to number from to (carried packet) fate) ≡ []
none_held number from to packet Pass is = refl
none_held number from to packet Drop is = refl
none_held number from to packet Twice is = refl
none_held number from to packet (Hold ticks) is = ap (λ (b : Bool). cond (not b) (flight number 0 from to ticks (carried packet) ∷ []) []) is
none_held number from to packet (Cut length) is = refl

once : (fates : List Fate) (from to : ℕ) (packet : JoinPacket) (reach : ℕ → JoinPacket → Rounding → Rounding) (u : Rounding) → Passed (asks from to packet (fate_in fates (length u.asked)) u) →
    posts fates from to packet reach u ≡ reach to packet (asks from to packet (fate_in fates (length u.asked)) u)
once fates from to packet reach u all =
    let fate = fate_in fates (length u.asked) in
    comes_once (suc (length u.asked)) from to packet fate reach (asks from to packet fate u) (asked_passed from to packet fate u all)

abbrev Clear : Rounding → Type 0
Clear u = u.held ≡ []

joined_none : (number : ℕ) (new held : List (Flight Carried)) → new ≡ [] → held ≡ [] → joined number new held ≡ []
joined_none number new [] none clear = none
joined_none number new (x ∷ xs) none clear = absurd (cc clear)

asked_clear : (from to : ℕ) (packet : JoinPacket) (fate : Fate) (u : Rounding) → Passed (asks from to packet fate u) → Clear u → Clear (asks from to packet fate u)
asked_clear from to packet fate u all clear =
    joined_none (suc (length u.asked)) (filter is_held (flights_of from to packet fate u)) u.held
    (none_held (suc (length u.asked)) from to packet fate (asked_passed from to packet fate u all)) clear

-- ---- an answer that brings more

next_if : (p : Performs) (c : Copied) (x : Message) (a : ℕ) (b : Bool) → c.applied ≡ a → b ≡ true → suc a ≤ (cond b (after p c x) c).applied
next_if p c x a true at e = omega (arith, at)
next_if p c x a false at e = absurd (cc e)

brings_next : (p : Performs) (c : Copied) (x : Message) (a : ℕ) → c.applied ≡ a → suc a ≤ (follows p c (Gives (suc a) x)).applied
brings_next p c x a at = next_if p c x a (eqb (suc a) (suc c.applied)) at (eq-eqb (suc a) (suc c.applied) (ap (λ (n : ℕ). suc n) (sym at)))

state_if : (c : Copied) (s : Stated) (a : ℕ) (b : Bool) → suc a ≤ s.applied → b ≡ true → suc a ≤ (cond b (copies_in s) c).applied
state_if c s a true more e = more
state_if c s a false more e = absurd (cc e)

brings_state : (p : Performs) (c : Copied) (s : Stated) (a : ℕ) → c.applied ≡ a → suc a ≤ s.applied → suc a ≤ (follows p c (State s)).applied
brings_state p c s a at more = state_if c s a (ltb c.applied s.applied) more (lt-ltb c.applied s.applied (omega (arith, at, more)))

-- what a member that applied more answers
pub record Brings (p : Performs) (member : Member Message) (copies : Copied) (a : ℕ) : Type 0 where
  pub packet : JoinPacket
  pub answer : answer_of member copies a ≡ Some packet
  pub more : (c : Copied) → c.applied ≡ a → suc a ≤ (follows p c packet).applied

entry_brings : (p : Performs) (member : Member Message) (copies : Copied) (a : ℕ) (x : Message) → slice_get member.log a ≡ Some x → leb member.applied a ≡ false → leb (suc a) member.base ≡ false →
    Brings p member copies a
entry_brings p member copies a x there low kept = record {
  packet = Gives (suc a) x;
  answer = rw (low, kept, there) refl;
  more = λ c at. brings_next p c x a at;
}

state_brings : (p : Performs) (list : List Message) (member : Member Message) (copies : Copied) (a : ℕ) → Applied p list member copies → a < member.applied → leb member.applied a ≡ false → leb (suc a) member.base ≡ true →
    Brings p member copies a
state_brings p list member copies a so below low purged =
    let many : copies.applied ≡ member.applied = ap (λ (s : Stated). s.applied) so.state ∙ applied_after p list member.applied so.within in
    record {
      packet = State (state_of copies);
      answer = rw (low, purged) refl;
      more = λ c at. brings_state p c (state_of copies) a at (omega (arith, many, below));
    }

beyond : {A : Type 0} (xs : List A) (n : ℕ) → slice_get xs n ≡ None → n < length xs → ⊥
beyond [] n e lt = omega (arith, lt)
beyond (x ∷ xs) zero e lt = cc e
beyond (x ∷ xs) (suc n) e lt = beyond xs n e (omega (arith, lt))

brings_by : (p : Performs) (list : List Message) (member : Member Message) (copies : Copied) (a : ℕ) → Applied p list member copies → a < member.applied → leb member.applied a ≡ false →
    (purged : Bool) → leb (suc a) member.base ≡ purged → (found : Option Message) → slice_get list a ≡ found → Brings p member copies a
brings_by p list member copies a so below low true is found at = state_brings p list member copies a so below low is
brings_by p list member copies a so below low false is (Some x) at = entry_brings p member copies a x (there_same list member.log member.applied a x below (sym so.entries) at) low is
brings_by p list member copies a so below low false is None at = absurd (beyond list a at (omega (arith, below, so.within)))

brings_more : (p : Performs) (list : List Message) (member : Member Message) (copies : Copied) (a : ℕ) → Applied p list member copies → a < member.applied → Brings p member copies a
brings_more p list member copies a so below = brings_by p list member copies a so below (not_below a member.applied below) (leb (suc a) member.base) refl (slice_get list a) refl

-- ---- a round with a member that applied more

-- what is held back, where nothing is
pub record Unmoved (u v : Rounding) : Type 0 where
  pub held : v.held ≡ []
  pub copies : v.copies ≡ u.copies

nothing_due : (f : Frame) (fates : List Fate) (w : World) (held : List (Flight Carried)) (u : Rounding) → held ≡ [] →
    Unmoved u (come_to (arrives f fates w) (filter is_ready (ticked held)) (record u { held = filter is_held (ticked held) }))
nothing_due f fates w [] u is = record { held = refl; copies = refl }
nothing_due f fates w (x ∷ xs) u is = absurd (cc is)

released_none : (f : Frame) (fates : List Fate) (w : World) (u : Rounding) → Clear u → Unmoved u (releases f fates w u)
released_none f fates w u clear = nothing_due f fates w u.held u clear

-- what comes to the follower asks nothing
coming_asks : (f : Frame) (xs : List (Flight Carried)) (u : Rounding) → (come_to (λ to one. comes f one) xs u).asked ≡ u.asked
coming_asks f [] u = refl
coming_asks f (x ∷ xs) u = coming_asks f xs (cond (is_whole x.packet) (comes f x.packet.packet u) u) ∙ whole_asks f x.packet.packet u (is_whole x.packet)
  where
    whole_asks : (f : Frame) (packet : JoinPacket) (u : Rounding) (b : Bool) → (cond b (comes f packet u) u).asked ≡ u.asked
    whole_asks f packet u true = refl
    whole_asks f packet u false = refl

-- an answer, where all pass
abbrev AnswerAsked : Frame → List Fate → ℕ → JoinPacket → Rounding → Rounding
AnswerAsked f fates m packet u = asks m f.settings.nodes packet (fate_in fates (length u.asked)) u

answer_passed : (f : Frame) (fates : List Fate) (m : ℕ) (packet : JoinPacket) (u : Rounding) → Passed (posts_answer f fates m (Some packet) u) → Passed (AnswerAsked f fates m packet u)
answer_passed f fates m packet u all =
    let x = AnswerAsked f fates m packet u in
    subst (AllByRecursion HasPassed)
    (coming_asks f (filter is_ready (flights_of m f.settings.nodes packet (fate_in fates (length u.asked)) u)) x) all

answer_comes : (f : Frame) (fates : List Fate) (m : ℕ) (packet : JoinPacket) (u : Rounding) → Passed (posts_answer f fates m (Some packet) u) →
    posts_answer f fates m (Some packet) u ≡ comes f packet (AnswerAsked f fates m packet u)
answer_comes f fates m packet u all = once fates m f.settings.nodes packet (λ to one. comes f one) u (answer_passed f fates m packet u all)

answered_clear : (f : Frame) (fates : List Fate) (m : ℕ) (answer : Option JoinPacket) (u : Rounding) → Passed (posts_answer f fates m answer u) → Clear u → Clear (posts_answer f fates m answer u)
answered_clear f fates m None u all clear = clear
answered_clear f fates m (Some packet) u all clear =
    ap (λ (v : Rounding). v.held) (answer_comes f fates m packet u all)
    ∙ asked_clear m f.settings.nodes packet (fate_in fates (length u.asked)) u (answer_passed f fates m packet u all) clear

sought_if : (f : Frame) (fates : List Fate) (m : ℕ) (answer : Option JoinPacket) (b : Bool) (u : Rounding) → Passed (cond b (posts_answer f fates m answer u) u) → Clear u →
    Clear (cond b (posts_answer f fates m answer u) u)
sought_if f fates m answer true u all clear = answered_clear f fates m answer u all clear
sought_if f fates m answer false u all clear = clear

-- the follower's question, where all pass
abbrev SeekAsked : Frame → List Fate → ℕ → Rounding → Rounding
SeekAsked f fates m u = asks f.settings.nodes m (Seek u.copies.applied) (fate_in fates (length u.asked)) u

seek_comes : (f : Frame) (fates : List Fate) (w : World) (m : ℕ) (u : Rounding) → Passed (seeks f fates w m u) →
    seeks f fates w m u ≡ is_sought f fates w m u.copies.applied (SeekAsked f fates m u)
seek_comes f fates w m u all =
    once fates f.settings.nodes m (Seek u.copies.applied) (arrives f fates w) u (passed_before (SeekAsked f fates m u) (seeks f fates w m u) (seeks_grow f fates w m u) all)

seeks_clear : (f : Frame) (fates : List Fate) (w : World) (m : ℕ) (u : Rounding) → Passed (seeks f fates w m u) → Clear u → Clear (seeks f fates w m u)
seeks_clear f fates w m u all clear =
    let x = SeekAsked f fates m u in
    let comes_so = seek_comes f fates w m u all in
    let asked : Passed x = passed_before x (seeks f fates w m u) (seeks_grow f fates w m u) all in
    ap (λ (y : Rounding). y.held) comes_so
    ∙ sought_if f fates m (answer_of (w.nodes m).member (w.nodes m).copies u.copies.applied) (can_answer f w m) x (subst Passed comes_so all)
    (asked_clear f.settings.nodes m (Seek u.copies.applied) (fate_in fates (length u.asked)) u asked clear)

round_clear : (f : Frame) (fates : List Fate) (w : World) (m : ℕ) (u : Rounding) → Passed (round f fates w m u) → Clear u → Clear (round f fates w m u)
round_clear f fates w m u all clear = seeks_clear f fates w m (releases f fates w u) all (released_none f fates w u clear).held

-- the member answers with this packet, which the follower receives
sought_brings : (f : Frame) (fates : List Fate) (m : ℕ) (answer : Option JoinPacket) (b : Bool) (u : Rounding) (packet : JoinPacket) → Passed (cond b (posts_answer f fates m answer u) u) → b ≡ true →
    answer ≡ Some packet → (cond b (posts_answer f fates m answer u) u).copies ≡ follows f.performs u.copies packet
sought_brings f fates m answer false u packet all is answers = absurd (cc is)
sought_brings f fates m answer true u packet all is answers =
    ap (λ (o : Option JoinPacket). (posts_answer f fates m o u).copies) answers
    ∙ ap (λ (v : Rounding). v.copies) (answer_comes f fates m packet u (subst (λ (o : Option JoinPacket). Passed (posts_answer f fates m o u)) answers all))

round_brings : (f : Frame) (fates : List Fate) (w : World) (m : ℕ) (u : Rounding) → Passed (round f fates w m u) → Clear u → Members f w → can_answer f w m ≡ true →
    u.copies.applied < (w.nodes m).member.applied → suc u.copies.applied ≤ (round f fates w m u).copies.applied
round_brings f fates w m u all clear members is below =
    let v = releases f fates w u in
    let at : v.copies.applied ≡ u.copies.applied = ap (λ (c : Copied). c.applied) (released_none f fates w u clear).copies in
    let a = v.copies.applied in
    let brings = brings_more f.performs (agreed f w) (w.nodes m).member (w.nodes m).copies a (members m (is_member f w m is)) (omega (arith, at, below)) in
    let x = SeekAsked f fates m v in
    let comes_so = seek_comes f fates w m v all in
    let end : (round f fates w m u).copies ≡ follows f.performs x.copies brings.packet =
    ap (λ (y : Rounding). y.copies) comes_so
    ∙ sought_brings f fates m (answer_of (w.nodes m).member (w.nodes m).copies a) (can_answer f w m) x brings.packet (subst Passed comes_so all) is brings.answer in
    let more : suc a ≤ (follows f.performs x.copies brings.packet).applied = brings.more x.copies refl in
    let number : (round f fates w m u).copies.applied ≡ (follows f.performs x.copies brings.packet).applied = ap (λ (c : Copied). c.applied) end in
    omega (arith, at, more, number)

-- ---- until it applied as much

caught_if : (f : Frame) (fates : List Fate) (w : World) (m n : ℕ) (u : Rounding) (b : Bool) → leb (w.nodes m).member.applied u.copies.applied ≡ b →
    Passed (cond b u (catches_up f fates w m n (round f fates w m u))) →
    (b ≡ false → Passed (catches_up f fates w m n (round f fates w m u)) → (w.nodes m).member.applied ≤ (catches_up f fates w m n (round f fates w m u)).copies.applied) →
    (w.nodes m).member.applied ≤ (cond b u (catches_up f fates w m n (round f fates w m u))).copies.applied
caught_if f fates w m n u true is all more = leb-true (w.nodes m).member.applied u.copies.applied is
caught_if f fates w m n u false is all more = more refl all

catches : (f : Frame) (fates : List Fate) (w : World) (m n : ℕ) (u : Rounding) → Passed (catches_up f fates w m n u) → Clear u → Members f w → can_answer f w m ≡ true →
    (w.nodes m).member.applied ≤ u.copies.applied + n → (w.nodes m).member.applied ≤ (catches_up f fates w m n u).copies.applied
catches f fates w m zero u all clear members is within = omega (arith, within)
catches f fates w m (suc n) u all clear members is within =
    let v = round f fates w m u in
    caught_if f fates w m n u (leb (w.nodes m).member.applied u.copies.applied) refl all (λ low later.
    let below = leb-false (w.nodes m).member.applied u.copies.applied low in
    let once : Passed v = passed_before v (catches_up f fates w m n v) (caught_grows f fates w m n v) later in
    let one = round_brings f fates w m u once clear members is below in
    catches f fates w m n v later (round_clear f fates w m u once clear) members is (omega (arith, one, within)))

-- ---- beside the run nothing is held back

turned_if : (f : Frame) (fates : List Fate) (w : World) (m : ℕ) (b : Bool) (u : Rounding) → Passed (cond b (round f fates w m u) u) → Clear u → Clear (cond b (round f fates w m u) u)
turned_if f fates w m true u all clear = round_clear f fates w m u all clear
turned_if f fates w m false u all clear = clear

alongside_clear : (f : Frame) (fates : List Fate) (start n : ℕ) (w : World) (steps : List Step) (u : Rounding) (v : World) (z : Rounding) → Passed z → Clear u →
    Alongside f fates start n w steps u v z → Clear z
alongside_clear f fates start n w [] u v z all clear along = ap (λ (y : Rounding). y.held) along.1 ∙ clear
alongside_clear f fates start n w (step ∷ steps) u v z all clear along =
    let x = along.0 in
    let y = turns f fates start x n u in
    let before : Passed y = passed_before y z (along_grows f fates start (suc n) x steps y v z along.2) all in
    alongside_clear f fates start (suc n) x steps y v z all (turned_if f fates x (u.rounds % f.settings.nodes) (leb start n) u before clear) along.2

-- ---- the member that is ahead

-- this is who is ahead of the members below n: who it is answers, and each of them that answers has applied no more
pub record AheadBy (f : Frame) (w : World) (n : ℕ) (o : Option ℕ) : Type 0 where
  pub answers_too : (k : ℕ) → o ≡ Some k → can_answer f w k ≡ true
  pub most : (j : ℕ) → j < n → can_answer f w j ≡ true → (k : ℕ) × (o ≡ Some k) × ((w.nodes j).member.applied ≤ (w.nodes k).member.applied)

some_is : (x y : ℕ) → Some x ≡ Some y → x ≡ y
some_is x y e = cc

abbrev number : World → ℕ → ℕ
number w m = (w.nodes m).member.applied

last_or : (j m : ℕ) → j < suc m → (j < m) ⊎ (j ≡ m)
last_or j m lt = elim (cases_lt j m) [
  | inl below ↦ inl below
  | inr above ↦ inr (omega (arith, lt, above))
]

first_ahead : (f : Frame) (w : World) (m : ℕ) → can_answer f w m ≡ true → AheadBy f w m None → AheadBy f w (suc m) (Some m)
first_ahead f w m here before = record {
  answers_too = λ k is. subst (λ (x : ℕ). can_answer f w x ≡ true) (some_is m k is) here;
  most = λ j lt is. elim (last_or j m lt) [
    | inl below ↦ let none = before.most j below is in absurd (cc none.1)
    | inr last ↦ (m, refl, omega (arith, ap (number w) last))
  ];
}

next_ahead : (f : Frame) (w : World) (m i : ℕ) (b : Bool) → ltb (number w i) (number w m) ≡ b → can_answer f w m ≡ true → AheadBy f w m (Some i) → AheadBy f w (suc m) (Some (cond b m i))
next_ahead f w m i true is here before =
    let less = ltb-true (number w i) (number w m) is in
    record {
      answers_too = λ k e. subst (λ (x : ℕ). can_answer f w x ≡ true) (some_is m k e) here;
      most = λ j lt j_is. elim (last_or j m lt) [
        | inl below ↦
            let old = before.most j below j_is in
            let same = ap (number w) (some_is i old.0 old.1) in
            (m, refl, omega (arith, less, same, old.2))
        | inr last ↦ (m, refl, omega (arith, ap (number w) last))
      ];
    }
next_ahead f w m i false is here before =
    let least = ltb-false (number w i) (number w m) is in
    record {
      answers_too = before.answers_too;
      most = λ j lt j_is. elim (last_or j m lt) [
        | inl below ↦
            let old = before.most j below j_is in
            let same = ap (number w) (some_is i old.0 old.1) in
            (i, refl, omega (arith, same, old.2))
        | inr last ↦ (i, refl, omega (arith, least, ap (number w) last))
      ];
    }

none_more : (f : Frame) (w : World) (m : ℕ) (o : Option ℕ) → can_answer f w m ≡ false → AheadBy f w m o → AheadBy f w (suc m) o
none_more f w m o away before = record {
  answers_too = before.answers_too;
  most = λ j lt is. elim (last_or j m lt) [
    | inl below ↦ before.most j below is
    | inr last ↦ absurd (both_ways (can_answer f w m) (subst (λ (x : ℕ). can_answer f w x ≡ true) last is) away)
  ];
}
  where
    both_ways : (b : Bool) → b ≡ true → b ≡ false → ⊥
    both_ways true e g = cc g
    both_ways false e g = cc e

one_ahead : (f : Frame) (w : World) (m : ℕ) (b : Bool) (o : Option ℕ) → can_answer f w m ≡ b → AheadBy f w m o → AheadBy f w (suc m) (cond b (Some (further w m o)) o)
one_ahead f w m false o is before = none_more f w m o is before
one_ahead f w m true None is before = first_ahead f w m is before
one_ahead f w m true (Some i) is before = next_ahead f w m i (ltb (number w i) (number w m)) refl is before

pub aheads : (f : Frame) (w : World) (n : ℕ) → AheadBy f w n (ahead f w n)
aheads f w zero = record { answers_too = λ k is. absurd (cc is); most = λ j lt is. absurd (omega (arith, lt)) }
aheads f w (suc m) = one_ahead f w m (can_answer f w m) (ahead f w m) refl (aheads f w m)

-- ---- in the end

end_catches : (f : Frame) (fates : List Fate) (w : World) (k : ℕ) (o : Option ℕ) (u : Rounding) → Passed (ends_with f fates w o u) → Clear u → Members f w → o ≡ Some k → can_answer f w k ≡ true →
    number w k ≤ (ends_with f fates w o u).copies.applied
end_catches f fates w k None u all clear members is here = absurd (cc is)
end_catches f fates w k (Some m) u all clear members is here =
    let same : m ≡ k = some_is m k is in
    let here_too : can_answer f w m ≡ true = subst (λ (x : ℕ). can_answer f w x ≡ true) (sym same) here in
    let caught = catches f fates w m (most_rounds w m) u all clear members here_too (omega arith) in
    let number_is : number w m ≡ number w k = ap (number w) same in
    omega (arith, caught, number_is)

pub rounds_catch : (f : Frame) → Knows f → (start : ℕ) (fates : List Fate) (steps : List Step) (w : World) (z : Rounding) → Rounds f start fates steps w z → Passed z →
    (m : ℕ) → can_answer f w m ≡ true → number w m ≤ z.copies.applied
rounds_catch f knows start fates steps w z rounds all m here =
    let so = rounds_end f knows start fates steps w z rounds in
    let members = knows.members so.steps w so.replays in
    let o = ahead f w f.settings.nodes in
    let u = rounds.before in
    let ended : Passed (ends_with f fates w o u) = subst Passed rounds.end all in
    let before : Passed u = passed_before u (ends_with f fates w o u) (end_grows f fates w o u) ended in
    let clear = alongside_clear f fates start 1 (opening_world f) steps opening_rounding w u before refl rounds.along in
    let by = aheads f w f.settings.nodes in
    let most = by.most m (is_member f w m here) here in
    let caught = end_catches f fates w most.0 o u ended clear members most.1 (by.answers_too most.0 most.1) in
    let end : z.copies.applied ≡ (ends_with f fates w o u).copies.applied = ap (λ (y : Rounding). y.copies.applied) rounds.end in
    omega (arith, caught, end, most.2)
