-- Questions are asked behind those that were asked. So what the wire answers later changes nothing of what stands: with as many fates as
-- questions, further fates lead to the same.
use Rattle.std.proofs.Common.{◌≡◌, ◌≤◌, ◌<◌, ℕ, zero, suc, Bool, true, false, cond, leb, List, [], ◌∷◌, ◌++◌, length, Option, None, Some, refl, sym, ap, ◌∙◌, subst, arith, inl, inr}
use Rattle.std.specs.List.{AllByRecursion}
use Rattle.std.specs.Prelude.{◌%◌}
use Rattle.net_rules.specs.declared.asked.Asked.{Asked}
use Rattle.net_rules.specs.declared.fate.Fate.{Fate}
use Rattle.net_rules.specs.declared.flight.Flight.{Flight}
use Rattle.group_join.specs.declared.packet.JoinPacket.{JoinPacket}
use Rattle.group_join.specs.declared.packet.JoinPacket.TheVariants.{Seek, State, Next as Gives}
use Rattle.group_join.specs.Seeking.{answer_of}
use Rattle.world_rules.specs.declared.event.Step.{Step}
use Rattle.world_rules.specs.Frame.{Frame}
use Rattle.world_rules.specs.Worlds.{World, opening_world}
use Rattle.join_law.specs.Rounds.{Alongside, Carried, Rounding, can_answer, catches_up, due, ends_with, fate_in, is_whole, most_rounds, opening_rounding, releases, round, seeks, still, turns}
use Rattle.join_law.specs.Moments.{BeginsBehind, Moment, RoundsWith, WithinRound, answer_sent, asks_member, between, first_reaches, moments, next_moment, opens_round, reaches, sent_as}
use Rattle.join_law.proofs.Reaching.{all_run, none_behind, releases_end, seek_runs, seeks_end}

-- the first questions of these are those
pub record Extends (xs zs : List Asked) : Type 0 where
  pub more : List Asked
  pub are : zs ≡ xs ++ more

pub extends_none : (xs : List Asked) → Extends xs xs
extends_none xs = record { more = []; are = sym (none_behind xs) }

behind_both : (xs ys zs : List Asked) → (xs ++ ys) ++ zs ≡ xs ++ (ys ++ zs)
behind_both [] ys zs = refl
behind_both (x ∷ xs) ys zs = ap (λ (rest : List Asked). x ∷ rest) (behind_both xs ys zs)

pub extends_both : (xs ys zs : List Asked) → Extends xs ys → Extends ys zs → Extends xs zs
extends_both xs ys zs one other = record {
  more = one.more ++ other.more;
  are = other.are ∙ ap (λ (front : List Asked). front ++ other.more) one.are ∙ behind_both xs one.more other.more;
}

front_length : (xs more : List Asked) → length xs ≤ length (xs ++ more)
front_length [] more = omega arith
front_length (x ∷ xs) more = omega (arith, front_length xs more)

pub extends_length : (xs zs : List Asked) → Extends xs zs → length xs ≤ length zs
extends_length xs zs e = omega (arith, front_length xs e.more, ap (λ (ys : List Asked). length ys) e.are)

front_all : (P : Asked → Type 0) (xs more : List Asked) → AllByRecursion P (xs ++ more) → AllByRecursion P xs
front_all P [] more all = tt
front_all P (x ∷ xs) more all = (all.0, front_all P xs more all.1)

-- so what is so of all that were asked in the end was so of those before
pub extends_all : (P : Asked → Type 0) (xs zs : List Asked) → Extends xs zs → AllByRecursion P zs → AllByRecursion P xs
extends_all P xs zs e all = front_all P xs e.more (subst (AllByRecursion P) e.are all)

fate_on : (fates more : List Fate) (n : ℕ) → n < length fates → fate_in (fates ++ more) n ≡ fate_in fates n
fate_on [] more n lt = absurd (omega (arith, lt))
fate_on (x ∷ xs) more zero lt = refl
fate_on (x ∷ xs) more (suc n) lt = fate_on xs more n (omega (arith, lt))

one_more : (xs : List Asked) (x : Asked) → length (xs ++ x ∷ []) ≡ suc (length xs)
one_more [] x = refl
one_more (y ∷ ys) x = ap (λ (n : ℕ). suc n) (one_more ys x)

-- the questions by a moment, and how many
abbrev questions : Moment → List Asked
questions v = v.rounding.asked

abbrev many : Moment → ℕ
many v = length (questions v)

sent_more : (fate : Fate) (from to : ℕ) (packet : JoinPacket) (v : Moment) → Extends (questions v) (questions (sent_as fate from to packet v))
sent_more fate from to packet v = record { more = _; are = refl }

sent_asks : (fate : Fate) (from to : ℕ) (packet : JoinPacket) (v : Moment) → many (sent_as fate from to packet v) ≡ suc (many v)
sent_asks fate from to packet v = one_more (questions v) _

-- ---- one moment

answer_grows : (f : Frame) (fates : List Fate) (m : ℕ) (answer : Option JoinPacket) (v : Moment) → Extends (questions v) (questions (answer_sent f fates m answer v))
answer_grows f fates m None v = extends_none (questions v)
answer_grows f fates m (Some packet) v = sent_more (fate_in fates (many v)) m f.settings.nodes packet v

sought_grows : (f : Frame) (fates : List Fate) (m : ℕ) (answer : Option JoinPacket) (b : Bool) (v : Moment) → Extends (questions v) (questions (cond b (answer_sent f fates m answer v) v))
sought_grows f fates m answer true v = answer_grows f fates m answer v
sought_grows f fates m answer false v = extends_none (questions v)

reach_grows : (f : Frame) (fates : List Fate) (w : World) (to : ℕ) (packet : JoinPacket) (v : Moment) → Extends (questions v) (questions (reaches f fates w to packet v))
reach_grows f fates w to (Seek applied) v = sought_grows f fates to (answer_of (w.nodes to).member (w.nodes to).copies applied) (can_answer f w to) v
reach_grows f fates w to (State state) v = extends_none (questions v)
reach_grows f fates w to (Gives number x) v = extends_none (questions v)

whole_grows : (f : Frame) (fates : List Fate) (w : World) (to : ℕ) (packet : JoinPacket) (b : Bool) (v : Moment) → Extends (questions v) (questions (cond b (reaches f fates w to packet v) v))
whole_grows f fates w to packet true v = reach_grows f fates w to packet v
whole_grows f fates w to packet false v = extends_none (questions v)

first_grows : (f : Frame) (fates : List Fate) (w : World) (u : Rounding) (xs : List (Flight Carried)) → Extends u.asked (questions (first_reaches f fates w u xs))
first_grows f fates w u [] = extends_none u.asked
first_grows f fates w u (x ∷ xs) = whole_grows f fates w x.to x.packet.packet (is_whole x.packet) (record { rounding = u; coming = xs })

answer_same : (f : Frame) (fates more : List Fate) (m : ℕ) (answer : Option JoinPacket) (v : Moment) → many (answer_sent f fates m answer v) ≤ length fates →
    answer_sent f (fates ++ more) m answer v ≡ answer_sent f fates m answer v
answer_same f fates more m None v le = refl
answer_same f fates more m (Some packet) v le =
    ap (λ (fate : Fate). sent_as fate m f.settings.nodes packet v) (fate_on fates more (many v) (omega (arith, le, sent_asks (fate_in fates (many v)) m f.settings.nodes packet v)))

sought_same : (f : Frame) (fates more : List Fate) (m : ℕ) (answer : Option JoinPacket) (b : Bool) (v : Moment) → many (cond b (answer_sent f fates m answer v) v) ≤ length fates →
    cond b (answer_sent f (fates ++ more) m answer v) v ≡ cond b (answer_sent f fates m answer v) v
sought_same f fates more m answer true v le = answer_same f fates more m answer v le
sought_same f fates more m answer false v le = refl

reach_same : (f : Frame) (fates more : List Fate) (w : World) (to : ℕ) (packet : JoinPacket) (v : Moment) → many (reaches f fates w to packet v) ≤ length fates →
    reaches f (fates ++ more) w to packet v ≡ reaches f fates w to packet v
reach_same f fates more w to (Seek applied) v le = sought_same f fates more to (answer_of (w.nodes to).member (w.nodes to).copies applied) (can_answer f w to) v le
reach_same f fates more w to (State state) v le = refl
reach_same f fates more w to (Gives number x) v le = refl

whole_same : (f : Frame) (fates more : List Fate) (w : World) (to : ℕ) (packet : JoinPacket) (b : Bool) (v : Moment) → many (cond b (reaches f fates w to packet v) v) ≤ length fates →
    cond b (reaches f (fates ++ more) w to packet v) v ≡ cond b (reaches f fates w to packet v) v
whole_same f fates more w to packet true v le = reach_same f fates more w to packet v le
whole_same f fates more w to packet false v le = refl

first_same : (f : Frame) (fates more : List Fate) (w : World) (u : Rounding) (xs : List (Flight Carried)) → many (first_reaches f fates w u xs) ≤ length fates →
    first_reaches f (fates ++ more) w u xs ≡ first_reaches f fates w u xs
first_same f fates more w u [] le = refl
first_same f fates more w u (x ∷ xs) le = whole_same f fates more w x.to x.packet.packet (is_whole x.packet) (record { rounding = u; coming = xs }) le

-- ---- moments

moments_grow : (f : Frame) (fates : List Fate) (w : World) (n : ℕ) (v : Moment) → Extends (questions v) (questions (moments f fates w n v))
moments_grow f fates w zero v = extends_none (questions v)
moments_grow f fates w (suc n) v =
    let x = next_moment f fates w v in
    extends_both (questions v) (questions x) (questions (moments f fates w n x)) (first_grows f fates w v.rounding v.coming) (moments_grow f fates w n x)

more_moments : (f : Frame) (fates : List Fate) (w : World) (n : ℕ) (v : Moment) → many v ≤ many (moments f fates w n v)
more_moments f fates w n v = extends_length (questions v) (questions (moments f fates w n v)) (moments_grow f fates w n v)

-- to where they run out
run_grows : (f : Frame) (fates : List Fate) (w : World) (n : ℕ) (v : Moment) (z : Rounding) → moments f fates w n v ≡ between z → Extends (questions v) z.asked
run_grows f fates w n v z e = subst (λ (x : Moment). Extends (questions v) (questions x)) e (moments_grow f fates w n v)

moments_same : (f : Frame) (fates more : List Fate) (w : World) (n : ℕ) (v : Moment) → many (moments f fates w n v) ≤ length fates →
    moments f (fates ++ more) w n v ≡ moments f fates w n v
moments_same f fates more w zero v le = refl
moments_same f fates more w (suc n) v le =
    let x = next_moment f fates w v in
    let one = first_same f fates more w v.rounding v.coming (omega (arith, le, more_moments f fates w n x)) in
    ap (moments f (fates ++ more) w n) one ∙ moments_same f fates more w n x le

-- ---- a round

pub released_grows : (f : Frame) (fates : List Fate) (w : World) (u : Rounding) → Extends u.asked (releases f fates w u).asked
released_grows f fates w u =
    let all = all_run f fates w (due u) (record u { held = still u }) in run_grows f fates w all.0 (opens_round u) (releases f fates w u) all.1

released_same : (f : Frame) (fates more : List Fate) (w : World) (u : Rounding) → length (releases f fates w u).asked ≤ length fates → releases f (fates ++ more) w u ≡ releases f fates w u
released_same f fates more w u le =
    let all = all_run f fates w (due u) (record u { held = still u }) in
    let is : many (moments f fates w all.0 (opens_round u)) ≡ length (releases f fates w u).asked = ap many all.1 in
    sym (releases_end f (fates ++ more) w all.0 u (releases f fates w u) (moments_same f fates more w all.0 (opens_round u) (omega (arith, is, le)) ∙ all.1))

asked_same : (f : Frame) (fates more : List Fate) (m : ℕ) (u : Rounding) → suc (length u.asked) ≤ length fates → asks_member f (fates ++ more) m u ≡ asks_member f fates m u
asked_same f fates more m u le = ap (λ (fate : Fate). sent_as fate f.settings.nodes m (Seek u.copies.applied) (between u)) (fate_on fates more (length u.asked) (omega (arith, le)))

asks : (f : Frame) (fates : List Fate) (m : ℕ) (u : Rounding) → many (asks_member f fates m u) ≡ suc (length u.asked)
asks f fates m u = sent_asks (fate_in fates (length u.asked)) f.settings.nodes m (Seek u.copies.applied) (between u)

pub seeks_grow : (f : Frame) (fates : List Fate) (w : World) (m : ℕ) (u : Rounding) → Extends (questions (asks_member f fates m u)) (seeks f fates w m u).asked
seeks_grow f fates w m u = let runs = seek_runs f fates w m u in run_grows f fates w runs.0 (asks_member f fates m u) (seeks f fates w m u) runs.1

pub round_grows : (f : Frame) (fates : List Fate) (w : World) (m : ℕ) (u : Rounding) → Extends u.asked (round f fates w m u).asked
round_grows f fates w m u =
    let v = releases f fates w u in
    let seek = sent_more (fate_in fates (length v.asked)) f.settings.nodes m (Seek v.copies.applied) (between v) in
    let asked = questions (asks_member f fates m v) in
    let end = (round f fates w m u).asked in
    extends_both u.asked v.asked end (released_grows f fates w u) (extends_both v.asked asked end seek (seeks_grow f fates w m v))

-- the second half's moments
second_same : (f : Frame) (fates more : List Fate) (w : World) (m n : ℕ) (u : Rounding) → many (moments f fates w n (asks_member f fates m (releases f fates w u))) ≤ length fates →
    moments f (fates ++ more) w n (asks_member f (fates ++ more) m (releases f (fates ++ more) w u)) ≡ moments f fates w n (asks_member f fates m (releases f fates w u))
second_same f fates more w m n u le =
    let v = releases f fates w u in
    let grows : many (asks_member f fates m v) ≤ many (moments f fates w n (asks_member f fates m v)) = more_moments f fates w n (asks_member f fates m v) in
    let few : suc (length v.asked) ≤ length fates = omega (arith, le, grows, asks f fates m v) in
    let first : releases f (fates ++ more) w u ≡ v = released_same f fates more w u (omega (arith, few)) in
    ap (λ (x : Rounding). moments f (fates ++ more) w n (asks_member f (fates ++ more) m x)) first
    ∙ ap (moments f (fates ++ more) w n) (asked_same f fates more m v few)
    ∙ moments_same f fates more w n (asks_member f fates m v) le

round_same : (f : Frame) (fates more : List Fate) (w : World) (m : ℕ) (u : Rounding) → length (round f fates w m u).asked ≤ length fates → round f (fates ++ more) w m u ≡ round f fates w m u
round_same f fates more w m u le =
    let v = releases f fates w u in
    let runs = seek_runs f fates w m v in
    let is : many (moments f fates w runs.0 (asks_member f fates m v)) ≡ length (round f fates w m u).asked = ap many runs.1 in
    sym (seeks_end f (fates ++ more) w m runs.0 u (seeks f fates w m v) (second_same f fates more w m runs.0 u (omega (arith, is, le)) ∙ runs.1))

-- ---- beside a run

turned_grows : (f : Frame) (fates : List Fate) (w : World) (m : ℕ) (b : Bool) (u : Rounding) → Extends u.asked (cond b (round f fates w m u) u).asked
turned_grows f fates w m true u = round_grows f fates w m u
turned_grows f fates w m false u = extends_none u.asked

turned_same : (f : Frame) (fates more : List Fate) (w : World) (m : ℕ) (b : Bool) (u : Rounding) → length (cond b (round f fates w m u) u).asked ≤ length fates →
    cond b (round f (fates ++ more) w m u) u ≡ cond b (round f fates w m u) u
turned_same f fates more w m true u le = round_same f fates more w m u le
turned_same f fates more w m false u le = refl

pub along_grows : (f : Frame) (fates : List Fate) (start n : ℕ) (w : World) (steps : List Step) (u : Rounding) (v : World) (z : Rounding) → Alongside f fates start n w steps u v z →
    Extends u.asked z.asked
along_grows f fates start n w [] u v z along = subst (λ (y : Rounding). Extends u.asked y.asked) (sym along.1) (extends_none u.asked)
along_grows f fates start n w (step ∷ steps) u v z along =
    let y = turns f fates start along.0 n u in
    extends_both u.asked y.asked z.asked (turned_grows f fates along.0 (u.rounds % f.settings.nodes) (leb start n) u) (along_grows f fates start (suc n) along.0 steps y v z along.2)

pub along_same : (f : Frame) (fates more : List Fate) (start n : ℕ) (w : World) (steps : List Step) (u : Rounding) (v : World) (z : Rounding) → length z.asked ≤ length fates →
    Alongside f fates start n w steps u v z → Alongside f (fates ++ more) start n w steps u v z
along_same f fates more start n w [] u v z le along = along
along_same f fates more start n w (step ∷ steps) u v z le along =
    let x = along.0 in
    let y = turns f fates start x n u in
    let few : length y.asked ≤ length fates = omega (arith, le, extends_length y.asked z.asked (along_grows f fates start (suc n) x steps y v z along.2)) in
    let same : turns f (fates ++ more) start x n u ≡ y = turned_same f fates more x (u.rounds % f.settings.nodes) (leb start n) u few in
    (x, along.1, subst (λ (t : Rounding). Alongside f (fates ++ more) start (suc n) x steps t v z) (sym same) (along_same f fates more start (suc n) x steps y v z le along.2))

pub within_same : (f : Frame) (fates more : List Fate) (w : World) (m : ℕ) (u : Rounding) (v : Moment) → length v.rounding.asked ≤ length fates → WithinRound f fates w m u v → WithinRound f (fates ++ more) w m u v
within_same f fates more w m u v le within = (
  within.0,
  elim within.1 [
    | inl e ↦ inl (e ∙ sym (moments_same f fates more w within.0 (opens_round u) (omega (arith, le, ap many e))))
    | inr e ↦ inr (e ∙ sym (second_same f fates more w m within.0 u (omega (arith, le, ap many e))))
  ],
)

-- ---- behind it

caught_if : (f : Frame) (fates : List Fate) (w : World) (m n : ℕ) (u : Rounding) (b : Bool) → Extends (round f fates w m u).asked (catches_up f fates w m n (round f fates w m u)).asked →
    Extends u.asked (cond b u (catches_up f fates w m n (round f fates w m u))).asked
caught_if f fates w m n u true more = extends_none u.asked
caught_if f fates w m n u false more =
    let v = round f fates w m u in extends_both u.asked v.asked (catches_up f fates w m n v).asked (round_grows f fates w m u) more

pub caught_grows : (f : Frame) (fates : List Fate) (w : World) (m n : ℕ) (u : Rounding) → Extends u.asked (catches_up f fates w m n u).asked
caught_grows f fates w m zero u = extends_none u.asked
caught_grows f fates w m (suc n) u =
    caught_if f fates w m n u (leb (w.nodes m).member.applied u.copies.applied) (caught_grows f fates w m n (round f fates w m u))

pub end_grows : (f : Frame) (fates : List Fate) (w : World) (o : Option ℕ) (u : Rounding) → Extends u.asked (ends_with f fates w o u).asked
end_grows f fates w None u = extends_none u.asked
end_grows f fates w (Some m) u = caught_grows f fates w m (most_rounds w m) u

with_grows : (f : Frame) (fates : List Fate) (w : World) (m n : ℕ) (u v : Rounding) → RoundsWith f fates w m n u v → Extends u.asked v.asked
with_grows f fates w m zero u v with_it = subst (λ (y : Rounding). Extends u.asked y.asked) (sym with_it) (extends_none u.asked)
with_grows f fates w m (suc n) u v with_it =
    let x = round f fates w m u in extends_both u.asked x.asked v.asked (round_grows f fates w m u) (with_grows f fates w m n x v with_it.1)

with_same : (f : Frame) (fates more : List Fate) (w : World) (m n : ℕ) (u v : Rounding) → length v.asked ≤ length fates → RoundsWith f fates w m n u v → RoundsWith f (fates ++ more) w m n u v
with_same f fates more w m zero u v le with_it = with_it
with_same f fates more w m (suc n) u v le with_it =
    let x = round f fates w m u in
    let few : length x.asked ≤ length fates = omega (arith, le, extends_length x.asked v.asked (with_grows f fates w m n x v with_it.1)) in
    (with_it.0, subst (λ (t : Rounding). RoundsWith f (fates ++ more) w m n t v) (sym (round_same f fates more w m u few)) (with_same f fates more w m n x v le with_it.1))

pub behind_same : (f : Frame) (start : ℕ) (fates more : List Fate) (steps : List Step) (w : World) (m done : ℕ) (u : Rounding) → length u.asked ≤ length fates →
    BeginsBehind f start fates steps w m done u → BeginsBehind f start (fates ++ more) steps w m done u
behind_same f start fates more steps w m done u le b =
    let few : length b.before.asked ≤ length fates = omega (arith, le, extends_length b.before.asked u.asked (with_grows f fates w m done b.before u b.rounds)) in
    record {
      before = b.before;
      along = along_same f fates more start 1 (opening_world f) steps opening_rounding w b.before few b.along;
      member = b.member;
      few = b.few;
      rounds = with_same f fates more w m done b.before u le b.rounds;
      behind = b.behind;
    }
