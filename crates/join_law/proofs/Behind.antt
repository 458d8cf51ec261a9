-- The rounds behind the run, one after the other.
use Rattle.std.proofs.Common.{◌≡◌, ◌≤◌, ◌<◌, ◌+◌, ◌⊎◌, ℕ, zero, suc, Bool, true, false, cond, leb, List, length, Option, Some, refl, sym, ap, ◌∙◌, subst, arith, inl, inr}
use Rattle.std.proofs.lemmas.Bool.{le-leb, leb-true}
use Rattle.net_rules.specs.declared.fate.Fate.{Fate}
use Rattle.world_rules.specs.declared.event.Step.{Step}
use Rattle.world_rules.specs.Frame.{Frame}
use Rattle.world_rules.specs.Worlds.{World}
use Rattle.join_law.specs.Rounds.{BehindRun, Rounding, Rounds, ahead, catches_up, ends_with, most_rounds, round}
use Rattle.join_law.specs.Moments.{BeginsBehind, IsBehind, RoundsWith}

-- ---- whether it is behind

not_if : (a n : ℕ) (b : Bool) → a < n → leb n a ≡ b → b ≡ false
not_if a n true lt e = let le = leb-true n a e in absurd (omega (arith, le, lt))
not_if a n false lt e = refl

pub not_below : (a n : ℕ) → a < n → leb n a ≡ false
not_below a n lt = not_if a n (leb n a) lt refl

-- ---- one more round

pub with_on : (f : Frame) (fates : List Fate) (w : World) (m n : ℕ) (u v : Rounding) → RoundsWith f fates w m n u v → IsBehind w m v → RoundsWith f fates w m (suc n) u (round f fates w m v)
with_on f fates w m zero u v with_it behind = (subst (λ (x : Rounding). IsBehind w m x) with_it behind, ap (round f fates w m) with_it)
with_on f fates w m (suc n) u v with_it behind = (with_it.0, with_on f fates w m n (round f fates w m u) v with_it.1 behind)

pub next_behind : (f : Frame) (start : ℕ) (fates : List Fate) (steps : List Step) (w : World) (m done : ℕ) (u : Rounding) → BeginsBehind f start fates steps w m done u → suc done < most_rounds w m →
    IsBehind w m (round f fates w m u) → BeginsBehind f start fates steps w m (suc done) (round f fates w m u)
next_behind f start fates steps w m done u b few behind = record {
  before = b.before;
  along = b.along;
  member = b.member;
  few = few;
  rounds = with_on f fates w m done b.before u b.rounds b.behind;
  behind = behind;
}

-- ---- where they are done

pub caught_now : (f : Frame) (fates : List Fate) (w : World) (m n : ℕ) (u : Rounding) → (w.nodes m).member.applied ≤ u.copies.applied → catches_up f fates w m n u ≡ u
caught_now f fates w m zero u le = refl
caught_now f fates w m (suc n) u le =
    ap (λ (b : Bool). cond b u (catches_up f fates w m n (round f fates w m u))) (le-leb (w.nodes m).member.applied u.copies.applied le)

one_round : (f : Frame) (fates : List Fate) (w : World) (m n : ℕ) (u : Rounding) → IsBehind w m u → catches_up f fates w m (suc n) u ≡ catches_up f fates w m n (round f fates w m u)
one_round f fates w m n u behind =
    ap (λ (b : Bool). cond b u (catches_up f fates w m n (round f fates w m u))) (not_below u.copies.applied (w.nodes m).member.applied behind)

caught_with : (f : Frame) (fates : List Fate) (w : World) (m n k all : ℕ) (u v : Rounding) → all ≡ n + k → RoundsWith f fates w m n u v → catches_up f fates w m all u ≡ catches_up f fates w m k v
caught_with f fates w m zero k all u v is with_it =
    let same : all ≡ k = omega (arith, is) in
    ap (λ (j : ℕ). catches_up f fates w m j u) same ∙ ap (catches_up f fates w m k) (sym with_it)
caught_with f fates w m (suc n) k zero u v is with_it = absurd (omega (arith, is))
caught_with f fates w m (suc n) k (suc all) u v is with_it =
    one_round f fates w m all u with_it.0 ∙ caught_with f fates w m n k all (round f fates w m u) v (omega (arith, is)) with_it.1

left_of : (n all : ℕ) → n < all → (k : ℕ) × (all ≡ n + suc k)
left_of n zero lt = absurd (omega (arith, lt))
left_of zero (suc all) lt = (all, omega arith)
left_of (suc n) (suc all) lt = let rest = left_of n all (omega (arith, lt)) in (rest.0, omega (arith, rest.1))

last_if : (f : Frame) (fates : List Fate) (w : World) (m done k : ℕ) (v : Rounding) → most_rounds w m ≡ done + suc k → ((w.nodes m).member.applied ≤ v.copies.applied) ⊎ (suc done ≡ most_rounds w m) →
    catches_up f fates w m k v ≡ v
last_if f fates w m done k v is (inl caught) = caught_now f fates w m k v caught
last_if f fates w m done k v is (inr all) = let none : k ≡ 0 = omega (arith, is, all) in ap (λ (j : ℕ). catches_up f fates w m j v) none

pub last_behind : (f : Frame) (start : ℕ) (fates : List Fate) (steps : List Step) (w : World) (m done : ℕ) (u : Rounding) → BeginsBehind f start fates steps w m done u →
    ((w.nodes m).member.applied ≤ (round f fates w m u).copies.applied) ⊎ (suc done ≡ most_rounds w m) → length fates ≡ length (round f fates w m u).asked →
    Rounds f start fates steps w (round f fates w m u)
last_behind f start fates steps w m done u b so fates_are =
    let v = round f fates w m u in
    let left = left_of done (most_rounds w m) b.few in
    let end : ends_with f fates w (ahead f w f.settings.nodes) b.before ≡ v =
    ap (λ (o : Option ℕ). ends_with f fates w o b.before) b.member
    ∙ caught_with f fates w m done (suc left.0) (most_rounds w m) b.before u left.1 b.rounds
    ∙ one_round f fates w m left.0 u b.behind
    ∙ last_if f fates w m done left.0 v left.1 so in
    record { before = b.before; along = b.along; end = sym end; fates_are = fates_are }

pub ends_at_once : (f : Frame) (fates : List Fate) (w : World) (o : Option ℕ) (u : Rounding) → ahead f w f.settings.nodes ≡ o → ends_with f fates w o u ≡ u → BehindRun f fates w u u
ends_at_once f fates w o u is same = sym (ap (λ (p : Option ℕ). ends_with f fates w p u) is ∙ same)

-- after however many
some_if : (f : Frame) (fates : List Fate) (w : World) (m done k : ℕ) (v : Rounding) → most_rounds w m ≡ done + k → ((w.nodes m).member.applied ≤ v.copies.applied) ⊎ (done ≡ most_rounds w m) →
    catches_up f fates w m k v ≡ v
some_if f fates w m done k v is (inl caught) = caught_now f fates w m k v caught
some_if f fates w m done k v is (inr all) = let none : k ≡ 0 = omega (arith, is, all) in ap (λ (j : ℕ). catches_up f fates w m j v) none

rest_of : (done most : ℕ) → done ≤ most → (k : ℕ) × (most ≡ done + k)
rest_of zero most le = (most, omega arith)
rest_of (suc done) zero le = absurd (omega (arith, le))
rest_of (suc done) (suc most) le = let rest = rest_of done most (omega (arith, le)) in (rest.0, omega (arith, rest.1))

pub some_behind : (f : Frame) (fates : List Fate) (w : World) (m done : ℕ) (before u : Rounding) → ahead f w f.settings.nodes ≡ Some m → done ≤ most_rounds w m → RoundsWith f fates w m done before u →
    ((w.nodes m).member.applied ≤ u.copies.applied) ⊎ (done ≡ most_rounds w m) → BehindRun f fates w before u
some_behind f fates w m done before u member le with_it so =
    let rest = rest_of done (most_rounds w m) le in
    sym (ap (λ (o : Option ℕ). ends_with f fates w o before) member ∙ caught_with f fates w m done rest.0 (most_rounds w m) before u rest.1 with_it ∙ some_if f fates w m done rest.0 u rest.1 so)
