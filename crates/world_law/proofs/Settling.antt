-- The rounds that `waiting` counts leave nothing due, and a round more changes nothing.
use Rattle.std.proofs.Common.{◌≡◌, ◌+◌, ◌≤◌, ◌<◌, ◌⊎◌, ℕ, suc, List, [], ◌∷◌, ◌++◌, length, take, drop, refl, sym, ap, ◌∙◌, arith, subst, inl, inr, nat_lt}
use Rattle.std.proofs.lemmas.Bool.{cond_both, cond-false, le-ltb, ltb-false}
use Rattle.std.proofs.lemmas.List.{drop-drop, take-append-le}
use Rattle.value_core.specs.declared.message.Message.{Message}
use Rattle.group_rules.specs.Member.{Member, Waiting}
use Rattle.group_rules.specs.Steps.{note, noted}
use Rattle.world_rules.specs.Applying.{applies, applies_all, applies_each, applies_one, due_entries, notes, passes_limit, round, rounds}
use Rattle.world_rules.specs.Frame.{Frame, group}
use Rattle.world_rules.specs.Nodes.{NodeWork}
use Rattle.world_law.specs.CaughtUp.{HasCaughtUp, IsSettled, MayCatchUp, StopsAt}
use Rattle.world_law.proofs.Applied.{applied_due, applied_exactly, member_applies}
use Rattle.world_law.proofs.AtWork.{if_true}
use Rattle.world_law.proofs.Noted.{Noted, note_noted}
use Rattle.world_law.proofs.Once.{trichotomy}

-- ---- the entries that are due are applied up to a limit

-- so many of them were, and the next passes a limit
record Left (f : Frame) (xs : List Message) (v u : NodeWork) : Type 0 where
  count : ℕ
  applied : u.node.copies.applied ≡ v.node.copies.applied + count
  stops : StopsAt f u.node.copies (drop count xs)

left_each : (f : Frame) (m : ℕ) (xs : List Message) (v : NodeWork) → Left f xs v (applies_each f m xs v)
left_each f m [] v = record { count = 0; applied = omega arith; stops = tt }
left_each f m (x ∷ xs) v = cond_both (passes_limit f v.node x) _ _ (Left f (x ∷ xs) v)
    (λ e. record { count = 0; applied = omega arith; stops = e })
    (λ e.
    let one = applied_exactly f m x v in
    let rest = left_each f m xs (applies_one f m x v) in
    let more = rest.applied in
    record { count = suc rest.count; applied = omega (arith, one, more); stops = rest.stops })

pub up_applies : (f : Frame) (m : ℕ) (v : NodeWork) → HasCaughtUp f (applies f m v).node
up_applies f m v =
    let u : NodeWork = applies f m v in
    let left = left_each f m (due_entries v.node) v in
    let member : u.node.member ≡ v.node.member = member_applies f m (due_entries v.node) v in
    let due : due_entries u.node ≡ drop left.count (due_entries v.node) =
    ap (λ (s : Member Message). drop u.node.copies.applied (take s.accepted s.log)) member
    ∙ ap (λ n. drop n (take v.node.member.accepted v.node.member.log)) left.applied
    ∙ sym (drop-drop left.count v.node.copies.applied (take v.node.member.accepted v.node.member.log)) in
    subst (StopsAt f u.node.copies) (sym due) left.stops

-- where it stops at once nothing is applied
stays_each : (f : Frame) (m : ℕ) (xs : List Message) (v : NodeWork) → StopsAt f v.node.copies xs → applies_each f m xs v ≡ v
stays_each f m [] v h = refl
stays_each f m (x ∷ xs) v h = if_true (passes_limit f v.node x) v (applies_each f m xs (applies_one f m x v)) h

pub settled : (f : Frame) (m : ℕ) (v : NodeWork) → HasCaughtUp f v.node → v.node.member.applied ≡ v.node.copies.applied → IsSettled f m v
settled f m v up told = record {
  up = up;
  told = told;
  again = ap (notes f m) (stays_each f m (due_entries v.node) v up)
      ∙ cond-false (nat_lt v.node.member.applied v.node.copies.applied) _ _ (le-ltb v.node.member.applied v.node.copies.applied (omega (arith, told)));
}

-- ---- a round

record Rounds (f : Frame) (v u : NodeWork) : Type 0 where
  may : MayCatchUp u
  told : u.node.member.applied ≡ u.node.copies.applied
  waits : length u.node.member.waiting ≤ length v.node.member.waiting
  settles : HasCaughtUp f u.node ⊎ (suc (length u.node.member.waiting) ≤ length v.node.member.waiting)

-- the entries that were due are due still, where no more is accepted
up_noted : (f : Frame) (v : NodeWork) (t : Member Message) → HasCaughtUp f v.node → v.node.member.accepted ≤ length v.node.member.log →
    t.accepted ≡ v.node.member.accepted → (more : List Message) → t.log ≡ v.node.member.log ++ more → HasCaughtUp f (record v.node { member = t })
up_noted f v t up logged accepted more log =
    let same : take t.accepted t.log ≡ take v.node.member.accepted v.node.member.log =
    ap (λ n. take n t.log) accepted ∙ ap (take v.node.member.accepted) log ∙ take-append-le v.node.member.accepted v.node.member.log more logged in
    subst (StopsAt f v.node.copies) (sym (ap (drop v.node.copies.applied) same)) up

-- a member at work whose entries were applied, and the note that follows
noted_on : (f : Frame) (m : ℕ) (v : NodeWork) → MayCatchUp v → HasCaughtUp f v.node → Rounds f v (notes f m v)
noted_on f m v may up = cond_both (nat_lt v.node.member.applied v.node.copies.applied) _ _ (Rounds f v)
    (λ e.
    let k : ℕ = v.node.copies.applied in
    let s : Member Message = v.node.member in
    let t : Member Message = (note (group f) m k s).state in
    let n : Noted (noted (group f) k s) t (length s.waiting) = note_noted (group f) m k s in
    let told : t.applied ≡ k = n.grows.applied in
    let more : s.accepted ≤ t.accepted = n.grows.accepted may.logged in
    let below = may.below in
    record {
      may = record { noted = omega (arith, told); below = omega (arith, below, more); logged = n.grows.logged may.logged };
      told = told;
      waits = n.waits;
      settles = by t n.accepts n.grows.log.0 n.grows.log.1;
    })
    (λ e.
    let not_less = ltb-false v.node.member.applied v.node.copies.applied e in
    let at_least = may.noted in
    record { may = may; told = omega (arith, not_less, at_least); waits = omega arith; settles = inl up })
  where
    by : (t : Member Message) → (t.accepted ≡ v.node.member.accepted) ⊎ (suc (length t.waiting) ≤ length v.node.member.waiting) →
        (more : List Message) → t.log ≡ v.node.member.log ++ more →
        HasCaughtUp f (record v.node { member = t }) ⊎ (suc (length t.waiting) ≤ length v.node.member.waiting)
    by t (inl same) more log = inl (up_noted f v t up may.logged same more log)
    by t (inr fewer) more log = inr fewer

-- after the entries that are due
may_applies : (f : Frame) (m : ℕ) (v : NodeWork) → MayCatchUp v → MayCatchUp (applies f m v)
may_applies f m v may =
    let a = applied_due f (group f) m m v may.below in
    let applied = ap (λ (s : Member Message). s.applied) a.member in
    let accepted = ap (λ (s : Member Message). s.accepted) a.member in
    let log = ap (λ (s : Member Message). length s.log) a.member in
    let noted = may.noted in
    let below = may.below in
    let logged = may.logged in
    let least = a.least in
    let most = a.most in
    record {
      noted = omega (arith, noted, applied, least);
      below = omega (arith, below, accepted, most);
      logged = omega (arith, logged, accepted, log);
    }

round_is : (f : Frame) (m : ℕ) (v : NodeWork) → MayCatchUp v → Rounds f v (round f m v)
round_is f m v may =
    let u : NodeWork = applies f m v in
    let r = noted_on f m u (may_applies f m v may) (up_applies f m v) in
    let waiting : length u.node.member.waiting ≡ length v.node.member.waiting =
    ap (λ (s : Member Message). length s.waiting) (member_applies f m (due_entries v.node) v) in
    let waits = r.waits in
    record {
      may = r.may;
      told = r.told;
      waits = omega (arith, waits, waiting);
      settles = subst (λ n. HasCaughtUp f (round f m v).node ⊎ (suc (length (round f m v).node.member.waiting) ≤ n)) waiting r.settles;
    }

pub may_round : (f : Frame) (m : ℕ) (v : NodeWork) → MayCatchUp v → MayCatchUp (round f m v)
may_round f m v may = (round_is f m v may).may

-- ---- rounds

stays_rounds : (f : Frame) (m : ℕ) (waiting : List (Waiting Message)) (v : NodeWork) → round f m v ≡ v → rounds f m waiting v ≡ v
stays_rounds f m [] v h = h
stays_rounds f m (one ∷ more) v h = ap (rounds f m more) h ∙ stays_rounds f m more v h

settles_rounds : (f : Frame) (m : ℕ) (waiting : List (Waiting Message)) (v : NodeWork) → MayCatchUp v →
    length v.node.member.waiting ≤ length waiting → IsSettled f m (rounds f m waiting v)
settles_rounds f m [] v may le =
    let r = round_is f m v may in
    by r.settles r.told
  where
    by : HasCaughtUp f (round f m v).node ⊎ (suc (length (round f m v).node.member.waiting) ≤ length v.node.member.waiting) →
        (round f m v).node.member.applied ≡ (round f m v).node.copies.applied → IsSettled f m (round f m v)
    by (inl up) told = settled f m (round f m v) up told
    by (inr fewer) told = absurd (omega (arith, fewer, le))
settles_rounds f m (one ∷ more) v may le =
    let r = round_is f m v may in
    let then : length (round f m v).node.member.waiting ≤ length more → IsSettled f m (rounds f m more (round f m v)) =
    λ fits. settles_rounds f m more (round f m v) r.may fits in
    by r.settles r.told then
  where
    by : HasCaughtUp f (round f m v).node ⊎ (suc (length (round f m v).node.member.waiting) ≤ length v.node.member.waiting) →
        (round f m v).node.member.applied ≡ (round f m v).node.copies.applied →
        (length (round f m v).node.member.waiting ≤ length more → IsSettled f m (rounds f m more (round f m v))) →
        IsSettled f m (rounds f m more (round f m v))
    by (inl up) told then =
        let s : IsSettled f m (round f m v) = settled f m (round f m v) up told in
        subst (IsSettled f m) (sym (stays_rounds f m more (round f m v) s.again)) s
    by (inr fewer) told then = then (omega (arith, fewer, le))

pub settles : (f : Frame) (m : ℕ) (v : NodeWork) → MayCatchUp v → IsSettled f m (applies_all f m v)
settles f m v may = settles_rounds f m v.node.member.waiting v may (omega arith)

told_rounds : (f : Frame) (m : ℕ) (waiting : List (Waiting Message)) (v : NodeWork) → MayCatchUp v →
    (rounds f m waiting v).node.member.applied ≡ (rounds f m waiting v).node.copies.applied
told_rounds f m [] v may = (round_is f m v may).told
told_rounds f m (one ∷ more) v may = told_rounds f m more (round f m v) (may_round f m v may)

rounds_more : (f : Frame) (m : ℕ) (few many : List (Waiting Message)) (v : NodeWork) → round f m (rounds f m few v) ≡ rounds f m few v →
    length few ≤ length many → rounds f m many v ≡ rounds f m few v
rounds_more f m [] [] v h le = refl
rounds_more f m [] (y ∷ many) v h le = stays_rounds f m many (round f m v) h
rounds_more f m (x ∷ few) [] v h le = absurd (omega (arith, le))
rounds_more f m (x ∷ few) (y ∷ many) v h le = rounds_more f m few many (round f m v) h (omega (arith, le))

pub settles_once : (f : Frame) (m : ℕ) (v : NodeWork) (some : List (Waiting Message)) → MayCatchUp v → HasCaughtUp f (rounds f m some v).node →
    rounds f m some v ≡ applies_all f m v
settles_once f m v some may up = by (trichotomy (length some) (length v.node.member.waiting))
  where
    one : IsSettled f m (rounds f m some v)
    one = settled f m (rounds f m some v) up (told_rounds f m some v may)

    by : (length some < length v.node.member.waiting) ⊎ ((length some ≡ length v.node.member.waiting) ⊎ (length v.node.member.waiting < length some)) →
        rounds f m some v ≡ applies_all f m v
    by (inl less) = sym (rounds_more f m some v.node.member.waiting v one.again (omega (arith, less)))
    by (inr (inl same)) = sym (rounds_more f m some v.node.member.waiting v one.again (omega (arith, same)))
    by (inr (inr less)) = rounds_more f m v.node.member.waiting some v (settles f m v may).again (omega (arith, less))
