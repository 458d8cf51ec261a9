-- A member that catches up and has then applied no more, did nothing in the group.
use Rattle.std.proofs.Common.{◌≡◌, ◌≤◌, ℕ, List, [], ◌∷◌, sym, ap, ◌∙◌, arith, nat_lt}
use Rattle.std.proofs.lemmas.Bool.{cond_both, ltb-true}
use Rattle.value_core.specs.declared.message.Message.{Message}
use Rattle.group_rules.specs.Member.{Member, Waiting}
use Rattle.group_rules.specs.Messages.{Group}
use Rattle.group_rules.specs.Steps.{note}
use Rattle.group_rules.specs.World.{Past}
use Rattle.world_rules.specs.Applying.{applies, applies_all, due_entries, round, rounds}
use Rattle.world_rules.specs.Frame.{Frame, group}
use Rattle.world_rules.specs.Nodes.{NodeWork, joins, past_after}
use Rattle.world_rules.specs.Owners.{takes_reached}
use Rattle.world_rules.specs.Parts.{catches_up}
use Rattle.world_law.proofs.Noted.{note_noted}
use Rattle.world_law.specs.Moments.{sent_letters}
use Rattle.world_law.proofs.Applied.{applied_each}
use Rattle.world_law.proofs.Still.{Still, still_reached}

-- the member, what the group remembers, and what was sent, stay
pub record Same (g : Group Message) (m : ℕ) (v u : NodeWork) : Type 0 where
  pub member : u.node.member ≡ v.node.member
  pub past : (p : Past Message) → past_after g m u.deeds p ≡ past_after g m v.deeds p
  pub letters : sent_letters u.deeds ≡ sent_letters v.deeds

pub same_on : {g : Group Message} {m : ℕ} {v u t : NodeWork} → Same g m v u → Same g m u t → Same g m v t
same_on one two = record { member = two.member ∙ one.member; past = λ p. two.past p ∙ one.past p; letters = two.letters ∙ one.letters }

pub by_still : {g : Group Message} {m : ℕ} {v u : NodeWork} → Still g m v u → Same g m v u
by_still s = record { member = s.member; past = s.past; letters = s.letters }

-- what a member applied, as the group knows it
abbrev noted_in : NodeWork → ℕ
noted_in v = v.node.member.applied

note_applied : (g : Group Message) (m n : ℕ) (s : Member Message) → (note g m n s).state.applied ≡ n
note_applied g m n s = (note_noted g m n s).grows.applied

applying : (f : Frame) (m : ℕ) (v : NodeWork) → Same (group f) m v (applies f m v)
applying f m v = let a = applied_each f (group f) m m (due_entries v.node) v in record { member = a.member; past = a.past; letters = a.letters }

-- a round notes no less
round_up : (f : Frame) (m : ℕ) (v : NodeWork) → noted_in v ≤ noted_in (round f m v)
round_up f m v =
    let u : NodeWork = applies f m v in
    let same : noted_in u ≡ noted_in v = ap (λ (s : Member Message). s.applied) (applying f m v).member in
    cond_both (nat_lt u.node.member.applied u.node.copies.applied) (joins (note (group f) m u.node.copies.applied u.node.member) u) u (λ (t : NodeWork). noted_in v ≤ noted_in t)
    (λ e. let lt = ltb-true u.node.member.applied u.node.copies.applied e in let n = note_applied (group f) m u.node.copies.applied u.node.member in omega (arith, same, lt, n))
    (λ e. omega (arith, same))

rounds_up : (f : Frame) (m : ℕ) (ws : List (Waiting Message)) (v : NodeWork) → noted_in v ≤ noted_in (rounds f m ws v)
rounds_up f m [] v = round_up f m v
rounds_up f m (one ∷ more) v = let a = round_up f m v in let b = rounds_up f m more (round f m v) in omega (arith, a, b)

-- and one that notes no more does nothing in the group
round_same : (f : Frame) (m : ℕ) (v : NodeWork) → noted_in (round f m v) ≡ noted_in v → Same (group f) m v (round f m v)
round_same f m v =
    let u : NodeWork = applies f m v in
    let same : noted_in u ≡ noted_in v = ap (λ (s : Member Message). s.applied) (applying f m v).member in
    cond_both (nat_lt u.node.member.applied u.node.copies.applied) (joins (note (group f) m u.node.copies.applied u.node.member) u) u
    (λ (t : NodeWork). noted_in t ≡ noted_in v → Same (group f) m v t)
    (λ e q. let lt = ltb-true u.node.member.applied u.node.copies.applied e in let n = note_applied (group f) m u.node.copies.applied u.node.member in absurd (omega (arith, same, lt, n, q)))
    (λ e q. applying f m v)

rounds_same : (f : Frame) (m : ℕ) (ws : List (Waiting Message)) (v : NodeWork) → noted_in (rounds f m ws v) ≡ noted_in v → Same (group f) m v (rounds f m ws v)
rounds_same f m [] v q = round_same f m v q
rounds_same f m (one ∷ more) v q =
    let a = round_up f m v in
    let b = rounds_up f m more (round f m v) in
    let here : noted_in (round f m v) ≡ noted_in v = omega (arith, a, b, q) in
    same_on (round_same f m v here) (rounds_same f m more (round f m v) (q ∙ sym here))

pub catches_same : (f : Frame) (m : ℕ) (v : NodeWork) → (catches_up f m v).node.member.applied ≡ v.node.member.applied → Same (group f) m v (catches_up f m v)
catches_same f m v q =
    let u : NodeWork = applies_all f m v in
    let s : Still (group f) m u (takes_reached f m u) = still_reached f (group f) m m u in
    let here : noted_in u ≡ noted_in v = sym (ap (λ (t : Member Message). t.applied) s.member) ∙ q in
    same_on (rounds_same f m v.node.member.waiting v here) (by_still s)
