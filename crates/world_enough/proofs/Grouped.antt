-- In a faultless run every member lives and none is outside, so it never lacks a group.
use Rattle.std.proofs.Common.{◌≡◌, ◌<◌, ◌||◌, not, ℕ, zero, suc, Bool, true, false, refl, sym, ◌∙◌, arith, subst}
use Rattle.std.proofs.lemmas.Bool.{cond_both}
use Rattle.value_core.specs.declared.message.Message.{Message}
use Rattle.group_rules.specs.Sets.{count}
use Rattle.group_rules.specs.World.{GroupWorld}
use Rattle.world_rules.specs.declared.standing.Standing.TheVariants.{NoGroup}
use Rattle.world_rules.specs.Frame.{Frame, group}
use Rattle.world_rules.specs.Standings.{standing}
use Rattle.world_rules.specs.Worlds.{World}
use Rattle.world_facts.specs.Rows.{ReadsStanding}
use Rattle.world_enough.proofs.Flowing.{FlowLaw}
use Rattle.world_enough.specs.Tie.{Tied}

count_none : (n : ℕ) (test : ℕ → Bool) → ((i : ℕ) → i < n → test i ≡ false) → count n test ≡ 0
count_none zero test h = refl
count_none (suc n) test h =
    let r = count_none n test (λ i l. h i (omega (arith, l))) in
    let e = h n (omega arith) in
    cond_both (test n) _ _ (λ (k : ℕ). k ≡ 0) (λ yes. let c : true ≡ false = sym yes ∙ e in absurd (cc c)) (λ no. r)

neither : (a b : Bool) → a ≡ true → b ≡ false → (not a || b) ≡ false
neither a b e d = rw (e, d) refl

pub has_group : (f : Frame) (w : World) (d : ℕ) → ReadsStanding f w → FlowLaw (group f) → Tied f w d → standing f w ≡ NoGroup → ⊥
has_group f w d reads enough tied stands =
    let row = reads.says NoGroup stands in
    let lost = row.3.lost in
    let smooth = (enough tied.moves).smooth in
    let none = count_none f.settings.nodes (λ m. not (w.lives m) || (w.nodes m).member.outside)
    (λ m low. neither (w.lives m) (w.nodes m).member.outside (tied.lives m)
    (subst (λ (z : GroupWorld Message). (z.members m).outside ≡ false) tied.world (smooth.outside m low))) in
    absurd (omega (arith, lost, none))
