-- Each step of a faultless run is a burst, an act or a delivery.
use Rattle.std.proofs.Common.{◌≡◌, ◌≤◌, ◌⊎◌, ◌+◌, inl, inr, ℕ, List, [], ◌∷◌, length, refl, arith}
use Rattle.world_rules.specs.declared.event.Event as world
use Rattle.world_rules.specs.declared.event.Event.TheVariants as event
use Rattle.world_rules.specs.declared.event.Step.{Step}
use Rattle.world_rules.specs.Frame.{Frame}
use Rattle.world_rules.specs.Worlds.{World}
use Rattle.world_enough.specs.Faultless.{IsPlain, IsTick, LeadsFaultless, NoTick, delivered, delivers_by, worked, works_by}
use Rattle.world_enough.specs.Paid.{IsSpent}

one_is : (e : world.Event) → IsPlain e → (IsTick e → ⊥) → works_by e + delivers_by e ≡ 1
one_is (event.Burst process place turns) plain none = refl
one_is (event.Act process) plain none = refl
one_is (event.Deliver packet copy) plain none = refl
one_is event.Tick plain none = absurd (none tt)
one_is (event.Crash node) plain none = absurd plain
one_is (event.Suspect node) plain none = absurd plain
one_is event.Swap plain none = absurd plain

pub all_are : (f : Frame) (w v : World) (steps : List Step) → LeadsFaultless f w steps v → NoTick steps → length steps ≡ worked steps + delivered steps
all_are f w v [] h none = refl
all_are f w v (step ∷ steps) h none =
    let o = one_is step.event h.2.plain none.0 in
    let r = all_are f h.0 v steps h.3 none.1 in
    omega (arith, o, r)

pub no_more : (f : Frame) (w : World) (n a b x y : ℕ) → n ≡ a + b → b ≤ y → (a ≤ x) ⊎ (IsSpent f w × (a ≤ x + 1)) → (n ≤ y + x) ⊎ (IsSpent f w × (n ≤ y + x + 1))
no_more f w n a b x y e l (inl h) = inl (omega (arith, e, l, h))
no_more f w n a b x y e l (inr h) = let k = h.1 in inr (h.0, omega (arith, e, l, k))
