-- Fates that pass whatever packet they come to: the test is right, and such a packet flies as one whose fate is Pass.
use Rattle.std.proofs.Common.{◌≡◌, ◌≤◌, ℕ, suc, true, refl, sym, subst, arith}
use Rattle.std.proofs.lemmas.Bool.{eqb-true, leb-true}
use Rattle.net_rules.specs.declared.fate.Fate.{Fate}
use Rattle.net_rules.specs.declared.fate.Fate.TheVariants as fate
use Rattle.net_rules.specs.Passing.{passes}
use Rattle.world_rules.specs.Frame.{Frame}
use Rattle.world_rules.specs.Mail.{Mail}
use Rattle.world_rules.specs.Steps.{posts}
use Rattle.world_rules.specs.Worlds.{World}
use Rattle.world_facts.specs.Passing.{IsTestOfPassing, always_passes}

passes_sound : (one : Fate) → always_passes one ≡ true → (bytes : ℕ) → passes bytes one ≡ true
passes_sound fate.Pass e bytes = refl
passes_sound fate.Drop e bytes = absurd (cc e)
passes_sound fate.Twice e bytes = absurd (cc e)
passes_sound (fate.Hold ticks) e bytes = e
passes_sound (fate.Cut length) e bytes = absurd (cc e)

passes_only : (one : Fate) → ((bytes : ℕ) → passes bytes one ≡ true) → always_passes one ≡ true
passes_only fate.Pass h = refl
passes_only fate.Drop h = h 0
passes_only fate.Twice h = h 0
passes_only (fate.Hold ticks) h = h 0
passes_only (fate.Cut length) h = let low : suc length ≤ length = leb-true (suc length) length (h (suc length)) in absurd (omega (arith, low))

pub is_test : IsTestOfPassing
is_test = record { sound = passes_sound; complete = passes_only }

-- its packet is in flight as one that passes
pub flies_as_passed : (f : Frame) (w : World) (mail : Mail) (one : Fate) → always_passes one ≡ true →
    (posts f w mail one).flights ≡ (posts f w mail fate.Pass).flights
flies_as_passed f w mail fate.Pass e = refl
flies_as_passed f w mail fate.Drop e = absurd (cc e)
flies_as_passed f w mail fate.Twice e = absurd (cc e)
flies_as_passed f w mail (fate.Hold ticks) e =
    subst (λ (t : ℕ). (posts f w mail (fate.Hold t)).flights ≡ (posts f w mail fate.Pass).flights) (sym (eqb-true ticks 0 e)) refl
flies_as_passed f w mail (fate.Cut length) e = absurd (cc e)
