-- Two of three members crash: each tick is possible, which one test computes for all of them.
use Rattle.std.proofs.Common.{◌≡◌, ◌&&◌, ◌++◌, ℕ, zero, suc, Bool, true, false, List, [], ◌∷◌, refl, arith, subst}
use Rattle.std.proofs.lemmas.Bool.{and_parts}
use Rattle.std.proofs.lemmas.List.{length-map}
use Rattle.net_rules.specs.declared.fate.Fate.TheVariants as fate
use Rattle.world_rules.specs.declared.event.Step.{Step}
use Rattle.world_rules.specs.declared.standing.Standing.{Standing}
use Rattle.world_rules.specs.declared.standing.Standing.TheVariants.{Limit, OutOfTurns, OutOfEvents, NoGroup, Faulted, Blocked, Finished, Going}
use Rattle.world_rules.specs.Frame.{Frame}
use Rattle.world_rules.specs.Mail.{Mail}
use Rattle.world_rules.specs.OneCell.{computing, one_cell}
use Rattle.world_rules.specs.Programs.{make}
use Rattle.world_rules.specs.Scenes.{Unfolds, steps_of}
use Rattle.world_rules.specs.Standings.{is_quiet, standing}
use Rattle.world_rules.specs.Steps.{Leads, passes_tick}
use Rattle.world_rules.specs.Worlds.{World, opening_world}
use Rattle.world_rules.proofs.Scenes.{checks_in, first, leads}
use Rattle.world_facts.specs.TooManyCrashes.{TooManyCrashes, after_tick, after_ticks, alone, lost_ticks, scenes}

abbrev pub is_going : Standing → Bool
is_going (Limit what number) = false
is_going OutOfTurns = false
is_going OutOfEvents = false
is_going NoGroup = false
is_going Faulted = false
is_going Blocked = false
is_going Finished = false
is_going Going = true

going_is : (s : Standing) → is_going s ≡ true → s ≡ Going
going_is (Limit what number) e = absurd (cc e)
going_is OutOfTurns e = absurd (cc e)
going_is OutOfEvents e = absurd (cc e)
going_is NoGroup e = absurd (cc e)
going_is Faulted e = absurd (cc e)
going_is Blocked e = absurd (cc e)
going_is Finished e = absurd (cc e)
going_is Going e = refl

-- so many ticks are possible, one after the other
abbrev pub may_tick : Frame → ℕ → World → Bool
may_tick f zero w = true
may_tick f (suc n) w = (is_going (standing f w) && is_quiet f w) && may_tick f n (after_tick f w)

ticks_lead : (f : Frame) (n : ℕ) (w : World) → may_tick f n w ≡ true → Leads f w (lost_ticks f n w) (after_ticks f n w)
ticks_lead f zero w may = refl
ticks_lead f (suc n) w may =
    let parts = and_parts (is_going (standing f w) && is_quiet f w) (may_tick f n (after_tick f w)) may in
    let now = and_parts (is_going (standing f w)) (is_quiet f w) parts.0 in (
      after_tick f w,
      record {
        given = tt;
        going = going_is (standing f w) now.0;
        possible = now.1;
        fates = length-map (passes_tick f w).mails (λ (mail : Mail). fate.Drop);
        after = refl;
      },
      ticks_lead f n (after_tick f w) parts.1,
    )

leads_on : (f : Frame) (w u v : World) (one two : List Step) → Leads f w one u → Leads f u two v → Leads f w (one ++ two) v
leads_on f w u v [] two first then_on = subst (λ (z : World). Leads f z two v) first then_on
leads_on f w u v (step ∷ one) two first then_on = (first.0, first.1, leads_on f first.0 u v one two first.2 then_on)

unfolds : Unfolds one_cell (opening_world one_cell) scenes
unfolds = (
  refl,
  checks_in one_cell _ first 0 (computing [] 0) make
      refl refl refl (omega arith) (omega arith) refl (omega arith) refl refl,
  refl,
  (
    refl,
    refl,
    refl,
    (
      refl,
      refl,
      refl,
      (
        refl,
        refl,
        refl,
        (
          refl,
          refl,
          refl,
          (refl, refl, refl, tt),
        ),
      ),
    ),
  ),
)

may : may_tick one_cell 199 alone ≡ true
may = refl

pub too_many_crashes : TooManyCrashes
too_many_crashes = record {
  replays = leads_on one_cell (opening_world one_cell) alone (after_ticks one_cell 199 alone) (steps_of scenes) (lost_ticks one_cell 199 alone)
      (leads one_cell (opening_world one_cell) scenes unfolds) (ticks_lead one_cell 199 alone may);
  no_group = refl;
  one_tick_less = refl;
  idle = refl;
  held = refl;
  first = refl;
  second = refl;
  third = refl;
}
