-- The list of a run is what the members of its group performed.
use Rattle.std.proofs.Common.{◌≡◌, ◌<◌, ◌*◌, ℕ, zero, suc, List, [], ◌∷◌, ◌++◌, take, append-nil, refl, sym, ap, ◌∙◌, subst}
use Rattle.value_core.specs.declared.message.Message.{Message}
use Rattle.group_rules.specs.Messages.{Group}
use Rattle.group_rules.specs.Sets.{Begins}
use Rattle.group_rules.specs.World.{Event, GroupWorld, gnext, opening, run}
use Rattle.group_law.specs.Agreed.{AgreedLaw, Extends, applied_entries, longest as longest_list, performed}
use Rattle.group_law.specs.Agreed.{OneList as GroupsList}
use Rattle.world_rules.specs.declared.event.Step.{Step}
use Rattle.world_rules.specs.Frame.{Frame, group}
use Rattle.world_rules.specs.Steps.{Next}
use Rattle.world_rules.specs.Worlds.{World, agreed, applied_at, group_world, longer_of, longest}
use Rattle.world_law.specs.Grouped.{GoesOn, Grouped, Submits}
use Rattle.world_law.specs.Lists.{ListsGrow, OneList}
use Rattle.world_law.proofs.Events.{goes_on}
use Rattle.world_law.proofs.Grouping.{Laws}

longest_is : (w : World) (n : ℕ) → longest n w ≡ longest_list n (λ m. applied_entries ((group_world w).members m))
longest_is w zero = refl
longest_is w (suc n) = ap (λ xs. longer_of xs (applied_at w n)) (longest_is w n)

agreed_is : (f : Frame) (w : World) → agreed f w ≡ performed (group f) (group_world w)
agreed_is f w = longest_is w f.settings.nodes

pub run_append : {M : Type 0} (g : Group M) (w : GroupWorld M) (xs ys : List (Event M)) → run g (run g w xs) ys ≡ run g w (xs ++ ys)
run_append g w [] ys = refl
run_append g w (x ∷ xs) ys = run_append g (gnext g w x) xs ys

-- at two moments of a run
two_moments : (law : AgreedLaw Message) (f : Frame) → 2 * (group f).resilience < (group f).nodes → (w v : World) (h : Grouped f w) →
    GoesOn f h.events v → GroupsList (group f) (group_world w) (group_world v)
two_moments law f small w v h goes =
    let after : group_world v ≡ run (group f) (run (group f) opening h.events) goes.more =
    goes.grouped.run ∙ ap (run (group f) opening) goes.since ∙ sym (run_append (group f) opening h.events goes.more) in
    subst (λ z. GroupsList (group f) (group_world w) z) (sym after)
    (subst (λ z. GroupsList (group f) z (run (group f) (run (group f) opening h.events) goes.more)) (sym h.run) (law (group f) small h.events goes.more))

here : (law : AgreedLaw Message) (f : Frame) → 2 * (group f).resilience < (group f).nodes → (w : World) → Grouped f w →
    GroupsList (group f) (group_world w) (group_world w)
here law f small w h = two_moments law f small w w h (record { grouped = h; more = []; since = sym (append-nil h.events) })

pub one_list : (law : AgreedLaw Message) (f : Frame) → 2 * (group f).resilience < (group f).nodes → (w : World) → Grouped f w → OneList f w
one_list law f small w h =
    let one = here law f small w h in
    record {
      begin = λ m low. subst (Begins (applied_at w m)) (sym (agreed_is f w)) (one.applied m low);
      copies = λ m low. ap (λ n. take n (w.nodes m).member.log) (sym (h.level m));
      some = (one.performed_by.0, one.performed_by.1, agreed_is f w ∙ one.performed_by.2);
    }

grows : (laws : Laws) (law : AgreedLaw Message) (f : Frame) → 2 * (group f).resilience < (group f).nodes → (w v : World) (step : Step) →
    Next f w step v → Submits f w step.event → Grouped f w → (more : List Message) × (agreed f v ≡ agreed f w ++ more)
grows laws law f small w v step next submit h =
    let both = two_moments law f small w v h (goes_on laws f small w v step next submit h) in
    let more : Extends (performed (group f) (group_world w)) (performed (group f) (group_world v)) = both.more_performed in
    (more.0, agreed_is f v ∙ more.1 ∙ ap (λ xs. xs ++ more.0) (sym (agreed_is f w)))

pub lists_grow : (laws : Laws) (law : AgreedLaw Message) (f : Frame) → 2 * (group f).resilience < (group f).nodes → ListsGrow f
lists_grow laws law f small = record { one = one_list law f small; grows = grows laws law f small }
