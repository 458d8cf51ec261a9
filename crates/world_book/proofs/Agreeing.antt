-- A test agrees with the choices of a run where it agrees with those of its list: so it agrees at each moment before.
use Rattle.std.proofs.Common.{◌≡◌, ◌<◌, ◌≤◌, ⊎_elim, ℕ, List, ◌++◌, length, take, sym, ap, ◌∙◌, arith, subst}
use Rattle.std.proofs.lemmas.Bool.{cases_lt}
use Rattle.std.proofs.lemmas.List.{take-append-le, take_all}
use Rattle.value_core.specs.declared.message.Message.{Message}
use Rattle.group_rules.specs.Sets.{Begins}
use Rattle.book_law.specs.Passes.{Test}
use Rattle.world_rules.specs.Frame.{Frame}
use Rattle.world_rules.specs.Nodes.{entries_of}
use Rattle.world_rules.specs.Worlds.{World, agreed, applied_at}
use Rattle.world_law.specs.Grouped.{Grouped}
use Rattle.world_law.specs.Lists.{OneList}
use Rattle.world_course.specs.Corresponds.{Agrees}
use Rattle.world_course.specs.Gives.{AgreesIn}
use Rattle.world_course.proofs.Entry.{agrees_take}
use Rattle.world_book.proofs.Listing.{outside_idle}

begins_take : {A : Type 0} (xs ys : List A) → Begins xs ys → xs ≡ take (length xs) ys
begins_take xs ys b = sym (take_all (length xs) xs (omega arith)) ∙ b.is

-- a test that agrees with the list's choices agrees with those that each member knows
pub agrees_all : (f : Frame) (single : Test) (w : World) → Grouped f w → OneList f w → Agrees f single (agreed f w) → AgreesIn f single w
agrees_all f single w grouped one agrees m = ⊎_elim
    (λ (lt : m < f.settings.nodes).
    let is : entries_of (w.nodes m) ≡ take (length (applied_at w m)) (agreed f w) = one.copies m lt ∙ begins_take (applied_at w m) (agreed f w) (one.begin m lt) in
    subst (Agrees f single) (sym is) (agrees_take f single (agreed f w) (length (applied_at w m)) agrees))
    (λ (le : f.settings.nodes ≤ m).
    let is : entries_of (w.nodes m) ≡ take 0 (agreed f w) = ap (λ (n : ℕ). take n (w.nodes m).member.log) (outside_idle f w m grouped le) in
    subst (Agrees f single) (sym is) (agrees_take f single (agreed f w) 0 agrees))
    (cases_lt m f.settings.nodes)

-- it agreed before entries were put at the list's end
pub agrees_before : (f : Frame) (single : Test) (list more longer : List Message) → longer ≡ list ++ more → Agrees f single longer → Agrees f single list
agrees_before f single list more longer is agrees =
    subst (Agrees f single) (ap (take (length list)) is ∙ take-append-le (length list) list more (omega arith) ∙ take_all (length list) list (omega arith))
    (agrees_take f single longer (length list) agrees)
