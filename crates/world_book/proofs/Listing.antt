-- The list of a world is its course's, also where its course's is the longest.
use Rattle.std.proofs.Common.{◌≡◌, ◌==◌, ◌&&◌, if◌then◌else◌, ◌<◌, ◌≤◌, ⊎_elim, ℕ, Bool, true, not, nat_lt, Option, Some, None, List, [], ◌∷◌, length, take, refl, sym, ap, ◌∙◌, arith, subst}
use Rattle.std.proofs.lemmas.Bool.{and_parts, cases_lt, cond_both, ltb-true}
use Rattle.std.proofs.lemmas.List.{length-take-le, take_all}
use Rattle.value_core.specs.declared.message.Message.{Message}
use Rattle.book_law.specs.Course.{Course}
use Rattle.book_law.specs.Passes.{Test}
use Rattle.group_rules.specs.Member.{Letter, Member}
use Rattle.group_rules.specs.Messages.{Group}
use Rattle.group_rules.specs.Sets.{Begins}
use Rattle.group_rules.specs.Work.{Work}
use Rattle.group_rules.specs.World.{Event, GroupWorld, Past, acts_on, arrive, gnext, letter_number, may_apply, may_submit, opening, put, run, submitted_past}
use Rattle.group_rules.specs.Reset.{coordinate}
use Rattle.group_rules.specs.Steps.{deliver, note, submit, timer}
use Rattle.world_rules.specs.Frame.{Frame, group}
use Rattle.world_rules.specs.Nodes.{entries_of}
use Rattle.world_rules.specs.Worlds.{World, agreed, applied_at}
use Rattle.world_law.specs.Grouped.{Grouped}
use Rattle.world_law.specs.Lists.{OneList}
use Rattle.world_law.proofs.Maps.{at_both}
use Rattle.world_course.specs.Corresponds.{Corresponds, Stands}

-- ---- who is no member of the group applies nothing

abbrev IsIdle : {M : Type 0} → GroupWorld M → ℕ → Type 0
IsIdle w m = (w.members m).applied ≡ 0

idle_put : {M : Type 0} (g : Group M) (w : GroupWorld M) (m k : ℕ) (p : Past M) (v : Work M) → g.nodes ≤ m → acts_on g w k ≡ true → IsIdle w m →
    IsIdle (put w k p v) m
idle_put {M} g w m k p v le acts idle =
    let low = ltb-true k g.nodes (and_parts (nat_lt k g.nodes) (w.lives k) acts).0 in
    at_both w.members k v.state m (λ (s : Member M). s.applied ≡ 0) (λ e. absurd (omega (arith, le, low, e))) (λ no. idle)

idle_where : {M : Type 0} (g : Group M) (w : GroupWorld M) (m k : ℕ) (p : Past M) (v : Work M) (b : Bool) → g.nodes ≤ m → IsIdle w m →
    IsIdle (if acts_on g w k && b then put w k p v else w) m
idle_where {M} g w m k p v b le idle = cond_both (acts_on g w k && b) (put w k p v) w (λ (z : GroupWorld M). IsIdle z m)
    (λ e. idle_put g w m k p v le (and_parts (acts_on g w k) b e).0 idle) (λ e. idle)

idle_acts : {M : Type 0} (g : Group M) (w : GroupWorld M) (m k : ℕ) (p : Past M) (v : Work M) → g.nodes ≤ m → IsIdle w m →
    IsIdle (if acts_on g w k then put w k p v else w) m
idle_acts {M} g w m k p v le idle = cond_both (acts_on g w k) (put w k p v) w (λ (z : GroupWorld M). IsIdle z m)
    (λ e. idle_put g w m k p v le e idle) (λ e. idle)

idle_arrive : {M : Type 0} (g : Group M) (w : GroupWorld M) (m : ℕ) (o : Option (Letter M)) → g.nodes ≤ m → IsIdle w m → IsIdle (arrive g w o) m
idle_arrive g w m None le idle = idle
idle_arrive g w m (Some letter) le idle =
    idle_where g w m letter.to w.past (deliver g letter.to letter.packet (w.members letter.to)) (not (letter.to == letter.packet.from)) le idle

idle_next : {M : Type 0} (g : Group M) (w : GroupWorld M) (m : ℕ) (event : Event M) → g.nodes ≤ m → IsIdle w m → IsIdle (gnext g w event) m
idle_next g w m (Event.Submit k x) le idle =
    idle_where g w m k (submitted_past g k x w.past) (submit g k x (w.members k)) (may_submit g w k x) le idle
idle_next g w m (Event.Deliver which) le idle = idle_arrive g w m (letter_number w.past.letters which) le idle
idle_next g w m (Event.Tick k) le idle = idle_acts g w m k w.past (timer g k (w.members k)) le idle
idle_next g w m (Event.Coordinate k) le idle = idle_acts g w m k w.past (coordinate g k (w.members k)) le idle
idle_next g w m (Event.Note k n) le idle = idle_where g w m k w.past (note g k n (w.members k)) (may_apply (w.members k) n) le idle
idle_next g w m (Event.Crash k) le idle = idle

idle_run : {M : Type 0} (g : Group M) (w : GroupWorld M) (m : ℕ) (events : List (Event M)) → g.nodes ≤ m → IsIdle w m → IsIdle (run g w events) m
idle_run g w m [] le idle = idle
idle_run g w m (event ∷ events) le idle = idle_run g (gnext g w event) m events le (idle_next g w m event le idle)

pub outside_idle : (f : Frame) (w : World) (m : ℕ) → Grouped f w → f.settings.nodes ≤ m → (w.nodes m).copies.applied ≡ 0
outside_idle f w m grouped le =
    let none : (w.nodes m).member.applied ≡ 0 =
    subst (λ (z : GroupWorld Message). IsIdle z m) (sym grouped.run) (idle_run (group f) opening m grouped.events le refl) in
    sym (grouped.level m) ∙ none

-- ---- the list

-- a beginning of a list that isn't shorter is the list
whole : {A : Type 0} (xs : List A) (n : ℕ) → length xs ≤ length (take n xs) → take n xs ≡ xs
whole xs n le = ⊎_elim
    (λ (lt : n < length xs). let e = length-take-le n xs (omega (arith, lt)) in absurd (omega (arith, e, le, lt)))
    (λ (most : length xs ≤ n). take_all n xs most)
    (cases_lt n (length xs))

entries_are : (f : Frame) (single : Test) (w : World) (c : Course) (m : ℕ) → Stands f single w c → entries_of (w.nodes m) ≡ take (w.nodes m).copies.applied c.list
entries_are f single w c m st = let mem = st.members m in mem.entries

-- the world's list is the course's
pub list_is : (f : Frame) (single : Test) (w : World) (c : Course) → Corresponds f single w c → Grouped f w → OneList f w → agreed f w ≡ c.list
list_is f single w c h grouped one = is ∙ whole c.list (w.nodes k).copies.applied (subst (λ (l : List Message). length c.list ≤ length l) is long)
  where
    k : ℕ
    k = one.some.0

    is : agreed f w ≡ take (w.nodes k).copies.applied c.list
    is = one.some.2 ∙ sym (one.copies k one.some.1) ∙ entries_are f single w c k h.stands

    m : ℕ
    m = h.reached.0

    -- the member that applied the course's whole list
    long : length c.list ≤ length (agreed f w)
    long = ⊎_elim
        (λ (lt : m < f.settings.nodes).
        let b : Begins (applied_at w m) (agreed f w) = one.begin m lt in
        let most = b.right in
        let e : length (applied_at w m) ≡ length c.list =
        ap (λ (l : List Message). length l) (sym (one.copies m lt) ∙ entries_are f single w c m h.stands ∙ take_all (w.nodes m).copies.applied c.list h.reached.1) in
        omega (arith, most, e))
        (λ (le : f.settings.nodes ≤ m).
        let none = outside_idle f w m grouped le in
        let reached = h.reached.1 in
        omega (arith, none, reached))
        (cases_lt m f.settings.nodes)
