-- The next entry, and what a member knows of the processes.
use Rattle.std.proofs.Common.{◌≡◌, ◌≤◌, ◌<◌, ◌+◌, ℕ, suc, zero, Bool, false, List, [], ◌∷◌, map, length, get_or, slice_get, Option, Some, None, refl, sym, ap, ◌∙◌, arith, if◌then◌else◌}
use Rattle.std.proofs.lemmas.Bool.{lt-leb}
use Rattle.std.proofs.lemmas.Option.{slice_get_past, slice_get_read}
use Rattle.value_core.specs.declared.action.Reply.{Reply}
use Rattle.value_core.specs.declared.message.Message.{Message}
use Rattle.history_buffer.specs.declared.history.Slot.TheVariants.{Purged}
use Rattle.history_buffer.specs.Slots.{slot_at, slot_of}
use Rattle.object_manager.specs.After.{Copied}
use Rattle.group_member.specs.Laws.{EntryLaw}
use Rattle.orca_base.specs.declared.what.Choice.{Choice}
use Rattle.world_rules.specs.Frame.{Frame, chooses_single, group}
use Rattle.world_rules.specs.Processes.{Begun, home_in, single_by}
use Rattle.node_rules.specs.Conditions.{Fitness}
use Rattle.node_rules.specs.Moments.{IsDue, Moment}
use Rattle.node_rules.specs.Moments.Walks.{Stays}
use Rattle.node_core.specs.Pieces.{IsNext}
use Rattle.node_parts.specs.Shown.{Left, Stood}
use Rattle.node_core.specs.Stands.{IsAt, on_known}
use Rattle.node_parts.specs.declared.errand.Errand.{Errand}
use Rattle.node_core.specs.declared.node.Known.{Known}
use Rattle.node_core.specs.declared.work.Work.{Work}

-- the entry that is due is the one that the member keeps behind those applied
pub next_there : {P S : Type 0} (stood : Stood S) (left : Left S) (f : Frame) (fitness : Fitness) (m : ℕ) (s : Work P S) (hand : List Errand) (u : Moment) (x : Message)
    → EntryLaw Message Reply → IsAt stood left f fitness m s hand u → IsDue u.work.node x → IsNext s.node x
next_there stood left f fitness m s hand u x law at due =
    let now = at.fits u (Stays u) in
    let copied = ap (λ (c : Copied). c.applied) at.work.node.copies in
    let base = at.work.node.member.base in
    let purges = at.work.node.member.member.purges in
    let applied = at.work.node.member.applied in
    let noted = now.noted in
    let within = now.within in
    let small = now.small.accepted in
    let number : suc u.work.node.copies.applied ≡ s.node.copies.applied + 1 = omega (arith, copied) in
    let behind : u.work.node.member.base < suc u.work.node.copies.applied = omega (arith, base, purges, applied, noted) in
    record {
      there = ap (λ (n : ℕ). slot_at s.node.member.window n) (sym number)
          ∙ law (group f) m s.node.member u.work.node.member (suc u.work.node.copies.applied) at.work.node.member
          ∙ ap (λ (b : Bool). if b then Purged else slot_of (slice_get u.work.node.member.log u.work.node.copies.applied)) (lt-leb (suc u.work.node.copies.applied) u.work.node.member.base behind)
          ∙ ap (λ (o : Option Message). slot_of o) due.there;
      room = omega (arith, copied, within, small);
    }

-- what it knows of a process is what the world does
abbrev pub home_known : Option Known → ℕ
home_known None = 0
home_known (Some k) = k.home

pub known_home : (processes : List Begun) (i : ℕ) → home_known (slice_get (map on_known processes) i) ≡ home_in processes i
known_home [] i = refl
known_home (p ∷ processes) zero = refl
known_home (p ∷ processes) (suc i) = known_home processes i

pub home_there : (ks : List Known) (processes : List Begun) (i : ℕ) (k : Known) → ks ≡ map on_known processes → i < length ks → k ≡ get_or ks i k → k.home ≡ home_in processes i
home_there ks processes i k same lt is =
    ap home_known (sym (slice_get_read ks (length ks) i k refl lt is)) ∙ ap (λ (l : List Known). home_known (slice_get l i)) same ∙ known_home processes i

pub home_past : (ks : List Known) (processes : List Begun) (i : ℕ) → ks ≡ map on_known processes → length ks ≤ i → 0 ≡ home_in processes i
home_past ks processes i same le =
    ap home_known (sym (slice_get_past ks i le)) ∙ ap (λ (l : List Known). home_known (slice_get l i)) same ∙ known_home processes i

-- and so is which objects are single
abbrev pub single_known : List (List Choice) → Option Known → ℕ → Bool
single_known choices None number = false
single_known choices (Some k) number = chooses_single choices k.text number

pub known_single : (f : Frame) (processes : List Begun) (i number : ℕ)
    → single_known f.settings.choices (slice_get (map on_known processes) i) number ≡ single_by f (slice_get processes i) number
known_single f [] i number = refl
known_single f (p ∷ processes) zero number = refl
known_single f (p ∷ processes) (suc i) number = known_single f processes i number

pub single_there : (f : Frame) (ks : List Known) (choices : List (List Choice)) (processes : List Begun) (i number : ℕ) (k : Known) → ks ≡ map on_known processes
    → choices ≡ f.settings.choices → i < length ks → k ≡ get_or ks i k → chooses_single choices k.text number ≡ single_by f (slice_get processes i) number
single_there f ks choices processes i number k same chosen lt is =
    ap (λ (o : Option Known). single_known choices o number) (sym (slice_get_read ks (length ks) i k refl lt is))
    ∙ ap (λ (l : List Known). single_known choices (slice_get l i) number) same
    ∙ ap (λ (c : List (List Choice)). single_known c (slice_get (map on_known processes) i) number) chosen ∙ known_single f processes i number

pub single_past : (f : Frame) (ks : List Known) (processes : List Begun) (i number : ℕ) → ks ≡ map on_known processes
    → length ks ≤ i → false ≡ single_by f (slice_get processes i) number
single_past f ks processes i number same le =
    ap (λ (o : Option Known). single_known f.settings.choices o number) (sym (slice_get_past ks i le))
    ∙ ap (λ (l : List Known). single_known f.settings.choices (slice_get l i) number) same ∙ known_single f processes i number
