-- Events in which no member does a part, and those in which one does.
use Rattle.std.proofs.Common.{◌≡◌, ◌≤◌, ◌<◌, ◌^◌, ◌&&◌, ltb, ℕ, Bool, true, false, Some, slice_get, ap, sym, subst, refl, arith, length}
use Rattle.std.proofs.lemmas.Bool.{ltb-true}
use Rattle.std.specs.List.{AllByRecursion as Each}
use Rattle.book_law.proofs.Processes.{get_some}
use Rattle.node_rules.specs.Conditions.{Fitness}
use Rattle.node_rules.specs.Laws.{PartsAreWalks}
use Rattle.node_rules.specs.Starts.{EventFits, Start, part}
use Rattle.run_law.specs.Growing.{EventGrows, TellsPart}
use Rattle.run_law.specs.Sending.{SendsOwn}
use Rattle.world_law.specs.SoundPackets.{IsSoundMail}
use Rattle.world_rules.specs.declared.event.Event.{Event}
use Rattle.world_rules.specs.declared.standing.Standing.TheVariants.{Going}
use Rattle.world_rules.specs.Frame.{Frame}
use Rattle.world_rules.specs.Nodes as nodes_of
use Rattle.world_rules.specs.Standings.{standing}
use Rattle.world_rules.specs.Steps.{AtWork, Known, Possible, after_part, happens, lives_in, untouched}
use Rattle.world_rules.specs.Worlds.{World, agreed}
use Rattle.node_parts.specs.Shown.{Left, Stood}
use Rattle.node_core.specs.Stands.{IsDone, StandsAs}
use Rattle.node_core.specs.declared.node.Node.{Node}
use Rattle.world_parts.specs.Standing.{IsWorld, Stands}
use Rattle.world_parts.specs.declared.parts.Parts.{Parts}
use Rattle.world_core.specs.Drafting.{AddsPart, IsDraft, MayAdd}
use Rattle.world_core.specs.declared.draft.Draft.{Draft}
use Rattle.world_core.proofs.Eventing.{comes_now, entries_had, letters_sound, may_add}
use Rattle.world_core.specs.Growing.{Progress}
use Rattle.world_core.specs.Stepping.{is_burst_of}
use Rattle.world_core.proofs.Progressing.{Comes, IsEmpty, progress_done, progress_first, progress_on}

-- a run that is going, for which the parts stand, and an event that is possible in it
pub record Here {P S : Type 0} (stood : Stood S) (left : Left S) (f : Frame) (s : Parts P S) (w : World) (event : Event) (given : Known event) : Type 0 where
  pub stands : Stands stood left f s
  pub is : IsWorld stood left f s w
  pub going : standing f w ≡ Going
  pub possible : Possible f w event given

grows : {P S : Type 0} (stood : Stood S) (left : Left S) (f : Frame) (s : Parts P S) (w : World) (event : Event) (given : Known event) → Here stood left f s w event given
    → EventGrows f w event given (happens f w event given).world
grows stood left f s w event given h = h.stands.laws.grow f refl refl h.stands.settings s.ledger.steps w h.is.replays h.going event given h.possible

-- no member applied more than the list has
pub low_all : {P S : Type 0} (stood : Stood S) (left : Left S) (f : Frame) (s : Parts P S) (w : World) → Stands stood left f s → IsWorld stood left f s w
    → (m : ℕ) → m < f.settings.nodes → (w.nodes m).copies.applied ≤ length (agreed f w)
low_all stood left f s w h is m lt =
    let node = get_some s.nodes.items m (omega (arith, lt, is.members)) in
    let had = entries_had stood left f s w h is m node.0 lt node.1 in
    omega (arith, had.0, had.1)

-- the list is no longer than a number of 62 bits
pub list_small : {P S : Type 0} (stood : Stood S) (left : Left S) (f : Frame) (s : Parts P S) (w : World) → Stands stood left f s → IsWorld stood left f s w → standing f w ≡ Going
    → length s.ledger.entries < 2 ^ 62
list_small stood left f s w h is going =
    let hold = h.laws.hold f refl refl h.settings s.ledger.steps w is.replays in
    let one = (h.laws.lists f h.settings.resilience).one w hold.grouped in
    let some = one.some in
    let node = get_some s.nodes.items some.0 (omega (arith, some.1, is.members)) in
    let had = entries_had stood left f s w h is some.0 node.0 some.1 node.1 in
    let goes = ((h.laws.read f w).says Going going).0.events in
    let small = ((h.laws.count f h.settings.resilience).small w w.steps h.settings.few (omega (arith, goes, h.settings.events)) hold.counted).members some.0 in
    omega (arith, ap length is.entries, ap length some.2, ap length (one.copies some.0 some.1), had.0, sym (hold.grouped.level some.0), small.applied)

-- ---- no member does a part

pub quiet_draft : {P S : Type 0} (stood : Stood S) (left : Left S) (f : Frame) (s : Parts P S) (w v : World) (event : Event) (given : Known event) (draft : Draft P S)
    → Here stood left f s w event given → happens f w event given ≡ untouched v → v.nodes ≡ w.nodes → v.aside ≡ w.aside → IsEmpty draft → ((m i : ℕ) → is_burst_of f w event m i ≡ false)
    → IsDraft stood left f s w event draft (happens f w event given)
quiet_draft stood left f s w v event given draft h is nodes aside empty none =
    let g = grows stood left f s w event given h in
    progress_done stood left f s w event draft (happens f w event given) h.is g.list g.performed (low_all stood left f s w h.stands h.is)
    (subst (λ (u : AtWork). Progress stood left f s w (happens f w event given).world draft u) (sym is)
    (progress_first stood left f s w v (happens f w event given).world draft h.is nodes aside empty g.list)) none

-- ---- one member does a part

pub one_comes : {P S : Type 0} (stood : Stood S) (left : Left S) (f : Frame) (s : Parts P S) (w : World) (event : Event) (given : Known event) (m : ℕ) (start : Start) (before : Node P S)
    → Here stood left f s w event given → m < f.settings.nodes → slice_get s.nodes.items m ≡ Some before → SendsOwn f w m start → TellsPart f w (happens f w event given).world m start
    → Comes stood left f s w (happens f w event given).world m start before
one_comes stood left f s w event given m start before h lt at own tells = comes_now stood left f s w (happens f w event given).world h.stands h.is m start before lt at own tells

pub one_may : {P S : Type 0} (stood : Stood S) (left : Left S) (f : Frame) (fitness : Fitness) (s : Parts P S) (w v : World) (event : Event) (given : Known event) (m : ℕ) (start : Start) (before : Node P S)
    (draft : Draft P S) → Here stood left f s w event given → PartsAreWalks → happens f w event given ≡ after_part f m (part f m start (w.nodes m)) (untouched v)
    → Comes stood left f s w (happens f w event given).world m start before → EventFits f fitness m start (w.nodes m) → IsEmpty draft → MayAdd stood left f fitness s before start draft
one_may stood left f fitness s w v event given m start before draft h walks is comes fits empty =
    let g = grows stood left f s w event given h in
    let sound = letters_sound f h.stands.laws h.stands.settings s.ledger.steps w h.is.replays h.going event given h.possible in
    may_add stood left f fitness s w (happens f w event given).world m start before draft walks g.list comes fits
    (subst (λ (u : AtWork). Each (IsSoundMail f) u.mails) is sound)
    (omega (arith, list_small stood left f s w h.stands h.is h.going, ap length empty.entries))

pub one_draft : {P S : Type 0} (stood : Stood S) (left : Left S) (f : Frame) (fitness : Fitness) (s : Parts P S) (w v : World) (event : Event) (given : Known event) (m : ℕ) (start : Start) (before : Node P S)
    (old new : Draft P S) → Here stood left f s w event given → happens f w event given ≡ after_part f m (part f m start (w.nodes m)) (untouched v) → v.nodes ≡ w.nodes → v.aside ≡ w.aside
    → Comes stood left f s w (happens f w event given).world m start before → EventFits f fitness m start (w.nodes m) → IsEmpty old → AddsPart stood left f fitness s before start old new
    → ((k i : ℕ) → is_burst_of f w event k i ≡ false) → IsDraft stood left f s w event new (happens f w event given)
one_draft {P} {S} stood left f fitness s w v event given m start before old new h is nodes aside comes fits empty adds none =
    let g = grows stood left f s w event given h in
    let end = (happens f w event given).world in
    let me = comes.stands.member.me in
    let done = subst (λ (n : ℕ). StandsAs stood left f n before (w.nodes m) → EventFits f fitness n start (w.nodes m) → IsDone stood left f n adds.after adds.moved (w.nodes m) (part f n start (w.nodes m))) me (adds.does (w.nodes m)) comes.stands fits in
    progress_done stood left f s w event new (happens f w event given) h.is g.list g.performed (low_all stood left f s w h.stands h.is)
    (subst (λ (u : AtWork). Progress stood left f s w end new u) (sym is)
    (progress_on stood left f s w end old new (untouched v) m start before adds.after adds.moved h.is g.list comes (ap (λ (k : ℕ → nodes_of.Node). k m) nodes) adds.added adds.tasks done
    (progress_first stood left f s w v end old h.is nodes aside empty g.list))) none

-- what is false isn't true
pub not_both : (b : Bool) → b ≡ false → b ≡ true → ⊥
not_both true no_it is = cc
not_both false no_it is = cc

-- one that lives is a member
pub within_of : (f : Frame) (w : World) (m : ℕ) → lives_in f w m ≡ true → m < f.settings.nodes
within_of f w m is = go (ltb m f.settings.nodes) refl is
  where
    go : (b : Bool) → ltb m f.settings.nodes ≡ b → (b && w.lives m) ≡ true → m < f.settings.nodes
    go true is h = ltb-true m f.settings.nodes is
    go false is h = absurd (cc h)
