-- The world for which a run in code stands.
use Rattle.std.proofs.Common.{◌≡◌, ◌≤◌, ◌<◌, ◌∙◌, ℕ, zero, suc, Bool, false, List, [], ◌∷◌, Option, Some, None, ap, sym, subst, refl, arith, length, get_or, slice_get, ◌&&◌}
use Rattle.std.proofs.lemmas.Bool.{le-ltb, lt-ltb}
use Rattle.std.proofs.lemmas.Option.{slice_get_read}
use Rattle.net_rules.proofs.Travelling.{seen_first_ready, seen_some_held}
use Rattle.net_rules.specs.Flights.{first_ready, some_held}
use Rattle.world_law.specs.Lists.{OneList}
use Rattle.world_rules.specs.Frame.{Frame}
use Rattle.world_rules.specs.Steps.{Replays, lives_in}
use Rattle.world_rules.specs.Standings.{lives_at_home}
use Rattle.world_rules.specs.Worlds.{World, home_of, played_in}
use Rattle.node_core.specs.Pieces.{resident_at}
use Rattle.node_parts.specs.Shown.{IsPlayedIf, Left, Stood}
use Rattle.node_parts.specs.declared.resident.Resident.{Resident}
use Rattle.node_core.specs.declared.node.Node.{Node}
use Rattle.world_parts.specs.Seen.{Seen}
use Rattle.world_parts.specs.Standing.{IsWorld, Stands, seen_of, spelled}
use Rattle.world_parts.specs.declared.parts.Parts.{Parts}

clash : {A : Type 0} (a : A) → Some a ≡ None → ⊥
clash a f = cc

-- an index within a list finds an item
pub slice_get_some : {A : Type 0} (xs : List A) (i : ℕ) → i < length xs → slice_get xs i ≡ None → ⊥
slice_get_some [] i lt is = absurd (omega (arith, lt))
slice_get_some (x ∷ xs) zero lt is = clash x is
slice_get_some (x ∷ xs) (suc i) lt is = slice_get_some xs i (omega (arith, lt)) is

-- the world to which the seen steps lead is the one for which it stands
pub is_world : {P S : Type 0} (stood : Stood S) (left : Left S) (f : Frame) (s : Parts P S) (shown : Seen S) → seen_of s ≡ shown → Stands stood left f s
    → (w : World) → Replays f shown.steps w → IsWorld stood left f s w
is_world {P} {S} stood left f s shown is stands w replays =
    subst (IsWorld stood left f s) (stands.laws.one f refl s.ledger.steps stands.world w stands.is.replays (subst (λ (v : Seen S). Replays f v.steps w) (sym is) replays)) stands.is

-- its list
pub one_list : {P S : Type 0} (stood : Stood S) (left : Left S) (f : Frame) (s : Parts P S) (w : World) → Stands stood left f s → IsWorld stood left f s w → OneList f w
one_list stood left f s w stands is =
    (stands.laws.lists f stands.settings.resilience).one w (stands.laws.hold f refl refl stands.settings s.ledger.steps w is.replays).grouped

-- a process is on a member
pub home_within : {P S : Type 0} (stood : Stood S) (left : Left S) (f : Frame) (s : Parts P S) (w : World) → Stands stood left f s → (i : ℕ) → home_of f w i < f.settings.nodes
home_within stood left f s w stands i = stands.laws.homes f w i (omega (arith, stands.settings.some))

-- packets in flight are the world's
pub first_due : {P S : Type 0} (stood : Stood S) (left : Left S) (f : Frame) (s : Parts P S) (w : World) → IsWorld stood left f s w → first_ready s.net.flights ≡ first_ready w.flights
first_due stood left f s w is = ap first_ready is.flights ∙ seen_first_ready (spelled f.settings.nodes) w.flights

pub held_there : {P S : Type 0} (stood : Stood S) (left : Left S) (f : Frame) (s : Parts P S) (w : World) → IsWorld stood left f s w → some_held s.net.flights ≡ some_held w.flights
held_there stood left f s w is = ap some_held is.flights ∙ seen_some_held (spelled f.settings.nodes) w.flights

-- who lives
pub lives_there : {P S : Type 0} (stood : Stood S) (left : Left S) (f : Frame) (s : Parts P S) (living : List Bool) (w : World) → IsWorld stood left f s w → living ≡ s.lives.items
    → (m : ℕ) (b : Bool) → m < length living → b ≡ get_or living m b → b ≡ lives_in f w m
lives_there stood left f s living w is same m b lt at =
    let within : m < f.settings.nodes = omega (arith, lt, is.all, ap length same) in
    let found : slice_get s.lives.items m ≡ Some b = ap (λ (l : List Bool). slice_get l m) (sym same) ∙ slice_get_read living (length living) m b refl lt at in
    is.living m b found ∙ ap (λ (b : Bool). b && w.lives m) (sym (lt-ltb m f.settings.nodes within))

pub lives_past : {P S : Type 0} (stood : Stood S) (left : Left S) (f : Frame) (s : Parts P S) (living : List Bool) (w : World) → IsWorld stood left f s w → living ≡ s.lives.items
    → (m : ℕ) → length living ≤ m → false ≡ lives_in f w m
lives_past stood left f s living w is same m past =
    ap (λ (b : Bool). b && w.lives m) (sym (le-ltb m f.settings.nodes (omega (arith, past, is.all, ap length same))))

-- a process, as its member knows it
pub played_there : {P S : Type 0} (stood : Stood S) (left : Left S) (f : Frame) (s : Parts P S) (w : World) → IsWorld stood left f s w → (home i : ℕ) → home ≡ home_of f w i
    → (node : Node P S) → Some node ≡ slice_get s.nodes.items home → (o : Option (Resident S)) → o ≡ resident_at node i → IsPlayedIf stood left i o (played_in f w i)
played_there {P} {S} stood left f s w is home i at_home node at o known =
    let there = is.nodes home node (sym at) in
    subst (λ (m : ℕ). IsPlayedIf stood left i o ((w.nodes m).played i)) at_home
    (subst (λ (p : Option (Resident S)). IsPlayedIf stood left i p ((w.nodes home).played i)) (sym known) (there.residents i))

-- there is a member for each process
pub home_there : {P S : Type 0} (stood : Stood S) (left : Left S) (f : Frame) (s : Parts P S) (w : World) → Stands stood left f s → IsWorld stood left f s w → (home i : ℕ)
    → home ≡ home_of f w i → None ≡ slice_get s.nodes.items home → ⊥
home_there stood left f s w stands is home i at none =
    let within : home < length s.nodes.items = omega (arith, at, home_within stood left f s w stands i, is.members) in
    slice_get_some s.nodes.items home within (sym none)

-- whether its member lives
pub home_lives : {P S : Type 0} (stood : Stood S) (left : Left S) (f : Frame) (s : Parts P S) (w : World) → Stands stood left f s → (home i : ℕ) → home ≡ home_of f w i
    → lives_in f w home ≡ lives_at_home f w i
home_lives stood left f s w stands home i at =
    ap (λ (b : Bool). b && w.lives home) (lt-ltb home f.settings.nodes (omega (arith, at, home_within stood left f s w stands i))) ∙ ap w.lives at
