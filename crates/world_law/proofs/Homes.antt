-- Each process is on a member.
use Rattle.std.proofs.Common.{◌<◌, ℕ, zero, suc, ℤ, pos, negsuc, List, [], ◌∷◌, ◌++◌, Option, Some, None, arith}
use Rattle.std.proofs.lemmas.Nat.{mod_below}
use Rattle.value_core.specs.declared.action.Action.{Action}
use Rattle.value_core.specs.declared.action.Action.TheVariants as action
use Rattle.value_core.specs.declared.message.Message.{Message}
use Rattle.world_rules.specs.Frame.{Frame}
use Rattle.world_rules.specs.Processes.{Begun, begun_by, first_process, home_in, member_named, processes_from, processes_in, with_entry}
use Rattle.world_rules.specs.Worlds.{World, agreed, home_of}

abbrev AllLow : ℕ → List Begun → Type 0
AllLow nodes [] = Unit {0}
AllLow nodes (process ∷ processes) = (process.home < nodes) × AllLow nodes processes

low_in : (nodes : ℕ) (processes : List Begun) (i : ℕ) → 0 < nodes → AllLow nodes processes → home_in processes i < nodes
low_in nodes [] i some h = some
low_in nodes (process ∷ processes) zero some h = h.0
low_in nodes (process ∷ processes) (suc i) some h = low_in nodes processes i some h.1

named_low : (nodes parent : ℕ) (n : Option ℤ) → 0 < nodes → parent < nodes → member_named nodes parent n < nodes
named_low nodes parent None some low = low
named_low nodes parent (Some (pos a)) some low = mod_below a nodes some
named_low nodes parent (Some (negsuc a)) some low = omega (arith, some)

begun_low : (nodes parent place : ℕ) (act : Action) → 0 < nodes → parent < nodes → AllLow nodes (begun_by nodes parent place act)
begun_low nodes parent place (action.Fork text args place_on) some low = (named_low nodes parent place_on some low, tt)
begun_low nodes parent place (action.Make kind object) some low = tt
begun_low nodes parent place (action.Call kind op object args) some low = tt
begun_low nodes parent place action.Ended some low = tt
begun_low nodes parent place (action.Faulted fault) some low = tt

low_append : (nodes : ℕ) (xs ys : List Begun) → AllLow nodes xs → AllLow nodes ys → AllLow nodes (xs ++ ys)
low_append nodes [] ys h k = k
low_append nodes (x ∷ xs) ys h k = (h.0, low_append nodes xs ys h.1 k)

low_from : (f : Frame) (processes : List Begun) (applied : ℕ) (xs : List Message) → 0 < f.settings.nodes → AllLow f.settings.nodes processes →
    AllLow f.settings.nodes (processes_from f processes applied xs)
low_from f processes applied [] some h = h
low_from f processes applied (x ∷ xs) some h = low_from f (with_entry f processes (suc applied) x) (suc applied) xs some
    (low_append f.settings.nodes processes _ h
    (begun_low f.settings.nodes (home_in processes x.process.0) (suc applied) x.action some (low_in f.settings.nodes processes x.process.0 some h)))

pub home_low : (f : Frame) (w : World) (i : ℕ) → 0 < f.settings.nodes → home_of f w i < f.settings.nodes
home_low f w i some = low_in f.settings.nodes (processes_in f (agreed f w)) i some
    (low_from f (first_process f ∷ []) 0 (agreed f w) some (some, tt))

-- whichever entries they came from
pub known_low : (f : Frame) (entries : List Message) (i : ℕ) → 0 < f.settings.nodes → home_in (processes_in f entries) i < f.settings.nodes
known_low f entries i some = low_in f.settings.nodes (processes_in f entries) i some (low_from f (first_process f ∷ []) 0 entries some (some, tt))
