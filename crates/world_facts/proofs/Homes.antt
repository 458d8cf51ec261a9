-- Each process is on a member; and the processes of a list of entries, as it grows.
use Rattle.std.proofs.Common.{◌≡◌, ◌<◌, ◌+◌, ℕ, zero, suc, ℤ, pos, negsuc, List, [], ◌∷◌, ◌++◌, length, length-append, Option, Some, None, append-nil, append_assoc, refl, sym, ap, ◌∙◌, arith}
use Rattle.std.specs.Prelude.{slice_get}
use Rattle.std.proofs.lemmas.Nat.{mod_below}
use Rattle.value_core.specs.declared.action.Action.{Action}
use Rattle.value_core.specs.declared.action.Action.TheVariants as action
use Rattle.value_core.specs.declared.message.Message.{Message}
use Rattle.value_core.specs.History.{forked}
use Rattle.object_manager.specs.After.{Copied, opening_copies}
use Rattle.book_law.specs.Passes.{Test, after, after_all}
use Rattle.world_rules.specs.Frame.{Frame}
use Rattle.world_rules.specs.Processes.{Begun, begun_by, first_process, home_in, member_named, processes_from, processes_in, with_entry}
use Rattle.world_rules.specs.Worlds.{agreed}
use Rattle.world_facts.specs.Processes.{AllBegin, HomesAreMembers}

abbrev AllLow : ℕ → List Begun → Type 0
AllLow nodes [] = Unit {0}
AllLow nodes (process ∷ processes) = (process.home < nodes) × AllLow nodes processes

low_in : (nodes : ℕ) (processes : List Begun) (i : ℕ) → 0 < nodes → AllLow nodes processes → home_in processes i < nodes
low_in nodes [] i some h = some
low_in nodes (process ∷ processes) zero some h = h.0
low_in nodes (process ∷ processes) (suc i) some h = low_in nodes processes i some h.1

named_low : (nodes parent : ℕ) (n : Option ℤ) → 0 < nodes → parent < nodes → member_named nodes parent n < nodes
named_low nodes parent None some low = low
named_low nodes parent (Some (pos a)) some low = mod_below a nodes some
named_low nodes parent (Some (negsuc a)) some low = omega (arith, some)

begun_low : (nodes parent place : ℕ) (act : Action) → 0 < nodes → parent < nodes → AllLow nodes (begun_by nodes parent place act)
begun_low nodes parent place (action.Fork text args place_on) some low = (named_low nodes parent place_on some low, tt)
begun_low nodes parent place (action.Make kind object) some low = tt
begun_low nodes parent place (action.Call kind op object args) some low = tt
begun_low nodes parent place action.Ended some low = tt
begun_low nodes parent place (action.Faulted fault) some low = tt

low_append : (nodes : ℕ) (xs ys : List Begun) → AllLow nodes xs → AllLow nodes ys → AllLow nodes (xs ++ ys)
low_append nodes [] ys h k = k
low_append nodes (x ∷ xs) ys h k = (h.0, low_append nodes xs ys h.1 k)

low_from : (f : Frame) (processes : List Begun) (applied : ℕ) (xs : List Message) → 0 < f.settings.nodes →
    AllLow f.settings.nodes processes → AllLow f.settings.nodes (processes_from f processes applied xs)
low_from f processes applied [] some h = h
low_from f processes applied (x ∷ xs) some h = low_from f (with_entry f processes (suc applied) x) (suc applied) xs some
    (low_append f.settings.nodes processes _ h
    (begun_low f.settings.nodes (home_in processes x.process.0) (suc applied) x.action some
    (low_in f.settings.nodes processes x.process.0 some h)))

pub homes : HomesAreMembers
homes f w i some = low_in f.settings.nodes (processes_in f (agreed f w)) i some
    (low_from f (first_process f ∷ []) 0 (agreed f w) some (some, tt))

-- ---- as the list grows

-- processes that there are stay the first ones
grown : (f : Frame) (processes : List Begun) (applied : ℕ) (xs : List Message) →
    (later : List Begun) × (processes_from f processes applied xs ≡ processes ++ later)
grown f processes applied [] = ([], sym (append-nil processes))
grown f processes applied (x ∷ xs) =
    let born : List Begun = begun_by f.settings.nodes (home_in processes x.process.0) (suc applied) x.action in
    let rest = grown f (with_entry f processes (suc applied) x) (suc applied) xs in
    (born ++ rest.0, rest.1 ∙ append_assoc processes born rest.0)

from_append : (f : Frame) (processes : List Begun) (applied : ℕ) (xs ys : List Message) →
    processes_from f processes applied (xs ++ ys) ≡ processes_from f (processes_from f processes applied xs) (applied + length xs) ys
from_append f processes applied [] ys =
    ap (λ n. processes_from f processes n ys) (let e : applied ≡ applied + 0 = omega arith in e)
from_append f processes applied (x ∷ xs) ys =
    from_append f (with_entry f processes (suc applied) x) (suc applied) xs ys
    ∙ ap (λ n. processes_from f (processes_from f (with_entry f processes (suc applied) x) (suc applied) xs) n ys)
    (let e : suc applied + length xs ≡ applied + suc (length xs) = omega arith in e)

pub born_many : (nodes parent place : ℕ) (a : Action) → length (begun_by nodes parent place a) ≡ length (forked a)
born_many nodes parent place (action.Make kind object) = refl
born_many nodes parent place (action.Call kind op object args) = refl
born_many nodes parent place (action.Fork text args place_on) = refl
born_many nodes parent place action.Ended = refl
born_many nodes parent place (action.Faulted fault) = refl

counted_from : (f : Frame) (single : Test) (c : Copied) (processes : List Begun) (applied : ℕ) (xs : List Message) →
    length processes ≡ c.processes → length (processes_from f processes applied xs) ≡ (after_all single f.performs c xs).processes
counted_from f single c processes applied [] same = same
counted_from f single c processes applied (x ∷ xs) same =
    let born : List Begun = begun_by f.settings.nodes (home_in processes x.process.0) (suc applied) x.action in
    let long = length-append processes born in
    let many = born_many f.settings.nodes (home_in processes x.process.0) (suc applied) x.action in
    counted_from f single (after single f.performs c x) (processes ++ born) (suc applied) xs (omega (arith, same, long, many))

first_of : (process : Begun) (later all : List Begun) → all ≡ (process ∷ []) ++ later → slice_get all 0 ≡ Some process
first_of process later all is = ap (λ (ps : List Begun). slice_get ps 0) is

pub all_begin : AllBegin
all_begin f list = record {
  first =
      let g = grown f (first_process f ∷ []) 0 list in
      first_of (first_process f) g.0 (processes_in f list) g.1;
  longer = λ more.
      let g = grown f (processes_in f list) (0 + length list) more in
      (g.0, from_append f (first_process f ∷ []) 0 list more ∙ g.1);
  counted = λ single. counted_from f single opening_copies (first_process f ∷ []) 0 list refl;
}
