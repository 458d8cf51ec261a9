-- Which limit stops a member.
use Rattle.std.proofs.Common.{◌≡◌, ◌<◌, ◌≤◌, ◌*◌, ℕ, zero, suc, Bool, true, false, is_some, if◌then◌else◌, List, [], ◌∷◌, length, take, drop, None, Some, refl, sym, ap, ◌∙◌, subst, arith}
use Rattle.std.specs.Prelude.{leb, slice_get}
use Rattle.orca_base.specs.declared.what.What.{What}
use Rattle.orca_base.specs.declared.what.What.TheVariants as what
use Rattle.value_core.specs.Meaning.{Performs}
use Rattle.value_core.specs.declared.action.Action.{Action}
use Rattle.value_core.specs.declared.action.Action.TheVariants as action
use Rattle.value_core.specs.declared.meaning.Making.{Making}
use Rattle.value_core.specs.declared.meaning.Making.TheVariants as making
use Rattle.value_core.specs.declared.message.Message.{Message}
use Rattle.object_manager.specs.After.{Copied}
use Rattle.object_manager.specs.Limits.{most_objects, most_processes, made_objects, objects_limit, too_many}
use Rattle.group_rules.specs.Agree.{Agree, Holds}
use Rattle.group_law.specs.Promise.{AgreementLaw}
use Rattle.world_rules.specs.Frame.{Frame, group}
use Rattle.world_rules.specs.Nodes.{Node}
use Rattle.world_rules.specs.Standings.{limit_at, limit_before}
use Rattle.world_rules.specs.Worlds.{World, group_world}
use Rattle.world_law.specs.CaughtUp.{HasCaughtUp, StopsAt}
use Rattle.world_law.specs.Grouped.{Grouped}
use Rattle.node_rules.specs.Moments.{IsDue}
use Rattle.run_law.specs.Limits.{StopsBefore, limit_of}

-- ---- the limit that an action meets is the one that it can meet

if_some : (b : Bool) (one : What × ℕ) → is_some (if b then Some one else None) ≡ true → (if b then Some one else None) ≡ Some one
if_some true one is = refl
if_some false one is = absurd (cc is)

made_limit : (c : Copied) (made : Making) → is_some (objects_limit c made) ≡ true → objects_limit c made ≡ Some (what.Objects, most_objects)
made_limit c (making.Made state) is = if_some (leb most_objects (made_objects c)) (what.Objects, most_objects) is
made_limit c (making.Broke fault) is = absurd (cc is)

one_limit : (p : Performs) (c : Copied) (a : Action) → is_some (too_many p c a) ≡ true → too_many p c a ≡ limit_of a
one_limit p c (action.Make kind object) is = made_limit c (p.made kind) is
one_limit p c (action.Fork text args place_on) is = if_some (leb most_processes c.processes) (what.Processes, most_processes) is
one_limit p c (action.Call kind op object args) is = absurd (cc is)
one_limit p c action.Ended is = absurd (cc is)
one_limit p c (action.Faulted fault) is = absurd (cc is)

-- ---- the due entries

drop_none : {A : Type 0} (n : ℕ) (xs : List A) → length xs ≤ n → drop n xs ≡ []
drop_none zero [] le = refl
drop_none zero (x ∷ xs) le = absurd (omega (arith, le))
drop_none (suc n) [] le = refl
drop_none (suc n) (x ∷ xs) le = drop_none n xs (omega (arith, le))

take_few : {A : Type 0} (n : ℕ) (xs : List A) → length (take n xs) ≤ n
take_few zero xs = omega arith
take_few (suc n) [] = omega arith
take_few (suc n) (x ∷ xs) = let le = take_few n xs in omega (arith, le)

-- what is left begins with the next item
drop_next : {A : Type 0} (n a : ℕ) (xs : List A) (x : A) → n < a → slice_get xs n ≡ Some x → (rest : List A) × (drop n (take a xs) ≡ x ∷ rest)
drop_next n zero xs x lt there = absurd (omega (arith, lt))
drop_next n (suc a) [] x lt there = absurd (cc there)
drop_next zero (suc a) (y ∷ xs) x lt there = let e : y ≡ x = cc there in (take a xs, ap (λ z. z ∷ take a xs) e)
drop_next (suc n) (suc a) (y ∷ xs) x lt there = drop_next n a xs x (omega (arith, lt)) there

-- a list has an item at each number below its length
item_at : {A : Type 0} (n : ℕ) (xs : List A) → n < length xs → (x : A) × (slice_get xs n ≡ Some x)
item_at n [] lt = absurd (omega (arith, lt))
item_at zero (x ∷ xs) lt = (x, refl)
item_at (suc n) (x ∷ xs) lt = item_at n xs (omega (arith, lt))

none_due : (f : Frame) (node : Node) → node.member.accepted ≤ node.copies.applied → limit_at f node ≡ None
none_due f node le =
    ap (limit_before f node)
    (drop_none node.copies.applied (take node.member.accepted node.member.log)
    (let few = take_few node.member.accepted node.member.log in omega (arith, few, le)))

one_due : (f : Frame) (node : Node) (x : Message) → HasCaughtUp f node → IsDue node x → limit_at f node ≡ limit_of x.action
one_due f node x up due =
    let next = drop_next node.copies.applied node.member.accepted node.member.log x due.accepted due.there in
    ap (limit_before f node) next.1 ∙ one_limit f.performs node.copies x.action (subst (StopsAt f node.copies) next.1 up)

pub stops_before : AgreementLaw Message → (f : Frame) → 2 * (group f).resilience < (group f).nodes → (w : World) (m : ℕ) → Grouped f w → HasCaughtUp f (w.nodes m) → StopsBefore f (w.nodes m)
stops_before worlds f small w m grouped up = record {
  none = none_due f (w.nodes m);
  due = λ x due. one_due f (w.nodes m) x up due;
  kept = λ lt.
      let fits = holds.accepted in
      let base = holds.base in
      let noted = grouped.level m in
      let next = item_at (w.nodes m).copies.applied (w.nodes m).member.log (omega (arith, lt, fits)) in
      (omega (arith, base, noted), (next.0, record { accepted = lt; there = next.1 }));
}
  where
    agree : Agree (group f) (group_world w)
    agree = subst (Agree (group f)) (sym grouped.run) (worlds (group f) small grouped.events)

    holds : Holds w.past (w.nodes m).member
    holds = agree.holds m
