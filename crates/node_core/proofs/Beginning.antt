-- The process that an entry forks begins, where it is this member's.
use Rattle.std.proofs.Common.{◌≡◌, ◌∷◌, ◌==◌, ℕ, Bool, true, false, List, [], map, Option, None, refl, sym, ap, ◌∙◌, subst, if◌then◌else◌}
use Rattle.std.specs.Prelude.{ℤ}
use Rattle.std.proofs.lemmas.Bool.{eq-eqb, eqb-true}
use Rattle.orca_base.specs.declared.ids.TextNo.{TextNo}
use Rattle.value_core.specs.Datum.{Data}
use Rattle.value_core.specs.Fits.{Kinds}
use Rattle.value_core.specs.declared.action.Action.{Action}
use Rattle.value_core.specs.declared.action.Action.TheVariants as action
use Rattle.book_law.specs.Fitness.{TextFits}
use Rattle.object_manager.specs.After.{Copied}
use Rattle.world_rules.specs.Frame.{Frame}
use Rattle.world_rules.specs.Nodes.{NodeWork, plays}
use Rattle.world_rules.specs.Played.{newborn}
use Rattle.world_rules.specs.Processes.{Begun, begun_by, member_named}
use Rattle.node_core.specs.Entries.{Begins, MayBegin, newborn_at}
use Rattle.node_core.specs.Pieces.{Becomes, HasPut}
use Rattle.node_parts.specs.Shown.{IsPlayed, Left, Stood, on_stage}
use Rattle.node_core.specs.Stands.{IsMoved, IsWork, on_known}
use Rattle.node_parts.specs.declared.moved.Moved.{Moved}
use Rattle.node_core.specs.declared.node.Known.{Known}
use Rattle.node_parts.specs.declared.resident.Resident.{Resident}
use Rattle.node_parts.specs.declared.resident.Stage.TheVariants as at_stage
use Rattle.node_core.specs.declared.work.Work.{Work}
use Rattle.node_core.proofs.Working.{stands_put}

-- a process that was put here as it begins
pub started : {P S : Type 0} (stood : Stood S) (left : Left S) (f : Frame) (m i place : ℕ) (text : TextNo) (args : Data) (state : S) (b : Resident S) (old new : Work P S) (v : NodeWork)
    → stood state text (record { 0 = i }) args [] 0 → b ≡ record { state = state; turns = 0; place = place; calls = 0; stage = at_stage.Computing; out = None }
    → place ≡ old.node.copies.applied → HasPut i b old.node new.node → new.moved ≡ old.moved
    → IsWork stood left f m old v → IsWork stood left f m new (plays i (newborn_at text args v.node.copies.applied) v)
started {P} {S} stood left f m i place text args state b old new v stands is at put moved work = record {
  node = stands_put stood left f m i b (newborn_at text args v.node.copies.applied) old.node new.node v.node put begun work.node;
  moved = subst (λ (d : Moved). IsMoved f.settings.nodes d v.deeds) (sym moved) work.moved;
}
  where
    begun : IsPlayed stood left i b (newborn_at text args v.node.copies.applied)
    begun = record {
      state = subst (λ (s : S). stood s text (record { 0 = i }) args [] 0) (sym (ap (λ (r : Resident S). r.state) is)) stands;
      halts = tt;
      turns = ap (λ (r : Resident S). r.turns) is;
      place = ap (λ (r : Resident S). r.place) is ∙ at ∙ ap (λ (c : Copied). c.applied) work.node.copies;
      calls = ap (λ (r : Resident S). r.calls) is;
      stage = ap (λ (r : Resident S). on_stage r.stage) is;
    }

-- of an action that is no fork none begins
pub begins_none : {P S : Type 0} (stood : Stood S) (left : Left S) (f : Frame) (number : ℕ) (born : List Known) (act : Action) (s : Work P S)
    → ((text : TextNo) (args : Data) (place_on : Option ℤ) → act ≡ action.Fork text args place_on → ⊥) → Begins stood left f number born act s s
begins_none stood left f number born (action.Fork text args place_on) s not_fork m parent v work is = absurd (not_fork text args place_on refl)
begins_none stood left f number born (action.Make kind object) s not_fork m parent v work is = work
begins_none stood left f number born (action.Call kind op object args) s not_fork m parent v work is = work
begins_none stood left f number born action.Ended s not_fork m parent v work is = work
begins_none stood left f number born (action.Faulted fault) s not_fork m parent v work is = work

one_known : (a b : Known) → a ∷ [] ≡ b ∷ [] → a ≡ b
one_known a b is = cc is

-- nor of another member's
pub begins_away : {P S : Type 0} (stood : Stood S) (left : Left S) (f : Frame) (number : ℕ) (known : Known) (act : Action) (text : TextNo) (args : Data) (place_on : Option ℤ) (s : Work P S)
    → act ≡ action.Fork text args place_on → (known.home ≡ s.node.member.me → ⊥) → Begins stood left f number (known ∷ []) act s s
begins_away {P} {S} stood left f number known act text args place_on s fork away =
    subst (λ (a : Action). Begins stood left f number (known ∷ []) a s s) (sym fork)
    (λ m parent v work is.
    let home : ℕ = member_named f.settings.nodes parent place_on in
    go m home v work (home == m) refl
    (λ same. away (ap (λ (k : Known). k.home) (one_known known (record { text = text; home = home }) is) ∙ eqb-true home m same ∙ sym work.node.member.me)))
  where
    go : (m home : ℕ) (v : NodeWork) → IsWork stood left f m s v → (b : Bool) → (home == m) ≡ b → ((home == m) ≡ true → ⊥)
        → IsWork stood left f m s (if home == m then plays number (newborn (record { text = text; args = args; home = home; place = v.node.copies.applied })) v else v)
    go m home v work true e apart = absurd (apart e)
    go m home v work false e apart =
        subst (λ (b : Bool). IsWork stood left f m s (if b then plays number (newborn (record { text = text; args = args; home = home; place = v.node.copies.applied })) v else v)) (sym e) work

-- one of this member does
pub begins_here : {P S : Type 0} (stood : Stood S) (left : Left S) (f : Frame) (number : ℕ) (known : Known) (act : Action) (text : TextNo) (args : Data) (place_on : Option ℤ) (old new : Work P S)
    → act ≡ action.Fork text args place_on → known.home ≡ old.node.member.me
    → Becomes stood left old new (λ g m v. plays number (newborn_at known.text args v.node.copies.applied) v) → Begins stood left f number (known ∷ []) act old new
begins_here {P} {S} stood left f number known act text args place_on old new fork here becomes =
    subst (λ (a : Action). Begins stood left f number (known ∷ []) a old new) (sym fork)
    (λ m parent v work is.
    let home : ℕ = member_named f.settings.nodes parent place_on in
    let same : known ≡ record { text = text; home = home } = one_known known (record { text = text; home = home }) is in
    let own : home ≡ m = sym (ap (λ (k : Known). k.home) same) ∙ here ∙ work.node.member.me in
    subst (λ (b : Bool). IsWork stood left f m new (if b then plays number (newborn_at text args v.node.copies.applied) v else v))
    (sym (ap (λ (n : ℕ). n == m) own ∙ eq-eqb m m refl))
    (subst (λ (k : Known). IsWork stood left f m new (plays number (newborn_at k.text args v.node.copies.applied) v)) same (becomes f m v work)))

-- the process that it starts is one that fits
pub starts_fit : (fits : TextFits) (me : ℕ) (act : Action) (born : List Known) (known : Known) (text : TextNo) (args : Data) (place_on : Option ℤ)
    → act ≡ action.Fork text args place_on → born ≡ known ∷ [] → known.home ≡ me → MayBegin fits me act born → (kinds : Kinds) × fits kinds known.text args
starts_fit fits me act born known text args place_on fork is here may =
    subst (λ (a : Action). MayBegin fits me a born → (kinds : Kinds) × fits kinds known.text args) (sym fork) (λ h. h known is here) may

-- the process of a fork that may begin may be started
pub may_begin : (fits : TextFits) (nodes parent place m me : ℕ) (act : Action) (born : List Known) → me ≡ m → born ≡ map on_known (begun_by nodes parent place act)
    → ((b : Begun) → begun_by nodes parent place act ≡ b ∷ [] → b.home ≡ m → (kinds : Kinds) × fits kinds b.text b.args) → MayBegin fits me act born
may_begin fits nodes parent place m me (action.Fork text args place_on) born own is may = λ known one here.
    let b : Begun = record { text = text; args = args; home = member_named nodes parent place_on; place = place } in
    let same : known ≡ on_known b = one_known known (on_known b) (sym one ∙ is) in
    subst (λ (k : Known). (kinds : Kinds) × fits kinds k.text args) (sym same) (may b refl (sym (ap (λ (k : Known). k.home) same) ∙ here ∙ own))
may_begin fits nodes parent place m me (action.Make kind object) born own is may = tt
may_begin fits nodes parent place m me (action.Call kind op object args) born own is may = tt
may_begin fits nodes parent place m me action.Ended born own is may = tt
may_begin fits nodes parent place m me (action.Faulted fault) born own is may = tt
