-- A member at work: one of its processes changes.
use Rattle.std.proofs.Common.{◌≡◌, ◌==◌, ℕ, Bool, true, false, map, Option, Some, None, refl, sym, ap, ◌∙◌, subst, slice_index_or, if◌then◌else◌, Result, Ok, Err, OnOk}
use Rattle.std.proofs.lemmas.Bool.{eqb-true}
use Rattle.group_rules.specs.Sets.{with_at}
use Rattle.group_member.specs.StandsFor.{StandsFor}
use Rattle.world_rules.specs.Frame.{Frame, group}
use Rattle.world_rules.specs.Nodes as nodes
use Rattle.world_rules.specs.Nodes.{NodeWork, changes, if_played, plays}
use Rattle.world_rules.specs.Played.{Played}
use Rattle.node_core.specs.Calls.{HasKept, given_at}
use Rattle.node_core.specs.Pieces.{HasPut, resident_at}
use Rattle.node_parts.specs.Shown.{IsPlayed, IsPlayedIf, Left, Stood, on_errand, on_given}
use Rattle.node_core.specs.Stands.{IsMoved, IsWork, StandsAs}
use Rattle.node_parts.specs.declared.errand.Given.{Given}
use Rattle.node_parts.specs.declared.moved.Moved.{Moved}
use Rattle.node_core.specs.declared.node.Node.{Node}
use Rattle.node_parts.specs.declared.resident.Resident.{Resident}
use Rattle.node_core.specs.declared.work.Work.{Work}

-- a process that isn't here isn't here in the world's node
pub none_here : {S : Type 0} (stood : Stood S) (left : Left S) (i : ℕ) (s : Option (Resident S)) (r : Option Played) → s ≡ None → IsPlayedIf stood left i s r → r ≡ None
none_here stood left i None None is here = refl
none_here stood left i None (Some r) is here = absurd here
none_here stood left i (Some s) r is here = absurd (cc is)

-- and one that is here, is
pub some_here : {S : Type 0} (stood : Stood S) (left : Left S) (i : ℕ) (s : Option (Resident S)) (a : Resident S) (r : Option Played) → s ≡ Some a → IsPlayedIf stood left i s r
    → (p : Played) × (r ≡ Some p) × IsPlayed stood left i a p
some_here stood left i None a r is here = absurd (cc is)
some_here stood left i (Some s) a None is here = absurd here
some_here stood left i (Some s) a (Some p) is here = (p, refl, (let e : s ≡ a = cc is in subst (λ (x : Resident _). IsPlayed stood left i x p) e here))

pub has_put : {P S : Type 0} (k : ℕ) (s : Resident S) (old new : Node P S) → new ≡ record old { residents = new.residents }
    → ((i : ℕ) → resident_at new i ≡ with_at (resident_at old) k (Some s) i) → HasPut k s old new
has_put k s old new others put = record { others = others; put = put }

pub has_kept : {P S : Type 0} (k : ℕ) (x : Given) (old new : Work P S) → new ≡ record old { node = record old.node { given = new.node.given } }
    → ((i : ℕ) → given_at new.node i ≡ with_at (given_at old.node) k (Some x) i) → HasKept k x old new
has_kept k x old new others kept = record { others = others; kept = kept }

-- a change of a process that isn't here changes nothing
pub unplayed : {P S : Type 0} (stood : Stood S) (left : Left S) (f : Frame) (m i : ℕ) (change : Played → Played) (s : Work P S) (v : NodeWork)
    → resident_at s.node i ≡ None → IsWork stood left f m s v → IsWork stood left f m s (changes change i v)
unplayed stood left f m i change s v is work =
    subst (λ (o : Option Played). IsWork stood left f m s (if_played change i o v)) (sym (none_here stood left i (resident_at s.node i) (v.node.played i) is (work.node.residents i))) work

-- the process of this number stands otherwise
put_here : {S : Type 0} (stood : Stood S) (left : Left S) (k i : ℕ) (b : Resident S) (p : Played) (olds : ℕ → Option (Resident S)) (plays : ℕ → Option Played)
    → IsPlayed stood left k b p → IsPlayedIf stood left i (olds i) (plays i) → IsPlayedIf stood left i (with_at olds k (Some b) i) (with_at plays k (Some p) i)
put_here {S} stood left k i b p olds plays is others = go (i == k) refl
  where
    go : (t : Bool) → (i == k) ≡ t → IsPlayedIf stood left i (if t then Some b else olds i) (if t then Some p else plays i)
    go true e = subst (λ (n : ℕ). IsPlayed stood left n b p) (sym (eqb-true i k e)) is
    go false e = others

pub stands_put : {P S : Type 0} (stood : Stood S) (left : Left S) (f : Frame) (m k : ℕ) (b : Resident S) (p : Played) (old new : Node P S) (v : nodes.Node)
    → HasPut k b old new → IsPlayed stood left k b p → StandsAs stood left f m old v → StandsAs stood left f m new (record v { played = with_at v.played k (Some p) })
stands_put {P} {S} stood left f m k b p old new v put is h = record {
  member = subst (λ (n : Node P S). StandsFor (group f) m n.member v.member) (sym put.others) h.member;
  copies = ap (λ (n : Node P S). n.copies) put.others ∙ h.copies;
  known = ap (λ (n : Node P S). n.known.items) put.others ∙ h.known;
  residents = λ i. subst (λ (o : Option (Resident S)). IsPlayedIf stood left i o (with_at v.played k (Some p) i)) (sym (put.put i)) (put_here stood left k i b p (resident_at old) v.played is (h.residents i));
  held = ap (λ (n : Node P S). map on_errand n.held.items) put.others ∙ h.held;
  given = λ i. ap (λ (n : Node P S). on_given (slice_index_or n.given.items i None)) put.others ∙ h.given i;
  choices = ap (λ (n : Node P S). n.choices) put.others ∙ h.choices;
}

-- a process that is here changes as its resident does
pub played : {P S : Type 0} (stood : Stood S) (left : Left S) (f : Frame) (m i : ℕ) (change : Played → Played) (a b : Resident S) (old new : Work P S) (v : NodeWork)
    → resident_at old.node i ≡ Some a → ((r : Played) → IsPlayed stood left i a r → IsPlayed stood left i b (change r))
    → HasPut i b old.node new.node → new.moved ≡ old.moved → IsWork stood left f m old v → IsWork stood left f m new (changes change i v)
played {P} {S} stood left f m i change a b old new v at alike put moved work =
    let here = some_here stood left i (resident_at old.node i) a (v.node.played i) at (work.node.residents i) in
    subst (λ (o : Option Played). IsWork stood left f m new (if_played change i o v)) (sym here.1)
    (record {
      node = stands_put stood left f m i b (change here.0) old.node new.node v.node put (alike here.0 here.2) work.node;
      moved = subst (λ (d : Moved). IsMoved f.settings.nodes d v.deeds) (sym moved) work.moved;
    })

-- what is so of success leads to another
pub ok_map : {T E : Type 0} (r : Result T E) (P Q : Type 0) → (P → Q) → OnOk r P → OnOk r Q
ok_map (Ok x) P Q f h = f h
ok_map (Err e) P Q f h = h

-- what is so anyway is so of success
pub ok_so : {T E : Type 0} (r : Result T E) (P : Type 0) → P → OnOk r P
ok_so (Ok x) P h = h
ok_so (Err e) P h = tt

-- and so do two of it
pub ok_two : {T E : Type 0} (r : Result T E) (P Q R : Type 0) → (P → Q → R) → OnOk r P → OnOk r Q → OnOk r R
ok_two (Ok x) P Q R f h k = f h k
ok_two (Err e) P Q R f h k = tt
