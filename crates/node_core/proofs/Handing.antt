-- Lines that are handed to the processes here, one after the other: after each, those behind it may still be handed.
use Rattle.std.proofs.Common.{◌≡◌, ◌<◌, ◌^◌, ◌==◌, ℕ, suc, zero, Bool, true, false, List, ◌∷◌, length, slice_get, Option, Some, None, refl, sym, ap, ◌∙◌, arith, if◌then◌else◌}
use Rattle.std.proofs.lemmas.Bool.{ne_eqb}
use Rattle.value_core.specs.declared.action.Line.{Line}
use Rattle.book_law.specs.Fitness.{ReplyFits}
use Rattle.group_rules.specs.Sets.{with_at}
use Rattle.world_rules.specs.Frame.{Frame}
use Rattle.world_rules.specs.Nodes as nodes
use Rattle.world_rules.specs.Nodes.{NodeWork, becomes, changes, does, if_played, known}
use Rattle.world_rules.specs.Owners.{hands, sends_given}
use Rattle.world_rules.specs.Nodes.Deed.{Performs}
use Rattle.world_rules.specs.Played.{Played, receives}
use Rattle.world_rules.specs.Processes.{home_in}
use Rattle.node_rules.specs.Conditions.{AreSmall}
use Rattle.node_rules.specs.Handing.{MayHandAll, MayReceive}
use Rattle.node_core.specs.Pieces.{MayBeHanded}
use Rattle.node_parts.specs.Shown.{IsPlayedIf, Left, Stood}
use Rattle.node_parts.specs.declared.resident.Resident.{Resident}

-- each of these lines may be handed to its process, where that is here, and no two are of one process here
pub record MayHandRest (fits_reply : ReplyFits) (played : ℕ → Option Played) (lines : List Line) : Type 0 where
  pub each : (k : ℕ) (l : Line) (r : Played) → slice_get lines k ≡ Some l → played l.process.0 ≡ Some r → MayReceive fits_reply r l.action l.reply
  pub small : (k : ℕ) (l : Line) (r : Played) → slice_get lines k ≡ Some l → played l.process.0 ≡ Some r → length r.replies < 2 ^ 62
  pub once : (j k : ℕ) (a b : Line) (r : Played) → slice_get lines j ≡ Some a → slice_get lines k ≡ Some b → a.process.0 ≡ b.process.0 → played a.process.0 ≡ Some r → j ≡ k

-- all of them, where it begins
pub hand_from : (fits_reply : ReplyFits) (node : nodes.Node) (lines : List Line) → MayHandAll fits_reply node lines → AreSmall node → MayHandRest fits_reply node.played lines
hand_from fits_reply node lines may small = record {
  each = λ k l r at here. may.each k l at r here;
  small = λ k l r at here. small.calls l.process.0 r here;
  once = may.once;
}

-- the first of them
pub hand_first : {S : Type 0} (stood : Stood S) (left : Left S) (fits_reply : ReplyFits) (played : ℕ → Option Played) (l : Line) (ls : List Line) (o : Option (Resident S))
    → IsPlayedIf stood left l.process.0 o (played l.process.0) → MayHandRest fits_reply played (l ∷ ls) → MayBeHanded stood left fits_reply l.process.0 l.reply o
hand_first {S} stood left fits_reply played l ls o is may = go o (played l.process.0) refl is
  where
    go : (o : Option (Resident S)) (p : Option Played) → played l.process.0 ≡ p → IsPlayedIf stood left l.process.0 o p → MayBeHanded stood left fits_reply l.process.0 l.reply o
    go None p at is = tt
    go (Some s) None at is = absurd is
    go (Some s) (Some r) at is = record {
      number = l.process.0;
      played = r;
      act = l.action;
      is = is;
      may = may.each zero l r refl at;
      small = may.small zero l r refl at;
    }

-- no process but this one changes, and none begins
pub record OneChanges (i : ℕ) (olds news : ℕ → Option Played) : Type 0 where
  pub others : (j : ℕ) → (j ≡ i → ⊥) → news j ≡ olds j
  pub here : (r : Played) → news i ≡ Some r → (q : Played) × (olds i ≡ Some q)

-- so those behind it may be handed
pub hand_rest : (fits_reply : ReplyFits) (olds news : ℕ → Option Played) (l : Line) (ls : List Line) → OneChanges l.process.0 olds news
    → MayHandRest fits_reply olds (l ∷ ls) → MayHandRest fits_reply news ls
hand_rest fits_reply olds news l ls one may = record {
  each = λ k b r at here. may.each (suc k) b r at (sym (one.others b.process.0 (apart k b r at here)) ∙ here);
  small = λ k b r at here. may.small (suc k) b r at (sym (one.others b.process.0 (apart k b r at here)) ∙ here);
  once = λ j k a b r first second same here.
      omega (arith, may.once (suc j) (suc k) a b r first second same (sym (one.others a.process.0 (apart j a r first here)) ∙ here));
}
  where
    apart : (k : ℕ) (b : Line) (r : Played) → slice_get ls k ≡ Some b → news b.process.0 ≡ Some r → b.process.0 ≡ l.process.0 → ⊥
    apart k b r at here same =
        let was = one.here r (ap news (sym same) ∙ here) in
        let both : zero ≡ suc k = may.once zero (suc k) l b was.0 refl at (sym same) was.1 in
        omega (arith, both)

-- a change of one process is of that kind
pub one_plays : (i : ℕ) (p : Played) (olds : ℕ → Option Played) (q : Played) → olds i ≡ Some q → OneChanges i olds (with_at olds i (Some p))
one_plays i p olds q was = record {
  others = λ j apart. ap (λ (b : Bool). if b then Some p else olds j) (ne_eqb j i apart);
  here = λ r is. (q, was);
}

pub one_changes : (change : Played → Played) (i : ℕ) (v : NodeWork) → OneChanges i v.node.played (changes change i v).node.played
one_changes change i v = go (v.node.played i) refl
  where
    go : (o : Option Played) → v.node.played i ≡ o → OneChanges i v.node.played (if_played change i o v).node.played
    go None at = record { others = λ j apart. refl; here = λ r is. (r, is) }
    go (Some q) at = one_plays i (change q) v.node.played q at

-- and so is what an owner's line does
pub one_hands : (f : Frame) (m : ℕ) (l : Line) (v : NodeWork) → OneChanges l.process.0 v.node.played (hands f m l v).node.played
one_hands f m l v = go (home_in (known f v.node) l.process.0 == m)
  where
    told : NodeWork
    told = does (Performs (record { place = v.node.copies.applied; line = l })) v

    kept : nodes.Given
    kept = record { place = v.node.copies.applied; call = l.call; reply = l.reply }

    sent : NodeWork
    sent = sends_given m (home_in (known f v.node) l.process.0) l.process kept (becomes (record told.node { given = with_at told.node.given l.process.0 (Some kept) }) told)

    go : (b : Bool) → OneChanges l.process.0 v.node.played (if b then changes (receives v.node.copies.applied l.reply) l.process.0 told else sent).node.played
    go true = one_changes (receives v.node.copies.applied l.reply) l.process.0 told
    go false = record { others = λ j apart. refl; here = λ r is. (r, is) }
