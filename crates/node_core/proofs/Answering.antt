-- The lines of an entry go to their processes here one by one.
use Rattle.std.proofs.Common.{◌≡◌, ◌<◌, ◌++◌, ◌∷◌, ◌==◌, ◌^◌, ℕ, zero, suc, Bool, true, false, List, [], length, take, slice_get, Option, Some, None, refl, sym, ap, ◌∙◌, subst, arith, if◌then◌else◌}
use Rattle.std.proofs.lemmas.Bool.{eqb-true}
use Rattle.value_core.specs.declared.action.Line.{Line}
use Rattle.book_law.specs.Fitness.{ReplyFits}
use Rattle.world_rules.specs.Applying.{answers}
use Rattle.world_rules.specs.Frame.{Frame}
use Rattle.world_rules.specs.Nodes.{Deed, NodeWork, changes, does, if_played}
use Rattle.world_rules.specs.Nodes.Deed.{Applies}
use Rattle.world_rules.specs.Played.{Played, receives}
use Rattle.node_rules.specs.Handing.{MayReceive}
use Rattle.node_core.specs.Entries.{MayAnswer, MayAnswerHere}
use Rattle.node_core.specs.Pieces.{Becomes, BecomesIn, MayBeHanded, resident_at}
use Rattle.node_parts.specs.Shown.{IsPlayedIf, Left, Stood}
use Rattle.node_core.specs.Stands.{IsWork, StandsAs}
use Rattle.node_parts.specs.declared.moved.Moved.{Moved}
use Rattle.node_core.specs.declared.node.Node.{Node}
use Rattle.node_parts.specs.declared.resident.Resident.{Resident}
use Rattle.node_core.specs.declared.work.Work.{Work}

-- ---- in the world

-- another process stands as it did
other_before : (change : Played → Played) (i j : ℕ) (v : NodeWork) (r : Played) → (j == i) ≡ false → (changes change i v).node.played j ≡ Some r → v.node.played j ≡ Some r
other_before change i j v r apart is = go (v.node.played i) is
  where
    go : (o : Option Played) → (if_played change i o v).node.played j ≡ Some r → v.node.played j ≡ Some r
    go None here = here
    go (Some p) here = sym (ap (λ (b : Bool). if b then Some (change p) else v.node.played j) apart) ∙ here

-- who is here was here
was_here : (change : Played → Played) (i : ℕ) (v : NodeWork) (r : Played) → (changes change i v).node.played i ≡ Some r → (p : Played) × (v.node.played i ≡ Some p)
was_here change i v r is = go (v.node.played i) refl is
  where
    go : (o : Option Played) → v.node.played i ≡ o → (if_played change i o v).node.played i ≡ Some r → (p : Played) × (v.node.played i ≡ Some p)
    go None none here = (r, here)
    go (Some p) some here = (p, some)

-- after the first of them the others may be handed on
answers_next : (fits : ReplyFits) (place : ℕ) (l : Line) (ls : List Line) (v : NodeWork) → MayAnswer fits v.node (l ∷ ls)
    → MayAnswer fits (changes (receives place l.reply) l.process.0 v).node ls
answers_next fits place l ls v h = record {
  may = record {
    each = λ k x at r here. h.may.each (suc k) x at r (before k x r at here);
    once = λ j k a b r first second same here. (let e = h.may.once (suc j) (suc k) a b r first second same (before j a r first here) in omega (arith, e));
  };
  small = λ k x r at here. h.small (suc k) x r at (before k x r at here);
}
  where
    u : NodeWork
    u = changes (receives place l.reply) l.process.0 v

    not_again : (k : ℕ) (x : Line) (r : Played) → slice_get ls k ≡ Some x → x.process.0 ≡ l.process.0 → u.node.played l.process.0 ≡ Some r → ⊥
    not_again k x r at same here =
        let was = was_here (receives place l.reply) l.process.0 v r here in
        let e : zero ≡ suc k = h.may.once zero (suc k) l x was.0 refl at (sym same) was.1 in
        absurd (omega (arith, e))

    before : (k : ℕ) (x : Line) (r : Played) → slice_get ls k ≡ Some x → u.node.played x.process.0 ≡ Some r → v.node.played x.process.0 ≡ Some r
    before k x r at here = go (x.process.0 == l.process.0) refl
      where
        go : (b : Bool) → (x.process.0 == l.process.0) ≡ b → v.node.played x.process.0 ≡ Some r
        go false e = other_before (receives place l.reply) l.process.0 x.process.0 v r e here
        go true e =
            let same : x.process.0 ≡ l.process.0 = eqb-true x.process.0 l.process.0 e in
            absurd (not_again k x r at same (subst (λ (n : ℕ). u.node.played n ≡ Some r) same here))

-- a line may be handed to its process when those before it were
pub answers_at : (fits : ReplyFits) (place : ℕ) (lines : List Line) (v : NodeWork) (i : ℕ) (l : Line) (r : Played) → MayAnswer fits v.node lines → slice_get lines i ≡ Some l
    → (answers place (take i lines) v).node.played l.process.0 ≡ Some r → MayReceive fits r l.action l.reply × (length r.replies < 2 ^ 62)
answers_at fits place [] v i l r h at here = absurd (cc at)
answers_at fits place (x ∷ xs) v zero l r h at here = (h.may.each zero l at r here, h.small zero l r at here)
answers_at fits place (x ∷ xs) v (suc i) l r h at here =
    answers_at fits place xs (changes (receives place x.reply) x.process.0 v) i l r (answers_next fits place x xs v h) at here

line_same : (x l : Line) → Some x ≡ Some l → x ≡ l
line_same x l is = cc is

-- one line more
pub answers_more : (place : ℕ) (lines : List Line) (v : NodeWork) (i : ℕ) (l : Line) → slice_get lines i ≡ Some l
    → changes (receives place l.reply) l.process.0 (answers place (take i lines) v) ≡ answers place (take (suc i) lines) v
answers_more place [] v i l at = absurd (cc at)
answers_more place (x ∷ xs) v zero l at = ap (λ (y : Line). changes (receives place y.reply) y.process.0 v) (sym (line_same x l at))
answers_more place (x ∷ xs) v (suc i) l at = answers_more place xs (changes (receives place x.reply) x.process.0 v) i l at

-- what is told changes nothing of it
told_change : (deed : Deed) (change : Played → Played) (i : ℕ) (v : NodeWork) → does deed (changes change i v) ≡ changes change i (does deed v)
told_change deed change i v = go (v.node.played i)
  where
    go : (o : Option Played) → does deed (if_played change i o v) ≡ if_played change i o (does deed v)
    go None = refl
    go (Some p) = refl

pub told_answers : (deed : Deed) (place : ℕ) (lines : List Line) (v : NodeWork) → does deed (answers place lines v) ≡ answers place lines (does deed v)
told_answers deed place [] v = refl
told_answers deed place (l ∷ ls) v =
    told_answers deed place ls (changes (receives place l.reply) l.process.0 v) ∙ ap (answers place ls) (told_change deed (receives place l.reply) l.process.0 v)

-- ---- at work

handed_if : {S : Type 0} (stood : Stood S) (left : Left S) (fits : ReplyFits) (l : Line) (o : Option (Resident S)) (q : Option Played) → IsPlayedIf stood left l.process.0 o q
    → ((r : Played) → q ≡ Some r → MayReceive fits r l.action l.reply × (length r.replies < 2 ^ 62)) → MayBeHanded stood left fits l.process.0 l.reply o
handed_if stood left fits l None q is h = tt
handed_if stood left fits l (Some a) None is h = absurd is
handed_if stood left fits l (Some a) (Some r) is h =
    let may = h r refl in
    record { number = l.process.0; played = r; act = l.action; is = is; may = may.0; small = may.1 }

-- the next line may be handed to its process
pub line_may : {P S : Type 0} (stood : Stood S) (left : Left S) (f : Frame) (fits : ReplyFits) (lines : List Line) (place i : ℕ) (l : Line) (start s : Work P S)
    → MayAnswerHere stood left f fits lines start → BecomesIn stood left f start s (λ m. answers place (take i lines)) → slice_get lines i ≡ Some l
    → MayBeHanded stood left fits l.process.0 l.reply (resident_at s.node l.process.0)
line_may stood left f fits lines place i l start s (m, v, work, may) becomes at =
    let now = becomes m v work in
    handed_if stood left fits l (resident_at s.node l.process.0) ((answers place (take i lines) v).node.played l.process.0) (now.node.residents l.process.0)
    (λ r here. answers_at fits place lines v i l r may at here)

-- and so on
pub lines_more : {P S : Type 0} (stood : Stood S) (left : Left S) (f : Frame) (lines : List Line) (place i next : ℕ) (l : Line) (start old new : Work P S) → suc i ≡ next
    → BecomesIn stood left f start old (λ m. answers place (take i lines)) → slice_get lines i ≡ Some l
    → Becomes stood left old new (λ g m. changes (receives place l.reply) l.process.0) → BecomesIn stood left f start new (λ m. answers place (take next lines))
lines_more stood left f lines place i next l start old new is becomes at goes m v work =
    subst (λ (n : ℕ). IsWork stood left f m new (answers place (take n lines) v)) is
    (subst (λ (w : NodeWork). IsWork stood left f m new w) (answers_more place lines v i l at) (goes f m (answers place (take i lines) v) (becomes m v work)))

-- then they are told
pub lines_told : {P S : Type 0} (stood : Stood S) (left : Left S) (f : Frame) (lines : List Line) (place : ℕ) (old mid new : Work P S)
    → BecomesIn stood left f old mid (λ m. answers place lines) → new.node ≡ mid.node → new.moved ≡ record mid.moved { entries = new.moved.entries }
    → new.moved.entries.items ≡ mid.moved.entries.items ++ lines ∷ [] → BecomesIn stood left f old new (λ m v. answers place lines (does (Applies lines) v))
lines_told {P} {S} stood left f lines place old mid new becomes same others entries m v work =
    let h = becomes m v work in
    subst (λ (w : NodeWork). IsWork stood left f m new w) (told_answers (Applies lines) place lines v)
    (record {
      node = subst (λ (n : Node P S). StandsAs stood left f m n (answers place lines v).node) (sym same) h.node;
      moved = record {
        sends = ap (λ (d : Moved). d.sends.items) others ∙ h.moved.sends;
        entries = entries ∙ ap (λ (l : List (List Line)). l ++ lines ∷ []) h.moved.entries;
        aside = ap (λ (d : Moved). d.aside.items) others ∙ h.moved.aside;
      };
    })
