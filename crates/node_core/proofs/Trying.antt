-- A try of a read at work: what it asks, and that it is the rules'.
use Rattle.std.proofs.Common.{◌≡◌, ◌++◌, ◌∷◌, ℕ, suc, List, [], Some, None, refl, sym, ap, ◌∙◌, subst}
use Rattle.value_core.specs.Meaning.{Performs}
use Rattle.value_core.specs.declared.action.Line.{Line}
use Rattle.value_core.specs.declared.action.Reply.{Reply}
use Rattle.book_law.specs.declared.placing.Placed.{Placed}
use Rattle.object_manager.specs.After.{Copied}
use Rattle.world_rules.specs.Applying.{tries_read, tries_reads}
use Rattle.world_rules.specs.Frame.{Frame}
use Rattle.world_rules.specs.Nodes.{Deed, NodeWork, aside_of, changes, does}
use Rattle.world_rules.specs.Played.{receives}
use Rattle.node_rules.specs.Conditions.{Fitness}
use Rattle.node_rules.specs.Moments.{works}
use Rattle.node_rules.specs.Moments.Goes.{Tries_read}
use Rattle.node_rules.specs.Moments.Walks.{Stays}
use Rattle.node_core.specs.Pieces.{Becomes, BecomesIn, GoesOn, IsSomewhere, MayBeHanded, MayReadAt, MayTryRead, line_read, resident_at}
use Rattle.node_parts.specs.Shown.{Left, Stood}
use Rattle.node_core.specs.Stands.{IsAt, IsWork, StandsAs}
use Rattle.node_parts.specs.declared.moved.Moved.{Moved}
use Rattle.node_core.specs.declared.node.Node.{Node}
use Rattle.node_core.specs.declared.work.Work.{Work}
use Rattle.node_core.proofs.Noting.{goes_at}
use Rattle.node_core.proofs.Reading.{RepliesFit, may_be_handed, may_read_at, reads_none, reads_some}

-- what it asks of the copies
pub may_try : {P S : Type 0} (stood : Stood S) (left : Left S) (f : Frame) (fitness : Fitness) (i : ℕ) (s : Work P S) → MayTryRead stood left f fitness i s
    → MayReadAt fitness.state fitness.args s.node.copies.objects (resident_at s.node i)
may_try stood left f fitness i s (m, v, work, try) =
    subst (λ (c : Copied). MayReadAt fitness.state fitness.args c.objects (resident_at s.node i)) (sym work.node.copies)
    (may_read_at stood left fitness.state fitness.args v.node.copies.objects i (resident_at s.node i) (v.node.played i) (work.node.residents i)
    (λ r is kind op object given at. try.reads r kind op object given is at))

-- and its line may be handed to its process
pub line_handed : {P S : Type 0} (stood : Stood S) (left : Left S) (f : Frame) (fitness : Fitness) (i : ℕ) (s mid : Work P S) (p : Performs) (line : Line) (reply : Reply)
    → RepliesFit p fitness.state fitness.args fitness.reply → MayTryRead stood left f fitness i s → line_read p s.node.copies.objects i (resident_at s.node i) ≡ Some line
    → mid.node ≡ s.node → reply ≡ line.reply → MayBeHanded stood left fitness.reply i reply (resident_at mid.node i)
line_handed {P} {S} stood left f fitness i s mid p line reply law (m, v, work, try) found same is =
    subst (λ (n : Node P S). MayBeHanded stood left fitness.reply i reply (resident_at n i)) (sym same)
    (subst (λ (x : Reply). MayBeHanded stood left fitness.reply i x (resident_at s.node i)) (sym is)
    (may_be_handed stood left p fitness.state fitness.args fitness.reply law s.node.copies.objects i (resident_at s.node i) (v.node.played i) line (work.node.residents i)
    (λ r at. try.small.calls i r at) (may_try stood left f fitness i s (m, v, work, try)) found))

-- a line that is performed beside the list
pub performed : {P S : Type 0} (stood : Stood S) (left : Left S) (f : Frame) (m : ℕ) (old new : Work P S) (line : Line) (v : NodeWork)
    → new.node ≡ old.node → new.moved.aside.items ≡ old.moved.aside.items ++ record { place = old.node.copies.applied; line = line } ∷ []
    → new.moved ≡ record old.moved { aside = new.moved.aside } → IsWork stood left f m old v
    → IsWork stood left f m new (does (Deed.Performs (record { place = v.node.copies.applied; line = line })) v)
performed {P} {S} stood left f m old new line v same aside others h = record {
  node = subst (λ (n : Node P S). StandsAs stood left f m n v.node) (sym same) h.node;
  moved = record {
    sends = ap (λ (d : Moved). d.sends.items) others ∙ h.moved.sends;
    entries = ap (λ (d : Moved). d.entries.items) others ∙ h.moved.entries;
    aside = aside ∙ ap (λ (l : List Placed). l ++ record { place = old.node.copies.applied; line = line } ∷ []) h.moved.aside
        ∙ ap (λ (c : Copied). aside_of v.deeds ++ record { place = c.applied; line = line } ∷ []) h.node.copies;
  };
}

-- the try finds the same line on the world's copies
same_line : {P S : Type 0} (stood : Stood S) (left : Left S) (f : Frame) (m i : ℕ) (s : Work P S) (v : NodeWork) (p : Performs) → p ≡ f.performs → IsWork stood left f m s v
    → line_read p s.node.copies.objects i (resident_at s.node i) ≡ line_read f.performs v.node.copies.objects i (resident_at s.node i)
same_line stood left f m i s v p is h =
    ap (λ (q : Performs). line_read q s.node.copies.objects i (resident_at s.node i)) is
    ∙ ap (λ (c : Copied). line_read f.performs c.objects i (resident_at s.node i)) h.node.copies

pub tried_none : {P S : Type 0} (stood : Stood S) (left : Left S) (f : Frame) (m i : ℕ) (s : Work P S) (v : NodeWork) (p : Performs) → p ≡ f.performs
    → line_read p s.node.copies.objects i (resident_at s.node i) ≡ None → IsWork stood left f m s v → IsWork stood left f m s (tries_read f i v)
tried_none stood left f m i s v p is none h =
    subst (λ (w : NodeWork). IsWork stood left f m s w)
    (sym (reads_none stood left f i (resident_at s.node i) (v.node.played i) v (h.node.residents i) (sym (same_line stood left f m i s v p is h) ∙ none))) h

pub tried_some : {P S : Type 0} (stood : Stood S) (left : Left S) (f : Frame) (m i : ℕ) (old mid new : Work P S) (v : NodeWork) (p : Performs) (line : Line) (place : ℕ) (reply : Reply)
    → p ≡ f.performs → line_read p old.node.copies.objects i (resident_at old.node i) ≡ Some line
    → mid.node ≡ old.node → mid.moved.aside.items ≡ old.moved.aside.items ++ record { place = old.node.copies.applied; line = line } ∷ []
    → mid.moved ≡ record old.moved { aside = mid.moved.aside } → place ≡ old.node.copies.applied → reply ≡ line.reply
    → Becomes stood left mid new (λ g n. changes (receives place reply) i) → IsWork stood left f m old v → IsWork stood left f m new (tries_read f i v)
tried_some {P} {S} stood left f m i old mid new v p line place reply is found same aside others at gets becomes h =
    subst (λ (w : NodeWork). IsWork stood left f m new w)
    (ap (λ (x : Reply). changes (receives place x) i mids) gets
    ∙ ap (λ (n : ℕ). changes (receives n line.reply) i mids) (at ∙ ap (λ (c : Copied). c.applied) h.node.copies)
    ∙ sym (reads_some stood left f i (resident_at old.node i) (v.node.played i) line v (h.node.residents i) (sym (same_line stood left f m i old v p is h) ∙ found)))
    (becomes f m mids (performed stood left f m old mid line v same aside others h))
  where
    mids : NodeWork
    mids = does (Deed.Performs (record { place = v.node.copies.applied; line = line })) v

-- ---- in a walk

-- wherever the conditions hold, each process's read may be tried, and so too after some were
pub try_after : {P S : Type 0} (stood : Stood S) (left : Left S) (f : Frame) (fitness : Fitness) (i : ℕ) (start s : Work P S) → IsSomewhere stood left f fitness start
    → GoesOn stood left f fitness start s (λ m. tries_reads f i) → MayTryRead stood left f fitness i s
try_after stood left f fitness i start s (m, hand, u, at) goes =
    let here = goes m hand u at in
    let now = here.fits (works (tries_reads f i u.work) u) (Stays (works (tries_reads f i u.work) u)) in
    (m, tries_reads f i u.work, here.work, record { reads = now.reads i; small = now.small })

pub reads_more : {P S : Type 0} (stood : Stood S) (left : Left S) (f : Frame) (fitness : Fitness) (i next : ℕ) (start old new : Work P S) → suc i ≡ next
    → GoesOn stood left f fitness start old (λ m. tries_reads f i) → BecomesIn stood left f old new (λ m. tries_read f i)
    → GoesOn stood left f fitness start new (λ m. tries_reads f next)
reads_more stood left f fitness i next start old new is goes becomes m hand u at =
    let here = goes m hand u at in
    subst (λ (n : ℕ). IsAt stood left f fitness m new hand (works (tries_reads f n u.work) u)) is
    (goes_at stood left f fitness m old new hand (works (tries_reads f i u.work) u) (works (tries_reads f (suc i) u.work) u) (Tries_read i refl) refl
    (becomes m (tries_reads f i u.work) here.work) here)

pub reads_all : {P S : Type 0} (stood : Stood S) (left : Left S) (f : Frame) (fitness : Fitness) (n : ℕ) (start new : Work P S) → n ≡ start.node.copies.processes
    → GoesOn stood left f fitness start new (λ m. tries_reads f n) → GoesOn stood left f fitness start new (λ m v. tries_reads f v.node.copies.processes v)
reads_all stood left f fitness n start new is goes m hand u at =
    subst (λ (k : ℕ). IsAt stood left f fitness m new hand (works (tries_reads f k u.work) u)) (is ∙ ap (λ (c : Copied). c.processes) at.work.node.copies) (goes m hand u at)
