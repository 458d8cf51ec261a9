-- A member applies its next entry, piece by piece.
use Rattle.std.proofs.Common.{◌≡◌, ◌<◌, ◌++◌, ◌∷◌, ◌==◌, ℕ, zero, suc, Bool, true, false, List, [], length, map, slice_get, slice_index_or, is_some, Option, Some, None, refl, sym, ap, ◌∙◌, subst, arith, if◌then◌else◌}
use Rattle.std.proofs.lemmas.List.{map-append}
use Rattle.orca_base.specs.declared.what.What.{What}
use Rattle.value_core.specs.Meaning.{Performs}
use Rattle.value_core.specs.declared.action.Line.{Line}
use Rattle.value_core.specs.declared.message.Message.{Message}
use Rattle.guard_queue.specs.Settles.{lines_of}
use Rattle.guard_queue.specs.declared.settling.Answered.{Answered}
use Rattle.history_buffer.specs.declared.history.Slot.TheVariants.{Found}
use Rattle.object_manager.specs.After.{Copied, after as after_applied}
use Rattle.object_manager.specs.Limits.{too_many}
use Rattle.object_manager.specs.Singles.{after_passed}
use Rattle.book_law.specs.Members.{after_entry}
use Rattle.book_law.specs.Passes.{Test, is_passed, lines_after}
use Rattle.group_member.specs.Laws.{EntryLaw, LengthLaw}
use Rattle.group_member.specs.StandsFor.{StandsFor}
use Rattle.value_core.specs.declared.action.Reply.{Reply}
use Rattle.world_rules.specs.Applying.{answers, applies_one, begins, copies_take, passes_limit, tries_reads}
use Rattle.world_rules.specs.Frame.{Frame, group}
use Rattle.world_rules.specs.Nodes as nodes
use Rattle.world_rules.specs.Nodes.{NodeWork, becomes, does, known}
use Rattle.world_rules.specs.Nodes.Deed.{Applies as Told}
use Rattle.world_rules.specs.Processes.{Begun, begun_by, home_in, singles_of}
use Rattle.node_rules.specs.Conditions.{Fitness}
use Rattle.node_rules.specs.Moments.{IsDue, Moment, born_of, entry_lines, takes_entry, works}
use Rattle.node_rules.specs.Moments.Goes.{Takes_entry}
use Rattle.node_rules.specs.Moments.Walks.{Stays}
use Rattle.node_rules.specs.Entries.{MayTakeEntry}
use Rattle.node_core.specs.Entries.{AppliesNext, Begins, IsBorn, KnowsAs, MayAnswer, MayAnswerHere, MayBegin, Refused, Took}
use Rattle.node_core.specs.Pieces.{BecomesIn, GoesOn, IsNext, IsSomewhere}
use Rattle.node_parts.specs.Shown.{IsPlayedIf, Left, Stood, on_errand, on_given}
use Rattle.node_core.specs.Stands.{IsAt, IsMoved, IsWork, StandsAs, on_known}
use Rattle.node_parts.specs.declared.errand.Errand.{Errand}
use Rattle.node_parts.specs.declared.moved.Moved.{Moved}
use Rattle.node_core.specs.declared.node.Known.{Known}
use Rattle.node_core.specs.declared.node.Node.{Node}
use Rattle.node_core.specs.declared.work.Work.{Work}
use Rattle.node_rules.proofs.Walking.{still_answers}
use Rattle.node_core.proofs.Beginning.{may_begin}
use Rattle.node_core.proofs.Entering.{next_there}
use Rattle.node_core.proofs.Knowing.{known_more}
use Rattle.node_core.proofs.Noting.{goes_at}

-- ---- the entry that is due

item_at : {A : Type 0} (n : ℕ) (xs : List A) → n < length xs → (x : A) × (slice_get xs n ≡ Some x)
item_at n [] lt = absurd (omega (arith, lt))
item_at zero (x ∷ xs) lt = (x, refl)
item_at (suc n) (x ∷ xs) lt = item_at n xs (omega (arith, lt))

-- where fewer are applied than are accepted, there is one
pub due_there : {P S : Type 0} (stood : Stood S) (left : Left S) (f : Frame) (fitness : Fitness) (m : ℕ) (s : Work P S) (hand : List Errand) (u : Moment)
    → LengthLaw Message Reply → IsAt stood left f fitness m s hand u → s.node.copies.applied < s.node.member.accepted → (x : Message) × IsDue u.work.node x
due_there stood left f fitness m s hand u law at lt =
    let member = at.work.node.member in
    let long = law (group f) m s.node.member u.work.node.member member in
    let accepts = member.member.accepts in
    let accepted = member.accepted in
    let copied = ap (λ (c : Copied). c.applied) at.work.node.copies in
    let found = item_at u.work.node.copies.applied u.work.node.member.log (omega (arith, long, accepts, accepted, copied, lt)) in
    (found.0, record { accepted = omega (arith, accepted, copied, lt); there = found.1 })

-- and the code finds it
pub is_next : {P S : Type 0} (stood : Stood S) (left : Left S) (f : Frame) (fitness : Fitness) (s : Work P S) → LengthLaw Message Reply → EntryLaw Message Reply
    → IsSomewhere stood left f fitness s → s.node.copies.applied < s.node.member.accepted → (x : Message) × IsNext s.node x
is_next stood left f fitness s long law (m, hand, u, at) lt =
    let due = due_there stood left f fitness m s hand u long at lt in
    (due.0, next_there stood left f fitness m s hand u due.0 law at due.1)

found_same : (x y : Message) → Found x ≡ Found y → x ≡ y
found_same x y is = cc is

pub next_is : {P S : Type 0} (stood : Stood S) (left : Left S) (f : Frame) (fitness : Fitness) (m : ℕ) (s : Work P S) (hand : List Errand) (u : Moment) (x y : Message) → EntryLaw Message Reply
    → IsAt stood left f fitness m s hand u → IsDue u.work.node x → IsNext s.node y → x ≡ y
next_is stood left f fitness m s hand u x y law at due next =
    found_same x y (let due_next = next_there stood left f fitness m s hand u x law at due in sym due_next.there ∙ next.there)

-- ---- it is taken

-- the member knows what the world does
pub knows : {P S : Type 0} (stood : Stood S) (left : Left S) (f : Frame) (m : ℕ) (s : Node P S) (v : nodes.Node) → StandsAs stood left f m s v → KnowsAs f (known f v) s
knows stood left f m s v h = record { known = h.known; choices = h.choices }

pub may_take : {P S : Type 0} (stood : Stood S) (left : Left S) (f : Frame) (fitness : Fitness) (m : ℕ) (s : Work P S) (hand : List Errand) (u : Moment) (x : Message) (p : Performs)
    → p ≡ f.performs → IsAt stood left f fitness m s hand u → IsDue u.work.node x → MayTakeEntry p fitness.state fitness.args s.node.copies x.action
may_take stood left f fitness m s hand u x p is at due =
    let now = at.fits u (Stays u) in
    let within = now.within in
    let small = now.small.accepted in
    subst (λ (c : Copied). MayTakeEntry p fitness.state fitness.args c x.action) (sym at.work.node.copies)
    (subst (λ (q : Performs). MayTakeEntry q fitness.state fitness.args u.work.node.copies x.action) (sym is)
    (record { fits = now.fits; blocked = now.blocked; applies = (now.due x due).applies; room = omega (arith, within, small) }))

-- where a limit is passed it stays where it was
pub refused_at : {P S : Type 0} (stood : Stood S) (left : Left S) (f : Frame) (fitness : Fitness) (m : ℕ) (old new : Work P S) (hand : List Errand) (u : Moment) (x : Message) (p : Performs)
    → p ≡ f.performs → Refused p old.node new.node x → new.node ≡ record old.node { copies = new.node.copies } → new.moved ≡ old.moved
    → IsAt stood left f fitness m old hand u → (passes_limit f u.work.node x ≡ true) × IsAt stood left f fitness m new hand u
refused_at {P} {S} stood left f fitness m old new hand u x p is refused node moved at = (
  ap (λ (c : Copied). is_some (too_many f.performs c x.action)) (sym at.work.node.copies)
      ∙ ap (λ (q : Performs). is_some (too_many q old.node.copies x.action)) (sym is) ∙ refused.passes,
  record {
    work = record {
      node = subst (λ (n : Node P S). StandsAs stood left f m n u.work.node) (sym (node ∙ ap (λ (c : Copied). record old.node { copies = c }) refused.copies)) at.work.node;
      moved = subst (λ (d : Moved). IsMoved f.settings.nodes d u.work.deeds) (sym moved) at.work.moved;
    };
    errands = at.errands;
    fits = at.fits;
  },
)

-- the work with the copies after the entry
abbrev pub with_copies : Frame → ℕ → Message → NodeWork → NodeWork
with_copies f m x v =
    becomes (record v.node { copies = after_entry (singles_of f (known f v.node)) f.performs v.node.copies x (home_in (known f v.node) x.process.0 == m) }) v

entry_applied : (single : Test) (p : Performs) (c : Copied) (x : Message) (keeps : Bool) → (after_entry single p c x keeps).applied ≡ suc c.applied
entry_applied single p c x keeps = go (is_passed single x.action)
  where
    go : (b : Bool) → (if b then after_passed p keeps c x else after_applied p c x).applied ≡ suc c.applied
    go true = omega arith
    go false = omega arith

-- what the pieces up to there did: the copies took it, and the process that it forks is known
pub record HasTakenIn {P S : Type 0} (f : Frame) (p : Performs) (old mid new : Work P S) (x : Message) (lines : List Answered) (born : List Known) : Type 0 where
  pub performs : p ≡ f.performs
  pub took : Took p old.node mid.node x lines
  pub node : mid.node ≡ record old.node { copies = mid.node.copies }
  pub moved : mid.moved ≡ old.moved
  pub forks : IsBorn old.node x born
  pub learns : new.node ≡ record mid.node { known = new.node.known }
  pub known : new.node.known.items ≡ mid.node.known.items ++ born
  pub same : new.moved ≡ mid.moved

-- these are the processes that it begins
pub born_is : {P S : Type 0} (stood : Stood S) (left : Left S) (f : Frame) (m : ℕ) (s : Node P S) (v : nodes.Node) (x : Message) (born : List Known)
    → StandsAs stood left f m s v → IsBorn s x born → born ≡ map on_known (born_of f v x)
born_is stood left f m s v x born h is = is f (known f v) (suc v.copies.applied) h.known h.member.nodes

-- so it is the work with these copies
pub taken_work : {P S : Type 0} (stood : Stood S) (left : Left S) (f : Frame) (m : ℕ) (p : Performs) (old mid new : Work P S) (x : Message) (lines : List Answered) (born : List Known) (v : NodeWork)
    → HasTakenIn f p old mid new x lines born → IsDue v.node x → IsWork stood left f m old v → IsWork stood left f m new (with_copies f m x v)
taken_work {P} {S} stood left f m p old mid new x lines born v taken due h = record {
  node = record {
    member = subst (λ (n : Node P S). StandsFor (group f) m n.member v.node.member) (sym node) h.node.member;
    copies = copies;
    known = learned ∙ ap (map on_known) (sym more);
    residents = subst (λ (n : Node P S). (i : ℕ) → IsPlayedIf stood left i (slice_index_or n.residents.items i None) (v.node.played i)) (sym node) h.node.residents;
    held = ap (λ (n : Node P S). map on_errand n.held.items) node ∙ h.node.held;
    given = λ i. ap (λ (n : Node P S). on_given (slice_index_or n.given.items i None)) node ∙ h.node.given i;
    choices = ap (λ (n : Node P S). n.choices) node ∙ h.node.choices;
  };
  moved = subst (λ (d : Moved). IsMoved f.settings.nodes d v.deeds) (sym (taken.same ∙ taken.moved)) h.moved;
}
  where
    both : Node P S
    both = record old.node { copies = mid.node.copies; known = new.node.known }

    node : new.node ≡ both
    node = taken.learns ∙ ap (λ (n : Node P S). record n { known = new.node.known }) taken.node

    copies : new.node.copies ≡ (with_copies f m x v).node.copies
    copies = ap (λ (n : Node P S). n.copies) node ∙ taken.took.copies f (known f v.node) (knows stood left f m old.node v.node h.node)
        ∙ ap (λ (q : Performs). after_entry (singles_of f (known f v.node)) q old.node.copies x (home_in (known f v.node) x.process.0 == old.node.member.me)) taken.performs
        ∙ ap (λ (c : Copied). after_entry (singles_of f (known f v.node)) f.performs c x (home_in (known f v.node) x.process.0 == old.node.member.me)) h.node.copies
        ∙ ap (λ (k : ℕ). after_entry (singles_of f (known f v.node)) f.performs v.node.copies x (home_in (known f v.node) x.process.0 == k)) h.node.member.me

    more : known f (with_copies f m x v).node ≡ known f v.node ++ born_of f v.node x
    more = known_more f v.node (with_copies f m x v).node x due refl
        (entry_applied (singles_of f (known f v.node)) f.performs v.node.copies x (home_in (known f v.node) x.process.0 == m))

    learned : new.node.known.items ≡ map on_known (known f v.node ++ born_of f v.node x)
    learned = taken.known
        ∙ ap (λ (l : List Known). l ++ born) (ap (λ (n : Node P S). n.known.items) taken.node ∙ h.node.known)
        ∙ ap (λ (l : List Known). map on_known (known f v.node) ++ l) (born_is stood left f m old.node v.node x born h.node taken.forks)
        ∙ sym (map-append on_known (known f v.node) (born_of f v.node x))

-- its lines are the world's
pub taken_lines : {P S : Type 0} (stood : Stood S) (left : Left S) (f : Frame) (m : ℕ) (p : Performs) (old mid new : Work P S) (x : Message) (lines : List Answered) (born : List Known) (v : NodeWork)
    → HasTakenIn f p old mid new x lines born → IsWork stood left f m old v → lines_of lines ≡ entry_lines f v.node x
taken_lines stood left f m p old mid new x lines born v taken h =
    taken.took.lines f (known f v.node) (knows stood left f m old.node v.node h.node)
    ∙ ap (λ (q : Performs). lines_after (singles_of f (known f v.node)) q old.node.copies x) taken.performs
    ∙ ap (λ (c : Copied). lines_after (singles_of f (known f v.node)) f.performs c x) h.node.copies

-- and no limit is passed
pub taken_within : {P S : Type 0} (stood : Stood S) (left : Left S) (f : Frame) (m : ℕ) (p : Performs) (old mid new : Work P S) (x : Message) (lines : List Answered) (born : List Known) (v : NodeWork)
    → HasTakenIn f p old mid new x lines born → IsWork stood left f m old v → passes_limit f v.node x ≡ false
taken_within stood left f m p old mid new x lines born v taken h =
    ap (λ (c : Copied). is_some (too_many f.performs c x.action)) (sym h.node.copies)
    ∙ ap (λ (q : Performs). is_some (too_many q old.node.copies x.action)) (sym taken.performs)
    ∙ ap (λ (o : Option (What × ℕ)). is_some o) taken.took.within

-- ---- its lines answer

-- they may be handed on
pub may_answer : {P S : Type 0} (stood : Stood S) (left : Left S) (f : Frame) (fitness : Fitness) (m : ℕ) (p : Performs) (old mid new : Work P S) (hand : List Errand) (u : Moment) (x : Message)
    (lines : List Answered) (born : List Known)
    → HasTakenIn f p old mid new x lines born → IsAt stood left f fitness m old hand u → IsDue u.work.node x → MayAnswerHere stood left f fitness.reply (lines_of lines) new
may_answer stood left f fitness m p old mid new hand u x lines born taken at due =
    let now = at.fits u (Stays u) in
    let within = taken_within stood left f m p old mid new x lines born u.work taken at.work in
    let may = (now.due x due).lines within in (
      m,
      with_copies f m x u.work,
      taken_work stood left f m p old mid new x lines born u.work taken due at.work,
      subst (λ (l : List Line). MayAnswer fitness.reply (with_copies f m x u.work).node l) (sym (taken_lines stood left f m p old mid new x lines born u.work taken at.work))
          (record { may = record { each = may.each; once = may.once }; small = λ k l r there here. now.small.calls l.process.0 r here }),
    )

-- and when they were, the entry is told
pub answered_work : {P S : Type 0} (stood : Stood S) (left : Left S) (f : Frame) (m : ℕ) (p : Performs) (old mid taken new : Work P S) (x : Message) (lines : List Answered) (born : List Known) (v : NodeWork)
    → HasTakenIn f p old mid taken x lines born → IsDue v.node x → IsWork stood left f m old v
    → BecomesIn stood left f taken new (λ k w. answers taken.node.copies.applied (lines_of lines) (does (Told (lines_of lines)) w))
    → IsWork stood left f m new (answers (suc v.node.copies.applied) (entry_lines f v.node x) (copies_take f m (known f v.node) x v))
answered_work stood left f m p old mid taken new x lines born v has due h becomes =
    let work = taken_work stood left f m p old mid taken x lines born v has due h in
    let place : taken.node.copies.applied ≡ suc v.node.copies.applied =
    ap (λ (c : Copied). c.applied) work.node.copies
    ∙ entry_applied (singles_of f (known f v.node)) f.performs v.node.copies x (home_in (known f v.node) x.process.0 == m) in
    subst (λ (n : ℕ). IsWork stood left f m new (answers n (entry_lines f v.node x) (copies_take f m (known f v.node) x v))) place
    (subst (λ (l : List Line). IsWork stood left f m new (answers taken.node.copies.applied l (does (Told l) (with_copies f m x v))))
    (taken_lines stood left f m p old mid taken x lines born v has h) (becomes m (with_copies f m x v) work))

-- ---- its process begins

-- one that it forks may
pub may_begin_at : {P S : Type 0} (stood : Stood S) (left : Left S) (f : Frame) (fitness : Fitness) (m : ℕ) (p : Performs) (old mid taken told : Work P S) (hand : List Errand) (u : Moment) (x : Message)
    (lines : List Answered) (born : List Known)
    → HasTakenIn f p old mid taken x lines born → IsAt stood left f fitness m old hand u → IsDue u.work.node x
    → BecomesIn stood left f taken told (λ k w. answers taken.node.copies.applied (lines_of lines) (does (Told (lines_of lines)) w))
    → MayBegin fitness.text told.node.member.me x.action born
may_begin_at stood left f fitness m p old mid taken told hand u x lines born has at due becomes =
    let work = answered_work stood left f m p old mid taken told x lines born u.work has due at.work becomes in
    let within = taken_within stood left f m p old mid taken x lines born u.work has at.work in
    may_begin fitness.text f.settings.nodes (home_in (known f u.work.node) x.process.0) (suc u.work.node.copies.applied) m told.node.member.me x.action born
    work.node.member.me (born_is stood left f m old.node u.work.node x born at.work.node has.forks)
    (λ b is here. ((at.fits u (Stays u)).due x due).begins within b is here)

-- and when it has, all of the entry is done but the reads
pub begun_at : {P S : Type 0} (stood : Stood S) (left : Left S) (f : Frame) (fitness : Fitness) (m number : ℕ) (p : Performs) (old mid taken told new : Work P S) (hand : List Errand) (u : Moment) (x : Message)
    (lines : List Answered) (born : List Known)
    → HasTakenIn f p old mid taken x lines born → IsAt stood left f fitness m old hand u → IsDue u.work.node x
    → BecomesIn stood left f taken told (λ k w. answers taken.node.copies.applied (lines_of lines) (does (Told (lines_of lines)) w))
    → number ≡ old.node.copies.processes → Begins stood left f number born x.action told new
    → IsAt stood left f fitness m new hand (works (takes_entry f m x u.work) u)
begun_at {P} {S} stood left f fitness m number p old mid taken told new hand u x lines born has at due becomes count begins_so =
    goes_at stood left f fitness m old new hand u (works (takes_entry f m x u.work) u)
    (Takes_entry x due (taken_within stood left f m p old mid taken x lines born u.work has at.work) refl) refl done at
  where
    v : NodeWork
    v = u.work

    parent : ℕ
    parent = home_in (known f v.node) x.process.0

    w : NodeWork
    w = answers (suc v.node.copies.applied) (entry_lines f v.node x) (copies_take f m (known f v.node) x v)

    applied : w.node.copies.applied ≡ suc v.node.copies.applied
    applied = ap (λ (c : Copied). c.applied) (still_answers (suc v.node.copies.applied) (entry_lines f v.node x) (copies_take f m (known f v.node) x v)).copies
        ∙ entry_applied (singles_of f (known f v.node)) f.performs v.node.copies x (home_in (known f v.node) x.process.0 == m)

    by : ℕ → List Begun
    by k = begun_by f.settings.nodes parent k x.action

    these : born ≡ map on_known (by w.node.copies.applied)
    these = born_is stood left f m old.node v.node x born at.work.node has.forks ∙ ap (λ (k : ℕ). map on_known (by k)) (sym applied)

    numbered : number ≡ v.node.copies.processes
    numbered = count ∙ ap (λ (c : Copied). c.processes) at.work.node.copies

    done : IsWork stood left f m new (takes_entry f m x v)
    done = subst (λ (n : ℕ). IsWork stood left f m new (begins m n (born_of f v.node x) w)) numbered
        (subst (λ (k : ℕ). IsWork stood left f m new (begins m number (by k) w)) applied
        (begins_so m parent w (answered_work stood left f m p old mid taken told x lines born v has due at.work becomes) these))

-- ---- all of it

pub applied_next : {P S : Type 0} (stood : Stood S) (left : Left S) (f : Frame) (fitness : Fitness) (number : ℕ) (p : Performs) (old mid taken told begun new : Work P S) (y : Message)
    (lines : List Answered) (born : List Known) → EntryLaw Message Reply → IsNext old.node y → HasTakenIn f p old mid taken y lines born
    → BecomesIn stood left f taken told (λ k w. answers taken.node.copies.applied (lines_of lines) (does (Told (lines_of lines)) w))
    → number ≡ old.node.copies.processes → Begins stood left f number born y.action told begun
    → GoesOn stood left f fitness begun new (λ m v. tries_reads f v.node.copies.processes v) → AppliesNext stood left f fitness old new (Some y)
applied_next stood left f fitness number p old mid taken told begun new y lines born law next has becomes count begins_so reads m hand u x at due =
    let same = next_is stood left f fitness m old hand u x y law at due next in
    let here = subst (IsDue u.work.node) same due in
    let applied =
    subst (λ (z : Message). (passes_limit f u.work.node z ≡ false) × IsAt stood left f fitness m new hand (works (applies_one f m z u.work) u)) (sym same) (
      taken_within stood left f m p old mid taken y lines born u.work has at.work,
      reads m hand (works (takes_entry f m y u.work) u) (begun_at stood left f fitness m number p old mid taken told begun hand u y lines born has at here becomes count begins_so),
    ) in
    (sym same, applied.0, applied.1)

pub refused_next : {P S : Type 0} (stood : Stood S) (left : Left S) (f : Frame) (fitness : Fitness) (p : Performs) (old new : Work P S) (y : Message) → EntryLaw Message Reply → IsNext old.node y
    → p ≡ f.performs → Refused p old.node new.node y → new.node ≡ record old.node { copies = new.node.copies } → new.moved ≡ old.moved → AppliesNext stood left f fitness old new None
refused_next stood left f fitness p old new y law next is refused node moved m hand u x at due =
    let same = next_is stood left f fitness m old hand u x y law at due next in
    subst (λ (z : Message). (passes_limit f u.work.node z ≡ true) × IsAt stood left f fitness m new hand u) (sym same)
    (refused_at stood left f fitness m old new hand u y p is refused node moved at)

-- ---- what each call of it asks, by the state before the first

-- the entry that the code found is due
the_due : {P S : Type 0} (stood : Stood S) (left : Left S) (f : Frame) (fitness : Fitness) (m : ℕ) (s : Work P S) (hand : List Errand) (u : Moment) (y : Message) → LengthLaw Message Reply → EntryLaw Message Reply
    → IsAt stood left f fitness m s hand u → s.node.copies.applied < s.node.member.accepted → IsNext s.node y → IsDue u.work.node y
the_due stood left f fitness m s hand u y long law at lt next =
    let due = due_there stood left f fitness m s hand u long at lt in
    subst (IsDue u.work.node) (next_is stood left f fitness m s hand u due.0 y law at due.1 next) due.1

-- a group has a member
pub some_nodes : {P S : Type 0} (stood : Stood S) (left : Left S) (f : Frame) (fitness : Fitness) (s : Work P S) → IsSomewhere stood left f fitness s → 0 < s.node.member.config.nodes
some_nodes stood left f fitness s (m, hand, u, at) = (let me = at.work.node.member.member.me in omega (arith, me))

pub may_take_next : {P S : Type 0} (stood : Stood S) (left : Left S) (f : Frame) (fitness : Fitness) (s : Work P S) (y : Message) (p : Performs) → LengthLaw Message Reply → EntryLaw Message Reply → p ≡ f.performs
    → IsSomewhere stood left f fitness s → s.node.copies.applied < s.node.member.accepted → IsNext s.node y → MayTakeEntry p fitness.state fitness.args s.node.copies y.action
may_take_next stood left f fitness s y p long law is (m, hand, u, at) lt next =
    may_take stood left f fitness m s hand u y p is at (the_due stood left f fitness m s hand u y long law at lt next)

pub may_answer_next : {P S : Type 0} (stood : Stood S) (left : Left S) (f : Frame) (fitness : Fitness) (p : Performs) (old mid new : Work P S) (y : Message) (lines : List Answered) (born : List Known)
    → LengthLaw Message Reply → EntryLaw Message Reply → IsSomewhere stood left f fitness old → old.node.copies.applied < old.node.member.accepted → IsNext old.node y
    → HasTakenIn f p old mid new y lines born → MayAnswerHere stood left f fitness.reply (lines_of lines) new
may_answer_next stood left f fitness p old mid new y lines born long law (m, hand, u, at) lt next has =
    may_answer stood left f fitness m p old mid new hand u y lines born has at (the_due stood left f fitness m old hand u y long law at lt next)

pub may_begin_next : {P S : Type 0} (stood : Stood S) (left : Left S) (f : Frame) (fitness : Fitness) (p : Performs) (old mid taken told : Work P S) (y : Message) (lines : List Answered) (born : List Known)
    → LengthLaw Message Reply → EntryLaw Message Reply → IsSomewhere stood left f fitness old → old.node.copies.applied < old.node.member.accepted → IsNext old.node y
    → HasTakenIn f p old mid taken y lines born → BecomesIn stood left f taken told (λ k w. answers taken.node.copies.applied (lines_of lines) (does (Told (lines_of lines)) w))
    → MayBegin fitness.text told.node.member.me y.action born
may_begin_next stood left f fitness p old mid taken told y lines born long law (m, hand, u, at) lt next has becomes =
    may_begin_at stood left f fitness m p old mid taken told hand u y lines born has at (the_due stood left f fitness m old hand u y long law at lt next) becomes

pub begun_somewhere : {P S : Type 0} (stood : Stood S) (left : Left S) (f : Frame) (fitness : Fitness) (number : ℕ) (p : Performs) (old mid taken told new : Work P S) (y : Message) (lines : List Answered) (born : List Known)
    → LengthLaw Message Reply → EntryLaw Message Reply → IsSomewhere stood left f fitness old → old.node.copies.applied < old.node.member.accepted → IsNext old.node y
    → HasTakenIn f p old mid taken y lines born → BecomesIn stood left f taken told (λ k w. answers taken.node.copies.applied (lines_of lines) (does (Told (lines_of lines)) w))
    → number ≡ old.node.copies.processes → Begins stood left f number born y.action told new → IsSomewhere stood left f fitness new
begun_somewhere stood left f fitness number p old mid taken told new y lines born long law (m, hand, u, at) lt next has becomes count begins_so = (
  m,
  hand,
  works (takes_entry f m y u.work) u,
  begun_at stood left f fitness m number p old mid taken told new hand u y lines born has at (the_due stood left f fitness m old hand u y long law at lt next) becomes count begins_so,
)
