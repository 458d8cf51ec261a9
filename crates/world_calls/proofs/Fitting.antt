-- What the calls of a member's part ask at a moment, from the course that the world stands for there: of its copies, of its next entry,
-- and of the reads that wait.
use Rattle.std.proofs.Common.{◌≡◌, ◌≤◌, ◌==◌, ℕ, zero, suc, Bool, true, false, List, [], ◌∷◌, ◌++◌, Some, None, inl, inr, refl, sym, ap, ◌∙◌, subst, arith, take, if◌then◌else◌}
use Rattle.std.specs.Prelude.{slice_get}
use Rattle.orca_base.specs.declared.ids.KindNo.{KindNo}
use Rattle.orca_base.specs.declared.ids.OpNo.{OpNo}
use Rattle.orca_base.specs.declared.ids.ObjectId.{ObjectId}
use Rattle.value_core.specs.Datum.{Data}
use Rattle.value_core.specs.Fits.{Kinds}
use Rattle.value_core.specs.History.{Objects}
use Rattle.value_core.specs.Lawful.{FitsAction}
use Rattle.value_core.specs.declared.action.Action.{Action}
use Rattle.value_core.specs.declared.action.Action.TheVariants as action
use Rattle.value_core.specs.declared.action.Line.{Line}
use Rattle.value_core.specs.declared.meaning.Doing.TheVariants as doing
use Rattle.value_core.specs.declared.message.Message.{Message}
use Rattle.guard_queue.specs.Settles.{Settling}
use Rattle.object_manager.specs.After.{Copied, acted, lines_after as lines_applied, settled_after}
use Rattle.object_manager.specs.Viewed.{ReadFits}
use Rattle.object_manager.specs.Singles.{kinds_at}
use Rattle.book_law.specs.Book.{copies_at}
use Rattle.book_law.specs.Conditions.{MemberMeets}
use Rattle.book_law.specs.Course.{Course}
use Rattle.book_law.specs.Events.{In, Makes, Runner, lines_by}
use Rattle.book_law.specs.Fitness.{ArgsFit, IsAtCall, TextFits}
use Rattle.book_law.specs.Machines.{ActionFits, AllFit}
use Rattle.book_law.specs.Members.{Holds}
use Rattle.book_law.specs.Passes.{Test, is_passed, lines_after}
use Rattle.book_law.specs.Promise.{IsInBook, WereAsked}
use Rattle.book_law.specs.Replies.{HandsOne, IsReplyTo}
use Rattle.book_law.proofs.Asked.{entered_asked}
use Rattle.book_law.proofs.Conditions.{members_meet}
use Rattle.book_law.proofs.InBook.{all_in_book}
use Rattle.book_law.proofs.Lists.{in_at, lines_by-own}
use Rattle.book_law.proofs.Members.{members_hold}
use Rattle.book_law.proofs.Replying.{hand_one}
use Rattle.world_rules.specs.Frame.{Frame}
use Rattle.world_rules.specs.Nodes.{Node, NodeWork}
use Rattle.world_rules.specs.Nodes.{known as known_by}
use Rattle.world_rules.specs.Played.{Played, Stage}
use Rattle.world_rules.specs.Played.Stage.{Computing, Acting, Submitted, Reading, Asking, Over}
use Rattle.world_rules.specs.Processes.{Begun, begun_by, home_in, member_named, processes_in, singles_of}
use Rattle.world_rules.specs.Worlds.{World}
use Rattle.world_law.specs.Moments.{IsMoment}
use Rattle.world_course.specs.Corresponds.{Agrees, Corresponds, IsMember, Stands}
use Rattle.world_course.specs.Errands.{WaitsOn}
use Rattle.world_course.specs.Group.{IsAccepted}
use Rattle.world_course.specs.Processes.{IsFreeAt, StageStands}
use Rattle.world_course.specs.Works.{at_work}
use Rattle.world_course.proofs.Applied.{acted_same, same_passed}
use Rattle.world_course.proofs.Asked.{member_here}
use Rattle.world_course.proofs.Begun.{known_agrees}
use Rattle.world_course.proofs.Carrying.{Carries, own_node}
use Rattle.world_course.proofs.Lifting.{Starts, starts}
use Rattle.world_course.proofs.Listing.{Listed, listed}
use Rattle.world_course.proofs.Program.{Program, callable, fitting}
use Rattle.world_course.proofs.Tries.{node_at, objects_here}
use Rattle.node_rules.specs.Conditions.{Fitness, MayApply}
use Rattle.node_rules.specs.Handing.{MayHandAll, waits_with}
use Rattle.node_rules.specs.Moments.{IsDue, entry_lines}
use Rattle.world_calls.proofs.Going.{Known, agreed_at}

-- ---- the copies

-- what the book's law says of the member's copies
pub meets : (f : Frame) (fitness : Fitness) (single : Test) (w : World) (c : Course) (m : ℕ) (v : NodeWork) → Program f fitness.state fitness.args fitness.text fitness.reply → Stands f single (at_work f m w v) c
    → MemberMeets f.performs fitness.state fitness.args c m v.node.copies
meets f fitness single w c m v program h =
    let mine = member_here f single w c m v h in
    subst (λ (k : Copied). MemberMeets f.performs fitness.state fitness.args c m k) (sym mine.copies)
    (members_meet single f.performs f.computes fitness.state fitness.args fitness.text fitness.reply c program.laws h.came m)

-- ---- a process at work

pub starts_at : (f : Frame) (single : Test) (w : World) (c : Course) (m i : ℕ) (r : Played) (v : NodeWork) → Stands f single (at_work f m w v) c → v.node.played i ≡ Some r → Starts f single (at_work f m w v) c i m r
starts_at f single w c m i r v h here = starts f single (at_work f m w v) c i m r h (ap (λ (k : Node). k.played i) (node_at f m w v) ∙ here)

reaches : (f : Frame) (single : Test) (w : World) (c : Course) (m i : ℕ) (r : Played) (v : NodeWork) → Starts f single (at_work f m w v) c i m r → r.place ≤ v.node.copies.applied
reaches f single w c m i r v s = subst (λ (k : Node). r.place ≤ k.copies.applied) (node_at f m w v) s.reaches

-- a call that a process without a message is at may be tried as a read, where its object is replicated
pub read_fits : (f : Frame) (fitness : Fitness) (single : Test) (w : World) (c : Course) (m i : ℕ) (r : Played) (kind : KindNo) (op : OpNo) (object : ObjectId) (given : Data) (v : NodeWork)
    → Program f fitness.state fitness.args fitness.text fitness.reply → (h : Stands f single (at_work f m w v) c) → (s : Starts f single (at_work f m w v) c i m r)
    → IsFreeAt f.computes i s.process.runner (action.Call kind op object given) → single object ≡ false → ReadFits fitness.state fitness.args v.node.copies.objects kind op object given
read_fits f fitness single w c m i r kind op object given v program h s free shared =
    let mine = member_here f single w c m v h in
    let low = reaches f single w c m i r v s in
    let place = s.is.place in
    let may = callable f fitness.state fitness.args fitness.text fitness.reply program single c h.came in
    let at : IsAtCall f.computes c.runners (record { 0 = i }) s.process.runner v.node.copies.applied kind op object given =
    record { here = s.process.runs; place = omega (arith, low, place); next = free.1 } in
    subst (λ (o : Objects). ReadFits fitness.state fitness.args o kind op object given) (sym (objects_here f single c h.came m v.node mine))
    (may.reads (record { 0 = i }) s.process.runner v.node.copies.applied kind op object given at free.0 shared)

-- a read that waits may be tried
pub waiting_fits : (f : Frame) (fitness : Fitness) (single : Test) (w : World) (c : Course) (m i : ℕ) (r : Played) (kind : KindNo) (op : OpNo) (object : ObjectId) (given : Data) (v : NodeWork)
    → Program f fitness.state fitness.args fitness.text fitness.reply → Carries f single w c m v → v.node.played i ≡ Some r → r.stage ≡ Reading (action.Call kind op object given)
    → ReadFits fitness.state fitness.args v.node.copies.objects kind op object given
waiting_fits f fitness single w c m i r kind op object given v program k here reads =
    let g = k.corresponds in
    let s = starts_at f single w c m i r v g.stands here in
    let n = own_node f single w c m v k in
    read_fits f fitness single w c m i r kind op object given v program g.stands s
    (subst (StageStands f.computes i s.process.runner) reads s.is.stage)
    (n.shares i r object here (subst (λ (z : Stage). WaitsOn z object) (sym reads) refl))

-- ---- the next entry

-- the course with it
pub listed_at : (f : Frame) (fitness : Fitness) (single : Test) (w : World) (c : Course) (m : ℕ) (x : Message) (v : NodeWork) → Known f fitness w m → Corresponds f single (at_work f m w v) c → IsMoment f w m v → IsDue v.node x
    → Agrees f single (take (suc v.node.copies.applied) v.node.member.log) → Listed f single (at_work f m w v) c m x
listed_at f fitness single w c m x v known k moment due agrees =
    let here : IsAccepted v.node v.node.copies.applied x = record { accepted = due.accepted; there = due.there } in
    listed f single fitness.state fitness.args fitness.text fitness.reply (at_work f m w v) c m x known.program k.stands k.reached (agreed_at f fitness single w m v known moment)
    (subst (λ (n : Node). IsAccepted n n.copies.applied x) (sym (node_at f m w v)) here)
    (subst (λ (n : Node). Agrees f single (take (suc n.copies.applied) n.member.log)) (sym (node_at f m w v)) agrees)

-- what it begins fits its text
begun_fits : (fits_args : ArgsFit) (fits_text : TextFits) (kinds : Kinds) (nodes parent place : ℕ) (a : Action) (b : Begun) → begun_by nodes parent place a ≡ b ∷ [] → ActionFits fits_args fits_text kinds a → fits_text kinds b.text b.args
begun_fits fits_args fits_text kinds nodes parent place (action.Fork text given place_on) b is fits =
    let e : record { text = text; args = given; home = member_named nodes parent place_on; place = place } ≡ b = cc in
    subst (λ (z : Begun). fits_text kinds z.text z.args) e fits
begun_fits fits_args fits_text kinds nodes parent place (action.Make kind object) b is fits = absurd (cc is)
begun_fits fits_args fits_text kinds nodes parent place (action.Call kind op object given) b is fits = absurd (cc is)
begun_fits fits_args fits_text kinds nodes parent place action.Ended b is fits = absurd (cc is)
begun_fits fits_args fits_text kinds nodes parent place (action.Faulted fault) b is fits = absurd (cc is)

-- ---- its lines

-- who has a message out waits with its action
pub waits_out : (f : Frame) (i : ℕ) (x : Runner) (stage : Stage) (y : Message) → x.message ≡ Some y → StageStands f.computes i x stage → waits_with stage ≡ Some y.action
waits_out f i x Computing y out is = let e : None ≡ Some y = sym is ∙ out in absurd (cc e)
waits_out f i x (Acting act) y out is = let e : None ≡ Some y = sym is.0 ∙ out in absurd (cc e)
waits_out f i x (Reading act) y out is = let e : None ≡ Some y = sym is.0 ∙ out in absurd (cc e)
waits_out f i x (Over act) y out is = let e : None ≡ Some y = sym is.0 ∙ out in absurd (cc e)
waits_out f i x (Submitted act) y out is = let e : Some is.0 ≡ Some y = sym is.1 ∙ out in let same : is.0 ≡ y = cc in ap (λ (a : Action). Some a) (sym is.2) ∙ ap (λ (z : Message). Some z.action) same
waits_out f i x (Asking act) y out is = let e : Some is.0 ≡ Some y = sym is.1 ∙ out in let same : is.0 ≡ y = cc in ap (λ (a : Action). Some a) (sym is.2) ∙ ap (λ (z : Message). Some z.action) same

-- a line is among those of its process
line_by : (k : ℕ) (l : Line) (lines : List Line) → slice_get lines k ≡ Some l → In l (lines_by l.process.0 lines)
line_by k l [] is = absurd (cc is)
line_by zero l (a ∷ lines) is = let e : a ≡ l = cc in subst (λ (z : List Line). In l z) (sym (lines_by-own l.process.0 a lines (ap (λ (z : Line). z.process.0) e))) (inl (sym e))
line_by (suc k) l (a ∷ lines) is = go (a.process.0 == l.process.0) (line_by k l lines is)
  where
    go : (b : Bool) → In l (lines_by l.process.0 lines) → In l (if b then a ∷ lines_by l.process.0 lines else lines_by l.process.0 lines)
    go true u = inr u
    go false u = u

-- the one line that a process has is the reply to its message
replies_to : (x : Runner) (l : Line) (lines : List Line) → IsReplyTo x lines → In l lines → (y : Message) × (x.message ≡ Some y) × (l.action ≡ y.action)
replies_to x l [] reply is = absurd is
replies_to x l (a ∷ rest) reply (inl e) = (reply.1, reply.2, ap (λ (z : Line). z.action) e ∙ reply.5)
replies_to x l (a ∷ rest) reply (inr there) = absurd (subst (λ (z : List Line). In l z) reply.0 there)

-- two of its lines are the same one
one_place : (i : ℕ) (x : Runner) (lines : List Line) → IsReplyTo x (lines_by i lines) → (j k : ℕ) (a b : Line) → slice_get lines j ≡ Some a → slice_get lines k ≡ Some b → a.process.0 ≡ i → b.process.0 ≡ i → j ≡ k
one_place i x [] reply j k a b one two of_a of_b = absurd (cc one)
one_place i x (l ∷ lines) reply zero zero a b one two of_a of_b = refl
one_place i x (l ∷ lines) reply zero (suc k) a b one two of_a of_b =
    let e : l ≡ a = cc in
    let own = lines_by-own i l lines (ap (λ (z : Line). z.process.0) e ∙ of_a) in
    let none = (subst (IsReplyTo x) own reply).0 in
    absurd (subst (λ (z : List Line). In b z) (subst (λ (n : ℕ). lines_by n lines ≡ []) (sym of_b) none) (line_by k b lines two))
one_place i x (l ∷ lines) reply (suc j) zero a b one two of_a of_b =
    let e : l ≡ b = cc in
    let own = lines_by-own i l lines (ap (λ (z : Line). z.process.0) e ∙ of_b) in
    let none = (subst (IsReplyTo x) own reply).0 in
    absurd (subst (λ (z : List Line). In a z) (subst (λ (n : ℕ). lines_by n lines ≡ []) (sym of_a) none) (line_by j a lines one))
one_place i x (l ∷ lines) reply (suc j) (suc k) a b one two of_a of_b = ap suc (one_place i x lines (fewer (l.process.0 == i) reply) j k a b one two of_a of_b)
  where
    fewer : (t : Bool) → IsReplyTo x (if t then l ∷ lines_by i lines else lines_by i lines) → IsReplyTo x (lines_by i lines)
    fewer true h = subst (IsReplyTo x) (sym h.0) tt
    fewer false h = h

-- lines that are replies, and fit, may be handed to the processes here
pub may_hand : (f : Frame) (fitness : Fitness) (single : Test) (w : World) (c : Course) (m : ℕ) (v : NodeWork) (lines : List Line) → Stands f single (at_work f m w v) c
    → ((i : ℕ) (x : Runner) → c.runners i ≡ Some x → x.member ≡ m → IsReplyTo x (lines_by i lines))
    → ((l : Line) → In l lines → FitsAction fitness.reply (doing.At l.action) l.reply) → MayHandAll fitness.reply v.node lines
may_hand f fitness single w c m v lines h reply fits = record {
  each = λ k l is r here.
      let s = starts_at f single w c m l.process.0 r v h here in
      let out = replies_to s.process.runner l (lines_by l.process.0 lines) (its l.process.0 r here) (line_by k l lines is) in
      record {
        waits = waits_out f l.process.0 s.process.runner r.stage out.0 out.1 s.is.stage ∙ ap (λ (a : Action). Some a) (sym out.2);
        fits = fits l (in_at l lines k is);
      };
  once = λ j k a b r one two same here.
      let s = starts_at f single w c m a.process.0 r v h here in
      one_place a.process.0 s.process.runner lines (its a.process.0 r here) j k a b one two refl (sym same);
}
  where
    its : (i : ℕ) (r : Played) → (here : v.node.played i ≡ Some r) → IsReplyTo (let s = starts_at f single w c m i r v h here in s.process.runner) (lines_by i lines)
    its i r here = let s = starts_at f single w c m i r v h here in reply i s.process.runner s.process.runs (s.process.member ∙ s.of.home)

-- what the member knows of the entry's lines is the course's
entry_same : (f : Frame) (fitness : Fitness) (single : Test) (w : World) (c : Course) (m : ℕ) (x : Message) (v : NodeWork) → Program f fitness.state fitness.args fitness.text fitness.reply
    → (h : Stands f single (at_work f m w v) c) → slice_get c.list (c.applied m) ≡ Some x → entry_lines f v.node x ≡ lines_after single f.performs (copies_at single f.performs c.list (c.applied m)) x
entry_same f fitness single w c m x v program h next =
    ap (λ (b : Bool). if b then (acted f.performs v.node.copies x).lines else lines_applied f.performs v.node.copies x) passed_same
    ∙ ap (λ (s : Settling). if is_passed single x.action then s.lines else s.lines ++ (settled_after f.performs s).lines)
    (acted_same f.performs v.node.copies (copies_at single f.performs c.list (c.applied m)) x holds.shared)
  where
    mine : IsMember f single c h.came m v.node
    mine = member_here f single w c m v h

    at : slice_get c.list v.node.copies.applied ≡ Some x
    at = ap (slice_get c.list) (sym mine.applied) ∙ next

    known_is : known_by f v.node ≡ processes_in f (take v.node.copies.applied c.list)
    known_is = ap (processes_in f) mine.entries

    makes_same : (o : ObjectId) → Makes x.action o → singles_of f (known_by f v.node) o ≡ single o
    makes_same o makes =
        let asks = entered_asked single f.performs f.computes c h.came in
        let fit = fitting f fitness.state fitness.args fitness.text fitness.reply program single c h.came in
        let e : o.process ≡ x.process.0 = fit.makes x o (asks.entered x (asks.listed x (in_at x c.list v.node.copies.applied at))) makes in
        let lt = h.callers v.node.copies.applied x at in
        ap (λ (ps : List Begun). singles_of f ps o) known_is ∙ known_agrees f single c.list v.node.copies.applied h.test o (omega (arith, e, lt))

    passed_same : is_passed (singles_of f (known_by f v.node)) x.action ≡ is_passed single x.action
    passed_same = same_passed (singles_of f (known_by f v.node)) single x.action makes_same

    holds : Holds single f.performs c.list c.owned m (c.applied m) v.node.copies
    holds = subst (λ (k : Copied). Holds single f.performs c.list c.owned m (c.applied m) k) (sym mine.copies) (members_hold single f.performs f.computes c h.came m)

-- what it has for a process of this member
pub entry_replies : (f : Frame) (fitness : Fitness) (single : Test) (w : World) (d : Course) (m : ℕ) (x : Message) (v : NodeWork) → Program f fitness.state fitness.args fitness.text fitness.reply
    → Stands f single (at_work f m w v) d → slice_get d.list (d.applied m) ≡ Some x → (i : ℕ) (y : Runner) → d.runners i ≡ Some y → y.member ≡ m → IsReplyTo y (lines_by i (entry_lines f v.node x))
entry_replies f fitness single w d m x v program st next i y runs member =
    let hands : HandsOne single f.performs d = hand_one single f.performs f.computes d st.came in
    subst (λ (ls : List Line). IsReplyTo y (lines_by i ls)) (sym (entry_same f fitness single w d m x v program st next))
    (subst (λ (n : ℕ). IsReplyTo y (lines_by i (lines_after single f.performs (copies_at single f.performs d.list (d.applied n)) x))) member
    (hands.entry i y x runs (ap (λ (n : ℕ). slice_get d.list (d.applied n)) member ∙ next)))

-- the next entry may be applied
pub entry_fits : (f : Frame) (fitness : Fitness) (single : Test) (w : World) (c : Course) (m : ℕ) (x : Message) (v : NodeWork) → Known f fitness w m → Corresponds f single (at_work f m w v) c → IsMoment f w m v → IsDue v.node x
    → Agrees f single (take (suc v.node.copies.applied) v.node.member.log) → MayApply f fitness m v.node x
entry_fits f fitness single w c m x v known k moment due agrees = record {
  applies = mine.applies x l.next;
  lines = λ within. may_hand f fitness single w d m v (entry_lines f v.node x) l.stands
      (entry_replies f fitness single w d m x v program l.stands l.next)
      (λ a is.
      let one = fit.performed a (inside.entries (d.applied m) x a l.next (subst (λ (ls : List Line). In a ls) same is)) in
      one.3);
  begins = λ within b is home.
      let one = fit.asked x (asks.entered x (asks.listed x (in_at x d.list (d.applied m) l.next))) in
      let kinds = kinds_at (copies_at single f.performs d.list one.0) in
      (kinds, begun_fits fitness.args fitness.text kinds f.settings.nodes (home_in (known_by f v.node) x.process.0) (suc v.node.copies.applied) x.action b is one.2);
}
  where
    program : Program f fitness.state fitness.args fitness.text fitness.reply
    program = known.program

    l : Listed f single (at_work f m w v) c m x
    l = listed_at f fitness single w c m x v known k moment due agrees

    d : Course
    d = l.course

    st : Stands f single (at_work f m w v) d
    st = l.stands

    mine : MemberMeets f.performs fitness.state fitness.args d m v.node.copies
    mine = meets f fitness single w d m v program l.stands

    same : entry_lines f v.node x ≡ lines_after single f.performs (copies_at single f.performs d.list (d.applied m)) x
    same = entry_same f fitness single w d m x v program l.stands l.next

    fit : AllFit single f.performs f.computes fitness.args fitness.text fitness.reply d
    fit = fitting f fitness.state fitness.args fitness.text fitness.reply program single d st.came

    inside : IsInBook single f.performs d
    inside = all_in_book single f.performs f.computes d st.came

    asks : WereAsked d
    asks = entered_asked single f.performs f.computes d st.came
