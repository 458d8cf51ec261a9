-- The lines of an entry by the list of the run, at a member that applied the entries before it: what it knows is enough.
use Rattle.std.proofs.Common.{◌≡◌, ◌<◌, ℕ, Bool, if◌then◌else◌, List, ◌++◌, length, take, Some, refl, sym, ap, ◌∙◌, subst, arith}
use Rattle.std.specs.Prelude.{slice_get}
use Rattle.orca_base.specs.declared.ids.ObjectId.{ObjectId}
use Rattle.value_core.specs.Meaning.{Performs}
use Rattle.value_core.specs.declared.action.Action.{Action}
use Rattle.value_core.specs.declared.action.Action.TheVariants as action
use Rattle.value_core.specs.declared.meaning.Making.{Making}
use Rattle.value_core.specs.declared.meaning.Making.TheVariants as making
use Rattle.value_core.specs.declared.message.Message.{Message}
use Rattle.guard_queue.specs.Settles.{Settling}
use Rattle.object_manager.specs.After.{Copied, acted, lines_after as lines_applied, opening_copies, settled_after}
use Rattle.object_manager.specs.Limits.{objects_limit, too_many}
use Rattle.book_law.specs.Book.{copies_at}
use Rattle.book_law.specs.Course.{Course}
use Rattle.book_law.specs.Events.{In, Makes}
use Rattle.book_law.specs.Members.{Holds}
use Rattle.book_law.specs.Passes.{Test, after_all, is_passed, lines_after}
use Rattle.book_law.proofs.Asked.{entered_asked}
use Rattle.book_law.proofs.Lists.{in_at}
use Rattle.book_law.proofs.Members.{members_hold}
use Rattle.book_law.proofs.Replicated.{same_copies}
use Rattle.world_rules.specs.Frame.{Frame}
use Rattle.world_rules.specs.Nodes.{Node, entries_of, known}
use Rattle.world_rules.specs.Processes.{processes_in, singles_of}
use Rattle.world_rules.specs.Worlds.{World}
use Rattle.world_course.specs.Corresponds.{Agrees, IsMember, Stands}
use Rattle.world_course.specs.Works.{at_work}
use Rattle.world_course.proofs.Applied.{acted_same, same_passed}
use Rattle.world_course.proofs.Asked.{member_here}
use Rattle.world_course.proofs.Begun.{earlier_fewer, in_take, known_agrees}
use Rattle.world_course.proofs.Program.{Program, fitting}
use Rattle.node_rules.specs.Conditions.{Fitness}
use Rattle.node_rules.specs.Moments.{Moment, entry_lines}
use Rattle.world_calls.proofs.Each.{AtEach, own, self}
use Rattle.world_calls.proofs.Going.{At}

-- ---- who makes what a list makes

-- who makes an object is a process that the entries before began
pub record ListMakes (f : Frame) (list : List Message) : Type 0 where
  pub makers : (n : ℕ) (x : Message) (o : ObjectId) → slice_get list n ≡ Some x → Makes x.action o → o.process < length (processes_in f (take n list))

pub list_makes : (f : Frame) (fitness : Fitness) (single : Test) (w : World) (c : Course) → Program f fitness.state fitness.args fitness.text fitness.reply → Stands f single w c → ListMakes f c.list
list_makes f fitness single w c program h = record {
  makers = λ n x o there makes.
      let asks = entered_asked single f.performs f.computes c h.came in
      let fit = fitting f fitness.state fitness.args fitness.text fitness.reply program single c h.came in
      let e : o.process ≡ x.process.0 = fit.makes x o (asks.entered x (asks.listed x (in_at x c.list n there))) makes in
      let lt = h.callers n x there in
      omega (arith, e, lt);
}

made_before : (f : Frame) (list : List Message) → ListMakes f list → (n : ℕ) (x : Message) (o : ObjectId) → In x (take n list) → Makes x.action o → o.process < length (processes_in f (take n list))
made_before f list made n x o is makes =
    let u = in_take x n list is in
    let early = u.1 in
    let lt = made.makers u.0 x o u.2 makes in
    let more = earlier_fewer f list u.0 n (omega (arith, early)) in
    omega (arith, lt, more)

-- ---- the copies after a beginning of it

-- by whatever test agrees with whatever list begins so
pub same_at : (f : Frame) (single : Test) (other list : List Message) (n : ℕ) → ListMakes f list → Agrees f single other → take n other ≡ take n list → copies_at single f.performs other n ≡ copies_at (own f list) f.performs list n
same_at f single other list n made agrees begin =
    ap (after_all single f.performs opening_copies) begin
    ∙ same_copies single (own f list) f.performs opening_copies (take n list) (λ x is o makes.
    let lt = made_before f list made n x o is makes in
    sym (known_agrees f single other n agrees o (subst (λ (l : List Message). o.process < length (processes_in f l)) (sym begin) lt))
    ∙ ap (λ (l : List Message). singles_of f (processes_in f l) o) begin
    ∙ known_agrees f (own f list) list n (λ j low. refl) o lt)

-- copies are those, but for what a member keeps alone
abbrev pub SharesWith : Copied → Copied → Type 0
SharesWith c d = c ≡ record d { own = c.own; waits = c.waits }

-- ---- an entry

abbrev beside_limit : (p : Performs) (c : Copied) (a : Action) → (d : Copied) → too_many p (record c { own = d.own; waits = d.waits }) a ≡ too_many p c a
beside_limit p c (action.Make kind object) d = by (p.made kind)
  where
    by : (made : Making) → objects_limit (record c { own = d.own; waits = d.waits }) made ≡ objects_limit c made
    by (making.Made state) = refl
    by (making.Broke fault) = refl
beside_limit p c (action.Call kind op object args) d = refl
beside_limit p c (action.Fork text args place_on) d = refl
beside_limit p c action.Ended d = refl
beside_limit p c (action.Faulted fault) d = refl

-- it passes the same limit there
pub limit_is : (p : Performs) (c d : Copied) (a : Action) → SharesWith c d → too_many p c a ≡ too_many p d a
limit_is p c d a same = ap (λ (e : Copied). too_many p e a) same ∙ beside_limit p d a c

-- and has the same lines
pub lines_are : (f : Frame) (list : List Message) (n : ℕ) (x : Message) (node : Node) → ListMakes f list → slice_get list n ≡ Some x → entries_of node ≡ take n list → SharesWith node.copies (copies_at (own f list) f.performs list n)
    → entry_lines f node x ≡ lines_after (own f list) f.performs (copies_at (own f list) f.performs list n) x
lines_are f list n x node made there entries same =
    ap (λ (b : Bool). if b then (acted f.performs node.copies x).lines else lines_applied f.performs node.copies x)
    (same_passed (singles_of f (known f node)) (own f list) x.action (λ o makes.
    ap (λ (l : List Message). singles_of f (processes_in f l) o) entries
    ∙ known_agrees f (own f list) list n (λ j low. refl) o (made.makers n x o there makes)))
    ∙ ap (λ (s : Settling). if is_passed (own f list) x.action then s.lines else s.lines ++ (settled_after f.performs s).lines)
    (acted_same f.performs node.copies (copies_at (own f list) f.performs list n) x same)

-- ---- at a moment

-- the member's copies are those of the list
pub shares : (f : Frame) (w : World) (m : ℕ) (u : Moment) (list : List Message) → AtEach f w m u → ListMakes f list → entries_of u.work.node ≡ take u.work.node.copies.applied list
    → SharesWith u.work.node.copies (copies_at (own f list) f.performs list u.work.node.copies.applied)
shares f w m u list e made entries =
    holds.shared
    ∙ ap (λ (d : Copied). record d { own = u.work.node.copies.own; waits = u.work.node.copies.waits })
    (ap (copies_at single f.performs c.list) mine.applied ∙ same_at f single c.list list n made st.test (sym mine.entries ∙ entries))
  where
    n : ℕ
    n = u.work.node.copies.applied

    single : Test
    single = own f e.list

    a : At f single w m u
    a = let one = self f w m u e in one.at

    c : Course
    c = a.course

    st : Stands f single (at_work f m w u.work) c
    st = let k = a.carries in let g = k.corresponds in g.stands

    mine : IsMember f single c st.came m u.work.node
    mine = member_here f single w c m u.work st

    holds : Holds single f.performs c.list c.owned m (c.applied m) u.work.node.copies
    holds = subst (λ (k : Copied). Holds single f.performs c.list c.owned m (c.applied m) k) (sym mine.copies) (members_hold single f.performs f.computes c st.came m)
