-- An owner takes a call on a single object that it keeps.
use Rattle.std.proofs.Common.{◌≡◌, ◌≤◌, ◌<◌, ◌==◌, ℕ, ◌⊎◌, inl, inr, Bool, true, false, List, [], ◌∷◌, ◌++◌, Option, Some, None, refl, sym, ap, ◌∙◌, subst, arith, length, take, if◌then◌else◌}
use Rattle.std.proofs.lemmas.Bool.{cases_lt, eq-eqb, eqb-true, ne_eqb}
use Rattle.std.specs.Prelude.{option_map, slice_get}
use Rattle.orca_base.specs.declared.ids.ObjectId.{ObjectId}
use Rattle.value_core.specs.Meaning.{Computes}
use Rattle.value_core.specs.declared.action.Line.{Line}
use Rattle.value_core.specs.declared.action.Reply.{Reply}
use Rattle.value_core.specs.declared.message.Message.{Message}
use Rattle.guard_queue.specs.declared.queue.Suspended.{Suspended}
use Rattle.object_manager.specs.After.{Copied, opening_copies}
use Rattle.object_manager.specs.Singles.{kinds_at, lines_single}
use Rattle.object_manager.specs.State.{message_of}
use Rattle.book_law.specs.Passes.{Test, after_all}
use Rattle.book_law.specs.Book.{aside_at, copies_at}
use Rattle.book_law.specs.declared.placing.Placed.{Placed}
use Rattle.book_law.specs.Course.{Came, Course, Next, taking}
use Rattle.book_law.specs.Course.Next.{Takes_call}
use Rattle.book_law.specs.Course.Came.{Then}
use Rattle.book_law.specs.Events.{Asks, In, Runner, Takes, answering, lines_by}
use Rattle.book_law.specs.Fitness.{ArgsFit, IsAtCall, MayCall, StateFits}
use Rattle.book_law.specs.Members.{Holds}
use Rattle.book_law.specs.Performed.{placed}
use Rattle.book_law.specs.Replies.{IsReplyTo}
use Rattle.book_law.specs.Singles.{Single, lines_on}
use Rattle.book_law.proofs.Books.{by_none, copies_more, placed_here}
use Rattle.book_law.proofs.Courses.{came_sound, one_of}
use Rattle.book_law.proofs.Fits.{ReplyFits, TextFits}
use Rattle.book_law.proofs.Members.{members_hold}
use Rattle.book_law.proofs.Owners.{owners_do_alike}
use Rattle.book_law.proofs.Processes.{get_some}
use Rattle.book_law.proofs.Replying.{answers_stand, hand_one}
use Rattle.book_law.proofs.Running.{processes_run}
use Rattle.world_rules.specs.Frame.{Frame}
use Rattle.world_rules.specs.Nodes.{NodeWork, known}
use Rattle.world_rules.specs.Played.{Played, Stage}
use Rattle.world_rules.specs.Played.Stage.{Computing, Acting, Submitted, Reading, Asking, Over}
use Rattle.world_rules.specs.Processes.{Begun, home_in, home_or_first, processes_in}
use Rattle.world_rules.specs.Worlds.{World}
use Rattle.world_course.specs.Corresponds.{IsMember, Stands}
use Rattle.world_course.specs.Processes.{IsRunner, StageStands, StandsHere}
use Rattle.world_course.specs.Errands.{MayTake}
use Rattle.world_course.specs.Works.{at_work}
use Rattle.world_course.proofs.Applied.{received}
use Rattle.world_course.proofs.Begun.{whole_same}
use Rattle.world_course.proofs.Handing.{HeardBy, MayHear, OneEach, hear_all, heard}
use Rattle.world_course.proofs.Listing.{count_in, runs_below}
use Rattle.world_course.proofs.Program.{Program, callable, fitting}

-- ---- lines of a process

lines_more : (j : ℕ) (xs ys : List Line) → lines_by j (xs ++ ys) ≡ lines_by j xs ++ lines_by j ys
lines_more j [] ys = refl
lines_more j (l ∷ xs) ys = go (l.process.0 == j) (lines_more j xs ys)
  where
    go : (b : Bool) → lines_by j (xs ++ ys) ≡ lines_by j xs ++ lines_by j ys → (if b then l ∷ lines_by j (xs ++ ys) else lines_by j (xs ++ ys)) ≡ (if b then l ∷ lines_by j xs else lines_by j xs) ++ lines_by j ys
    go true e = ap (λ (ls : List Line). l ∷ ls) e
    go false e = e

in_by : (j : ℕ) (l : Line) (lines : List Line) → In l lines → l.process.0 ≡ j → In l (lines_by j lines)
in_by j l [] h e = h
in_by j l (k ∷ lines) (inl same) e = subst (λ (z : List Line). In l z) (sym (ap (λ b. if b then k ∷ lines_by j lines else lines_by j lines) (eq-eqb k.process.0 j (ap (λ (z : Line). z.process.0) (sym same) ∙ e)))) (inl same)
in_by j l (k ∷ lines) (inr h) e = go (k.process.0 == j) (in_by j l lines h e)
  where
    go : (b : Bool) → In l (lines_by j lines) → In l (if b then k ∷ lines_by j lines else lines_by j lines)
    go true among = inr among
    go false among = among

none_append : {A : Type 0} (xs ys : List A) → xs ++ ys ≡ [] → ys ≡ []
none_append [] ys e = e
none_append (x ∷ xs) ys e = absurd (cc e)

-- an answer on its way changes nothing that the process's member knows
stage_answering : (q : Computes) (j n : ℕ) (ls : List Line) (x : Runner) (stage : Stage) → StageStands q j x stage → StageStands q j (answering n ls x) stage
stage_answering q j n [] x stage h = h
stage_answering q j n (l ∷ ls) x Computing h = h
stage_answering q j n (l ∷ ls) x (Acting act) h = h
stage_answering q j n (l ∷ ls) x (Submitted act) h = h
stage_answering q j n (l ∷ ls) x (Reading act) h = h
stage_answering q j n (l ∷ ls) x (Asking act) h = h
stage_answering q j n (l ∷ ls) x (Over act) h = h

runner_answering : (q : Computes) (j n : ℕ) (l : Line) (ls : List Line) (r : Played) (x : Runner) → IsRunner q j r x → IsRunner q j r (answering n (l ∷ ls) x)
runner_answering q j n l ls r x h = record { text = h.text; args = h.args; replies = h.replies; place = h.place; stage = stage_answering q j n (l ∷ ls) x r.stage h.stage }

-- ---- a call is taken

-- the owner's copy of the object, which the call may be taken on
pub record TakesHere (f : Frame) (single : Test) (c : Course) (m : ℕ) (call : Suspended) (v : NodeWork) : Type 0 where
  pub at : ℕ
  pub copy : Single
  pub runner : Runner
  pub takes : Takes c.owned c.entered c.applied c.runners at copy runner call
  pub owner : copy.owner ≡ m
  pub number : c.applied copy.owner ≡ v.node.copies.applied
  pub lines : lines_single f.performs v.node.copies (message_of call) ≡ lines_on f.performs copy call

takes_at : (f : Frame) (single : Test) (fits_state : StateFits) (fits_args : ArgsFit) (fits_text : TextFits) (fits_reply : ReplyFits) (w : World) (c : Course) (m : ℕ) (call : Suspended) (v : NodeWork)
    → Program f fits_state fits_args fits_text fits_reply → (h : Stands f single (at_work f m w v) c) → IsMember f single c h.came m v.node → (z : MayTake f single c m call v)
    → MayCall fits_args (kinds_at (copies_at single f.performs c.list v.node.copies.applied)) c.owned v.node.copies.applied call.kind call.op call.object call.args → TakesHere f single c m call v
takes_at f single fits_state fits_args fits_text fits_reply w c m call v program h mine z copy = record {
  at = copy.at;
  copy = copy.copy;
  runner = z.runner;
  takes = record {
    copy = copy.there;
    runner = z.runs;
    out = z.out;
    new = z.new;
    object = sym copy.is;
    kept = let le = copy.place in let e = at in omega (arith, le, e);
    after = let le = z.reached in let e = at in omega (arith, le, e);
  };
  owner = mine_is;
  number = at;
  lines = let alike = owners_do_alike f.performs v.node.copies copy.copy call (sym copy.is) holds.blocked
      (holds.keeps copy.at copy.copy copy.there (mine_is, let le = copy.place in let e = mine.applied in omega (arith, le, e))) in alike.lines;
}
  where
    -- the copy is this member's
    mine_is : copy.copy.owner ≡ m
    mine_is =
        let fit = fitting f fits_state fits_args fits_text fits_reply program single c h.came in
        let o = fit.owners copy.at copy.copy copy.there in
        let b = z.owner in
        let p = h.processes call.object.process b.begun b.there in
        sym o.2 ∙ ap (λ (y : Runner). y.member) (one_of (c.runners call.object.process) o.0 p.runner (ap (λ (id : ObjectId). c.runners id.process) (sym copy.is) ∙ o.1) p.runs) ∙ p.member ∙ b.home

    at : c.applied copy.copy.owner ≡ v.node.copies.applied
    at = ap c.applied mine_is ∙ mine.applied

    holds : Holds single f.performs c.list c.owned m (c.applied m) v.node.copies
    holds = subst (λ (k : Copied). Holds single f.performs c.list c.owned m (c.applied m) k) (sym mine.copies) (members_hold single f.performs f.computes c h.came m)

pub takes_here : (f : Frame) (single : Test) (fits_state : StateFits) (fits_args : ArgsFit) (fits_text : TextFits) (fits_reply : ReplyFits) (w : World) (c : Course) (m : ℕ) (call : Suspended) (v : NodeWork)
    → Program f fits_state fits_args fits_text fits_reply → (h : Stands f single (at_work f m w v) c) → IsMember f single c h.came m v.node → MayTake f single c m call v → TakesHere f single c m call v
takes_here f single fits_state fits_args fits_text fits_reply w c m call v program h mine z =
    let run = processes_run single f.performs f.computes c h.came in
    let p = run.each call.process.0 z.runner z.runs in
    let asks : Asks f.computes call.process.0 z.runner (message_of call) = p.asks (message_of call) z.out in
    let at_call : IsAtCall f.computes c.runners call.process z.runner v.node.copies.applied call.kind call.op call.object call.args = record { here = z.runs; place = z.reached; next = asks.next } in
    let may = callable f fits_state fits_args fits_text fits_reply program single c h.came in
    takes_at f single fits_state fits_args fits_text fits_reply w c m call v program h mine z
    (may.calls call.process z.runner v.node.copies.applied call.kind call.op call.object call.args at_call (inr (message_of call, z.out, z.new)) z.alone)

-- ---- who has lines

-- what is known of the lines: each is its process's only one, the reply to its message, and its process is one that the owner knows
pub record OwnLines (f : Frame) (c : Course) (processes : List Begun) (lines : List Line) : Type 0 where
  pub runner : (j : ℕ) (l : Line) (ls : List Line) → lines_by j lines ≡ l ∷ ls → (y : Runner) × (c.runners j ≡ Some y)
  pub reply : (j : ℕ) (y : Runner) → c.runners j ≡ Some y → IsReplyTo y (lines_by j lines)
  pub one : OneEach lines
  pub home : (j : ℕ) (b : Begun) (y : Runner) (l : Line) → slice_get (processes_in f c.list) j ≡ Some b → c.runners j ≡ Some y → lines_by j lines ≡ l ∷ [] → home_in processes j ≡ b.home

no_more : (y : Runner) (k : List Line) (l : Line) (ls : List Line) → IsReplyTo y k → k ≡ l ∷ ls → ls ≡ []
no_more y [] l ls reply is = absurd (cc is)
no_more y (a ∷ rest) l ls reply is = let e : rest ≡ ls = cc in sym e ∙ reply.0

-- who doesn't exist has no line
unborn_none : (f : Frame) (single : Test) (c d : Course) (n : ℕ) (lines : List Line) → Came single f.performs f.computes d → d.list ≡ c.list → d.aside ≡ c.aside ++ placed n lines → (j : ℕ) → length (processes_in f c.list) ≤ j → lines_by j lines ≡ []
unborn_none f single c d n lines later list aside j le =
    let sound = came_sound single f.performs f.computes d later in
    let kept = sound.kept in
    let count : length (processes_in f d.list) ≡ (after_all single f.performs opening_copies d.list).processes = count_in f single f.performs d.list in
    let same : length (processes_in f d.list) ≡ length (processes_in f c.list) = ap (λ (l : List Message). length (processes_in f l)) list in
    let none = kept.unborn j n (omega (arith, le, count, same)) in
    none_append (lines_by j (aside_at n c.aside)) (lines_by j lines)
    (sym (lines_more j (aside_at n c.aside) lines) ∙ ap (lines_by j) (sym (placed_here n c.aside lines)) ∙ ap (λ (a : List Placed). lines_by j (aside_at n a)) (sym aside) ∙ none)

pub own_lines : (f : Frame) (single : Test) (w : World) (c : Course) (m : ℕ) (call : Suspended) (v : NodeWork) (h : Stands f single (at_work f m w v) c) → IsMember f single c h.came m v.node → (t : TakesHere f single c m call v)
    → OwnLines f c (known f v.node) (lines_on f.performs t.copy call)
own_lines f single w c m call v h mine t = record { runner = runner_of; reply = reply_to; one = one_each; home = home_is }
  where
    n : ℕ
    n = c.applied t.copy.owner

    d : Course
    d = taking f.performs c t.at t.copy call

    step : Next single f.performs f.computes c d
    step = Takes_call t.at t.copy t.runner call t.takes refl

    later : Came single f.performs f.computes d
    later = Then c d h.came step

    lines : List Line
    lines = lines_on f.performs t.copy call

    runner_of : (j : ℕ) (l : Line) (ls : List Line) → lines_by j lines ≡ l ∷ ls → (y : Runner) × (c.runners j ≡ Some y)
    runner_of j l ls is = go (cases_lt j (length (processes_in f c.list)))
      where
        go : (j < length (processes_in f c.list)) ⊎ (length (processes_in f c.list) ≤ j) → (y : Runner) × (c.runners j ≡ Some y)
        go (inl lt) = let b = get_some (processes_in f c.list) j lt in let p = h.processes j b.0 b.1 in (p.runner, p.runs)
        go (inr le) = let g : l ∷ ls ≡ [] = sym is ∙ unborn_none f single c d n lines later refl refl j le in absurd (cc g)

    reply_to : (j : ℕ) (y : Runner) → c.runners j ≡ Some y → IsReplyTo y (lines_by j lines)
    reply_to j y is = let u = hand_one single f.performs f.computes c h.came in u.on_copy t.at t.copy t.runner call t.takes j y is

    one_each : OneEach lines
    one_each j l ls is = let r = runner_of j l ls is in no_more r.0 (lines_by j lines) l ls (reply_to j r.0 r.1) is

    -- the owner knows it, since the answer's place isn't below its own
    is_known : (j : ℕ) (y : Runner) (l : Line) → c.runners j ≡ Some y → lines_by j lines ≡ l ∷ [] → j < length (known f v.node)
    is_known j y l here is =
        let told : d.runners j ≡ Some (answering n (l ∷ []) y) = ap (option_map (answering n (lines_by j lines))) here ∙ ap (λ (k : List Line). Some (answering n k y)) is in
        let u = answers_stand single f.performs f.computes d later j (answering n (l ∷ []) y) told in
        let a = u.is (record { place = n; line = l }) refl in
        let le = a.place in
        let sound = came_sound single f.performs f.computes c h.came in
        let kept = sound.kept in
        let stands = kept.stands j y here in
        let there = stands.there in
        let e = t.number in
        let more = copies_more single f.performs c.list y.place v.node.copies.applied (omega (arith, le, e)) in
        let count = count_in f single f.performs (take v.node.copies.applied c.list) in
        let same : length (known f v.node) ≡ length (processes_in f (take v.node.copies.applied c.list)) = ap (λ (l : List Message). length (processes_in f l)) mine.entries in
        omega (arith, there, more, count, same)

    home_is : (j : ℕ) (b : Begun) (y : Runner) (l : Line) → slice_get (processes_in f c.list) j ≡ Some b → c.runners j ≡ Some y → lines_by j lines ≡ l ∷ [] → home_in (known f v.node) j ≡ b.home
    home_is j b y l is runs one =
        let same : known f v.node ≡ processes_in f (take v.node.copies.applied c.list) = ap (processes_in f) mine.entries in
        ap (λ (ps : List Begun). home_in ps j) same
        ∙ ap home_or_first (sym (whole_same f c.list v.node.copies.applied j (subst (λ (ps : List Begun). j < length ps) same (is_known j y l runs one))) ∙ is)

-- ---- each process of the owner hears its line

same_one : (l a : Line) → In l (a ∷ []) → l ≡ a
same_one l a (inl e) = e
same_one l a (inr none) = absurd none

-- a line among these is its process's only one
pub only_line : (lines : List Line) (l a : Line) (rest : List Line) → OneEach lines → In l lines → lines_by l.process.0 lines ≡ a ∷ rest → lines_by l.process.0 lines ≡ l ∷ []
only_line lines l a rest one among is =
    let e : lines_by l.process.0 lines ≡ a ∷ [] = is ∙ ap (λ (k : List Line). a ∷ k) (one l.process.0 a rest is) in
    let only : In l (a ∷ []) = subst (λ (k : List Line). In l k) e (in_by l.process.0 l lines among refl) in
    e ∙ ap (λ (k : Line). k ∷ []) (sym (same_one l a only))

pub hears_lines : (f : Frame) (single : Test) (w : World) (c : Course) (m : ℕ) (call : Suspended) (v : NodeWork) (h : Stands f single (at_work f m w v) c) → (t : TakesHere f single c m call v)
    → OwnLines f c (known f v.node) (lines_on f.performs t.copy call) → (later : Came single f.performs f.computes (taking f.performs c t.at t.copy call))
    → HeardBy f single (taking f.performs c t.at t.copy call) later (c.applied t.copy.owner) (λ j. home_in (known f v.node) j == m) (lines_on f.performs t.copy call)
hears_lines f single w c m call v h t own later = hear_all f single d later n (λ j. home_in (known f v.node) j == m) lines own.one may_hear
  where
    n : ℕ
    n = c.applied t.copy.owner

    d : Course
    d = taking f.performs c t.at t.copy call

    lines : List Line
    lines = lines_on f.performs t.copy call

    may_hear : (l : Line) → In l lines → (home_in (known f v.node) l.process.0 == m) ≡ true → MayHear d n l
    may_hear l among is_here = go (lines_by l.process.0 lines) refl
      where
        go : (k : List Line) → lines_by l.process.0 lines ≡ k → MayHear d n l
        go [] is = absurd (by_none l.process.0 l lines is among refl)
        go (a ∷ rest) is =
            let r = own.runner l.process.0 a rest is in
            let one = only_line lines l a rest own.one among is in
            let b = get_some (processes_in f c.list) l.process.0 (runs_below f single c l.process.0 r.0 h.came r.1) in
            let p = h.processes l.process.0 b.0 b.1 in
            let home : r.0.member ≡ m = ap (λ (y : Runner). y.member) (one_of (c.runners l.process.0) r.0 p.runner r.1 p.runs) ∙ p.member ∙ sym (own.home l.process.0 b.0 r.0 l b.1 r.1 one) ∙ eqb-true (home_in (known f v.node) l.process.0) m is_here in
            record {
              runner = answering n (l ∷ []) r.0;
              runs = ap (option_map (answering n (lines_by l.process.0 lines))) r.1 ∙ ap (λ (k : List Line). Some (answering n k r.0)) one;
              answer = refl;
              reached = let e : c.applied r.0.member ≡ n = ap c.applied (home ∙ sym t.owner) in omega (arith, e);
            }

-- ---- what processes are after that

pub heard_member : (n : ℕ) (b : Bool) (ls : List Line) (y : Runner) → (heard n b ls (answering n ls y)).member ≡ y.member
heard_member n true [] y = refl
heard_member n true (l ∷ ls) y = refl
heard_member n false [] y = refl
heard_member n false (l ∷ ls) y = refl

heard_nothing : (n : ℕ) (b : Bool) (y : Runner) → heard n b [] (answering n [] y) ≡ y
heard_nothing n true y = refl
heard_nothing n false y = refl

plays_nothing : (k : ℕ) (b : Bool) (o : Option Played) → (if b then option_map (received k []) o else o) ≡ o
plays_nothing k true None = refl
plays_nothing k true (Some r) = refl
plays_nothing k false o = refl

no_message : (y : Runner) (l : Line) (ls : List Line) → y.message ≡ None → IsReplyTo y (l ∷ ls) → ⊥
no_message y l ls free reply = let e : None ≡ Some reply.1 = sym free ∙ reply.2 in absurd (cc e)

-- of a process of the owner, which applied k entries
pub own_stands : (f : Frame) (c : Course) (m n k : ℕ) (processes : List Begun) (lines : List Line) → OwnLines f c processes lines → n ≡ k → (j : ℕ) (b : Begun) (y : Runner) (ls : List Line) (o : Option Played)
    → slice_get (processes_in f c.list) j ≡ Some b → b.home ≡ m → c.runners j ≡ Some y → lines_by j lines ≡ ls → StandsHere f.computes j b y k o
    → StandsHere f.computes j b (heard n (home_in processes j == m) ls (answering n ls y)) k (if home_in processes j == m then option_map (received k ls) o else o)
own_stands f c m n k processes lines own at j b y [] o is home runs of stands =
    subst (λ (r : Runner). StandsHere f.computes j b r k (if home_in processes j == m then option_map (received k []) o else o)) (sym (heard_nothing n (home_in processes j == m) y))
    (subst (λ (p : Option Played). StandsHere f.computes j b y k p) (sym (plays_nothing k (home_in processes j == m) o)) stands)
own_stands f c m n k processes lines own at j b y (l ∷ ls) None is home runs of (lt, same) =
    absurd (no_message y l ls (ap (λ (r : Runner). r.message) same) (subst (λ (i : List Line). IsReplyTo y i) of (own.reply j y runs)))
own_stands f c m n k processes lines own at j b y (l ∷ ls) (Some r) is home runs of (le, reaches, so) =
    let rest = own.one j l ls of in
    let one : lines_by j lines ≡ l ∷ [] = of ∙ ap (λ (i : List Line). l ∷ i) rest in
    let is_here : (home_in processes j == m) ≡ true = eq-eqb (home_in processes j) m (own.home j b y l is runs one ∙ home) in
    subst (λ (t : Bool). StandsHere f.computes j b (heard n t (l ∷ ls) (answering n (l ∷ ls) y)) k (if t then option_map (received k (l ∷ ls)) (Some r) else Some r)) (sym is_here)
    (subst (λ (i : List Line). StandsHere f.computes j b (heard n true (l ∷ i) (answering n (l ∷ i) y)) k (Some (received k (l ∷ i) r))) (sym rest) (
      le,
      omega arith,
      record {
        text = so.text;
        args = so.args;
        replies = ap (λ (rs : List Reply). rs ++ l.reply ∷ []) so.replies;
        place = at;
        stage = refl;
      },
    ))

-- of another one
pub other_stands : (f : Frame) (c : Course) (m n : ℕ) (processes : List Begun) (lines : List Line) → OwnLines f c processes lines → (j : ℕ) (b : Begun) (y : Runner) (ls : List Line) (k : ℕ) (o : Option Played)
    → slice_get (processes_in f c.list) j ≡ Some b → (b.home ≡ m → ⊥) → c.runners j ≡ Some y → lines_by j lines ≡ ls → StandsHere f.computes j b y k o → StandsHere f.computes j b (heard n (home_in processes j == m) ls (answering n ls y)) k o
other_stands f c m n processes lines own j b y [] k o is apart runs of stands = subst (λ (r : Runner). StandsHere f.computes j b r k o) (sym (heard_nothing n (home_in processes j == m) y)) stands
other_stands f c m n processes lines own j b y (l ∷ ls) k None is apart runs of (lt, same) =
    absurd (no_message y l ls (ap (λ (r : Runner). r.message) same) (subst (λ (i : List Line). IsReplyTo y i) of (own.reply j y runs)))
other_stands f c m n processes lines own j b y (l ∷ ls) k (Some r) is apart runs of (le, reaches, so) =
    let one : lines_by j lines ≡ l ∷ [] = of ∙ ap (λ (i : List Line). l ∷ i) (own.one j l ls of) in
    let away : (home_in processes j == m) ≡ false = ne_eqb (home_in processes j) m (λ e. apart (sym (own.home j b y l is runs one) ∙ e)) in
    subst (λ (t : Bool). StandsHere f.computes j b (heard n t (l ∷ ls) (answering n (l ∷ ls) y)) k (Some r)) (sym away)
    (le, reaches, runner_answering f.computes j n l ls r y so)
