-- A call that an owner takes: what it performs stands beside the list, its own processes hear it, and others are sent Answers that stand.
use Rattle.std.proofs.Common.{◌≡◌, ◌≤◌, ◌<◌, ◌==◌, ℕ, zero, suc, ◌⊎◌, inl, inr, ⊎_elim, Bool, true, false, List, [], ◌∷◌, ◌++◌, Option, Some, None, refl, sym, ap, ◌∙◌, subst, arith, length, if◌then◌else◌}
use Rattle.std.proofs.lemmas.Bool.{cases_lt, eqb-true}
use Rattle.std.specs.Prelude.{option_map, slice_get}
use Rattle.orca_base.specs.declared.ids.ObjectId.{ObjectId}
use Rattle.orca_base.specs.declared.ids.ProcessNo.{ProcessNo}
use Rattle.value_core.specs.Meaning.{Performs}
use Rattle.value_core.specs.declared.action.Line.{Line}
use Rattle.value_core.specs.declared.meaning.Tried.{Tried}
use Rattle.value_core.specs.declared.meaning.Tried.TheVariants as tried
use Rattle.guard_queue.specs.declared.queue.Suspended.{Suspended}
use Rattle.guard_queue.proofs.Behind.{settled_behind}
use Rattle.guard_queue.specs.Settles.{Settling, answered, behind, next_ready, performed, settle_up_to, settled, settled_from, stepped, tried_in}
use Rattle.object_manager.specs.After.{Copied, called}
use Rattle.object_manager.specs.Singles.{lines_single, side}
use Rattle.object_manager.specs.State.{message_of}
use Rattle.book_law.specs.Passes.{Test}
use Rattle.book_law.specs.declared.placing.Placed.{Placed}
use Rattle.book_law.specs.Course.{Course, taking}
use Rattle.book_law.specs.Events.{Calls, In, Takes, answering, lines_by}
use Rattle.book_law.specs.Fitness.{ArgsFit, StateFits}
use Rattle.book_law.specs.Performed.{placed}
use Rattle.book_law.specs.Singles.{Single, alone, lines_on}
use Rattle.book_law.proofs.Books.{by_none}
use Rattle.book_law.proofs.Courses.{came_sound}
use Rattle.book_law.proofs.Fits.{ReplyFits, TextFits}
use Rattle.book_law.proofs.Inserting.{calls_one}
use Rattle.book_law.proofs.Kept.{Owns}
use Rattle.book_law.proofs.Lists.{in_push, in_remove}
use Rattle.book_law.proofs.Objects.{in_append, in_first, in_second}
use Rattle.book_law.proofs.Processes.{get_some}
use Rattle.book_law.proofs.Replying.{answers_stand, in_placed}
use Rattle.book_law.proofs.Resting.{placed_in}
use Rattle.world_rules.specs.Frame.{Frame}
use Rattle.world_rules.specs.Mail.{Errand, Mail}
use Rattle.world_rules.specs.Nodes.{Given, Node, NodeWork, aside_of, known, mails_of}
use Rattle.world_rules.specs.Owners.{performs_call}
use Rattle.world_rules.specs.Played.{Played, receives}
use Rattle.world_rules.specs.Played.Stage.{Computing}
use Rattle.world_rules.specs.Processes.{home_in, processes_in}
use Rattle.world_rules.specs.Worlds.{World}
use Rattle.world_course.specs.Corresponds.{Corresponds, IsOf}
use Rattle.world_course.specs.Errands.{IsAnswer, IsGiven, MailStands, MayTake, NodeStands}
use Rattle.world_course.specs.Works.{at_work}
use Rattle.world_course.proofs.Answering.{HandsAway, IsSent, IsSet, answer_to, hands_away}
use Rattle.world_course.proofs.Applied.{received}
use Rattle.world_course.proofs.Carrying.{Carries, CarriesOn, Comes, answer_later, carry, own_node}
use Rattle.world_course.proofs.Later.{Later, errand_later, leads_later}
use Rattle.world_course.proofs.Listing.{runs_below}
use Rattle.world_course.proofs.Owning.{only_line}
use Rattle.world_course.proofs.Program.{Program}
use Rattle.world_course.proofs.Silent.{Waits, asks_waits, shares_waits}
use Rattle.world_course.proofs.Taking.{Parts, Taken, begun_call, call_taken}
use Rattle.world_course.proofs.Tries.{node_at}

-- ---- the lines are of this object

-- each line calls the object, and so does each call that waits
record AllCall (o : ObjectId) (s : Settling) : Type 0 where
  lines : (l : Line) → In l s.lines → Calls l.action o
  queue : (call : Suspended) → In call s.queue → call.object ≡ o

in_queue : (queue : List Suspended) (at : ℕ) (call : Suspended) → slice_get queue at ≡ Some call → In call queue
in_queue [] at call is = absurd (cc is)
in_queue (x ∷ queue) zero call is = let e : x ≡ call = cc in inl (sym e)
in_queue (x ∷ queue) (suc at) call is = inr (in_queue queue at call is)

performed_calls : (p : Performs) (o : ObjectId) (s : Settling) (at : ℕ) (found : Option Suspended) → slice_get s.queue at ≡ found → AllCall o s → AllCall o (performed p s at found)
performed_calls p o s at None is all = all
performed_calls p o s at (Some call) is all = record {
  lines = λ l h. ⊎_elim (λ old. all.lines l old) (λ (e : l ≡ answered call (tried_in p s.objects call)). subst (λ (z : Line). Calls z.action o) (sym e) (sym (all.queue call (in_queue s.queue at call is))))
      (in_push l (answered call (tried_in p s.objects call)) s.lines h);
  queue = λ other h. all.queue other (in_remove other s.queue at h);
}

stepped_calls : (p : Performs) (o : ObjectId) (s : Settling) (found : Option ℕ) → AllCall o s → AllCall o (stepped p s found)
stepped_calls p o s None all = all
stepped_calls p o s (Some at) all = performed_calls p o s at (slice_get s.queue at) refl all

settled_calls : (p : Performs) (o : ObjectId) (n : ℕ) (s : Settling) → AllCall o s → AllCall o (settle_up_to p n s)
settled_calls p o zero s all = all
settled_calls p o (suc n) s all = settled_calls p o n (stepped p s (next_ready p s.objects s.queue)) (stepped_calls p o s (next_ready p s.objects s.queue) all)

one_calls : (o : ObjectId) (call : Suspended) (t : Tried) → call.object ≡ o → (l : Line) → In l (answered call t ∷ []) → Calls l.action o
one_calls o call t is l (inl e) = subst (λ (z : Line). Calls z.action o) (sym e) (sym is)
one_calls o call t is l (inr none) = absurd none

first_calls : (c : Copied) (o : ObjectId) (call : Suspended) (t : Tried) → call.object ≡ o → ((other : Suspended) → In other c.queue → other.object ≡ o) → AllCall o (called c call t)
first_calls c o call tried.Blocked is its = record {
  lines = λ l h. absurd h;
  queue = λ other h. ⊎_elim (λ old. its other old) (λ (e : other ≡ call). ap (λ (z : Suspended). z.object) e ∙ is) (in_push other call c.queue h);
}
first_calls c o call (tried.Did guard state reply) is its = record { lines = one_calls o call (tried.Did guard state reply) is; queue = its }
first_calls c o call (tried.Broke guard fault) is its = record { lines = one_calls o call (tried.Broke guard fault) is; queue = its }

pub lines_call : (p : Performs) (x : Single) (call : Suspended) → call.object ≡ x.object → ((other : Suspended) → In other x.queue → other.object ≡ x.object) → (l : Line) → In l (lines_on p x call) → Calls l.action x.object
lines_call p x call is its l h =
    let s : Settling = called (side (alone x)) call (tried_in p (side (alone x)).objects call) in
    let whole : settled_from p s ≡ behind s.lines (settled p s.objects s.queue) = settled_behind p s.objects s.queue s.lines (settled_from p s) refl in
    let all : AllCall x.object (behind s.lines (settled p s.objects s.queue)) =
    subst (λ (t : Settling). AllCall x.object t) whole (settled_calls p x.object (length s.queue) s (first_calls (side (alone x)) x.object call (tried_in p (side (alone x)).objects call) is its)) in
    all.lines l h

-- ---- a process that is waiting after a call waited before

waited : (n : ℕ) (b : Bool) (ls : List Line) (o : Option Played) (r : Played) → (if b then option_map (received n ls) o else o) ≡ Some r → Waits r.stage → o ≡ Some r
waited n false ls o r is waits = is
waited n true [] None r is waits = absurd (cc is)
waited n true [] (Some s) r is waits = is
waited n true (l ∷ ls) None r is waits = absurd (cc is)
waited n true (l ∷ ls) (Some s) r is waits = absurd (computes n l ls s r is waits)
  where
    never : (n : ℕ) (ls : List Line) (s r : Played) → s.stage ≡ Computing → received n ls s ≡ r → Waits r.stage → ⊥
    never n [] s r computes e waits = subst Waits (ap (λ (z : Played). z.stage) (sym e) ∙ computes) waits
    never n (l ∷ ls) s r computes e waits = never n ls (receives n l.reply s) r refl e waits

    computes : (n : ℕ) (l : Line) (ls : List Line) (s r : Played) → option_map (received n (l ∷ ls)) (Some s) ≡ Some r → Waits r.stage → ⊥
    computes n l ls s r is waits = let e : received n (l ∷ ls) s ≡ r = cc in never n ls (receives n l.reply s) r refl e waits

-- ---- the call is taken

-- what a taken call comes to, where the owner applied n entries: its lines call this object, and are handed on
pub record CallDone (f : Frame) (c d : Course) (m n : ℕ) (lines : List Line) (object : ObjectId) (v u : NodeWork) : Type 0 where
  pub later : Later f c d
  pub aside : d.aside ≡ c.aside ++ placed n lines
  pub held : u.node.held ≡ v.node.held
  pub mails : (mail : Mail) → In mail (mails_of u.deeds) → In mail (mails_of v.deeds) ⊎ IsSent n lines mail
  pub given : (j : ℕ) → (u.node.given j ≡ v.node.given j) ⊎ IsSet n lines j (u.node.given j)
  pub had : (l : Line) → In l lines → (home_in (known f v.node) l.process.0 == m) ≡ false → u.node.given l.process.0 ≡ Some (answer_to n l)
  pub count : u.node.copies.processes ≡ v.node.copies.processes
  pub waits : (j : ℕ) (r : Played) → u.node.played j ≡ Some r → Waits r.stage → v.node.played j ≡ Some r
  pub beside : (r : Placed) → In r (aside_of u.deeds) → In r (aside_of v.deeds) ⊎ In r.line lines
  pub calls : (l : Line) → In l lines → Calls l.action object
  pub home : (l : Line) → In l lines → (home_in (known f v.node) l.process.0 == m) ≡ true → IsOf f d m l.process.0
  pub owner : IsOf f d m object.process
  pub rises : (r : Placed) → In r c.aside → (l : Line) → In l lines → l.process.0 ≡ r.line.process.0 → r.line.call.0 ≤ l.call.0

-- an Answer to one of the lines stands
line_answers : (f : Frame) (c d : Course) (m n : ℕ) (lines : List Line) (object : ObjectId) (v u : NodeWork) → CallDone f c d m n lines object v u → (l : Line) → In l lines → IsAnswer d n l.process l.call l.reply
line_answers f c d m n lines object v u z l among = record {
  line = record { place = n; line = l };
  there = subst (λ (a : List Placed). In (record { place = n; line = l }) a) (sym z.aside) (in_second (record { place = n; line = l }) c.aside (placed n lines) (placed_in n l lines among));
  place = refl;
  process = refl;
  call = refl;
  reply = refl;
}

kept_answers : (f : Frame) (c d : Course) (m n : ℕ) (lines : List Line) (object : ObjectId) (v u : NodeWork) → CallDone f c d m n lines object v u → (i : ProcessNo) (one : Given) → u.node.given i.0 ≡ Some one → IsSet n lines i.0 (u.node.given i.0)
    → IsAnswer d one.place i one.call one.reply
kept_answers f c d m n lines object v u z i one is set =
    let e : Some (answer_to n set.line) ≡ Some one = sym set.is ∙ is in
    let g : answer_to n set.line ≡ one = cc in
    let by : set.line.process ≡ i = ap (λ (k : ℕ). record { 0 = k }) set.process in
    subst (λ (k : Given). IsAnswer d k.place i k.call k.reply) g
    (subst (λ (j : ProcessNo). IsAnswer d n j set.line.call set.line.reply) by (line_answers f c d m n lines object v u z set.line set.among))

sent_stands : (f : Frame) (single : Test) (c d : Course) (m n : ℕ) (lines : List Line) (object : ObjectId) (v u : NodeWork) → CallDone f c d m n lines object v u → (mail : Mail) → IsSent n lines mail → MailStands f single d mail
sent_stands f single c d m n lines object v u z mail sent =
    subst (λ (k : Mail). MailStands f single d k) (sym sent.is) (line_answers f c d m n lines object v u z sent.line sent.among)

-- who has the line: the owner's own process, or one elsewhere, whose Answer is kept
told_of : (f : Frame) (w : World) (c d : Course) (m n : ℕ) (lines : List Line) (object : ObjectId) (v u : NodeWork) → CallDone f c d m n lines object v u → (l : Line) → In l lines
    → (b : Bool) → (home_in (known f v.node) l.process.0 == m) ≡ b → IsOf f d m l.process.0 ⊎ IsGiven ((at_work f m w u).nodes m) l
told_of f w c d m n lines object v u z l among true is = inl (z.home l among is)
told_of f w c d m n lines object v u z l among false is =
    inr (subst (λ (k : Node). IsGiven k l) (sym (node_at f m w u)) (record { given = answer_to n l; there = z.had l among is; call = omega arith }))

done_comes : (f : Frame) (single : Test) (w : World) (c d : Course) (m n : ℕ) (lines : List Line) (object : ObjectId) (v u : NodeWork) → NodeStands f single c m v.node → Corresponds f single (at_work f m w u) d → CallDone f c d m n lines object v u
    → Comes f single w c d m v u
done_comes f single w c d m n lines object v u node corresponds z = record {
  corresponds = corresponds;
  later = z.later;
  node = record {
    held = λ errand is. errand_later f single c d m errand z.later (node.held errand (subst (λ (l : List Errand). In errand l) z.held is));
    given = λ i one is. let more = z.later in ⊎_elim
        (λ same. answer_later c d one.place i one.call one.reply more.aside (node.given i one (sym same ∙ is)))
        (λ set. kept_answers f c d m n lines object v u z i one is set)
        (z.given i.0);
    asks = λ j r o is at.
        let a = node.asks j r o (z.waits j r is (asks_waits r.stage o at)) at in
        record { alone = a.alone; maker = let lt = a.maker in let e = z.count in omega (arith, lt, e) };
    shares = λ j r o is at. node.shares j r o (z.waits j r is (shares_waits r.stage o at)) at;
  };
  mails = λ mail is. ⊎_elim (λ old. inl old) (λ sent. inr (sent_stands f single c d m n lines object v u z mail sent)) (z.mails mail is);
  beside = λ r o is calls alone. ⊎_elim (λ old. inl old)
      (λ among. inr (record {
        owner = m;
        of = subst (λ (k : ObjectId). IsOf f d m k.process) (calls_one r.line.action object o (z.calls r.line among) calls) z.owner;
        told = told_of f w c d m n lines object v u z r.line among (home_in (known f v.node) r.line.process.0 == m) refl;
      }))
      (z.beside r is);
  given = λ r is g. ⊎_elim
      (λ same. record { given = g.given; there = same ∙ g.there; call = g.call })
      (λ set. record { given = answer_to n set.line; there = set.is; call = z.rises r is set.line set.among set.process })
      (z.given r.line.process.0);
}

-- ---- so it is of a taken call

taken_home : (f : Frame) (single : Test) (w : World) (c : Course) (m : ℕ) (call : Suspended) (v : NodeWork) (t : Taken f single w c m call v) (l : Line) → In l (lines_on f.performs t.parts.here.copy call)
    → (home_in (known f v.node) l.process.0 == m) ≡ true → IsOf f c m l.process.0
taken_home f single w c m call v t l among here = go (lines_by l.process.0 (lines_on f.performs t.parts.here.copy call)) refl
  where
    q : Parts f single c t.came m call v
    q = t.parts

    lines : List Line
    lines = lines_on f.performs q.here.copy call

    go : (k : List Line) → lines_by l.process.0 lines ≡ k → IsOf f c m l.process.0
    go [] is = absurd (by_none l.process.0 l lines is among refl)
    go (a ∷ rest) is =
        let own = q.own in
        let y = own.runner l.process.0 a rest is in
        let b = get_some (processes_in f c.list) l.process.0 (runs_below f single c l.process.0 y.0 t.came y.1) in
        let home = own.home l.process.0 b.0 y.0 a b.1 y.1 (is ∙ ap (λ (k : List Line). a ∷ k) (own.one l.process.0 a rest is)) in
        record { begun = b.0; there = b.1; home = sym home ∙ eqb-true (home_in (known f v.node) l.process.0) m here }

-- numbers rise: what stands beside the list of a process isn't behind its new line
taken_rises : (f : Frame) (single : Test) (w : World) (c : Course) (m : ℕ) (call : Suspended) (v : NodeWork) (t : Taken f single w c m call v) (r : Placed) → In r c.aside
    → (l : Line) → In l (lines_on f.performs t.parts.here.copy call) → l.process.0 ≡ r.line.process.0 → r.line.call.0 ≤ l.call.0
taken_rises f single w c m call v t r is l among same = go (lines_by l.process.0 (lines_on f.performs t.parts.here.copy call)) refl
  where
    q : Parts f single c t.came m call v
    q = t.parts

    lines : List Line
    lines = lines_on f.performs q.here.copy call

    n : ℕ
    n = c.applied q.here.copy.owner

    d : Course
    d = taking f.performs c q.here.at q.here.copy call

    go : (k : List Line) → lines_by l.process.0 lines ≡ k → r.line.call.0 ≤ l.call.0
    go [] none = absurd (by_none l.process.0 l lines none among refl)
    go (a ∷ rest) some =
        let own = q.own in
        let y = own.runner l.process.0 a rest some in
        let one = only_line lines l a rest own.one among some in
        let told : d.runners l.process.0 ≡ Some (answering n (l ∷ []) y.0) =
        ap (option_map (answering n (lines_by l.process.0 lines))) y.1 ∙ ap (λ (k : List Line). Some (answering n k y.0)) one in
        let stand = answers_stand single f.performs f.computes d q.later l.process.0 (answering n (l ∷ []) y.0) told in
        let its = stand.is (record { place = n; line = l }) refl in
        let number = its.call in
        ⊎_elim
        (λ (lt : r.line.call.0 < length y.0.replies). omega (arith, lt, number))
        (λ (le : length y.0.replies ≤ r.line.call.0).
        let e : Some (record { place = n; line = l }) ≡ Some r = stand.only r (in_first r c.aside (placed n lines) is) (sym same) le in
        let g : record { place = n; line = l } ≡ r = cc in
        let k : l.call.0 ≡ r.line.call.0 = ap (λ (z : Placed). z.line.call.0) g in
        omega (arith, k))
        (cases_lt r.line.call.0 (length y.0.replies))

taken_done : (f : Frame) (single : Test) (w : World) (c : Course) (m : ℕ) (call : Suspended) (v : NodeWork) → MayTake f single c m call v → (t : Taken f single w c m call v)
    → CallDone f c t.parts.done.course m v.node.copies.applied (lines_on f.performs t.parts.here.copy call) call.object v (performs_call f m (message_of call) v)
taken_done f single w c m call v may t = record {
  later = later;
  aside = q.done.aside ∙ ap (λ (i : ℕ). c.aside ++ placed i lines) q.here.number;
  held = away.held;
  mails = away.mails;
  given = away.given;
  had = let own = q.own in away.had own.one;
  count = ap (λ (k : Copied). k.processes) q.given.copies;
  waits = λ j r is waits. waited v.node.copies.applied (home_in (known f v.node) j == m) (lines_by j lines) (v.node.played j) r (sym (q.given.plays j) ∙ is) waits;
  beside = λ r is. ⊎_elim (λ old. inl old) (λ new. inr (in_placed v.node.copies.applied r lines new).1)
      (in_append r (aside_of v.deeds) (placed v.node.copies.applied lines) (subst (λ (a : List Placed). In r a) q.given.aside is));
  calls = λ l among. subst (λ (o : ObjectId). Calls l.action o) (sym takes.object) (lines_call f.performs q.here.copy call takes.object owns.its l among);
  home = λ l among here. later.homes m l.process.0 (taken_home f single w c m call v t l among here);
  owner = later.homes m call.object.process may.owner;
  rises = taken_rises f single w c m call v t;
}
  where
    q : Parts f single c t.came m call v
    q = t.parts

    lines : List Line
    lines = lines_on f.performs q.here.copy call

    takes : Takes c.owned c.entered c.applied c.runners q.here.at q.here.copy q.here.runner call
    takes = q.here.takes

    later : Later f c q.done.course
    later = leads_later f single c q.done.course t.came t.leads

    away : HandsAway m v.node.copies.applied (known f v.node) lines (begun_call f call v) (performs_call f m (message_of call) v)
    away = subst (λ (k : List Line). HandsAway m v.node.copies.applied (known f v.node) k (begun_call f call v) (performs_call f m (message_of call) v)) q.here.lines
        (hands_away f m v.node.copies.applied (known f v.node) (lines_single f.performs v.node.copies (message_of call)) (begun_call f call v) refl refl)

    owns : Owns single f.performs f.computes c.list c.aside c.runners (c.applied q.here.copy.owner) q.here.copy
    owns =
        let sound = came_sound single f.performs f.computes c t.came in
        let kept = sound.kept in
        kept.owns q.here.at q.here.copy takes.copy

-- a call that an owner may take
pub call_carries : (f : Frame) (single : Test) (fits_state : StateFits) (fits_args : ArgsFit) (fits_text : TextFits) (fits_reply : ReplyFits) (w : World) (c : Course) (m : ℕ) (call : Suspended) (v : NodeWork)
    → Program f fits_state fits_args fits_text fits_reply → Carries f single w c m v → MayTake f single c m call v → CarriesOn f single w c m (performs_call f m (message_of call) v)
call_carries f single fits_state fits_args fits_text fits_reply w c m call v program h may =
    let t = call_taken f single fits_state fits_args fits_text fits_reply w c m call v program h.corresponds may in
    let u : NodeWork = performs_call f m (message_of call) v in (
      t.parts.done.course,
      t.leads,
      carry f single w c t.parts.done.course m v u h
          (done_comes f single w c t.parts.done.course m v.node.copies.applied (lines_on f.performs t.parts.here.copy call) call.object v u (own_node f single w c m v h) t.corresponds
          (taken_done f single w c m call v may t)),
    )
