-- Each member's copies against the book.
use Rattle.std.proofs.Common.{◌≡◌, ◌==◌, ℕ, suc, Bool, true, false, Option, Some, None, [], length, refl, sym, ap, ◌∙◌, if◌then◌else◌}
use Rattle.orca_base.specs.declared.ids.ObjectId.{ObjectId}
use Rattle.value_core.specs.declared.action.Instance.{Instance}
use Rattle.value_core.specs.History.{Objects, object_at, objects_of}
use Rattle.object_manager.specs.After.{Copied, acted, after as after_applied}
use Rattle.object_manager.specs.Singles.{after_passed, after_single, own_after, side}
use Rattle.object_manager.specs.State.{message_of}
use Rattle.guard_queue.specs.Shown.{Rises}
use Rattle.value_core.specs.declared.message.Message.{Message}
use Rattle.value_core.specs.declared.action.Action.{Action}
use Rattle.value_core.specs.declared.action.Action.TheVariants as action
use Rattle.object_manager.specs.Limits.{made_objects}
use Rattle.value_core.specs.Meaning.{Performs, Computes}
use Rattle.book_law.specs.Passes.{Test, is_passed}
use Rattle.book_law.specs.Book.{book}
use Rattle.book_law.specs.Course.{Came, Course, Next}
use Rattle.book_law.specs.Course.Next.{Submits, Orders, Forks, Applies, Reads_at, Takes_call, Hears_answer}
use Rattle.book_law.specs.Course.Came.{Opens, Then}
use Rattle.book_law.specs.Members.{Holds, MembersFollow, after_entry, copies_by, copies_of, runs_at}
use Rattle.book_law.proofs.Kept.{Kept}
use Rattle.book_law.proofs.Calls.{came_output}
use Rattle.book_law.proofs.Counting.{objects_counted}
use Rattle.book_law.proofs.Courses.{came_sound}
use Rattle.book_law.proofs.Members.{members_hold}
use Rattle.book_law.proofs.Ordered.{ordered_acted, ordered_making, ordered_settled}
use Rattle.book_law.proofs.Shared.{copies_shared}

-- ---- what a member keeps stands in order

passed_rises : (p : Performs) (keeps : Bool) (own : Objects) (a : Action) → Rises own → Rises (own_after p keeps own a)
passed_rises p true own (action.Make kind object) h = ordered_making own kind object (p.made kind) h
passed_rises p false own (action.Make kind object) h = h
passed_rises p keeps own (action.Call kind op object args) h = h
passed_rises p keeps own (action.Fork text args place_on) h = h
passed_rises p keeps own action.Ended h = h
passed_rises p keeps own (action.Faulted fault) h = h

entry_rises : (single : Test) (p : Performs) (c : Copied) (y : Message) (keeps : Bool) → Rises c.own → Rises (after_entry single p c y keeps).own
entry_rises single p c y keeps h = go (is_passed single y.action)
  where
    go : (b : Bool) → Rises (if b then after_passed p keeps c y else after_applied p c y).own
    go true = passed_rises p keeps c.own y.action h
    go false = h

call_rises : (p : Performs) (c : Copied) (y : Message) → Rises c.own → Rises (after_single p c y).own
call_rises p c y h =
    let s = acted p (side c) y in
    ordered_settled p (length s.queue) (record { objects = s.objects; queue = s.queue; lines = [] }) (ordered_acted p (side c) y y.action h)

next_rises : (single : Test) (p : Performs) (q : Computes) (w v : Course) (next : Next single p q w v) (m : ℕ) (c : Copied) → Rises c.own → Rises (copies_by single p q w v next m c).own
next_rises single p q w v (Submits j x y here free asks is) m c h = h
next_rises single p q w v (Orders x r here was new may plain is) m c h = h
next_rises single p q w v (Forks x born member was new forks is) m c h = h
next_rises single p q w v (Applies k y here is) m c h = go (k == m)
  where
    go : (b : Bool) → Rises (if b then after_entry single p c y (runs_at m (w.runners y.process.0)) else c).own
    go true = entry_rises single p c y (runs_at m (w.runners y.process.0)) h
    go false = h
next_rises single p q w v (Reads_at j x n line here reads is) m c h = h
next_rises single p q w v (Takes_call i x r call takes is) m c h = go (x.owner == m)
  where
    go : (b : Bool) → Rises (if b then after_single p c (message_of call) else c).own
    go true = call_rises p c (message_of call) h
    go false = h
next_rises single p q w v (Hears_answer j x r here has reached is) m c h = h

own_rises : (single : Test) (p : Performs) (q : Computes) (w : Course) (came : Came single p q w) (m : ℕ) → Rises (copies_of single p q w came m).own
own_rises single p q w (Opens member shared) m = tt
own_rises single p q w (Then u v came next) m = next_rises single p q u v next m (copies_of single p q u came m) (own_rises single p q u came m)

-- ---- against the book

pub members_follow : MembersFollow
members_follow single p q w came m = record {
  replicated = λ o is. let f = k.follows (w.applied m) in (ap (λ (es : Copied). object_at es.objects o) h.shared ∙ sym (f.objects o is), apart o is (object_at c.own o) refl);
  others = λ o is. ap (λ (es : Copied). object_at es.objects o) h.shared ∙ copies_shared single p w.list (w.applied m) (came_output single p q w came) o is;
  own = λ o kept there.
      let u = h.only o kept there in
      let x = u.1 in
      let v = k.owns u.0 x u.2 in
      let held = h.keeps u.0 x u.2 u.4 in
      let same : Some x.kept ≡ Some kept = sym held.state ∙ ap (object_at c.own) u.3 ∙ there in
      ap (object_at (objects_of p q (book single p w.list w.aside))) (sym u.3) ∙ v.state ∙ same;
  rises = own_rises single p q w came m;
  processes = let f = k.follows (w.applied m) in f.processes ∙ sym (ap (λ (es : Copied). es.processes) h.shared);
  made = objects_counted single p q w came (w.applied m) ∙ sym (ap (λ (es : Copied). suc (made_objects es)) h.shared);
}
  where
    k : Kept single p q w.list w.aside w.owned w.entered w.applied w.runners
    k = let sound = came_sound single p q w came in sound.kept

    c : Copied
    c = copies_of single p q w came m

    h : Holds single p w.list w.owned m (w.applied m) c
    h = members_hold single p q w came m

    apart : (o : ObjectId) → single o ≡ false → (found : Option Instance) → object_at c.own o ≡ found → object_at c.own o ≡ None
    apart o is None e = e
    apart o is (Some kept) e =
        let u = h.only o kept e in
        let v = k.owns u.0 u.1 u.2 in
        let f : true ≡ false = sym v.is ∙ ap single u.3 ∙ is in
        absurd (cc f)
