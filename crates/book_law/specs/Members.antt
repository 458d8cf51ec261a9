-- Each member's copies in a run, as its calls make them: `apply` or `pass_make` for an entry, `call_single` for a call that it takes on a
-- single copy (docs/RUNTIME.md, One member's copies).
use Rattle.std.specs.Prelude.{◌≡◌, ℕ, suc, ◌≤◌, ◌==◌, Bool, true, false, List, [], length, Option, None, Some, slice_get, if◌then◌else◌}
use Rattle.orca_base.specs.declared.ids.ObjectId.{ObjectId}
use Rattle.value_core.specs.declared.action.Instance.{Instance}
use Rattle.value_core.specs.declared.message.Message.{Message}
use Rattle.value_core.specs.Meaning.{Performs, Computes}
use Rattle.value_core.specs.History.{object_at, objects_of, processes_of}
use Rattle.guard_queue.specs.Apart.{calls_on}
use Rattle.guard_queue.specs.Settles.{AllBlocked}
use Rattle.guard_queue.specs.Shown.{Rises}
use Rattle.object_manager.specs.After.{Copied, after as after_applied, opening_copies}
use Rattle.object_manager.specs.Limits.{made_objects}
use Rattle.object_manager.specs.Singles.{after_passed, after_single}
use Rattle.book_law.specs.Passes.{Test, is_passed}
use Rattle.object_manager.specs.State.{message_of}
use Rattle.book_law.specs.Singles.{Single}
use Rattle.book_law.specs.Owners.{Keeps}
use Rattle.book_law.specs.Book.{book, copies_at, up_to}
use Rattle.book_law.specs.Course.{Came, Course, Next}
use Rattle.book_law.specs.Course.Next.{Submits, Orders, Forks, Applies, Reads_at, Takes_call, Hears_answer}
use Rattle.book_law.specs.Course.Came.{Opens, Then}
use Rattle.book_law.specs.Events.{Runner}

-- the process runs at this member
abbrev pub runs_at : ℕ → Option Runner → Bool
runs_at m None = false
runs_at m (Some x) = x.member == m

-- a member's copies after an entry: a make of a single object passes, and its object is kept where its process runs here
abbrev pub after_entry : Test → Performs → Copied → Message → Bool → Copied
after_entry single p c y keeps = if is_passed single y.action then after_passed p keeps c y else after_applied p c y

-- member m's copies after an event
abbrev pub copies_by : (single : Test) (p : Performs) (q : Computes) (w v : Course) → Next single p q w v → ℕ → Copied → Copied
copies_by single p q w v (Submits j x y here free asks is) m c = c
copies_by single p q w v (Orders x r here was new may plain is) m c = c
copies_by single p q w v (Forks x born member was new forks is) m c = c
copies_by single p q w v (Applies k y here is) m c = if k == m then after_entry single p c y (runs_at m (w.runners y.process.0)) else c
copies_by single p q w v (Reads_at j x n line here reads is) m c = c
copies_by single p q w v (Takes_call i x r call takes is) m c = if x.owner == m then after_single p c (message_of call) else c
copies_by single p q w v (Hears_answer j x r here has reached is) m c = c

-- and in a run
abbrev pub copies_of : (single : Test) (p : Performs) (q : Computes) (w : Course) → Came single p q w → ℕ → Copied
copies_of single p q w (Opens member shared) m = opening_copies
copies_of single p q w (Then u v came next) m = copies_by single p q u v next m (copies_of single p q u came m)

-- the single copy is this member's, which applied n entries: the member owns it, and applied its make
abbrev pub IsHere : ℕ → ℕ → Single → Type 0
IsHere m n x = (x.owner ≡ m) × (x.place ≤ n)

-- the copies of member m, which applied n entries: those of the list, and beside them exactly the single copies that it owns and whose
-- makes it applied, with the calls suspended on these, each of which is blocked
pub record Holds (single : Test) (p : Performs) (list : List Message) (owned : List Single) (m n : ℕ) (c : Copied) : Type 0 where
  pub shared : c ≡ record (copies_at single p list n) { own = c.own; waits = c.waits }
  pub keeps : (i : ℕ) (x : Single) → slice_get owned i ≡ Some x → IsHere m n x → Keeps c x
  pub only :
      (o : ObjectId) (kept : Instance) → object_at c.own o ≡ Some kept →
      (i : ℕ) × (x : Single) × (slice_get owned i ≡ Some x) × (x.object ≡ o) × IsHere m n x
  pub idle : (o : ObjectId) → object_at c.own o ≡ None → calls_on o c.waits ≡ []
  pub blocked : AllBlocked p c.own c.waits

-- so it is of each member in every run
abbrev pub MembersHold : Type 0
MembersHold =
    (single : Test) (p : Performs) (q : Computes) (w : Course) (came : Came single p q w) (m : ℕ) →
    Holds single p w.list w.owned m (w.applied m) (copies_of single p q w came m)

-- these copies of member m against the book: each replicated object is what the book up to m's number left of it, and isn't kept
-- beside; no single object is among them; each single object that is kept beside is what the whole book left of it, and those stand
-- in the order of their ids; and the numbers of processes and of objects are those of the book up to m's number
pub record AreOfBook (single : Test) (p : Performs) (q : Computes) (w : Course) (m : ℕ) (c : Copied) : Type 0 where
  pub replicated :
      (o : ObjectId) → single o ≡ false →
      (object_at c.objects o ≡ object_at (objects_of p q (up_to single p w.list w.aside (w.applied m))) o)
      × (object_at c.own o ≡ None)
  pub others : (o : ObjectId) → single o ≡ true → object_at c.objects o ≡ None
  pub own :
      (o : ObjectId) (kept : Instance) → object_at c.own o ≡ Some kept →
      object_at (objects_of p q (book single p w.list w.aside)) o ≡ Some kept
  pub rises : Rises c.own
  pub processes : length (processes_of p q (up_to single p w.list w.aside (w.applied m))) ≡ c.processes
  pub made : length (objects_of p q (up_to single p w.list w.aside (w.applied m))) ≡ suc (made_objects c)

-- so it is of each member in every run
abbrev pub MembersFollow : Type 0
MembersFollow =
    (single : Test) (p : Performs) (q : Computes) (w : Course) (came : Came single p q w) (m : ℕ) →
    AreOfBook single p q w m (copies_of single p q w came m)
