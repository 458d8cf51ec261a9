-- What is promised of every run: its kept book is legal, its replies and copies are the book's, and who waits at its end is stuck.
use Rattle.std.specs.Prelude.{◌≡◌, ◌≤◌, ◌⊎◌, ◌++◌, ℕ, true, false, List, [], None, Some, length}
use Rattle.orca_base.specs.declared.ids.ObjectId.{ObjectId}
use Rattle.orca_base.specs.declared.ids.ProcessNo.{ProcessNo}
use Rattle.value_core.specs.History.{IsStuck, Legal, object_at, objects_of, replies_of}
use Rattle.value_core.specs.Meaning.{Computes, Performs}
use Rattle.value_core.specs.declared.action.Instance.{Instance}
use Rattle.value_core.specs.declared.action.Line.{Line}
use Rattle.value_core.specs.declared.action.Reply.{Reply}
use Rattle.value_core.specs.declared.action.Action.{Action}
use Rattle.guard_queue.specs.declared.queue.Suspended.{Suspended}
use Rattle.book_law.specs.Book.{copies_at, up_to}
use Rattle.book_law.specs.declared.placing.Placed.{Placed}
use Rattle.book_law.specs.Events.{In}
use Rattle.book_law.specs.Promise.{AtMostOneMore}
use Rattle.world_rules.specs.declared.event.Step.{Step}
use Rattle.world_rules.specs.Frame.{AreSettings, Frame}
use Rattle.world_rules.specs.Played.{Played, is_over}
use Rattle.world_rules.specs.Played.Stage.{Reading}
use Rattle.world_rules.specs.Processes.{owner_in}
use Rattle.world_rules.specs.Standings.{is_over_run}
use Rattle.world_rules.specs.Steps.{Replays, objects_after}
use Rattle.world_rules.specs.Worlds.{Book, World, agreed, home_of, played_in, processes_of, singles_in}
use Rattle.world_course.specs.Errands.{AsksFor}
use Rattle.world_book.specs.Processes.{AreOfBook}

-- the lines of the book up to this place
abbrev pub book_up_to : Frame → World → ℕ → List Line
book_up_to f w n = up_to (singles_in f w) f.performs (agreed f w) w.aside n

-- up to what member m applied
abbrev pub applied_book : Frame → World → ℕ → List Line
applied_book f w m = book_up_to f w (w.nodes m).member.applied

-- a process's replies begin these, of which it lacks one at most: the reply to a call on a single object, whose owner it asks
pub record IsReceived (f : Frame) (w : World) (r : Played) (replies : List Reply) : Type 0 where
  pub more : List Reply
  pub is : replies ≡ r.replies ++ more
  pub few : length more ≤ 1
  pub asks : (more ≡ []) ⊎ ((o : ObjectId) × AsksFor r.stage o × (singles_in f w o ≡ true))

-- the object is single, its maker's member is this one, and the whole book left it so; `made`, so did the book up to what this member
-- applied, which has its make
pub record IsOwned (f : Frame) (w : World) (m : ℕ) (o : ObjectId) (kept : Instance) : Type 0 where
  pub single : singles_in f w o ≡ true
  pub owner : owner_in (processes_of f w) o ≡ m
  pub left : object_at (objects_of f.performs f.computes (Book f w)) o ≡ Some kept
  pub made : object_at (objects_of f.performs f.computes (applied_book f w m)) o ≡ Some kept

-- a member's copies of replicated objects are what the book up to what it applied left of them, and it has none of single ones; beside
-- them it keeps, of each single object that it owns and whose make it applied, what the whole book left of it, and nothing else. `whole`,
-- without single objects the copies are those objects in their order
pub record HasCopies (f : Frame) (w : World) (m : ℕ) : Type 0 where
  pub replicated :
      (o : ObjectId) → singles_in f w o ≡ false →
      object_at (w.nodes m).copies.objects o ≡ object_at (objects_of f.performs f.computes (applied_book f w m)) o
  pub apart : (o : ObjectId) → singles_in f w o ≡ true → object_at (w.nodes m).copies.objects o ≡ None
  pub own : (o : ObjectId) (kept : Instance) → object_at (w.nodes m).copies.own o ≡ Some kept → IsOwned f w m o kept
  pub owned :
      (o : ObjectId) (was : Instance) → singles_in f w o ≡ true → owner_in (processes_of f w) o ≡ m →
      object_at (objects_of f.performs f.computes (applied_book f w m)) o ≡ Some was →
      (kept : Instance) × (object_at (w.nodes m).copies.own o ≡ Some kept)
  pub whole :
      ((o : ObjectId) → singles_in f w o ≡ false) → (w.nodes m).copies.objects ≡ objects_of f.performs f.computes (applied_book f w m)

-- the book is a history of the program; a process's replies are the book's up to what its member applied, but for one that is on its
-- way, and the whole book has at most one more for it; the processes that exist are the book's; and each member's copies are what the
-- book leaves. `shared`, but for the single objects that it keeps they are, whole, those after as many entries of the list as it applied;
-- `views`, what a burst sees at a place are the objects after so many entries; `view`, at the last place these are the copies' own;
-- `beside`, what stands beside the list has a place in it, and is in the book
pub record IsKept (f : Frame) (w : World) : Type 0 where
  pub legal : Legal f.performs f.computes (Book f w)
  pub received :
      (m i : ℕ) (r : Played) → (w.nodes m).played i ≡ Some r →
      IsReceived f w r (replies_of f.performs f.computes (applied_book f w m) i)
  pub one_short :
      (m i : ℕ) (r : Played) → (w.nodes m).played i ≡ Some r →
      AtMostOneMore r.replies (replies_of f.performs f.computes (Book f w) i)
  pub processes : AreOfBook f w
  pub copies : (m : ℕ) → HasCopies f w m
  pub shared :
      (m : ℕ) →
      (w.nodes m).copies ≡ record (copies_at (singles_in f w) f.performs (agreed f w) (w.nodes m).member.applied) {
        own = (w.nodes m).copies.own;
        waits = (w.nodes m).copies.waits;
      }
  pub views :
      (m n : ℕ) → n ≤ (w.nodes m).member.applied →
      objects_after f (w.nodes m) n ≡ (copies_at (singles_in f w) f.performs (agreed f w) n).objects
  pub view : (m : ℕ) → objects_after f (w.nodes m) (w.nodes m).copies.applied ≡ (w.nodes m).copies.objects
  pub beside : (r : Placed) → In r w.aside → (r.place ≤ length (agreed f w)) × In r.line (Book f w)

-- where member m applied the whole list: a process whose call is suspended on its copies is stuck, and so is one here that waits with a
-- read
pub record IsStuckAt (f : Frame) (w : World) (m : ℕ) : Type 0 where
  pub suspended : (call : Suspended) → In call (w.nodes m).copies.queue → IsStuck f.performs f.computes (Book f w) call.process
  pub reads :
      (i : ProcessNo) (r : Played) (act : Action) → (w.nodes m).played i.0 ≡ Some r → r.stage ≡ Reading act →
      IsStuck f.performs f.computes (Book f w) i

abbrev pub WaitersAreStuck : Frame → World → Type 0
WaitersAreStuck f w = (m : ℕ) → (w.nodes m).member.applied ≡ length (agreed f w) → IsStuckAt f w m

-- at any moment a process is stuck whose call is suspended on a single object
abbrev pub OwnersWaitersAreStuck : Frame → World → Type 0
OwnersWaitersAreStuck f w =
    (m : ℕ) (call : Suspended) → In call (w.nodes m).copies.waits → IsStuck f.performs f.computes (Book f w) call.process

-- so where the run is over, each process of a living member is stuck that hasn't ended or faulted
abbrev pub LivingAreStuck : Frame → World → Type 0
LivingAreStuck f w =
    is_over_run f w ≡ true → (i : ProcessNo) (r : Played) → played_in f w i.0 ≡ Some r → w.lives (home_of f w i.0) ≡ true →
    is_over r.stage ≡ false → IsStuck f.performs f.computes (Book f w) i

-- who waits at the end
pub record AllStuck (f : Frame) (w : World) : Type 0 where
  pub waiters : WaitersAreStuck f w
  pub singles : OwnersWaitersAreStuck f w
  pub living : LivingAreStuck f w

-- so it is in every run of a program with these meanings, by settings that a run may have
abbrev pub RunsAreKept : Performs → Computes → Type 0
RunsAreKept p q =
    (f : Frame) → f.performs ≡ p → f.computes ≡ q → AreSettings f.settings → (steps : List Step) (w : World) →
    Replays f steps w → IsKept f w

abbrev pub RunsEndStuck : Performs → Computes → Type 0
RunsEndStuck p q =
    (f : Frame) → f.performs ≡ p → f.computes ≡ q → AreSettings f.settings → (steps : List Step) (w : World) →
    Replays f steps w → AllStuck f w

-- a list of steps leads to one world at most
abbrev pub ReplaysAreOne : Computes → Type 0
ReplaysAreOne q =
    (f : Frame) → f.computes ≡ q → (steps : List Step) (w v : World) → Replays f steps w → Replays f steps v → w ≡ v
