-- The course of a run: a list of messages that grows at its end, members that apply it, processes that submit and read, owners that
-- take calls on single copies, in any order of events.
--
-- It uses four facts of the group's agreement, which stand in its events: the list grows only at its end (`Orders`, `Forks`); what a
-- member applies as its entry n + 1 is the list's (`Applies`); an entry was submitted, and a message stands in the list once (the
-- premises of `Orders` and `Forks`). They hold across resets, since accepted entries are never moved. Nothing is said of packets, of
-- members that crash, or of what happens in the end.
use Rattle.std.specs.Prelude.{◌≡◌, ℕ, suc, ◌==◌, ◌≤◌, false, List, [], ◌∷◌, ◌++◌, length, Option, Some, None, slice_get, slice_set, option_map, if◌then◌else◌}
use Rattle.orca_base.specs.declared.ids.ObjectId.{ObjectId}
use Rattle.value_core.specs.Datum as datum
use Rattle.value_core.specs.declared.action.Line.{Line}
use Rattle.value_core.specs.declared.action.Action.{Action}
use Rattle.value_core.specs.declared.message.Message.{Message}
use Rattle.value_core.specs.Meaning.{Performs, Computes}
use Rattle.value_core.specs.History.{Process, forked, output_object}
use Rattle.guard_queue.specs.declared.queue.Suspended.{Suspended}
use Rattle.object_manager.specs.After.{opening_copies}
use Rattle.book_law.specs.Book.{Placed, copies_at}
use Rattle.book_law.specs.Passes.{Test, after_all, lines_after}
use Rattle.book_law.specs.Performed.{placed}
use Rattle.object_manager.specs.State.{message_of}
use Rattle.book_law.specs.Singles.{Single, after_on, lines_on, singles_by}
use Rattle.book_law.specs.Events.{Asks, Calls, In, Makes, Reads, Runner, Takes, answering, asking, handed, lines_by, newborn, told}

-- the ordered messages, at least as far as any member applied them; what was performed beside the list; the single copies, whose owners need
-- not have applied their makes yet; the messages that the list has or an owner took; how many entries each member applied; the
-- processes; and every message that was ever submitted
pub record Course : Type 0 where
  pub list : List Message
  pub aside : List Placed
  pub owned : List Single
  pub entered : List Message
  pub applied : ℕ → ℕ
  pub runners : ℕ → Option Runner
  pub asked : List Message

-- f, but v at k
abbrev pub with_at : {A : Type 0} → (ℕ → A) → ℕ → A → ℕ → A
with_at f k v x = if x == k then v else f x

-- process 0 on this member, with the text that begins
abbrev pub opening_course : Computes → ℕ → Course
opening_course q member = record {
  list = [];
  aside = [];
  owned = [];
  entered = [];
  applied = λ m. 0;
  runners = with_at (λ j. None) 0 (Some (newborn member q.main datum.none 0));
  asked = [];
}

-- process j, which is x, submits a message
abbrev pub submitted : Course → ℕ → Runner → Message → Course
submitted w j x m = record w {
  runners = with_at w.runners j (Some (asking m x));
  asked = m ∷ w.asked;
}

-- a message of a process of this member is the next entry: a make of a single object adds the copy that its maker's member owns
abbrev pub ordered : Test → Performs → Course → Message → ℕ → Course
ordered single p w x member = record w {
  list = w.list ++ x ∷ [];
  owned = w.owned ++ singles_by single p member (suc (length w.list)) x.action;
  entered = w.entered ++ x ∷ [];
}

-- a fork is the next entry: its process has the next number, on whichever member
abbrev pub forking : Test → Performs → Course → Message → Process → ℕ → Course
forking single p w x born member = record w {
  list = w.list ++ x ∷ [];
  entered = w.entered ++ x ∷ [];
  runners = with_at w.runners (after_all single p opening_copies w.list).processes
      (Some (newborn member born.text born.args (suc (length w.list))));
}

-- member m applies its next entry, and each of its processes receives what the entry has for it
abbrev pub applying : Test → Performs → Course → ℕ → Message → Course
applying single p w m y = record w {
  applied = with_at w.applied m (suc (w.applied m));
  runners = λ j. option_map
      (handed m (suc (w.applied m)) (lines_after single p (copies_at single p w.list (w.applied m)) y) j) (w.runners j);
}

-- process j, which is x, reads at place n
abbrev pub reading : Course → ℕ → Runner → ℕ → Line → Course
reading w j x n line = record w {
  aside = w.aside ++ record { place = n; line = line } ∷ [];
  runners = with_at w.runners j (Some (told n line x));
}

-- the owner of single copy i takes a call: what it and the calls suspended on the copy perform stands at the owner's number
abbrev pub taking : Performs → Course → ℕ → Single → Suspended → Course
taking p w i x call = record w {
  aside = w.aside ++ placed (w.applied x.owner) (lines_on p x call);
  owned = slice_set w.owned i (after_on p x call);
  entered = w.entered ++ message_of call ∷ [];
  runners = λ j. option_map (answering (w.applied x.owner) (lines_by j (lines_on p x call))) (w.runners j);
}

-- process j, which is x, receives the answer of a single copy
abbrev pub hearing : Course → ℕ → Runner → Placed → Course
hearing w j x r = record w { runners = with_at w.runners j (Some (told r.place r.line x)) }

-- the group orders no call on a single object, and a single object is made once
pub record MayOrder (single : Test) (owned : List Single) (a : Action) : Type 0 where
  pub shared : (o : ObjectId) → Calls a o → single o ≡ false
  pub unmade : (o : ObjectId) → Makes a o → (i : ℕ) (x : Single) → slice_get owned i ≡ Some x → x.object ≡ o → ⊥

-- what may happen next
pub data Next (single : Test) (p : Performs) (q : Computes) (w v : Course) : Type 0 where
  -- a process without a message submits its next action
  Submits :
      (j : ℕ) (x : Runner) (m : Message) → w.runners j ≡ Some x → x.message ≡ None → Asks q j x m → v ≡ submitted w j x m →
      Next single p q w v
  -- a message that was submitted, that the list lacks, and that is no fork, is the next entry
  Orders :
      (x : Message) (r : Runner) → w.runners x.process.0 ≡ Some r → In x w.asked → (In x w.list → ⊥) →
      MayOrder single w.owned x.action → forked x.action ≡ [] → v ≡ ordered single p w x r.member → Next single p q w v
  -- so is a fork
  Forks :
      (x : Message) (born : Process) (member : ℕ) → In x w.asked → (In x w.list → ⊥) → forked x.action ≡ born ∷ [] →
      v ≡ forking single p w x born member → Next single p q w v
  -- a member applies its next entry
  Applies : (m : ℕ) (y : Message) → slice_get w.list (w.applied m) ≡ Some y → v ≡ applying single p w m y → Next single p q w v
  -- a process reads
  Reads_at :
      (j : ℕ) (x : Runner) (n : ℕ) (line : Line) → w.runners j ≡ Some x → Reads single p q w.list w.applied j x n line →
      v ≡ reading w j x n line → Next single p q w v
  -- an owner takes a call
  Takes_call :
      (i : ℕ) (x : Single) (r : Runner) (call : Suspended) → Takes w.owned w.entered w.applied w.runners i x r call →
      v ≡ taking p w i x call → Next single p q w v
  -- an answer comes, where its member applied as many entries as the answer's place says
  Hears_answer :
      (j : ℕ) (x : Runner) (r : Placed) → w.runners j ≡ Some x → x.answer ≡ Some r → r.place ≤ w.applied x.member →
      v ≡ hearing w j x r → Next single p q w v

-- a run came to this; the output object is replicated
pub data Came (single : Test) (p : Performs) (q : Computes) : Course → Type 0 where
  Opens : (member : ℕ) → single output_object ≡ false → Came single p q (opening_course q member)
  Then : (w v : Course) → Came single p q w → Next single p q w v → Came single p q v
