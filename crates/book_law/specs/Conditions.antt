-- The conditions of the calls that a run makes on each member's copies are met: of `apply` and `pass_make` for its next entry, and of
-- `call_single` for a call that it takes.
use Rattle.std.specs.Prelude.{◌≡◌, ℕ, Some, slice_get}
use Rattle.value_core.specs.declared.message.Message.{Message}
use Rattle.value_core.specs.Meaning.{Performs, Computes}
use Rattle.guard_queue.specs.declared.queue.Suspended.{Suspended}
use Rattle.object_manager.specs.After.{Copied}
use Rattle.object_manager.specs.Applies.{Applies, AppliesSingle, CopiesBlocked, CopiesFit}
use Rattle.book_law.specs.Passes.{Test}
use Rattle.object_manager.specs.State.{message_of}
use Rattle.book_law.specs.Singles.{Single}
use Rattle.book_law.specs.Course.{Came, Course}
use Rattle.book_law.specs.Events.{Runner, Takes}
use Rattle.book_law.specs.Fitness.{ArgsFit, StateFits}
use Rattle.book_law.specs.Members.{copies_of}

-- these are member m's copies: they fit, each suspended call is blocked, the next entry may be applied or passed, and a call that the
-- member takes may be tried
pub record MemberMeets (p : Performs) (fits_state : StateFits) (fits_args : ArgsFit) (w : Course) (m : ℕ) (c : Copied) : Type 0 where
  pub fits : CopiesFit fits_state fits_args c
  pub blocked : CopiesBlocked p c
  pub applies : (y : Message) → slice_get w.list (w.applied m) ≡ Some y → Applies fits_args c y.action
  pub takes :
      (i : ℕ) (x : Single) (r : Runner) (call : Suspended) → Takes w.owned w.entered w.applied w.runners i x r call → x.owner ≡ m →
      AppliesSingle fits_args c (message_of call).action

-- so it is of each member in every run
abbrev pub MembersMeet : Performs → Computes → StateFits → ArgsFit → Type 0
MembersMeet p q fits_state fits_args =
    (single : Test) (w : Course) (came : Came single p q w) (m : ℕ) →
    MemberMeets p fits_state fits_args w m (copies_of single p q w came m)
