-- What ordered messages do to one member's copies (Bal, Kaashoek, Tanenbaum 1992, section 3; docs/RUNTIME.md,
-- One member's copies).
use Rattle.std.specs.Prelude.{ℕ, ◌+◌, List, [], ◌∷◌, ◌++◌, length}
use Rattle.orca_base.specs.declared.ids.KindNo.{KindNo}
use Rattle.orca_base.specs.declared.ids.OpNo.{OpNo}
use Rattle.orca_base.specs.declared.ids.ObjectId.{ObjectId}
use Rattle.value_core.specs.Datum.{Data}
use Rattle.value_core.specs.Datum as datum
use Rattle.value_core.specs.declared.action.Line.{Line}
use Rattle.value_core.specs.declared.message.Message.{Message}
use Rattle.value_core.specs.declared.action.Action.{Action}
use Rattle.value_core.specs.declared.action.Action.TheVariants as action
use Rattle.value_core.specs.declared.action.Reply.{Reply}
use Rattle.value_core.specs.declared.action.Reply.TheVariants as answer
use Rattle.value_core.specs.declared.meaning.Making.{Making}
use Rattle.value_core.specs.declared.meaning.Making.TheVariants as making
use Rattle.value_core.specs.declared.meaning.Tried.{Tried}
use Rattle.value_core.specs.declared.meaning.Tried.TheVariants as tried
use Rattle.value_core.specs.Fits.{Kinds}
use Rattle.value_core.specs.Meaning.{Performs}
use Rattle.value_core.specs.History.{Objects, after_making, forked, output_kind, output_object}
use Rattle.guard_queue.specs.declared.queue.Suspended.{Suspended}
use Rattle.guard_queue.specs.Settles.{Settling, answered, objects_with, settled, tried_in}

-- one member's copies: the replicated objects, the suspended calls on them, the number of processes, and how many entries were
-- applied
pub record Copied : Type 0 where
  pub objects : Objects
  pub queue : List Suspended
  pub processes : ℕ
  pub applied : ℕ
  -- the single objects that were made, with their types; those that are kept here, and the calls suspended on these
  pub singles : Kinds
  pub own : Objects
  pub waits : List Suspended

-- before the first entry: the output object, and process 0
abbrev pub opening_copies : Copied
opening_copies = record {
  objects = (output_object, record { kind = output_kind; state = datum.none }) ∷ [];
  queue = [];
  processes = 1;
  applied = 0;
  singles = [];
  own = [];
  waits = [];
}

-- what a making answers
abbrev pub making_reply : Making → Reply
making_reply (making.Made state) = answer.Done
making_reply (making.Broke fault) = answer.Broke fault

-- the line of a make or a fork, which have no guards
abbrev pub line_of : Message → Reply → Line
line_of message reply = record { process = message.process; call = message.call; action = message.action; guard = 0; reply = reply }

-- the message's call, as it waits where it is blocked
abbrev pub as_call : Message → KindNo → OpNo → ObjectId → Data → Suspended
as_call message kind op object args = record {
  process = message.process;
  call = message.call;
  kind = kind;
  op = op;
  object = object;
  args = args;
}

-- a call on objects, by what its try gave: blocked it joins the queue, else it is performed or faults
abbrev pub called_in : Objects → List Suspended → Suspended → Tried → Settling
called_in objects queue call tried.Blocked = record { objects = objects; queue = queue ++ call ∷ []; lines = [] }
called_in objects queue call (tried.Did guard state reply) =
    record {
      objects = objects_with objects call (tried.Did guard state reply);
      queue = queue;
      lines = answered call
          (tried.Did guard state reply) ∷ [];
    }
called_in objects queue call (tried.Broke guard fault) =
    record {
      objects = objects_with objects call (tried.Broke guard fault);
      queue = queue;
      lines = answered call
          (tried.Broke guard fault) ∷ [];
    }

abbrev pub called : Copied → Suspended → Tried → Settling
called c call t = called_in c.objects c.queue call t

-- what the message itself does: a make adds the object, or none where it faults; a call is tried
abbrev pub acted_by : Performs → Copied → Message → Action → Settling
acted_by p c message (action.Make kind object) =
    record {
      objects = after_making c.objects kind object (p.made kind);
      queue = c.queue;
      lines = line_of message
          (making_reply (p.made kind)) ∷ [];
    }
acted_by p c message (action.Call kind op object args) =
    called c (as_call message kind op object args) (tried_in p c.objects (as_call message kind op object args))
acted_by p c message (action.Fork process args place_on) =
    record { objects = c.objects; queue = c.queue; lines = line_of message answer.Done ∷ [] }
acted_by p c message action.Ended = record { objects = c.objects; queue = c.queue; lines = [] }
acted_by p c message (action.Faulted fault) = record { objects = c.objects; queue = c.queue; lines = [] }

abbrev pub acted : Performs → Copied → Message → Settling
acted p c message = acted_by p c message message.action

-- then the queue settles
abbrev pub settled_after : Performs → Settling → Settling
settled_after p s = settled p s.objects s.queue

-- the copies after one message: a fork adds one to the number of processes
abbrev pub after : Performs → Copied → Message → Copied
after p c message = record c {
  objects = (settled_after p (acted p c message)).objects;
  queue = (settled_after p (acted p c message)).queue;
  processes = c.processes + length (forked message.action);
  applied = c.applied + 1;
}

-- the lines of one entry, in the order in which they ran
abbrev pub lines_after : Performs → Copied → Message → List Line
lines_after p c message = (acted p c message).lines ++ (settled_after p (acted p c message)).lines

-- the copies after messages
abbrev pub after_all : Performs → Copied → List Message → Copied
after_all p c [] = c
after_all p c (message ∷ messages) = after_all p (after p c message) messages
