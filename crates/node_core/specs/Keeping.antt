-- What a member's calls leave of its processes: all of them, in a copy; and whose task is out, in an event.
use Rattle.std.specs.Prelude.{◌≡◌, ◌<◌, ◌≤◌, ℕ, Some}
use Rattle.object_manager.specs.Viewed.{Viewed}
use Rattle.node_core.specs.Pieces.{resident_at}
use Rattle.node_core.specs.declared.node.Node.{Node}
use Rattle.node_parts.specs.declared.resident.Resident.{Resident}
use Rattle.node_parts.specs.declared.resident.Stage.TheVariants.{Computing}

-- all is equal in both but their members in the group
pub record IsCopy {P S : Type 0} (old new : Node P S) : Type 0 where
  pub copies : new.copies ≡ old.copies
  pub known : new.known.items ≡ old.known.items
  pub residents : new.residents.items ≡ old.residents.items
  pub held : new.held.items ≡ old.held.items
  pub given : new.given.items ≡ old.given.items
  pub choices : new.choices ≡ old.choices

-- a process with a task out is as it was; each of these first processes that computes stays so; and there are no fewer processes
pub record KeepsBelow {P S : Type 0} (number : ℕ) (old new : Node P S) : Type 0 where
  pub only : (i : ℕ) (s : Resident S) (view : Viewed) → resident_at new i ≡ Some s → s.out ≡ Some view → resident_at old i ≡ Some s
  pub stay : (i : ℕ) (s : Resident S) → i < number → resident_at old i ≡ Some s → s.stage ≡ Computing → resident_at new i ≡ Some s
  pub more : old.copies.processes ≤ new.copies.processes

-- that is so of all processes of which the copies know
abbrev pub KeepsTasks : {P S : Type 0} → Node P S → Node P S → Type 0
KeepsTasks old new = KeepsBelow old.copies.processes old new
