-- Where code stands: the tables of its program, and what it sees of its body.
use Rattle.std.specs.Prelude.{◌≡◌, ℕ, Bool, List, [], ◌∷◌, if◌then◌else◌, bytes_eq, option_map, slice_get, Option, Some, None}
use Rattle.std.specs.List.{list_any}
use Rattle.std.specs.Borrow.{Bor}
use Rattle.orca_tree.specs.declared.tree.Name.{Name}
use Rattle.type_rules.specs.declared.types.Base.TheVariants.{Integer}
use Rattle.type_rules.specs.declared.names.LocalRole.TheVariants.{LoopVariable}
use Rattle.type_rules.specs.Types.{plain}
use Rattle.type_rules.specs.declared.signature.Formal.{Formal}
use Rattle.type_rules.specs.Scopes as rules
use Rattle.type_tables.specs.Entries.{entry}
use Rattle.type_tables.specs.Tables.{AreTables}
use Rattle.type_exprs.specs.declared.scope.Local.{Local}
use Rattle.type_exprs.specs.declared.scope.Scope.{Scope}

-- a name of a body, by what is kept of it
abbrev pub local_as : List ℕ → Local → rules.Local
local_as n l = record { name = n; role = l.role; type = l.kind }

abbrev pub lent_local : List ℕ → Option (Bor Local) → Option rules.Local
lent_local n o = option_map (λ l. local_as n l.now) o

abbrev pub first_of : Option Formal → List Formal
first_of None = []
first_of (Some f) = f ∷ []

-- the parameter at a place, if there is one
abbrev pub at_place : List Formal → ℕ → List Formal
at_place fs i = first_of (slice_get fs i)

-- the name that is lent, if there is one
abbrev pub one_lent : Option (Bor Name) → List Name
one_lent None = []
one_lent (Some n) = n.now ∷ []

abbrev pub counts : List (Bor (List ℕ)) → List ℕ → Bool
counts loops n = list_any (λ k. bytes_eq k.now n) loops

-- the variables of the loops that are open hide the names of the body
abbrev pub local_in : Scope → List ℕ → Option rules.Local
local_in s n = if counts s.loops.now n then Some (local_as n s.counter.now) else option_map (local_as n) (entry s.names.now n)

-- this is a scope of the definitions
pub record IsScope (s : Scope) (w : rules.Scope) : Type 0 where
  pub tables : AreTables w.program s.tables
  pub home : w.home ≡ s.home.now
  pub counter : (n : List ℕ) → local_as n s.counter.now ≡ record { name = n; role = LoopVariable; type = Some (plain Integer) }
  pub locals : (n : List ℕ) → local_in s n ≡ rules.local w n
  pub owner : w.owner ≡ s.owner
  pub in_guard : w.in_guard ≡ s.in_guard
