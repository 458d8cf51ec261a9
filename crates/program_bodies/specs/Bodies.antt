-- The names of a body: what each is, its place, and the types of all by place. Where two are the same, the first counts.
use Rattle.std.specs.Prelude.{◌≡◌, ℕ, Bool, List, map, position, bytes_eq}
use Rattle.type_rules.specs.Scopes.{Local, Scope}
use Rattle.type_tables.specs.Entries.{entry}
use Rattle.type_decls.specs.Bodies.{AreLocals}
use Rattle.program_bodies.specs.declared.bodies.BodyNames.{BodyNames}
use Rattle.program_bodies.specs.declared.bodies.Body.{Body}

abbrev pub bears : List ℕ → Local → Bool
bears n l = bytes_eq l.name n

pub record HasLocals (b : BodyNames) (ls : List Local) : Type 0 where
  pub locals : AreLocals b.locals ls
  pub places : (n : List ℕ) → entry b.places n ≡ position (bears n) ls
  pub types : b.types.items ≡ map (λ l. l.type) ls

-- this is the body of a scope
pub record IsBody (b : Body) (w : Scope) : Type 0 where
  pub home : w.home ≡ b.home.now
  pub owner : w.owner ≡ b.owner
  pub names : HasLocals b.names w.locals
