-- Where a phrase is evaluated: the code of its program, the names of its body, and the variables of the loops that it stands in.
use Rattle.std.specs.Prelude.{◌≡◌, ◌++◌, ℕ, List, map}
use Rattle.std.specs.Borrow.{Bor}
use Rattle.type_rules.specs.Scopes.{Local, Scope}
use Rattle.program_bodies.specs.declared.site.Site.{Site}
use Rattle.program_bodies.specs.Bodies.{HasLocals}
use Rattle.program_bodies.specs.Codes.{IsCode, loop_local}

abbrev pub lent_texts : List (Bor (List ℕ)) → List (List ℕ)
lent_texts ns = map (λ n. n.now) ns

-- this is a scope of the definitions: its names are the variables of the loops, the innermost first, and then those of the body
pub record IsSite (s : Site) (w : Scope) : Type 0 where
  pub code : IsCode w.program s.code.now
  pub home : w.home ≡ s.body.now.home.now
  pub owner : w.owner ≡ s.body.now.owner
  pub in_guard : w.in_guard ≡ s.in_guard
  pub own : List Local
  pub locals : w.locals ≡ map loop_local (lent_texts s.loops.now) ++ own
  pub names : HasLocals s.body.now.names own
