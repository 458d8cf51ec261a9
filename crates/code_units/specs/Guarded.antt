-- A guard with its body, and where both are seen.
use Rattle.std.specs.Prelude.{◌≡◌, ◌+◌, ◌∷◌, ◌++◌, length, true, false}
use Rattle.type_rules.specs.Scopes.{Scope}
use Rattle.code_rules.specs.Instructions.{Guard}
use Rattle.code_rules.specs.Pieces.{Piece}
use Rattle.program_bodies.specs.declared.code.Code.{Code}
use Rattle.program_bodies.specs.declared.bodies.Body.{Body}
use Rattle.program_bodies.specs.Bodies.{IsBody}
use Rattle.program_bodies.specs.Codes.{IsCode}

-- `test; guard others; body; others:`
abbrev pub guarded : Piece → Piece → Piece
guarded test body pc =
    let begins = pc + length (test pc) + 1 in
    test pc ++ (Guard (begins + length (body begins)) ∷ body begins)

-- a body sees this scope in its guards, and this one in their bodies
pub record SeesGuards (c : Code) (b : Body) (in_guard v : Scope) : Type 0 where
  pub guard_code : IsCode in_guard.program c
  pub guard_body : IsBody b in_guard
  pub guards : in_guard.in_guard ≡ true
  pub code : IsCode v.program c
  pub body : IsBody b v
  pub outside : v.in_guard ≡ false
