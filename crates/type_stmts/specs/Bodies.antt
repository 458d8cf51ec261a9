-- Where a statement stands: the scope of its expressions, and what its body gives.
use Rattle.std.specs.Prelude.{◌≡◌, Bool, true, false, not, List, [], ◌∷◌, if◌then◌else◌, IsTrue, Option, Some, None}
use Rattle.std.specs.List.{list_all}
use Rattle.type_rules.specs.Scopes as rules
use Rattle.type_rules.specs.Scopes.{Local, is_field}
use Rattle.type_exprs.specs.Scoped.{IsScope}
use Rattle.type_stmts.specs.declared.bodies.BodyScope.{BodyScope}

abbrev pub all_fields : List Local → Bool
all_fields ls = list_all (λ l. is_field l.role) ls

-- the fields of an object stand behind the names of the body
abbrev pub fields_last : List Local → Bool
fields_last [] = true
fields_last (l ∷ ls) = if is_field l.role then all_fields ls else fields_last ls

-- this is a scope of the definitions
pub record IsBody (b : BodyScope) (w : rules.Scope) : Type 0 where
  pub scope : IsScope b.scope w
  pub result : w.result ≡ b.gives.now
  pub order : IsTrue (fields_last w.locals)

-- the same in a guard, or behind one
abbrev pub guarding : BodyScope → Bool → BodyScope
guarding b in_guard = record b { scope = record b.scope { in_guard = in_guard } }

-- what a name is of the body, by what it is first
abbrev pub is_own_local : Option Local → Bool
is_own_local None = false
is_own_local (Some l) = not (is_field l.role)

abbrev pub is_field_local : Option Local → Bool
is_field_local None = false
is_field_local (Some l) = is_field l.role
