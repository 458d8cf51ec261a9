-- Where a phrase of an operation stands: what hides the object's fields there, and what names stand for.
use Rattle.std.specs.Prelude.{◌≡◌, ℕ, Bool, not, ◌&&◌, ◌||◌, List, map, bytes_eq}
use Rattle.std.specs.List.{list_any}
use Rattle.orca_tree.specs.declared.tree.Name.{Name}
use Rattle.orca_syntax.specs.Shown.{operation, variables}
use Rattle.orca_syntax.specs.Syntax.{Operation, TypedName, Variables}
use Rattle.type_rules.specs.Scopes.{Scope}
use Rattle.type_forms.specs.Indexed.{Indexes}
use Rattle.meaning_rules.specs.Classes.{names_field}
use Rattle.access_analysis.specs.declared.site.Site.{Site}
use Rattle.access_analysis.specs.Loops.{variables_of}

-- parameters, and variables or fields, have a name
abbrev pub are_given : List TypedName → List ℕ → Bool
are_given ts n = list_any (λ t. bytes_eq t.name.text n) ts

abbrev pub declare : List Variables → List ℕ → Bool
declare vs n = list_any (λ v. list_any (λ m. bytes_eq m.text n) v.names) vs

-- the variables of open loops and the names of the operation hide those of the fields
abbrev pub hide : List (List ℕ) → Operation → List ℕ → Bool
hide loops o n = list_any (λ m. bytes_eq m n) loops || (are_given o.head.parameters n || declare o.variables n)

-- this is a scope of the definitions, as far as fields and functions go
pub record IsSite (s : Site) (w : Scope) : Type 0 where
  pub names : Indexes s.index.now w.program
  pub home : w.home ≡ s.home.now
  pub fields : (n : Name) → names_field w n ≡
      (not (hide (variables_of s.loops.now) (operation s.operation.now) n.text) && declare (map variables s.fields.now) n.text)
