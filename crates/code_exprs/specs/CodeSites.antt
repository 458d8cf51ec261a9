-- Where code is emitted: the site of the phrase, and the slots of its names.
use Rattle.std.specs.Prelude.{◌≡◌, length}
use Rattle.type_rules.specs.Scopes.{Scope}
use Rattle.program_bodies.specs.Sites.{IsSite}
use Rattle.code_rules.specs.Layouts.{Layout, top}
use Rattle.code_exprs.specs.declared.code_site.CodeSite.{CodeSite}

-- this is a scope with a layout
pub record IsCodeSite (d : CodeSite) (w : Scope) (l : Layout) : Type 0 where
  pub site : IsSite d.site w
  pub names : l.names ≡ length d.site.body.now.names.types.items
  pub depth : l.depth ≡ length d.site.loops.now
  pub beyond : top l ≡ d.beyond
