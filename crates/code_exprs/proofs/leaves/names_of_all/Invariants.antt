use Rattle.std.proofs.Common.{◌≡◌, ◌++◌, drop}
use Rattle.orca_syntax.specs.Shown.{exprs}
use Rattle.type_rules.specs.Scopes.{Scope}
use Rattle.code_rules.specs.Phrases.{all_names}
use Rattle.program_bodies.specs.Sites.{IsSite}
use Rattle.emitted_code.specs.Views.{texts_of}
use Rattle.code_exprs.proofs.leaves.names_of_all.Given as goal

abbrev pub invariant-given : goal.invariant-given
invariant-given l = (w : Scope) → IsSite l.site w →
    texts_of l.all.items ++ all_names w (exprs (drop l.e-index l.given)) ≡ all_names w (exprs l.given)
