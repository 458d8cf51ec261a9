use Rattle.std.proofs.Common.{ℕ, List, ◌∷◌, ◌++◌, map, sym, ap, ◌∙◌}
use Rattle.type_rules.specs.Scopes.{Local}
use Rattle.program_bodies.specs.Codes.{loop_local}
use Rattle.program_bodies.proofs.site.Site.in_loops.Goals as goal

pub returns : goal.returns
returns c = λ w s n e. record {
  code = s.code;
  home = s.home;
  owner = s.owner;
  in_guard = s.in_guard;
  own = s.own;
  locals = ap (λ (l : List Local). loop_local n.text ∷ l) s.locals ∙ ap (λ (ts : List (List ℕ)). map loop_local ts ++ s.own) (sym e);
  names = s.names;
}
