use Rattle.std.proofs.Common.{ℕ, suc, List, ◌∷◌, ◌++◌, map, sym, ap, ◌∙◌}
use Rattle.type_rules.specs.Scopes.{Local}
use Rattle.program_bodies.specs.Codes.{loop_local}
use Rattle.code_exprs.proofs.Slots.{one_longer}
use Rattle.code_exprs.proofs.code_site.CodeSite.in_loops.Goals as goal

pub returns : goal.returns
returns c = λ w l d n is.
    let s = d.site in
    record {
      site = record {
        code = s.code;
        home = s.home;
        owner = s.owner;
        in_guard = s.in_guard;
        own = s.own;
        locals = ap (λ (ls : List Local). loop_local n.text ∷ ls) s.locals ∙ ap (λ (ts : List (List ℕ)). map loop_local ts ++ s.own) (sym is);
        names = s.names;
      };
      names = d.names;
      depth = ap (λ (k : ℕ). suc k) d.depth ∙ sym (one_longer n.text c.args.loops.now c.args.self.site.loops.now is);
      beyond = d.beyond;
    }
