-- The slots of names, in loops and outside of them.
use Rattle.std.proofs.Common.{◌≡◌, ◌<◌, ◌≤◌, ℕ, zero, suc, ◌+◌, ◌-◌, cond, List, [], ◌∷◌, ◌++◌, map, length, Option, sym, ap, ◌∙◌, arith}
use Rattle.std.specs.Prelude.{nat_lt}
use Rattle.std.specs.Borrow.{Bor}
use Rattle.std.proofs.lemmas.List.{length-map}
use Rattle.type_rules.specs.declared.types.DataType.{DataType}
use Rattle.type_rules.specs.Scopes.{Local, Scope}
use Rattle.program_bodies.specs.Bodies.{IsBody}
use Rattle.program_bodies.specs.Codes.{IsCode, loop_local}
use Rattle.program_bodies.specs.Sites.{lent_texts}
use Rattle.code_rules.specs.Layouts.{Layout, layout_of, spot, spot_in, top}
use Rattle.code_exprs.specs.declared.code_site.CodeSite.{CodeSite}
use Rattle.code_exprs.specs.CodeSites.{IsCodeSite}

-- the variable of a loop, and a name of the body
pub near : (d n b k : ℕ) → k < d → d + n - 1 - k ≡ spot_in n d b k
near zero n b k less = omega (arith, less)
near (suc d) n b zero less = omega arith
near (suc d) n b (suc k) less =
    let low : k < d = omega (arith, less) in
    let same : suc d + n - 1 - suc k ≡ d + n - 1 - k = omega arith in
    same ∙ near d n b k low

pub far : (d n b k : ℕ) → d ≤ k → cond (nat_lt (k - d) n) (k - d) b ≡ spot_in n d b k
far zero n b k least = let same : k - 0 ≡ k = omega arith in ap (λ (j : ℕ). cond (nat_lt j n) j b) same
far (suc d) n b zero least = omega (arith, least)
far (suc d) n b (suc k) least =
    let low : d ≤ k = omega (arith, least) in
    let same : suc k - suc d ≡ k - d = omega arith in
    ap (λ (j : ℕ). cond (nat_lt j n) j b) same ∙ far d n b k low

-- the slot, by what a site has of a layout
pub spot_there : (l : Layout) (names depth beyond k : ℕ) → l.names ≡ names → l.depth ≡ depth → top l ≡ beyond → spot_in names depth beyond k ≡ spot l k
spot_there l names depth beyond k n d b =
    ap (λ (j : ℕ). spot_in j depth beyond k) (sym n) ∙ ap (λ (j : ℕ). spot_in l.names j beyond k) (sym d) ∙ ap (λ (j : ℕ). spot_in l.names l.depth j k) (sym b)

pub one_longer : (n : List ℕ) (new old : List (Bor (List ℕ))) → lent_texts new ≡ n ∷ lent_texts old → length new ≡ suc (length old)
one_longer n new old is =
    sym (length-map new (λ (k : Bor (List ℕ)). k.now))
    ∙ ap (λ (ns : List (List ℕ)). length ns) is
    ∙ ap (λ (k : ℕ). suc k) (length-map old (λ (k : Bor (List ℕ)). k.now))

-- a body with no loop open
pub body_site : (d : CodeSite) (w : Scope) (spare : ℕ) → IsCode w.program d.site.code.now → IsBody d.site.body.now w → w.in_guard ≡ d.site.in_guard →
    d.site.loops.now ≡ [] → d.beyond ≡ length d.site.body.now.names.types.items + spare → IsCodeSite d w (layout_of w spare)
body_site d w spare code body guard none room =
    let many : length w.locals ≡ length d.site.body.now.names.types.items =
    sym (length-map w.locals (λ (l : Local). l.type)) ∙ sym (ap (λ (ts : List (Option DataType)). length ts) body.names.types) in
    record {
      site = record {
        code = code;
        home = body.home;
        owner = body.owner;
        in_guard = guard;
        own = w.locals;
        locals = sym (ap (λ (ls : List (Bor (List ℕ))). map loop_local (lent_texts ls) ++ w.locals) none);
        names = body.names;
      };
      names = many;
      depth = sym (ap (λ (ls : List (Bor (List ℕ))). length ls) none);
      beyond = omega (arith, many, room);
    }
