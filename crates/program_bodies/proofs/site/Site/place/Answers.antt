use Rattle.std.proofs.Common.{ℕ, ◌+◌, List, Option, length, sym, ap, ◌∙◌}
use Rattle.std.specs.Prelude.{bytes_eq, option_map, position}
use Rattle.std.specs.Borrow.{Bor}
use Rattle.type_rules.specs.TopLevel.{or_else}
use Rattle.program_bodies.specs.Bodies.{bears}
use Rattle.program_bodies.proofs.SeenNames.{seen_place}
use Rattle.program_bodies.proofs.site.Site.place.Goals as goal

pub returns-in-Some : goal.returns-in-Some
returns-in-Some c = λ w s.
    let n = c.args.name.now.text in
    let loops = c.args.self.loops.now in
    ap (λ (o : Option ℕ). or_else o (option_map (λ j. j + length loops) (position (bears n) s.own)))
    (sym c.in-Some.is ∙ c.counting.ensures ∙ ap (λ (m : List ℕ). position (λ (k : Bor (List ℕ)). bytes_eq k.now m) loops) c.as_str-text.ensures)
    ∙ seen_place w.locals loops s.own n s.locals

pub returns-in-None : goal.returns-in-None
returns-in-None c = λ w s.
    let n = c.args.name.now.text in
    let loops = c.args.self.loops.now in
    c.behind.ensures s.own s.names
    ∙ ap (λ (m : List ℕ). option_map (λ j. j + length loops) (position (bears m) s.own)) c.as_str-text.ensures
    ∙ ap (λ (o : Option ℕ). or_else o (option_map (λ j. j + length loops) (position (bears n) s.own)))
    (sym c.in-None.is ∙ c.counting.ensures ∙ ap (λ (m : List ℕ). position (λ (k : Bor (List ℕ)). bytes_eq k.now m) loops) c.as_str-text.ensures)
    ∙ seen_place w.locals loops s.own n s.locals
