use Rattle.std.proofs.Common.{ℕ, ◌+◌, Option, length, sym, ap, ◌∙◌}
use Rattle.std.specs.Prelude.{option_copied, option_map}
use Rattle.std.specs.Borrow.{Bor}
use Rattle.program_bodies.proofs.site.behind.Goals as goal

pub returns-in-None : goal.returns-in-None
returns-in-None c = λ ls has.
    ap (λ (o : Option ℕ). option_map (λ j. j + length c.args.loops.now) o)
    (sym (ap (λ (o : Option (Bor ℕ)). option_copied o) c.in-None.is) ∙ c.get.ensures.value ∙ has.places c.args.name.now)
