use Rattle.std.proofs.Common.{rules, ◌≡◌, ℕ, ◌+◌, replicate, ap, ◌∙◌}
use Rattle.value_core.specs.View.{datum_of}
use Rattle.program_tables.proofs.Opened.{copied}
use Rattle.program_tables.proofs.openings.copies.Goals as goal

pub returns : goal.returns
returns c =
    let whole : c.copies._copy ≡ c.args.more = search rules in
    copied c.copies.all.items c.push-2.new.self.items _ c.args.value c.copies._copy c.in_ok-push-2.ensures.items c.copies.invariant.1 c.copies.invariant.0
    ∙ ap (λ (k : ℕ). replicate (k + 1) (datum_of c.args.value)) whole
