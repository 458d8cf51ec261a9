use Rattle.std.proofs.Common.{ℕ, List, sym, ap, ◌∙◌}
use Rattle.code_rules.specs.Instructions.{Instr}
use Rattle.code_exprs.specs.Jumps.{aimed}
use Rattle.emitted_code.specs.Views.{code_of}
use Rattle.code_exprs.proofs.Pieces.{one_hole}
use Rattle.code_exprs.proofs.statements.fill.Goals as goal

pub holes-preserved : goal.holes-preserved
holes-preserved c =
    let left = c.pop.new.self.items in
    let to = c.len-to.result in
    let code = code_of c.holes.out in
    ap (λ (o : List Instr). aimed left to o) c.fix.ensures.code
    ∙ sym (one_hole left c.in-Some.hole to code)
    ∙ ap (λ (hs : List ℕ). aimed hs to code) (sym c.in-Some.ensures.items)
    ∙ c.holes.invariant
