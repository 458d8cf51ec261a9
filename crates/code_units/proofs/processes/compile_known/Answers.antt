use Rattle.std.proofs.Common.{Option, Some, subst}
use Rattle.std.specs.Borrow.{Bor}
use Rattle.program_bodies.specs.declared.blocks.BlockCode.{BlockCode}
use Rattle.program_bodies.specs.Blocks.{IsBlockCode, Routine}
use Rattle.program_bodies.specs.Matching.{Both}
use Rattle.code_units.proofs.processes.compile_known.Goals as goal

abbrev goes : Option (Bor BlockCode) → Routine → Type 0
goes o r = Both (λ (c : Bor BlockCode) (r : Routine). IsBlockCode c.now r) o (Some r)

pub returns-in-None : goal.returns-in-None
returns-in-None c = λ r code both guard. absurd (subst (λ (o : Option (Bor BlockCode)). goes o r) c.in-None.is both)

pub returns-in-Some : goal.returns-in-Some
returns-in-Some c = λ r code both guard. c.compile_block.ensures r code (subst (λ (o : Option (Bor BlockCode)). goes o r) c.in-Some.is both) guard
