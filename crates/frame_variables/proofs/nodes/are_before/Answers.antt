use Rattle.std.proofs.Common.{sym, ◌∙◌, arith}
use Rattle.std.specs.Int.{w64}
use Rattle.std.proofs.lemmas.Int.{to_z-of_z}
use Rattle.frame_variables.proofs.Rising.{last_of, none_before}
use Rattle.frame_variables.proofs.nodes.are_before.Goals as goal

pub returns-in-Some : goal.returns-in-Some
returns-in-Some c t =
    last_of c.args.name _ c.args.values.now c.in-Some.last.now (to_z-of_z w64 c.args.name c.ranges.name) (c.in-Some.ensures {u = tt}).value (sym c.is_before.ensures ∙ t) c.requires

pub returns-in-None : goal.returns-in-None
returns-in-None c t =
    let gone = (c.in-None.ensures {u = tt}).item in
    none_before c.args.name c.args.values.now (omega (arith, gone))
