use Rattle.std.proofs.Common.{◌≤◌, ◌∙◌, subst, sym}
use Rattle.std.specs.List.{sum_by}
use Rattle.program_bodies.specs.Codes.{sources}
use Rattle.code_rules.specs.Correct.{Means}
use Rattle.code_rules.specs.Machine.{Code}
use Rattle.code_lengths.specs.Lengths.{program_length, tokens_in}
use Rattle.stack_code.specs.Packed.{HasGreat}
use Rattle.stack_code.specs.Sound.{IsWholeCode}
use Rattle.stack_code.specs.Text.{bodies_of}
use Rattle.code_programs.proofs.Premises.{accepted_program, begins}
use Rattle.code_programs.proofs.Short.{never_great}
use Rattle.code_programs.proofs.programs.compile.Goals as goal

pub emitted-requires : goal.emitted-requires
emitted-requires c = (c.in_ok-within_limits.ensures {u = tt}).within

pub packed-requires-clause-whole : goal.packed-requires-clause-whole
packed-requires-clause-whole c =
    let p = c.args.checked in
    let within = (c.in_ok-within_limits.ensures {u = tt}).within in
    subst IsWholeCode (sym (c.in_ok-emitted.ensures {u = tt}))
    (c.compiled_code_is_sound.ensures.main (sources p) (begins (sources p) (accepted_program c.accepted_law.ensures.accepted p within)))

pub packed-requires-clause-fits : goal.packed-requires-clause-fits
packed-requires-clause-fits c =
    let us = sources c.args.checked in
    subst (λ (code : Code). HasGreat (bodies_of code) → ⊥) (sym (c.in_ok-emitted.ensures {u = tt}))
    (never_great us (c.length_law.ensures.programs us c.args.checked.program.now.links) (c.in_ok-within_limits.ensures {u = tt}).within)

pub returns-clause-code : goal.returns-clause-code
returns-clause-code c = c.in_ok-code.ensures {u = tt} ∙ c.in_ok-emitted.ensures {u = tt}

pub returns-clause-means : goal.returns-clause-means
returns-clause-means c =
    let us = sources c.args.checked in
    subst (Means us) (sym (c.in_ok-code.ensures {u = tt} ∙ c.in_ok-emitted.ensures {u = tt})) (c.code_law.ensures.means us)

pub returns-clause-short : goal.returns-clause-short
returns-clause-short c =
    let us = sources c.args.checked in
    subst (λ (code : Code). program_length code ≤ sum_by tokens_in us) (sym (c.in_ok-code.ensures {u = tt} ∙ c.in_ok-emitted.ensures {u = tt}))
    (c.length_law.ensures.programs us c.args.checked.program.now.links)
