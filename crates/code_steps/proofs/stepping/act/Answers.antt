use Rattle.std.proofs.Common.{refl, sym, ◌∙◌}
use Rattle.emitted_code.specs.Views.{program_seen}
use Rattle.code_steps.specs.Bodies.{config_of}
use Rattle.code_steps.proofs.stepping.act.Goals as goal

pub returns : goal.returns
returns c = λ room.
    let config = record c.args.config.now { stack = c.advance.new.stack; run = c.advance.new.run } in
    c.in_ok-done.ensures room (program_seen c.args.code.now) (config_of config) refl ∙ sym c.follow.ensures
