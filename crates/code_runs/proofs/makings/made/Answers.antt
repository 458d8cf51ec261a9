use Rattle.std.proofs.Common.{ap, sym, ◌∙◌}
use Rattle.value_core.specs.Datum.{data_of, data_of-list_of}
use Rattle.value_core.specs.declared.meaning.Making.TheVariants as making
use Rattle.code_steps.specs.Bodies.{config_of}
use Rattle.code_runs.proofs.Ending.{made_else}
use Rattle.code_runs.proofs.makings.made.Goals as goal

pub returns-in-Ends : goal.returns-in-Ends
returns-in-Ends c =
    rw c.in-Ends.is (ap making.Made (sym (data_of-list_of c.from_vec-state.result) ∙ ap data_of (c.from_vec-state.ensures ∙ c.in_ok-first_values-in-Ends.ensures {u = tt})))

pub returns : goal.returns
returns c = made_else c.args.fields c.args.effect (config_of c.args.config) c.in_default.not-Ends c.in_default.not-Fails
