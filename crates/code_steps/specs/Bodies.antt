-- Where a run stands, in the definitions' words.
use Rattle.std.specs.Prelude.{List, map, reverse, Option, Some, None, option_map}
use Rattle.value_core.specs.View.{datum_of}
use Rattle.code_rules.specs.Machine as rules
use Rattle.frame_variables.specs.Gives.{passed_of}
use Rattle.frame_variables.specs.declared.stop.Stop.{Stop}
use Rattle.frame_variables.specs.declared.stop.Stop.TheVariants as stop
use Rattle.code_steps.specs.declared.config.BodyNo.{BodyNo}
use Rattle.code_steps.specs.declared.config.BodyNo.TheVariants as body
use Rattle.code_steps.specs.declared.config.Caller.{Caller}
use Rattle.code_steps.specs.declared.config.Config.{Config}
use Rattle.code_steps.specs.declared.config.Effect.{Effect}
use Rattle.code_steps.specs.declared.config.Effect.TheVariants as effect

abbrev pub number_of : BodyNo → rules.BodyNo
number_of (body.Function n) = rules.OfFunction n
number_of (body.Process text) = rules.OfProcess text
number_of (body.Making kind) = rules.OfMaking kind
number_of (body.Operation kind n) = rules.OfOperation kind n

abbrev pub caller_of : Caller → rules.Caller
caller_of w = record {
  body = number_of w.body;
  pc = w.pc;
  stack = w.stack;
  locals = w.frame;
  given = map rules.lent (map passed_of w.given.items);
  names = w.names;
}

-- the last one to wait comes first
abbrev pub callers_of : List Caller → List rules.Caller
callers_of ws = reverse (map caller_of ws)

abbrev pub config_of : Config → rules.Config
config_of c = record {
  process = c.process;
  body = number_of c.body;
  pc = c.pc;
  stack = c.stack;
  locals = c.run.frame;
  frames = callers_of c.callers.items;
}

-- what was done, where the run then stands so
abbrev pub effect_in : Effect → rules.Config → rules.Effect
effect_in effect.Steps c = rules.Steps c
effect_in effect.Turns c = rules.Turns c
effect_in (effect.Asks action) c = rules.Asks action c
effect_in (effect.Fails fault) c = rules.Fails fault
effect_in (effect.Ends value) c = rules.Ends (option_map datum_of value) c.locals
effect_in (effect.Tests truth address) c = rules.Tests truth address
effect_in effect.Blocks c = rules.Blocks
effect_in effect.Stuck c = rules.Stuck

-- what a stop is; of want of memory nothing is said
abbrev pub told_effect : Stop → Option Effect
told_effect (stop.Faults fault) = Some (effect.Fails fault)
told_effect (stop.Needs action) = Some effect.Stuck
told_effect stop.Busy = Some effect.Stuck
told_effect stop.NoMemory = None
