-- Runs that stand at the same place, part by part, with a reply that isn't pushed yet.
use Rattle.std.proofs.Common.{◌≡◌, Option, Some, None, map, refl, sym, ap, ◌∙◌}
use Rattle.std.specs.Prelude.{reverse}
use Rattle.value_core.specs.declared.value.Value.{Value}
use Rattle.code_rules.specs.Machine as rules
use Rattle.code_steps.specs.Bodies.{caller_of, config_of, number_of}
use Rattle.code_steps.specs.declared.config.Config.{Config}
use Rattle.code_runs.specs.Processes.{with_reply}
use Rattle.code_machine.specs.Topped.{topped}
use Rattle.code_machine.proofs.Alike.{reversed_alike}

with_topped : (r : Option Value) (c : rules.Config) → with_reply r c ≡ record c { stack = topped r c.stack }
with_topped None c = refl
with_topped (Some value) c = refl

module _ (c d : Config) (r s : Option Value) where
  pub replied_by : c.process ≡ d.process → number_of c.body ≡ number_of d.body → c.pc ≡ d.pc → topped r c.stack ≡ topped s d.stack →
      c.run.frame ≡ d.run.frame → map caller_of c.callers.items ≡ map caller_of d.callers.items → with_reply r (config_of c) ≡ with_reply s (config_of d)
  replied_by process number pc stack locals callers =
      let parts : record (config_of c) { stack = topped r c.stack } ≡ record (config_of d) { stack = topped s d.stack } =
      λ i. record { process = process i; body = number i; pc = pc i; stack = stack i; locals = locals i; frames = reverse (callers i) } in
      with_topped r (config_of c) ∙ parts ∙ sym (with_topped s (config_of d))

  -- the same bodies wait
  pub waiting_alike : with_reply r (config_of c) ≡ with_reply s (config_of d) → map caller_of c.callers.items ≡ map caller_of d.callers.items
  waiting_alike e =
      let whole : record (config_of c) { stack = topped r c.stack } ≡ record (config_of d) { stack = topped s d.stack } =
      sym (with_topped r (config_of c)) ∙ e ∙ with_topped s (config_of d) in
      reversed_alike (map caller_of c.callers.items) (map caller_of d.callers.items) (ap (λ (x : rules.Config). x.frames) whole)
