use Rattle.std.proofs.Common.{◌∙◌, ap, subst, refl, replicate, true}
use Rattle.world_parts.specs.Recorded.{Recorded}
use Rattle.world_rules.specs.Frame.{AreSettings}
use Rattle.world_rules.specs.declared.settings.Settings.{Settings}
use Rattle.world_parts.proofs.Opening.{first_stands, nobody_out}
use Rattle.world_parts.proofs.parts.Parts.new.Goals as goal

pub opening_nodes-requires-clause-numbers : goal.opening_nodes-requires-clause-numbers
opening_nodes-requires-clause-numbers g c = record {
  nodes = ap (λ (s : Settings). s.nodes) c.requires.settings;
  resilience = ap (λ (s : Settings). s.resilience) c.requires.settings;
  turns = ap (λ (s : Settings). s.turns) c.requires.settings;
  events = ap (λ (s : Settings). s.events) c.requires.settings;
  wires = ap (λ (s : Settings). s.wires) c.requires.settings;
}

pub opening_nodes-requires-clause-choices : goal.opening_nodes-requires-clause-choices
opening_nodes-requires-clause-choices g c = ap (λ (s : Settings). s.choices) c.requires.settings

pub opening_nodes-requires-clause-ranges : goal.opening_nodes-requires-clause-ranges
opening_nodes-requires-clause-ranges g c = subst AreSettings c.requires.settings c.requires.ranges

pub returns-clause-stands : goal.returns-clause-stands
returns-clause-stands g c =
    first_stands g.P.OneRun.stood g.P.OneRun.left g.P.OneRun.run.frame _ (record {
      nodes = ap (λ (s : Settings). s.nodes) c.requires.settings;
      resilience = ap (λ (s : Settings). s.resilience) c.requires.settings;
      turns = ap (λ (s : Settings). s.turns) c.requires.settings;
      events = ap (λ (s : Settings). s.events) c.requires.settings;
      wires = ap (λ (s : Settings). s.wires) c.requires.settings;
    }) (subst AreSettings c.requires.settings c.requires.ranges) c.laws_of_runs.ensures (c.in_ok-nodes.ensures {u = tt})
    ((c.in_ok-lives.ensures {u = tt}) ∙ ap (λ (s : Settings). replicate s.nodes true) c.requires.settings)
    (record { flights = c.new-net.ensures.empty; steps = ap (λ (r : Recorded). r.steps) c.new-ledger.ensures; entries = ap (λ (r : Recorded). r.entries) c.new-ledger.ensures; performed = ap (λ (r : Recorded). r.performed) c.new-ledger.ensures; sent = refl; swaps = refl; idle = refl })

pub returns-clause-tasks : goal.returns-clause-tasks
returns-clause-tasks g c = nobody_out c.in_ok-nodes.nodes.items (c.in_ok-nodes.ensures {u = tt}).none
