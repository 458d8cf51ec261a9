use Rattle.std.proofs.Common.{ℕ, ◌+◌, ◌*◌, ◌/◌, ap, sym, refl, ◌∙◌}
use Rattle.group_member.specs.declared.member.Config.{Config}
use Rattle.group_reset.proofs.Coordinating.{coordinates_alone, coordinates_many, gathered_can, outside_row}
use Rattle.group_reset.proofs.coordinator.coordinate.Goals as goal

pub returns-then-is_outside-clause-row : goal.returns-then-is_outside-clause-row
returns-then-is_outside-clause-row g c = outside_row g.B.Body.id_of g.B.Body.length_of c.args.member.now c.new-sends.result.items c.new-sends.ensures.items (sym c.is_outside.ensures ∙ c.if-is_outside.true)

pub returns-then-config-gt1-clause-row : goal.returns-then-config-gt1-clause-row
returns-then-config-gt1-clause-row g c =
    coordinates_many g.B.Body.id_of g.B.Body.length_of c.args.member.now c.gather.new.self c.next_incarnation-incarnation.result c.config-config.result.nodes c.me-me.result c.tell_others.new.sends.items
    (record {
      alive = sym c.is_outside.ensures ∙ c.if-is_outside.false;
      next = c.next_incarnation-incarnation.ensures ∙ ap (λ (p : ℕ). (p / c.config-config.result.nodes + 1) * c.config-config.result.nodes + c.me-me.result) c.promised.ensures;
      begins = c.in_ok-gather.ensures.row;
      promised = c.in_ok-gather.ensures.numbers;
      nodes_are = ap (λ (k : Config). k.nodes) c.config-config.ensures;
      me_is = c.me-me.ensures;
      sends = rw (c.in_ok-tell_others.ensures, c.new-sends.ensures.items) refl;
    })
    c.if-config-gt1.true

pub conclude-requires-clause-can : goal.conclude-requires-clause-can
conclude-requires-clause-can g c =
    gathered_can g.B.Body.id_of g.B.Body.length_of c.args.member.now c.gather.new.self c.next_incarnation-incarnation.result c.config-config.result.nodes c.me-me.result c.tell_others.new.sends.items
    (record {
      alive = sym c.is_outside.ensures ∙ c.if-is_outside.false;
      next = c.next_incarnation-incarnation.ensures ∙ ap (λ (p : ℕ). (p / c.config-config.result.nodes + 1) * c.config-config.result.nodes + c.me-me.result) c.promised.ensures;
      begins = c.in_ok-gather.ensures.row;
      promised = c.in_ok-gather.ensures.numbers;
      nodes_are = ap (λ (k : Config). k.nodes) c.config-config.ensures;
      me_is = c.me-me.ensures;
      sends = rw (c.in_ok-tell_others.ensures, c.new-sends.ensures.items) refl;
    })
    c.requires.stands

pub returns-clause-row : goal.returns-clause-row
returns-clause-row g c =
    coordinates_alone g.B.Body.id_of g.B.Body.length_of c.args.member.now c.gather.new.self c.conclude.new.member c.next_incarnation-incarnation.result c.config-config.result.nodes c.me-me.result c.tell_others.new.sends.items c.in_ok-done.done.1.items
    (record {
      alive = sym c.is_outside.ensures ∙ c.if-is_outside.false;
      next = c.next_incarnation-incarnation.ensures ∙ ap (λ (p : ℕ). (p / c.config-config.result.nodes + 1) * c.config-config.result.nodes + c.me-me.result) c.promised.ensures;
      begins = c.in_ok-gather.ensures.row;
      promised = c.in_ok-gather.ensures.numbers;
      nodes_are = ap (λ (k : Config). k.nodes) c.config-config.ensures;
      me_is = c.me-me.ensures;
      sends = rw (c.in_ok-tell_others.ensures, c.new-sends.ensures.items) refl;
    })
    c.if-config-gt1.false c.in_ok-done.ensures.row
