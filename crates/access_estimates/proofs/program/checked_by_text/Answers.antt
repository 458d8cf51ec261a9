use Rattle.std.proofs.Common.{List, map, ap, ◌∙◌}
use Rattle.access_analysis.specs.Tables.{class_at_place}
use Rattle.program_bodies.specs.Codes.{sources}
use Rattle.std.proofs.Common.{Vec, Global}
use Rattle.value_core.specs.declared.action.Class.{Class}
use Rattle.access_estimates.proofs.program.checked_by_text.Goals as goal

pub returns : goal.returns
returns c = λ coded symbols.
    let us = sources c.args.checked.now in
    let typed = (c.tables.ensures us symbols).typed in
    (c.in_ok-all_by_text.ensures {u = tt}) us typed
    (record {
      names = typed.forms.names;
      tables = (c.in_ok-tables.ensures {u = tt}) us typed coded;
      classes = λ kind op. ap (λ (l : List (Vec Class Global)). class_at_place (map (λ v. v.items) l) kind op) c.deref.ensures.value
          ∙ (c.in_ok-classes.ensures {u = tt}) kind op;
    })
