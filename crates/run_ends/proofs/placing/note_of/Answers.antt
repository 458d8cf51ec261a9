use Rattle.std.proofs.Common.{List, ap, ◌∙◌}
use Rattle.value_core.specs.declared.message.Message.{Message}
use Rattle.world_places.specs.Told.{calls_such, is_among, note_by, some_keeps}
use Rattle.run_ends.proofs.placing.note_of.Goals as goal

pub returns : goal.returns
returns g c w is =
    let placed = c.args.placed.now in
    c.note_by.ensures ∙ ap (λ s. note_by s c.has-is_listed.result placed.place) (c.calls_single-is_single.ensures w is)
    ∙ ap (λ s. note_by (calls_such (some_keeps g.P.OneRun.run.frame w) placed.line.action) s placed.place)
    (c.has-is_listed.ensures ∙ c.requires.listed placed.line ∙ ap (λ (l : List Message). is_among l placed.line) is.entries)
