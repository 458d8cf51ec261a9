use Rattle.std.proofs.Common.{List, ◌∙◌, ap, map, sym}
use Rattle.std.proofs.lemmas.List.{take-map}
use Rattle.accepted_law.specs.Limits.{IsWithinLimits}
use Rattle.orca_front.specs.Sources.{IsAccepted, file_of}
use Rattle.link_rules.specs.Units.{Source}
use Rattle.kept_files.specs.Kept.{kept_of}
use Rattle.ending_notes.specs.Programs.{IsProgramNote}
use Rattle.ending_notes.proofs.Told.{moved, unmoved}
use Rattle.ending_notes.proofs.ending.refused_note.Goals as goal

pub returns : goal.returns
returns c =
    let same = ap (map file_of) c.deref.ensures.value ∙ c.in_ok-sources.ensures ∙ ap (map kept_of) c.front.ensures ∙ sym (take-map kept_of c.args.count c.args.files.now) in
    record {
      told = moved (λ files v. IsProgramNote files v.items) c.program_note.result (map file_of c.deref.result.now) _ same c.program_note.ensures.told;
      none = unmoved (λ files. (units : List Source) × IsAccepted files units × IsWithinLimits units) c.program_note.result (map file_of c.deref.result.now) _ same c.program_note.ensures.none;
    }
