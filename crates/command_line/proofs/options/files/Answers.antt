use Rattle.std.proofs.Common.{◌∙◌, List, [], Option, ap, codes}
use Rattle.std.specs.Prelude.{map, unwrap_or}
use Rattle.std.specs.Borrow.{Bor}
use Rattle.clap.specs.Words.{Text, found_of}
use Rattle.clap.proofs.WalkLemmas.{raw_values-rows}
use Rattle.command_line.proofs.options.files.Goals as goal

pub returns-in_ok-from_slice-in-Some : goal.returns-in_ok-from_slice-in-Some
returns-in_ok-from_slice-in-Some c =
    ap (map (λ (s : Bor Text). s.now)) c.in_ok-from_slice-in-Some.ensures.items
    ∙ ap (λ (o : Option (List Text)). unwrap_or o []) (c.in-Some.ensures ∙ raw_values-rows (found_of c.args.matches.now) (codes "file"))

pub returns-in-None : goal.returns-in-None
returns-in-None c =
    ap (map (λ (s : Bor Text). s.now)) c.new.ensures.items
    ∙ ap (λ (o : Option (List Text)). unwrap_or o []) (c.in-None.ensures ∙ raw_values-rows (found_of c.args.matches.now) (codes "file"))
