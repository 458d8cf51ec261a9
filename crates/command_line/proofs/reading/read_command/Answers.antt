use Rattle.std.proofs.Common.{◌∙◌, map, string_bytes, ap}
use Rattle.std.specs.Prelude.{option_map}
use Rattle.clap.specs.Words.{found_of, rows_of}
use Rattle.command_line.specs.Asked.{asked_of}
use Rattle.command_line.proofs.Cases.{answered, refused}
use Rattle.command_line.proofs.reading.read_command.Goals as goal

pub returns-in_default-clause-is : goal.returns-in_default-clause-is
returns-in_default-clause-is c =
    rw c.refuse.ensures (refused (map string_bytes c.args.words.now) _ c.in_ok-matches.field-0 (λ m. rows_of (found_of m)) c.in_ok-matches.ensures c.in_default.is)

pub returns-in-Some-2-clause-is : goal.returns-in-Some-2-clause-is
returns-in-Some-2-clause-is c =
    answered (map string_bytes c.args.words.now) _ c.in_ok-matches.field-0 (λ m. rows_of (found_of m)) c.in-Some.matches c.in_ok-request.field-0 asked_of c.in_ok-matches.ensures c.in-Some.is c.in_ok-request.ensures.is ∙ ap (option_map asked_of) c.in-Some-2.is

pub returns-clause-is : goal.returns-clause-is
returns-clause-is c =
    rw c.refuse-in-None.ensures (answered (map string_bytes c.args.words.now) _ c.in_ok-matches.field-0 (λ m. rows_of (found_of m)) c.in-Some.matches c.in_ok-request.field-0 asked_of c.in_ok-matches.ensures c.in-Some.is c.in_ok-request.ensures.is ∙ ap (option_map asked_of) c.in-None.is)
