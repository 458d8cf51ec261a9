use Rattle.std.proofs.Common.{◌≡◌, drop}
use Rattle.parse_units.specs.Refused.{end_from, end_of_text}
use Rattle.parse_units.proofs.parse_error.end_place.Given as goal

abbrev pub invariant-tokens : goal.invariant-tokens
invariant-tokens l = end_from l.at (drop l.token-index l.tokens) ≡ end_of_text l.tokens
