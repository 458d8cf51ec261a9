-- What the reader of a unit answers says of the tokens.
use Rattle.std.proofs.Common.{◌≡◌, List, [], ◌∷◌, Ok, Err, refl}
use Rattle.orca_base.specs.declared.limits.TheConstants.{NESTING}
use Rattle.orca_lexer.specs.declared.token.Token.{Token}
use Rattle.orca_grammar.specs.Forms.{Mark}
use Rattle.orca_grammar.specs.Rules.{unit}
use Rattle.orca_grammar.specs.Reading.{Read, Why, Unexpected, TooDeep, bad}
use Rattle.orca_grammar.specs.Grammar.{read}
use Rattle.orca_grammar.specs.Promise.{SaysOfSome, SaysOfNone, Says, IsReadSo}
use Rattle.orca_grammar.proofs.Whole.{whole, left_behind, unexpected, too_nested}

of_some : (tokens : List Token) (marks : List Mark) (rest : List Token) → read NESTING unit tokens ≡ Ok (marks, rest) → SaysOfSome tokens marks rest
of_some tokens marks [] e = let w = whole tokens marks e in (w.text, w.fits)
of_some tokens marks (t ∷ rest) e = left_behind tokens marks t rest e

of_none : (tokens : List Token) (why : Why) (found : List Token) → read NESTING unit tokens ≡ bad why found → SaysOfNone tokens why found
of_none tokens Unexpected found e = unexpected tokens found e
of_none tokens TooDeep found e = too_nested tokens found e

says : (tokens : List Token) (answer : Read) → read NESTING unit tokens ≡ answer → Says tokens answer
says tokens (Ok x) e = of_some tokens x.0 x.1 e
says tokens (Err b) e = of_none tokens b.why b.rest e

pub is_read_so : (tokens : List Token) → IsReadSo tokens
is_read_so tokens = says tokens (read NESTING unit tokens) refl
