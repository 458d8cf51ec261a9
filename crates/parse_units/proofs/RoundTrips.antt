-- A unit that is printed is read back, places aside.
use Rattle.std.proofs.Common.{◌≡◌, ℕ, List, [], ◌∷◌, length, None, ap, ◌∙◌, subst, arith}
use Rattle.std.specs.List.{AllByRecursion}
use Rattle.orca_base.specs.declared.limits.TheConstants.{NESTING}
use Rattle.orca_lexer.specs.declared.token.Token.{Token}
use Rattle.orca_lexer.specs.declared.token.TokenKind.{TokenKind}
use Rattle.orca_lexer.specs.Spelling.{AreReadBack, IsSound, written}
use Rattle.orca_lexer.specs.Tokens.{Tokens}
use Rattle.orca_lexer.proofs.Once.{tokens_once}
use Rattle.orca_lexer.proofs.ReadsBack.{reads_back as kinds_back}
use Rattle.orca_lexer.proofs.Shorter.{written_long}
use Rattle.orca_lexer.proofs.Sound.{tokens_sound}
use Rattle.orca_grammar.specs.Forms.{first_deep, spelled}
use Rattle.orca_grammar.specs.Grammar.{IsText}
use Rattle.orca_grammar.proofs.Whole.{whole}
use Rattle.orca_grammar.proofs.Placed.{reads_again, text_kinds, kinds}
use Rattle.orca_tree.specs.declared.tree.Unit.{Unit as UnitTree}
use Rattle.orca_tree.specs.Marks.{unit as unit_marks}
use Rattle.orca_tree.specs.Printing.{printed, AreWordsSound}
use Rattle.parse_units.specs.RoundTrip.{AreReadAs, ReadsBack, StaysShort}

-- tokens of the kinds that a unit is spelled by are read as the unit
read_as : (u : UnitTree) (tokens others : List Token) → IsText (unit_marks u) tokens → first_deep (unit_marks u) NESTING ≡ None → kinds others ≡ spelled (unit_marks u) → AreReadAs u others
read_as u tokens others text nests same_kinds =
    let r = reads_again (unit_marks u) tokens others text nests same_kinds in
    let w = whole others r.marks r.reads in
    record { marks = r.marks; are = w.text; nests = w.fits; same = r.same }

all_sound : (tokens : List Token) → AllByRecursion (λ t. IsSound t.kind) tokens → AllByRecursion IsSound (kinds tokens)
all_sound [] sound = tt
all_sound (t ∷ tokens) sound = (sound.0, all_sound tokens sound.1)

-- the tokens of a unit that was read from a text are such as a text may have
words_sound : (u : UnitTree) (text : List ℕ) (tokens : List Token) → Tokens text tokens → IsText (unit_marks u) tokens → AreWordsSound u
words_sound u text tokens has is =
    subst (λ (ks : List TokenKind). AllByRecursion IsSound ks) (text_kinds (unit_marks u) tokens is) (all_sound tokens (tokens_sound text tokens has))

pub reads_back : (u : UnitTree) → ReadsBack u
reads_back u text tokens has is nests = record {
  tokens = back.tokens;
  are = back.are;
  read = λ others are. read_as u tokens others is nests (ap kinds (tokens_once (printed u) others back.tokens are back.are) ∙ back.kinds_are);
}
  where
    back : AreReadBack (spelled (unit_marks u))
    back = kinds_back (spelled (unit_marks u)) (words_sound u text tokens has is)

pub stays_short : (u : UnitTree) → StaysShort u
stays_short u text tokens has is below =
    omega (arith, written_long text tokens has, ap (λ (ks : List TokenKind). length (written ks)) (text_kinds (unit_marks u) tokens is))
