-- What a reader of the code answers, by what reading gives on lists (orca_grammar, specs/Reading.antt): the same value, or the
-- same tokens with the same reason. Nothing is said where memory runs out.
use Rattle.std.specs.Prelude.{◌≡◌, Bool, List, Result, Ok, Err, if◌then◌else◌}
use Rattle.std.specs.Borrow.{Bor}
use Rattle.orca_base.specs.declared.refusal.Refusal.{Refusal}
use Rattle.orca_base.specs.declared.refusal.Refusal.TheVariants.{Because, NoMemory}
use Rattle.orca_lexer.specs.declared.token.Token.{Token}
use Rattle.orca_grammar.specs.Forms.{Mark}
use Rattle.orca_grammar.specs.Reading.{Bad, bad, Unexpected, TooDeep, Read, Reader}
use Rattle.parse_exprs.specs.declared.read_error.ReadError.{ReadError}
use Rattle.parse_exprs.specs.declared.read_error.ReadError.TheVariants as errors

-- why a reader of the code answers nothing
abbrev pub Failure : Type 0
Failure = Refusal ReadError

-- reading fails so too
abbrev pub Fails : {A : Type 0} → Failure → Result A Bad → Type 0
Fails NoMemory reading = Unit {0}
Fails (Because (errors.Unexpected rest)) reading = reading ≡ bad Unexpected rest.now
Fails (Because (errors.TooNested rest)) reading = reading ≡ bad TooDeep rest.now

-- what was returned, seen by `view`, is what reading gives
abbrev pub Gives : {X A : Type 0} → (X → A) → Result X Failure → Result A Bad → Type 0
Gives view (Ok x) reading = reading ≡ Ok (view x)
Gives view (Err failure) reading = Fails failure reading

-- a phrase, seen by its marks, and the tokens behind it are what reading gives
abbrev pub Parses : {X : Type 0} → (X → List Mark) → Result (X × Bor (List Token)) Failure → Read → Type 0
Parses marks result reading = Gives (λ x. (marks x.0, x.1.now)) result reading

-- no level of nesting is left: with a token with which a phrase begins, it would be nested too deep
abbrev pub none_left : Bool → Reader
none_left begins tokens = if begins then bad TooDeep tokens else bad Unexpected tokens
