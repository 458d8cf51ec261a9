-- What is derived of a form begins with a token of its set, or takes none.
use Rattle.std.proofs.Common.{◌≡◌, true, List, ◌∷◌, inl, inr, sym, arith}
use Rattle.orca_lexer.specs.declared.token.Token.{Token}
use Rattle.orca_grammar.specs.Forms.{Form, Mark, Derives}
use Rattle.orca_grammar.specs.Reading.{first, is_any, nullable}
use Rattle.orca_grammar.specs.Rules.{rule}
use Rattle.orca_grammar.specs.Sets.{sets}
use Rattle.orca_grammar.proofs.Derivations.{Starts, starts}
use Rattle.orca_grammar.proofs.Steps.{checked}

begun : (f : Form) (t : Token) (ts rest : List Token) → (rest ≡ t ∷ ts → ⊥) → Starts sets f (t ∷ ts) rest → is_any (first sets f) t.kind ≡ true
begun f t ts rest some (inl a) = absurd (some (sym a.1))
begun f t ts rest some (inr a) = a.0

pub begins_in : (f : Form) (ms : List Mark) (t : Token) (ts rest : List Token) → Derives rule f ms (t ∷ ts) rest → (rest ≡ t ∷ ts → ⊥) → is_any (first sets f) t.kind ≡ true
begins_in f ms t ts rest d some = begun f t ts rest some (starts sets rule checked d)

taken : (f : Form) (ts : List Token) → Starts sets f ts ts → nullable f ≡ true
taken f ts (inl a) = a.0
taken f ts (inr a) = absurd (omega (arith, a.1))

pub empty_in : (f : Form) (ms : List Mark) (ts : List Token) → Derives rule f ms ts ts → nullable f ≡ true
empty_in f ms ts d = taken f ts (starts sets rule checked d)
