-- The places that a text's syntax keeps stand in the order of the text.
use Rattle.std.proofs.Common.{ℕ, List, [], ◌∷◌, Some, None, sym, subst, arith}
use Rattle.std.specs.List.{AllByRecursion, AllPairs}
use Rattle.std.proofs.lemmas.List.Elements.{All-from_recursion}
use Rattle.std.proofs.lemmas.List.Kept.{AllPairs-cons}
use Rattle.orca_base.specs.declared.place.Place.{Place}
use Rattle.orca_lexer.specs.declared.token.Token.{Token}
use Rattle.orca_lexer.specs.Order.{StandsBefore}
use Rattle.orca_lexer.proofs.Slices.{Rise, places_in_turn}
use Rattle.orca_grammar.specs.Forms.{Mark, Spelled, Begin, End}
use Rattle.orca_grammar.specs.Words.{AreTokensOf}
use Rattle.orca_grammar.proofs.TokensOf.{text_words}
use Rattle.orca_syntax.specs.Syntax.{Syntax}
use Rattle.orca_syntax.specs.Derivation.{syntax_marks}
use Rattle.orca_syntax.specs.Places.{IsInTextOrder, kept_places}
use Rattle.orca_syntax.specs.TextSyntax.{HasSyntax}

-- what stands before each token's place stands before each that is kept
kept_later : (p : Place) (ms : List Mark) (ts : List Token) → AreTokensOf ms ts → AllByRecursion (λ t. StandsBefore p t.at) ts → AllByRecursion (StandsBefore p) (kept_places ms)
kept_later p [] ts w h = tt
kept_later p (Spelled at kind ∷ ms) [] w h = absurd w
kept_later p (Spelled None kind ∷ ms) (t ∷ ts) w h = kept_later p ms ts w.1 h.1
kept_later p (Spelled (Some at) kind ∷ ms) (t ∷ ts) w h = (subst (StandsBefore p) (sym w.1) h.0, kept_later p ms ts w.2 h.1)
kept_later p (Begin b ∷ ms) ts w h = kept_later p ms ts w h
kept_later p (End b ∷ ms) ts w h = kept_later p ms ts w h

kept_rise : (ms : List Mark) (ts : List Token) → AreTokensOf ms ts → Rise ts → AllPairs StandsBefore (kept_places ms)
kept_rise [] ts w r = λ i j d before within. absurd (omega (arith, within))
kept_rise (Spelled at kind ∷ ms) [] w r = absurd w
kept_rise (Spelled None kind ∷ ms) (t ∷ ts) w r = kept_rise ms ts w.1 r.1
kept_rise (Spelled (Some at) kind ∷ ms) (t ∷ ts) w r =
    let later : AllByRecursion (λ (u : Token). StandsBefore at u.at) ts = subst (λ (p : Place). AllByRecursion (λ (u : Token). StandsBefore p u.at) ts) (sym w.1) r.0 in
    AllPairs-cons StandsBefore at (kept_places ms) (All-from_recursion (StandsBefore at) (kept_places ms) (kept_later at ms ts w.2 later)) (kept_rise ms ts w.2 r.1)
kept_rise (Begin b ∷ ms) ts w r = kept_rise ms ts w r
kept_rise (End b ∷ ms) ts w r = kept_rise ms ts w r

pub syntax_in_order : (text : List ℕ) (s : Syntax) → HasSyntax text s → IsInTextOrder s
syntax_in_order text s has = kept_rise (syntax_marks s) has.tokens (text_words (syntax_marks s) has.tokens has.derived) (places_in_turn text has.tokens has.are)
