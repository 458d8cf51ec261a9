-- The place of a phrase, which is that of its first token.
use Rattle.std.specs.Prelude.{List, [], ◌∷◌, Option, None}
use Rattle.orca_base.specs.declared.place.Place.{Place}
use Rattle.orca_grammar.specs.Forms.{Mark, Spelled, Begin, End}

-- the place of the first token of marks, where it is kept
abbrev pub first_place : List Mark → Option Place
first_place [] = None
first_place (Spelled at kind ∷ ms) = at
first_place (Begin b ∷ ms) = first_place ms
first_place (End b ∷ ms) = first_place ms
