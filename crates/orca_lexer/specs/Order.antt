-- The order of places, which is that of the text.
use Rattle.std.specs.Prelude.{◌≡◌, ◌<◌, ◌⊎◌}
use Rattle.orca_base.specs.declared.place.Place.{Place}

-- a place stands before another of the same text: on an earlier line, or on its line and in an earlier column
abbrev pub StandsBefore : Place → Place → Type 0
StandsBefore p q = (p.line < q.line) ⊎ ((p.line ≡ q.line) × (p.column < q.column))
