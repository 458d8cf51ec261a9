-- The line of a place, and a mark under it.
use Rattle.std.specs.Prelude.{ℕ, suc, zero, ◌+◌, ◌-◌, ◌==◌, ◌||◌, ◌&&◌, not, Bool, List, [], ◌∷◌, ◌++◌, take, take_while, drop, map, filter, length, nat_lt, nat_le, codes, if◌then◌else◌}
use Rattle.std.specs.Fmt.{decimal}
use Rattle.std.specs.List.{prefix_len}
use Rattle.orca_lexer.specs.Shapes.{is_name_byte}
use Rattle.refusal_notes.specs.declared.excerpt.TheConstants.{LONGEST_SHOWN}
use Rattle.refusal_notes.specs.declared.spot.Spot.{Spot}

-- how many bytes stand in front of the first line feed
abbrev pub line_length : List ℕ → ℕ
line_length text = prefix_len (λ byte. not (byte == 10)) text

abbrev pub first_line : List ℕ → List ℕ
first_line text = take (line_length text) text

abbrev pub behind_line : List ℕ → List ℕ
behind_line text = drop (line_length text + 1) text

-- what stands behind so many lines
abbrev pub behind_lines : ℕ → List ℕ → List ℕ
behind_lines zero text = text
behind_lines (suc n) text = behind_line (behind_lines n text)

-- the line with this number, from 1, without its line feed; empty where the text has fewer
abbrev pub line_at : ℕ → List ℕ → List ℕ
line_at number text = first_line (behind_lines (number - 1) text)

-- the word at a place: letters, digits and `_`
abbrev pub word_at : Spot → List ℕ
word_at spot = take_while is_name_byte (drop (spot.at.column - 1) (line_at spot.at.line spot.text.now))

-- the first byte of a character in UTF-8
abbrev pub begins_character : ℕ → Bool
begins_character byte = nat_lt byte 128 || nat_le 192 byte

-- a tab stands under a tab, and a blank under any other character
abbrev pub blank : ℕ → ℕ
blank byte = if byte == 9 then 9 else 32

-- what stands under these bytes
abbrev pub under : List ℕ → List ℕ
under line = map blank (filter begins_character line)

-- a byte that moves a terminal, other than a tab, is shown as `?`
abbrev pub shown : ℕ → ℕ
shown byte = if byte == 9 || (nat_le 32 byte && not (byte == 127)) then byte else 63

-- the line of this number, and a mark under what stands behind so many of its bytes
abbrev pub marked : List ℕ → List ℕ → ℕ → List ℕ
marked number line before =
    if nat_lt LONGEST_SHOWN (length line) then []
    else codes "  " ++ number ++ codes " | " ++ map shown line ++ (10 ∷ codes "  ") ++ under number ++ codes " | " ++ under (take before line) ++ (94 ∷ 10 ∷ [])

-- `FILE:LINE:COLUMN`
abbrev pub head : Spot → List ℕ
head spot = spot.file.now ++ (codes ":" ++ (decimal spot.at.line ++ (codes ":" ++ (decimal spot.at.column ++ 10 ∷ []))))

-- the place, its line, and the mark under it
abbrev pub excerpt : Spot → List ℕ
excerpt spot = head spot ++ marked (decimal spot.at.line) (line_at spot.at.line spot.text.now) (spot.at.column - 1)
