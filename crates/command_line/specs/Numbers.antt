-- Which words are numbers.
use Rattle.std.specs.Prelude.{ℕ, ◌&&◌, List, length, Option, Some, None, option_and_then, nat_le, nat_lt, if◌then◌else◌}
use Rattle.std.specs.Char.{is_ascii_digit}
use Rattle.std.specs.List.{list_all}
use Rattle.std.specs.Str.Parse.{digits_value}
use Rattle.command_line.specs.declared.numbers.TheConstants.{NUMBER_DIGITS}

-- the number that 1 to 19 decimal digits write
abbrev pub number_of : List ℕ → Option ℕ
number_of text =
    if nat_lt 0 (length text) && nat_le (length text) NUMBER_DIGITS &&
    list_all is_ascii_digit text then Some (digits_value 10 text) else None

-- the same, where it is in the range
abbrev pub number_in : ℕ → ℕ → List ℕ → Option ℕ
number_in least most text = option_and_then (λ n. if nat_le least n && nat_le n most then Some n else None) (number_of text)
