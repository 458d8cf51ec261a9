-- What a coordinator reads of the answers that it keeps, which are a list of members with their Joins: docs/RUNTIME.md, A reset.
use Rattle.std.specs.Prelude.{ℕ, Bool, List, Option, is_some, ◌+◌, ◌==◌, ◌&&◌, ◌||◌, nat_lt, length}
use Rattle.group_packets.specs.declared.packet.Join.{Join}
use Rattle.group_rules.specs.Reset.{best_of, greatest_of}
use Rattle.group_member.specs.StandsFor.{join_of}

-- whether the member answered
abbrev pub gave_by : {B R : Type 0} → List (ℕ × Join B R) → ℕ → Bool
gave_by answers x = is_some (join_of x answers)

-- how many entries the answer's log has
abbrev pub extent_of : {B R : Type 0} → Join B R → ℕ
extent_of join = join.base + length join.messages

-- b's log is of a later incarnation than a's, or of the same with more entries
abbrev pub beats_by : {B R : Type 0} → Join B R → Join B R → Bool
beats_by b a = nat_lt a.installed b.installed || ((b.installed == a.installed) && nat_lt (extent_of a) (extent_of b))

-- of the answers of so many members the one with the greatest installed incarnation, then the greatest length, then the lowest member
abbrev pub best_by : {B R : Type 0} → ℕ → List (ℕ × Join B R) → Option (Join B R)
best_by n answers = best_of beats_by n (λ x. join_of x answers)

-- the accepted number that an answer reports
abbrev pub accepted_in : {B R : Type 0} → Join B R → ℕ
accepted_in join = join.accepted

-- the greatest accepted number that is reported, the own one among them
abbrev pub most_by : {B R : Type 0} → ℕ → List (ℕ × Join B R) → ℕ → ℕ
most_by n answers own = greatest_of accepted_in n (λ x. join_of x answers) own

-- a member with the applied number that it reported
abbrev pub applied_with : {B R : Type 0} → ℕ × Join B R → ℕ × ℕ
applied_with answer = (answer.0, answer.1.applied)
