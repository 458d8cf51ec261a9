-- Memberships of types in components, of types that lead to one another, which one look at each type and its parts tests. A type has a
-- rank, which none of its parts is above; a root, which a part of the same rank shares; a part that is nearer to the root, and a type that
-- has it as a part and is nearer from the root.
use Rattle.std.specs.Prelude.{◌≡◌, ℕ, ◌<◌, nat_lt, Bool, true, false, ◌&&◌, ◌||◌, ◌==◌, List, length, slice_get, Option, Some, None}
use Rattle.std.specs.List.{list_all, list_any}
use Rattle.type_forms.specs.Parts.{parts_in}
use Rattle.type_cycles.specs.declared.components.Membership.{Membership}

abbrev pub or_no_member : Option Membership → Membership
or_no_member None = record { rank = 0; root = 0; next = 0; to_root = 0; previous = 0; previous_at = 0; from_root = 0 }
or_no_member (Some m) = m

abbrev pub membership : List Membership → ℕ → Membership
membership members i = or_no_member (slice_get members i)

-- a part is a type, and of a lower rank or of the same rank and root
abbrev pub falls_to : List Membership → ℕ → Membership → ℕ → Bool
falls_to members count m h =
    nat_lt h count && (nat_lt (membership members h).rank m.rank || ((membership members h).rank == m.rank && (membership members h).root == m.root))

abbrev pub is_nearer_to : List Membership → Membership → Option ℕ → Bool
is_nearer_to members m None = false
is_nearer_to members m (Some h) = (membership members h).root == m.root && nat_lt (membership members h).to_root m.to_root

-- a type is its root, or has a part that is nearer to the root
abbrev pub leads_to_root : List (List ℕ) → List Membership → ℕ → Bool
leads_to_root parts members i =
    (membership members i).root == i || is_nearer_to members (membership members i) (slice_get (parts_in parts i) (membership members i).next)

abbrev pub is_this : ℕ → Option ℕ → Bool
is_this i None = false
is_this i (Some h) = h == i

abbrev pub is_nearer_from : List (List ℕ) → List Membership → ℕ → Membership → Bool
is_nearer_from parts members i m =
    is_this i (slice_get (parts_in parts m.previous) m.previous_at)
    && ((membership members m.previous).root == m.root && nat_lt (membership members m.previous).from_root m.from_root)

-- a type is its root, or a part of one that is nearer from the root
abbrev pub led_from_root : List (List ℕ) → List Membership → ℕ → Bool
led_from_root parts members i = (membership members i).root == i || is_nearer_from parts members i (membership members i)

abbrev pub right_at : List (List ℕ) → List Membership → ℕ → Bool
right_at parts members i =
    list_all (falls_to members (length parts) (membership members i)) (parts_in parts i) && (leads_to_root parts members i && led_from_root parts members i)

-- what all memberships say is so
abbrev pub AreRight : List (List ℕ) → List Membership → Type 0
AreRight parts members = (i : ℕ) → i < length parts → right_at parts members i ≡ true

-- a part has the rank of its type
abbrev pub on_cycle_at : List (List ℕ) → List Membership → ℕ → Bool
on_cycle_at parts members i = list_any (λ h. (membership members h).rank == (membership members i).rank) (parts_in parts i)
