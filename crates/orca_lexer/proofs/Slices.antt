-- Each token has a slice of the text, and a place behind it; and tokens stand in text order, as their places do.
use Rattle.std.proofs.Common.{◌≡◌, ℕ, ◌+◌, ◌-◌, ◌<◌, ◌≤◌, List, [], ◌∷◌, length, take, drop, ap, arith, length-take, length-drop}
use Rattle.std.specs.Prelude.{slice_range, not, ◌==◌, ◌^◌}
use Rattle.std.specs.List.{All, AllByRecursion, AllPairs, suffix_len}
use Rattle.std.proofs.lemmas.List.Elements.{All-from_recursion}
use Rattle.std.proofs.lemmas.List.Kept.{AllPairs-cons}
use Rattle.std.proofs.lemmas.List.Sums.{suffix_len-le-length}
use Rattle.orca_base.specs.declared.place.Place.{Place}
use Rattle.orca_lexer.specs.declared.token.Token.{Token}
use Rattle.orca_lexer.specs.Tokens.{Begins, Follow, HasRoom, Tokens, place_in}
use Rattle.orca_lexer.specs.Order.{StandsBefore}
use Rattle.orca_lexer.proofs.Longest.{no_empty_lexeme}
use Rattle.orca_lexer.proofs.Shorter.{gap_length}
use Rattle.orca_lexer.proofs.Places.{place_rises}

-- ---- one token

record IsSliceOf (text : List ℕ) (from : ℕ) (t : Token) : Type 0 where
  behind : from ≤ length text → from ≤ t.start
  some : t.start < t.end
  within : t.end ≤ length text
  column : t.at.column ≤ 1 + t.start

slice_of : (text : List ℕ) (from : ℕ) (t : Token) → Begins text from t → IsSliceOf text from t
slice_of text from t b =
    let nonempty = no_empty_lexeme (slice_range text t.start t.end) b.longest.lexeme in
    let within = b.within in
    let some : t.start < t.end = omega (arith, nonempty, length-take (t.end - t.start) (drop t.start text)) in
    let tail = suffix_len-le-length (λ c. not (c == 10)) (take t.start text) in
    let place : t.at.column ≡ 1 + suffix_len (λ c. not (c == 10)) (take t.start text) = ap (λ (p : Place). p.column) b.place in
    let gap = gap_length (drop from text) in
    record {
      behind = λ inside. omega (arith, inside, gap, ap length b.gap, length-drop t.start text, length-drop from text);
      some = some;
      within = within;
      column = omega (arith, length-take t.start text);
    }

-- ---- room

abbrev pub EndsIn : List ℕ → Token → Type 0
EndsIn text t = t.end ≤ length text

room_of : (text : List ℕ) (from : ℕ) (t : Token) → length text < 2 ^ 32 - 1 → Begins text from t → HasRoom t
room_of text from t short b =
    let s = slice_of text from t b in
    let some = s.some in
    let within = s.within in
    let column = s.column in
    record { slice = omega arith; place = omega arith }

follow_room : (text : List ℕ) (from : ℕ) (ts : List Token) → length text < 2 ^ 32 - 1 → Follow text from ts → AllByRecursion HasRoom ts
follow_room text from [] short f = tt
follow_room text from (t ∷ ts) short f = (room_of text from t short f.0, follow_room text t.end ts short f.1)

follow_within : (text : List ℕ) (from : ℕ) (ts : List Token) → Follow text from ts → AllByRecursion (EndsIn text) ts
follow_within text from [] f = tt
follow_within text from (t ∷ ts) f = let begins = f.0 in (begins.within, follow_within text t.end ts f.1)

pub tokens_room : (text : List ℕ) (ts : List Token) → length text < 2 ^ 32 - 1 → Tokens text ts → All HasRoom ts
tokens_room text ts short h = All-from_recursion HasRoom ts (follow_room text 0 ts short h.follow)

pub tokens_within : (text : List ℕ) (ts : List Token) → Tokens text ts → All (EndsIn text) ts
tokens_within text ts h = All-from_recursion (EndsIn text) ts (follow_within text 0 ts h.follow)

-- ---- text order

follow_behind : (text : List ℕ) (from : ℕ) (n : ℕ) (ts : List Token) → n ≤ from → from ≤ length text → Follow text from ts → AllByRecursion (λ t. n ≤ t.start) ts
follow_behind text from n [] low inside f = tt
follow_behind text from n (t ∷ ts) low inside f =
    let s = slice_of text from t f.0 in
    let begins = s.behind inside in
    let some = s.some in
    (omega arith, follow_behind text t.end n ts (omega arith) s.within f.1)

abbrev pub EndsBefore : Token → Token → Type 0
EndsBefore one other = one.end ≤ other.start

follow_rise : (text : List ℕ) (from : ℕ) (ts : List Token) → Follow text from ts → AllPairs EndsBefore ts
follow_rise text from [] f = λ i j d before within. absurd (omega (arith, within))
follow_rise text from (t ∷ ts) f =
    let s = slice_of text from t f.0 in
    AllPairs-cons EndsBefore t ts (All-from_recursion (EndsBefore t) ts (follow_behind text t.end t.end ts (omega arith) s.within f.1)) (follow_rise text t.end ts f.1)

pub tokens_rise : (text : List ℕ) (ts : List Token) → Tokens text ts → AllPairs EndsBefore ts
tokens_rise text ts h = follow_rise text 0 ts h.follow

-- ---- and their places

-- every token has a later place than this one, which is that of a byte in front of them
follow_later : (text : List ℕ) (from n : ℕ) (p : Place) (ts : List Token) → p ≡ place_in text n → n < from → from ≤ length text → Follow text from ts → AllByRecursion (λ t. StandsBefore p t.at) ts
follow_later text from n p [] at low inside f = tt
follow_later text from n p (t ∷ ts) at low inside f =
    let s = slice_of text from t f.0 in
    let begins = s.behind inside in
    let some = s.some in
    let token = f.0 in
    let rises = place_rises text n t.start (omega (arith, low, begins)) (omega (arith, some, s.within)) in (
      rw (at, token.place) rises,
      follow_later text t.end n p ts at (omega (arith, low, begins, some)) s.within f.1,
    )

-- each place stands before all later ones
abbrev pub Rise : List Token → Type 0
Rise [] = Unit {0}
Rise (t ∷ ts) = AllByRecursion (λ u. StandsBefore t.at u.at) ts × Rise ts

follow_places : (text : List ℕ) (from : ℕ) (ts : List Token) → Follow text from ts → Rise ts
follow_places text from [] f = tt
follow_places text from (t ∷ ts) f =
    let s = slice_of text from t f.0 in
    let token = f.0 in
    (follow_later text t.end t.start t.at ts token.place s.some s.within f.1, follow_places text t.end ts f.1)

pub places_in_turn : (text : List ℕ) (ts : List Token) → Tokens text ts → Rise ts
places_in_turn text ts h = follow_places text 0 ts h.follow

abbrev pub HasEarlierPlace : Token → Token → Type 0
HasEarlierPlace one other = StandsBefore one.at other.at

all_pairs : (ts : List Token) → Rise ts → AllPairs HasEarlierPlace ts
all_pairs [] r = λ i j d before within. absurd (omega (arith, within))
all_pairs (t ∷ ts) r = AllPairs-cons HasEarlierPlace t ts (All-from_recursion (HasEarlierPlace t) ts r.0) (all_pairs ts r.1)

pub tokens_places : (text : List ℕ) (ts : List Token) → Tokens text ts → AllPairs HasEarlierPlace ts
tokens_places text ts h = all_pairs ts (places_in_turn text ts h)
