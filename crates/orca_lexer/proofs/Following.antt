-- One token behind the other: there is one list of tokens, and one first reason for none.
use Rattle.std.proofs.Common.{◌≡◌, ℕ, ◌-◌, ◌+◌, ◌<◌, ◌≤◌, Bool, List, [], ◌∷◌, ◌++◌, length, drop, refl, sym, ap, ◌∙◌, arith, length-append, length-drop, length-take}
use Rattle.std.specs.Prelude.{slice_range}
use Rattle.std.proofs.lemmas.List.{drop-drop}
use Rattle.orca_lexer.specs.declared.cursor.Cursor.{Cursor}
use Rattle.orca_lexer.specs.declared.error.LexRule.{LexRule}
use Rattle.orca_lexer.specs.declared.token.Token.{Token}
use Rattle.orca_lexer.specs.declared.token.TokenKind.{TokenKind}
use Rattle.orca_lexer.specs.Tokens.{IsLongest, IsStart, Means, Begins, Follow, end_of, after_gap}
use Rattle.orca_lexer.specs.Refusal.{IsSenseless, IsFault}
use Rattle.orca_lexer.specs.Refusal.IsSenseless.{large, not_one, in_char, in_string}
use Rattle.orca_lexer.specs.Refusal.IsFault.{senseless, unclosed, stray}
use Rattle.orca_lexer.specs.Fronts.{IsFront}
use Rattle.orca_lexer.specs.Cursors.{IsAt, StartsToken}
use Rattle.orca_lexer.proofs.Longest.{no_empty_lexeme}
use Rattle.orca_lexer.proofs.Extents.{literal_long}

-- ---- a token of the text

pub longest_some : (word rest : List ℕ) → IsLongest word rest → 0 < length word
longest_some word rest longest = no_empty_lexeme word longest.lexeme

pub record IsSlice (text : List ℕ) (kind : TokenKind) (start end : ℕ) : Type 0 where
  pub within : end ≤ length text
  pub longest : IsLongest (slice_range text start end) (drop end text)
  pub means : Means (slice_range text start end) kind

pub front_slice : (text : List ℕ) (offset end len : ℕ) (kind : TokenKind) → offset ≤ length text → end ≡ offset + len → IsFront (drop offset text) kind len → IsSlice text kind offset end
front_slice text offset end len kind within is front =
    let e : end - offset ≡ len = omega arith in
    let back : drop end text ≡ drop len (drop offset text) = ap (λ n. drop n text) is ∙ sym (drop-drop len offset text) in
    let fits = front.within in
    record {
      within = omega (arith, length-drop offset text);
      longest = rw (e, back) front.longest;
      means = rw e front.means;
    }

-- ---- where a fault is

senseless_within : (word : List ℕ) (rule : LexRule) (n : ℕ) → 0 < length word → IsSenseless word rule n → n < length word
senseless_within word rule n some (large _ _) = some
senseless_within word rule n some (not_one _ _) = some
senseless_within word rule n some (in_char k literal _ wrong) =
    let within = wrong.within in
    omega (arith, literal_long 39 word literal, length-take (length word - 2) (drop 1 word), length-drop 1 word)
senseless_within word rule n some (in_string k literal wrong) =
    let within = wrong.within in
    omega (arith, literal_long 34 word literal, length-take (length word - 2) (drop 1 word), length-drop 1 word)

start_some : (p : ℕ → Bool) (text : List ℕ) → IsStart p text → 0 < length text
start_some p [] s = absurd s
start_some p (c ∷ cs) s = omega arith

pub fault_within : (text : List ℕ) (rule : LexRule) (n : ℕ) → IsFault text rule n → n < length text
fault_within text rule n (senseless _ _ word rest split longest wrong) =
    let inside = senseless_within word rule n (longest_some word rest longest) wrong in
    omega (arith, ap length split, length-append word rest)
fault_within text rule n (unclosed start _) = start_some _ text start
fault_within text rule n (stray start _) = start_some _ text start

-- ---- the loop over the tokens

pub record IsReadTo (text : List ℕ) (found : List Token) (cursor : Cursor) : Type 0 where
  pub at : IsAt text cursor
  pub follow : Follow text 0 found
  pub gap : drop cursor.offset text ≡ after_gap (drop (end_of 0 found) text)

end_push : (from : ℕ) (found : List Token) (token : Token) → end_of from (found ++ token ∷ []) ≡ token.end
end_push from [] token = refl
end_push from (t ∷ found) token = end_push t.end found token

follow_push : (text : List ℕ) (from : ℕ) (found : List Token) (token : Token) → Follow text from found → Begins text (end_of from found) token → Follow text from (found ++ token ∷ [])
follow_push text from [] token f b = (b, tt)
follow_push text from (t ∷ found) token f b = (f.0, follow_push text t.end found token f.1 b)

pub read_none : (text : List ℕ) (cursor : Cursor) → IsAt text cursor → drop cursor.offset text ≡ after_gap (drop 0 text) → IsReadTo text [] cursor
read_none text cursor at gap = record { at = at; follow = tt; gap = gap }

pub read_more : (text : List ℕ) (found : List Token) (cursor : Cursor) (token : Token) (behind left : Cursor) → IsReadTo text found cursor → StartsToken text cursor.offset token behind → IsAt text left → drop left.offset text ≡ after_gap (drop behind.offset text) → IsReadTo text (found ++ token ∷ []) left
read_more text found cursor token behind left read starts at gap =
    let begins : Begins text (end_of 0 found) token = record {
      gap = ap (λ n. drop n text) starts.start ∙ read.gap;
      within = starts.within;
      longest = starts.longest;
      means = starts.means;
      place = starts.place;
    } in
    record {
      at = at;
      follow = follow_push text 0 found token read.follow begins;
      gap = gap ∙ ap (λ n. after_gap (drop n text)) (starts.end ∙ sym (end_push 0 found token));
    }

pub further : (text : List ℕ) (offset : ℕ) (token : Token) (behind : Cursor) → StartsToken text offset token behind → offset < behind.offset
further text offset token behind starts =
    let some = longest_some _ _ starts.longest in
    let short = length-take (token.end - token.start) (drop token.start text) in
    let start = starts.start in
    let end = starts.end in
    omega arith
