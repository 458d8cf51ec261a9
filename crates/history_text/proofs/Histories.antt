-- Lines one after the other: what a text begins with, and where it breaks.
use Rattle.std.proofs.Common.{◌≡◌, ℕ, ◌+◌, ◌<◌, ◌≤◌, Bool, true, false, cond, eqb, List, [], ◌∷◌, ◌++◌, length, drop, get_or, Option, Some, None, refl, sym, ap, ◌∙◌, append_assoc, arith}
use Rattle.std.specs.Option.{option_map}
use Rattle.std.proofs.lemmas.Bool.{eqb-true, ne_eqb}
use Rattle.std.proofs.lemmas.Bool.Decides.{nat_tests}
use Rattle.std.specs.List.{AllByRecursion}
use Rattle.std.proofs.lemmas.List.{append-nil, drop_more, length-append}
use Rattle.std.proofs.lemmas.List.Concat.{flat_map-cons}
use Rattle.std.proofs.lemmas.List.Elements.{All-from_recursion, recursion_from_All}
use Rattle.std.proofs.lemmas.Grind.{flat_map-append}
use Rattle.value_core.specs.declared.action.Line.{Line}
use Rattle.value_texts.proofs.Items.{Fits}
use Rattle.history_text.specs.Reading.{line_at}
use Rattle.history_text.specs.Sound.{AreLines, AreFirst, AreTables, IsLine}
use Rattle.history_text.specs.Spelling.{history_text, line_text}
use Rattle.history_text.specs.declared.names.Names.{Names}
use Rattle.history_text.proofs.LineLaws.{line_again, line_prefix, line_some, line_spells}

-- lines that have a text, one by one
abbrev pub Are : Names → List Line → Type 0
Are names lines = AllByRecursion (IsLine names) lines

-- a history whose text another text begins with is the front of that other's history
record Starts (names : Names) (before lines : List Line) (rest : List ℕ) : Type 0 where
  others : List Line
  whole : lines ≡ before ++ others
  are : Are names others
  rest_is : rest ≡ history_text names others

text_first : (names : Names) (line : Line) (lines : List Line) (rest : List ℕ) → history_text names (line ∷ lines) ++ rest ≡ line_text names line ++ (history_text names lines ++ rest)
text_first names line lines rest =
    ap (λ (t : List ℕ). t ++ rest) (flat_map-cons (line_text names) line lines) ∙ append_assoc (line_text names line) (history_text names lines) rest

-- a history with a line has a text
not_nothing : (names : Names) (line : Line) (more : List ℕ) → line_text names line ++ more ≡ [] → ⊥
not_nothing names line more is =
    let long : length (line_text names line ++ more) ≡ 0 = ap length is in
    let some = line_some names line in
    let sum = length-append (line_text names line) more in
    absurd (omega arith)

starts : (names : Names) → AreTables names → (before lines : List Line) (rest : List ℕ) → Are names before → Are names lines → history_text names before ++ rest ≡ history_text names lines → Starts names before lines rest
starts names tables [] lines rest are is same = record { others = lines; whole = refl; are = is; rest_is = same }
starts names tables (one ∷ before) [] rest are is same = absurd (not_nothing names one (history_text names before ++ rest) (sym (text_first names one before rest) ∙ same))
starts names tables (one ∷ before) (two ∷ lines) rest are is same =
    let p = line_prefix names tables one two (history_text names before ++ rest) (history_text names lines) are.0 is.0 (sym (text_first names one before rest) ∙ same ∙ flat_map-cons (line_text names) two lines) in
    let s = starts names tables before lines rest are.1 is.1 p.1 in
    record {
      others = s.others;
      whole = ap (λ (l : Line). l ∷ lines) (sym p.0) ∙ ap (λ (ls : List Line). one ∷ ls) s.whole;
      are = s.are;
      rest_is = s.rest_is;
    }

none_left : (names : Names) (lines : List Line) → history_text names lines ≡ [] → lines ≡ []
none_left names [] is = refl
none_left names (line ∷ lines) is = absurd (not_nothing names line (history_text names lines) (sym (flat_map-cons (line_text names) line lines) ∙ is))

-- a text is that of one history at most
pub one_history : (names : Names) → AreTables names → (one two : List Line) → AreLines names one → AreLines names two → history_text names one ≡ history_text names two → one ≡ two
one_history names tables one two are is same =
    let s = starts names tables one two [] (recursion_from_All (IsLine names) one are) (recursion_from_All (IsLine names) two is) (append-nil (history_text names one) ∙ same) in
    sym (s.whole ∙ ap (λ (ls : List Line). one ++ ls) (none_left names s.others (sym s.rest_is)) ∙ append-nil one)

-- ---- the loop over lines

-- what was read so far, and what is left
pub record IsRead (names : Names) (text : List ℕ) (lines : List Line) (number : ℕ) (rest : List ℕ) : Type 0 where
  pub are : Are names lines
  pub parts : text ≡ history_text names lines ++ rest
  pub counted : number ≡ length lines + 1
  pub few : length lines + length rest ≤ length text

pub begun : (names : Names) (text : List ℕ) → IsRead names text [] 1 text
begun names text = record { are = tt; parts = refl; counted = refl; few = omega arith }

and_one : (names : Names) (lines : List Line) (line : Line) → Are names lines → IsLine names line → Are names (lines ++ line ∷ [])
and_one names [] line are is = (is, tt)
and_one names (one ∷ lines) line are is = (are.0, and_one names lines line are.1 is)

one_text : (names : Names) (line : Line) → history_text names (line ∷ []) ≡ line_text names line
one_text names line = flat_map-cons (line_text names) line [] ∙ append-nil (line_text names line)

fits_left : (names : Names) (text : List ℕ) (lines : List Line) (number : ℕ) (rest : List ℕ) → Fits text → IsRead names text lines number rest → Fits rest
fits_left names text lines number rest fits so_far = omega (arith, so_far.few, fits)

-- one line more
pub more_read : (names : Names) (text : List ℕ) (lines : List Line) (number : ℕ) (rest : List ℕ) (line : Line) (after : List ℕ) → Fits text → line_at names rest ≡ Some (line, after) → IsRead names text lines number rest →
    IsRead names text (lines ++ line ∷ []) (number + 1) after
more_read names text lines number rest line after fits read so_far =
    let t = line_spells names rest (line, after) (fits_left names text lines number rest fits so_far) read in
    let long : length rest ≡ length (line_text names line) + length after = ap length t.0 ∙ length-append (line_text names line) after in
    let some = line_some names line in
    let count = length-append lines (line ∷ []) in
    let grown : history_text names (lines ++ line ∷ []) ≡ history_text names lines ++ line_text names line =
    flat_map-append (line_text names) lines (line ∷ []) ∙ ap (λ (t : List ℕ). history_text names lines ++ t) (one_text names line) in
    record {
      are = and_one names lines line so_far.are t.1;
      parts =
          so_far.parts
          ∙ ap (λ (t : List ℕ). history_text names lines ++ t) t.0
          ∙ sym (append_assoc (history_text names lines) (line_text names line) after)
          ∙ ap (λ (t : List ℕ). t ++ after) (sym grown);
      counted = omega (arith, so_far.counted, count);
      few = omega (arith, so_far.few, long, some, count);
    }

-- each line takes bytes
pub shorter : (names : Names) (rest : List ℕ) (line : Line) (after : List ℕ) → Fits rest → line_at names rest ≡ Some (line, after) → length after < length rest
shorter names rest line after fits read =
    let t = line_spells names rest (line, after) fits read in
    let long : length rest ≡ length (line_text names line) + length after = ap length t.0 ∙ length-append (line_text names line) after in
    let some = line_some names line in
    omega arith

pub left_shorter : (names : Names) (text : List ℕ) (lines : List Line) (number : ℕ) (rest : List ℕ) (line : Line) (after : List ℕ) → Fits text → line_at names rest ≡ Some (line, after) → IsRead names text lines number rest →
    length after < length rest
left_shorter names text lines number rest line after fits read so_far = shorter names rest line after (fits_left names text lines number rest fits so_far) read

is_nothing : (rest : List ℕ) → length rest ≡ 0 → rest ≡ []
is_nothing [] h = refl
is_nothing (c ∷ rest) h = absurd (omega (arith, h))

-- ---- what the next line is

pub some_left : (n : ℕ) → false ≡ eqb n 0 → 0 < n
some_left n h = grind (arith, nat_tests)

pub is_none : (n : ℕ) → eqb n 0 ≡ true → n ≡ 0
is_none n h = eqb-true n 0 h

pub next_none : {B : Type 0} (now : B → List ℕ) (next : Option (Line × B)) (read : Option (Line × List ℕ)) → option_map (λ x. (x.0, now x.1)) next ≡ read → next ≡ None → read ≡ None
next_none {B} now next read e is = sym e ∙ ap (λ (o : Option (Line × B)). option_map (λ x. (x.0, now x.1)) o) is

pub next_some : {B : Type 0} (now : B → List ℕ) (next : Option (Line × B)) (read : Option (Line × List ℕ)) (line : Line) (after : B) → option_map (λ x. (x.0, now x.1)) next ≡ read → next ≡ Some (line, after) → read ≡ Some (line, now after)
next_some {B} now next read line after e is = sym e ∙ ap (λ (o : Option (Line × B)). option_map (λ x. (x.0, now x.1)) o) is

-- ---- the loop that prints

-- one line more was put
pub one_put : (names : Names) (lines : List Line) (i : ℕ) (d : Line) (out new start : List ℕ) → i < length lines → new ≡ out ++ line_text names (get_or lines i d) → out ++ history_text names (drop i lines) ≡ start →
    new ++ history_text names (drop (i + 1) lines) ≡ start
one_put names lines i d out new start lt put so_far =
    let line = get_or lines i d in
    let rest = drop (i + 1) lines in
    ap (λ (t : List ℕ). t ++ history_text names rest) put
    ∙ append_assoc out (line_text names line) (history_text names rest)
    ∙ ap (λ (t : List ℕ). out ++ t) (sym (flat_map-cons (line_text names) line rest))
    ∙ ap (λ (ls : List Line). out ++ history_text names ls) (sym (drop_more lines i d lt))
    ∙ so_far

-- ---- what was read at the end

-- nothing is left
pub all_first : (names : Names) (text : List ℕ) (lines : List Line) (number : ℕ) (rest : List ℕ) → length rest ≡ 0 → IsRead names text lines number rest → AreFirst names text lines None
all_first names text lines number rest none so_far = record {
  are = All-from_recursion (IsLine names) lines so_far.are;
  rest = rest;
  parts = so_far.parts;
  none_ = λ line more is same. not_nothing names line more (sym same ∙ is_nothing rest none);
  told = ap (λ (n : ℕ). cond (eqb n 0) None (Some (length lines + 1))) (sym none);
}

-- no line stands next
none_is : {A : Type 0} (x : A) → None ≡ Some x → ⊥
none_is x e = cc

no_line : (names : Names) → AreTables names → (rest : List ℕ) → line_at names rest ≡ None → (line : Line) (more : List ℕ) → IsLine names line → rest ≡ line_text names line ++ more → ⊥
no_line names tables rest none line more is same = none_is (line, more) (sym none ∙ ap (line_at names) same ∙ line_again names tables line more is)

not_none : (rest : List ℕ) → 0 < length rest → eqb (length rest) 0 ≡ false
not_none rest some = ne_eqb (length rest) 0 (λ (e : length rest ≡ 0). omega (arith, e, some))

told_bad : (rest : List ℕ) (number count : ℕ) → 0 < length rest → number ≡ count → Some number ≡ cond (eqb (length rest) 0) None (Some count)
told_bad [] number count some is = absurd (omega (arith, some))
told_bad (c ∷ rest) number count some is = ap Some is ∙ ap (λ (b : Bool). cond b None (Some count)) (sym (not_none (c ∷ rest) some))

pub bad_first : (names : Names) → AreTables names → (text : List ℕ) (lines : List Line) (number : ℕ) (rest : List ℕ) → 0 < length rest → line_at names rest ≡ None → IsRead names text lines number rest →
    AreFirst names text lines (Some number)
bad_first names tables text lines number rest some none so_far = record {
  are = All-from_recursion (IsLine names) lines so_far.are;
  rest = rest;
  parts = so_far.parts;
  none_ = λ line more is same. no_line names tables rest none line more is same;
  told = told_bad rest number (length lines + 1) some so_far.counted;
}

pub few_read : (names : Names) (text : List ℕ) (lines : List Line) (number : ℕ) (rest : List ℕ) → IsRead names text lines number rest → length lines ≤ length text
few_read names text lines number rest so_far = omega (arith, so_far.few)

-- ---- what that says of the whole text

nothing_left : (rest : List ℕ) (count : ℕ) → None ≡ cond (eqb (length rest) 0) None (Some count) → rest ≡ []
nothing_left [] count e = refl
nothing_left (c ∷ rest) count e = absurd (none_is count (e ∙ ap (λ (b : Bool). cond b None (Some count)) (not_none (c ∷ rest) (omega arith))))

pub whole_read : (names : Names) (text : List ℕ) (lines : List Line) → AreFirst names text lines None → AreLines names lines × (text ≡ history_text names lines)
whole_read names text lines first =
    (first.are, first.parts ∙ ap (λ (t : List ℕ). history_text names lines ++ t) (nothing_left first.rest (length lines + 1) first.told) ∙ append-nil (history_text names lines))

pub only_read : (names : Names) → AreTables names → (text : List ℕ) (lines : List Line) → AreFirst names text lines None → (others : List Line) → AreLines names others → text ≡ history_text names others → lines ≡ others
only_read names tables text lines first others are same =
    let a = whole_read names text lines first in
    one_history names tables lines others a.0 are (sym a.1 ∙ same)

no_lines : (names : Names) (text : List ℕ) (lines : List Line) (number : ℕ) (first : AreFirst names text lines (Some number)) (others : List Line) → Are names others → first.rest ≡ history_text names others → ⊥
no_lines names text lines number first [] are same = none_is number (sym (first.told ∙ ap (λ (r : List ℕ). cond (eqb (length r) 0) None (Some (length lines + 1))) same))
no_lines names text lines number first (line ∷ others) are same = first.none_ line (history_text names others) are.0 (same ∙ flat_map-cons (line_text names) line others)

-- where a line is bad the text is that of no history
pub none_read : (names : Names) → AreTables names → (text : List ℕ) (lines : List Line) (number : ℕ) → AreFirst names text lines (Some number) →
    (others : List Line) → AreLines names others → text ≡ history_text names others → ⊥
none_read names tables text lines number first others are same =
    let s = starts names tables lines others first.rest (recursion_from_All (IsLine names) lines first.are) (recursion_from_All (IsLine names) others are) (sym first.parts ∙ same) in
    no_lines names text lines number first s.others s.are s.rest_is

-- ---- what a text has in front

-- no line stands there
abbrev NoLine : Names → List ℕ → Type 0
NoLine names rest = (line : Line) (more : List ℕ) → IsLine names line → rest ≡ line_text names line ++ more → ⊥

-- two fronts of one text, each up to the first place where no line stands
same_front : (names : Names) → AreTables names → (one two : List Line) (left right : List ℕ) → Are names one → Are names two → NoLine names left → NoLine names right →
    history_text names one ++ left ≡ history_text names two ++ right → (one ≡ two) × (left ≡ right)
same_front names tables [] [] left right is are stops ends same = (refl, same)
same_front names tables [] (line ∷ two) left right is are stops ends same =
    absurd (stops line (history_text names two ++ right) are.0 (same ∙ text_first names line two right))
same_front names tables (line ∷ one) [] left right is are stops ends same =
    absurd (ends line (history_text names one ++ left) is.0 (sym same ∙ text_first names line one left))
same_front names tables (line ∷ one) (other ∷ two) left right is are stops ends same =
    let p = line_prefix names tables line other (history_text names one ++ left) (history_text names two ++ right) is.0 are.0 (sym (text_first names line one left) ∙ same ∙ text_first names other two right) in
    let q = same_front names tables one two left right is.1 are.1 stops ends p.1 in
    (ap (λ (l : Line). l ∷ one) p.0 ∙ ap (λ (ls : List Line). other ∷ ls) q.0, q.1)

abbrev bad_of : List ℕ → List Line → Option ℕ
bad_of rest lines = cond (eqb (length rest) 0) None (Some (length lines + 1))

-- so a text has one front, and at most one first line that is none
pub one_front : (names : Names) → AreTables names → (text : List ℕ) (one two : List Line) (bad worse : Option ℕ) → AreFirst names text one bad → AreFirst names text two worse → (one ≡ two) × (bad ≡ worse)
one_front names tables text one two bad worse first other =
    let s = same_front names tables one two first.rest other.rest (recursion_from_All (IsLine names) one first.are) (recursion_from_All (IsLine names) two other.are) first.none_ other.none_ (sym first.parts ∙ other.parts) in
    (s.0, first.told ∙ ap (λ (rest : List ℕ). bad_of rest one) s.1 ∙ ap (λ (lines : List Line). bad_of other.rest lines) s.0 ∙ sym other.told)

-- all of a history's text is its lines
pub whole_front : (names : Names) (lines : List Line) → AreLines names lines → AreFirst names (history_text names lines) lines None
whole_front names lines are = record {
  are = are;
  rest = [];
  parts = sym (append-nil (history_text names lines));
  none_ = λ line more is same. not_nothing names line more (sym same);
  told = refl;
}
