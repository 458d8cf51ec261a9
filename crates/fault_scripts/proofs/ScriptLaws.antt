-- What is read of a text is what it says, what it says is read, and what is refused is its first wrong line.
use Rattle.std.proofs.Common.{◌≡◌, ℕ, zero, suc, ◌+◌, ◌≤◌, Bool, true, false, cond, List, [], ◌∷◌, length, take, drop, ap, refl, sym, subst, ◌∙◌, arith}
use Rattle.std.specs.Prelude.{Option, Some, None, Result, Ok, Err, not, ◌||◌, if◌then◌else◌}
use Rattle.std.specs.List.{AllByRecursion, cons_option, filter, list_any}
use Rattle.std.specs.Str.{IsUtf8, is_utf8}
use Rattle.std.proofs.lemmas.List.Sums.{length-filter}
use Rattle.std.proofs.lemmas.Str.{IsUtf8-from_is_utf8, is_utf8-from_IsUtf8}
use Rattle.net_rules.specs.declared.line.ScriptLine.{ScriptLine}
use Rattle.fault_scripts.specs.declared.error.ScriptError.{ScriptError}
use Rattle.fault_scripts.specs.declared.error.ScriptError.TheVariants.{UnknownWord}
use Rattle.fault_scripts.specs.Words.{lines_of, words_of}
use Rattle.fault_scripts.specs.Says.{AreSaid, IsScript, SayAll, Says, is_seed, speaks}
use Rattle.fault_scripts.specs.Reading.{◌>>=◌, line_at, lines_at, said_at, script_at, seeded_by}
use Rattle.fault_scripts.specs.Script.{IsRefusal}
use Rattle.fault_scripts.proofs.LineLaws.{NotAgain, bind_ok, ok_is, said_again, said_ok}

-- a line says this, if anything
abbrev LineSays : Bool → List ℕ → Option ScriptLine → Type 0
LineSays seeded line None = speaks line ≡ false
LineSays seeded line (Some said) = (speaks line ≡ true) × Says (words_of line) said × NotAgain seeded said

-- the two tests of a line
abbrev judged : ℕ → Bool → Bool → Result ScriptLine ScriptError → Result (Option ScriptLine) ScriptError
judged number utf8 speaking said = if not utf8 then Err (UnknownWord number) else (if speaking then (said >>= λ x. Ok (Some x)) else Ok None)

line_judged : (seeded : Bool) (number : ℕ) (line : List ℕ) (b p : Bool) → is_utf8 line ≡ b → speaks line ≡ p →
    line_at seeded number line ≡ judged number b p (said_at seeded number (words_of line))
unfolding line_at
line_judged seeded number line b p e f =
    ap (λ x. judged number x (speaks line) (said_at seeded number (words_of line))) e ∙ ap (λ x. judged number b x (said_at seeded number (words_of line))) f

some_ok : (one : Option ScriptLine) (line : ScriptLine) (seeded : Bool) (bytes : List ℕ) → Some line ≡ one → speaks bytes ≡ true → Says (words_of bytes) line × NotAgain seeded line → LineSays seeded bytes one
some_ok one line seeded bytes same speaking says = subst (λ (o : Option ScriptLine). LineSays seeded bytes o) same (speaking, says.0, says.1)

line_ok-sort : (seeded : Bool) (number : ℕ) (line : List ℕ) (one : Option ScriptLine) (b p : Bool) → is_utf8 line ≡ b → speaks line ≡ p →
    judged number b p (said_at seeded number (words_of line)) ≡ Ok one → IsUtf8 line × LineSays seeded line one
line_ok-sort seeded number line one false p e f h = absurd (cc)
line_ok-sort seeded number line one true false e f h =
    (IsUtf8-from_is_utf8 line e, subst (λ (o : Option ScriptLine). LineSays seeded line o) (ok_is None one h) f)
line_ok-sort seeded number line one true true e f h =
    let b = bind_ok (said_at seeded number (words_of line)) (λ x. Ok (Some x)) one h in
    (IsUtf8-from_is_utf8 line e, some_ok one b.0 seeded line (ok_is (Some b.0) one b.2) f (said_ok seeded number (words_of line) b.0 b.1))

line_ok : (seeded : Bool) (number : ℕ) (line : List ℕ) (one : Option ScriptLine) → line_at seeded number line ≡ Ok one → IsUtf8 line × LineSays seeded line one
line_ok seeded number line one h =
    line_ok-sort seeded number line one (is_utf8 line) (speaks line) refl refl (sym (line_judged seeded number line (is_utf8 line) (speaks line) refl refl) ∙ h)

line_again : (seeded : Bool) (number : ℕ) (line : List ℕ) (one : Option ScriptLine) → IsUtf8 line → LineSays seeded line one → line_at seeded number line ≡ Ok one
line_again seeded number line None utf8 says = line_judged seeded number line true false (is_utf8-from_IsUtf8 line utf8) says
line_again seeded number line (Some said) utf8 says =
    line_judged seeded number line true true (is_utf8-from_IsUtf8 line utf8) says.0
    ∙ ap (λ r. r >>= λ x. Ok (Some x)) (said_again seeded number (words_of line) said says.1 says.2)

-- a line of random words stands once at most, and not where one stood before
abbrev OneSeed : Bool → List ScriptLine → Type 0
OneSeed seeded [] = Unit {0}
OneSeed seeded (one ∷ said) = NotAgain seeded one × OneSeed (seeded || is_seed one) said

-- how many of them there are
abbrev seeds : List ScriptLine → ℕ
seeds said = length (filter is_seed said)

abbrev allowed : Bool → ℕ
allowed seeded = if seeded then 0 else 1

seeds_cons : (one : ScriptLine) (said : List ScriptLine) (b : Bool) → is_seed one ≡ b → seeds (one ∷ said) ≡ (if b then 1 + seeds said else seeds said)
seeds_cons one said true e = ap (λ b. length (cond b (one ∷ filter is_seed said) (filter is_seed said))) e ∙ omega arith
seeds_cons one said false e = ap (λ b. length (cond b (one ∷ filter is_seed said) (filter is_seed said))) e

few-sort : (seeded : Bool) (one : ScriptLine) (said : List ScriptLine) (b : Bool) → is_seed one ≡ b → NotAgain seeded one → seeds said ≤ allowed (seeded || b) → seeds (one ∷ said) ≤ allowed seeded
few-sort true one said true e apart le = let no : true ≡ false = apart e in absurd (cc)
few-sort false one said true e apart le = let n = seeds_cons one said true e in omega arith
few-sort true one said false e apart le = let n = seeds_cons one said false e in omega arith
few-sort false one said false e apart le = let n = seeds_cons one said false e in omega arith

few : (seeded : Bool) (said : List ScriptLine) → OneSeed seeded said → seeds said ≤ allowed seeded
few true [] once = omega arith
few false [] once = omega arith
few seeded (one ∷ said) once = few-sort seeded one said (is_seed one) refl once.0 (few (seeded || is_seed one) said once.1)

once-sort : (seeded : Bool) (one : ScriptLine) (said : List ScriptLine) (b : Bool) → is_seed one ≡ b → seeds (one ∷ said) ≤ allowed seeded →
    NotAgain seeded one × (seeds said ≤ allowed (seeded || b))
once-sort true one said true e le = let n = seeds_cons one said true e in absurd (omega arith)
once-sort false one said true e le = let n = seeds_cons one said true e in (λ h. refl, omega arith)
once-sort true one said false e le = let n = seeds_cons one said false e in (λ h. let no : true ≡ false = sym h ∙ e in absurd (cc), omega arith)
once-sort false one said false e le = let n = seeds_cons one said false e in (λ h. refl, omega arith)

once_of : (seeded : Bool) (said : List ScriptLine) → seeds said ≤ allowed seeded → OneSeed seeded said
once_of seeded [] le = tt
once_of seeded (one ∷ said) le =
    let s = once-sort seeded one said (is_seed one) refl le in
    (s.0, once_of (seeded || is_seed one) said s.1)

-- lines say these, where a line of random words stood before or not
record Told (seeded : Bool) (lines : List (List ℕ)) (said : List ScriptLine) : Type 0 where
  pub utf8 : AllByRecursion IsUtf8 lines
  pub each : SayAll (filter speaks lines) said
  pub once : OneSeed seeded said

told_of : (lines : List (List ℕ)) (said : List ScriptLine) → AreSaid lines said → Told false lines said
told_of lines said s = record { utf8 = s.utf8; each = s.each; once = once_of false said (omega (arith, length-filter is_seed said, s.seeds)) }

said_of : (lines : List (List ℕ)) (said : List ScriptLine) → Told false lines said → AreSaid lines said
said_of lines said t = record { utf8 = t.utf8; each = t.each; seeds = omega (arith, length-filter is_seed said, few false said t.once) }

-- one line in front
quiet_filter : (line : List ℕ) (lines : List (List ℕ)) → speaks line ≡ false → filter speaks (line ∷ lines) ≡ filter speaks lines
quiet_filter line lines e = ap (λ b. cond b (line ∷ filter speaks lines) (filter speaks lines)) e

loud_filter : (line : List ℕ) (lines : List (List ℕ)) → speaks line ≡ true → filter speaks (line ∷ lines) ≡ line ∷ filter speaks lines
loud_filter line lines e = ap (λ b. cond b (line ∷ filter speaks lines) (filter speaks lines)) e

told_cons : (seeded : Bool) (line : List ℕ) (lines : List (List ℕ)) (one : Option ScriptLine) (said : List ScriptLine) → IsUtf8 line → LineSays seeded line one →
    Told (seeded_by seeded one) lines said → Told seeded (line ∷ lines) (cons_option one said)
told_cons seeded line lines None said utf8 says t = record {
  utf8 = (utf8, t.utf8);
  each = subst (λ (ls : List (List ℕ)). SayAll ls said) (sym (quiet_filter line lines says)) t.each;
  once = t.once;
}
told_cons seeded line lines (Some one) said utf8 says t = record {
  utf8 = (utf8, t.utf8);
  each = subst (λ (ls : List (List ℕ)). SayAll ls (one ∷ said)) (sym (loud_filter line lines says.0)) (says.1, t.each);
  once = (says.2, t.once);
}

-- and off it
record Parts (seeded : Bool) (line : List ℕ) (lines : List (List ℕ)) (said : List ScriptLine) : Type 0 where
  pub one : Option ScriptLine
  pub others : List ScriptLine
  pub is : cons_option one others ≡ said
  pub utf8 : IsUtf8 line
  pub says : LineSays seeded line one
  pub more : Told (seeded_by seeded one) lines others

loud_parts : (seeded : Bool) (line : List ℕ) (lines : List (List ℕ)) (said : List ScriptLine) → speaks line ≡ true → Told seeded (line ∷ lines) said → SayAll (line ∷ filter speaks lines) said →
    Parts seeded line lines said
loud_parts seeded line lines [] e t each = absurd each
loud_parts seeded line lines (one ∷ said) e t each = record {
  one = Some one;
  others = said;
  is = refl;
  utf8 = t.utf8.0;
  says = (e, each.0, t.once.0);
  more = record { utf8 = t.utf8.1; each = each.1; once = t.once.1 };
}

parts-sort : (seeded : Bool) (line : List ℕ) (lines : List (List ℕ)) (said : List ScriptLine) (b : Bool) → speaks line ≡ b → Told seeded (line ∷ lines) said → Parts seeded line lines said
parts-sort seeded line lines said true e t =
    loud_parts seeded line lines said e t (subst (λ (ls : List (List ℕ)). SayAll ls said) (loud_filter line lines e) t.each)
parts-sort seeded line lines said false e t = record {
  one = None;
  others = said;
  is = refl;
  utf8 = t.utf8.0;
  says = e;
  more = record { utf8 = t.utf8.1; each = subst (λ (ls : List (List ℕ)). SayAll ls said) (quiet_filter line lines e) t.each; once = t.once };
}

parts : (seeded : Bool) (line : List ℕ) (lines : List (List ℕ)) (said : List ScriptLine) → Told seeded (line ∷ lines) said → Parts seeded line lines said
parts seeded line lines said t = parts-sort seeded line lines said (speaks line) refl t

-- one line read
abbrev onto : Option ScriptLine → Result (List ScriptLine) ScriptError → Result (List ScriptLine) ScriptError
onto one rest = rest >>= λ others. Ok (cons_option one others)

reads_cons : (seeded : Bool) (number : ℕ) (line : List ℕ) (lines : List (List ℕ)) (one : Option ScriptLine) → line_at seeded number line ≡ Ok one →
    lines_at seeded number (line ∷ lines) ≡ onto one (lines_at (seeded_by seeded one) (number + 1) lines)
unfolding lines_at
reads_cons seeded number line lines one e = ap (λ r. r >>= λ x. onto x (lines_at (seeded_by seeded x) (number + 1) lines)) e

fails_cons : (seeded : Bool) (number : ℕ) (line : List ℕ) (lines : List (List ℕ)) (error : ScriptError) → line_at seeded number line ≡ Err error →
    lines_at seeded number (line ∷ lines) ≡ Err error
unfolding lines_at
fails_cons seeded number line lines error e = ap (λ r. r >>= λ x. onto x (lines_at (seeded_by seeded x) (number + 1) lines)) e

reads_nil : (seeded : Bool) (number : ℕ) → lines_at seeded number [] ≡ Ok []
unfolding lines_at
reads_nil seeded number = refl

-- what is read is said
lines_ok : (lines : List (List ℕ)) (seeded : Bool) (number : ℕ) (said : List ScriptLine) → lines_at seeded number lines ≡ Ok said → Told seeded lines said
lines_ok [] seeded number said e =
    subst (λ (xs : List ScriptLine). Told seeded [] xs) (ok_is [] said (sym (reads_nil seeded number) ∙ e)) (record { utf8 = tt; each = tt; once = tt })
lines_ok (line ∷ lines) seeded number said e = first_ok (λ one others. lines_ok lines (seeded_by seeded one) (number + 1) others) (line_at seeded number line) refl
  where
    first_ok : ((one : Option ScriptLine) (others : List ScriptLine) → lines_at (seeded_by seeded one) (number + 1) lines ≡ Ok others → Told (seeded_by seeded one) lines others) → (r : Result (Option ScriptLine) ScriptError) → line_at seeded number line ≡ r → Told seeded (line ∷ lines) said
    first_ok more (Err x) f = let no = sym (fails_cons seeded number line lines x f) ∙ e in absurd (cc no)
    first_ok more (Ok one) f =
        let b = bind_ok (lines_at (seeded_by seeded one) (number + 1) lines) (λ others. Ok (cons_option one others)) said (sym (reads_cons seeded number line lines one f) ∙ e) in
        let l = line_ok seeded number line one f in
        subst (λ (xs : List ScriptLine). Told seeded (line ∷ lines) xs) (ok_is (cons_option one b.0) said b.2)
        (told_cons seeded line lines one b.0 l.0 l.1 (more one b.0 b.1))

-- what is said is read
lines_again : (lines : List (List ℕ)) (seeded : Bool) (number : ℕ) (said : List ScriptLine) → Told seeded lines said → lines_at seeded number lines ≡ Ok said
lines_again [] seeded number [] t = reads_nil seeded number
lines_again [] seeded number (one ∷ said) t = absurd t.each
lines_again (line ∷ lines) seeded number said t =
    let p = parts seeded line lines said t in
    reads_cons seeded number line lines p.one (line_again seeded number line p.one p.utf8 p.says)
    ∙ ap (onto p.one) (lines_again lines (seeded_by seeded p.one) (number + 1) p.others p.more) ∙ ap (λ xs. Ok xs) p.is

abbrev failed : ScriptError → Result (List ScriptLine) ScriptError
failed x = Err x

err_is : (x y : ScriptError) → failed x ≡ failed y → x ≡ y
err_is x y e = cc

-- the first wrong line
abbrev stands : Bool → List ScriptLine → Bool
stands seeded said = seeded || list_any is_seed said

or_false : (b : Bool) → b ≡ (b || false)
or_false true = refl
or_false false = refl

stands_cons : (seeded : Bool) (one : Option ScriptLine) (said : List ScriptLine) → stands (seeded_by seeded one) said ≡ stands seeded (cons_option one said)
stands_cons seeded None said = refl
stands_cons true (Some one) said = refl
stands_cons false (Some one) said = refl

rest_err : (one : Option ScriptLine) (rest : Result (List ScriptLine) ScriptError) (error : ScriptError) → onto one rest ≡ Err error → rest ≡ Err error
rest_err one (Ok said) error e = absurd (cc)
rest_err one (Err x) error e = cc

record Wrong (seeded : Bool) (number : ℕ) (lines : List (List ℕ)) (error : ScriptError) : Type 0 where
  pub before : ℕ
  pub said : List ScriptLine
  pub fine : Told seeded (take before lines) said
  pub line : List ℕ
  pub behind : List (List ℕ)
  pub there : drop before lines ≡ line ∷ behind
  pub wrong : line_at (stands seeded said) (number + before) line ≡ Err error

lines_wrong : (lines : List (List ℕ)) (seeded : Bool) (number : ℕ) (error : ScriptError) → lines_at seeded number lines ≡ Err error → Wrong seeded number lines error
lines_wrong [] seeded number error e = let no = sym (reads_nil seeded number) ∙ e in absurd (cc no)
lines_wrong (line ∷ lines) seeded number error e = first_wrong (λ one. lines_wrong lines (seeded_by seeded one) (number + 1) error) (line_at seeded number line) refl
  where
    later : (one : Option ScriptLine) → line_at seeded number line ≡ Ok one → Wrong (seeded_by seeded one) (number + 1) lines error → Wrong seeded number (line ∷ lines) error
    later one f w =
        let l = line_ok seeded number line one f in
        let n : number + suc w.before ≡ number + 1 + w.before = omega arith in
        record {
          before = suc w.before;
          said = cons_option one w.said;
          fine = told_cons seeded line (take w.before lines) one w.said l.0 l.1 w.fine;
          line = w.line;
          behind = w.behind;
          there = w.there;
          wrong = ap (λ k. line_at (stands seeded (cons_option one w.said)) k w.line) n ∙ ap (λ b. line_at b (number + 1 + w.before) w.line) (sym (stands_cons seeded one w.said)) ∙ w.wrong;
        }

    first_wrong : ((one : Option ScriptLine) → lines_at (seeded_by seeded one) (number + 1) lines ≡ Err error → Wrong (seeded_by seeded one) (number + 1) lines error) → (r : Result (Option ScriptLine) ScriptError) → line_at seeded number line ≡ r → Wrong seeded number (line ∷ lines) error
    first_wrong more (Err x) f =
        let same : x ≡ error = err_is x error (sym (fails_cons seeded number line lines x f) ∙ e) in
        let n : number + 0 ≡ number = omega arith in
        record {
          before = 0;
          said = [];
          fine = record { utf8 = tt; each = tt; once = tt };
          line = line;
          behind = lines;
          there = refl;
          wrong = ap (λ k. line_at (stands seeded []) k line) n ∙ ap (λ b. line_at b number line) (sym (or_false seeded)) ∙ f ∙ ap (λ y. Err y) same;
        }
    first_wrong more (Ok one) f = later one f (more one (rest_err one (lines_at (seeded_by seeded one) (number + 1) lines) error (sym (reads_cons seeded number line lines one f) ∙ e)))

-- and no other line is
wrong_lines : (lines : List (List ℕ)) (before : ℕ) (seeded : Bool) (number : ℕ) (said : List ScriptLine) (line : List ℕ) (behind : List (List ℕ)) (error : ScriptError) →
    Told seeded (take before lines) said → drop before lines ≡ line ∷ behind → line_at (stands seeded said) (number + before) line ≡ Err error → lines_at seeded number lines ≡ Err error
wrong_lines [] zero seeded number said line behind error t there wrong = absurd (cc)
wrong_lines [] (suc n) seeded number said line behind error t there wrong = absurd (cc)
wrong_lines (l ∷ ls) zero seeded number [] line behind error t there wrong =
    let same : l ≡ line = cc in
    let n : number + 0 ≡ number = omega arith in
    fails_cons seeded number l ls error (ap (λ x. line_at seeded number x) same ∙ ap (λ k. line_at seeded k line) (sym n) ∙ ap (λ b. line_at b (number + 0) line) (or_false seeded) ∙ wrong)
wrong_lines (l ∷ ls) zero seeded number (one ∷ said) line behind error t there wrong = absurd t.each
wrong_lines (l ∷ ls) (suc before) seeded number said line behind error t there wrong =
    let p = parts seeded l (take before ls) said t in
    let n : number + 1 + before ≡ number + suc before = omega arith in
    reads_cons seeded number l ls p.one (line_again seeded number l p.one p.utf8 p.says)
    ∙ ap (onto p.one) (wrong_lines ls before (seeded_by seeded p.one) (number + 1) p.others line behind error p.more there
    (ap (λ b. line_at b (number + 1 + before) line) (stands_cons seeded p.one p.others ∙ ap (λ xs. stands seeded xs) p.is) ∙ ap (λ k. line_at (stands seeded said) k line) n ∙ wrong))

-- of texts
pub found : (text : List ℕ) (said : List ScriptLine) → script_at text ≡ Ok said → IsScript text said
unfolding script_at
found text said e = said_of (lines_of text) said (lines_ok (lines_of text) false 1 said e)

pub again : (text : List ℕ) (said : List ScriptLine) → IsScript text said → script_at text ≡ Ok said
unfolding script_at
again text said s = lines_again (lines_of text) false 1 said (told_of (lines_of text) said s)

pub refused : (text : List ℕ) (error : ScriptError) → script_at text ≡ Err error → IsRefusal text error
unfolding script_at
refused text error e =
    let w = lines_wrong (lines_of text) false 1 error e in
    let n : w.before + 1 ≡ 1 + w.before = omega arith in
    record {
      before = w.before;
      said = w.said;
      fine = said_of (take w.before (lines_of text)) w.said w.fine;
      line = w.line;
      behind = w.behind;
      there = w.there;
      wrong = ap (λ k. line_at (list_any is_seed w.said) k w.line) n ∙ w.wrong;
    }

pub refused_again : (text : List ℕ) (error : ScriptError) → IsRefusal text error → script_at text ≡ Err error
unfolding script_at
refused_again text error r =
    let n : 1 + r.before ≡ r.before + 1 = omega arith in
    wrong_lines (lines_of text) r.before false 1 r.said r.line r.behind error (told_of (take r.before (lines_of text)) r.said r.fine) r.there
    (ap (λ k. line_at (list_any is_seed r.said) k r.line) n ∙ r.wrong)

-- of answers
pub none : (text : List ℕ) (error : ScriptError) (said : List ScriptLine) → script_at text ≡ Err error → IsScript text said → ⊥
none text error said e s = let no = sym e ∙ again text said s in absurd (cc no)

pub first : (text : List ℕ) (error other : ScriptError) → script_at text ≡ Err error → IsRefusal text other → other ≡ error
first text error other e r = err_is other error (sym (refused_again text other r) ∙ e)

pub only : (text : List ℕ) (said other : List ScriptLine) → script_at text ≡ Ok said → IsScript text other → said ≡ other
only text said other e s = ok_is said other (sym e ∙ again text other s)
