-- A line of output, one text further.
use Rattle.std.proofs.Common.{◌≡◌, ◌≤◌, ◌-◌, take, ℕ, suc, drop, get_or, arith, List, [], ◌∷◌, Some, true, false, length, map, Result, Ok, Err, refl, sym, ap, ◌∙◌, subst}
use Rattle.std.proofs.lemmas.List.{take_all}
use Rattle.std.specs.Borrow.{Bor}
use Rattle.orca_base.specs.declared.fault.FaultKind.{FaultKind}
use Rattle.orca_tree.specs.declared.tree.Name.{Name}
use Rattle.value_core.specs.Datum.{Datum}
use Rattle.value_core.specs.Datum as datum
use Rattle.value_core.specs.View.{datum_of}
use Rattle.value_core.specs.declared.value.Value.{Value}
use Rattle.value_core.specs.declared.value.Value.TheVariants as value
use Rattle.value_ops.specs.Texts.{joined, text_of}
use Rattle.meaning_rules.specs.States.{State, Goes, Stops, Faults, gives}
use Rattle.meaning_rules.specs.Operators.{and_then}
use Rattle.meaning_rules.specs.Statements.{line_of}
use Rattle.frame_variables.specs.declared.stop.Stop.{Stop}
use Rattle.frame_variables.specs.declared.stop.Stop.TheVariants as stop
use Rattle.frame_variables.specs.Gives.{Fails, Gives}
use Rattle.code_rules.specs.Instructions as rules
use Rattle.code_rules.specs.Machine.{Code, Config, Effect, Stuck, act, count_of, on_result, pops, pushes, texts_by}
use Rattle.emitted_code.specs.Views.{texts_of}
use Rattle.code_steps.specs.Moves.{holding}
use Rattle.code_steps.specs.Pops.{Pops}

pub counted : (ns : List (Bor (List Name))) → count_of (texts_of ns) ≡ length ns
counted [] = refl
counted (n ∷ ns) = ap suc (counted ns)

-- names are asked for of a value of an enumeration alone
pub text_alike : (names : List (List ℕ)) (v : Value) → ((n : ℕ) → v ≡ value.Enum n → ⊥) → text_of [] (datum_of v) ≡ text_of names (datum_of v)
text_alike names (value.Int n) apart = refl
text_alike names (value.Truth b) apart = refl
text_alike names (value.Char n) apart = refl
text_alike names (value.Enum n) apart = absurd (apart n refl)
text_alike names (value.Text t) apart = refl
text_alike names (value.Array p) apart = refl
text_alike names (value.Fields p) apart = refl
text_alike names (value.Set p) apart = refl
text_alike names (value.Bag p) apart = refl
text_alike names (value.Object o) apart = refl

-- ---- faults of what comes first

goes_not : {X Y : Type 0} (why : Stop) (x : X) (y : Result Y FaultKind) (s : State) → Fails why (Goes x s) → Fails why (gives y s)
goes_not stop.NoMemory x y s h = tt
goes_not (stop.Needs action) x y s h = absurd cc
goes_not (stop.Faults fault) x y s h = absurd cc
goes_not stop.Busy x y s h = absurd cc

same_fault : (X Y : Type 0) (why : Stop) (fault : FaultKind) → Fails {Y = X} why (Stops (Faults fault)) → Fails {Y = Y} why (Stops (Faults fault))
same_fault X Y stop.NoMemory fault h = tt
same_fault X Y (stop.Needs action) fault h = absurd cc
same_fault X Y (stop.Faults other) fault h = let same : fault ≡ other = cc in ap (λ f. Stops (Faults f)) same
same_fault X Y stop.Busy fault h = absurd cc

pub fails_first : {A B : Type 0} (why : Stop) (q : Result A FaultKind) (next : A → Result B FaultKind) (s : State) → Fails why (gives q s) → Fails why (gives (and_then q next) s)
fails_first {A} {B} why (Ok x) next s h = goes_not why x (next x) s h
fails_first {A} {B} why (Err fault) next s h = same_fault A B why fault h

gives_ok : {X : Type 0} (q : Result X FaultKind) (s : State) (x : X) → gives q s ≡ Goes x s → q ≡ Ok x
gives_ok (Ok y) s x h = let same : y ≡ x = cc in ap Ok same
gives_ok (Err fault) s x h = absurd cc

-- ---- a line

-- one text came to it, and others come
pub line_more : (done : Result (Unit {0}) Stop) (front mid last t : List ℕ) (ts : List (List ℕ)) (s : State) → gives (joined front t) s ≡ Goes mid s →
    Gives (λ _. last) done s (gives (line_of mid ts) s) → Gives (λ _. last) done s (gives (line_of front (t ∷ ts)) s)
line_more done front mid last t ts s one h =
    subst (λ q. Gives (λ _. last) done s (gives (and_then q (λ w. line_of w ts)) s)) (sym (gives_ok (joined front t) s mid one)) h

-- the texts of values begin with the first one's
pub texts_more : (done : Result (Unit {0}) Stop) (names : List (Bor (List Name))) (values : List Value) (n : Bor (List Name)) (v : Value) (front mid last t : List ℕ) (s : State) →
    1 ≤ length names → 1 ≤ length values → n ≡ get_or names 0 n → v ≡ get_or values 0 v → t ≡ text_of (map (λ m. m.text) n.now) (datum_of v) →
    gives (joined front t) s ≡ Goes mid s → Gives (λ _. last) done s (gives (line_of mid (texts_by (texts_of (take (length names - 1) (drop 1 names))) (map datum_of (take (length values - 1) (drop 1 values))))) s) →
    Gives (λ _. last) done s (gives (line_of front (texts_by (texts_of names) (map datum_of values))) s)
texts_more done [] values n v front mid last t s low high is here text one h = absurd (omega (arith, low))
texts_more done (m ∷ names) [] n v front mid last t s low high is here text one h = absurd (omega (arith, high))
texts_more done (m ∷ names) (w ∷ values) n v front mid last t s low high is here text one h =
    let same : t ≡ text_of (map (λ k. k.text) m.now) (datum_of w) =
    text ∙ ap (λ (b : Bor (List Name)). text_of (map (λ k. k.text) b.now) (datum_of v)) is ∙ ap (λ u. text_of (map (λ k. k.text) m.now) (datum_of u)) here in
    line_more done front mid last (text_of (map (λ k. k.text) m.now) (datum_of w)) (texts_by (texts_of names) (map datum_of values)) s
    (subst (λ x. gives (joined front x) s ≡ Goes mid s) same one)
    (subst (λ vs. Gives (λ _. last) done s (gives (line_of mid (texts_by (texts_of names) (map datum_of vs))) s)) (take_all (length (w ∷ values) - 1) values (omega arith))
    (subst (λ ns. Gives (λ _. last) done s (gives (line_of mid (texts_by (texts_of ns) (map datum_of (take (length (w ∷ values) - 1) values)))) s))
    (take_all (length (m ∷ names) - 1) names (omega arith)) h))

pub texts_stop : (why : Stop) (names : List (Bor (List Name))) (values : List Value) (n : Bor (List Name)) (v : Value) (front t : List ℕ) (s : State) →
    1 ≤ length names → 1 ≤ length values → n ≡ get_or names 0 n → v ≡ get_or values 0 v → t ≡ text_of (map (λ m. m.text) n.now) (datum_of v) →
    Fails why (gives (joined front t) s) → Fails why (gives (line_of front (texts_by (texts_of names) (map datum_of values))) s)
texts_stop why [] values n v front t s low high is here text h = absurd (omega (arith, low))
texts_stop why (m ∷ names) [] n v front t s low high is here text h = absurd (omega (arith, high))
texts_stop why (m ∷ names) (w ∷ values) n v front t s low high is here text h =
    let same : t ≡ text_of (map (λ k. k.text) m.now) (datum_of w) =
    text ∙ ap (λ (b : Bor (List Name)). text_of (map (λ k. k.text) b.now) (datum_of v)) is ∙ ap (λ u. text_of (map (λ k. k.text) m.now) (datum_of u)) here in
    fails_first why (joined front (text_of (map (λ k. k.text) m.now) (datum_of w))) (λ x. line_of x (texts_by (texts_of names) (map datum_of values))) s
    (subst (λ x. Fails why (gives (joined front x) s)) same h)

pub texts_none : (names : List (Bor (List Name))) (values : List Value) → length values ≡ 0 → texts_by (texts_of names) (map datum_of values) ≡ []
texts_none [] values is = refl
texts_none (n ∷ names) [] is = refl
texts_none (n ∷ names) (v ∷ values) is = absurd (omega (arith, is))

-- it is a value
pub line_text : (line : List ℕ) (q : Result (List ℕ) FaultKind) (s : State) → gives q s ≡ Goes line s →
    gives (and_then q (λ w. Ok (datum.text w))) s ≡ Goes (datum.text line) s
line_text line q s h = ap (λ r. gives (and_then r (λ w. Ok (datum.text w))) s) (gives_ok q s line h)

as_text : (q : Result (List ℕ) FaultKind) (go : Datum → Effect) → on_result q (λ w. go (datum.text w)) ≡ on_result (and_then q (λ w. Ok (datum.text w))) go
as_text (Ok w) go = refl
as_text (Err fault) go = refl

module _ (code : Code) (home : Config) (names : List (List (List ℕ))) (count : ℕ) (old st locals values : List Datum) where
  pub lines : count ≡ count_of names → Pops count old [] true st values → act code (Some (rules.Line names)) (holding home old locals) ≡
      on_result (and_then (line_of [] (texts_by names values)) (λ w. Ok (datum.text w))) (λ x. pushes (holding home old locals) st x locals)
  lines long p =
      let go : List Datum → List Datum → Effect = λ xs stack. on_result (line_of [] (texts_by names xs)) (λ line. pushes (holding home old locals) stack (datum.text line) locals) in
      ap (λ k. pops k old [] go) (sym long) ∙ p go ∙ as_text (line_of [] (texts_by names values)) (λ x. pushes (holding home old locals) st x locals)

  pub lines_not : count ≡ count_of names → Pops count old [] false st [] → act code (Some (rules.Line names)) (holding home old locals) ≡ Stuck
  lines_not long p =
      let go : List Datum → List Datum → Effect = λ xs stack. on_result (line_of [] (texts_by names xs)) (λ line. pushes (holding home old locals) stack (datum.text line) locals) in
      ap (λ k. pops k old [] go) (sym long) ∙ p go
