-- What operators give of operands that fit is of the type that typing gives.
use Rattle.std.proofs.Common.{refl, ap, sym, ◌∙◌, subst, arith, leb-true, ltb-true, ◌||◌}
use Rattle.std.specs.Prelude.{◌≡◌, ◌≤◌, ◌+◌, ◌==◌, ◌^◌, ℕ, ℤ, pos, negsuc, ◌+ℤ◌, ◌-ℤ◌, ◌*ℤ◌, Bool, true, false, ◌&&◌, if◌then◌else◌, nat_le, int_div, int_rem, unsigned_abs, List, [], ◌∷◌, ◌++◌, length, Some, Result, Ok, Err, IfOk}
use Rattle.std.specs.List.{All, list_all}
use Rattle.std.proofs.lemmas.List.Elements.{All-append, All-nil, All-cons}
use Rattle.std.proofs.lemmas.List.{length-append}
use Rattle.orca_base.specs.declared.fault.FaultKind.{FaultKind}
use Rattle.orca_base.specs.declared.fault.FaultKind.TheVariants.{DivideByZero, Overflow, TooLarge}
use Rattle.orca_base.specs.declared.limits.TheConstants.{TEXT_LENGTH}
use Rattle.orca_base.specs.declared.place.Place.{Place}
use Rattle.orca_lexer.specs.Spelling.{is_character}
use Rattle.orca_tree.specs.declared.tree.Operator.{Operator}
use Rattle.orca_tree.specs.declared.tree.Operator.TheVariants as op
use Rattle.link_rules.specs.Units.{Source}
use Rattle.type_rules.specs.declared.types.DataType.{DataType}
use Rattle.type_rules.specs.declared.types.Base.TheVariants.{Integer, Boolean, String}
use Rattle.type_rules.specs.Types.{plain, is_integer, is_boolean, is_string}
use Rattle.type_rules.specs.Rules.{Found, unless, asks, fits}
use Rattle.type_rules.specs.Expressions.{joined, operands, relation, are_compared, holds_element}
use Rattle.value_core.specs.Datum.{Datum}
use Rattle.value_core.specs.Datum as datum
use Rattle.value_core.specs.Fits.{Kinds}
use Rattle.value_core.specs.History.{string_in}
use Rattle.value_core.specs.Integers.{IsWord}
use Rattle.value_core.specs.Sound.{IsCode}
use Rattle.value_ops.specs.Integers.{Outcome, divided_by, fitted, is_word, remainder_of}
use Rattle.value_ops.specs.Texts as texts
use Rattle.meaning_rules.specs.Operators.{integer_in, of_integer, of_string, of_truth, decides, applied}
use Rattle.meaning_rules.specs.Fitting.{IsOf, Fits}
use Rattle.meaning_rules.proofs.Judged.{SameTypes, both_left, both_right, left_none, right_none, asked, unless_none, unless_is, fits_tested}
use lib.Signed.{mag, mag_rem}

-- ---- numbers and characters

pub is_word_word : (z : ℤ) → is_word z ≡ true → IsWord z
is_word_word (pos n) is = record { sfits = ltb-true n (2 ^ 63) is }
is_word_word (negsuc n) is = record { sfits = ltb-true n (2 ^ 63) is }

pub or_either : (a b : Bool) → (a || b) ≡ true → (P : Type 0) → (a ≡ true → P) → (b ≡ true → P) → P
or_either true b is P f g = f refl
or_either false b is P f g = g is

pub character_code : (c : ℕ) → is_character c ≡ true → IsCode c
character_code c is =
    or_either (nat_le 32 c && nat_le c 126) (c == 10 || c == 9) is (IsCode c)
    (λ h. let less = leb-true c 126 (both_right (nat_le 32 c) (nat_le c 126) h) in omega (arith, less))
    (λ h. or_either (c == 10) (c == 9) h (IsCode c) (λ e. let same : c ≡ 10 = grind arith in omega (arith, same)) (λ e. let same : c ≡ 9 = grind arith in omega (arith, same)))

pub character_codes : (s : List ℕ) → list_all is_character s ≡ true → All IsCode s
character_codes [] is = All-nil IsCode
character_codes (c ∷ s) is =
    All-cons IsCode c s (character_code c (both_left (is_character c) (list_all is_character s) is))
    (character_codes s (both_right (is_character c) (list_all is_character s) is))

module _ (us : List Source) (kinds : Kinds) where
  pub integer_fits : (z : ℤ) → IsWord z → Fits us kinds (datum.int z) (Some (plain Integer))
  integer_fits z word = ((tt, word), omega arith)

  pub truth_fits : (b : Bool) → Fits us kinds (datum.truth b) (Some (plain Boolean))
  truth_fits b = (tt, omega arith)

  pub integer_word : (x : Datum) → IsOf us kinds x (plain Integer) → IsWord (integer_in x)
  integer_word (datum.int z) h = h.1
  integer_word (datum.truth b) h = absurd h
  integer_word (datum.char c) h = absurd h.0
  integer_word (datum.enumerated n) h = absurd h
  integer_word (datum.text s) h = absurd h.0
  integer_word (datum.array w) h = absurd h
  integer_word (datum.fields w) h = absurd h
  integer_word (datum.set w) h = absurd h
  integer_word (datum.bag w) h = absurd h
  integer_word (datum.object p n) h = absurd h

  string_codes : (x : Datum) → IsOf us kinds x (plain String) → All IsCode (string_in x)
  string_codes (datum.text s) h = h.1
  string_codes (datum.int z) h = absurd h.0
  string_codes (datum.truth b) h = absurd h
  string_codes (datum.char c) h = absurd h.0
  string_codes (datum.enumerated n) h = absurd h
  string_codes (datum.array w) h = absurd h
  string_codes (datum.fields w) h = absurd h
  string_codes (datum.set w) h = absurd h
  string_codes (datum.bag w) h = absurd h
  string_codes (datum.object p n) h = absurd h

  -- ---- results

  abbrev pub Integral : Result Datum FaultKind → Type 0
  Integral r = IfOk r (λ x. Fits us kinds x (Some (plain Integer)))

  pub fitted_integral : (z : ℤ) → Integral (of_integer (fitted z))
  fitted_integral z = by (is_word z) refl
    where
      by : (b : Bool) → is_word z ≡ b → Integral (of_integer (if b then Ok z else Err Overflow))
      by true is = integer_fits z (is_word_word z is)
      by false is = tt

  divided_integral : (y : ℤ) (r : Outcome) → Integral (of_integer r) → Integral (of_integer (divided_by y r))
  divided_integral y r h = by (unsigned_abs y == 0)
    where
      by : (b : Bool) → Integral (of_integer (if b then Err DivideByZero else r))
      by true = tt
      by false = h

  remainder_integral : (x y : ℤ) → IsWord x → Integral (of_integer (remainder_of x y))
  remainder_integral x y word =
      divided_integral y (if is_word (int_div x y) then Ok (int_rem x y) else Err Overflow) (by (is_word (int_div x y)))
    where
      by : (b : Bool) → Integral (of_integer (if b then Ok (int_rem x y) else Err Overflow))
      by true =
          let less : mag (int_rem x y) ≤ mag x = mag_rem x y in
          integer_fits (int_rem x y) (record { sfits = omega (arith, less, word.sfits) })
      by false = tt

  -- one string behind the other
  pub joined_codes : (s t : List ℕ) → All IsCode s → All IsCode t → IfOk (texts.joined s t) (λ u. All IsCode u × (length u ≤ TEXT_LENGTH))
  joined_codes s t h k = by (nat_le (length s + length t) TEXT_LENGTH) refl
    where
      by : (b : Bool) → nat_le (length s + length t) TEXT_LENGTH ≡ b → IfOk (if b then Ok (s ++ t) else Err TooLarge) (λ u. All IsCode u × (length u ≤ TEXT_LENGTH))
      by true is =
          let less : length s + length t ≤ TEXT_LENGTH = leb-true (length s + length t) TEXT_LENGTH is in
          let both : length (s ++ t) ≡ length s + length t = length-append s t in
          (All-append IsCode s t h k, omega (arith, less, both))
      by false is = tt

  pub text_fits : (s : List ℕ) → All IsCode s → length s ≤ TEXT_LENGTH → Fits us kinds (datum.text s) (Some (plain String))
  text_fits s codes less = ((tt, codes), omega (arith, less))

  string_joined : (r : Result (List ℕ) FaultKind) → IfOk r (λ u. All IsCode u × (length u ≤ TEXT_LENGTH)) →
      IfOk (of_string r) (λ x. Fits us kinds x (Some (plain String)))
  string_joined (Ok s) h = text_fits s h.0 h.1
  string_joined (Err fault) h = tt

  -- ---- operators

  -- operands without a breach, and what is made of them
  pub record IsJoined (operator : Operator) (at : Place) (left : Found DataType) (place : Place) (right : Found DataType) : Type 0 where
    pub left_none : left.breaches ≡ []
    pub right_none : right.breaches ≡ []
    pub decided : (x : Datum) → decides operator x ≡ true → Fits us kinds x left.is → Fits us kinds x (joined operator at left place right).is
    pub gives : (x y : Datum) → Fits us kinds x left.is → Fits us kinds y right.is →
        IfOk (applied operator x y) (λ z. Fits us kinds z (joined operator at left place right).is)

  record AreOperands (rule : ℕ) (p : DataType → Bool) (at : Place) (left : Found DataType) (place : Place) (right : Found DataType) (t : DataType) : Type 0 where
    first : left.breaches ≡ []
    first_is : fits p left.is ≡ true
    second : right.breaches ≡ []
    second_is : fits p right.is ≡ true
    type : (operands rule p at left place right t).is ≡ Some t

  are_operands : (rule : ℕ) (p : DataType → Bool) (at : Place) (left : Found DataType) (place : Place) (right : Found DataType) (t : DataType) →
      (operands rule p at left place right t).breaches ≡ [] → AreOperands rule p at left place right t
  are_operands rule p at left place right t none =
      let all = unless_none (left.breaches ++ (asks rule at (fits p left.is) ++ (right.breaches ++ asks rule place (fits p right.is)))) (Some t) none in
      let rest = right_none left.breaches (asks rule at (fits p left.is) ++ (right.breaches ++ asks rule place (fits p right.is))) all in
      let last = right_none (asks rule at (fits p left.is)) (right.breaches ++ asks rule place (fits p right.is)) rest in
      record {
        first = left_none left.breaches _ all;
        first_is = asked rule at (fits p left.is) (left_none (asks rule at (fits p left.is)) _ rest);
        second = left_none right.breaches _ last;
        second_is = asked rule place (fits p right.is) (right_none right.breaches _ last);
        type = ap (λ f. f.is) (unless_is _ (Some t) all);
      }

  related : (bs cs ds : List _) (t : DataType) → (unless (bs ++ (cs ++ ds)) (Some t)).breaches ≡ [] →
      (bs ≡ []) × (cs ≡ []) × ((unless (bs ++ (cs ++ ds)) (Some t)).is ≡ Some t)
  related bs cs ds t none =
      let all = unless_none (bs ++ (cs ++ ds)) (Some t) none in
      (left_none bs (cs ++ ds) all, left_none cs ds (right_none bs (cs ++ ds) all), ap (λ f. f.is) (unless_is _ (Some t) all))

  module _ (types : SameTypes) (at : Place) (left : Found DataType) (place : Place) (right : Found DataType) where
    -- a truth, which both operands make or the left one alone
    truths : (operator : Operator) → ((x y : Datum) → (b : Bool) × (applied operator x y ≡ of_truth b)) → ((x : Datum) → decides operator x ≡ false) →
        left.breaches ≡ [] → right.breaches ≡ [] → (joined operator at left place right).is ≡ Some (plain Boolean) → IsJoined operator at left place right
    truths operator makes never first second type = record {
      left_none = first;
      right_none = second;
      decided = λ x holds h. absurd (let never_so = never x in cc);
      gives = λ x y h k.
          subst (λ r. IfOk r (λ z. Fits us kinds z (joined operator at left place right).is)) (sym (makes x y).1)
          (subst (λ o. Fits us kinds (datum.truth (makes x y).0) o) (sym type) (truth_fits (makes x y).0));
    }

    relates : (operator : Operator) → ((x y : Datum) → (b : Bool) × (applied operator x y ≡ of_truth b)) → ((x : Datum) → decides operator x ≡ false) →
        joined operator at left place right ≡ relation at left right → (joined operator at left place right).breaches ≡ [] → IsJoined operator at left place right
    relates operator makes never is none =
        let parts = related left.breaches right.breaches (asks 37 at (are_compared left.is right.is)) (plain Boolean) (ap (λ f. f.breaches) (sym is) ∙ none) in
        truths operator makes never parts.0 parts.1 (ap (λ f. f.is) is ∙ parts.2)

    -- `or` and `and`
    chooses : (operator : Operator) → ((x y : Datum) → applied operator x y ≡ Ok y) →
        joined operator at left place right ≡ operands 35 is_boolean at left place right (plain Boolean) → (joined operator at left place right).breaches ≡ [] →
        IsJoined operator at left place right
    chooses operator makes is none =
        let parts = are_operands 35 is_boolean at left place right (plain Boolean) (ap (λ f. f.breaches) (sym is) ∙ none) in
        let type : (joined operator at left place right).is ≡ Some (plain Boolean) = ap (λ f. f.is) is ∙ parts.type in
        record {
          left_none = parts.first;
          right_none = parts.second;
          decided = λ x holds h.
              let b = fits_tested us kinds is_boolean x left.is h parts.first_is in
              subst (λ o. Fits us kinds x o) (sym type) (subst (λ t. Fits us kinds x (Some t)) (types.same b.0 (plain Boolean) b.2) b.3);
          gives = λ x y h k.
              let b = fits_tested us kinds is_boolean y right.is k parts.second_is in
              subst (λ r. IfOk r (λ z. Fits us kinds z (joined operator at left place right).is)) (sym (makes x y))
              (subst (λ o. Fits us kinds y o) (sym type) (subst (λ t. Fits us kinds y (Some t)) (types.same b.0 (plain Boolean) b.2) b.3));
        }

    -- operators on integers
    counts : (operator : Operator) → ((x y : Datum) → IsWord (integer_in x) → Integral (applied operator x y)) → ((x : Datum) → decides operator x ≡ false) →
        joined operator at left place right ≡ operands 36 is_integer at left place right (plain Integer) → (joined operator at left place right).breaches ≡ [] →
        IsJoined operator at left place right
    counts operator makes never is none =
        let parts = are_operands 36 is_integer at left place right (plain Integer) (ap (λ f. f.breaches) (sym is) ∙ none) in
        let type : (joined operator at left place right).is ≡ Some (plain Integer) = ap (λ f. f.is) is ∙ parts.type in
        record {
          left_none = parts.first;
          right_none = parts.second;
          decided = λ x holds h. absurd (let never_so = never x in cc);
          gives = λ x y h k.
              let b = fits_tested us kinds is_integer x left.is h parts.first_is in
              subst (λ o. IfOk (applied operator x y) (λ z. Fits us kinds z o)) (sym type)
              (makes x y (integer_word x (subst (λ t. Fits us kinds x (Some t)) (types.same b.0 (plain Integer) b.2) b.3).0));
        }

    -- `&`
    joins : (joined op.Join at left place right).breaches ≡ [] → IsJoined op.Join at left place right
    joins none =
        let parts = are_operands 36 is_string at left place right (plain String) none in
        record {
          left_none = parts.first;
          right_none = parts.second;
          decided = λ x holds h. absurd cc;
          gives = λ x y h k.
              let a = fits_tested us kinds is_string x left.is h parts.first_is in
              let b = fits_tested us kinds is_string y right.is k parts.second_is in
              subst (λ o. IfOk (applied op.Join x y) (λ z. Fits us kinds z o)) (sym parts.type)
              (string_joined (texts.joined (string_in x) (string_in y)) (joined_codes (string_in x) (string_in y)
              (string_codes x (subst (λ t. Fits us kinds x (Some t)) (types.same a.0 (plain String) a.2) a.3).0)
              (string_codes y (subst (λ t. Fits us kinds y (Some t)) (types.same b.0 (plain String) b.2) b.3).0)));
        }

    member : (joined op.In at left place right).breaches ≡ [] → IsJoined op.In at left place right
    member none =
        let parts = related left.breaches right.breaches (asks 37 place (holds_element left.is right.is)) (plain Boolean) none in
        truths op.In (λ x y. (_, refl)) (λ x. refl) parts.0 parts.1 parts.2

    pub is_joined : (operator : Operator) → (joined operator at left place right).breaches ≡ [] → IsJoined operator at left place right
    is_joined op.Or none = chooses op.Or (λ x y. refl) refl none
    is_joined op.And none = chooses op.And (λ x y. refl) refl none
    is_joined op.Equal none = relates op.Equal (λ x y. (_, refl)) (λ x. refl) refl none
    is_joined op.Different none = relates op.Different (λ x y. (_, refl)) (λ x. refl) refl none
    is_joined op.Less none = relates op.Less (λ x y. (_, refl)) (λ x. refl) refl none
    is_joined op.AtMost none = relates op.AtMost (λ x y. (_, refl)) (λ x. refl) refl none
    is_joined op.Greater none = relates op.Greater (λ x y. (_, refl)) (λ x. refl) refl none
    is_joined op.AtLeast none = relates op.AtLeast (λ x y. (_, refl)) (λ x. refl) refl none
    is_joined op.In none = member none
    is_joined op.Join none = joins none
    is_joined op.Add none = counts op.Add (λ x y word. fitted_integral (integer_in x +ℤ integer_in y)) (λ x. refl) refl none
    is_joined op.Subtract none = counts op.Subtract (λ x y word. fitted_integral (integer_in x -ℤ integer_in y)) (λ x. refl) refl none
    is_joined op.Multiply none = counts op.Multiply (λ x y word. fitted_integral (integer_in x *ℤ integer_in y)) (λ x. refl) refl none
    is_joined op.Divide none =
        counts op.Divide (λ x y word. divided_integral (integer_in y) (fitted (int_div (integer_in x) (integer_in y))) (fitted_integral (int_div (integer_in x) (integer_in y))))
        (λ x. refl) refl none
    is_joined op.Remainder none = counts op.Remainder (λ x y word. remainder_integral (integer_in x) (integer_in y) word) (λ x. refl) refl none
