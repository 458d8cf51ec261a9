-- The least of listed breaches is the first of them in text order, and that of two lists is the lesser of theirs.
use Rattle.std.proofs.Common.{◌≡◌, Bool, true, false, cond, List, [], ◌∷◌, ◌++◌, Option, Some, None, refl, sym, ap, ◌∙◌}
use Rattle.std.specs.declared.cmp.Ordering.{Ordering}
use Rattle.std.specs.declared.cmp.Ordering.TheVariants.{Less, Equal, Greater}
use Rattle.std.specs.Ordering.{is_lt, is_gt, ordering_reverse}
use Rattle.std.proofs.lemmas.Bool.{true≢false}
use Rattle.std.proofs.lemmas.Cmp.{nat_cmp_total, on_total, then_total, upto}
use Rattle.std.specs.Cmp.{IsTotalOrder}
use Rattle.link_rules.specs.Rules.{first}
use Rattle.type_rules.specs.Rules.{Breach}
use Rattle.type_rules.specs.Order.{IsFirstInText, breach_cmp, comes_before, in_text_order, least, lesser, lesser_of, put}

total : IsTotalOrder breach_cmp
total = then_total (on_total (λ (b : Breach). b.at.line) nat_cmp_total) (then_total (on_total (λ (b : Breach). b.at.column) nat_cmp_total) (on_total (λ (b : Breach). b.rule) nat_cmp_total))

first_put : (b : Breach) (cs : List Breach) → first (put b cs) ≡ lesser (Some b) (first cs)
first_put b [] = refl
first_put b (c ∷ cs) = by_test (comes_before c b) refl
  where
    by_test : (t : Bool) → comes_before c b ≡ t → first (put b (c ∷ cs)) ≡ lesser (Some b) (first (c ∷ cs))
    by_test true is = rw is refl
    by_test false is = rw is refl

pub first_is_least : (bs : List Breach) → IsFirstInText bs
first_is_least [] = refl
first_is_least (b ∷ bs) = first_put b (in_text_order bs) ∙ ap (lesser (Some b)) (first_is_least bs)

-- ---- `lesser` takes three in any grouping

is_less : (o : Ordering) → is_lt o ≡ true → o ≡ Less
is_less Less e = refl
is_less Equal e = absurd (true≢false (sym e))
is_less Greater e = absurd (true≢false (sym e))

turned : (o : Ordering) → is_lt o ≡ is_gt (ordering_reverse o)
turned Less = refl
turned Equal = refl
turned Greater = refl

follows : (b c : Breach) → comes_before c b ≡ is_gt (breach_cmp b c)
follows b c = turned (breach_cmp c b) ∙ ap is_gt (sym (total.antisymm b c))

before_all : (b c d : Breach) → comes_before c b ≡ true → comes_before d c ≡ true → comes_before d b ≡ true
before_all b c d e f = ap is_lt (total.trans d c b (is_less (breach_cmp d c) f) (is_less (breach_cmp c b) e))

before_none : (b c d : Breach) → comes_before c b ≡ false → comes_before d c ≡ false → comes_before d b ≡ false
before_none b c d e f = follows b d ∙ upto total b c d (sym (follows b c) ∙ e) (sym (follows c d) ∙ f)

later : (b c : Breach) → comes_before c b ≡ true → lesser_of b c ≡ c
later b c e = ap (λ (t : Bool). cond t c b) e

earlier : (b c : Breach) → comes_before c b ≡ false → lesser_of b c ≡ b
earlier b c e = ap (λ (t : Bool). cond t c b) e

first_two : (b c d x y : Breach) → lesser_of b c ≡ x → lesser_of x d ≡ y → lesser_of (lesser_of b c) d ≡ y
first_two b c d x y e f = ap (λ (v : Breach). lesser_of v d) e ∙ f

last_two : (b c d x y : Breach) → lesser_of c d ≡ x → lesser_of b x ≡ y → lesser_of b (lesser_of c d) ≡ y
last_two b c d x y e f = ap (lesser_of b) e ∙ f

grouped : (b c d : Breach) (p q r : Bool) → comes_before c b ≡ p → comes_before d c ≡ q → comes_before d b ≡ r → lesser_of (lesser_of b c) d ≡ lesser_of b (lesser_of c d)
grouped b c d true true true p q r = first_two b c d c d (later b c p) (later c d q) ∙ sym (last_two b c d d d (later c d q) (later b d r))
grouped b c d true true false p q r = absurd (true≢false (sym (before_all b c d p q) ∙ r))
grouped b c d true false r p q _ = first_two b c d c c (later b c p) (earlier c d q) ∙ sym (last_two b c d c c (earlier c d q) (later b c p))
grouped b c d false true r p q _ = first_two b c d b (lesser_of b d) (earlier b c p) refl ∙ sym (last_two b c d d (lesser_of b d) (later c d q) refl)
grouped b c d false false true p q r = absurd (true≢false (sym r ∙ before_none b c d p q))
grouped b c d false false false p q r = first_two b c d b b (earlier b c p) (earlier b d r) ∙ sym (last_two b c d c b (earlier c d q) (earlier b c p))

pub lesser_assoc : (x y z : Option Breach) → lesser (lesser x y) z ≡ lesser x (lesser y z)
lesser_assoc None y z = refl
lesser_assoc (Some b) None z = refl
lesser_assoc (Some b) (Some c) None = refl
lesser_assoc (Some b) (Some c) (Some d) = ap Some (grouped b c d (comes_before c b) (comes_before d c) (comes_before d b) refl refl refl)

pub lesser_none : (x : Option Breach) → lesser x None ≡ x
lesser_none None = refl
lesser_none (Some b) = refl

pub least_of_both : (bs cs : List Breach) → least (bs ++ cs) ≡ lesser (least bs) (least cs)
least_of_both [] cs = refl
least_of_both (b ∷ bs) cs = ap (lesser (Some b)) (least_of_both bs cs) ∙ sym (lesser_assoc (Some b) (least bs) (least cs))

-- of two breaches not each comes before the other
pub not_both : (c b : Breach) → comes_before c b ≡ true → comes_before b c ≡ false
not_both c b e = follows c b ∙ ap is_gt (is_less (breach_cmp c b) e)
