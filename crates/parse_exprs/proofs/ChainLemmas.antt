-- Chains of operators: the levels of the grammar, and the loop over the links of one.
use Rattle.std.proofs.Common.{◌≡◌, ℕ, ◌<◌, Bool, true, false, List, [], ◌∷◌, ◌++◌, length, Ok, Err, refl, sym, ap, ◌∙◌, subst, arith}
use Rattle.std.specs.Prelude.{if◌then◌else◌}
use Rattle.std.specs.List.{flat_map}
use Rattle.std.proofs.lemmas.List.{append-nil, flat_map_more}
use Rattle.orca_lexer.specs.declared.token.Token.{Token}
use Rattle.orca_grammar.specs.Forms.{Form, ◌⨾◌, Many, Links, Term, Sum, Relation, Conjunction, Disjunction, Mark, Chain, bracketed}
use Rattle.orca_grammar.specs.Rules.{operator, links, chained, operand as operand_form}
use Rattle.orca_grammar.specs.Reading.{comes, first, nullable, decided, Read, ◌>>=◌, behind, in_brackets}
use Rattle.orca_grammar.specs.Sets.{sets}
use Rattle.orca_grammar.specs.Grammar.{read}
use Rattle.orca_grammar.proofs.Opened.{every_form}
use Rattle.orca_grammar.proofs.Steps.{many_step, many_fail, form_shorter}
use Rattle.orca_tree.specs.declared.tree.Expression.{Expression}
use Rattle.orca_tree.specs.declared.tree.Operator.{Operator}
use Rattle.orca_tree.specs.declared.tree.Link.{Link}
use Rattle.orca_tree.specs.Marks.{word, operator_token, operand, link, links_of, list_links}
use Rattle.parse_exprs.specs.Gives.{Failure, Fails}
use Rattle.parse_exprs.specs.Chains.{links_marks, one_alone}
use Rattle.parse_exprs.proofs.Readings.{fails_same, fails_then, both_first, both_second, both_read, goes_on, stops, breaks}

-- where there are links, they stand in brackets
pub marks_of_some : (front : List Mark) (ls : List Link) → 0 < length ls → front ++ bracketed (Chain (list_links ls)) (flat_map link ls) ≡ front ++ links_marks ls
marks_of_some front [] some = absurd (omega arith)
marks_of_some front (l ∷ ls) some = refl

-- an operator and its operand
abbrev pub one_link : Links → Form
one_link level = operator level ⨾ operand_form level

-- The links so far and those still to come are those of the tokens. Only of a level whose links may be many is there one before.
abbrev pub IsReadTo : ℕ → Links → List Token → List Token → List Link → Type 0
IsReadTo d level tokens rest [] = rest ≡ tokens
IsReadTo d level tokens rest (l ∷ ls) =
    (one_alone level ≡ false) × (comes (first sets (operator level)) tokens ≡ true) × (links_of l.operator ≡ level)
    × (read d (Many (one_link level)) tokens ≡ behind (flat_map link (l ∷ ls)) (read d (Many (one_link level)) rest))

-- ---- the forms

one_decided : (level : Links) → decided sets (Many (one_link level)) ≡ true
unfolding every_form
one_decided Term = refl
one_decided Sum = refl
one_decided Relation = refl
one_decided Conjunction = refl
one_decided Disjunction = refl

one_is_decided : (level : Links) → decided sets (one_link level) ≡ true
unfolding every_form
one_is_decided Term = refl
one_is_decided Sum = refl
one_is_decided Relation = refl
one_is_decided Conjunction = refl
one_is_decided Disjunction = refl

one_some : (level : Links) → nullable (one_link level) ≡ false
unfolding operator
one_some Term = refl
one_some Sum = refl
one_some Relation = refl
one_some Conjunction = refl
one_some Disjunction = refl

one_first : (level : Links) → first sets (one_link level) ≡ first sets (operator level)
unfolding operator
one_first Term = refl
one_first Sum = refl
one_first Relation = refl
one_first Conjunction = refl
one_first Disjunction = refl

links_first : (level : Links) (f : Form) → first sets (links level f) ≡ first sets (operator level)
unfolding operator links
links_first Term f = refl
links_first Sum f = refl
links_first Relation f = refl
links_first Conjunction f = refl
links_first Disjunction f = refl

-- a relation has one link alone
links_one : (level : Links) (f : Form) → one_alone level ≡ true → links level f ≡ operator level ⨾ f
unfolding links
links_one Relation f e = refl
links_one Term f e = absurd cc
links_one Sum f e = absurd cc
links_one Conjunction f e = absurd cc
links_one Disjunction f e = absurd cc

links_more : (level : Links) (f : Form) → one_alone level ≡ false → links level f ≡ (operator level ⨾ f) ⨾ Many (operator level ⨾ f)
unfolding links
links_more Term f e = refl
links_more Sum f e = refl
links_more Relation f e = absurd cc
links_more Conjunction f e = refl
links_more Disjunction f e = refl

-- the first of the links fails
first_fails : (d : ℕ) (level : Links) (ts : List Token) (h : Failure) → Fails h (read d (one_link level) ts) → Fails h (read d (links level (operand_form level)) ts)
unfolding links
first_fails d Term ts h bad = both_first d (one_link Term) (Many (one_link Term)) ts h bad
first_fails d Sum ts h bad = both_first d (one_link Sum) (Many (one_link Sum)) ts h bad
first_fails d Relation ts h bad = bad
first_fails d Conjunction ts h bad = both_first d (one_link Conjunction) (Many (one_link Conjunction)) ts h bad
first_fails d Disjunction ts h bad = both_first d (one_link Disjunction) (Many (one_link Disjunction)) ts h bad

module _ (d : ℕ) (level : Links) (ts : List Token) where
  chained_none : comes (first sets (operator level)) ts ≡ false → read d (chained level (operand_form level)) ts ≡ Ok ([], ts)
  unfolding chained
  chained_none c =
      let choice = λ (b : Bool). let x : Read = if b then in_brackets (Chain level) (read d (links level (operand_form level)) ts) else Ok ([], ts) in x in
      ap choice (ap (λ ws. comes ws ts) (links_first level (operand_form level)) ∙ c)

  chained_some : comes (first sets (operator level)) ts ≡ true → read d (chained level (operand_form level)) ts ≡ in_brackets (Chain level) (read d (links level (operand_form level)) ts)
  unfolding chained
  chained_some c =
      let choice = λ (b : Bool). let x : Read = if b then in_brackets (Chain level) (read d (links level (operand_form level)) ts) else Ok ([], ts) in x in
      ap choice (ap (λ ws. comes ws ts) (links_first level (operand_form level)) ∙ c)

  one_comes : comes (first sets (operator level)) ts ≡ true → comes (first sets (one_link level)) ts ≡ true
  one_comes c = ap (λ ws. comes ws ts) (one_first level) ∙ c

  -- one behind another is any number, where one comes
  many_opens : comes (first sets (operator level)) ts ≡ true → read d (one_link level ⨾ Many (one_link level)) ts ≡ read d (Many (one_link level)) ts
  many_opens c = either (read d (one_link level) ts) refl
    where
      either : (one : Read) → read d (one_link level) ts ≡ one → read d (one_link level ⨾ Many (one_link level)) ts ≡ read d (Many (one_link level)) ts
      either (Ok x) e =
          ap (λ (r' : Read). r' >>= (λ y. behind y.0 (read d (Many (one_link level)) y.1))) e
          ∙ sym (many_step d (one_link level) ts x.1 x.0 (one_decided level) (one_comes c) e)
      either (Err b) e =
          ap (λ (r' : Read). r' >>= (λ y. behind y.0 (read d (Many (one_link level)) y.1))) e
          ∙ sym (many_fail d (one_link level) ts b (one_comes c) e)

  links_many : one_alone level ≡ false → comes (first sets (operator level)) ts ≡ true → read d (links level (operand_form level)) ts ≡ read d (Many (one_link level)) ts
  links_many ne c = ap (λ f. read d f ts) (links_more level (operand_form level) ne) ∙ many_opens c

  chained_many : one_alone level ≡ false → comes (first sets (operator level)) ts ≡ true → read d (chained level (operand_form level)) ts ≡ in_brackets (Chain level) (read d (Many (one_link level)) ts)
  chained_many ne c = chained_some c ∙ ap (in_brackets (Chain level)) (links_many ne c)

  -- where the first link isn't read, none is
  links_fail : (h : Failure) → comes (first sets (operator level)) ts ≡ true → Fails h (read d (one_link level) ts) → Fails h (read d (chained level (operand_form level)) ts)
  links_fail h c bad = fails_same h _ _ (chained_some c) (fails_then h (read d (links level (operand_form level)) ts) (λ x. Ok (bracketed (Chain level) x.0, x.1)) (first_fails d level ts h bad))

-- ---- one link

-- an operator and its operand are read
pub link_read : (d : ℕ) (level : Links) (ts after next : List Token) (op : Operator) (right : Expression) → read d (operator level) ts ≡ Ok (word (operator_token op) ∷ [], after) → read d (operand_form level) after ≡ Ok (operand right, next)
    → read d (one_link level) ts ≡ Ok (link (record { operator = op; right = right }), next)
link_read d level ts after next op right one two = both_read d (operator level) (operand_form level) ts (word (operator_token op) ∷ []) after one (operand right) next two

-- behind an operator no operand is read
pub link_fails : (h : Failure) (d : ℕ) (level : Links) (ts after : List Token) (op : Operator) → read d (operator level) ts ≡ Ok (word (operator_token op) ∷ [], after) → Fails h (read d (operand_form level) after) → Fails h (read d (one_link level) ts)
link_fails h d level ts after op one bad = both_second d (operator level) (operand_form level) ts (word (operator_token op) ∷ []) after one h bad

pub link_shorter : (d : ℕ) (level : Links) (ts next : List Token) (ms : List Mark) → read d (one_link level) ts ≡ Ok (ms, next) → length next < length ts
link_shorter d level ts next ms e = form_shorter d (one_link level) ts next ms (one_is_decided level) (one_some level) e

-- ---- the loop

-- no operator comes
pub links_end : (d : ℕ) (level : Links) (tokens rest : List Token) (ls : List Link) → IsReadTo d level tokens rest ls → comes (first sets (operator level)) rest ≡ false → read d (chained level (operand_form level)) tokens ≡ Ok (links_marks ls, rest)
links_end d level tokens rest [] same none = let done = λ (ts : List Token). read d (chained level (operand_form level)) ts ≡ Ok ([], rest) in subst done same (chained_none d level rest none)
links_end d level tokens rest (l ∷ ls) so none =
    chained_many d level tokens so.0 so.1
    ∙ ap (in_brackets (Chain level)) (stops d (one_link level) (flat_map link (l ∷ ls)) rest _ so.3 (ap (λ ws. comes ws rest) (one_first level) ∙ none))
    ∙ ap (λ (k : Links). let x : Read = Ok (bracketed (Chain k) (flat_map link (l ∷ ls)), rest) in x) (sym so.2)

-- an operator comes, and its operand isn't read
pub links_break : (h : Failure) (d : ℕ) (level : Links) (tokens rest : List Token) (ls : List Link) → IsReadTo d level tokens rest ls → comes (first sets (operator level)) rest ≡ true → Fails h (read d (one_link level) rest) → Fails h (read d (chained level (operand_form level)) tokens)
links_break h d level tokens rest [] same c bad = let fails = λ (ts : List Token). Fails h (read d (chained level (operand_form level)) ts) in subst fails same (links_fail d level rest h c bad)
links_break h d level tokens rest (l ∷ ls) so c bad =
    fails_same h _ _ (chained_many d level tokens so.0 so.1)
    (fails_then h (read d (Many (one_link level)) tokens) (λ x. Ok (bracketed (Chain level) x.0, x.1))
    (breaks d (one_link level) (flat_map link (l ∷ ls)) rest (read d (Many (one_link level)) tokens) so.3 h (one_comes d level rest c) bad))

-- one more link is read
pub links_go_on : (d : ℕ) (level : Links) (tokens rest next : List Token) (ls : List Link) (l : Link) → one_alone level ≡ false → IsReadTo d level tokens rest ls → comes (first sets (operator level)) rest ≡ true → links_of l.operator ≡ level
    → read d (one_link level) rest ≡ Ok (link l, next) → IsReadTo d level tokens next (ls ++ l ∷ [])
links_go_on d level tokens rest next [] l ne same c of one = (
  ne,
  let come = λ (ts : List Token). comes (first sets (operator level)) ts ≡ true in subst come same c,
  of,
  let goes = λ (ts : List Token). read d (Many (one_link level)) ts ≡ behind (link l ++ []) (read d (Many (one_link level)) next) in
      subst goes same (many_step d (one_link level) rest next (link l) (one_decided level) (one_comes d level rest c) one ∙ ap (λ (ms : List Mark). behind ms (read d (Many (one_link level)) next)) (sym (append-nil (link l)))),
)
links_go_on d level tokens rest next (k ∷ ls) l ne so c of one = (
  ne,
  so.1,
  so.2,
  goes_on d (one_link level) (flat_map link (k ∷ ls)) rest (read d (Many (one_link level)) tokens) so.3 (link l) next (one_decided level) (one_comes d level rest c) one
      ∙ ap (λ (ms : List Mark). behind ms (read d (Many (one_link level)) next)) (flat_map_more link (link k) ls l),
)

-- the one link of a relation is read
pub links_last : (d : ℕ) (level : Links) (tokens rest next : List Token) (ls : List Link) (l : Link) → one_alone level ≡ true → IsReadTo d level tokens rest ls → comes (first sets (operator level)) rest ≡ true → links_of l.operator ≡ level
    → read d (one_link level) rest ≡ Ok (link l, next) → read d (chained level (operand_form level)) tokens ≡ Ok (links_marks (ls ++ l ∷ []), next)
links_last d level tokens rest next [] l two same c of one =
    let done = λ (ts : List Token). read d (chained level (operand_form level)) ts ≡ Ok (links_marks (l ∷ []), next) in
    subst done same
    (chained_some d level rest c
    ∙ ap (λ f. in_brackets (Chain level) (read d f rest)) (links_one level (operand_form level) two)
    ∙ ap (in_brackets (Chain level)) one
    ∙ ap (λ (k : Links). let x : Read = Ok (bracketed (Chain k) (link l), next) in x) (sym of)
    ∙ ap (λ (ms : List Mark). let x : Read = Ok (bracketed (Chain (links_of l.operator)) ms, next) in x) (sym (append-nil (link l))))
links_last d level tokens rest next (k ∷ ls) l two so c of one = let none : true ≡ false = sym two ∙ so.0 in absurd cc
