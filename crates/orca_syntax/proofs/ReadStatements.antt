-- Types and statements are read back from their derivations.
use Rattle.std.proofs.Common.{◌≡◌, ℤ, Bool, true, false, cond, Option, Some, None, refl, ap, ◌∙◌}
use Rattle.std.specs.Prelude.{pos}
use Rattle.orca_base.specs.declared.place.Place.{Place}
use Rattle.orca_lexer.specs.declared.token.Keyword.TheVariants.{KeyArray, KeyBag, KeyBoolean, KeyChar, KeyDelete, KeyElse, KeyElsif, KeyFi, KeyFor, KeyFork, KeyIf, KeyInsert, KeyInteger, KeyOd, KeyOf, KeyOn, KeyRepeat, KeyReturn, KeySet, KeyString, KeyUntil, KeyWhile, KeyWriteLine}
use Rattle.orca_lexer.specs.declared.token.Symbol.TheVariants.{Becomes, Closes, ClosesIndex, Minus, Range as RangeSign}
use Rattle.orca_lexer.specs.declared.token.TokenKind.{TokenKind}
use Rattle.orca_lexer.specs.declared.token.TokenKind.TheVariants as kind
use Rattle.orca_lexer.specs.declared.token.TokenKind.TheVariants.{Key, Sign}
use Rattle.orca_tree.specs.declared.tree.Name.{Name}
use Rattle.orca_tree.specs.declared.tree.Bound.{Bound}
use Rattle.orca_tree.specs.declared.tree.Bound.TheVariants as bounds
use Rattle.orca_syntax.specs.Syntax as syn
use Rattle.orca_syntax.specs.Syntax.{Expr, Path, Exprs, Kind, Stmt, Stmts, Arm, Arms}
use Rattle.orca_syntax.specs.Forest.{Forest, none, token, group}
use Rattle.orca_syntax.specs.Derivation as der
use Rattle.orca_syntax.proofs.Branches.{Full, Starts}
use Rattle.orca_syntax.proofs.ReadBack.{Behind, arguments, operation, steps, behind_of, place_of, name_of, read_operand, read_whole, read_exprs, read_more, read_path, operand_back, exprs_back, path_back}

-- ---- what stands behind a token

abbrev pub past : (TokenKind → Bool) → Forest → Forest
past test none = none
past test (token p k f) = cond (test k) f (past test f)
past test (group b g f) = past test f

abbrev pub is_on : TokenKind → Bool
is_on (Key KeyOn) = true
is_on _ = false

abbrev pub is_until : TokenKind → Bool
is_until (Key KeyUntil) = true
is_until _ = false

abbrev pub is_becomes : TokenKind → Bool
is_becomes (Sign Becomes) = true
is_becomes _ = false

abbrev pub is_range : TokenKind → Bool
is_range (Sign RangeSign) = true
is_range _ = false

abbrev pub behind_token : Forest → Forest
behind_token (token p k f) = f
behind_token _ = none

past_more : (es : Exprs) (f : Forest) → past is_on (der.more_exprs es f) ≡ past is_on f
past_more syn.no_expr f = refl
past_more (syn.expr e es) f = past_more es f

past_exprs : (es : Exprs) (f : Forest) → past is_on (der.exprs es f) ≡ past is_on f
past_exprs syn.no_expr f = refl
past_exprs (syn.expr e es) f = past_more es f

past_path : (p : Path) (f : Forest) → past is_becomes (der.path p f) ≡ past is_becomes f
past_path syn.here f = refl
past_path (syn.to (syn.Field at n) p) f = past_path p f
past_path (syn.to (syn.Index at e) p) f = past_path p f

past_stmts : (ss : Stmts) (f : Forest) → past is_until (der.stmts ss f) ≡ past is_until f
past_stmts syn.no_stmt f = refl
past_stmts (syn.stmt s ss) f = past_stmts ss f

past_bound : (b : Bound) (f : Forest) → past is_range (der.bound b (der.word (Sign RangeSign) f)) ≡ f
past_bound (bounds.Number at v) f = refl
past_bound (bounds.Negative at v) f = refl
past_bound (bounds.Named n) f = refl

-- ---- types

abbrev pub value_of : TokenKind → ℤ
value_of (kind.Number v) = v
value_of _ = pos 0

abbrev pub first_value : Forest → ℤ
first_value (token p k f) = value_of k
first_value _ = pos 0

abbrev pub bound_of : TokenKind → Option Place → ℤ → Bound
bound_of (kind.Number v) p next = bounds.Number (place_of p) v
bound_of (Sign Minus) p next = bounds.Negative (place_of p) next
bound_of k p next = bounds.Named (name_of p k)

abbrev pub read_bound : Forest → Bound
read_bound (token p k f) = bound_of k p (first_value f)
read_bound _ = bounds.Number (place_of None) (pos 0)

pub bound_back : (b : Bound) (f : Forest) → read_bound (der.bound b f) ≡ b
bound_back (bounds.Number at v) f = refl
bound_back (bounds.Negative at v) f = refl
bound_back (bounds.Named n) f = refl

pub data TypeStart : Type 0 where
  integer boolean character string array set bag named : TypeStart

abbrev pub type_start : TokenKind → TypeStart
type_start (Key KeyInteger) = integer
type_start (Key KeyBoolean) = boolean
type_start (Key KeyChar) = character
type_start (Key KeyString) = string
type_start (Key KeyArray) = array
type_start (Key KeySet) = set
type_start (Key KeyBag) = bag
type_start _ = named

abbrev pub chosen_type : TypeStart → Place → Name → Bound → Bound → Kind → Kind
chosen_type integer at n low high k = syn.Integer at
chosen_type boolean at n low high k = syn.Boolean at
chosen_type character at n low high k = syn.Character at
chosen_type string at n low high k = syn.String at
chosen_type array at n low high k = syn.Array at low high k
chosen_type set at n low high k = syn.Set at k
chosen_type bag at n low high k = syn.Bag at k
chosen_type named at n low high k = syn.Named n

abbrev mutual
  pub read_inside : Forest → Kind
  read_inside (token p k f) = chosen_type (type_start k) (place_of p) (name_of p k) (read_bound (behind_token f)) (read_bound (past is_range f)) (read_type f)
  read_inside _ = syn.Integer (place_of None)

  -- in front of a type stand tokens, which are skipped
  pub read_type : Forest → Kind
  read_type none = syn.Integer (place_of None)
  read_type (token p k f) = read_type f
  read_type (group b g f) = read_inside g

bound_skipped : (b : Bound) (f : Forest) → read_type (der.bound b f) ≡ read_type f
bound_skipped (bounds.Number at v) f = refl
bound_skipped (bounds.Negative at v) f = refl
bound_skipped (bounds.Named n) f = refl

array_same : (at : Place) (low low' high high' : Bound) (k k' : Kind) → low ≡ low' → high ≡ high' → k ≡ k' → syn.Array at low high k ≡ syn.Array at low' high' k'
array_same at low low' high high' k k' a b c = ap (λ x. syn.Array at x high k) a ∙ ap (λ x. syn.Array at low' x k) b ∙ ap (λ x. syn.Array at low' high' x) c

pub inside_back : (k : Kind) → read_inside (der.type_inside k) ≡ k
inside_back (syn.Integer at) = refl
inside_back (syn.Boolean at) = refl
inside_back (syn.Character at) = refl
inside_back (syn.String at) = refl
inside_back (syn.Named n) = refl
inside_back (syn.Array at low high k) =
    let of_element = der.word (Sign ClosesIndex) (der.word (Key KeyOf) (der.type_phrase k none)) in
    let to_high = der.word (Sign RangeSign) (der.bound high of_element) in
    array_same at _ low _ high _ k (bound_back low to_high) (ap read_bound (past_bound low (der.bound high of_element)) ∙ bound_back high of_element)
    (bound_skipped low to_high ∙ bound_skipped high of_element ∙ inside_back k)
inside_back (syn.Set at k) = ap (λ x. syn.Set at x) (inside_back k)
inside_back (syn.Bag at k) = ap (λ x. syn.Bag at x) (inside_back k)

-- ---- statements

pub data Verb : Type 0 where
  returns branches while_loop for_loop repeats forks writes inserts deletes by_name : Verb

abbrev pub verb_of : TokenKind → Verb
verb_of (Key KeyReturn) = returns
verb_of (Key KeyIf) = branches
verb_of (Key KeyWhile) = while_loop
verb_of (Key KeyFor) = for_loop
verb_of (Key KeyRepeat) = repeats
verb_of (Key KeyFork) = forks
verb_of (Key KeyWriteLine) = writes
verb_of (Key KeyInsert) = inserts
verb_of (Key KeyDelete) = deletes
verb_of _ = by_name

abbrev pub chosen_stmt : Verb → Stmt → Stmt → Stmt → Stmt → Stmt → Stmt → Stmt → Stmt → Stmt → Stmt → Stmt
chosen_stmt returns a b c d e f g h i j = a
chosen_stmt branches a b c d e f g h i j = b
chosen_stmt while_loop a b c d e f g h i j = c
chosen_stmt for_loop a b c d e f g h i j = d
chosen_stmt repeats a b c d e f g h i j = e
chosen_stmt forks a b c d e f g h i j = f
chosen_stmt writes a b c d e f g h i j = g
chosen_stmt inserts a b c d e f g h i j = h
chosen_stmt deletes a b c d e f g h i j = i
chosen_stmt by_name a b c d e f g h i j = j

abbrev pub no_statement : Stmt
no_statement = syn.Return (place_of None) None

abbrev pub read_any : Forest → Option Expr
read_any (group b g f) = Some (read_operand g)
read_any _ = None

abbrev pub read_fork : Place → Forest → Stmt
read_fork at (token p n (token q o f)) = syn.Fork at (name_of p n) (read_exprs f) (read_any (past is_on f))
read_fork at _ = no_statement

-- ( e , n path )
abbrev pub read_pair : (Expr → Name → Path → Stmt) → Forest → Stmt
read_pair does (token p o (group b g (token q c (token r n f)))) = does (read_operand g) (name_of r n) (read_path f)
read_pair does _ = no_statement

abbrev pub read_invoked : Name → Forest → Stmt
read_invoked n (token p m (token q o f)) = Stmt.Invoke n (name_of p m) (read_exprs f)
read_invoked n _ = no_statement

abbrev pub behind_named : Behind → Stmt → Stmt → Stmt → Stmt
behind_named arguments a b c = a
behind_named operation a b c = b
behind_named steps a b c = c

abbrev pub first_behind : Forest → Behind
first_behind (token p k f) = behind_of k
first_behind _ = steps

abbrev pub read_by_name : Name → Forest → Stmt
read_by_name n f =
    behind_named (first_behind f) (Stmt.Call n (read_exprs (behind_token f))) (read_invoked n (behind_token f)) (syn.Assign n (read_path f) (read_whole (past is_becomes f)))

pub data Joint : Type 0 where
  elsif else_word other : Joint

abbrev pub joint_of : TokenKind → Joint
joint_of (Key KeyElsif) = elsif
joint_of (Key KeyElse) = else_word
joint_of _ = other

abbrev pub joined : Joint → Arm → Arm → Arms → Arms
joined elsif when otherwise rest = syn.arm when rest
joined else_word when otherwise rest = syn.arm otherwise rest
joined other when otherwise rest = rest

abbrev mutual
  pub read_stmt : Forest → Stmt
  read_stmt (token p k f) =
      chosen_stmt (verb_of k) (syn.Return (place_of p) (read_any f)) (syn.If (place_of p) (read_arms f)) (read_while (place_of p) f) (read_for (place_of p) f)
      (syn.Repeat (place_of p) (read_stmts f) (read_whole (past is_until f))) (read_fork (place_of p) f) (syn.WriteLine (place_of p) (read_exprs (behind_token f)))
      (read_pair (λ e n q. syn.Insert (place_of p) e n q) f) (read_pair (λ e n q. syn.Delete (place_of p) e n q) f) (read_by_name (name_of p k) f)
  read_stmt _ = no_statement

  pub read_stmts : Forest → Stmts
  read_stmts (group b g (token p k f)) = syn.stmt (read_stmt g) (read_stmts f)
  read_stmts _ = syn.no_stmt

  pub read_while : Place → Forest → Stmt
  read_while at (group b g (token p k f)) = syn.While at (read_operand g) (read_stmts f)
  read_while at _ = no_statement

  pub read_for : Place → Forest → Stmt
  read_for at (token p n (token q i (group b low (token r s (group c high (token t d f)))))) = syn.For at (name_of p n) (read_operand low) (read_operand high) (read_stmts f)
  read_for at _ = no_statement

  pub read_arms : Forest → Arms
  read_arms (group b g (token p k f)) = syn.arm (syn.When (read_operand g) (read_stmts f)) (read_more_arms f)
  read_arms _ = syn.no_arm

  -- what stands between two arms' first words is skipped
  pub read_more_arms : Forest → Arms
  read_more_arms none = syn.no_arm
  read_more_arms (token p k f) = joined (joint_of k) (read_when f) (syn.Otherwise (read_stmts f)) (read_more_arms f)
  read_more_arms (group b g f) = read_more_arms f

  pub read_when : Forest → Arm
  read_when (group b g (token p k f)) = syn.When (read_operand g) (read_stmts f)
  read_when _ = syn.Otherwise syn.no_stmt

skipped : (ss : Stmts) (f : Forest) → read_more_arms (der.stmts ss f) ≡ read_more_arms f
skipped syn.no_stmt f = refl
skipped (syn.stmt s ss) f = skipped ss f

-- ---- equal parts

when_same : (e e' : Expr) (ss ss' : Stmts) → e ≡ e' → ss ≡ ss' → syn.When e ss ≡ syn.When e' ss'
when_same e e' ss ss' a b = ap (λ x. syn.When x ss) a ∙ ap (λ x. syn.When e' x) b

arm_same : (a a' : Arm) (as_ as_' : Arms) → a ≡ a' → as_ ≡ as_' → syn.arm a as_ ≡ syn.arm a' as_'
arm_same a a' as_ as_' p q = ap (λ x. syn.arm x as_) p ∙ ap (λ x. syn.arm a' x) q

stmt_same : (s s' : Stmt) (ss ss' : Stmts) → s ≡ s' → ss ≡ ss' → syn.stmt s ss ≡ syn.stmt s' ss'
stmt_same s s' ss ss' p q = ap (λ x. syn.stmt x ss) p ∙ ap (λ x. syn.stmt s' x) q

while_same : (at : Place) (e e' : Expr) (ss ss' : Stmts) → e ≡ e' → ss ≡ ss' → syn.While at e ss ≡ syn.While at e' ss'
while_same at e e' ss ss' a b = ap (λ x. syn.While at x ss) a ∙ ap (λ x. syn.While at e' x) b

for_same : (at : Place) (n : Name) (e e' g g' : Expr) (ss ss' : Stmts) → e ≡ e' → g ≡ g' → ss ≡ ss' → syn.For at n e g ss ≡ syn.For at n e' g' ss'
for_same at n e e' g g' ss ss' a b c = ap (λ x. syn.For at n x g ss) a ∙ ap (λ x. syn.For at n e' x ss) b ∙ ap (λ x. syn.For at n e' g' x) c

repeat_same : (at : Place) (ss ss' : Stmts) (e e' : Expr) → ss ≡ ss' → e ≡ e' → syn.Repeat at ss e ≡ syn.Repeat at ss' e'
repeat_same at ss ss' e e' a b = ap (λ x. syn.Repeat at x e) a ∙ ap (λ x. syn.Repeat at ss' x) b

fork_same : (at : Place) (n : Name) (es es' : Exprs) (o o' : Option Expr) → es ≡ es' → o ≡ o' → syn.Fork at n es o ≡ syn.Fork at n es' o'
fork_same at n es es' o o' a b = ap (λ x. syn.Fork at n x o) a ∙ ap (λ x. syn.Fork at n es' x) b

-- ---- what is read is what was there

on_back : (on : Option Expr) → read_any (past is_on (der.if_any der.on_value on none)) ≡ on
on_back None = refl
on_back (Some e) = ap (λ x. Some x) (operand_back e none)

on_last : (on : Option Expr) → read_more (der.word (Sign Closes) (der.if_any der.on_value on none)) ≡ syn.no_expr
on_last None = refl
on_last (Some e) = refl

enclosed_back : (es : Exprs) (f : Forest) → read_more (der.word (Sign Closes) f) ≡ syn.no_expr → read_exprs (der.exprs es (der.word (Sign Closes) f)) ≡ es
enclosed_back es f last = exprs_back es (der.word (Sign Closes) f) refl last

assign_steps : (p : Path) (f : Forest) → first_behind (der.path p (der.word (Sign Becomes) f)) ≡ steps
assign_steps syn.here f = refl
assign_steps (syn.to (syn.Field at n) p) f = refl
assign_steps (syn.to (syn.Index at e) p) f = refl

-- the end of an `if`
abbrev pub fi : Forest
fi = der.word (Key KeyFi) none

more_end : (as_ : Arms) → read_stmts (der.more_arms as_ fi) ≡ syn.no_stmt
more_end syn.no_arm = refl
more_end (syn.arm a as_) = refl

no_start : (as_ : Arms) → Starts true (der.more_arms as_ fi) → ⊥
no_start syn.no_arm starts = starts
no_start (syn.arm a as_) starts = starts

pub full_behind : (ss : Stmts) (f : Forest) → Full (der.stmts ss f) → Full f
full_behind syn.no_stmt f h = h
full_behind (syn.stmt s ss) f h = full_behind ss f h.1.1

mutual
  pub stmt_back : (s : Stmt) → Full (der.stmt_inside s) → read_stmt (der.stmt_inside s) ≡ s
  stmt_back (syn.Return at None) h = refl
  stmt_back (syn.Return at (Some e)) h = ap (λ x. syn.Return at (Some x)) (operand_back e none)
  stmt_back (syn.If at as_) h = ap (λ x. syn.If at x) (arms_back as_ h.0 h.1)
  stmt_back (syn.While at test ss) h = while_same at _ test _ ss (operand_back test none) (stmts_back ss (der.word (Key KeyOd) none) refl h.1.1.1)
  stmt_back (syn.For at n low high ss) h =
      for_same at n _ low _ high _ ss (operand_back low none) (operand_back high none) (stmts_back ss (der.word (Key KeyOd) none) refl h.1.1.1.1.1.1.1)
  stmt_back (syn.Repeat at ss test) h =
      let last = der.word (Key KeyUntil) (der.value test none) in
      repeat_same at _ ss _ test (stmts_back ss last refl h.1) (ap read_whole (past_stmts ss last) ∙ operand_back test none)
  stmt_back (syn.Fork at n es on) h =
      let last = der.if_any der.on_value on none in
      fork_same at n _ es _ on (enclosed_back es last (on_last on)) (ap read_any (past_exprs es (der.word (Sign Closes) last)) ∙ on_back on)
  stmt_back (syn.WriteLine at es) h = ap (λ x. syn.WriteLine at x) (enclosed_back es none refl)
  stmt_back (syn.Insert at e n p) h =
      let last = der.word (Sign Closes) none in
      ap (λ x. syn.Insert at x n (read_path (der.path p last))) (operand_back e none) ∙ ap (λ x. syn.Insert at e n x) (path_back p last refl)
  stmt_back (syn.Delete at e n p) h =
      let last = der.word (Sign Closes) none in
      ap (λ x. syn.Delete at x n (read_path (der.path p last))) (operand_back e none) ∙ ap (λ x. syn.Delete at e n x) (path_back p last refl)
  stmt_back (syn.Assign n p e) h =
      let last = der.word (Sign Becomes) (der.value e none) in
      let f = der.path p last in
      ap (λ b. behind_named b (Stmt.Call n (read_exprs (behind_token f))) (read_invoked n (behind_token f)) (syn.Assign n (read_path f) (read_whole (past is_becomes f)))) (assign_steps p (der.value e none))
      ∙ ap (λ x. syn.Assign n x (read_whole (past is_becomes f))) (path_back p last refl)
      ∙ ap (λ x. syn.Assign n p x) (ap read_whole (past_path p last) ∙ operand_back e none)
  stmt_back (Stmt.Call n es) h = ap (λ x. Stmt.Call n x) (enclosed_back es none refl)
  stmt_back (Stmt.Invoke n m es) h = ap (λ x. Stmt.Invoke n m x) (enclosed_back es none refl)

  pub stmts_back : (ss : Stmts) (f : Forest) → read_stmts f ≡ syn.no_stmt → Full (der.stmts ss f) → read_stmts (der.stmts ss f) ≡ ss
  stmts_back syn.no_stmt f end h = end
  stmts_back (syn.stmt s ss) f end h = stmt_same _ s _ ss (stmt_back s h.0) (stmts_back ss f end h.1.1)

  arms_back : (as_ : Arms) → Starts true (der.arms as_ fi) → Full (der.arms as_ fi) → read_arms (der.arms as_ fi) ≡ as_
  arms_back syn.no_arm starts h = absurd starts
  arms_back (syn.arm (syn.When e ss) as_) starts h =
      let f = der.more_arms as_ fi in
      arm_same _ (syn.When e ss) _ as_ (when_same _ e _ ss (operand_back e none) (stmts_back ss f (more_end as_) h.1.1)) (skipped ss f ∙ more_back as_ (full_behind ss f h.1.1))
  arms_back (syn.arm (syn.Otherwise syn.no_stmt) as_) starts h = absurd (no_start as_ starts)
  arms_back (syn.arm (syn.Otherwise (syn.stmt s ss)) as_) starts h = absurd starts

  more_back : (as_ : Arms) → Full (der.more_arms as_ fi) → read_more_arms (der.more_arms as_ fi) ≡ as_
  more_back syn.no_arm h = refl
  more_back (syn.arm (syn.When e ss) as_) h =
      let f = der.more_arms as_ fi in
      arm_same _ (syn.When e ss) _ as_ (when_same _ e _ ss (operand_back e none) (stmts_back ss f (more_end as_) h.1.1.1)) (skipped ss f ∙ more_back as_ (full_behind ss f h.1.1.1))
  more_back (syn.arm (syn.Otherwise ss) as_) h =
      let f = der.more_arms as_ fi in
      arm_same _ (syn.Otherwise ss) _ as_ (ap (λ x. syn.Otherwise x) (stmts_back ss f (more_end as_) h.1)) (skipped ss f ∙ more_back as_ (full_behind ss f h.1))
