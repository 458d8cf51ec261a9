-- Code is no longer than its text: each phrase gets at most an instruction for each of its tokens.
use Rattle.std.proofs.Common.{◌≡◌, ◌≤◌, ℕ, suc, ◌+◌, List, ◌∷◌, ◌++◌, length, drop, Option, Some, None, arith, length-append}
use Rattle.orca_tree.specs.declared.tree.Mode.{Mode}
use Rattle.orca_tree.specs.declared.tree.Name.{Name}
use Rattle.orca_syntax.specs.Forest.{Forest, none, group}
use Rattle.orca_syntax.specs.Derivation.{operand, links, step, path, exprs, more_exprs, level, word, value, on_value, pair, if_any, stmt_inside, stmts, arms, more_arms, arm}
use Rattle.orca_grammar.specs.Forms.{Chain as ChainOf}
use Rattle.orca_lexer.specs.declared.token.Keyword.TheVariants.{KeyFi, KeyOd, KeyUntil}
use Rattle.orca_lexer.specs.declared.token.Symbol.TheVariants.{Becomes, Closes}
use Rattle.orca_lexer.specs.declared.token.TokenKind.TheVariants.{Key, Sign}
use Rattle.orca_syntax.specs.Syntax as syn
use Rattle.orca_syntax.specs.Syntax.{Expr, Links, Step, Path, Exprs, Stmt, Stmts, Arm, Arms}
use Rattle.type_rules.specs.Scopes.{Scope}
use Rattle.type_rules.specs.Statements.{with_loop}
use Rattle.meaning_rules.specs.Calls.{callee, first_mode, modes_of}
use Rattle.meaning_rules.specs.Designators.{root_type}
use Rattle.code_rules.specs.Instructions as instrs
use Rattle.code_rules.specs.Instructions.{Instr, Delete, Insert, Jump, Put, Unless}
use Rattle.code_rules.specs.Layouts.{Layout, free, inside}
use Rattle.code_rules.specs.Pieces.{Piece, one, seq, is_short, link_piece, loop_piece}
use Rattle.code_rules.specs.Phrases.{all_code, arms_code, at_slot, by_mode, count_all, expr_code, fork_code, links_code, marks, passed_code, path_code, return_code, step_code, stmt_code, stmts_code, target_code}
use Rattle.code_lengths.proofs.Tokens.{tokens}
use Rattle.code_lengths.proofs.Counts.{link_long, loop_long, mode_short, repeat_long, seq_long, while_long}

-- what stands behind statements
stmts_end : (ss : Stmts) (f : Forest) → tokens (stmts ss none) + tokens f ≡ tokens (stmts ss f)
stmts_end syn.no_stmt f = omega arith
stmts_end (syn.stmt x xs) f = let same = stmts_end xs f in omega (arith, same)

-- ---- expressions

mutual
  pub expr_short : (e : Expr) (f : Forest) (v : Scope) (l : Layout) (pc : ℕ) → length (expr_code v l e pc) + tokens f ≤ tokens (operand e f)
  expr_short (syn.Chain first ls) f v l pc =
      let le = expr_short first (group (ChainOf (level ls)) (links ls) f) v l pc in
      let more = links_short ls v l (pc + length (expr_code v l first pc)) in
      omega (arith, le, more, seq_long (expr_code v l first) (links_code v l ls) pc)
  expr_short (syn.Number at value) f v l pc = omega arith
  expr_short (syn.Char at code) f v l pc = omega arith
  expr_short (syn.Text at text) f v l pc = omega arith
  expr_short (syn.Truth at value) f v l pc = omega arith
  expr_short (syn.Not at e) f v l pc =
      let le = expr_short e none v l pc in
      let whole : length (expr_code v l (syn.Not at e) pc) ≡ length (expr_code v l e pc) + 1 = length-append (expr_code v l e pc) _ in
      omega (arith, le, whole)
  expr_short (syn.Negative at e) f v l pc =
      let le = expr_short e none v l pc in
      let whole : length (expr_code v l (syn.Negative at e) pc) ≡ length (expr_code v l e pc) + 1 = length-append (expr_code v l e pc) _ in
      omega (arith, le, whole)
  expr_short (syn.Size at e) f v l pc =
      let le = expr_short e none v l pc in
      let whole : length (expr_code v l (syn.Size at e) pc) ≡ length (expr_code v l e pc) + 1 = length-append (expr_code v l e pc) _ in
      omega (arith, le, whole)
  expr_short (syn.Ordinal at e) f v l pc =
      let le = expr_short e none v l pc in
      let whole : length (expr_code v l (syn.Ordinal at e) pc) ≡ length (expr_code v l e pc) + 1 = length-append (expr_code v l e pc) _ in
      omega (arith, le, whole)
  expr_short (syn.Parentheses at e) f v l pc = let le = expr_short e none v l pc in omega (arith, le)
  expr_short (syn.From at n p) f v l pc =
      let le = path_short p (word (Sign Closes) none) v l pc in
      let whole : length (expr_code v l (syn.From at n p) pc) ≡ length (path_code v l p pc) + 1 = length-append (path_code v l p pc) _ in
      omega (arith, le, whole)
  expr_short (syn.Get n p) f v l pc =
      let le = path_short p none v l pc in
      let whole : length (expr_code v l (syn.Get n p) pc) ≡ length (path_code v l p pc) + 1 = length-append (path_code v l p pc) _ in
      omega (arith, le, whole)
  expr_short (Expr.Call n es) f v l pc =
      let le = passed_short (modes_of (callee v n)) es (word (Sign Closes) none) v l pc in
      let whole : length (expr_code v l (Expr.Call n es) pc) ≡ length (passed_code v l (modes_of (callee v n)) es pc) + 1 =
      length-append (passed_code v l (modes_of (callee v n)) es pc) _ in
      omega (arith, le, whole)
  expr_short (Expr.Invoke n m es) f v l pc =
      let le = all_short es (word (Sign Closes) none) v l pc in
      let whole : length (expr_code v l (Expr.Invoke n m es) pc) ≡ length (all_code v l es pc) + 1 = length-append (all_code v l es pc) _ in
      omega (arith, le, whole)

  links_short : (ls : Links) (v : Scope) (l : Layout) (pc : ℕ) → length (links_code v l ls pc) ≤ tokens (links ls)
  links_short syn.no_link v l pc = omega arith
  links_short (syn.link op e ls) v l pc =
      let first = link_piece (is_short op) op (expr_code v l e) in
      let le = link_long (is_short op) op (expr_code v l e) (tokens (operand e (links ls))) (tokens (links ls)) pc (λ q. expr_short e (links ls) v l q) in
      let more = links_short ls v l (pc + length (first pc)) in
      omega (arith, le, more, seq_long first (links_code v l ls) pc)

  path_short : (p : Path) (f : Forest) (v : Scope) (l : Layout) (pc : ℕ) → length (path_code v l p pc) + tokens f ≤ tokens (path p f)
  path_short syn.here f v l pc = omega arith
  path_short (syn.to x p) f v l pc =
      let le = step_short x (path p f) v l pc in
      let more = path_short p f v l (pc + length (step_code v l x pc)) in
      omega (arith, le, more, seq_long (step_code v l x) (path_code v l p) pc)

  step_short : (x : Step) (f : Forest) (v : Scope) (l : Layout) (pc : ℕ) → length (step_code v l x pc) + tokens f ≤ tokens (step x f)
  step_short (syn.Field at n) f v l pc = omega arith
  step_short (syn.Index at e) f v l pc = let le = expr_short e none v l pc in omega (arith, le)

  all_short : (es : Exprs) (f : Forest) (v : Scope) (l : Layout) (pc : ℕ) → length (all_code v l es pc) + tokens f ≤ tokens (exprs es f)
  all_short syn.no_expr f v l pc = omega arith
  all_short (syn.expr e es) f v l pc =
      let le = expr_short e none v l pc in
      let more = more_short es f v l (pc + length (expr_code v l e pc)) in
      omega (arith, le, more, seq_long (expr_code v l e) (all_code v l es) pc)

  more_short : (es : Exprs) (f : Forest) (v : Scope) (l : Layout) (pc : ℕ) → length (all_code v l es pc) + tokens f ≤ tokens (more_exprs es f)
  more_short syn.no_expr f v l pc = omega arith
  more_short (syn.expr e es) f v l pc =
      let le = expr_short e none v l pc in
      let more = more_short es f v l (pc + length (expr_code v l e pc)) in
      omega (arith, le, more, seq_long (expr_code v l e) (all_code v l es) pc)

  passed_short : (ms : List Mode) (es : Exprs) (f : Forest) (v : Scope) (l : Layout) (pc : ℕ) → length (passed_code v l ms es pc) + tokens f ≤ tokens (exprs es f)
  passed_short ms syn.no_expr f v l pc = omega arith
  passed_short ms (syn.expr e es) f v l pc =
      let own = by_mode (first_mode ms) (expr_code v l e) (target_code v l e) in
      let value = expr_short e none v l pc in
      let le : length (own pc) ≤ tokens (operand e none) =
      mode_short (first_mode ms) (expr_code v l e) (target_code v l e) (tokens (operand e none)) pc (omega (arith, value)) (target_short e v l pc) in
      let more = more_passed (drop 1 ms) es f v l (pc + length (own pc)) in
      omega (arith, le, more, seq_long own (passed_code v l (drop 1 ms) es) pc)

  more_passed : (ms : List Mode) (es : Exprs) (f : Forest) (v : Scope) (l : Layout) (pc : ℕ) → length (passed_code v l ms es pc) + tokens f ≤ tokens (more_exprs es f)
  more_passed ms syn.no_expr f v l pc = omega arith
  more_passed ms (syn.expr e es) f v l pc =
      let own = by_mode (first_mode ms) (expr_code v l e) (target_code v l e) in
      let value = expr_short e none v l pc in
      let le : length (own pc) ≤ tokens (operand e none) =
      mode_short (first_mode ms) (expr_code v l e) (target_code v l e) (tokens (operand e none)) pc (omega (arith, value)) (target_short e v l pc) in
      let more = more_passed (drop 1 ms) es f v l (pc + length (own pc)) in
      omega (arith, le, more, seq_long own (passed_code v l (drop 1 ms) es) pc)

  target_short : (e : Expr) (v : Scope) (l : Layout) (pc : ℕ) → length (target_code v l e pc) ≤ tokens (operand e none)
  target_short (syn.Get n p) v l pc = let le = path_short p none v l pc in omega (arith, le)
  target_short (syn.Chain first ls) v l pc = omega arith
  target_short (syn.Number at value) v l pc = omega arith
  target_short (syn.Char at code) v l pc = omega arith
  target_short (syn.Text at text) v l pc = omega arith
  target_short (syn.Truth at value) v l pc = omega arith
  target_short (syn.Not at e) v l pc = omega arith
  target_short (syn.Negative at e) v l pc = omega arith
  target_short (syn.Parentheses at e) v l pc = omega arith
  target_short (syn.From at n p) v l pc = omega arith
  target_short (syn.Size at e) v l pc = omega arith
  target_short (syn.Ordinal at e) v l pc = omega arith
  target_short (Expr.Call n es) v l pc = omega arith
  target_short (Expr.Invoke n m es) v l pc = omega arith

-- ---- statements

return_short : (e : Option Expr) (v : Scope) (l : Layout) (pc : ℕ) → length (return_code v l e pc) ≤ suc (tokens (if_any value e none))
return_short None v l pc = omega arith
return_short (Some e) v l pc =
    let le = expr_short e none v l pc in
    omega (arith, le, seq_long (expr_code v l e) (one instrs.Result) pc)

fork_short : (n : Name) (k : ℕ) (e : Option Expr) (v : Scope) (l : Layout) (pc : ℕ) → length (fork_code v l n k e pc) ≤ tokens (if_any on_value e none) + 2
fork_short n k None v l pc = omega arith
fork_short n k (Some e) v l pc =
    let le = expr_short e none v l pc in
    let whole : length (fork_code v l n k (Some e) pc) ≡ length (expr_code v l e pc) + 2 = length-append (expr_code v l e pc) _ in
    omega (arith, le, whole)

-- one that changes a set or bag
pair_short : (e : Expr) (n : Name) (p : Path) (i : Instr) (v : Scope) (l : Layout) (pc : ℕ) →
    length (seq (expr_code v l e) (seq (path_code v l p) (one i)) pc) ≤ tokens (pair e n p)
pair_short e n p i v l pc =
    let at = pc + length (expr_code v l e pc) in
    let le = expr_short e none v l pc in
    let more = path_short p (word (Sign Closes) none) v l at in
    omega (arith, le, more, seq_long (expr_code v l e) (seq (path_code v l p) (one i)) pc, seq_long (path_code v l p) (one i) at)

-- a row of arguments and what is done with them
row_short : (p : Piece) (a b : Instr) (n pc : ℕ) → length (p pc) ≤ n → length (seq p (seq (one a) (one b)) pc) ≤ n + 2
row_short p a b n pc le = omega (arith, le, seq_long p (seq (one a) (one b)) pc)

-- an arm with a test, and those behind it
when_short : (test : Expr) (ss : Stmts) (as_ : Arms) (f : Forest) (v : Scope) (l : Layout) (pc : ℕ) →
    ((q : ℕ) → length (stmts_code v l ss q) + tokens (more_arms as_ f) ≤ tokens (stmts ss (more_arms as_ f))) →
    ((q : ℕ) → length (arms_code v l as_ q) + tokens f ≤ tokens (more_arms as_ f)) →
    length (arms_code v l (syn.arm (syn.When test ss) as_) pc) + tokens f ≤ suc (tokens (arm (syn.When test ss) (more_arms as_ f)))
when_short test ss as_ f v l pc body_le rest_le =
    let test_piece = expr_code v l test in
    let body_piece = stmts_code v l ss in
    let rest_piece = arms_code v l as_ in
    let body = pc + length (test_piece pc) + 1 in
    let others = body + length (body_piece body) + 1 in
    let jump = Jump (others + length (rest_piece others)) in
    let a = expr_short test none v l pc in
    let b = body_le body in
    let c = rest_le others in
    let outer = length-append (test_piece pc) (Unless others ∷ (body_piece body ++ (jump ∷ rest_piece others))) in
    let inner = length-append (body_piece body) (jump ∷ rest_piece others) in
    omega (arith, a, b, c, outer, inner)

mutual
  -- a statement has a semicolon too
  pub stmt_short : (x : Stmt) (v : Scope) (l : Layout) (pc : ℕ) → length (stmt_code v l x pc) ≤ suc (tokens (stmt_inside x))
  stmt_short (syn.Return at e) v l pc = let le = return_short e v l pc in omega (arith, le)
  stmt_short (syn.If at as_) v l pc = let le = arms_short as_ (word (Key KeyFi) none) v l pc in omega (arith, le)
  stmt_short (syn.While at test ss) v l pc =
      let le = while_long (expr_code v l test) (stmts_code v l ss) (tokens (operand test none)) (tokens (stmts ss none)) pc
      (λ q. let t = expr_short test none v l q in omega (arith, t)) (λ q. let t = stmts_short ss none v l q in omega (arith, t)) in
      let end = stmts_end ss (word (Key KeyOd) none) in
      omega (arith, le, end)
  stmt_short (syn.For at n low high ss) v l pc =
      let lc = expr_code v l low in
      let hc = expr_code v l high in
      let bc = loop_piece (free l) (stmts_code (with_loop v n) (inside l) ss) in
      let at2 = pc + length (lc pc) in
      let at3 = at2 + length (hc at2) in
      let a = expr_short low none v l pc in
      let b = expr_short high none v l at2 in
      let le = loop_long (free l) (stmts_code (with_loop v n) (inside l) ss) (tokens (stmts ss none)) at3
      (λ q. let t = stmts_short ss none (with_loop v n) (inside l) q in omega (arith, t)) in
      let end = stmts_end ss (word (Key KeyOd) none) in
      omega (arith, a, b, le, end, seq_long lc (seq hc bc) pc, seq_long hc bc at2)
  stmt_short (syn.Repeat at ss test) v l pc =
      let le = repeat_long (stmts_code v l ss) (expr_code v l test) (tokens (stmts ss none)) (tokens (operand test none)) pc
      (λ q. let t = stmts_short ss none v l q in omega (arith, t)) (λ q. let t = expr_short test none v l q in omega (arith, t)) in
      let end = stmts_end ss (word (Key KeyUntil) (value test none)) in
      omega (arith, le, end)
  stmt_short (syn.Fork at n es on) v l pc =
      let back = if_any on_value on none in
      let le = all_short es (word (Sign Closes) back) v l pc in
      let more = fork_short n (count_all es) on v l (pc + length (all_code v l es pc)) in
      omega (arith, le, more, seq_long (all_code v l es) (fork_code v l n (count_all es) on) pc)
  stmt_short (syn.WriteLine at es) v l pc =
      let le = all_short es (word (Sign Closes) none) v l pc in
      let whole : length (stmt_code v l (syn.WriteLine at es) pc) ≡ length (all_code v l es pc) + 3 = length-append (all_code v l es pc) _ in
      omega (arith, le, whole)
  stmt_short (syn.Insert at e n p) v l pc =
      let le = pair_short e n p (Insert (at_slot v l n) (marks v (root_type v n) p)) v l pc in omega (arith, le)
  stmt_short (syn.Delete at e n p) v l pc =
      let le = pair_short e n p (Delete (at_slot v l n) (marks v (root_type v n) p)) v l pc in omega (arith, le)
  stmt_short (syn.Assign n p e) v l pc =
      let put = one (Put (at_slot v l n) (marks v (root_type v n) p)) in
      let at = pc + length (path_code v l p pc) in
      let le = path_short p (word (Sign Becomes) (value e none)) v l pc in
      let more = expr_short e none v l at in
      omega (arith, le, more, seq_long (path_code v l p) (seq (expr_code v l e) put) pc, seq_long (expr_code v l e) put at)
  stmt_short (Stmt.Call n es) v l pc =
      let le = passed_short (modes_of (callee v n)) es (word (Sign Closes) none) v l pc in
      let whole : length (stmt_code v l (Stmt.Call n es) pc) ≡ length (passed_code v l (modes_of (callee v n)) es pc) + 2 =
      length-append (passed_code v l (modes_of (callee v n)) es pc) _ in
      omega (arith, le, whole)
  stmt_short (Stmt.Invoke n m es) v l pc =
      let le = all_short es (word (Sign Closes) none) v l pc in
      let whole : length (stmt_code v l (Stmt.Invoke n m es) pc) ≡ length (all_code v l es pc) + 2 = length-append (all_code v l es pc) _ in
      omega (arith, le, whole)

  pub stmts_short : (ss : Stmts) (f : Forest) (v : Scope) (l : Layout) (pc : ℕ) → length (stmts_code v l ss pc) + tokens f ≤ tokens (stmts ss f)
  stmts_short syn.no_stmt f v l pc = omega arith
  stmts_short (syn.stmt x xs) f v l pc =
      let le = stmt_short x v l pc in
      let more = stmts_short xs f v l (pc + length (stmt_code v l x pc)) in
      omega (arith, le, more, seq_long (stmt_code v l x) (stmts_code v l xs) pc)

  -- the first arm has the word `if`, and each other one a word of its own
  arms_short : (as_ : Arms) (f : Forest) (v : Scope) (l : Layout) (pc : ℕ) → length (arms_code v l as_ pc) + tokens f ≤ suc (tokens (arms as_ f))
  arms_short syn.no_arm f v l pc = omega arith
  arms_short (syn.arm (syn.When test ss) as_) f v l pc =
      when_short test ss as_ f v l pc (λ q. stmts_short ss (more_arms as_ f) v l q) (λ q. more_arms_short as_ f v l q)
  arms_short (syn.arm (syn.Otherwise ss) as_) f v l pc =
      let le = stmts_short ss (more_arms as_ f) v l pc in
      let rest = more_arms_short as_ f v l pc in
      omega (arith, le, rest)

  more_arms_short : (as_ : Arms) (f : Forest) (v : Scope) (l : Layout) (pc : ℕ) → length (arms_code v l as_ pc) + tokens f ≤ tokens (more_arms as_ f)
  more_arms_short syn.no_arm f v l pc = omega arith
  more_arms_short (syn.arm (syn.When test ss) as_) f v l pc =
      when_short test ss as_ f v l pc (λ q. stmts_short ss (more_arms as_ f) v l q) (λ q. more_arms_short as_ f v l q)
  more_arms_short (syn.arm (syn.Otherwise ss) as_) f v l pc =
      let le = stmts_short ss (more_arms as_ f) v l pc in
      let rest = more_arms_short as_ f v l pc in
      omega (arith, le, rest)
