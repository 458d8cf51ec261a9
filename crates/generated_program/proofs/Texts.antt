-- The text of the generated program is its tokens, laid out.
use Rattle.std.proofs.Common.{◌≡◌, ℕ, ◌+◌, ◌<◌, ◌≤◌, List, [], ◌∷◌, ◌++◌, length, refl, ap, ◌∙◌, arith, append_assoc, length-append}
use Rattle.std.specs.Prelude.{codes}
use Rattle.std.specs.Fmt.{decimal, digits}
use Rattle.std.proofs.lemmas.Fmt.{length-decimal-le}
use Rattle.std.proofs.lemmas.Nat.{mod_below}
use Rattle.orca_base.specs.declared.limits.TheConstants.{SOURCE_BYTES}
use Rattle.generated_program.specs.Program.{main_lines, pool_lines, program_text, rounds_of, text_of, total_lines, worker_lines, workers_of}
use Rattle.generated_program.proofs.LaidOut.{laid_out}
use Rattle.generated_program.proofs.Pieces.{layout}

-- a number within a line, and what stands behind it
moved : (number behind rest : List ℕ) → ((number ++ behind) ++ 10 ∷ []) ++ rest ≡ number ++ (behind ++ 10 ∷ rest)
moved number behind rest = append_assoc (number ++ behind) (10 ∷ []) rest ∙ append_assoc number behind (10 ∷ rest)

-- what stands in front of the number of rounds, between it and that of workers, between these two, and behind
abbrev front : List ℕ
front =
    text_of (total_lines ++ (pool_lines ++ codes "process Worker(t: shared Total; p: shared Pool; j: integer);" ∷ codes "  s: integer;" ∷ codes "begin" ∷ []))
    ++ codes "  for i in 1.."

abbrev adds : List ℕ
adds = codes " do t$Add(j * i); s := t$Value(); od;"

abbrev between : List ℕ
between =
    text_of (codes "  p$Put(j);" ∷ codes "end;" ∷ codes "process OrcaMain();" ∷ codes "  T: Total; P: Pool; s: integer;" ∷ codes "begin" ∷ [])
    ++ codes "  for j in 1.."

abbrev forks : List ℕ
forks = codes " do fork Worker(T, P, j) on j; od;"

abbrev again : List ℕ
again = codes "  for j in 1.."

abbrev takes : List ℕ
takes = codes " do s := P$Take(); od;"

abbrev back : List ℕ
back = text_of (codes "  WriteLine(T$Value());" ∷ codes "end;" ∷ [])

abbrev numbered : List ℕ → List ℕ → List ℕ → List ℕ
numbered number behind rest = ((number ++ behind) ++ 10 ∷ []) ++ rest

abbrev plain : List ℕ → List ℕ → List ℕ → List ℕ
plain number behind rest = number ++ (behind ++ 10 ∷ rest)

takes_moved : (workers : List ℕ) → numbered workers takes back ≡ plain workers takes back
takes_moved workers = moved workers takes back

forks_moved : (workers : List ℕ) → numbered workers forks (again ++ numbered workers takes back) ≡ plain workers forks (again ++ plain workers takes back)
forks_moved workers =
    moved workers forks (again ++ numbered workers takes back) ∙ ap (λ (l : List ℕ). plain workers forks (again ++ l)) (takes_moved workers)

adds_moved : (rounds workers : List ℕ) →
    front ++ numbered rounds adds (between ++ numbered workers forks (again ++ numbered workers takes back))
    ≡ front ++ plain rounds adds (between ++ plain workers forks (again ++ plain workers takes back))
adds_moved rounds workers =
    ap (λ (l : List ℕ). front ++ l)
    (moved rounds adds (between ++ numbered workers forks (again ++ numbered workers takes back))
    ∙ ap (λ (l : List ℕ). plain rounds adds (between ++ l)) (forks_moved workers))

abbrev lines : ℕ → ℕ → List (List ℕ)
lines rounds workers = total_lines ++ (pool_lines ++ (worker_lines rounds ++ main_lines workers))

lines_laid_out : (rounds workers : ℕ) → text_of (lines rounds workers) ≡ laid_out (layout rounds workers)
unfolding digits
lines_laid_out rounds workers = adds_moved (decimal rounds) (decimal workers)

pub text_is : (number : ℕ) → program_text number ≡ laid_out (layout (rounds_of number) (workers_of number))
unfolding program_text
text_is number = lines_laid_out (rounds_of number) (workers_of number)

-- ---- how long it is

plain_length : (number behind rest : List ℕ) → length (plain number behind rest) ≡ length number + (length behind + (1 + length rest))
plain_length number behind rest =
    let one : length (10 ∷ rest) ≡ 1 + length rest = omega arith in
    length-append number (behind ++ 10 ∷ rest) ∙ ap (λ n. length number + n) (length-append behind (10 ∷ rest) ∙ ap (λ n. length behind + n) one)

lines_length : (rounds workers : List ℕ) →
    length (front ++ plain rounds adds (between ++ plain workers forks (again ++ plain workers takes back))) ≡ 864 + (length rounds + (length workers + length workers))
lines_length rounds workers =
    let y3 = plain_length workers takes back in
    let y2 = plain_length workers forks (again ++ plain workers takes back) in
    let y1 = plain_length rounds adds (between ++ plain workers forks (again ++ plain workers takes back)) in
    let f : length front ≡ 635 = refl in
    let a : length adds ≡ 37 = refl in
    let b : length between ≡ 90 = refl in
    let k : length forks ≡ 34 = refl in
    let g : length again ≡ 14 = refl in
    let t : length takes ≡ 22 = refl in
    let e : length back ≡ 29 = refl in
    omega (
      arith,
      y1,
      y2,
      y3,
      f,
      a,
      b,
      k,
      g,
      t,
      e,
      length-append front (plain rounds adds (between ++ plain workers forks (again ++ plain workers takes back))),
      length-append between (plain workers forks (again ++ plain workers takes back)),
      length-append again (plain workers takes back),
    )

pub rounds_few : (number : ℕ) → rounds_of number < 200
rounds_few number = let m = mod_below number 100 (omega arith) in omega (arith, m)

pub workers_few : (number : ℕ) → workers_of number < 8
workers_few number = let m = mod_below number 5 (omega arith) in omega (arith, m)

-- it is no longer than a source may be
pub text_short : (number : ℕ) → length (program_text number) ≤ SOURCE_BYTES
unfolding program_text
text_short number =
    let r = rounds_few number in
    let w = workers_few number in
    let rounds = decimal (rounds_of number) in
    let workers = decimal (workers_of number) in
    let long = length-decimal-le 20 (rounds_of number) (omega arith) (omega (arith, r)) (omega (arith, r)) in
    let short = length-decimal-le 20 (workers_of number) (omega arith) (omega (arith, w)) (omega (arith, w)) in
    omega (arith, ap length (adds_moved rounds workers) ∙ lines_length rounds workers, long, short)
