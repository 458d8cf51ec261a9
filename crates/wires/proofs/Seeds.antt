-- The words of a seed, one after the other.
use Rattle.std.proofs.Common.{◌≡◌, ℕ, ◌+◌, List, [], ◌∷◌, ◌++◌, reverse, ap, refl, sym, subst, ◌∙◌, add-one, arith}
use Rattle.rand_pcg.specs.Lcg.{Lcg}
use Rattle.rand_pcg.specs.Pcg.{pcg32}
use Rattle.net_rules.specs.declared.asked.Asked.{Asked}
use Rattle.net_rules.specs.declared.asked.Asked.TheVariants.{Packet}
use Rattle.net_rules.specs.declared.asked.Question.{Question}
use Rattle.net_rules.specs.declared.fate.Fate.{Fate}
use Rattle.net_rules.specs.declared.line.Kinds.TheVariants.{Any}
use Rattle.net_rules.specs.Answered.{Answered}
use Rattle.net_rules.specs.Asked.{count}
use Rattle.net_rules.specs.Script.{lost_or_passed}
use Rattle.net_rules.specs.Words.{behind, generator, next_word}
use Rattle.wires.specs.Wired.{by_seed}
use Rattle.wires.proofs.Told.{count_more, latest}

pub behind_none : (g : Lcg) → behind 0 g ≡ g
unfolding behind
behind_none g = refl

pub behind_more : (n : ℕ) (g : Lcg) → behind (n + 1) g ≡ (pcg32 (behind n g)).1
unfolding behind
behind_more n g = rw add-one refl

-- what is kept of the words and of the answers
abbrev pub Keeps : ℕ → ℕ → List Asked → Lcg → Type 0
Keeps seed percent asked source = (source ≡ behind (count Any asked) (generator seed)) × Answered (by_seed seed percent) asked

pub starts : (seed percent : ℕ) (told : List Asked) (source : Lcg) → told ≡ [] → source ≡ generator seed → Keeps seed percent (reverse told) source
starts seed percent told source none e =
    subst (λ (ts : List Asked). Keeps seed percent (reverse ts) source) (sym none) (e ∙ sym (behind_none (generator seed)), tt)

pub goes_on : (seed percent : ℕ) (told now : List Asked) (question : Question) (fate : Fate) (source after : Lcg) → now ≡ told ++ Packet question fate ∷ [] →
    fate ≡ lost_or_passed percent (next_word source) → after ≡ (pcg32 source).1 → Keeps seed percent (reverse told) source → Keeps seed percent (reverse now) after
goes_on seed percent told now question fate source after grew is then kept =
    let n = count Any (reverse told) in
    let more : count Any (Packet question fate ∷ reverse told) ≡ n + 1 = count_more Any (Packet question fate) (reverse told) ∙ omega arith in
    subst (λ (ts : List Asked). Keeps seed percent ts after) (sym (latest told now (Packet question fate) grew)) (
      then ∙ ap (λ g. (pcg32 g).1) kept.0 ∙ sym (behind_more n (generator seed)) ∙ ap (λ k. behind k (generator seed)) (sym more),
      (is ∙ ap (λ g. lost_or_passed percent (next_word g)) kept.0, kept.1),
    )
