-- The random words by which packets are dropped: those of the generator Pcg32 (O'Neill), made from a seed of 64 bits.
use Rattle.std.specs.Prelude.{ℕ, zero, suc, ◌%◌, Bool, nat_lt}
use Rattle.rand_core.specs.Pcg32Seed.{pcg32_seed}
use Rattle.rand_pcg.specs.Lcg.{Lcg}
use Rattle.rand_pcg.specs.Pcg.{pcg32, pcg32_of_seed}

-- the generator of a seed, of which its 16 bytes are made
unfoldable pub generator : ℕ → Lcg
generator seed = pcg32_of_seed (pcg32_seed 16 seed)

-- the generator behind so many words
unfoldable pub behind : ℕ → Lcg → Lcg
behind zero source = source
behind (suc n) source = (pcg32 (behind n source)).1

-- the next word of a generator
unfoldable pub next_word : Lcg → ℕ
next_word source = (pcg32 source).0

-- the word of a seed that comes behind so many
abbrev pub word : ℕ → ℕ → ℕ
word seed n = next_word (behind n (generator seed))

-- a packet that gets this word is dropped
abbrev pub is_lost : ℕ → ℕ → Bool
is_lost percent word = nat_lt (word % 100) percent
