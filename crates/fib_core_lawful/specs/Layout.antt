-- Where each shared word lies. What one seat stores while others load it, or store beside it, has a cache line of its own: eight words
-- of 64 bits.
use Rattle.std.specs.Prelude.{ℕ, ◌+◌, ◌-◌, ◌*◌, ◌/◌}

-- how many words apart they are
abbrev pub line : ℕ
line = 8

-- the version
abbrev pub version_word : ℕ
version_word = 0

-- the pass word of worker n: there are eight
abbrev pub pass_word : ℕ → ℕ
pass_word n = line + line * n

-- how many claims were drawn
abbrev pub claim_word : ℕ
claim_word = pass_word 8

-- the cells, in order
abbrev pub first_cell : ℕ
first_cell = claim_word + line

abbrev pub cell_word : ℕ → ℕ
cell_word k = first_cell + k

-- all words where there are so many objects, of sixteen cells each
abbrev pub words_for : ℕ → ℕ
words_for objects = first_cell + 16 * objects

-- whose pass word, and which cell, such a word is
abbrev pub worker_at : ℕ → ℕ
worker_at i = (i - line) / line

abbrev pub cell_of : ℕ → ℕ
cell_of i = i - first_cell
