-- The bounds of document 01, each once.
use Rattle.std.specs.Prelude.{ℕ}

-- "n | 1 to 64"
abbrev pub most_fragments : ℕ
most_fragments = 64

-- "block length L | 0 to 65,536"
abbrev pub longest_block : ℕ
longest_block = 65536

-- "a body to be hashed or fingerprinted over 65,538"
abbrev pub longest_body : ℕ
longest_body = 65538

-- "seed | 0 to 16,777,215"
abbrev pub largest_seed : ℕ
largest_seed = 16777215
