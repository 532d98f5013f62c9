-- The limits of a sheet.
use Rattle.std.specs.Prelude.{ℕ}

-- A sheet has at most this many states.
abbrev pub most_states : ℕ
most_states = 1024

-- A sheet has at most this many rows of each sort.
abbrev pub most_rows : ℕ
most_rows = 64
