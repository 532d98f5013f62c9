-- Numbers as bytes, the most significant byte first.
use Rattle.std.specs.Prelude.{ℕ, ◌+◌, ◌*◌, ◌/◌, ◌%◌, List, [], ◌∷◌, slice_index}

-- The last two bytes of a number; the last four.
abbrev pub two_bytes : ℕ → List ℕ
two_bytes x = x / 256 % 256 ∷ x % 256 ∷ []

abbrev pub four_bytes : ℕ → List ℕ
four_bytes x = x / 16777216 % 256 ∷ x / 65536 % 256 ∷ x / 256 % 256 ∷ x % 256 ∷ []

-- The number of the two bytes at a place.
abbrev pub two_at : List ℕ → ℕ → ℕ
two_at bytes i = slice_index bytes i * 256 + slice_index bytes (i + 1)
