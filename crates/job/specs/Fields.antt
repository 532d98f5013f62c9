-- The fields of a job as they stand in its bytes.
use Rattle.std.specs.Prelude.{ℕ, ◌+◌, ◌/◌, ◌%◌, Bool, cond, ◌&&◌, ◌||◌, List, length, take, drop, ◌==◌, nat_le, nat_lt, slice_index}
use Rattle.faults.specs.Bytes.{two_at}

-- A field starts at a place with its tag, a byte; then come the length of its body, two bytes, and the body.
abbrev pub tag_at : List ℕ → ℕ → ℕ
tag_at job at = slice_index job at

abbrev pub length_at : List ℕ → ℕ → ℕ
length_at job at = two_at job (at + 1)

abbrev pub body_at : List ℕ → ℕ → List ℕ
body_at job at = take (length_at job at) (drop (at + 3) job)

-- The place after the field.
abbrev pub next_at : List ℕ → ℕ → ℕ
next_at job at = at + 3 + length_at job at

-- Whether the header or the body runs past the end.
abbrev pub past_end : List ℕ → ℕ → Bool
past_end job at = nat_lt (length job) (at + 3) || nat_lt (length job) (next_at job at)

-- Whether a tag skips one of the fields 1 to 4, where `last` is the tag before it, or 0.
abbrev pub skips : (last tag : ℕ) → Bool
skips last tag = nat_lt last 4 && nat_lt (last + 1) tag

-- Whether so many bytes are rows of a size, and not more than the most.
abbrev pub are_rows : (size most : ℕ) → ℕ → Bool
are_rows size most bytes = bytes % size == 0 && nat_le (bytes / size) most

-- Whether the body of the field of a tag may have so many bytes.
abbrev pub fitting : (tag : ℕ) → ℕ → Bool
fitting tag bytes =
    cond (tag == 1) (bytes == 5)
    (cond (tag == 2) (are_rows 5 4096 bytes)
    (cond (tag == 3) (are_rows 3 64 bytes)
    (cond (tag == 4) (are_rows 5 64 bytes)
    (cond (tag == 5) (bytes == 35)
    (bytes == 32)))))

-- Whether it is the head, and its route is neither 0 nor 1.
abbrev pub no_route : (tag : ℕ) → List ℕ → Bool
no_route tag body = tag == 1 && nat_lt 1 (slice_index body 4)
