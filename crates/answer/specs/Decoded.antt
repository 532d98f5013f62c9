-- What the bytes of a job's parts stand for.
use Rattle.std.specs.Prelude.{◌≡◌, ℕ, ◌+◌, ◌*◌, ◌/◌, ◌<◌, List, length, take, drop, Some, None, Option, slice_index, slice_index_or}
use Rattle.faults.specs.Bytes.{two_at}
use Rattle.systems.specs.declared.actions.ActionSet.{ActionSet}
use Rattle.systems.specs.declared.mailbox.Mailbox.{Mailbox}
use Rattle.systems.specs.declared.row.Row.{Row}

-- The row whose bytes begin at a place: source in two bytes, action in one, target in two.
abbrev pub RowAt : List ℕ → ℕ → Row → Type 0
RowAt body i row = (row.source ≡ two_at body i) × (row.action ≡ slice_index body (i + 2)) × (row.target ≡ two_at body (i + 3))

-- The rows of a table's body, five bytes to each.
abbrev pub TableRows : List ℕ → List Row → Type 0
TableRows body rows = (length rows ≡ length body / 5) × ((k : ℕ) → k < length rows → (d : Row) → RowAt body (5 * k) (slice_index_or rows k d))

-- The mailbox of a body of 35 bytes: capacity, put and take in one byte each, then the set of the shared actions.
abbrev pub MailboxOf : List ℕ → Option (Mailbox × ActionSet) → Type 0
MailboxOf body None = length body ≡ 35 → ⊥
MailboxOf body (Some m) =
    (length body ≡ 35) × (m.0.capacity ≡ slice_index body 0) × (m.0.put ≡ slice_index body 1) × (m.0.take ≡ slice_index body 2)
    × (m.1.bytes ≡ take 32 (drop 3 body))
