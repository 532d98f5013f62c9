-- The record of a fault.
use Rattle.std.specs.Prelude.{◌≡◌, ◌≢◌, ℕ, List, ◌∷◌, Ok, Err, Result}
use Rattle.faults.specs.Bytes.{four_bytes}
use Rattle.faults.specs.Numbers.{layer, number, place}
use Rattle.faults.specs.declared.fault.Fault.{Fault}
use Rattle.faults.specs.declared.fault.NoRecord.{NoRecord}

-- The tag 8F, the length 6 in two bytes, the layer, the number, and the place in four bytes.
abbrev pub fault_record : Fault → List ℕ
fault_record f = 0x8f ∷ 0 ∷ 6 ∷ layer f ∷ number f ∷ four_bytes (place f)

-- The fault whose record the bytes are; an error where they are no fault's record.
abbrev pub ReadsRecord : List ℕ → Result Fault NoRecord → Type 0
ReadsRecord bytes (Ok f) = fault_record f ≡ bytes
ReadsRecord bytes (Err e) = (f : Fault) → fault_record f ≢ bytes
