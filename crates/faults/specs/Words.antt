-- A fault in words.
use Rattle.std.specs.Prelude.{ℕ, List, ◌++◌, codes, decimal}
use Rattle.faults.specs.Numbers.{layer, number, place}
use Rattle.faults.specs.declared.fault.Fault.{Fault}

abbrev pub fault_in_words : Fault → List ℕ
fault_in_words f = codes "fault " ++ decimal (number f) ++ codes " of layer " ++ decimal (layer f) ++ codes " at " ++ decimal (place f)

-- Said of bytes that are no fault's record.
abbrev pub no_record_in_words : List ℕ
no_record_in_words = codes "the bytes are no fault's record"
