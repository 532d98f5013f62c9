-- Why a job has no answer or no report, in words.
use Rattle.std.specs.Prelude.{ℕ, List, codes}
use Rattle.answer.specs.declared.stop.Unanswered.{Unanswered}
use Rattle.answer.specs.declared.stop.Unanswered.TheVariants.{Memory, Translated}
use Rattle.answer.specs.declared.stop.Stop.{Stop}
use Rattle.answer.specs.declared.stop.Stop.TheVariants.{Faulty, Without}
use Rattle.faults.specs.Words.{fault_in_words}

abbrev pub reason_in_words : Unanswered → List ℕ
reason_in_words Memory = codes "not enough memory"
reason_in_words Translated = codes "the translated route is not there yet"

abbrev pub stop_in_words : Stop → List ℕ
stop_in_words (Faulty f) = fault_in_words f
stop_in_words (Without u) = reason_in_words u
