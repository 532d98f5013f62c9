-- Why a row is not labelled, in words.
use Rattle.std.specs.Prelude.{ℕ, List, codes}
use Rattle.translation.specs.declared.unlabelled.Unlabelled.{Unlabelled}
use Rattle.translation.specs.declared.unlabelled.Unlabelled.TheVariants.{Column, Transitions, Nodes, Scratch}

abbrev pub unlabelled_in_words : Unlabelled → List ℕ
unlabelled_in_words Column = codes "the column's length is not the number of states"
unlabelled_in_words Transitions = codes "too many transitions"
unlabelled_in_words Nodes = codes "the structure would have too many nodes"
unlabelled_in_words Scratch = codes "the scratch has no room for three columns of nodes"
