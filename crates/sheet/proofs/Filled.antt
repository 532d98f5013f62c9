-- The column of the first unfinished row, between the columns before it and what stands after it.
use Rattle.std.proofs.Common.{◌≡◌, ℕ, ◌+◌, ◌*◌, ◌≤◌, List, ◌++◌, length, Some, slice_get, take, drop, ap, ◌∙◌, add-mul, one-mul, arith}
use Rattle.std.proofs.lemmas.List.{take_at, drop_at, drop-drop, length-take-le}
use Rattle.std.proofs.lemmas.Option.{get_or_from_slice_get}
use Rattle.systems.specs.Machine.{Machine}
use Rattle.rows.specs.declared.rows.FormulaRow.{FormulaRow}
use Rattle.rows.specs.declared.rows.FormulaRow.TheVariants.{True}
use Rattle.direct.specs.Labelled.{Labels}
use Rattle.sheet.specs.Book.{Book}
use Rattle.sheet.specs.Labelling.{Fills}

-- The columns are `earlier` and `rest`; the column is written at the front of the rest.
module _ (m : Machine) (b : Book) (cs earlier column rest : List ℕ) (k : ℕ) where
  abbrev r : ℕ
  r = length b.finished

  pub filled :
      (row : FormulaRow) (i : ℕ) → slice_get b.rows r ≡ Some row → i ≡ r → earlier ≡ take (i * b.n) cs → rest ≡ drop (i * b.n) cs → length column ≡ b.n → (r + 1) * b.n ≤ length cs
      → Labels m b.actions row earlier column k → Fills m b cs (earlier ++ (column ++ drop b.n rest)) k
  filled row i first number front back l room labels =
      let f : earlier ≡ take (r * b.n) cs = front ∙ ap (λ j. take (j * b.n) cs) number in
      let e : rest ≡ drop (r * b.n) cs = back ∙ ap (λ j. drop (j * b.n) cs) number in
      let next : r * b.n + b.n ≡ (r + 1) * b.n = omega (arith, add-mul r 1 b.n, one-mul b.n) in
      let h : length earlier ≡ r * b.n = ap length f ∙ length-take-le (r * b.n) cs (omega arith) in
      let past : drop (r * b.n) (earlier ++ (column ++ drop b.n rest)) ≡ column ++ drop b.n rest = drop_at earlier _ (r * b.n) h in
      let same : take b.n (drop (r * b.n) (earlier ++ (column ++ drop b.n rest))) ≡ column = ap (take b.n) past ∙ take_at column _ b.n l in
      record {
        labels = rw (same, ← f, get_or_from_slice_get b.rows r row True first) labels;
        before = take_at earlier _ (r * b.n) h ∙ f;
        after = rw (← next, ← drop-drop b.n (r * b.n) (earlier ++ (column ++ drop b.n rest)), ← drop-drop b.n (r * b.n) cs, past, ← e) (drop_at column _ b.n l);
      }
