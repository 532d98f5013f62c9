-- The values of rows that are made in turn.
use Rattle.std.proofs.Common.{◌≡◌, ℕ, zero, suc, ◌+◌, ◌<◌, List, [], ◌∷◌, ◌++◌, length, get_or, take, sym, refl, ap, ◌∙◌, append_assoc, append-nil, arith}
use Rattle.std.proofs.lemmas.List.{length_push, get_or_push, get_or_append_left, take_at}
use Rattle.rows.specs.Rows.{in_turn}

module _ {R V : Type 0} (make : List V → R → V) where
  abbrev on : List V → R → List V
  on before row = before ++ make before row ∷ []

  long : (before : List V) (row : R) → length (on before row) ≡ length before + 1
  long before row = length_push before _

  pub in_turn_long : (before : List V) (rows : List R) → length (in_turn make before rows) ≡ length before + length rows
  in_turn_long before [] = omega arith
  in_turn_long before (row ∷ rows) = omega (arith, in_turn_long (on before row) rows, long before row)

  -- Earlier values stay.
  rest : (before : List V) (rows : List R) → (vs : List V) × (in_turn make before rows ≡ before ++ vs)
  rest before [] = ([], sym (append-nil before))
  rest before (row ∷ rows) = let (vs, e) = rest (on before row) rows in (make before row ∷ vs, e ∙ append_assoc before (make before row ∷ []) vs)

  pub in_turn_keep : (d : V) (before : List V) (rows : List R) (i : ℕ) → i < length before → get_or (in_turn make before rows) i d ≡ get_or before i d
  in_turn_keep d before rows i h = let (vs, e) = rest before rows in ap (λ l. get_or l i d) e ∙ get_or_append_left before vs d i h

  in_turn_front : (before : List V) (rows : List R) → take (length before) (in_turn make before rows) ≡ before
  in_turn_front before rows = let (vs, e) = rest before rows in ap (take (length before)) e ∙ take_at before vs (length before) refl

  -- Each value is made from the values before it and its row.
  pub in_turn_at :
      (d : V) (r : R) (before : List V) (rows : List R) (k n : ℕ) → n ≡ length before + k → k < length rows
      → get_or (in_turn make before rows) n d ≡ make (take n (in_turn make before rows)) (get_or rows k r)
  in_turn_at d r before [] k n e h = absurd (omega arith)
  in_turn_at d r before (row ∷ rows) zero n e h =
      let same : n ≡ length before = omega arith in
      in_turn_keep d (on before row) rows n (omega (arith, long before row))
      ∙ get_or_push before _ d n (sym same)
      ∙ ap (λ l. make l row) (sym (ap (λ i. take i (in_turn make before (row ∷ rows))) same ∙ in_turn_front before (row ∷ rows)))
  in_turn_at d r before (row ∷ rows) (suc k) n e h = in_turn_at d r (on before row) rows k n (omega (arith, long before row)) (omega arith)

  -- A value depends on the rows up to its own alone.
  pub in_turn_take :
      (d : V) (before : List V) (rows : List R) (k n : ℕ) → n ≡ length before + k
      → get_or (in_turn make before rows) n d ≡ get_or (in_turn make before (take (suc k) rows)) n d
  in_turn_take d before [] k n e = refl
  in_turn_take d before (row ∷ rows) zero n e = in_turn_keep d (on before row) rows n (omega (arith, long before row))
  in_turn_take d before (row ∷ rows) (suc k) n e = in_turn_take d (on before row) rows k n (omega (arith, long before row))

  -- The last value is made from those before it.
  pub in_turn_push : (before : List V) (rows : List R) (row : R) → in_turn make before (rows ++ row ∷ []) ≡ on (in_turn make before rows) row
  in_turn_push before [] row = refl
  in_turn_push before (x ∷ rows) row = in_turn_push (on before x) rows row
