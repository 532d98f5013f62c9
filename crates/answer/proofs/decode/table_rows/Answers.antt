use Rattle.std.proofs.Common.{◌≡◌, ℕ, zero, suc, ◌+◌, ◌*◌, ◌/◌, ◌<◌, List, [], ◌∷◌, length, get_or, take, drop, map, refl, ap, ◌∙◌, rules, arith, add_assoc}
use Rattle.std.proofs.lemmas.List.{get_or-drop, get_or-take}
use Rattle.std.proofs.lemmas.Result.{IfOk-weaker}
use Rattle.std.proofs.lemmas.Iterator.{YieldsList-from_slice, YieldsList-from_map_by}
use Rattle.std.proofs.lemmas.Iterator.Consumers.{map_from_collect}
use Rattle.std.specs.Simd.{first_chunks}
use Rattle.faults.specs.Bytes.{two_at}
use Rattle.systems.specs.declared.row.Row.{Row}
use Rattle.answer.specs.Decoded.{RowAt, TableRows}
use Rattle.answer.proofs.decode.table_rows.Goals as goal

-- the numbers of a row, and those that five bytes say
abbrev numbers : Row → ℕ × ℕ × ℕ
numbers r = (r.source, r.action, r.target)

abbrev said : List ℕ → ℕ × ℕ × ℕ
said bytes = (two_at bytes 0, get_or bytes 2 0, two_at bytes 3)

-- a row of the first five bytes, and one after them
first : (body : List ℕ) (r : Row) → numbers r ≡ said (take 5 body) → RowAt body 0 r
first body r e =
    let byte : (i : ℕ) → i < 5 → get_or (take 5 body) i 0 ≡ get_or body i 0 = λ i h. get_or-take 5 body i 0 h in
    let source = ap (λ n. n.0) e in
    let action = ap (λ n. n.1) e in
    let target = ap (λ n. n.2) e in (
      omega (arith, source, byte 0 (omega arith), byte 1 (omega arith)),
      omega (arith, action, byte 2 (omega arith)),
      omega (arith, target, byte 3 (omega arith), byte 4 (omega arith)),
    )

later : (body : List ℕ) (i j : ℕ) (r : Row) → j ≡ 5 + i → RowAt (drop 5 body) i r → RowAt body j r
later body i j r e h = rw e (simp add_assoc (simp (get_or-drop, add_assoc) at h))

-- rows with the numbers that the first m pieces of a body say are the body's rows
rows_of : (m : ℕ) (body : List ℕ) (rows : List Row) → map numbers rows ≡ map said (first_chunks 5 m body) → (length rows ≡ m) × ((k : ℕ) → k < length rows → (d : Row) → RowAt body (5 * k) (get_or rows k d))
rows_of zero body [] e = (refl, λ k h d. absurd (omega arith))
rows_of zero body (r ∷ rs) e = absurd cc
rows_of (suc m) body [] e = absurd cc
rows_of (suc m) body (r ∷ rs) e =
    let more = rows_of m (drop 5 body) rs cc in (ap suc more.0, each body r rs (first body r cc) more.1)
  where
    each : (body : List ℕ) (r : Row) (rs : List Row) → RowAt body 0 r → ((k : ℕ) → k < length rs → (d : Row) → RowAt (drop 5 body) (5 * k) (get_or rs k d)) → (k : ℕ) → k < suc (length rs) → (d : Row) → RowAt body (5 * k) (get_or (r ∷ rs) k d)
    each body r rs here more zero h d = here
    each body r rs here more (suc k) h d = later body (5 * k) (5 * suc k) (get_or rs k d) (omega arith) (more k (omega arith) d)

pub returns : goal.returns
returns c =
    let body = c.args.body.now in
    let pieces = c.as_chunks.result.0.now in
    IfOk-weaker c.collect.result (λ v. map numbers v.items ≡ map said pieces) (λ v. TableRows body v.items) (λ v e. rows_of (length body / 5) body v.items (e ∙ ap (map said) c.as_chunks.ensures.front))
    (map_from_collect _ c.collect.ensures.ran (YieldsList-from_map_by _ numbers said (YieldsList-from_slice pieces cc) c.map.ensures.closure (λ x r q k. search rules)))
