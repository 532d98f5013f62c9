-- The fields of a report, one after the other.
use Rattle.std.proofs.Common.{◌≡◌, ℕ, ◌+◌, ◌*◌, ◌<◌, ◌≤◌, cond, List, ◌++◌, length, get_or, take, drop, vec_items, vec_len, sym, ap, ◌∙◌, append_assoc, add-one, arith}
use Rattle.std.proofs.lemmas.List.{drop-drop, get_or-map, get_or-take, get_or-drop}
use Rattle.std.proofs.lemmas.Slice.{take-put_mid, drop-put_mid}
use borrow.Rule.Slice.PartMut.{put_mid}
use Rattle.columns.specs.Marks.{marks}
use Rattle.rows.specs.RouteNumber.{route_number}
use Rattle.rows.specs.declared.route.Route.TheVariants.{Direct}
use Rattle.sheet.specs.declared.state.Finish.{Finish}
use Rattle.sheet.specs.declared.state.Sheet.{Sheet}
use Rattle.sheet.specs.Book.{Book, shown, rounds_of}
use Rattle.sheet.specs.Report.{yes_count, row_field, field_of, fields_of}
use Rattle.sheet.specs.Single.{column_of}

-- The field of the finished row f with the column of its place.
pub field_is :
    (x : Sheet) (columns : List ℕ) (start r : ℕ) (d : Finish) → r < vec_len x.finished → start < x.n
    → let f = get_or (vec_items x.finished) r d in
    let column = column_of (shown x) columns r in
    row_field r (route_number f.route) f.rounds (cond (marks column start) 1 0) (yes_count column)
    ≡ field_of (shown x) (rounds_of x) columns start r
field_is x columns start r d h s =
    let fs = vec_items x.finished in
    let inside : r < length fs = omega (arith, x.finished.ok.0) in
    let route = get_or-map (λ (g : Finish). g.route) fs r d Direct inside in
    let rounds = get_or-map (λ (g : Finish). g.rounds) fs r d 0 inside in
    let mark = get_or-take x.n (drop (r * x.n) columns) start 0 s ∙ get_or-drop (r * x.n) columns start 0 in
    simp (route, rounds, mark)

-- One more row's field, written over w bytes: what is written then, and what is not.
module _ (b : Book) (rounds columns : List ℕ) (start k w : ℕ) (out field : List ℕ) (is : field ≡ field_of b rounds columns start k) (wide : w ≡ 10) (room : 6 + 10 * (k + 1) ≤ length out) where
  ten : length field ≡ 10
  ten = ap length is

  pub more_front :
      (head : List ℕ) → take (6 + 10 * k) out ≡ head ++ fields_of b rounds columns start k
      → take (6 + 10 * (k + 1)) (put_mid (6 + 10 * k) w out field) ≡ head ++ fields_of b rounds columns start (k + 1)
  more_front head e =
      take-put_mid (6 + 10 * k) w out field (6 + 10 * (k + 1)) (omega (arith, ten)) (omega arith) ∙ ap (λ xs. xs ++ field) e
      ∙ ap (λ xs. (head ++ fields_of b rounds columns start k) ++ xs) is ∙ append_assoc head _ _
      ∙ ap (λ n. head ++ fields_of b rounds columns start n) (sym (add-one k))

  pub more_back :
      (given : List ℕ) → drop (6 + 10 * k) out ≡ drop (6 + 10 * k) given
      → drop (6 + 10 * (k + 1)) (put_mid (6 + 10 * k) w out field) ≡ drop (6 + 10 * (k + 1)) given
  more_back given e =
      let next : (xs : List ℕ) → drop 10 (drop (6 + 10 * k) xs) ≡ drop (6 + 10 * (k + 1)) xs = λ xs. drop-drop 10 (6 + 10 * k) xs ∙ ap (λ n. drop n xs) (omega arith) in
      drop-put_mid (6 + 10 * k) w out field (6 + 10 * (k + 1)) (omega arith) (omega arith) (omega (arith, ten)) ∙ sym (next out)
      ∙ ap (drop 10) e ∙ next given
