-- The item and the start at an index of the `PlaceRow`s of a production.
use Rattle.pass_rows.proofs.Common
use Common.{ℕ, zero, suc, ◌≡◌, ◌<◌, List, [], ◌∷◌, Some, get_or, length, refl, arith, PlaceRow, item_in, start_in}

pub item_found : (rows : List PlaceRow) (j : ℕ) (d : PlaceRow) → j < length rows → item_in rows j ≡ Some (get_or rows j d).item
item_found [] j d less = absurd (omega arith)
item_found (row ∷ rows) zero d less = refl
item_found (row ∷ rows) (suc j) d less = item_found rows j d (omega arith)

pub start_found : (rows : List PlaceRow) (j : ℕ) (d : PlaceRow) → j < length rows → start_in rows j ≡ (get_or rows j d).start
start_found [] j d less = absurd (omega arith)
start_found (row ∷ rows) zero d less = refl
start_found (row ∷ rows) (suc j) d less = start_found rows j d (omega arith)
