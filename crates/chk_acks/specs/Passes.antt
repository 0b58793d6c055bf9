-- What the passes over the rows compute.
use Rattle.std.specs.Prelude.{ℕ, suc, ◌&&◌, ◌==◌, List, [], ◌∷◌, slice_index, slice_set, if◌then◌else◌}
use Rattle.chk_acks.specs.declared.row.Row.{Row}

-- the committed ends after a row: one that is marked and begins at its adaptor's end moves that on
abbrev pub moved_end : List ℕ → Row → List ℕ
moved_end committed row =
    if row.marked && row.begin == slice_index committed row.adaptor
    then slice_set committed row.adaptor row.end else committed

-- the places of the unmarked rows, where the first row stands at this place
abbrev pub places_of : ℕ → List Row → List ℕ
places_of place [] = []
places_of place (row ∷ rows) =
    if row.marked then places_of (suc place) rows else place ∷ places_of (suc place) rows
