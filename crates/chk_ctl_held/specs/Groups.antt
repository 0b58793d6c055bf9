-- The chunks that wait, stream by stream.
use Rattle.std.specs.Prelude.{ℕ, ◌+◌, max, List, [], ◌∷◌, if◌then◌else◌}
use Rattle.chk_record_index.specs.Heads.{Head}
use Rattle.chk_record_index.specs.Order.{of_one_stream}

-- heads of one stream that stand together: the first one, how many there are, and the offset past
-- the last byte of all of them
pub record Group : Type 0 where
  pub head : Head
  pub count : ℕ
  pub end : ℕ

-- one head alone
abbrev pub group_of : Head → Group
group_of h = record { head = h; count = 1; end = h.key.seq }

-- one more of the same stream
abbrev pub with_head : Group → Head → Group
with_head g h = record { head = g.head; count = g.count + 1; end = max g.end h.key.seq }

-- the group goes on up to the first head of another stream, and there the next one begins
abbrev pub groups_from : Group → List Head → List Group
groups_from g [] = g ∷ []
groups_from g (h ∷ hs) =
    if of_one_stream g.head h then groups_from (with_head g h) hs
    else g ∷ groups_from (group_of h) hs

-- the groups of heads in order: one for each of their streams
abbrev pub groups : List Head → List Group
groups [] = []
groups (h ∷ hs) = groups_from (group_of h) hs
