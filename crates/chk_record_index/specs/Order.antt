-- The order in which heads are gone through.
use Rattle.std.specs.Prelude.{ℕ, ◌<◌, Bool, true, false, ◌&&◌, ◌||◌, ◌+◌, ◌*◌, ◌^◌, nat_lt, nat_eq, List, [], ◌∷◌, count_by, map, slice_index_or}
use Rattle.std.specs.List.{AllPairs}
use Rattle.std.specs.Borrow.{Bor}
use Rattle.std.specs.List.Sorted.{IsSortedBy, IsPermutation}
use Rattle.chk_chunk.specs.Keys.{Stream, same_stream, stream_lt}
use Rattle.chk_chunk.specs.Lent.{lent_key}
use Rattle.chk_record_index.specs.Heads.{Head}
use Rattle.chk_record_index.specs.HeadRows.{no_origin, origin_key, row_begin}
use Rattle.chk_record_index.specs.declared.origins.Origin.{Origin}
use Rattle.chk_record_index.specs.declared.gather.Row.{Row}
use Rattle.chk_record_index.specs.declared.gather.order.HeadRef.{HeadRef}

-- the element put behind those that come before it, and in front of the rest
abbrev pub put_by : {X : Type 0} → (X → X → Bool) → X → List X → List X
put_by lt x [] = x ∷ []
put_by lt x (y ∷ ys) = elim (lt y x) [ true ↦ y ∷ put_by lt x ys | false ↦ x ∷ y ∷ ys ]

-- in order; those that are alike keep the order that they had
abbrev pub sort_by : {X : Type 0} → (X → X → Bool) → List X → List X
sort_by lt [] = []
sort_by lt (x ∷ xs) = put_by lt x (sort_by lt xs)

-- by stream, then by first offset and sequence id
abbrev pub head_before : Head → Head → Bool
head_before h k =
    stream_lt h.key.stream k.key.stream
    || (same_stream h.key.stream k.key.stream
    && (nat_lt h.begin k.begin || (nat_eq h.begin k.begin && nat_lt h.key.seq k.key.seq)))

-- the heads in order
abbrev pub in_head_order : List Head → List Head
in_head_order heads = sort_by head_before heads

abbrev pub origin_stream : Origin → Stream
origin_stream o = record { source = o.source; kind = o.kind; name = o.name }

-- the first one's stream comes before the other's
abbrev pub origin_before : Origin → Origin → Bool
origin_before o p = stream_lt (origin_stream o) (origin_stream p)

-- how many of the origins come before one
abbrev pub rank_in : List Origin → Origin → ℕ
rank_in origins o = count_by (λ p. origin_before p o) origins

-- references to the same origins, in the order of their streams
pub record AreInOrder (origins : List Origin) (sorted : List (Bor Origin)) : Type 0 where
  pub same : IsPermutation origins (map (λ o. o.now) sorted)
  pub rise : IsSortedBy (λ o p. origin_before o.now p.now) sorted

-- the number that stands for the row's stream
abbrev pub row_rank : List ℕ → Row → ℕ
row_rank ranks r = slice_index_or ranks r.origin 0

-- the order of rows, streams compared by these numbers
abbrev pub row_before : List ℕ → Row → Row → Bool
row_before ranks a b =
    nat_lt (row_rank ranks a) (row_rank ranks b)
    || (nat_eq (row_rank ranks a) (row_rank ranks b)
    && (nat_lt (row_begin a) (row_begin b) || (nat_eq (row_begin a) (row_begin b) && nat_lt a.end b.end)))

-- where a row stands by its stream and its first offset
abbrev pub row_place : List ℕ → Row → ℕ
row_place ranks r = row_rank ranks r * 2 ^ 64 + row_begin r

-- the same order, and by turns where that tells nothing
abbrev pub row_first : List ℕ → Row → Row → Bool
row_first ranks a b =
    nat_lt (row_rank ranks a) (row_rank ranks b)
    || (nat_eq (row_rank ranks a) (row_rank ranks b)
    && (nat_lt (row_begin a) (row_begin b) || (nat_eq (row_begin a) (row_begin b)
    && (nat_lt a.end b.end || (nat_eq a.end b.end && nat_lt a.turn b.turn)))))

-- each row has a later turn than those before it
abbrev pub TakeTurns : List Row → Type 0
TakeTurns rows = AllPairs (λ (r s : Row). r.turn < s.turn) rows

-- a row but for its turn
abbrev pub without_turn : Row → Row
without_turn r = record { origin = r.origin; file = r.file; size = r.size; turn = 0; end = r.end; at = r.at }

-- a head of no record
abbrev pub no_head : Head
no_head = record { key = origin_key no_origin 0; begin = 0; file = 0; at = 0 }

-- the head that a borrowed head is
abbrev pub lent_head : HeadRef → Head
lent_head h = record { key = lent_key h.key; begin = h.begin; file = h.file; at = h.at }

-- the heads are of one stream
abbrev pub of_one_stream : Head → Head → Bool
of_one_stream h k = same_stream h.key.stream k.key.stream

-- the head at this place
abbrev pub head_in : List Head → ℕ → Head
head_in heads i = slice_index_or heads i no_head
