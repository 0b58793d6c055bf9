-- Rows and the origins that they name.
use Rattle.std.proofs.Common.{◌≡◌, ℕ, ◌<◌, true, List, [], ◌∷◌, ◌++◌, length, map, refl, sym, ap, subst, ◌∙◌, arith, length-append, All}
use Rattle.std.specs.Prelude.{slice_index_or, bytes_eq, nat_eq}
use Rattle.std.proofs.lemmas.Bool.{and_parts, eqb-true}
use Rattle.std.proofs.lemmas.List.{get_or_append_left, get_or-map}
use Rattle.std.proofs.lemmas.List.Elements.{All-nil, All-cons, All-head, All-tail, All-append}
use Rattle.std.proofs.lemmas.Slice.Eq.{bytes_eq-Decides}
use Rattle.chk_chunk.specs.Keys.{Key, Stream, same_stream}
use Rattle.chk_world.proofs.Ends.{bytes_self}
use Rattle.chk_record_index.specs.declared.origins.Origin.{Origin}
use Rattle.chk_record_index.specs.declared.gather.Row.{Row}
use Rattle.chk_record_index.specs.Heads.{head_with}
use Rattle.chk_record_index.specs.HeadRows.{no_origin, origin_of, is_origin_of, HasOrigin, HasGrown, origin_key, row_begin, head_in_row}
use Rattle.chk_record_index.specs.Order.{no_head, of_one_stream, origin_stream}

-- an origin that is the key's
origin_is : (k : Key) (o : Origin) → is_origin_of k o ≡ true → o ≡ origin_of k
origin_is k o h =
    let p = and_parts (nat_eq o.start k.start) _ h in
    let q = and_parts (bytes_eq o.name k.stream.name) _ p.1 in
    let r = and_parts (bytes_eq o.source k.stream.source) _ q.1 in
    let t = and_parts (bytes_eq o.kind k.stream.kind) (bytes_eq o.cluster k.cluster) r.1 in
    let start = eqb-true o.start k.start p.0 in
    let name = (bytes_eq-Decides o.name k.stream.name).0 q.0 in
    let source = (bytes_eq-Decides o.source k.stream.source).0 r.0 in
    let kind = (bytes_eq-Decides o.kind k.stream.kind).0 t.0 in
    let cluster = (bytes_eq-Decides o.cluster k.cluster).0 t.1 in
    λ i. record { source = source i; kind = kind i; name = name i; start = start i; cluster = cluster i }

-- a row stands for the same head when origins are put behind the others
abbrev pub Known : List Origin → Row → Type 0
Known origins r = r.origin < length origins

rows_same : (origins more : List Origin) (rows : List Row) → All (Known origins) rows
    → map (head_in_row (origins ++ more)) rows ≡ map (head_in_row origins) rows
rows_same origins more [] known = refl
rows_same origins more (r ∷ rs) known =
    let here = get_or_append_left origins more no_origin r.origin (All-head (Known origins) r rs known) in
    let rest = rows_same origins more rs (All-tail (Known origins) r rs known) in
    λ i. (record { key = origin_key (here i) r.end; begin = row_begin r; file = r.file; at = r.at }) ∷ rest i

rows_known : (origins more : List Origin) (rows : List Row) → All (Known origins) rows → All (Known (origins ++ more)) rows
rows_known origins more [] known = All-nil (Known (origins ++ more))
rows_known origins more (r ∷ rs) known =
    All-cons (Known (origins ++ more)) r rs
    (let here = All-head (Known origins) r rs known in let all = length-append origins more in omega arith)
    (rows_known origins more rs (All-tail (Known origins) r rs known))

-- the head that a new row stands for
pub row_head : (origins : List Origin) (r : Row) (k : Key) → HasOrigin origins r.origin k → r.end ≡ k.seq
    → head_in_row origins r ≡ head_with k (row_begin r) r.file r.at
row_head origins r k has end =
    λ i. record { key = origin_key ((has.is) i) (end i); begin = row_begin r; file = r.file; at = r.at }

map_push : {Y : Type 0} (f : Row → Y) (rows : List Row) (r : Row) → map f (rows ++ r ∷ []) ≡ map f rows ++ f r ∷ []
map_push f [] r = refl
map_push f (x ∷ xs) r = ap (λ t. f x ∷ t) (map_push f xs r)

-- what the rows stand for when the origins have grown, and when a row was put behind them
pub view_grown : (old new : List Origin) (rows : List Row) → All (Known old) rows → HasGrown old new
    → map (head_in_row new) rows ≡ map (head_in_row old) rows
view_grown old new rows known grown = ap (λ o. map (head_in_row o) rows) grown.1 ∙ rows_same old grown.0 rows known

pub view_pushed : (old new : List Origin) (rows : List Row) (r : Row) (k : Key) → All (Known old) rows → HasGrown old new
    → HasOrigin new r.origin k → r.end ≡ k.seq
    → map (head_in_row new) (rows ++ r ∷ []) ≡ map (head_in_row old) rows ++ head_with k (row_begin r) r.file r.at ∷ []
view_pushed old new rows r k known grown has end =
    map_push (head_in_row new) rows r
    ∙ (ap (λ hs. hs ++ head_in_row new r ∷ []) (view_grown old new rows known grown)
    ∙ ap (λ h. map (head_in_row old) rows ++ h ∷ []) (row_head new r k has end))

pub known_grown : (old new : List Origin) (rows : List Row) → All (Known old) rows → HasGrown old new → All (Known new) rows
known_grown old new rows known grown = subst (λ o. All (Known o) rows) (sym grown.1) (rows_known old grown.0 rows known)

pub known_pushed : (old new : List Origin) (rows : List Row) (r : Row) (k : Key) → All (Known old) rows → HasGrown old new
    → HasOrigin new r.origin k → All (Known new) (rows ++ r ∷ [])
known_pushed old new rows r k known grown has =
    All-append (Known new) rows (r ∷ [])
    (known_grown old new rows known grown)
    (All-cons (Known new) r [] has.there (All-nil (Known new)))

-- heads of one origin are of one stream
pub one_origin : (origins : List Origin) (rows : List Row) (i j : ℕ) (a b : Row) → i < length rows → j < length rows
    → a ≡ slice_index_or rows i a → b ≡ slice_index_or rows j b → a.origin ≡ b.origin
    → of_one_stream (slice_index_or (map (head_in_row origins) rows) i no_head) (slice_index_or (map (head_in_row origins) rows) j no_head) ≡ true
one_origin origins rows i j a b low high is is2 one =
    ap (λ h. of_one_stream h (slice_index_or (map (head_in_row origins) rows) j no_head)) (head_of a i low is)
    ∙ (ap (of_one_stream (head_in_row origins a)) (head_of b j high is2)
    ∙ (ap (λ n. same_stream (stream_at a.origin) (stream_at n)) (sym one) ∙ stream_self (stream_at a.origin)))
  where
    head_of : (r : Row) (k : ℕ) → k < length rows → r ≡ slice_index_or rows k r
        → slice_index_or (map (head_in_row origins) rows) k no_head ≡ head_in_row origins r
    head_of r k there at = get_or-map (head_in_row origins) rows k r no_head there ∙ ap (head_in_row origins) (sym at)

    stream_at : ℕ → Stream
    stream_at n = origin_stream (slice_index_or origins n no_origin)

    stream_self : (s : Stream) → same_stream s s ≡ true
    stream_self s = rw (bytes_self s.source, bytes_self s.kind, bytes_self s.name) refl
