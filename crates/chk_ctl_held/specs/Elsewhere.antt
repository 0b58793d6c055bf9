-- Where the bytes are that a stream's chunks wait for, among other stores.
use Rattle.std.specs.Prelude.{ℕ, max, min, nat_lt, List, [], ◌∷◌, ◌++◌, codes, decimal}
use Rattle.std.specs.Prelude.{flat_map, Option, Some, None, if◌then◌else◌}
use Rattle.chk_chunk.specs.Keys.{Stream, same_stream}
use Rattle.chk_world.specs.Books.{End}
use Rattle.chk_record_index.specs.Heads.{Head}
use Rattle.chk_book.specs.Books.{end_in}
use Rattle.chk_ctl_held.specs.Groups.{Group, groups}
use Rattle.chk_ctl_held.specs.Lines.{held_line, line_of}
use Rattle.chk_ctl_held.specs.Order.{end_of}
use Rattle.chk_ctl_held.specs.declared.spans.Span.{Span}

-- a store: its name, where its streams end, and the heads of the chunks that it sets aside
pub record Seen : Type 0 where
  pub name : List ℕ
  pub ends : List End
  pub heads : List Head

-- the bytes of a stream that are missing
pub record Gap : Type 0 where
  pub stream : Stream
  pub from : ℕ
  pub to : ℕ

-- those that this group waits for, by the ends of its store
abbrev pub gap_of : List End → Group → Gap
gap_of ends g = record {
  stream = g.head.key.stream;
  from = end_in 0 ends g.head.key.stream;
  to = g.head.begin;
}

-- no bytes
abbrev pub no_span : Span
no_span = record { from = 0; to = 0 }

-- of the bytes from low up to high those from begin up to end
abbrev pub clipped : ℕ → ℕ → ℕ → ℕ → Span
clipped low high begin end = record { from = max low begin; to = min high end }

-- the shortest span that has the bytes of both
abbrev pub with_span : Span → Span → Span
with_span all part =
    if nat_lt part.from part.to then (if nat_lt all.from all.to then (record {
      from = min all.from part.from;
      to = max all.to part.to;
    }) else part) else all

-- the missing bytes that an archive has, by the stream's end in its book
abbrev pub part_by : Gap → Option End → Span
part_by gap None = no_span
part_by gap (Some e) = clipped gap.from gap.to e.start e.end

abbrev pub archived_part : Gap → List End → Span
archived_part gap ends = part_by gap (end_of gap.stream ends)

-- the shortest span that has the missing bytes that chunks have, and these before
abbrev pub waiting_from : Gap → Span → List Head → Span
waiting_from gap all [] = all
waiting_from gap all (h ∷ hs) =
    waiting_from gap
    (if same_stream gap.stream h.key.stream
    then with_span all (clipped gap.from gap.to h.begin h.key.seq) else all) hs

abbrev pub waiting_part : Gap → List Head → Span
waiting_part gap heads = waiting_from gap no_span heads

-- the words of the line of a part of a stream that was found so in the store of this name
abbrev pub found_words : Stream → ℕ → ℕ → List ℕ → List ℕ → List (List ℕ)
found_words s from to how name =
    codes "found" ∷ s.source ∷ s.kind ∷ s.name ∷ codes "from" ∷ decimal from ∷ codes "to"
    ∷ decimal to ∷ how ∷ codes "in" ∷ name ∷ []

-- the words that name the stream
abbrev pub found_named : List ℕ → List ℕ → List ℕ → List ℕ
found_named source kind name =
    codes "found " ++ (source ++ (codes " " ++ (kind ++ (codes " " ++ name))))

-- the line, where the part has a byte
abbrev pub part_lines : Gap → List ℕ → List ℕ → Span → List (List ℕ)
part_lines gap how name part =
    if nat_lt part.from part.to
    then line_of (found_words gap.stream part.from part.to how name) ∷ [] else []

-- what one store has of the missing bytes
abbrev pub found_in : Gap → Seen → List (List ℕ)
found_in gap s =
    part_lines gap (codes "archived") s.name (archived_part gap s.ends)
    ++ part_lines gap (codes "waits") s.name (waiting_part gap s.heads)

-- the line of a stream of which chunks wait, and what the other stores have of its missing bytes
abbrev pub group_lines : List End → List Seen → Group → List (List ℕ)
group_lines ends others g = held_line ends g ∷ flat_map (found_in (gap_of ends g)) others

-- the line of a store
abbrev pub store_line : List ℕ → List ℕ
store_line name = line_of (codes "store" ∷ name ∷ [])

-- the lines of a store, among these others
abbrev pub store_lines : Seen → List Seen → List (List ℕ)
store_lines s others =
    store_line s.name ∷ flat_map (group_lines s.ends others) (groups s.heads)

-- those of each store in turn, among those before and behind it
abbrev pub stores_from : List Seen → List Seen → List (List ℕ)
stores_from before [] = []
stores_from before (s ∷ behind) =
    store_lines s (before ++ behind) ++ stores_from (before ++ s ∷ []) behind

abbrev pub all_lines : List Seen → List (List ℕ)
all_lines stores = stores_from [] stores
