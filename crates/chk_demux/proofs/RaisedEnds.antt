-- The ends that new records raise are those of their streams.
use Rattle.std.proofs.Common.{◌≡◌, ℕ, true, false, cond, List, [], ◌∷◌, ◌++◌, ap, sym, subst, ◌∙◌, refl, append-nil, append_assoc}
use Rattle.std.specs.Prelude.{filter}
use Rattle.std.proofs.lemmas.List.Elements.{filter-append}
use Rattle.chk_site.specs.History.{History}
use Rattle.chk_chunk.specs.Keys.{Chunk, chunk_begin, chunk_end, same_stream, is_of}
use Rattle.chk_world.specs.Names.{DemuxFolder}
use Rattle.chk_world.specs.Books.{End}
use Rattle.chk_world.specs.Streams.{start_of}
use Rattle.chk_world.specs.Jobs.{Run, HasStart}
use Rattle.chk_world.proofs.NameTests.{streams_same}
use Rattle.chk_world.proofs.Each.{Each, each_as}
use Rattle.chk_world.proofs.BooksTrue.{has_start_is, each_append}
use Rattle.chk_archive_plan.proofs.Parts.{run_then, stream_self}
use Rattle.chk_book.specs.Segmenting.{end_of, raised, raised_all}
use Rattle.chk_book.proofs.EndRaises.{ending_at}
use Rattle.chk_archive_parts.proofs.EndsInOrder.{Sorted, Has, has_still, has_now, ends_raised}
use Rattle.chk_demux.proofs.Places.{run_split}

-- ---- one record more

-- the end says where the stream begins and ends by these records
abbrev pub SaysEnds : History → List Chunk → End → Type 0
SaysEnds history cs e = Run e.start e.start (filter (is_of e.stream) cs) e.end × HasStart DemuxFolder history e

-- the ends say it of all streams of these records
pub record Fits (history : History) (cs : List Chunk) (es : List End) : Type 0 where
  pub sorted : Sorted es
  pub ends : Each (SaysEnds history cs) es
  pub listed : Each (λ (c : Chunk). Has c.key.stream es) cs

module _ (history : History) (pre : List Chunk) (c : Chunk)
    (run : Run c.key.start c.key.start (filter (is_of c.key.stream) (pre ++ c ∷ [])) (chunk_end c))
    (start : HasStart DemuxFolder history (end_of c)) where
  abbrev Now : List Chunk
  Now = pre ++ c ∷ []

  other_says : (e : End) → same_stream e.stream c.key.stream ≡ false → SaysEnds history pre e → SaysEnds history Now e
  other_says e other p = (
    subst (λ l. Run e.start e.start l e.end)
        (sym (filter-append (is_of e.stream) pre (c ∷ [])
        ∙ (ap (λ b. filter (is_of e.stream) pre ++ cond b (c ∷ []) []) other ∙ append-nil (filter (is_of e.stream) pre)))) p.0,
    p.1,
  )

  own_says : (e : End) → same_stream e.stream c.key.stream ≡ true → SaysEnds history pre e
      → SaysEnds history Now (ending_at e (chunk_end c))
  own_says e same p =
      let is : e.stream ≡ c.key.stream = streams_same e.stream c.key.stream same in
      let begins : c.key.start ≡ e.start =
      has_start_is history (end_of c) start ∙ (ap (start_of history) (sym is) ∙ sym (has_start_is history e p.1)) in (
        subst (λ n. Run n n (filter (is_of e.stream) Now) (chunk_end c)) begins
            (subst (λ t. Run c.key.start c.key.start (filter (is_of t) Now) (chunk_end c)) (sym is) run),
        p.1,
      )

  one_fits : (es : List End) → Fits history pre es → Fits history Now (raised c es)
  one_fits es f =
      let k = ends_raised (SaysEnds history pre) (SaysEnds history Now) (end_of c) other_says own_says (run, start) es
      f.sorted f.ends in
      record {
        sorted = k.1;
        ends = k.0;
        listed = each_append (λ (d : Chunk). Has d.key.stream (raised c es)) pre (c ∷ [])
            (each_as (λ (d : Chunk). Has d.key.stream es) (λ (d : Chunk). Has d.key.stream (raised c es)) pre
            (λ d h. has_still d.key.stream (end_of c) es h) f.listed)
            (has_now (end_of c) es, tt);
      }

-- ---- all new records

-- the chunk's stream runs in these, from the chunk's start, with which it has begun
pub record RunsIn (history : History) (all : List Chunk) (c : Chunk) : Type 0 where
  pub to : ℕ
  pub run : Run c.key.start c.key.start (filter (is_of c.key.stream) all) to
  pub start : HasStart DemuxFolder history (end_of c)

pub all_fit : (history : History) (pre new : List Chunk) (es : List End) → Fits history pre es
    → Each (RunsIn history (pre ++ new)) new → Fits history (pre ++ new) (raised_all new es)
all_fit history pre [] es f k = subst (λ l. Fits history l es) (sym (append-nil pre)) f
all_fit history pre (c ∷ new) es f k =
    let moved : pre ++ c ∷ new ≡ (pre ++ c ∷ []) ++ new = sym (append_assoc pre (c ∷ []) new) in
    let s = c.key.stream in
    let n = c.key.start in
    let p = run_split n n k.0.to (filter (is_of s) pre) c (filter (is_of s) new)
    (subst (λ l. Run n n l k.0.to) (filter-append (is_of s) pre (c ∷ new)
    ∙ ap (λ b. filter (is_of s) pre ++ cond b (c ∷ filter (is_of s) new) (filter (is_of s) new)) (stream_self s)) k.0.run) in
    let now : Run n n (filter (is_of s) (pre ++ c ∷ [])) (chunk_end c) =
    subst (λ l. Run n n l (chunk_end c))
    (sym (filter-append (is_of s) pre (c ∷ []) ∙ ap (λ b. filter (is_of s) pre ++ cond b (c ∷ []) []) (stream_self s)))
    (run_then n n (chunk_begin c) (chunk_end c) (filter (is_of s) pre) (c ∷ []) p.before (refl, refl, refl)) in
    subst (λ l. Fits history l (raised_all new (raised c es))) (sym moved)
    (all_fit history (pre ++ c ∷ []) new (raised c es) (one_fits history pre c now k.0.start es f)
    (subst (λ l. Each (RunsIn history l) new) moved k.1))
