-- The ends that parts raise are those that the pass reaches.
use Rattle.std.proofs.Common.{◌≡◌, inl, inr, ℕ, Bool, true, false, cond, List, [], ◌∷◌, ap, sym, subst, ◌∙◌, refl, true≢false, if◌then◌else◌}
use Rattle.std.specs.Prelude.{filter}
use Rattle.std.proofs.lemmas.Bool.{cases_Bool}
use Rattle.chk_chunk.specs.Keys.{Stream, Chunk, chunk_end, same_stream, is_of}
use Rattle.chk_world.specs.Books.{End}
use Rattle.chk_world.specs.ArchiveRuns.{with_end}
use Rattle.chk_world.proofs.NameTests.{streams_same}
use Rattle.chk_world.proofs.Each.{Each}
use Rattle.chk_book.specs.Segmenting.{end_of, raised, raised_all}
use Rattle.chk_book.proofs.EndRaises.{ending_at}
use Rattle.chk_archive_plan.specs.Plan.{goes_on, part_past, parts_of, ends_of}
use Rattle.chk_archive_plan.proofs.Parts.{stream_self}
use Rattle.chk_archive.proofs.ByStream.{SameByStream}
use Rattle.chk_archive_parts.proofs.EndsInOrder.{Sorted, Has, has_still, has_now, all_raised, ends_raised}

-- ---- the ends of parts

-- the ends after these parts
abbrev pub ends_by : (Stream → ℕ) → List Chunk → Stream → ℕ
ends_by ends [] = ends
ends_by ends (c ∷ cs) = ends_by (with_end ends c.key.stream (chunk_end c)) cs

pub pass_ends : (ends : Stream → ℕ) (cs : List Chunk) → ends_by ends (parts_of ends cs) ≡ ends_of ends cs
pass_ends ends [] = refl
pass_ends ends (c ∷ cs) =
    go (goes_on (ends c.key.stream) c) (pass_ends (with_end ends c.key.stream (chunk_end c)) cs)
    (pass_ends ends cs)
  where
    go : (t : Bool)
        → ends_by (with_end ends c.key.stream (chunk_end c)) (parts_of (with_end ends c.key.stream (chunk_end c)) cs)
        ≡ ends_of (with_end ends c.key.stream (chunk_end c)) cs
        → ends_by ends (parts_of ends cs) ≡ ends_of ends cs
        → ends_by ends (elim t as (λ t. List Chunk) [
          | true ↦ part_past (ends c.key.stream) c ∷ parts_of (with_end ends c.key.stream (chunk_end c)) cs
          | false ↦ parts_of ends cs
        ])
        ≡ elim t as (λ t. Stream → ℕ) [
          | true ↦ ends_of (with_end ends c.key.stream (chunk_end c)) cs
          | false ↦ ends_of ends cs
        ]
    go true on off = on
    go false on off = off

turned : (s t : Stream) → same_stream s t ≡ false → same_stream t s ≡ false
turned s t unlike = elim (cases_Bool (same_stream t s)) [
  | inr h ↦ h
  | inl same ↦ absurd (true≢false
      (sym (subst (λ u. same_stream u t ≡ true) (streams_same t s same) (stream_self t)) ∙ unlike))
]

-- where a stream ends after parts goes by where it ended before them
end_by_own : (ends others : Stream → ℕ) (s : Stream) → ends s ≡ others s → (cs : List Chunk)
    → ends_by ends cs s ≡ ends_by others cs s
end_by_own ends others s same [] = same
end_by_own ends others s same (c ∷ cs) =
    end_by_own (with_end ends c.key.stream (chunk_end c)) (with_end others c.key.stream (chunk_end c)) s
    (ap (λ n. if same_stream c.key.stream s then chunk_end c else n) same) cs

-- and by its own parts alone
end_by_parts : (ends : Stream → ℕ) (s : Stream) (cs : List Chunk)
    → ends_by ends cs s ≡ ends_by ends (filter (is_of s) cs) s
end_by_parts ends s [] = refl
end_by_parts ends s (c ∷ cs) =
    end_by_parts (with_end ends c.key.stream (chunk_end c)) s cs ∙ go (same_stream s c.key.stream) refl
  where
    go : (t : Bool) → same_stream s c.key.stream ≡ t
        → ends_by (with_end ends c.key.stream (chunk_end c)) (filter (is_of s) cs) s
        ≡ ends_by ends (cond t (c ∷ filter (is_of s) cs) (filter (is_of s) cs)) s
    go true e = refl
    go false e =
        end_by_own (with_end ends c.key.stream (chunk_end c)) ends s
        (ap (λ b. if b then chunk_end c else ends s) (turned s c.key.stream e)) (filter (is_of s) cs)

-- so it is the same after parts that are the same of each stream
pub same_ends : (ends : Stream → ℕ) (parts others : List Chunk) → SameByStream parts others → (s : Stream)
    → ends_by ends parts s ≡ ends_by ends others s
same_ends ends parts others same s =
    end_by_parts ends s parts ∙ (ap (λ l. ends_by ends l s) (same s) ∙ sym (end_by_parts ends s others))

-- each end says where its stream ends
abbrev pub EndsAre : (Stream → ℕ) → List End → Type 0
EndsAre ends es = Each (λ (e : End). e.end ≡ ends e.stream) es

pub ends_follow : (ends : Stream → ℕ) (parts : List Chunk) (es : List End) → Sorted es → EndsAre ends es
    → EndsAre (ends_by ends parts) (raised_all parts es)
ends_follow ends [] es s are = are
ends_follow ends (c ∷ parts) es s are =
    let next : Stream → ℕ = with_end ends c.key.stream (chunk_end c) in
    let r = ends_raised (λ (e : End). e.end ≡ ends e.stream) (λ (e : End). e.end ≡ next e.stream) (end_of c)
    (λ e other is. is ∙ sym (ap (λ t. if t then chunk_end c else ends e.stream)
    (turned e.stream c.key.stream other)))
    (λ e same is. sym (ap next (streams_same e.stream c.key.stream same)
    ∙ ap (λ t. if t then chunk_end c else ends c.key.stream) (stream_self c.key.stream)))
    (sym (ap (λ t. if t then chunk_end c else ends c.key.stream) (stream_self c.key.stream)))
    es s are in
    ends_follow next parts (raised c es) r.1 r.0

-- each is of the old ends, or of a part
pub starts_follow : (P : End → Type 0) → ((e : End) (n : ℕ) → P e → P (ending_at e n))
    → (parts : List Chunk) (es : List End) → Each P es → Each (λ c. P (end_of c)) parts
    → Each P (raised_all parts es)
starts_follow P P_end [] es all new = all
starts_follow P P_end (c ∷ parts) es all new =
    starts_follow P P_end parts (raised c es) (all_raised P P_end (end_of c) es all new.0) new.1

-- ---- no stream is lost

pub all_listed : (s : Stream) (parts : List Chunk) (es : List End) → Has s es → Has s (raised_all parts es)
all_listed s [] es has = has
all_listed s (c ∷ parts) es has = all_listed s parts (raised c es) (has_still s (end_of c) es has)

pub parts_listed : (parts : List Chunk) (es : List End) → Each (λ (c : Chunk). Has c.key.stream (raised_all parts es)) parts
parts_listed [] es = tt
parts_listed (c ∷ parts) es = (
  all_listed c.key.stream parts (raised c es) (has_now (end_of c) es),
  parts_listed parts (raised c es),
)
