-- The ends of streams are raised, one after the other.
use Rattle.std.proofs.Common.{◌≡◌, ℕ, Bool, true, false, List, [], ◌∷◌, ◌++◌, refl, sym, ◌∙◌, ap, subst, bytes_eq, if◌then◌else◌}
use Rattle.chk_chunk.specs.Keys.{Stream, same_stream, stream_lt}
use Rattle.chk_world.specs.Books.{End}
use Rattle.chk_world.proofs.NameTests.{streams_same}
use Rattle.std.proofs.lemmas.Slice.Eq.{bytes_eq-Decides}
use Rattle.chk_book.specs.Segmenting.{raised_end, raised_by}
use Rattle.chk_world.proofs.Rounds.{stream_self}

bytes_self : (a : List ℕ) → bytes_eq a a ≡ true
bytes_self a = (bytes_eq-Decides a a).1 refl

-- the end with another end
abbrev pub ending_at : End → ℕ → End
ending_at e n = record { stream = e.stream; start = e.start; end = n }

-- the stream is found: its end is raised
pub raised_same : (d e : End) (es : List End) → same_stream e.stream d.stream ≡ true → raised_end d (e ∷ es) ≡ ending_at e d.end ∷ es
raised_same d e es same =
    ap (λ (b : Bool). if b then ending_at e d.end ∷ es else if stream_lt d.stream e.stream then d ∷ e ∷ es else e ∷ raised_end d es) same

-- a later stream is found: it is put in before that
pub raised_put : (d e : End) (es : List End) → same_stream e.stream d.stream ≡ false → stream_lt d.stream e.stream ≡ true
    → raised_end d (e ∷ es) ≡ d ∷ e ∷ es
raised_put d e es other later =
    ap (λ (b : Bool). if b then ending_at e d.end ∷ es else if stream_lt d.stream e.stream then d ∷ e ∷ es else e ∷ raised_end d es) other
    ∙ ap (λ (b : Bool). if b then d ∷ e ∷ es else e ∷ raised_end d es) later

-- an earlier stream is gone by
pub raised_on : (d e : End) (es : List End) → same_stream e.stream d.stream ≡ false → stream_lt d.stream e.stream ≡ false
    → raised_end d (e ∷ es) ≡ e ∷ raised_end d es
raised_on d e es other later =
    ap (λ (b : Bool). if b then ending_at e d.end ∷ es else if stream_lt d.stream e.stream then d ∷ e ∷ es else e ∷ raised_end d es) other
    ∙ ap (λ (b : Bool). if b then d ∷ e ∷ es else e ∷ raised_end d es) later

abbrev end_with : Stream → ℕ → ℕ → End
end_with s start end = record { stream = s; start = start; end = end }

-- a stream that is raised twice has the second end
twice : (s : Stream) (a b m n : ℕ) (es : List End)
    → raised_end (end_with s b n) (raised_end (end_with s a m) es) ≡ raised_end (end_with s a n) es
twice s a b m n [] = raised_same (end_with s b n) (end_with s a m) [] (stream_self s)
twice s a b m n (e ∷ es) = go (twice s a b m n es) (same_stream e.stream s) refl (stream_lt s e.stream) refl
  where
    go : raised_end (end_with s b n) (raised_end (end_with s a m) es) ≡ raised_end (end_with s a n) es
        → (same : Bool) → same_stream e.stream s ≡ same → (later : Bool) → stream_lt s e.stream ≡ later
        → raised_end (end_with s b n) (raised_end (end_with s a m) (e ∷ es)) ≡ raised_end (end_with s a n) (e ∷ es)
    go rest true p later q =
        ap (raised_end (end_with s b n)) (raised_same (end_with s a m) e es p)
        ∙ (raised_same (end_with s b n) (ending_at e m) es p ∙ sym (raised_same (end_with s a n) e es p))
    go rest false p true q =
        ap (raised_end (end_with s b n)) (raised_put (end_with s a m) e es p q)
        ∙ (raised_same (end_with s b n) (end_with s a m) (e ∷ es) (stream_self s) ∙ sym (raised_put (end_with s a n) e es p q))
    go rest false p false q =
        ap (raised_end (end_with s b n)) (raised_on (end_with s a m) e es p q)
        ∙ (raised_on (end_with s b n) e (raised_end (end_with s a m) es) p q
        ∙ (ap (λ t. e ∷ t) rest ∙ sym (raised_on (end_with s a n) e es p q)))

pub raised_twice : (l d : End) (es : List End) → same_stream l.stream d.stream ≡ true
    → raised_end d (raised_end l es) ≡ raised_end (ending_at l d.end) es
raised_twice l d es same =
    subst (λ (s : Stream). raised_end (end_with s d.start d.end) (raised_end l es) ≡ raised_end (ending_at l d.end) es)
    (streams_same l.stream d.stream same) (twice l.stream l.start d.start l.end d.end es)

-- one more behind the others
pub raised_by-behind : (ds : List End) (d : End) (es : List End) → raised_by (ds ++ d ∷ []) es ≡ raised_end d (raised_by ds es)
raised_by-behind [] d es = refl
raised_by-behind (x ∷ ds) d es = raised_by-behind ds d (raised_end x es)

-- the last one takes the place of both
pub raised_by-last : (ds : List End) (l d : End) (es : List End) → same_stream l.stream d.stream ≡ true
    → raised_by (ds ++ ending_at l d.end ∷ []) es ≡ raised_end d (raised_by (ds ++ l ∷ []) es)
raised_by-last ds l d es same =
    raised_by-behind ds (ending_at l d.end) es
    ∙ (sym (raised_twice l d (raised_by ds es) same) ∙ ap (raised_end d) (sym (raised_by-behind ds l es)))
