-- Streams in byte order, their ends in a book, and heads.
use Rattle.std.proofs.Common.{◌≡◌, ◌<◌, ◌-◌, ℕ, Bool, true, false, List, [], ◌∷◌, Some, refl, sym, ◌∙◌, ap, subst, if◌then◌else◌}
use Rattle.std.proofs.lemmas.Option.{same_Some, none-some}
use Rattle.chk_chunk.specs.Keys.{Stream, stream_lt}
use Rattle.chk_world.specs.Books.{End}
use Rattle.chk_world.proofs.Each.{Each}
use Rattle.chk_record_index.specs.Heads.{Head}
use Rattle.chk_record_reader.specs.Courses.{is_end_of, end_of}
use Rattle.chk_record_reader.specs.OnePass.{end_at}

-- the head has bytes
abbrev pub HasBytes : Head → Type 0
HasBytes h = h.begin < h.key.seq

-- each of the first ends comes before the later ones of them
abbrev pub AreRising : List End → ℕ → Type 0
AreRising es n = (j k : ℕ) → j < k → k < n → stream_lt (end_at es j).stream (end_at es k).stream ≡
    true

-- ---- what is found of a stream

-- what is found is of the stream, and has what each one has
pub end_found : (P : End → Type 0) (s : Stream) (es : List End) (e : End) → Each P es
    → end_of s es ≡ Some e → (is_end_of s e ≡ true) × P e
end_found P s [] e all found = absurd (none-some e found)
end_found P s (d ∷ es) e all found = go (is_end_of s d) refl (λ f. end_found P s es e all.1 f)
    found
  where
    go : (b : Bool) → is_end_of s d ≡ b → (end_of s es ≡ Some e → (is_end_of s e ≡ true) × P e)
        → (if b then Some d else end_of s es) ≡ Some e → (is_end_of s e ≡ true) × P e
    go true is rest f = let same = same_Some d e f in
        (ap (is_end_of s) (sym same) ∙ is, subst P same all.0)
    go false is rest f = rest f
