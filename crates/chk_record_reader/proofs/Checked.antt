-- All streams go well where those in the book do, and those of the heads.
use Rattle.std.proofs.Common.{◌≡◌, Bool, true, false, List, [], ◌∷◌, Option, Some, None, refl, sym, ◌∙◌, ap, subst, if◌then◌else◌}
use Rattle.std.proofs.lemmas.Option.{same_Some, none-some}
use Rattle.chk_chunk.specs.Keys.{Stream}
use Rattle.chk_world.specs.Books.{End}
use Rattle.chk_world.proofs.Each.{Each}
use Rattle.chk_world.proofs.NameTests.{streams_same}
use Rattle.chk_record_index.specs.Heads.{Head}
use Rattle.chk_record_reader.specs.Courses.{is_head_of, is_end_of, end_of, first_head, IsBreakBy}
use Rattle.chk_record_reader.specs.Checking.{EndGoesWell, HeadGoesWell, AllGoWell}

-- what is found is of the stream, and has what each one has
pub end_found : (P : End → Type 0) (s : Stream) (es : List End) (e : End) → Each P es → end_of s es ≡ Some e → (is_end_of s e ≡ true) × P e
end_found P s [] e all found = absurd (none-some e found)
end_found P s (d ∷ es) e all found = go (is_end_of s d) refl (λ f. end_found P s es e all.1 f) found
  where
    go : (b : Bool) → is_end_of s d ≡ b → (end_of s es ≡ Some e → (is_end_of s e ≡ true) × P e)
        → (if b then Some d else end_of s es) ≡ Some e → (is_end_of s e ≡ true) × P e
    go true is rest f = let same = same_Some d e f in (ap (is_end_of s) (sym same) ∙ is, subst P same all.0)
    go false is rest f = rest f

pub head_found : (P : Head → Type 0) (s : Stream) (hs : List Head) (h : Head) → Each P hs → first_head s hs ≡ Some h → (is_head_of s h ≡ true) × P h
head_found P s [] h all found = absurd (none-some h found)
head_found P s (k ∷ hs) h all found = go (is_head_of s k) refl (λ f. head_found P s hs h all.1 f) found
  where
    go : (b : Bool) → is_head_of s k ≡ b → (first_head s hs ≡ Some h → (is_head_of s h ≡ true) × P h)
        → (if b then Some k else first_head s hs) ≡ Some h → (is_head_of s h ≡ true) × P h
    go true is rest f = let same = same_Some k h f in (ap (is_head_of s) (sym same) ∙ is, subst P same all.0)
    go false is rest f = rest f

pub all_well : (es : List End) (heads : List Head) → Each (EndGoesWell es heads) es → Each (HeadGoesWell es heads) heads → AllGoWell es heads
all_well es heads ends hs s = go (end_of s es) refl
  where
    unlisted : end_of s es ≡ None → (o : Option Head) → first_head s heads ≡ o → IsBreakBy s None heads None
    unlisted none None e = (e, tt)
    unlisted none (Some h) e =
        let f = head_found (HeadGoesWell es heads) s heads h hs e in
        let same : s ≡ h.key.stream = streams_same s h.key.stream f.0 in
        let here : end_of h.key.stream es ≡ None = subst (λ t. end_of t es ≡ None) same none in
        let well = subst (λ o. IsBreakBy h.key.stream o heads None) here (f.1 here) in
        absurd (none-some h (sym well.0 ∙ subst (λ t. first_head t heads ≡ Some h) same e))

    go : (o : Option End) → end_of s es ≡ o → IsBreakBy s (end_of s es) heads None
    go None e = subst (λ o. IsBreakBy s o heads None) (sym e) (unlisted e (first_head s heads) refl)
    go (Some d) e =
        let f = end_found (EndGoesWell es heads) s es d ends e in
        subst (λ t. IsBreakBy t (end_of t es) heads None) (sym (streams_same s d.stream f.0)) f.1
