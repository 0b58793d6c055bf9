-- One more span behind the others.
use Rattle.std.proofs.Common.{◌≡◌, ℕ, List, [], ◌∷◌, ◌++◌, sym, ◌∙◌, refl}
use Rattle.chk_record_index.specs.Heads.{Head}
use Rattle.chk_archive_plan.specs.Passes.{IsSpan, AreSpans}
use Rattle.chk_archive_plan.specs.declared.spans.Span.{Span}
use Rattle.chk_archive_plan.specs.declared.spans.Known.{Known}

pub spans_push : (known : List Known) (heads : List Head) (at mid : ℕ) (ss : List Span) (s : Span)
    → AreSpans known heads at ss mid → s.first ≡ mid → IsSpan known heads s
    → AreSpans known heads at (ss ++ s ∷ []) s.end
spans_push known heads at mid [] s all first span = (first ∙ sym all, span, refl)
spans_push known heads at mid (r ∷ ss) s all first span =
    (all.0, all.1, spans_push known heads r.end mid ss s all.2 first span)
