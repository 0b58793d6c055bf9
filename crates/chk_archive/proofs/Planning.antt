-- The spans of a plan lie within its heads.
use Rattle.std.proofs.Common.{◌≡◌, ℕ, zero, suc, ◌≤◌, List, [], ◌∷◌, length, Result, Ok, Err, subst, sym, arith}
use Rattle.std.specs.Prelude.{All, IfOk}
use Rattle.chk_world.proofs.Each.{Each, each_as}
use Rattle.chk_bytes.specs.declared.NoMemory.{NoMemory}
use Rattle.chk_world.specs.Books.{Book}
use Rattle.chk_record_index.specs.Heads.{Head}
use Rattle.chk_archive_plan.specs.Passes.{IsSpan, AreSpans, begins_at}
use Rattle.chk_archive_plan.specs.declared.spans.Span.{Span}
use Rattle.chk_archive_plan.specs.declared.spans.Known.{Known}
use Rattle.chk_book.specs.Books.{end_in}
use Rattle.chk_archive_parts.specs.Kept.{AreSpansWithin}
use Rattle.chk_archive.specs.Taking.{IsPlanned, IsCut}
use Rattle.chk_archive.specs.declared.taking.Planned.{Planned}

all_of : {X : Type 0} (P : X → Type 0) (xs : List X) → Each P xs → All P xs
all_of P [] all k d low = absurd (let z : ⊥ = omega (arith, low) in z)
all_of P (x ∷ xs) all zero d low = all.0
all_of P (x ∷ xs) all (suc k) d low = all_of P xs all.1 k d (omega (arith, low))

module _ (known : List Known) (heads : List Head) where
  each_span : (at to : ℕ) (ss : List Span) → AreSpans known heads at ss to → Each (IsSpan known heads) ss
  each_span at to [] all = tt
  each_span at to (s ∷ ss) all = (all.1, each_span s.end to ss all.2)

  pub all_end : (at to : ℕ) (ss : List Span) → AreSpans known heads at ss to
      → All (λ (s : Span). s.end ≤ length heads) ss
  all_end at to ss all =
      all_of (λ (s : Span). s.end ≤ length heads) ss
      (each_as (IsSpan known heads) (λ (s : Span). s.end ≤ length heads) ss (λ s i. i.within) (each_span at to ss all))

  pub all_within : (at to : ℕ) (ss : List Span) → AreSpans known heads at ss to → AreSpansWithin (length heads) ss
  all_within at to ss all =
      all_of (λ (s : Span). (s.past ≤ s.end) × (s.end ≤ length heads)) ss
      (each_as (IsSpan known heads) (λ (s : Span). (s.past ≤ s.end) × (s.end ≤ length heads)) ss
      (λ s i. (i.high, i.within)) (each_span at to ss all))

-- spans that are cut are a plan
pub planned_so : (b : Book) (heads : List Head) (known : List Known)
    → ((h : Head) → begins_at known h ≡ end_in h.key.start b.ends h.key.stream)
    → (ss : List Span) → AreSpans known heads 0 ss (length heads) → (r : Result Planned NoMemory)
    → IfOk r (IsCut heads ss) → IfOk r (IsPlanned b heads)
planned_so b heads known ends ss are (Err fault) cut = tt
planned_so b heads known ends ss are (Ok p) cut =
    let spans : AreSpans known heads 0 p.spans.items (length heads) =
    subst (λ s. AreSpans known heads 0 s (length heads)) (sym cut.are) are in
    record {
      known = known;
      ends = ends;
      spans = spans;
      taken = cut.taken;
      cuts = cut.cuts;
      within = cut.within;
      spans_within = all_within known heads 0 (length heads) p.spans.items spans;
    }
