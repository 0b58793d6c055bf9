use Rattle.std.proofs.Common.{◌≡◌, ◌≤◌, ◌∙◌, refl, ap, sym, subst, length}
use Rattle.std.specs.Prelude.{All, IfSome, flat_map, sum_by}
use Rattle.chk_archive_plan.specs.declared.spans.Span.{Span}
use Rattle.chk_archive_plan.specs.Laws.{span_gain}
use Rattle.chk_archive_parts.specs.Cuts.{span_cuts}
use Rattle.chk_archive.proofs.taking.planned_of.Goals as goal

pub cuts_of-requires : goal.cuts_of-requires
cuts_of-requires c =
    subst (All (λ (s : Span). s.end ≤ length c.args.heads.now)) (sym c.as_slice-2.ensures.value) c.requires

pub returns : goal.returns
returns c = record {
  are = refl;
  taken = subst (λ o. IfSome o (λ n. n ≡ sum_by span_gain c.as_slice.result.now)) c.in_ok-taken.ensures.ok_part
      c.taken.ensures.some ∙ ap (sum_by span_gain) c.as_slice.ensures.value;
  cuts = c.in_ok-cuts.ensures.each ∙ ap (flat_map (span_cuts c.args.heads.now)) c.as_slice-2.ensures.value;
  within = c.in_ok-cuts.ensures.within;
}
