use Rattle.std.proofs.Common.{◌∙◌, ap, map, min, sym}
use Rattle.std.specs.List.{filter, reduce}
use Rattle.chk_acks.specs.declared.row.Row.{Row}
use Rattle.chk_acks.specs.declared.kept.Kept.{Kept}
use Rattle.chk_acks.specs.Rows.{expired_adaptors, is_expired}
use Rattle.chk_acks.specs.Keeping.{Answers, is_kept_expired, seen}
use Rattle.chk_acks.proofs.Keeps.{filter_seen, map_both}
use Rattle.chk_acks.proofs.rows.Rows.least_expired.Goals as goal

pub returns : goal.returns
returns c =
    let sinks = c.self.inside.sinks.items in
    let kept = c.self.inside.kept.items in
    let late = is_kept_expired c.args.now c.args.age in
    c.least_expired.ensures
    ∙ ap (λ rows. reduce min (map (λ (k : Kept). k.adaptor) (filter late rows)))
    c.deref.ensures.value
    ∙ ap (reduce min)
    (sym (ap (map (λ (row : Row). row.adaptor))
    (filter_seen (is_expired c.args.now c.args.age) (seen sinks) kept)
    ∙ map_both (λ (row : Row). row.adaptor) (seen sinks) (filter late kept)))
    ∙ ap (λ (a : Answers). reduce min (expired_adaptors c.args.now c.args.age a.rows))
    c.self.view_is
