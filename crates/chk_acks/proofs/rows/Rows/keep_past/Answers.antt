use Rattle.std.proofs.Common.{◌≡◌, ◌∙◌, List, ap, arith, length, map, rules, subst, sym}
use Rattle.std.specs.List.{filter}
use Rattle.std.proofs.lemmas.Fn.{filter_same}
use Rattle.std.proofs.lemmas.List.{with_items_is}
use Rattle.chk_acks.specs.declared.row.Row.{Row}
use Rattle.chk_acks.specs.Rows.{is_past}
use Rattle.chk_acks.specs.Keeping.{Answers, Rises, is_kept_past, seen}
use Rattle.chk_acks.proofs.Keeps.{left_seen, rises_filter}
use Rattle.chk_acks.proofs.rows.Rows.keep_past.Goals as goal

left : (c : goal.After-gather-arg-1) → c.deref_mut.result.now
    ≡ filter (is_kept_past c.args.committed.now) c.self.inside.kept.items
left c =
    let keeps = is_kept_past c.args.committed.now in
    c.deref_mut.ensures.value
    ∙ filter_same _ keeps _ (λ x b f' k. search rules) _ _ c.retain.ensures.filtered

pub gather-requires : goal.gather-requires
gather-requires c =
    let sinks = length c.self.inside.sinks.items in
    subst (λ kept. Rises 0 kept sinks) (sym (left c))
    (rises_filter (is_kept_past c.args.committed.now) 0 c.self.inside.kept.items sinks
    c.self.invariant.rises)

pub returns : goal.returns
returns c =
    let sinks = c.self.inside.sinks.items in
    let kept = c.self.inside.kept.items in
    let keeps = is_kept_past c.args.committed.now in
    let left : c.deref_mut.result.now ≡ filter keeps kept =
    c.deref_mut.ensures.value
    ∙ filter_same _ keeps _ (λ x b f' k. search rules) _ _ c.retain.ensures.filtered in
    let moved = with_items_is c.retain.new.self c.gather.new.rows
    (omega (arith, c.gather.auto.rows, c.deref_mut.ensures.len)) in
    ap (λ (rows : List Row). record { rows = rows; room = c.self.inside.room })
    (ap (map (seen c.gather.new.sinks.items)) moved
    ∙ left_seen (is_past c.args.committed.now) sinks c.gather.new.sinks.items kept c.deref_mut.result.now
    c.gather.new.rows left c.gather.ensures.same)
    ∙ ap (λ (a : Answers). record { rows = filter (is_past c.args.committed.now) a.rows; room = a.room })
    c.self.view_is
