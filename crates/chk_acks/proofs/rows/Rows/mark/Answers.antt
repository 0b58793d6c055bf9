use Rattle.std.proofs.Common.{◌≡◌, ◌∙◌, List, ap, ap₂, arith, length, map, subst, sym}
use Rattle.std.specs.List.{All}
use Rattle.std.specs.Vec.{with_items}
use Rattle.std.proofs.lemmas.List.{length-map, with_items_is}
use Rattle.chk_bytes.specs.Stems.{Stem}
use Rattle.chk_acks.specs.declared.row.Row.{Row}
use Rattle.chk_acks.specs.declared.kept.Kept.{Kept}
use Rattle.chk_acks.specs.Rows.{marked_at}
use Rattle.chk_acks.specs.Keeping.{Answers, IsIn, Rises, kept_marked, seen}
use Rattle.chk_acks.proofs.Keeps.{map_both, rises_marked, rises_within}
use Rattle.chk_acks.proofs.rows.Rows.mark.Goals as goal

pub mark-requires : goal.mark-requires
mark-requires c =
    let sinks = c.self.inside.sinks.items in
    let kept = c.self.inside.kept.items in
    subst (λ (rows : List Kept). All (IsIn c.deref.result.now) rows) (sym c.deref_mut.ensures.value)
    (subst (λ (stems : List Stem). All (IsIn stems) kept) (sym c.deref.ensures.value)
    (rises_within sinks 0 kept c.self.invariant.rises))

marked : (c : goal.After-self-1) → (with_items c.self.inside.kept c.mark.new.rows).items
    ≡ map (kept_marked c.self.inside.sinks.items c.args.stem c.args.length) c.self.inside.kept.items
marked c =
    let marks = λ (stems : List Stem) (rows : List Kept).
    map (kept_marked stems c.args.stem c.args.length) rows in
    let all : c.mark.new.rows ≡ marks c.self.inside.sinks.items c.self.inside.kept.items =
    c.mark.ensures ∙ ap₂ marks c.deref.ensures.value c.deref_mut.ensures.value in
    with_items_is c.self.inside.kept c.mark.new.rows
    (omega (
      arith,
      ap (length {A = Kept}) all,
      length-map c.self.inside.kept.items
          (kept_marked c.self.inside.sinks.items c.args.stem c.args.length),
      c.self.inside.kept.ok,
    ))
    ∙ all

pub invariant_of-self : goal.invariant_of-self
invariant_of-self c =
    let sinks = c.self.inside.sinks.items in
    let kept = c.self.inside.kept.items in
    let size =
    ap (length {A = Kept}) (marked c)
    ∙ length-map kept (kept_marked sinks c.args.stem c.args.length) in
    record {
      rises = subst (λ (rows : List Kept). Rises 0 rows (length sinks)) (sym (marked c))
          (rises_marked sinks c.args.stem c.args.length 0 kept (length sinks)
          c.self.invariant.rises);
      few = omega (arith, size, c.self.invariant.few);
      small = c.self.invariant.small;
      sinks_few = omega (arith, size, c.self.invariant.sinks_few);
      kept_fit = c.self.invariant.kept_fit;
      sinks_fit = c.self.invariant.sinks_fit;
    }

pub returns : goal.returns
returns c =
    let sinks = c.self.inside.sinks.items in
    let kept = c.self.inside.kept.items in
    ap (λ (rows : List Row). record { rows = rows; room = c.self.inside.room })
    (ap (map (seen sinks)) (marked c)
    ∙ map_both (seen sinks) (kept_marked sinks c.args.stem c.args.length) kept
    ∙ sym (map_both (marked_at c.args.stem c.args.length) (seen sinks) kept))
    ∙ ap (λ (a : Answers). record { rows = map (marked_at c.args.stem c.args.length) a.rows; room = a.room })
    c.self.view_is
