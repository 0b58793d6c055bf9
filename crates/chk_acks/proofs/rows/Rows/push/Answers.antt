use Rattle.std.proofs.Common.{◌<◌, ◌≡◌, ◌∙◌, ◌++◌, ◌∷◌, [], List, ap, ap₂, arith, length, map, subst, sym}
use Rattle.std.proofs.lemmas.Bool.{cond-true}
use Rattle.std.proofs.lemmas.List.{length-append, length-map, map_push}
use Rattle.chk_bytes.specs.Stems.{Stem}
use Rattle.chk_acks.specs.declared.row.Row.{Row}
use Rattle.chk_acks.specs.declared.kept.Kept.{Kept}
use Rattle.chk_acks.specs.Keeping.{Answers, Rises, seen}
use Rattle.chk_acks.proofs.Keeps.{rises_push, seen_same}
use Rattle.chk_acks.proofs.rows.Rows.push.Goals as goal

-- the row as it is kept
row : (c : goal.After-push) → Kept
row c = record {
  adaptor = c.args.row.adaptor;
  sink = c.number_of-sink.result;
  begin = c.args.row.begin;
  end = c.args.row.end;
  offset = c.args.row.offset;
  answered = c.args.row.answered;
  marked = c.args.row.marked;
}

free : (c : goal.After-push) → length c.self.inside.kept.items < c.self.inside.room
free c =
    omega (
      arith,
      c.requires,
      ap (λ (a : Answers). length a.rows) c.self.view_is,
      ap (λ (a : Answers). a.room) c.self.view_is,
      length-map c.self.inside.kept.items (seen c.self.inside.sinks.items),
    )

kept : (c : goal.After-push) → c.push.new.self.items ≡ c.self.inside.kept.items ++ row c ∷ []
unfolding row
kept c =
    let fits = free c in
    c.push.ensures.items
    ∙ cond-true _ _ _ (c.push.ensures.succeeds
    (omega (arith, c.self.invariant.kept_fit, c.self.inside.kept.ok)))

pub invariant_of-self : goal.invariant_of-self
unfolding row
invariant_of-self c =
    let named = c.number_of-sink.ensures in
    let size =
    ap (length {A = Kept}) (kept c) ∙ length-append c.self.inside.kept.items (row c ∷ []) in
    record {
      rises = subst (λ (rows : List Kept). Rises 0 rows (length c.number_of-sink.new.sinks.items))
          (sym (kept c))
          (rises_push 0 c.self.inside.kept.items (row c) (length c.self.inside.sinks.items)
          (length c.number_of-sink.new.sinks.items) (omega arith) (omega (arith, named.on))
          (omega (arith, named.last)) (omega (arith, named.last, named.on))
          c.self.invariant.rises);
      few = omega (arith, size, free c);
      small = c.self.invariant.small;
      sinks_few = omega (arith, size, named.last, named.few, c.self.invariant.sinks_few);
      kept_fit = omega (arith, c.push.ensures.capacity, c.self.invariant.kept_fit);
      sinks_fit = omega (arith, named.capacity, c.self.invariant.sinks_fit);
    }

pub returns : goal.returns
unfolding row
returns c =
    let sinks = c.self.inside.sinks.items in
    let others = c.number_of-sink.new.sinks.items in
    let named = c.number_of-sink.ensures in
    ap (λ (rows : List Row). record { rows = rows; room = c.self.inside.room })
    (ap (map (seen others)) (kept c) ∙ map_push (seen others) c.self.inside.kept.items (row c)
    ∙ ap₂ (λ (rows : List Row) (stem : Stem). rows ++ (record c.args.row { stem = stem }) ∷ [])
    (seen_same sinks others 0 c.self.inside.kept.items (length sinks) c.self.invariant.rises
    named.others)
    named.named)
    ∙ ap (λ (a : Answers). record { rows = a.rows ++ c.args.row ∷ []; room = a.room })
    c.self.view_is
