use Rattle.std.proofs.Common.{◌<◌, ◌∙◌, ap, arith, length}
use Rattle.std.proofs.lemmas.List.{length-map}
use Rattle.chk_acks.specs.Keeping.{Answers, named_at, seen}
use Rattle.chk_acks.proofs.Keeps.{named_seen}
use Rattle.chk_acks.proofs.rows.Rows.named_at.Goals as goal

pub index-requires : goal.index-requires
index-requires c =
    let sinks = c.self.inside.sinks.items in
    let kept = c.self.inside.kept.items in
    let within : c.args.place < length kept =
    omega (
      arith,
      c.requires,
      ap (λ (a : Answers). length a.rows) c.self.view_is,
      length-map kept (seen sinks),
    ) in
    omega (
      arith,
      (named_seen sinks kept c.args.place c.index-row.result.now c.self.invariant.rises within
          c.index-row.ensures).0,
      c.self.inside.sinks.ok,
    )

pub returns : goal.returns
returns c =
    let sinks = c.self.inside.sinks.items in
    let kept = c.self.inside.kept.items in
    let within : c.args.place < length kept =
    omega (
      arith,
      c.requires,
      ap (λ (a : Answers). length a.rows) c.self.view_is,
      length-map kept (seen sinks),
    ) in
    (named_seen sinks kept c.args.place c.index-row.result.now c.self.invariant.rises within
    c.index-row.ensures).1 c.index.result.now c.index.ensures
    ∙ ap (λ (a : Answers). named_at a.rows c.args.place) c.self.view_is
