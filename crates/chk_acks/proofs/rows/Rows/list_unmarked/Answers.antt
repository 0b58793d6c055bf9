use Rattle.std.proofs.Common.{◌∙◌, List, ap, arith, length, map}
use Rattle.chk_acks.specs.declared.kept.Kept.{Kept}
use Rattle.chk_acks.specs.Passes.{places_of}
use Rattle.chk_acks.specs.Keeping.{Answers, bare}
use Rattle.chk_acks.proofs.Keeps.{places_seen}
use Rattle.chk_acks.proofs.rows.Rows.list_unmarked.Goals as goal

pub list_unmarked-requires-clause-few : goal.list_unmarked-requires-clause-few
list_unmarked-requires-clause-few c =
    omega (
      arith,
      ap (length {A = Kept}) c.deref.ensures.value,
      c.self.invariant.few,
      c.self.invariant.small,
    )

pub returns-clause-places : goal.returns-clause-places
returns-clause-places c =
    c.list_unmarked.ensures.places
    ∙ ap (λ (rows : List Kept). places_of 0 (map bare rows)) c.deref.ensures.value
    ∙ places_seen c.self.inside.sinks.items 0 c.self.inside.kept.items
    ∙ ap (λ (a : Answers). places_of 0 a.rows) c.self.view_is
