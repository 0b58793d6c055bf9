use Rattle.chk_bytes.proofs.StemLemmas.{collector_utf8}
use Rattle.chk_bytes.specs.StemFields.{stem_view}
use Rattle.chk_bytes.proofs.stem.Stem.name.Goals as goal

pub unreachable-requires : goal.unreachable-requires
unreachable-requires c =
    let cases = c.in-Err.ensures.cases in
    cases.0 (collector_utf8 (stem_view c.self.inside) c.self.invariant.stem)
