use Rattle.std.proofs.Common.{length, ap, ◌∙◌, sym}
use Rattle.std.proofs.lemmas.Bool.{eqb-true, eq-eqb}
use Rattle.std.proofs.lemmas.List.{nil_from_length}
use Rattle.chk_queue.proofs.Queue.is_empty.Goals as goal

pub returns : goal.returns
returns c =
    let chunks = c.args.self.now.chunks in (
      λ none. nil_from_length chunks (sym c.len.ensures ∙ eqb-true c.len.result 0 none),
      λ empty. eq-eqb c.len.result 0 (c.len.ensures ∙ ap length empty),
    )
