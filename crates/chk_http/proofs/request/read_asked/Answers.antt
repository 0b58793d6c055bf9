use Rattle.std.proofs.Common.{rules, inl, inr, sym, ◌∙◌, ap}
use Rattle.std.specs.Prelude.{codes, ◌++◌}
use Rattle.chk_http.proofs.Targets.{no_empty_query}
use Rattle.chk_http.proofs.request.read_asked.Goals as goal

pub returns-in_ok-query-in-Polls : goal.returns-in_ok-query-in-Polls
returns-in_ok-query-in-Polls c =
    let query = c.in_ok-query-in-Polls.ensures in
    elim c.in-Polls.ensures [
      | inl bare ↦ absurd (no_empty_query query.1.0 c.in-Polls.query.now query.1.1 bare.1)
      | inr rest ↦ (
        search rules,
        sym c.of.ensures ∙ (rest.1 ∙ ap (λ q. codes "/acks?"
            ++ q) (sym query.0)),
        (query.1.0, rw query.0 query.1.1),
      )
    ]
