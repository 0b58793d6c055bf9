use Rattle.std.proofs.Common.{◌≡◌, ◌∙◌, ℕ, List, ◌∷◌, [], Ok, not, ap, sym, subst}
use Rattle.std.specs.Prelude.{IsTrue, is_some}
use Rattle.std.proofs.lemmas.Result.{err_from_is_err_and}
use Rattle.chk_bytes.specs.Words.{is_word}
use Rattle.chk_agent.specs.States.{committed_at}
use Rattle.chk_world.specs.ArchiveRuns.{is_one_line}
use Rattle.chk_cmd_line.specs.Lines.{stream_line}
use Rattle.chk_cmd_output.proofs.OneLine.{stream_line_one}
use Rattle.chk_cmd_output.specs.Printing.{PrintsInTurn, all_printed, unprinted}
use Rattle.chk_cmd_round.proofs.Lines.{adaptor_spelled, none_here, one_here, some_at}
use Rattle.chk_cmd_round.proofs.telling.tell_stream.Goals as goal

pub returns-then-is_none-clause-told : goal.returns-then-is_none-clause-told
returns-then-is_none-clause-told g c =
    let s = c.args.agent.now in
    let a = some_at s.adaptors c.args.number c.requires.within in
    subst (λ (ls : List (List ℕ)). PrintsInTurn c.args.who.now ls (Ok tt) (g.S.Site.told c.args.site.now) (g.S.Site.told c.args.site.now))
    (sym (none_here c.args.who.now.name s c.args.number a.0 a.1 (ap is_some (sym (c.state.ensures a.0 a.1)) ∙ (c.is_none.ensures ∙ ap not c.if-is_none.true))))
    all_printed

pub print_line-requires : goal.print_line-requires
print_line-requires g c =
    let s = c.args.agent.now in
    let a = some_at s.adaptors c.args.number c.requires.within in
    let spelled = adaptor_spelled s c.ready-sound.ensures.sound c.args.number a.0 a.1 in
    let one = stream_line_one c.as_str.result.now c.kind.result.now c.path.result.now
    c.committed_end.result
    (subst (λ (n : List ℕ). IsTrue (is_word n)) (sym c.as_str.ensures.text) c.as_str.ensures.word)
    (subst (λ (n : List ℕ). IsTrue (is_word n)) (sym (c.kind.ensures a.0 a.1)) spelled.kind)
    (subst (λ (n : List ℕ). IsTrue (is_word n)) (sym (c.path.ensures a.0 a.1)) spelled.path)
    c.committed_end.type_inv in
    record {
      line = subst (λ (l : List ℕ). IsTrue (is_one_line l)) (sym (c.as_slice.ensures ∙ c.in_ok-line.ensures)) one;
    }

pub returns-in_err-line-clause-told : goal.returns-in_err-line-clause-told
returns-in_err-line-clause-told g c =
    let p = err_from_is_err_and c.from_residual.result c.from_residual.ensures.1 in
    rw (p.1, p.2) unprinted

pub returns-clause-told : goal.returns-clause-told
returns-clause-told g c =
    let s = c.args.agent.now in
    let a = some_at s.adaptors c.args.number c.requires.within in
    let line : c.as_slice.result.now ≡ stream_line c.args.who.now.name a.0.kind a.0.path (committed_at s c.args.number) =
    c.as_slice.ensures ∙ (c.in_ok-line.ensures
    ∙ (λ j. stream_line (c.as_str.ensures.text j) (c.kind.ensures a.0 a.1 j) (c.path.ensures a.0 a.1 j) (c.committed_end.ensures j))) in
    subst (λ (ls : List (List ℕ)). PrintsInTurn c.args.who.now ls c.print_line.result (g.S.Site.told c.args.site.now) (g.S.Site.told c.print_line.new.site))
    (ap (λ (l : List ℕ). l ∷ []) line
    ∙ sym (one_here c.args.who.now.name s c.args.number a.0 a.1
    (ap is_some (sym (c.state.ensures a.0 a.1)) ∙ (c.is_none.ensures ∙ ap not c.if-is_none.false))))
    c.print_line.ensures.told
