use Rattle.std.proofs.Common.{ℕ, List, [], ◌∷◌, subst}
use Rattle.chk_cmd_load.specs.Pieces.{AppendsInTurn}
use Rattle.chk_cmd_load.proofs.Writing.{appended_one}
use Rattle.chk_cmd_load.proofs.pieces.append_piece.Goals as goal

pub returns-clause-appends : goal.returns-clause-appends
returns-clause-appends g c =
    subst (λ (p : List ℕ). AppendsInTurn c.args.writer.now
    (record { path = p; bytes = c.args.piece.now } ∷ []) c.reached.result
    (g.S.Site.told c.args.site.now) (g.S.Site.told c.log_append-given.new.self)) c.load_log.ensures
    (appended_one c.log_append-given.result c.reached.result (record {
      log = c.args.log;
      low = c.requires.one;
      path = c.load_log.ensures;
      some = c.requires.some;
      most = c.requires.most;
      lines = c.requires.lines;
    }) c.log_append-given.ensures.told c.reached.ensures)
