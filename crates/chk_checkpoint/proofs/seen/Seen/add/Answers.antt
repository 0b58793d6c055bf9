use Rattle.std.proofs.Common.{ap, sym, ◌∙◌, ◌&&◌, ◌||◌, bytes_eq}
use Rattle.chk_checkpoint.specs.Seen.{has_name}
use Rattle.chk_checkpoint.proofs.SeenLemmas.{true_on, name_added, log_added}
use Rattle.chk_checkpoint.proofs.seen.Seen.add.Goals as goal

pub returns-then-line-clause-names : goal.returns-then-line-clause-names
returns-then-line-clause-names c =
    true_on c.in_ok-insert-2.field-0
    (λ name. name_added c.args.line.now.name c.args.self.now.names c.insert-then-line.new.self c.in_ok-insert-2.ensures.updates name
    ∙ ap (λ b. (b && bytes_eq c.args.line.now.name.now name) || has_name c.args.self.now name) (sym c.if-line.true))

pub returns-then-line-clause-logs : goal.returns-then-line-clause-logs
returns-then-line-clause-logs c =
    true_on c.in_ok-insert-2.field-0
    (log_added (c.args.line.now.kind, c.args.line.now.path) c.args.self.now.logs c.insert.new.self c.in_ok-insert.ensures.updates)

pub returns-clause-logs : goal.returns-clause-logs
returns-clause-logs c =
    log_added (c.args.line.now.kind, c.args.line.now.path) c.args.self.now.logs c.insert.new.self c.in_ok-insert.ensures.updates
