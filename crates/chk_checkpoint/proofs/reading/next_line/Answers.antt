use Rattle.std.proofs.Common.{sym, ◌∙◌, map}
use Rattle.chk_checkpoint.specs.Lines.{shown, text_version}
use Rattle.chk_checkpoint.specs.Fields.{lent}
use Rattle.chk_checkpoint.proofs.SoFar.{no_newline, no_line, no_follower}
use Rattle.chk_checkpoint.proofs.reading.next_line.Goals as goal

pub returns-in_default-clause-none : goal.returns-in_default-clause-none
returns-in_default-clause-none c =
    no_newline (text_version c.args.version) (map shown c.args.lines.now.items) c.args.text.now (sym c.line_size.ensures ∙ c.in_default.is)

pub returns-in_default-read_line-clause-none : goal.returns-in_default-read_line-clause-none
returns-in_default-read_line-clause-none c =
    no_line (text_version c.args.version) (map shown c.args.lines.now.items) c.args.text.now c.in-Some.size (sym c.line_size.ensures ∙ c.in-Some.is)
    c.in_default-read_line.ensures.none

pub returns-then-not-branch-clause-none : goal.returns-then-not-branch-clause-none
returns-then-not-branch-clause-none c =
    no_follower (text_version c.args.version) (map shown c.args.lines.now.items) c.args.text.now c.in-Some.size (sym c.line_size.ensures ∙ c.in-Some.is)
    (lent c.in-Some-read_line.line) c.in-Some-read_line.ensures.some (sym c.in_ok-take_line.ensures.taken ∙ c.if-not-branch.true)

pub returns-clause-some : goal.returns-clause-some
returns-clause-some c = record {
  line = lent c.in-Some-read_line.line;
  found = sym c.line_size.ensures ∙ c.in-Some.is;
  read = c.in-Some-read_line.ensures.some;
  follows = sym c.in_ok-take_line.ensures.taken ∙ c.if-not-branch.false;
  more_is = rw c.if-not-branch.false at c.in_ok-take_line.ensures.lines;
  has_seen = rw c.if-not-branch.false at c.in_ok-take_line.ensures.seen;
}
