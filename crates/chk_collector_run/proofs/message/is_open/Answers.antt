use Rattle.std.proofs.Common.{◌≡◌, inr, Ok, Err, subst}
use Rattle.chk_http.specs.declared.fault.HttpFault.TheVariants.{NotYet}
use Rattle.chk_collector.specs.Outcomes.{RefusedBy}
use Rattle.chk_collector.proofs.Refused.{refused_by}
use Rattle.chk_collector_run.proofs.Reading.{read_whole}
use Rattle.chk_collector_run.proofs.message.is_open.Goals as goal

pub returns-in-Ok-clause-shut : goal.returns-in-Ok-clause-shut
returns-in-Ok-clause-shut c e =
    inr (read_whole c.args.bytes.now (Ok c.in-Ok.field-0) (record {
      post = c.in-Ok.ensures.post;
      poll = c.in-Ok.ensures.poll;
      bad_path = c.in-Ok.ensures.bad_path;
      bad_method = c.in-Ok.ensures.bad_method;
      bad_line = c.in-Ok.ensures.bad_line;
      no_length = c.in-Ok.ensures.no_length;
      bad_head = c.in-Ok.ensures.bad_head;
      bad_length = c.in-Ok.ensures.bad_length;
      too_large = c.in-Ok.ensures.too_large;
      endless = c.in-Ok.ensures.endless;
      long_body = c.in-Ok.ensures.long_body;
      not_yet = c.in-Ok.ensures.not_yet;
      cut_body = c.in-Ok.ensures.cut_body;
    }) c.in-Ok.ensures.asked (λ e. cc))

pub returns-in-Err-clause-unread : goal.returns-in-Err-clause-unread
returns-in-Err-clause-unread c e = record {
  not_yet = subst (RefusedBy c.args.bytes.now) (c.is_not_yet.ensures.yes e) (refused_by
      c.args.bytes.now c.in-Err.fault (record {
        post = c.in-Err.ensures.post;
        poll = c.in-Err.ensures.poll;
        bad_path = c.in-Err.ensures.bad_path;
        bad_method = c.in-Err.ensures.bad_method;
        bad_line = c.in-Err.ensures.bad_line;
        no_length = c.in-Err.ensures.no_length;
        bad_head = c.in-Err.ensures.bad_head;
        bad_length = c.in-Err.ensures.bad_length;
        too_large = c.in-Err.ensures.too_large;
        endless = c.in-Err.ensures.endless;
        long_body = c.in-Err.ensures.long_body;
        not_yet = c.in-Err.ensures.not_yet;
        cut_body = c.in-Err.ensures.cut_body;
      }));
  short = c.if-bytes-ge-MOST_BYTES.false;
}

pub returns-in-Err-clause-shut : goal.returns-in-Err-clause-shut
returns-in-Err-clause-shut c e =
    inr (read_whole c.args.bytes.now (Err c.in-Err.fault) (record {
      post = c.in-Err.ensures.post;
      poll = c.in-Err.ensures.poll;
      bad_path = c.in-Err.ensures.bad_path;
      bad_method = c.in-Err.ensures.bad_method;
      bad_line = c.in-Err.ensures.bad_line;
      no_length = c.in-Err.ensures.no_length;
      bad_head = c.in-Err.ensures.bad_head;
      bad_length = c.in-Err.ensures.bad_length;
      too_large = c.in-Err.ensures.too_large;
      endless = c.in-Err.ensures.endless;
      long_body = c.in-Err.ensures.long_body;
      not_yet = c.in-Err.ensures.not_yet;
      cut_body = c.in-Err.ensures.cut_body;
    }) c.in-Err.ensures.asked (λ e2. c.is_not_yet.ensures.no e (let s : c.in-Err.fault ≡ NotYet = cc in s)))
