use Rattle.std.proofs.Common.{◌≡◌, List, length, get_or, true, sym, ap, subst, ◌∙◌, arith}
use Rattle.std.proofs.lemmas.List.{length-map}
use Rattle.chk_record_index.specs.Heads.{Head}
use Rattle.chk_record_index.specs.HeadRows.{head_in_row}
use Rattle.chk_record_index.specs.Order.{no_head, of_one_stream}
use Rattle.chk_record_index.proofs.Rows.{one_origin}
use Rattle.chk_record_index.proofs.gather.Heads.are_of_one.Goals as goal

pub returns-then-index : goal.returns-then-index
returns-then-index c =
    let origins = c.self.inside.origins.items in
    let rows = c.self.inside.rows.items in
    let count = sym (length-map rows (head_in_row origins)) ∙ ap length c.self.view_is in
    let first = c.requires.first in
    let second = c.requires.second in
    subst (λ (hs : List Head). true ≡ of_one_stream (get_or hs c.args.i no_head) (get_or hs c.args.j no_head)) c.self.view_is
    (sym (one_origin origins rows c.args.i c.args.j c.index.result.now c.index-2.result.now
    (omega (arith, count, first)) (omega (arith, count, second)) c.index.ensures c.index-2.ensures c.if-index.true))
