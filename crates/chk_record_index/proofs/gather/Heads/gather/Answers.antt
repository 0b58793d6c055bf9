use Rattle.std.proofs.Common.{◌-◌, length, ap, ◌∙◌}
use Rattle.chk_record_index.proofs.Gathering.{counted, taken_back, back_again, shows_counted, shows_back}
use Rattle.chk_record_index.proofs.gather.Heads.gather.Goals as goal

pub returns-in-Ok-clause-raw : goal.returns-in-Ok-clause-raw
returns-in-Ok-clause-raw g c = λ f small.
    counted c.args.name.now c.args.most c.args.file c.args.self.now c.gather_file.new.self (c.len.result - c.len-before.result) f
    (ap (λ n. n - c.len-before.result) c.len.ensures ∙ ap (λ n. length c.gather_file.new.self - n) c.len-before.ensures)
    (c.in-Ok.ensures.raw f small)

pub returns-in-Err-clause-raw : goal.returns-in-Err-clause-raw
returns-in-Err-clause-raw g c = λ f small.
    taken_back c.args.name.now c.args.most c.args.file c.args.self.now c.gather_file.new.self c.truncate.new.self c.in-Err.fault f
    (back_again c.args.self.now c.gather_file.new.self c.truncate.new.self c.len-before.result c.len-before.ensures
    c.gather_file.ensures.grown.0 c.gather_file.ensures.grown.1 c.truncate.ensures)
    (c.in-Err.ensures.raw f small)

pub returns-in-Ok-clause-shown : goal.returns-in-Ok-clause-shown
returns-in-Ok-clause-shown g c =
    shows_counted c.args.name.now c.args.most c.args.file c.args.self.now c.gather_file.new.self (c.len.result - c.len-before.result) c.in-Ok.ensures.shown

pub returns-in-Err-clause-shown : goal.returns-in-Err-clause-shown
returns-in-Err-clause-shown g c =
    shows_back c.args.name.now c.args.most c.args.file c.args.self.now c.gather_file.new.self c.truncate.new.self c.in-Err.fault c.in-Err.ensures.shown
