use Rattle.std.proofs.Common.{◌∙◌, ap, sym, map, Bool, Some, option_map}
use Rattle.std.specs.Prelude.{bytes_eq, codes}
use Rattle.chk_ctl_machine.specs.declared.extent.Extent.{Extent}
use Rattle.chk_ctl_machine.specs.declared.extent.LongInspection.{LongInspection}
use Rattle.chk_ctl_inspect.specs.Commands.{asks_progress}
use Rattle.chk_ctl_inspect.proofs.Parts.{any_map}
use Rattle.chk_ctl_inspect.proofs.command.long_of.Goals as goal

pub returns-in-Some : goal.returns-in-Some
returns-in-Some c =
    let by : Extent → Bool → LongInspection = λ e a. record { extent = e; asked = a } in
    let words = map (λ w. w.now) c.args.words.now in
    ap (λ a. Some (by c.in-Some.extent a))
    (c.asks_progress-asked.ensures
    ∙ sym (any_map (λ w. bytes_eq w (codes "--progress")) (λ w. w.now) c.args.words.now))
    ∙ ap (option_map (λ e. by e (asks_progress words))) c.in-Some.ensures
