use Rattle.std.proofs.Common.{refl, [], Err}
use Rattle.std.proofs.lemmas.Result.{err_from_is_err_and}
use Rattle.chk_site.specs.History.{Every}
use Rattle.chk_site.specs.Runs.{unbegun}
use Rattle.chk_site.proofs.Runs.{adds_none}
use Rattle.chk_site.specs.declared.acts.OutsideFault.TheVariants.{NoMemory as no_memory}
use Rattle.chk_replace.specs.Replace.{SparesOld}
use Rattle.chk_replace.proofs.CallSteps.{script_last}
use Rattle.chk_replace.proofs.OldAndNew.{replaced, touches_both}
use Rattle.chk_replace.proofs.replacing.replace.Goals as goal

pub returns-in_err-next : goal.returns-in_err-next
returns-in_err-next g c =
    let p = err_from_is_err_and c.from_residual.result c.from_residual.ensures.1 in
    rw (p.1, p.2)
    (record {
      told = unbegun;
      old_or_new = replaced c.args.who.now c.args.name.now c.args.bytes.now unbegun;
      own = touches_both c.args.who.now c.args.name.now c.args.bytes.now unbegun;
      unmade = adds_none _ (Every (SparesOld (Err no_memory) c.args.name.now)) (λ history. tt);
      last = script_last (unbegun {qs = []});
      cause = refl;
    })

pub returns : goal.returns
returns g c =
    let script = c.replace_by.ensures.told in
    record {
      told = script;
      old_or_new = replaced c.args.who.now c.args.name.now c.args.bytes.now script;
      own = touches_both c.args.who.now c.args.name.now c.args.bytes.now script;
      unmade = c.replace_by.ensures.unmade;
      last = script_last script;
      cause = c.replace_by.ensures.cause;
    }
