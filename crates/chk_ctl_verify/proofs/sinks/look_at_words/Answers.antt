use Rattle.std.proofs.Common.{List, subst, ℕ}
use Rattle.std.specs.Prelude.{IfOk}
use Rattle.chk_ctl_verify.specs.Files.{OpenSeen}
use Rattle.chk_ctl_verify.proofs.sinks.look_at_words.Goals as goal

pub returns : goal.returns
returns g c =
    let old = g.S.Site.told c.args.site.now in
    let new = g.S.Site.told c.look_at_open.new.site in
    record {
      told = subst (λ (n : List ℕ). IfOk c.look_at_open.result
          (λ found. OpenSeen n c.args.mark.now found old new)) c.as_str-sink.ensures.text
          (subst (λ (n : List ℕ). IfOk c.look_at_open.result
          (λ found. OpenSeen c.as_str-sink.result.now n found old new))
          c.as_str-beside.ensures.text c.look_at_open.ensures.told);
      own = c.look_at_open.ensures.own;
      cause = c.look_at_open.ensures.cause;
    }
