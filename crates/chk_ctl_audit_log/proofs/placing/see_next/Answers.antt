use Rattle.std.proofs.Common.{Ok, Err, ap, refl}
use Rattle.chk_site.specs.Site.{answered, piece_given}
use Rattle.chk_site.specs.declared.limits.TheConstants.{LOG_END, PIECE_BYTES}
use Rattle.chk_ctl_audit_log.specs.declared.placing.Next.{Next}
use Rattle.chk_ctl_audit_log.proofs.Owned.{own_then, read_own}
use Rattle.chk_ctl_audit_log.proofs.Placed.{cause_then, read_at}
use Rattle.chk_ctl_audit_log.proofs.placing.see_next.Goals as goal

pub returns-in-Ok : goal.returns-in-Ok
returns-in-Ok g c =
    let given = Ok c.in-Ok.piece in
    record {
      told = record {
        given = given;
        middle = g.S.Site.told c.log_read.new.self;
        far = read_at c.args.who.now c.args.path.now c.args.after LOG_END
            (answered piece_given given) c.in-Ok.ensures.told;
        behind = (refl, ap (λ (n : Next). Ok n) c.beyond.ensures);
      };
      own = read_own c.args.who.now c.args.path.now _ LOG_END PIECE_BYTES _ c.requires.job
          c.in-Ok.ensures.told;
      cause = c.in-Ok.ensures.cause;
    }

pub returns-in-Err-Short : goal.returns-in-Err-Short
returns-in-Err-Short g c =
    let given = Err c.in-Err-Short.field-0 in
    let path = c.args.path.now in
    record {
      told = record {
        given = given;
        middle = g.S.Site.told c.log_read.new.self;
        far = read_at c.args.who.now path c.args.after LOG_END (answered piece_given given)
            c.in-Err-Short.ensures.told;
        behind = rw c.in-Err-Short.field-0-is c.see_end.ensures.told;
      };
      own = own_then path
          (read_own c.args.who.now path _ LOG_END PIECE_BYTES _ c.requires.job
          c.in-Err-Short.ensures.told)
          c.see_end.ensures.own;
      cause = cause_then c.see_end.result (g.S.Site.fault_count c.args.site.now)
          (g.S.Site.fault_count c.log_read.new.self) (g.S.Site.fault_count c.see_end.new.site)
          (rw c.in-Err-Short.field-0-is at c.in-Err-Short.ensures.cause) c.see_end.ensures.cause;
    }

pub returns-in-Err-Failed : goal.returns-in-Err-Failed
returns-in-Err-Failed g c =
    let given = Err c.in-Err-Failed.field-0 in
    record {
      told = record {
        given = given;
        middle = g.S.Site.told c.log_read.new.self;
        far = read_at c.args.who.now c.args.path.now c.args.after LOG_END
            (answered piece_given given) c.in-Err-Failed.ensures.told;
        behind = rw c.in-Err-Failed.field-0-is (refl, refl);
      };
      own = read_own c.args.who.now c.args.path.now _ LOG_END PIECE_BYTES _ c.requires.job
          c.in-Err-Failed.ensures.told;
      cause = rw c.in-Err-Failed.field-0-is at c.in-Err-Failed.ensures.cause;
    }

pub returns-in-Err-NoMemory : goal.returns-in-Err-NoMemory
returns-in-Err-NoMemory g c =
    let given = Err c.in-Err-NoMemory.field-0 in
    record {
      told = record {
        given = given;
        middle = g.S.Site.told c.log_read.new.self;
        far = read_at c.args.who.now c.args.path.now c.args.after LOG_END
            (answered piece_given given) c.in-Err-NoMemory.ensures.told;
        behind = rw c.in-Err-NoMemory.field-0-is (refl, refl);
      };
      own = read_own c.args.who.now c.args.path.now _ LOG_END PIECE_BYTES _ c.requires.job
          c.in-Err-NoMemory.ensures.told;
      cause = rw c.in-Err-NoMemory.field-0-is at c.in-Err-NoMemory.ensures.cause;
    }
