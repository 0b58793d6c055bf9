use Rattle.chk_site.specs.declared.limits.TheConstants.{PIECE_BYTES}
use Rattle.chk_ctl_audit_log.proofs.Owned.{read_own}
use Rattle.chk_ctl_audit_log.proofs.placing.see_end.Goals as goal

pub returns-in-Ok-clause-own : goal.returns-in-Ok-clause-own
returns-in-Ok-clause-own g c =
    read_own c.args.who.now c.args.path.now _ c.args.size PIECE_BYTES _ c.requires.job
    c.in-Ok.ensures.told

pub returns-in-Err-Short-clause-own : goal.returns-in-Err-Short-clause-own
returns-in-Err-Short-clause-own g c =
    read_own c.args.who.now c.args.path.now _ c.args.size PIECE_BYTES _ c.requires.job
    c.in-Err-Short.ensures.told

pub returns-in-Err-Failed-clause-own : goal.returns-in-Err-Failed-clause-own
returns-in-Err-Failed-clause-own g c =
    read_own c.args.who.now c.args.path.now _ c.args.size PIECE_BYTES _ c.requires.job
    c.in-Err-Failed.ensures.told

pub returns-in-Err-NoMemory-clause-own : goal.returns-in-Err-NoMemory-clause-own
returns-in-Err-NoMemory-clause-own g c =
    read_own c.args.who.now c.args.path.now _ c.args.size PIECE_BYTES _ c.requires.job
    c.in-Err-NoMemory.ensures.told
