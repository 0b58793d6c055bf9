use Rattle.std.proofs.Common.{ap, ◌∷◌, []}
use Rattle.chk_site.specs.declared.acts.Call.TheVariants.{Read, Size}
use Rattle.chk_site.specs.Site.{asked}
use Rattle.chk_wahead.specs.Telling.{unstarted, no_number, no_mark, no_size, looked}
use Rattle.chk_wahead.proofs.Joining.{refused_by}
use Rattle.chk_wahead.proofs.Starts.{taken_at, found_by}
use Rattle.chk_wahead.proofs.starting.look.Goals as goal

pub returns-in_err-begin-clause-told : goal.returns-in_err-begin-clause-told
returns-in_err-begin-clause-told g c = rw (refused_by c.from_residual.ensures.1) (unstarted c.in_err-begin.ensures.told)

pub returns-in_err-number-clause-told : goal.returns-in_err-number-clause-told
returns-in_err-number-clause-told g c =
    rw (refused_by c.from_residual-in_err-number.ensures.1)
    (no_number c.in_ok-begin.ensures.told (taken_at (ap (λ w. asked c.args.who.now Read (w ∷ []) 0 9) c.requires.next) c.in_err-number.ensures.told))

pub returns-in_err-length-clause-told : goal.returns-in_err-length-clause-told
returns-in_err-length-clause-told g c =
    rw (refused_by c.from_residual-in_err-length.ensures.1)
    (no_mark c.in_ok-begin.ensures.told
    (taken_at (ap (λ w. asked c.args.who.now Read (w ∷ []) 0 9) c.requires.next) c.in_ok-number.ensures.told)
    (taken_at (ap (λ w. asked c.args.who.now Read (w ∷ []) 0 9) c.requires.mark) c.in_err-length.ensures.told))

pub returns-in_err-size-clause-told : goal.returns-in_err-size-clause-told
returns-in_err-size-clause-told g c =
    rw (refused_by c.from_residual-in_err-size.ensures.1)
    (no_size c.in_ok-begin.ensures.told
    (taken_at (ap (λ w. asked c.args.who.now Read (w ∷ []) 0 9) c.requires.next) c.in_ok-number.ensures.told)
    (taken_at (ap (λ w. asked c.args.who.now Read (w ∷ []) 0 9) c.requires.mark) c.in_ok-length.ensures.told)
    (taken_at (ap (λ w. asked c.args.who.now Size (w ∷ []) 0 0) c.requires.buffer) c.in_err-size.ensures.told))

pub returns-clause-told : goal.returns-clause-told
returns-clause-told g c =
    looked c.in_ok-begin.ensures.told
    (taken_at (ap (λ w. asked c.args.who.now Read (w ∷ []) 0 9) c.requires.next) c.in_ok-number.ensures.told)
    (taken_at (ap (λ w. asked c.args.who.now Read (w ∷ []) 0 9) c.requires.mark) c.in_ok-length.ensures.told)
    (taken_at (ap (λ w. asked c.args.who.now Size (w ∷ []) 0 0) c.requires.buffer) c.in_ok-size.ensures.told)
    (found_by c.in_ok-number.number c.in_ok-length.length c.in_ok-size.size c.small_of.ensures c.small_of-2.ensures)
